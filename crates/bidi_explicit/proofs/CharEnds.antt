-- The character that begins at a boundary, and where it ends.
use Rattle.bidi_base.proofs.Common.{◌≡◌, ℕ, ◌+◌, ◌<◌, ◌≤◌, true, List, length, get_or, Some, sym, ap, ◌∙◌, arith, common_steps}
use Rattle.bidi_base.proofs.Common.{class_at}
use Rattle.bidi_base.proofs.TextUnitIndexes.{char_at-unit_index, char_index-unit_index, is_boundary-unit_index, unit_index-char_index, unit_index-end, unit_index-le-back, unit_index-mono, unit_index-more, unit_index-more-le, unit_index-zero, IsPerChar-from_is_per_char}
use Rattle.bidi_base.specs.Texts.{Encoding, Text, char_at, char_index, is_boundary, unit_index, text_len, is_per_char}
use Rattle.bidi_base.specs.declared.char_data.BidiClass.{BidiClass}
use Rattle.bidi_text.proofs.PerCharTests.{class_eq, class_test}
use Rattle.bidi_explicit.proofs.PassOverText.{alike_class}

module _ {encoding : Encoding} (text : Text encoding) where
  -- a character begins at each boundary before the end
  pub record Begins (u : ℕ) : Type 0 where
    pub index : ℕ
    pub within : index < length text.chars
    pub there : u ≡ unit_index text index

  pub begins_at : (u : ℕ) → is_boundary text u ≡ true → u < text_len text → Begins u
  begins_at u e inside = grind (arith, unit_index-char_index, unit_index-end)

  -- what a text says of it
  pub length-at : (u c l k : ℕ) → char_at text u ≡ Some (c, l) → k < length text.chars → u ≡ unit_index text k → l ≡ encoding.len_of (get_or text.chars k 0)
  length-at u c l k e within there = grind (arith, char_at-unit_index)

  pub end-at : (u c l k : ℕ) → char_at text u ≡ Some (c, l) → k < length text.chars → u ≡ unit_index text k → u + l ≡ unit_index text (k + 1)
  end-at u c l k e within there = omega (arith, there, length-at u c l k e within there, unit_index-more text k 0 within)

  pub end-within : (u c l : ℕ) → char_at text u ≡ Some (c, l) → is_boundary text u ≡ true → u < text_len text → u + l ≤ text_len text
  end-within u c l e boundary inside =
      grind (arith, begins_at u boundary inside, length-at u c l, unit_index-more-le)

  -- the last unit, if a character begins there, is one by itself
  pub end-last : (u k : ℕ) → u + 1 ≡ text_len text → k < length text.chars → u ≡ unit_index text k → u + 1 ≡ unit_index text (k + 1)
  end-last u k last within there = omega (arith, last, there, encoding.positive (get_or text.chars k 0), unit_index-more text k 0 within, unit_index-more-le text k 0 within)

  pub index-zero : char_index text 0 ≡ 0
  index-zero = ap (char_index text) (sym (unit_index-zero text)) ∙ char_index-unit_index text 0 (omega arith)

  -- boundaries in order have indexes in order
  pub index-le : (u v : ℕ) → is_boundary text u ≡ true → is_boundary text v ≡ true → u ≤ v → char_index text u ≤ char_index text v
  index-le u v first last order = grind (arith, common_steps, unit_index-le-back, unit_index-char_index)

  pub index-lt : (u v : ℕ) → is_boundary text u ≡ true → is_boundary text v ≡ true → u < v → char_index text u < char_index text v
  index-lt u v first last order = grind (arith, unit_index-char_index, unit_index-mono)

  -- one character more on the way to a boundary
  pub record Goes (classes : List BidiClass) (at next to : ℕ) : Type 0 where
    pub some : at < next
    pub within : next ≤ to
    pub begins : is_boundary text next ≡ true
    pub index : char_index text next ≡ char_index text at + 1
    pub same : (u : ℕ) → at ≤ u → u < next → class_at classes u ≡ class_at classes at

  pub goes : (classes : List BidiClass) (at next to : ℕ) → is_per_char class_eq text classes ≡ true
      → is_boundary text at ≡ true → is_boundary text to ≡ true → at < to → to ≤ text_len text
      → ((k : ℕ) → k < length text.chars → at ≡ unit_index text k → next ≡ unit_index text (k + 1)) → Goes classes at next to
  goes classes at next to whole begins ends order inside is =
      let b = begins_at at begins (omega arith) in
      let there : next ≡ unit_index text (b.index + 1) = is b.index b.within b.there in
      record {
        some = omega (arith, b.there, there, unit_index-more text b.index 0 b.within, encoding.positive (get_or text.chars b.index 0));
        within = grind (
          arith,
          b.there,
          unit_index-char_index text to ends,
          λ (k : ℕ). unit_index-mono text k (char_index text to),
          λ (k : ℕ). unit_index-mono text (char_index text to) k,
        );
        begins = cc (there, is_boundary-unit_index text (b.index + 1));
        index = cc (there, b.there, char_index-unit_index text (b.index + 1) (omega (arith, b.within)), char_index-unit_index text b.index (omega (arith, b.within)));
        same = λ u above upto. cc (alike_class encoding.len_of encoding.positive text.chars classes (IsPerChar-from_is_per_char text class_eq class_test classes whole) b.index u b.within (omega (arith, b.there)) (omega (arith, there)), b.there);
      }
