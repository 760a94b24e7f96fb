-- The lines that `show` prints, piece by piece.
use Rattle.bidi_base.proofs.Common.{◌≡◌, ℕ, ◌+◌, ◌-◌, ◌<◌, ◌≤◌, List, [], ◌∷◌, ◌++◌, true, false, length, get_or, take, flat_map}
use Rattle.bidi_base.proofs.Common.{decimal, refl, append_assoc, arith, inl, inr, cases_Bool, common_steps, codes}
use Rattle.bidi_base.proofs.Common.{slice_range, len_utf8, chars, IsUtf8, take_all, take_more, flat_map_more}
use Rattle.bidi_base.proofs.Common.{is_paragraph_separator, ends_with_separator, Source, unit_index, text_len, subrange, per_char, IsLine}
use Rattle.bidi_base.proofs.UnitIndexLemmas.{line_unit_indexes, unit_index-slice_range, IsLine-unit_indexes}
use Rattle.bidi_base.proofs.TextLemmas.{is_boundary-le}
use Rattle.bidi_base.proofs.PerUnit.{length-per_char, get_or-per_char}
use Rattle.bidi_text.proofs.StrLemmas.{has_units, text_len-chars, subrange-from_str}
use Rattle.bidi_laws.proofs.OrderLemmas.{length-slice_range}
use Rattle.bidi_show_run.specs.Printed.{own_end}
use Rattle.bidi_show_run.specs.Texts.{spaced, levels_line, without_separator}

module _ (start cs levels : List ℕ) where
  -- the levels of the first n characters
  abbrev pub levels_so_far : ℕ → List ℕ
  levels_so_far n = (start ++ codes "levels") ++ flat_map spaced (take n (per_char 0 len_utf8 cs levels))

  -- one more
  pub levels_so_far-more : (n at level : ℕ) → n < length cs → at ≡ unit_index len_utf8 cs n → level ≡ get_or levels at 0 → (levels_so_far n ++ codes " ") ++ decimal level ≡ levels_so_far (n + 1)
  levels_so_far-more n at level within here is =
      grind (arith, append_assoc, flat_map_more spaced, take_more (per_char 0 len_utf8 cs levels) n 0, length-per_char, get_or-per_char)

  -- all of them
  pub levels_so_far-end : (n : ℕ) → n ≡ length cs → levels_so_far n ++ codes "\n" ≡ start ++ levels_line (per_char 0 len_utf8 cs levels)
  levels_so_far-end n all = grind (arith, take_all, length-per_char, append_assoc)

-- ---- a paragraph and its separator

ends_with_separator-last : (source : Source) (front : List ℕ) (c : ℕ) → ends_with_separator source (front ++ c ∷ []) ≡ is_paragraph_separator (source.class_of c)
ends_with_separator-last source [] c = refl
ends_with_separator-last source (x ∷ []) c = refl
ends_with_separator-last source (x ∷ y ∷ front) c = ends_with_separator-last source (y ∷ front) c

module _ (source : Source) (front : List ℕ) (c : ℕ) where
  pub without_separator-separator : is_paragraph_separator (source.class_of c) ≡ true → without_separator source (front ++ c ∷ []) ≡ front
  without_separator-separator closes = grind (arith, common_steps, ends_with_separator-last)

  pub without_separator-other : is_paragraph_separator (source.class_of c) ≡ false → without_separator source (front ++ c ∷ []) ≡ front ++ c ∷ []
  without_separator-other closes = rw (ends_with_separator-last source front c, closes)

-- it is a front of the paragraph
pub record IsFront (source : Source) (piece : List ℕ) : Type 0 where
  pub many : ℕ
  pub short : many ≤ length piece
  pub front : without_separator source piece ≡ take many piece

pub without_separator-IsFront : (source : Source) (piece : List ℕ) → IsFront source piece
without_separator-IsFront source piece = elim (cases_Bool (ends_with_separator source piece)) [
  | inl closed ↦ record { many = length piece - 1; short = omega arith; front = simp closed }
  | inr kept ↦ record { many = length piece; short = omega arith; front = simp (kept, take_all (length piece) piece (omega arith)) }
]

-- it cuts no character
pub without_separator-IsLine : (source : Source) (cs : List ℕ) (start end : ℕ) → IsLine len_utf8 cs start end
    → IsLine len_utf8 cs start (start + text_len len_utf8 (without_separator source (subrange len_utf8 cs start end)))
without_separator-IsLine source cs start end line =
    let w = line_unit_indexes len_utf8 has_units cs start end line in
    let f = without_separator-IsFront source (subrange len_utf8 cs start end) in
    grind (arith, w, f, length-slice_range, unit_index-slice_range, IsLine-unit_indexes)

-- the part of a text that is a paragraph without its separator
pub record IsOwnPart (source : Source) (bs own : List ℕ) (start end : ℕ) : Type 0 where
  pub ends : start + length own ≡ own_end source (chars bs) start end
  pub line : IsLine len_utf8 (chars bs) start (start + length own)
  pub within : start + length own ≤ length bs

pub own_part : (source : Source) (bs part own : List ℕ) (start end : ℕ) → IsUtf8 bs → IsUtf8 part → IsUtf8 own → IsLine len_utf8 (chars bs) start end
    → part ≡ slice_range bs start end → chars own ≡ without_separator source (chars part) → IsOwnPart source bs own start end
own_part source bs part own start end u v w line is e =
    grind (arith, text_len-chars, subrange-from_str, without_separator-IsLine source (chars bs) start end line, is_boundary-le len_utf8 (chars bs))
