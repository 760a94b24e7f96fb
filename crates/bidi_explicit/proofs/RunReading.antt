-- The characters of a run that open or close an isolate, read one by one.
use Rattle.bidi_base.proofs.Common.{◌≡◌, ℕ, zero, suc, ◌+◌, ◌-◌, ◌<◌, ◌≤◌, Bool, ◌||◌, true, false, cond, eqb, eq-eqb, List, [], ◌∷◌, ◌++◌, length, get_or, take, replicate, Option, Some, None}
use Rattle.bidi_base.proofs.Common.{refl, sym, ap, ◌∙◌, arith, append-nil, append_assoc, is_isolate_initiator, is_pdi, ne_eqb, inl, inr, then_some, cases_eq, cases_lt, fold_push, class_at, IsFirst, passing}
use Rattle.bidi_base.proofs.Common.{read_class, replicate-append-replicate}
use Rattle.bidi_base.proofs.TextUnitIndexes.{is_boundary-unit_index, line_unit_indexes, unit_index-char_index, char_index-unit_index, unit_index-le, unit_index-more, unit_index-mono, length-per_char, get_or-per_unit-unit_index, per_unit-from_is_per_char, IsPerChar-from_is_per_char}
use Rattle.bidi_base.specs.Texts.{Encoding, Text, unit_index, text_len, per_char, is_per_char, is_boundary, char_index, IsLine, IsPerChar}
use Rattle.bidi_base.specs.declared.char_data.BidiClass.{BidiClass}
use Rattle.bidi_base.specs.declared.char_data.BidiClass.TheVariants.{L}
use Rattle.bidi_base.specs.contracts.char_data.BidiClassPartialEq.TheImpl.{ghosts}
use Rattle.bidi_base.proofs.PlacesLemmas.{range_with_len-more}
use Rattle.bidi_text.proofs.PerCharTests.{class_eq, class_test}
use Rattle.bidi_explicit.specs.Joining.{is_isolate_control, read_range}
use Rattle.bidi_explicit.specs.InText.{read_units}
use Rattle.bidi_explicit.proofs.OpenIsolates.{take-pushed}
use Rattle.bidi_explicit.proofs.PassOverText.{alike_class}

-- one character more
read_range-more : (classes : List BidiClass) (last s a m : ℕ) (waits : List (Option ℕ)) → a ≤ m
    → read_range classes last s a (m + 1) waits ≡ read_class (class_at classes m) (cond (eqb (m + 1) last) (Some s) None) (read_range classes last s a m waits)
read_range-more classes last s a m waits order = grind (arith, range_with_len-more, fold_push)

-- a class that neither opens nor closes changes nothing
read_class-plain : (c : BidiClass) (wait : Option ℕ) (waits : List (Option ℕ)) → is_isolate_control c ≡ false → read_class c wait waits ≡ waits
read_class-plain c wait waits h = grind arith

-- what each control does where so many are open for which nothing waits
left-of : (a b : Bool) → a || b ≡ true → b ≡ false → a ≡ true
left-of true b either other = refl
left-of false b either other = cc

read-opened : (c : BidiClass) (waits : List (Option ℕ)) (n : ℕ) → is_isolate_control c ≡ true → is_pdi c ≡ false → waits ++ replicate (n + 1) None ≡ read_class c None (waits ++ replicate n None)
read-opened c waits n control pdi =
    grind (arith, left-of (is_isolate_initiator c) (is_pdi c) control pdi, append_assoc, replicate-append-replicate {A = Option ℕ} n 1 None)

read-waits : (c : BidiClass) (s : ℕ) (waits more now : List (Option ℕ)) (n : ℕ) → is_isolate_control c ≡ true → is_pdi c ≡ false → more ≡ waits ++ replicate n None → now ≡ more ++ Some s ∷ []
    → now ++ replicate 0 None ≡ read_class c (Some s) (waits ++ replicate n None)
read-waits c s waits more now n control pdi all is = grind (arith, left-of (is_isolate_initiator c) (is_pdi c) control pdi, append-nil)

pdi-apart : (c : BidiClass) → is_pdi c ≡ true → is_isolate_initiator c ≡ false
pdi-apart c e = grind arith

read-closed_one : (c : BidiClass) (wait : Option ℕ) (waits : List (Option ℕ)) (k : ℕ) → is_pdi c ≡ true → waits ++ replicate k None ≡ read_class c wait (waits ++ replicate (k + 1) None)
read-closed_one c wait waits k pdi =
    grind (arith, pdi-apart c, take-pushed (waits ++ replicate k None) None, append_assoc, replicate-append-replicate {A = Option ℕ} k 1 None)

read-closed_own : (c : BidiClass) (wait : Option ℕ) (waits : List (Option ℕ)) (n : ℕ) → is_pdi c ≡ true → 0 < n → waits ++ replicate (n - 1) None ≡ read_class c wait (waits ++ replicate n None)
read-closed_own c wait waits n pdi some =
    let one : n - 1 + 1 ≡ n = omega arith in
    grind (arith, read-closed_one c wait waits (n - 1) pdi)

read-closed : (c : BidiClass) (wait : Option ℕ) (waits now : List (Option ℕ)) (n : ℕ) → is_pdi c ≡ true → n ≡ 0 → now ≡ take (length waits - 1) waits
    → now ++ replicate n None ≡ read_class c wait (waits ++ replicate n None)
read-closed c wait waits now n pdi none is = grind (arith, pdi-apart c, append-nil)

-- the characters of a run before the one with an index are read, which stands at a unit
pub record IsReadTo {encoding : Encoding} (text : Text encoding) (classes : List BidiClass) (start end last s : ℕ) (old waits : List (Option ℕ)) (at : ℕ) : Type 0 where
  pub index : ℕ
  pub there : at ≡ unit_index text index
  pub low : char_index text start ≤ index
  pub high : index ≤ char_index text end
  pub is : waits ≡ read_range (per_char L text classes) (char_index text last) s (char_index text start) index old

-- the same, where so many of the open isolates are counted, for which nothing waits
pub record IsCountedTo {encoding : Encoding} (text : Text encoding) (classes : List BidiClass) (start end last s : ℕ) (old waits : List (Option ℕ)) (n at : ℕ) : Type 0 where
  pub read : IsReadTo text classes start end last s old (waits ++ replicate n None) at
  pub few : n ≤ at

module _ {encoding : Encoding} (text : Text encoding) (classes : List BidiClass) (whole : is_per_char ghosts.eq text classes ≡ true)
    (start end last s : ℕ) (line : IsLine text start end) (boundary : is_boundary text last ≡ true) where
  abbrev first : ℕ
  first = char_index text start

  abbrev final : ℕ
  final = char_index text end

  abbrev stored : List BidiClass
  stored = per_char L text classes

  abbrev ReadTo : List (Option ℕ) → List (Option ℕ) → ℕ → Type 0
  ReadTo old waits at = IsReadTo text classes start end last s old waits at

  abbrev read_to : ℕ → List (Option ℕ) → List (Option ℕ)
  read_to m old = read_range stored (char_index text last) s first m old

  per : IsPerChar text classes
  per = IsPerChar-from_is_per_char text class_eq class_test classes whole

  pub IsReadTo-start : (old : List (Option ℕ)) → ReadTo old old start
  IsReadTo-start old = grind (arith, line_unit_indexes)

  stored_class : (m : ℕ) → m < length text.chars → class_at classes (unit_index text m) ≡ class_at stored m
  stored_class m fits =
      grind (
        arith,
        per_unit-from_is_per_char text ghosts.eq class_test L classes whole,
        get_or-per_unit-unit_index text stored m L,
        length-per_char text L classes,
      )

  -- up to the next control
  jump : (n m next : ℕ) (old waits : List (Option ℕ)) → m + n ≡ final → first ≤ m → waits ≡ read_to m old → IsFirst (passing is_isolate_control classes) (unit_index text m) end next → ReadTo old waits next
  jump zero m next old waits count low is f = grind (arith, line_unit_indexes)
  jump (suc k) m next old waits count low is f =
      let w = line_unit_indexes text start end line in
      let fits : m < length text.chars = omega (arith, w.within) in
      let more = unit_index-more text m 0 fits in
      let some = encoding.positive (get_or text.chars m 0) in
      let upto : unit_index text (m + 1) ≤ end = omega (arith, w.ends, unit_index-mono text (m + 1) final (omega arith)) in
      grind (
        arith,
        cases_lt next (unit_index text (m + 1)),
        alike_class encoding.len_of encoding.positive text.chars classes per m next fits f.begins,
        f.before (unit_index text m),
        jump k (m + 1) next old waits,
        stored_class m fits,
        read_range-more stored (char_index text last) s first m old low,
        read_class-plain (class_at stored m),
      )

  pub IsReadTo-jump : (at next : ℕ) (old waits : List (Option ℕ)) → ReadTo old waits at → IsFirst (passing is_isolate_control classes) at end next → ReadTo old waits next
  IsReadTo-jump at next old waits r f = grind (arith, jump (final - r.index) r.index next old waits)

  -- what the code asks of the character at hand
  pub record IsTested (at : ℕ) : Type 0 where
    pub begins : is_boundary text at ≡ true
    pub inside : at < text_len text

  pub IsReadTo-tested : (old waits : List (Option ℕ)) (at : ℕ) → at < end → ReadTo old waits at → IsTested at
  IsReadTo-tested old waits at below r = grind (arith, line_unit_indexes, is_boundary-unit_index, unit_index-le)

  -- one character
  pub IsReadTo-more : (old waits now : List (Option ℕ)) (at behind : ℕ) (wait : Option ℕ) → at < end → ((k : ℕ) → k < length text.chars → at ≡ unit_index text k → behind ≡ unit_index text (k + 1))
      → wait ≡ then_some (eqb behind last) s → now ≡ read_class (class_at classes at) wait waits → ReadTo old waits at → ReadTo old now behind
  IsReadTo-more old waits now at behind wait below ends wait_as read r =
      let w = line_unit_indexes text start end line in
      let m = r.index in
      let e = char_index text last in
      let more : m < final = grind arith in
      let fits : m < length text.chars = omega (arith, w.within) in
      let after : behind ≡ unit_index text (m + 1) = ends m fits r.there in
      let same_end : cond (eqb behind last) (Some s) None ≡ cond (eqb (m + 1) e) (Some s) None =
      elim (cases_eq (m + 1) e) [
        | inl same ↦ grind (arith, unit_index-char_index)
        | inr other ↦
            simp (ne_eqb behind last (λ f. other (sym (char_index-unit_index text (m + 1) (omega arith)) ∙ ap (char_index text) (sym after ∙ f))), ne_eqb (m + 1) e other)
      ] in
      record {
        index = m + 1;
        there = after;
        low = let low = r.low in omega arith;
        high = omega arith;
        is = grind (arith, stored_class, read_range-more);
      }

  pub IsReadTo-past : (old waits : List (Option ℕ)) (at behind : ℕ) → at < end
      → ((k : ℕ) → k < length text.chars → at ≡ unit_index text k → behind ≡ unit_index text (k + 1)) → ReadTo old waits at → at < behind
  IsReadTo-past old waits at behind below ends r =
      grind (arith, line_unit_indexes, ends r.index, unit_index-more text r.index 0, encoding.positive (get_or text.chars r.index 0))

  pub IsReadTo-within : (old waits : List (Option ℕ)) (at : ℕ) → ReadTo old waits at → at ≤ end
  IsReadTo-within old waits at r = grind (arith, line_unit_indexes, unit_index-mono) steps 400000

  -- all characters of the run
  pub IsReadTo-end : (old waits : List (Option ℕ)) → ReadTo old waits end → waits ≡ read_units text classes last s start end old
  IsReadTo-end old waits r =
      let same : r.index ≡ final = grind (arith, line_unit_indexes, char_index-unit_index text r.index) in
      r.is ∙ ap (λ m. read_to m old) same

  -- ---- the isolates of the run for which nothing waits are counted

  abbrev CountedTo : List (Option ℕ) → List (Option ℕ) → ℕ → ℕ → Type 0
  CountedTo old waits n at = IsCountedTo text classes start end last s old waits n at

  pub IsCountedTo-start : (old : List (Option ℕ)) → CountedTo old old 0 start
  IsCountedTo-start old = record { read = rw append-nil (IsReadTo-start old); few = omega arith }

  -- one control more, the next from the unit at hand on
  module _ (old waits : List (Option ℕ)) (n at control behind : ℕ) (f : IsFirst (passing is_isolate_control classes) at end control) (other : control ≡ end → ⊥)
      (ends : (k : ℕ) → k < length text.chars → control ≡ unit_index text k → behind ≡ unit_index text (k + 1)) (r : CountedTo old waits n at) where
    abbrev waits_there : List (Option ℕ)
    waits_there = waits ++ replicate n None

    below : control < end
    below = omega (arith, f.ends)

    jumped : ReadTo old waits_there control
    jumped = IsReadTo-jump at control old waits_there r.read f

    past : control < behind
    past = IsReadTo-past old waits_there control behind below ends jumped

    pub counted-smaller : end - behind < end - at
    counted-smaller = omega (arith, f.begins, below, past)

    -- a PDI closes the innermost of those that are counted
    pub counted-closed : is_pdi (class_at classes control) ≡ true → 0 < n → CountedTo old waits (n - 1) behind
    counted-closed pdi some =
        record {
          read = IsReadTo-more old waits_there _ control behind _ below ends refl (read-closed_own (class_at classes control) _ waits n pdi some) jumped;
          few = omega (arith, r.few, f.begins, past);
        }

    -- or one of those before, if there is none
    pub counted-closed_before : (now : List (Option ℕ)) → is_pdi (class_at classes control) ≡ true → n ≡ 0 → now ≡ take (length waits - 1) waits → CountedTo old now n behind
    counted-closed_before now pdi none is =
        record {
          read = IsReadTo-more old waits_there _ control behind _ below ends refl (read-closed (class_at classes control) _ waits now n pdi none is) jumped;
          few = omega (arith, r.few, f.begins, past);
        }

    -- an initiator opens one more
    pub counted-opened : is_pdi (class_at classes control) ≡ false → (behind ≡ last → ⊥) → CountedTo old waits (n + 1) behind
    counted-opened pdi before =
        record {
          read = IsReadTo-more old waits_there _ control behind _ below ends (rw (ne_eqb behind last before) refl) (read-opened (class_at classes control) waits n (f.at below) pdi) jumped;
          few = omega (arith, r.few, f.begins, past);
        }

    -- and the last kept one opens an isolate for which the sequence waits
    pub counted-waits : (more now : List (Option ℕ)) → is_pdi (class_at classes control) ≡ false → behind ≡ last → more ≡ waits_there → now ≡ more ++ Some s ∷ [] → CountedTo old now 0 behind
    counted-waits more now pdi same all is =
        record {
          read = IsReadTo-more old waits_there _ control behind (Some s) below ends (rw (eq-eqb behind last same) refl)
              (read-waits (class_at classes control) s waits more now n (f.at below) pdi all is) jumped;
          few = omega arith;
        }

  -- no control is left
  pub counted-end : (old waits : List (Option ℕ)) (n at control : ℕ) → IsFirst (passing is_isolate_control classes) at end control → control ≡ end → CountedTo old waits n at
      → waits ++ replicate n None ≡ read_units text classes last s start end old
  counted-end old waits n at control f same r =
      IsReadTo-end old (waits ++ replicate n None) (simp same at (IsReadTo-jump at control old (waits ++ replicate n None) r.read f))

  pub counted-all : (old waits : List (Option ℕ)) (n at : ℕ) → end ≤ at → CountedTo old waits n at → waits ++ replicate n None ≡ read_units text classes last s start end old
  counted-all old waits n at over r =
      let all : at ≡ end = omega (arith, IsReadTo-within old (waits ++ replicate n None) at r.read) in
      IsReadTo-end old (waits ++ replicate n None) (simp all at r.read)
