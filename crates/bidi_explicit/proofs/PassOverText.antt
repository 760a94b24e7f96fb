-- The units of the characters of a text: lines take all of one or none, what is equal within each, and updates of lines.
use Rattle.bidi_base.proofs.Common.{◌≡◌, ℕ, zero, suc, ◌+◌, ◌-◌, ◌<◌, ◌≤◌, ◌||◌, true, false, List, [], ◌∷◌, length, get_or, take, None, refl, sym, ap, ◌∙◌, arith, inl, inr, cases_Bool, cases_lt, both_ways, or_cases}
use Rattle.bidi_base.proofs.Common.{sum_by-cons, ext_get_or, All-head, All-tail, class_at, text_len, unit_index, char_at, IsLine, char_index, per_unit, per_char, is_per_char, IsPerChar, in_runs, AreLines}
use Rattle.bidi_base.specs.declared.char_data.BidiClass.{BidiClass}
use Rattle.bidi_base.specs.declared.char_data.BidiClass.TheVariants.{L, BN}
use Rattle.bidi_base.specs.InPlace.{IsInPlace}
use Rattle.bidi_base.specs.Updated.{IsUpdated}
use Rattle.bidi_text.proofs.PerCharTests.{class_eq, class_test}
use Rattle.bidi_base.proofs.UnitsLemmas.{IsPerChar-from_is_per_char, is_per_char-from_IsPerChar, length-from_IsPerChar}
use Rattle.bidi_base.proofs.UpdatedLemmas.{IsUpdated-passing}
use Rattle.bidi_base.proofs.TextLemmas.{HasUnits, is_boundary-le}
use Rattle.bidi_base.proofs.UnitIndexLemmas.{unit_index-more, unit_index-mono, line_unit_indexes, unit_of}
use Rattle.bidi_base.proofs.PerUnit.{length-per_unit, length-per_char, get_or-per_unit, get_or-per_char}
use Rattle.bidi_explicit.proofs.InRuns.{in_run, in_run-true}

-- classes that are equal within each character
pub IsPerChar-alike : (len_of : ℕ → ℕ) (chars : List ℕ) (new : List BidiClass) → length new ≡ text_len len_of chars
    → ((k : ℕ) → k < length chars → (u : ℕ) → unit_index len_of chars k ≤ u → u < unit_index len_of chars (k + 1) → class_at new u ≡ class_at new (unit_index len_of chars k)) → IsPerChar len_of chars new
IsPerChar-alike len_of chars new long even =
    let values = per_char L len_of chars new in
    let many : length values ≡ length chars = length-per_char L len_of chars new in
    let size : length (per_unit len_of chars values) ≡ text_len len_of chars = length-per_unit len_of chars values many in (
      values,
      many,
      ext_get_or L new (per_unit len_of chars values) (omega arith) (λ u below.
          let w = unit_of len_of chars u (omega arith) in
          grind (
            arith,
            unit_index-more len_of chars w.index 0,
            even w.index,
            get_or-per_unit len_of chars values w.index w.offset 0 L many w.within w.below,
            get_or-per_char L len_of chars new w.index L w.within,
          )),
    )

-- no character begins within another one
pub char_at-inside : (len_of : ℕ → ℕ) → HasUnits len_of → (chars : List ℕ) (k j : ℕ) → k < length chars → 0 < j → j < len_of (get_or chars k 0) → char_at len_of chars (unit_index len_of chars k + j) ≡ None
char_at-inside len_of h [] k j fits some below = absurd (omega arith)
char_at-inside len_of h (c ∷ chars) zero j fits some below = grind arith
char_at-inside len_of h (c ∷ chars) (suc k) j fits some below =
    grind (arith, sum_by-cons len_of c (take k chars), h c, char_at-inside len_of h chars k j)

module _ (len_of : ℕ → ℕ) (h : HasUnits len_of) (chars : List ℕ) where
  -- ---- the units of a character

  -- a line takes all of them or none
  in_run-alike : (r : ℕ × ℕ) → IsLine len_of chars r.0 r.1 → (k u : ℕ) → unit_index len_of chars k ≤ u → u < unit_index len_of chars (k + 1) → in_run r u ≡ in_run r (unit_index len_of chars k)
  in_run-alike r line k u from below =
      let w = line_unit_indexes len_of h chars r.0 r.1 line in
      elim (cases_lt k (char_index len_of chars r.0)) [
        | inl before ↦ grind (arith, unit_index-mono)
        | inr after ↦ grind (
          arith,
          unit_index-mono,
        )
      ]

  pub in_runs-alike : (runs : List (ℕ × ℕ)) → AreLines len_of chars runs → (k u : ℕ) → unit_index len_of chars k ≤ u → u < unit_index len_of chars (k + 1) → in_runs runs u ≡ in_runs runs (unit_index len_of chars k)
  in_runs-alike [] lines k u from below = refl
  in_runs-alike (r ∷ runs) lines k u from below =
      ap (λ b. b || in_runs runs u) (in_run-alike r (All-head (λ (q : ℕ × ℕ). IsLine len_of chars q.0 q.1) r runs lines) k u from below)
      ∙ ap (λ b. in_run r (unit_index len_of chars k) || b) (in_runs-alike runs (All-tail (λ (q : ℕ × ℕ). IsLine len_of chars q.0 q.1) r runs lines) k u from below)

  pub in_runs-within : (runs : List (ℕ × ℕ)) → AreLines len_of chars runs → (u : ℕ) → in_runs runs u ≡ true → u < text_len len_of chars
  in_runs-within [] lines u e = absurd (both_ways false refl e)
  in_runs-within (r ∷ runs) lines u e =
      let P = λ (q : ℕ × ℕ). IsLine len_of chars q.0 q.1 in
      grind (
        arith,
        or_cases (in_run r u) (in_runs runs u) e,
        All-head P r runs lines,
        in_run-true r u,
        is_boundary-le len_of chars r.1,
        in_runs-within runs (All-tail P r runs lines) u,
      )

  -- entries that are equal within each character
  module _ (old : List BidiClass) (per : IsPerChar len_of chars old) where
    pub alike_class : (k u : ℕ) → k < length chars → unit_index len_of chars k ≤ u → u < unit_index len_of chars (k + 1) → class_at old u ≡ class_at old (unit_index len_of chars k)
    alike_class k u fits from below =
        let more = unit_index-more len_of chars k 0 fits in
        let at : u ≡ unit_index len_of chars k + (u - unit_index len_of chars k) = omega arith in
        let first : unit_index len_of chars k ≡ unit_index len_of chars k + 0 = omega arith in
        let value = λ (i : ℕ) (short : i < len_of (get_or chars k 0)). get_or-per_unit len_of chars per.0 k i 0 L per.1 fits short in
        cc (at, first, value (u - unit_index len_of chars k) (omega arith), value 0 (omega (arith, h (get_or chars k 0))), per.2)

-- an update of all code units of some runs, by what keeps BN
pub IsInPlace-updated : (len_of : ℕ → ℕ) (h : HasUnits len_of) (chars : List ℕ) (runs : List (ℕ × ℕ)) → AreLines len_of chars runs → (f : BidiClass → BidiClass) → f L ≡ L → f BN ≡ BN
    → (old new : List BidiClass) → is_per_char class_eq len_of chars old ≡ true → IsUpdated L (in_runs runs) f 0 (length old) old new → IsInPlace len_of chars runs old new
IsInPlace-updated len_of h chars runs lines f past hides old new even w = record {
  removed = λ u gone. elim (cases_Bool (in_runs runs u)) [
    | inl within ↦ changed u within ∙ (ap f gone ∙ hides)
    | inr out ↦ w.failing u out ∙ gone
  ];
  outside = w.failing;
  per_char = is_per_char-from_IsPerChar class_eq class_test len_of chars new (IsPerChar-alike len_of chars new (w.same_len ∙ length-from_IsPerChar len_of chars old per) each);
}
  where
    changed : (u : ℕ) → in_runs runs u ≡ true → class_at new u ≡ f (class_at old u)
    changed = IsUpdated-passing L (in_runs runs) f old new past w

    per : IsPerChar len_of chars old
    per = IsPerChar-from_is_per_char class_eq class_test len_of h chars old even

    each : (k : ℕ) → k < length chars → (u : ℕ) → unit_index len_of chars k ≤ u → u < unit_index len_of chars (k + 1) → class_at new u ≡ class_at new (unit_index len_of chars k)
    each k fits u from below =
        let first = unit_index len_of chars k in
        let alike = in_runs-alike len_of h chars runs lines k u from below in
        let same = alike_class len_of h chars old per k u fits from below in
        elim (cases_Bool (in_runs runs first)) [
          | inl within ↦ changed u (alike ∙ within) ∙ (ap f same ∙ sym (changed first within))
          | inr out ↦ w.failing u (alike ∙ out) ∙ (same ∙ sym (w.failing first out))
        ]
