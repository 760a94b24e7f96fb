-- Brackets pair alike where their indexes are other numbers that rise with them, as places do.
use Rattle.bidi_base.proofs.Common.{◌≡◌, ℕ, zero, suc, ◌+◌, ◌-◌, ◌<◌, ◌≤◌, Bool, ltb, eqb, List, [], ◌∷◌, ◌++◌, map, length, get_or, slice_get, take, set, Option, Some, None, refl, sym, ap, ◌∙◌}
use Rattle.bidi_base.proofs.Common.{arith, inl, inr, cases_Bool, cases_lt, length-map, map-set, map_push, get_or-map, get_or_default, All-nil, slice_get-get_or, max_open_brackets}
use Rattle.bidi_base.proofs.Common.{counted_brackets, bracket_pairs, pairs_of, brackets_from, found_brackets, ArePairsOf, find_last, AreWithin, IsAt, filter, replicate}
use Rattle.bidi_base.specs.declared.brackets.Bracket.{Bracket}
use Rattle.bidi_base.specs.declared.brackets.Waiting.{Waiting}
use Rattle.bidi_base.specs.declared.char_data.BidiClass.{BidiClass}
use Rattle.bidi_base.specs.declared.char_data.BidiClass.TheVariants.{ON}
use Rattle.bidi_base.specs.declared.data_source.BidiMatchedOpeningBracket.{BidiMatchedOpeningBracket}
use Rattle.bidi_base.proofs.BracketSearch.{AreWithin-opening, AreWithin-pair, IsAt-start, IsAt-opening, IsAt-unmatched, IsAt-pair, IsAt-full, IsAt-end}
use Rattle.bidi_base.proofs.Lists.{cases_Option}
use Rattle.bidi_base.proofs.PlacesLemmas.{find_last-index}

-- brackets whose indexes rise, from `low` on
abbrev AreRising : ℕ → List Bracket → Type 0
AreRising low [] = Unit {0}
AreRising low (b ∷ bs) = (low ≤ b.index) × AreRising (b.index + 1) bs

-- a list that has them at their indexes, and nothing else
abbrev spread : ℕ → List Bracket → List (Option BidiMatchedOpeningBracket)
spread low [] = []
spread low (b ∷ bs) = replicate (b.index - low) None ++ Some (record { opening = b.opening; is_open = b.is_open }) ∷ spread (b.index + 1) bs

past_none : (n low : ℕ) (rest : List (Option BidiMatchedOpeningBracket)) → brackets_from low (replicate n None ++ rest) ≡ brackets_from (low + n) rest
past_none zero low rest = let same : low ≡ low + 0 = omega arith in ap (λ k. brackets_from k rest) same
past_none (suc n) low rest = let same : low + 1 + n ≡ low + suc n = omega arith in past_none n (low + 1) rest ∙ ap (λ k. brackets_from k rest) same

spread-is : (low : ℕ) (bs : List Bracket) → AreRising low bs → brackets_from low (spread low bs) ≡ bs
spread-is low [] h = refl
spread-is low (b ∷ bs) h = grind (arith, spread-is (b.index + 1) bs h.1, past_none)

counted_all : (xs : List (Option BidiMatchedOpeningBracket)) → counted_brackets (map (λ _. ON) xs) xs ≡ xs
counted_all [] = refl
counted_all (x ∷ xs) = ap (λ (ys : List (Option BidiMatchedOpeningBracket)). x ∷ ys) (counted_all xs)

module _ (f : ℕ → ℕ) (rises : (i j : ℕ) → i < j → f i < f j) where
  abbrev pub moved : Bracket → Bracket
  moved b = record { index = f b.index; opening = b.opening; is_open = b.is_open }

  abbrev pub both : ℕ × ℕ → ℕ × ℕ
  both p = (f p.0, f p.1)

  same_order : (i j : ℕ) → ltb (f i) (f j) ≡ ltb i j
  same_order i j = grind arith

  abbrev is_pair : ℕ × ℕ → Bool
  is_pair p = ltb p.0 p.1

  filter_both : (slots : List (ℕ × ℕ)) → filter is_pair (map both slots) ≡ map both (filter is_pair slots)
  filter_both [] = refl
  filter_both (p ∷ slots) = grind (arith, same_order p.0 p.1, filter_both slots)

  module _ (near far : List (Option BidiMatchedOpeningBracket)) where
    alike : (bs : List Bracket) (slots : List (ℕ × ℕ)) (waiting : List Waiting) → AreWithin (length slots) waiting → IsAt near slots waiting bs → IsAt far (map both slots) waiting (map moved bs)
        → pairs_of far ≡ map both (pairs_of near)
    alike [] slots waiting within n m = sym (IsAt-end far (map both slots) waiting m) ∙ filter_both slots ∙ ap (map both) (IsAt-end near slots waiting n)
    alike (b ∷ bs) slots waiting within n m = elim (cases_Bool b.is_open) [
      | inl opens ↦ elim (cases_lt (length waiting) max_open_brackets) [
        | inl room ↦
            let e : Waiting = record { opening = b.opening; pair = length slots } in
            alike bs (slots ++ (b.index, b.index) ∷ []) (waiting ++ e ∷ []) (AreWithin-opening slots (b.index, b.index) waiting e within refl) (IsAt-opening near slots waiting b bs n opens room)
            (simp map_push (simp length-map at (IsAt-opening far (map both slots) waiting (moved b) (map moved bs) m opens room)))
        | inr full ↦
            sym (IsAt-full far (map both slots) waiting (moved b) (map moved bs) m opens full) ∙ filter_both slots ∙ ap (map both) (IsAt-full near slots waiting b bs n opens full)
      ]
      | inr closes ↦
          let q : Waiting → Bool = λ e. eqb e.opening b.opening in
          elim (cases_Option (find_last q waiting)) [
            | inl none ↦ alike bs slots waiting within (IsAt-unmatched near slots waiting b bs n closes none) (IsAt-unmatched far (map both slots) waiting (moved b) (map moved bs) m closes none)
            | inr e ↦
                let at = find_last-index q waiting e.0 e.0 e.1 in
                let k = at.0 in
                let hit : find_last q waiting ≡ slice_get waiting k = e.1 ∙ ap Some (sym at.2) ∙ sym (slice_get-get_or waiting k e.0 at.1) in
                let inside : e.0.pair < length slots = omega (arith, within k e.0 at.1, ap (λ (w : Waiting). w.pair) at.2) in
                let old = get_or slots e.0.pair (0, 0) in
                alike bs (set slots e.0.pair (old.0, b.index)) (take k waiting) (AreWithin-pair slots e.0.pair k (old.0, b.index) waiting within)
                (IsAt-pair near slots waiting b bs k e.0 old n closes at.1 hit at.2 (get_or_default slots e.0.pair (0, 0) old inside))
                (simp map-set (IsAt-pair far (map both slots) waiting (moved b) (map moved bs) k e.0 (both old) m closes at.1 hit at.2 (sym (get_or-map both slots e.0.pair (0, 0) (both old) inside))))
          ]
    ]

    -- brackets moved apart pair alike
    pub pairs_of-moved : brackets_from 0 far ≡ map moved (brackets_from 0 near) → pairs_of far ≡ map both (pairs_of near)
    pairs_of-moved is =
        alike (brackets_from 0 near) [] [] (All-nil (λ (e : Waiting). e.pair < 0)) (IsAt-start near [] [] (brackets_from 0 near) refl refl refl) (IsAt-start far [] [] (map moved (brackets_from 0 near)) refl refl (sym is))

  rising : (low k : ℕ) (xs : List (Option BidiMatchedOpeningBracket)) → low ≤ f k → AreRising low (map moved (brackets_from k xs))
  rising low k [] h = tt
  rising low k (None ∷ xs) h = rising low (k + 1) xs (omega (arith, rises k (k + 1) (omega arith)))
  rising low k (Some b ∷ xs) h = (h, rising (f k + 1) (k + 1) xs (omega (arith, rises k (k + 1) (omega arith))))

  -- what a search over them finds
  pub bracket_pairs-moved : (found : List Bracket) (pairs : List (ℕ × ℕ)) (classes : List BidiClass) (sources : List (Option BidiMatchedOpeningBracket))
      → ArePairsOf found pairs → found ≡ map moved (found_brackets classes sources)
      → pairs ≡ map both (bracket_pairs classes sources)
  unfolding found_brackets bracket_pairs
  bracket_pairs-moved found pairs classes sources search is =
      let near = counted_brackets classes sources in
      let far = spread 0 (map moved (brackets_from 0 near)) in
      let there : brackets_from 0 far ≡ map moved (brackets_from 0 near) = spread-is 0 (map moved (brackets_from 0 near)) (rising 0 0 near (omega arith)) in
      search (map (λ _. ON) far) far (is ∙ sym there ∙ ap (brackets_from 0) (sym (counted_all far))) ∙ ap pairs_of (counted_all far) ∙ pairs_of-moved near far there
