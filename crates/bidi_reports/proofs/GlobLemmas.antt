-- What the loops of the matcher keep.
use Rattle.std.proofs.Common.{◌≡◌, ℕ, ◌+◌, ◌-◌, ◌≤◌, ◌<◌, ◌&&◌, ◌||◌, Bool, true, false, subst, replicate, take, append_assoc, ◌++◌, List, [], ◌∷◌, length, drop, get_or, arith, add-one, drop-cons, ◌⊎◌, inl, inr, sym, ◌∙◌, ap, suc, zero, refl}
use Rattle.std.proofs.lemmas.Grind.{common_steps}
use Rattle.std.proofs.lemmas.List.{get_or-replicate, length-replicate}
use Rattle.std.proofs.lemmas.List.{take_more}
use Rattle.std.proofs.Math.Seq.{take-length}
use Rattle.std.proofs.Math.Nat.{eq-or-lt_of_le}
use Rattle.bidi_reports.specs.Globs.{Accepts, one_then, many_then}
use Rattle.bidi_reports.specs.declared.glob.Part.{Part}
use Rattle.bidi_reports.specs.Globs.{matches, part_then}

-- a text from an index on begins with the character at the index
drop-next : (chars : List ℕ) (k : ℕ) → k < length chars → drop k chars ≡ get_or chars k 0 ∷ drop (k + 1) chars
drop-next chars k within = rw add-one (drop-cons chars k 0 within)

drop-end : (chars : List ℕ) (k : ℕ) → k ≡ length chars → drop k chars ≡ []
drop-end chars k e = grind (arith, common_steps)

module _ (test : ℕ → Bool) (rest : List ℕ → Bool) (chars : List ℕ) (old new : List Bool) (before : Accepts rest chars old) (len : length new ≡ length old) where
  module _ (changed : (k : ℕ) → k < length chars → get_or new k false ≡ (test (get_or chars k 0) && get_or old (k + 1) false))
      (last : get_or new (length chars) false ≡ false) where
    one-at : (k : ℕ) → k ≤ length chars → (k ≡ length chars) ⊎ (k < length chars) → get_or new k false ≡ one_then test rest (drop k chars)
    one-at k within (inr below) = rw (drop-next chars k below, changed k below, before.each (k + 1) (omega arith)) refl
    one-at k within (inl e) = rw (drop-end chars k e, e, last) refl

    pub one-accepts : Accepts (one_then test rest) chars new
    one-accepts = record {
      same_len = len ∙ before.same_len;
      each = λ k within. one-at k within (eq-or-lt_of_le within);
    }

  module _ (changed : (k : ℕ) → k < length chars → get_or new k false ≡ (get_or old k false || (test (get_or chars k 0) && get_or new (k + 1) false)))
      (last : get_or new (length chars) false ≡ get_or old (length chars) false) where
    many-at : (j k : ℕ) → k + j ≡ length chars → get_or new k false ≡ many_then test rest (drop k chars)
    many-at zero k e =
        let at_end : k ≡ length chars = omega arith in
        rw (drop-end chars k at_end, at_end, last, before.each (length chars) (omega arith), drop-end chars (length chars) refl) refl
    many-at (suc j) k e =
        let below : k < length chars = omega arith in
        rw (drop-next chars k below, changed k below, before.each k (omega arith), many-at j (k + 1) (omega arith), drop-next chars k below) refl

    pub many-accepts : Accepts (many_then test rest) chars new
    many-accepts = record {
      same_len = len ∙ before.same_len;
      each = λ k within. many-at (length chars - k) k (omega arith);
    }

-- before all parts only the end of a text is accepted
end-at : (chars : List ℕ) (k : ℕ) → (k ≡ length chars) ⊎ (k < length chars) → get_or (replicate (length chars) false ++ true ∷ []) k false ≡ matches [] (drop k chars)
unfolding matches
end-at chars k (inl e) = grind (arith, common_steps, length-replicate {A = Bool})
end-at chars k (inr below) = grind (arith, common_steps, get_or-replicate {A = Bool}, length-replicate {A = Bool})

pub end-accepts : (chars : List ℕ) (ends : List Bool) → ends ≡ replicate (length chars) false ++ true ∷ [] → Accepts (matches []) chars ends
end-accepts chars ends e = subst (λ ends. Accepts (matches []) chars ends) (sym e) (record {
  same_len = grind (arith, common_steps, length-replicate {A = Bool});
  each = λ k within. end-at chars k (eq-or-lt_of_le within);
})

-- one part more, the last of those that are left
module _ (chars : List ℕ) (ends : List Bool) (all rest done : List Part) where
  last-apart : (d : Part) → 0 < length rest → rest ≡ take (length rest - 1) rest ++ get_or rest (length rest - 1) d ∷ []
  last-apart d some =
      let whole : take (length rest - 1 + 1) rest ≡ rest = grind (arith, common_steps, take-length rest) in
      sym whole ∙ take_more rest (length rest - 1) d (omega arith)

  pub part-accepts : (d : Part) → all ≡ (rest ++ done) → 0 < length rest → Accepts (part_then (get_or rest (length rest - 1) d) (matches done)) chars ends
      → (x : List Part) × (all ≡ (take (length rest - 1) rest ++ x)) × Accepts (matches x) chars ends
  unfolding matches
  part-accepts d e some accepts =
      let apart = last-apart d some in (
        get_or rest (length rest - 1) d ∷ done,
        e ∙ ap (λ xs. xs ++ done) apart ∙ append_assoc (take (length rest - 1) rest) _ _,
        record { same_len = accepts.same_len; each = accepts.each },
      )
