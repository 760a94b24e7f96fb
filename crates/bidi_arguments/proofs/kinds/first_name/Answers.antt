use Rattle.bidi_base.proofs.Common.{◌≡◌, ◌∙◌, ℕ, ◌==◌, Bool, List, [], ◌∷◌, length, Option, Some, None, refl, sym, ap₂, arith, cases_Bool, inl, inr}
use Rattle.std.proofs.Common.{Bor}
use Rattle.std.specs.List.{position_or_len, slice_split}
use Rattle.std.proofs.lemmas.List.Splits.{slice_split_first}
use Rattle.std.proofs.lemmas.Str.Pattern.{IsSplitOnceResult, split_once_first}
use Rattle.bidi_arguments.specs.Kinds.{names_in}
use Rattle.bidi_arguments.proofs.kinds.first_name.Goals as goal

-- a list without the byte is one part
whole : (test : ℕ → Bool) (bytes : List ℕ) → position_or_len test bytes ≡ length bytes → slice_split test bytes ≡ bytes ∷ []
whole test [] none = refl
whole test (b ∷ bytes) none = elim (cases_Bool (test b)) [
  | inl here ↦ absurd (grind (arith, simp here at none))
  | inr other ↦ let later : position_or_len test bytes ≡ length bytes = grind (arith, simp other at none) in simp (other, whole test bytes later) refl
]

module _ (text : List ℕ) (r : Option (Bor (List ℕ) × Bor (List ℕ))) (split : IsSplitOnceResult 44 text r) where
  parts : (x : Bor (List ℕ) × Bor (List ℕ)) → r ≡ Some x → names_in text ≡ x.0.now ∷ names_in x.1.now
  parts x is =
      let (inside, front, back) = rw is at (split_once_first 44 text r split (omega arith)) in
      slice_split_first (λ b. b == 44) text 0 inside ∙ ap₂ (λ first rest. first ∷ names_in rest) (sym front) (sym back)

  one : r ≡ None → names_in text ≡ text ∷ []
  one is = whole (λ b. b == 44) text (rw is at (split_once_first 44 text r split (omega arith)))

pub returns-in-Some-clause-first : goal.returns-in-Some-clause-first
returns-in-Some-clause-first c = parts c.args.names.now c.split_once.result c.split_once.ensures.cases _ c.in-Some.is

pub returns-in-None-clause-first : goal.returns-in-None-clause-first
returns-in-None-clause-first c = one c.args.names.now c.split_once.result c.split_once.ensures.cases c.in-None.is
