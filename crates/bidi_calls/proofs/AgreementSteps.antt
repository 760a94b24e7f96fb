-- Code units that agree with the ones before them in class and level, and one unit more.
use Rattle.bidi_base.proofs.Common.{◌≡◌, ℕ, ◌+◌, ◌≤◌, Bool, ◌&&◌, ◌↔◌, inl, inr, IsTrue, List, arith, cases_lt, and_parts, and_from, sym, subst}
use Rattle.bidi_calls.specs.PerChar.{AgreesAt, AgreeBetween}

pub agree_more : (on : ℕ → Bool) (cs ls : List ℕ) (a at : ℕ) (e b g : Bool) → a ≤ at → g ≡ on at → (IsTrue e ↔ AgreeBetween on cs ls a at) → (IsTrue b ↔ AgreesAt g cs ls at)
    → IsTrue (e && b) ↔ AgreeBetween on cs ls a (at + 1)
agree_more on cs ls a at e b g le same before here = (
  (λ both k from to. elim (cases_lt k at) [
    | inl early ↦ before.0 (and_parts e b both).0 k from early
    | inr late ↦
        let is : at ≡ k = omega arith in
        subst (λ i. AgreesAt (on i) cs ls i) is (subst (λ t. AgreesAt t cs ls at) same (here.0 (and_parts e b both).1))
  ]),
  (λ agree. and_from _ _ (before.1 (λ k from to. agree k from (omega arith))) (here.1 (subst (λ t. AgreesAt t cs ls at) (sym same) (agree at le (omega arith))))),
)
