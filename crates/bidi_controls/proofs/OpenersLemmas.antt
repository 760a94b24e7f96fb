-- Isolates among the openers that are open, by their number.
use Rattle.bidi_base.proofs.Common.{◌≡◌, ℕ, ◌+◌, ◌<◌, true, cond, List, [], ◌∷◌, None, count_by, refl, arith, zero-add, inl, inr, cases_Bool, sum_by-cons, is_some}
use Rattle.bidi_controls.specs.OpenOpeners.{innermost_isolate, outside_isolate}
use Rattle.bidi_controls.specs.declared.openers.Opener.{Opener}

abbrev pub isolates_in : List Opener → ℕ
isolates_in openers = count_by (λ opener. opener.is_isolate) openers

count_more : (o : Opener) (openers : List Opener) → isolates_in (o ∷ openers) ≡ cond o.is_isolate 1 0 + isolates_in openers
count_more o openers = sum_by-cons (λ x. cond x.is_isolate 1 0) o openers

-- if an isolate is open, there is an innermost one, and outside it one fewer
pub record HasIsolate (openers : List Opener) : Type 0 where
  pub some : is_some (innermost_isolate openers) ≡ true
  pub fewer : isolates_in openers ≡ isolates_in (outside_isolate openers) + 1

pub isolates_in-some : (openers : List Opener) → 0 < isolates_in openers → HasIsolate openers
isolates_in-some [] some = absurd (omega arith)
isolates_in-some (o ∷ openers) some = elim (cases_Bool o.is_isolate) [
  | inl isolate ↦ record { some = simp isolate; fewer = rw (count_more o openers) (simp isolate (omega arith)) }
  | inr other ↦
      let later = isolates_in-some openers (simp (other, zero-add) at (rw (count_more o openers) at some)) in
      record { some = simp other later.some; fewer = rw (count_more o openers) (simp other (omega (arith, later.fewer))) }
]

pub isolates_in-none : (openers : List Opener) → isolates_in openers ≡ 0 → innermost_isolate openers ≡ None
isolates_in-none [] none = refl
isolates_in-none (o ∷ openers) none = elim (cases_Bool o.is_isolate) [
  | inl isolate ↦ absurd (omega (arith, (simp isolate at (rw (count_more o openers) at none))))
  | inr other ↦ simp other (isolates_in-none openers (simp (other, zero-add) at (rw (count_more o openers) at none)))
]
