-- The pass from the front, with what is open as the code keeps it: the innermost last.
use Rattle.bidi_base.proofs.Common.{◌≡◌, ℕ, ◌+◌, ◌-◌, ◌<◌, ◌≤◌, true, false, List, [], ◌∷◌, ◌++◌, length, get_or, take, reverse, Option, Some, None, refl, sym, ap, subst, ◌⊎◌, inl}
use Rattle.bidi_base.proofs.Common.{inr, cases_Bool, reverse-append, class_at, last_or, is_isolate_initiator_at, is_pdi_at, successor, is_first, read_class, waiting_for}
use Rattle.bidi_base.specs.declared.char_data.BidiClass.{BidiClass}
use Rattle.bidi_base.proofs.Lists.{reverse_front, last_or-reverse, reverse_none}
use Rattle.bidi_laws.proofs.RunsLemmas.{BeginsRun}
use Rattle.bidi_laws.proofs.WaitingLemmas.{IsWaiting, IsPass, IsPass-stay, IsPass-initiator, IsPass-pdi, successor-waiting, is_first-no_pdi, is_first-none_open, is_first-not_waiting}

module _ (classes : List BidiClass) (levels : List ℕ) where
  -- the runs up to a came, and what is open was read up to m
  pub record IsAt (a m : ℕ) (out : List (List ℕ)) (waits : List (Option ℕ)) : Type 0 where
    pub stack : List ℕ
    pub pass : IsPass classes levels a m out stack (reverse waits)

  -- one character is read for what is open
  pub IsAt-read : (a m : ℕ) (out : List (List ℕ)) (waits : List (Option ℕ)) (w : Option ℕ) → IsAt a m out waits → (is_isolate_initiator_at classes m ≡ true → IsWaiting classes levels out m w) → IsAt
      a (m + 1) out (read_class (class_at classes m) w waits)
  IsAt-read a m out waits w h wait = elim (cases_Bool (is_isolate_initiator_at classes m)) [
    | inl opens ↦
        rw opens
        (finish (waits ++ w ∷ []) (m ∷ h.stack) (w ∷ reverse waits) (IsPass-initiator classes levels a m out h.stack (reverse waits) w h.pass opens (wait opens)) (sym (reverse-append waits (w ∷ []))))
    | inr other ↦ elim (cases_Bool (is_pdi_at classes m)) [
      | inl closes ↦ rw (other, closes) (popped other closes h.stack (reverse waits) refl h.pass)
      | inr inert ↦ rw (other, inert) (finish waits h.stack (reverse waits) (IsPass-stay classes levels a m out h.stack (reverse waits) h.pass other (inl inert)) refl)
    ]
  ]
    where
      finish : (now : List (Option ℕ)) (st : List ℕ) (r : List (Option ℕ)) → IsPass classes levels a (m + 1) out st r → r ≡ reverse now → IsAt a (m + 1) out now
      finish now st r pass e = record { stack = st; pass = subst (λ (x : List (Option ℕ)). IsPass classes levels a (m + 1) out st x) e pass }

      popped : is_isolate_initiator_at classes m ≡ false → is_pdi_at classes m ≡ true → (st : List ℕ) (r : List (Option ℕ)) → reverse waits ≡ r → IsPass classes levels a m out st r → IsAt a (m + 1)
          out (take (length waits - 1) waits)
      popped other closes [] [] e pass =
          let none : waits ≡ [] = reverse_none waits e in
          finish (take (length waits - 1) waits) [] [] (IsPass-stay classes levels a m out [] [] pass other (inr refl)) (sym (ap (λ (x : List (Option ℕ)). reverse (take (length x - 1) x)) none))
      popped other closes [] (v ∷ vs) e pass = absurd pass.waiting
      popped other closes (i ∷ st) [] e pass = absurd pass.waiting
      popped other closes (i ∷ st) (v ∷ vs) e pass = finish (take (length waits - 1) waits) st vs (IsPass-pdi classes levels a m i out st v vs pass closes) (sym (reverse_front waits v vs e))

  -- a character that begins a level run goes on with the sequence that waits for it, or else begins one
  pub goes_on : (a p : ℕ) (out : List (List ℕ)) (waits : List (Option ℕ)) → IsAt a p out waits → a ≤ p → p < length classes → BeginsRun classes levels p
      → ((waiting_for (class_at classes p) waits ≡ None) × (is_first classes levels p ≡ true))
      ⊎ ((t : ℕ) × (waiting_for (class_at classes p) waits ≡ Some t) × (t < length out) × (successor classes levels (last_or 0 (get_or out t [])) ≡ Some p))
  goes_on a p out waits h from within begins = elim (cases_Bool (is_pdi_at classes p)) [
    | inl closes ↦ by_top closes h.stack (reverse waits) refl h.pass
    | inr other ↦ inl (simp other, is_first-no_pdi classes levels p other begins)
  ]
    where
      by_top : is_pdi_at classes p ≡ true → (st : List ℕ) (r : List (Option ℕ)) → reverse waits ≡ r → IsPass classes levels a p out st r
          → ((waiting_for (class_at classes p) waits ≡ None) × (is_first classes levels p ≡ true))
          ⊎ ((t : ℕ) × (waiting_for (class_at classes p) waits ≡ Some t) × (t < length out) × (successor classes levels (last_or 0 (get_or out t [])) ≡ Some p))
      by_top closes [] [] f pass = inl (simp (closes, reverse_none waits f), is_first-none_open classes levels a p out [] pass begins)
      by_top closes [] (v ∷ vs) f pass = absurd pass.waiting
      by_top closes (i ∷ st) [] f pass = absurd pass.waiting
      by_top closes (i ∷ st) (None ∷ vs) f pass =
          inl (simp (closes, last_or-reverse None waits None vs f), is_first-not_waiting classes levels a p i out st vs pass within closes begins)
      by_top closes (i ∷ st) (Some t ∷ vs) f pass =
          inr (t, simp (closes, last_or-reverse None waits (Some t) vs f), pass.waiting.0.0, successor-waiting classes levels a p i t out st vs pass from within closes begins)
