-- A pass over level runs: what is open waits for its match, and a run goes on with the sequence whose initiator its
-- first character matches.
use Rattle.bidi_base.proofs.Common.{◌≡◌, ◌≢◌, ℕ, zero, suc, ◌+◌, ◌<◌, ◌≤◌, true, false, List, [], ◌∷◌, ◌++◌, length, map, get_or, set, length-append, append-nil, Option, Some, None, refl, subst}
use Rattle.bidi_base.proofs.Common.{arith, ◌⊎◌, eq-eqb, ne_eqb, filter, range_with_len, IsPermutation, false_from_ne_true, get_or_append_left, length-set, last_or, is_isolate_initiator_at, is_pdi_at}
use Rattle.bidi_base.proofs.Common.{matching_pdi, is_kept_at, kept_indexes, next_kept, have_one_level, successor, is_first, sequences, get_or-set_same, get_or-set_other}
use Rattle.bidi_base.specs.declared.char_data.BidiClass.{BidiClass}
use Rattle.bidi_laws.proofs.ReadStack.{Member, IsReadStack, IsReadStack-more, IsReadStack-stay}
use Rattle.bidi_laws.proofs.OpenMatches.{IsReadStack-match, IsReadStack-matched, IsReadStack-no_match}
use Rattle.bidi_laws.proofs.IsolatesLemmas.{initiators_apart, pdis_apart, matching_pdi-is_pdi}
use Rattle.bidi_laws.proofs.PermutationLemmas.{count_of, count_of-cons, count_of-IsPermutation, Ascends, Ascends-push, Ascends-higher, Ascends-filter, Ascends-range}
use Rattle.bidi_laws.proofs.SuccessorLemmas.{have_one_level-from, is_kept-initiator, is_kept-pdi}
use Rattle.bidi_laws.proofs.PassLemmas.{AreSuccessors, IsBegunList, AllBegun, all_of, firsts, firsts-push, firsts-join, AllBegun-push, AllBegun-join}
use Rattle.bidi_laws.proofs.PassLemmas.{kept_below, kept_more, shares-push, shares-join, sequence_of, sequences-from_pass_in_order}
use Rattle.bidi_laws.proofs.RunsLemmas.{BeginsRun, EndsRun, AreRunSteps, IsFront, front_of, successor-at_match, is_first-run}

-- what a list holds its longer lists hold
pub Member-append : (x : ℕ) (xs ys : List ℕ) → Member x xs → Member x (xs ++ ys)
Member-append x [] ys member = absurd member
Member-append x (y ∷ xs) ys z3 = grind (arith, Member-append x xs ys)

pub Member-append_right : (x : ℕ) (xs ys : List ℕ) → Member x ys → Member x (xs ++ ys)
Member-append_right x [] ys member = member
Member-append_right x (y ∷ xs) ys member = grind (arith, Member-append_right x xs ys)

count_of-Member : (x : ℕ) (xs : List ℕ) → Member x xs → 0 < count_of x xs
count_of-Member x [] member = absurd member
count_of-Member x (y ∷ xs) z2 = grind (arith, eq-eqb x y, count_of-cons x y xs, count_of-Member x xs)

Ascends-order : (low high : ℕ) (xs : List ℕ) → Ascends low xs high → low ≤ high
Ascends-order low high [] h = h
Ascends-order low high (x ∷ xs) h = omega (arith, h.0, Ascends-order (x + 1) high xs h.1)

count_of-higher : (x low high : ℕ) (ys : List ℕ) → high ≤ x → Ascends low ys high → count_of x ys ≡ 0
count_of-higher x low high [] after h = refl
count_of-higher x low high (y ∷ ys) after h = grind (arith, ne_eqb, Ascends-order, count_of-cons, count_of-higher x (y + 1) high ys after h.1)

module _ (classes : List BidiClass) (levels : List ℕ) where
  Member-all : (x s : ℕ) (out : List (List ℕ)) → s < length out → Member x (get_or out s []) → Member x (all_of classes levels out)
  Member-all x s [] within member = absurd (omega arith)
  Member-all x s (ys ∷ out) within member = let rest = λ (r : ℕ). Member-all x r out in grind (
    arith,
    Member-append,
    Member-append_right,
    rest,
  )

  -- what came so far is earlier
  earlier : (a x s : ℕ) (out : List (List ℕ)) → IsPermutation (kept_below classes levels a) (all_of classes levels out) → s < length out → Member x (get_or out s []) → a ≤ x → ⊥
  earlier a x s out shared within member after =
      grind (arith, count_of-Member x (all_of classes levels out) (Member-all x s out within member), count_of-higher x 0 a (kept_below classes levels a), Ascends-filter, Ascends-range, count_of-IsPermutation x (kept_below classes levels a))

  -- a character whose successor did not come yet is the last of its sequence
  last_if : (i m p : ℕ) (ps : List ℕ) → AreSuccessors classes levels (p ∷ ps) → Member i (p ∷ ps) → successor classes levels i ≡ Some m → (Member m (p ∷ ps) → ⊥) → last_or p ps ≡ i
  last_if i m p [] follows z5 next none = grind arith
  last_if i m p (q ∷ ps) follows z5 next none = grind (arith, last_if i m q ps follows.1)

  begun_at : (out : List (List ℕ)) (s : ℕ) → AllBegun classes levels out → s < length out → IsBegunList classes levels (get_or out s [])
  begun_at [] s begun within = absurd (omega arith)
  begun_at (xs ∷ out) s begun within = grind (arith, begun_at out)

  -- an open initiator that ended its level run stands in the sequence at s, which waits; one inside its run waits for
  -- nothing
  abbrev pub IsWaiting : List (List ℕ) → ℕ → Option ℕ → Type 0
  IsWaiting out i None = have_one_level levels (next_kept classes i) i ≡ true
  IsWaiting out i (Some s) = (s < length out) × Member i (get_or out s []) × EndsRun classes levels i

  abbrev pub AreWaiting : List (List ℕ) → List ℕ → List (Option ℕ) → Type 0
  AreWaiting out [] [] = Unit {0}
  AreWaiting out [] (w ∷ waits) = ⊥
  AreWaiting out (i ∷ stack) [] = ⊥
  AreWaiting out (i ∷ stack) (w ∷ waits) = IsWaiting out i w × AreWaiting out stack waits

  -- what waits still waits where the sequences are there still, longer perhaps
  abbrev pub IsLonger : List (List ℕ) → List (List ℕ) → Type 0
  IsLonger out more = (length out ≤ length more) × ((s x : ℕ) → s < length out → Member x (get_or out s []) → Member x (get_or more s []))

  pub AreWaiting-longer : (out more : List (List ℕ)) (stack : List ℕ) (waits : List (Option ℕ)) → IsLonger out more → AreWaiting out stack waits → AreWaiting more stack waits
  AreWaiting-longer out more [] waits longer waiting = grind arith
  AreWaiting-longer out more (i ∷ stack) [] longer waiting = waiting
  AreWaiting-longer out more (i ∷ stack) (None ∷ waits) longer waiting = (waiting.0, AreWaiting-longer out more stack waits longer waiting.1)
  AreWaiting-longer out more (i ∷ stack) (Some s ∷ waits) longer waiting =
      grind (arith, AreWaiting-longer out more stack waits longer, longer.0, longer.1 s i)

  -- the state of a pass: the level runs up to a stand in their sequences, and all before m was read for what is open
  pub record IsPass (a m : ℕ) (out : List (List ℕ)) (stack : List ℕ) (waits : List (Option ℕ)) : Type 0 where
    pub begun : AllBegun classes levels out
    pub shares : IsPermutation (kept_below classes levels a) (all_of classes levels out)
    pub in_order : Ascends 0 (firsts classes levels out) a
    pub isolates : IsReadStack (is_isolate_initiator_at classes) (is_pdi_at classes) m stack
    pub waiting : AreWaiting out stack waits

  -- once all was read, these are the sequences
  pub IsPass-end : (para_level m : ℕ) (out : List (List ℕ)) (stack : List ℕ) (waits : List (Option ℕ)) → IsPass (length classes) m out stack waits
      → map (sequence_of classes levels para_level) out ≡ sequences para_level classes levels
  unfolding kept_indexes
  IsPass-end para_level m out stack waits h = grind (arith, sequences-from_pass_in_order)

  -- characters that X9 removes come to no sequence
  pub IsPass-removed : (a n m : ℕ) (out : List (List ℕ)) (stack : List ℕ) (waits : List (Option ℕ)) → IsPass a m out stack waits
      → filter (is_kept_at classes) (range_with_len a n) ≡ [] → IsPass (a + n) m out stack waits
  IsPass-removed a n m out stack waits h none = grind (arith, kept_more, append-nil, Ascends-higher)

  -- reading up to k for what is open
  IsPass-read : (a m k : ℕ) (out : List (List ℕ)) (stack next : List ℕ) (waits waits_next : List (Option ℕ)) → IsPass a m out stack waits
      → IsReadStack (is_isolate_initiator_at classes) (is_pdi_at classes) k next → AreWaiting out next waits_next → IsPass a k out next waits_next
  IsPass-read a m k out stack next waits waits_next h isolates waiting = grind arith

  -- one character: nothing happens, an initiator, a PDI
  pub IsPass-stay : (a m : ℕ) (out : List (List ℕ)) (stack : List ℕ) (waits : List (Option ℕ)) → IsPass a m out stack waits
      → is_isolate_initiator_at classes m ≡ false → (is_pdi_at classes m ≡ false) ⊎ (stack ≡ []) → IsPass a (m + 1) out stack waits
  IsPass-stay a m out stack waits h other still = grind (arith, IsPass-read, IsReadStack-stay)

  -- characters that X9 removes change nothing of what is open
  pub IsPass-skip : (n a m : ℕ) (out : List (List ℕ)) (stack : List ℕ) (waits : List (Option ℕ)) → IsPass a m out stack waits
      → ((k : ℕ) → m ≤ k → k < m + n → is_kept_at classes k ≡ false) → IsPass a (m + n) out stack waits
  IsPass-skip zero a m out stack waits h none = subst (λ (x : ℕ). IsPass a x out stack waits) (omega arith) h
  IsPass-skip (suc n) a m out stack waits h none = grind (arith, IsPass-stay, IsPass-skip n a (m + 1) out stack waits, false_from_ne_true, is_kept-initiator, is_kept-pdi)

  pub IsPass-initiator : (a m : ℕ) (out : List (List ℕ)) (stack : List ℕ) (waits : List (Option ℕ)) (w : Option ℕ) → IsPass a m out stack waits
      → is_isolate_initiator_at classes m ≡ true → IsWaiting out m w → IsPass a (m + 1) out (m ∷ stack) (w ∷ waits)
  IsPass-initiator a m out stack waits w h here wait = IsPass-read a m (m + 1) out stack (m ∷ stack) waits (w ∷ waits) h
      (IsReadStack-more (is_isolate_initiator_at classes) (is_pdi_at classes) m true false stack here (initiators_apart classes m here) (λ e. refl) h.isolates) (wait, h.waiting)

  pub IsPass-pdi : (a m i : ℕ) (out : List (List ℕ)) (stack : List ℕ) (w : Option ℕ) (waits : List (Option ℕ)) → IsPass a m out (i ∷ stack) (w ∷ waits)
      → is_pdi_at classes m ≡ true → IsPass a (m + 1) out stack waits
  IsPass-pdi a m i out stack w waits h here = IsPass-read a m (m + 1) out (i ∷ stack) stack (w ∷ waits) waits h
      (IsReadStack-more (is_isolate_initiator_at classes) (is_pdi_at classes) m false true (i ∷ stack) (pdis_apart classes m here) here (λ e. absurd (cc e)) h.isolates) h.waiting.1

  -- the kept characters from a on, which follow one another, begin a sequence
  pub IsPass-begin : (a n m p : ℕ) (ps : List ℕ) (out : List (List ℕ)) (stack : List ℕ) (waits : List (Option ℕ)) → IsPass a m out stack waits
      → filter (is_kept_at classes) (range_with_len a n) ≡ p ∷ ps → a + n ≤ length classes → AreSuccessors classes levels (p ∷ ps) → is_first classes levels p ≡ true
      → IsPass (a + n) m (out ++ (p ∷ ps) ∷ []) stack waits
  IsPass-begin a n m p ps out stack waits h here fits follows first =
      let front : IsFront classes levels a (a + n) p ps = front_of classes levels a n p ps here in
      grind (
        arith,
        front.kept,
        front.from,
        front.below,
        AllBegun-push classes levels out p ps,
        shares-push classes levels a n out (p ∷ ps),
        firsts-push classes levels out p ps,
        Ascends-higher 0 (p + 1) (a + n),
        Ascends-push 0 p,
        Ascends-higher 0 a p,
        AreWaiting-longer out (out ++ (p ∷ ps) ∷ []) stack waits (grind (arith, length-append, get_or_append_left)),
      )

  -- they go on with the sequence at s
  pub IsPass-join : (a n m p s : ℕ) (ps : List ℕ) (out : List (List ℕ)) (stack : List ℕ) (waits : List (Option ℕ)) → IsPass a m out stack waits
      → filter (is_kept_at classes) (range_with_len a n) ≡ p ∷ ps → AreSuccessors classes levels (p ∷ ps) → s < length out
      → successor classes levels (last_or 0 (get_or out s [])) ≡ Some p → IsPass (a + n) m (set out s (get_or out s [] ++ p ∷ ps)) stack waits
  IsPass-join a n m p s ps out stack waits h here follows within next =
      grind (arith, AllBegun-join, shares-join, firsts-join, Ascends-higher, AreWaiting-longer, length-set, get_or-set_same, Member-append, get_or-set_other)

  -- a run that begins with a PDI goes on with the sequence that waits for it
  pub successor-waiting : (a m i s : ℕ) (out : List (List ℕ)) (stack : List ℕ) (waits : List (Option ℕ)) → IsPass a m out (i ∷ stack) (Some s ∷ waits)
      → a ≤ m → m < length classes → is_pdi_at classes m ≡ true → BeginsRun classes levels m
      → successor classes levels (last_or 0 (get_or out s [])) ≡ Some m
  unfolding matching_pdi
  successor-waiting a m i s out stack waits h after fits here begins =
      let matches = IsReadStack-match (is_isolate_initiator_at classes) (is_pdi_at classes) (initiators_apart classes) (length classes) m i stack h.isolates here fits in
      grind (
        arith,
        matches,
        successor-at_match classes levels i m,
        h.isolates.are_open.0,
        h.waiting,
        last_if i m,
        begun_at out s,
        h.begun,
        earlier a m s out,
      )

  -- any other run begins a sequence
  pub is_first-no_pdi : (m : ℕ) → is_pdi_at classes m ≡ false → BeginsRun classes levels m → is_first classes levels m ≡ true
  is_first-no_pdi m other begins = grind (arith, is_first-run, matching_pdi-is_pdi)

  pub is_first-none_open : (a m : ℕ) (out : List (List ℕ)) (waits : List (Option ℕ)) → IsPass a m out [] waits → BeginsRun classes levels m → is_first classes levels m ≡ true
  unfolding matching_pdi
  is_first-none_open a m out waits h begins = grind (arith, is_first-run, IsReadStack-no_match, initiators_apart)

  pub is_first-not_waiting : (a m i : ℕ) (out : List (List ℕ)) (stack : List ℕ) (waits : List (Option ℕ)) → IsPass a m out (i ∷ stack) (None ∷ waits)
      → m < length classes → is_pdi_at classes m ≡ true → BeginsRun classes levels m → is_first classes levels m ≡ true
  unfolding matching_pdi
  is_first-not_waiting a m i out stack waits h fits here begins =
      is_first-run classes levels m begins (λ j opens matches ends.
      grind (
        arith,
        IsReadStack-matched (is_isolate_initiator_at classes) (is_pdi_at classes) (initiators_apart classes)
            (length classes) m j (i ∷ stack) h.isolates opens matches,
        ends,
        h.waiting.0,
      ))

  -- an initiator that is not the last of its run waits for nothing
  pub inside_run : (x p : ℕ) (ps : List ℕ) → AreRunSteps classes levels (p ∷ ps) → Member x (p ∷ ps) → x ≢ last_or p ps → have_one_level levels (next_kept classes x) x ≡ true
  inside_run x p [] steps z4 other = grind arith
  inside_run x p (q ∷ ps) steps z4 other = grind (arith, have_one_level-from, inside_run x q ps steps.1)
