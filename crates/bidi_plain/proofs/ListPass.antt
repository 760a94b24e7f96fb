-- The pass over a list of characters, one by one.
use Rattle.bidi_base.proofs.Common.{rules, ◌≡◌, ℕ, ◌+◌, ◌-◌, ◌<◌, Bool, true, false, eqb, List, [], ◌∷◌, ◌++◌, length, map, get_or, reverse, length-append, le_refl, Option, Some, None, refl, sym}
use Rattle.bidi_base.proofs.Common.{ap, ◌∙◌, arith, inl, inr, eqb-true, IfSome, get_or_push, length-set, class_at, last_or, with_ends, is_kept_at, next_kept, level_at, have_one_level, successor}
use Rattle.bidi_base.proofs.Common.{is_first, sequences, read_class, with_entry, index_of, get_or-set_same}
use Rattle.bidi_base.specs.declared.char_data.BidiClass.{BidiClass}
use Rattle.bidi_base.specs.SequencePass.{wait_of, choice, waits_before, choice_at, ArePlaces}
use Rattle.bidi_laws.proofs.ReadStack.{Member}
use Rattle.bidi_laws.proofs.OpenPass.{IsAt, IsAt-read, goes_on}
use Rattle.bidi_base.proofs.ChainLemmas.{filter_range-none}
use Rattle.bidi_laws.proofs.SuccessorLemmas.{successor-IsLaterKept, have_one_level-from, successor-run_step, next_kept-is, kept_before-is, kept_before-is_None}
use Rattle.bidi_laws.proofs.PassLemmas.{AreSuccessors, IsBegunList, AllBegun}
use Rattle.bidi_laws.proofs.RunsLemmas.{BeginsRun}
use Rattle.bidi_base.proofs.Lists.{last_or-append}
use Rattle.bidi_laws.proofs.WaitingLemmas.{IsPass-end, IsPass-removed, is_first-none_open, Member-append_right, IsWaiting, IsPass, IsPass-begin, IsPass-join, IsPass-skip}

module _ (classes : List BidiClass) (levels : List ℕ) where
  -- all before p came, l was the last of them that X9 keeps, and came to the sequence at s; what is open was read up to
  -- l
  pub record IsGoing (p : ℕ) (out : List (List ℕ)) (waits : List (Option ℕ)) (l s : ℕ) : Type 0 where
    pub kept : is_kept_at classes l ≡ true
    pub before : l < p
    pub none : (k : ℕ) → l < k → k < p → is_kept_at classes k ≡ false
    pub within : s < length out
    pub last : last_or 0 (get_or out s []) ≡ l
    pub some : Member l (get_or out s [])
    pub stack : List ℕ
    pub pass : IsPass classes levels p l out stack (reverse waits)

  abbrev pub IsStateAt : ℕ → List (List ℕ) → List (Option ℕ) → Option (ℕ × ℕ) → Type 0
  IsStateAt p out waits None = (out ≡ []) × (waits ≡ []) × ((k : ℕ) → k < p → is_kept_at classes k ≡ false)
  IsStateAt p out waits (Some e) = IsGoing p out waits e.0 e.1

  -- a character that X9 removes
  pub IsStateAt-removed : (p : ℕ) (out : List (List ℕ)) (waits : List (Option ℕ)) (last : Option (ℕ × ℕ)) → IsStateAt p out waits last → is_kept_at classes p ≡ false → IsStateAt (p + 1) out waits last
  IsStateAt-removed p out waits None h gone = (h.0, h.1, λ k below. grind (arith, h.2 k))
  IsStateAt-removed p out waits (Some e) h gone =
      let none : (k : ℕ) → e.0 < k → k < p + 1 → is_kept_at classes k ≡ false = λ k a b. grind (arith, h.none k) in
      search (rules, none, IsPass-removed classes levels p 1 e.0 out h.stack (reverse waits) h.pass (simp gone))

  -- the last one is read
  abbrev IsRead : ℕ → List (List ℕ) → List (Option ℕ) → Type 0
  IsRead p out waits = IsAt classes levels p p out waits

  reading : (p l s : ℕ) (out : List (List ℕ)) (waits : List (Option ℕ)) (w : Option ℕ) → IsGoing p out waits l s
      → IsWaiting classes levels out l w → IsRead p out (read_class (class_at classes l) w waits)
  reading p l s out waits w h wait =
      let read = IsAt-read classes levels p l out waits w (record { stack = h.stack; pass = h.pass }) (λ opens. wait) in
      grind (arith, IsPass-skip classes levels (p - (l + 1)) p (l + 1) out read.stack, h.none)

  -- a character that goes on with a sequence, or begins one
  came_join : (p s : ℕ) (out : List (List ℕ)) (waits : List (Option ℕ)) → is_kept_at classes p ≡ true → p < length classes
      → IsRead p out waits → s < length out → successor classes levels (last_or 0 (get_or out s [])) ≡ Some p
      → IsGoing (p + 1) (with_entry (Some s) p out) waits p s
  came_join p s out waits kept fits read within next =
      let here = get_or-set_same out s (get_or out s [] ++ p ∷ []) [] within in
      let pass = IsPass-join classes levels p 1 p p s [] out read.stack (reverse waits) read.pass (simp kept) tt within next in
      grind (arith, length-set, last_or-append, Member-append_right)

  came_begin : (p : ℕ) (out : List (List ℕ)) (waits : List (Option ℕ)) → is_kept_at classes p ≡ true → p < length classes
      → IsRead p out waits → is_first classes levels p ≡ true → IsGoing (p + 1) (with_entry None p out) waits p (length out)
  came_begin p out waits kept fits read first =
      let here = get_or_push out (p ∷ []) [] (length out) refl in
      let pass = IsPass-begin classes levels p 1 p p [] out read.stack (reverse waits) read.pass (simp kept) (omega arith) tt first in
      grind (arith, length-append)

  pass_none : (p : ℕ) → ((k : ℕ) → k < p → is_kept_at classes k ≡ false) → IsPass classes levels p p [] [] []
  pass_none p none = grind (arith, filter_range-none)

  -- the first character that X9 keeps
  pub IsStateAt-first : (p : ℕ) → ((k : ℕ) → k < p → is_kept_at classes k ≡ false) → is_kept_at classes p ≡ true → p < length classes → IsGoing (p + 1) (with_entry None p []) [] p 0
  IsStateAt-first p none kept fits =
      let pass = pass_none p none in
      came_begin p [] [] kept fits (record { stack = []; pass = pass }) (is_first-none_open classes levels p p [] [] pass (simp (kept_before-is_None classes p none)))

  next_is : (p l s : ℕ) (out : List (List ℕ)) (waits : List (Option ℕ)) → IsGoing p out waits l s → is_kept_at classes p ≡ true → p < length classes → next_kept classes l ≡ Some p
  next_is p l s out waits h kept fits = grind (arith, next_kept-is classes l p)

  -- any other
  pub record IsNext (p l s : ℕ) (out : List (List ℕ)) (waits : List (Option ℕ)) (same : Bool) : Type 0 where
    pub fits : IfSome (choice same s (class_at classes p) (read_class (class_at classes l) (wait_of same s) waits)) (λ r. r < length out)
    pub state : IsGoing (p + 1) (with_entry (choice same s (class_at classes p) (read_class (class_at classes l) (wait_of same s) waits)) p out) (read_class (class_at classes l) (wait_of same s) waits) p
        (index_of (choice same s (class_at classes p) (read_class (class_at classes l) (wait_of same s) waits)) out)

  pub IsStateAt-next : (p l s : ℕ) (out : List (List ℕ)) (waits : List (Option ℕ)) (same : Bool) → IsGoing p out waits l s
      → is_kept_at classes p ≡ true → p < length classes → same ≡ eqb (level_at levels l) (level_at levels p) → IsNext p l s out waits same
  IsStateAt-next p l s out waits true h kept fits e =
      let level : level_at levels p ≡ level_at levels l = sym (eqb-true (level_at levels l) (level_at levels p) (sym e)) in
      let next = next_is p l s out waits h kept fits in
      let read = reading p l s out waits None h (have_one_level-from levels (next_kept classes l) l p next level) in
      grind (arith, came_join p s out (read_class (class_at classes l) None waits), successor-run_step)
  IsStateAt-next p l s out waits false h kept fits e = elim (goes_on classes levels p p out now read (le_refl _) fits begins) [
    | inl g ↦ record { fits = simp g.0 tt; state = simp g.0 (came_begin p out now kept fits read g.1) }
    | inr g ↦ record { fits = simp g.1 g.2; state = simp g.1 (came_join p g.0 out now kept fits read g.2 g.3) }
  ]
    where
      now : List (Option ℕ)
      now = read_class (class_at classes l) (Some s) waits

      begins : BeginsRun classes levels p
      begins = ap (λ o. have_one_level levels o p) (kept_before-is classes p l (record { from = omega arith; below = h.before; passes = h.kept; last = h.none })) ∙ sym e

      read : IsRead p out now
      read = reading p l s out waits (Some s) h (h.within, h.some, grind (arith, next_is p l s out waits h kept fits))

  -- p has come to the sequence that it goes on with, or to a new one
  pub record HasCome (p : ℕ) (out : List (List ℕ)) (g : Option ℕ) (now : List (Option ℕ)) : Type 0 where
    pub fits : IfSome g (λ r. r < length out)
    pub state : IsGoing (p + 1) (with_entry g p out) now p (index_of g out)

  came_by : (p : ℕ) (out : List (List ℕ)) (waits : List (Option ℕ)) (last : Option (ℕ × ℕ)) → IsStateAt p out waits last → is_kept_at classes p ≡ true → p < length classes
      → HasCome p out (choice_at classes levels last p (waits_before classes levels last p waits)) (waits_before classes levels last p waits)
  came_by p out waits None h kept fits = simp (h.0, h.1) (record { fits = tt; state = IsStateAt-first p h.2 kept fits })
  came_by p out waits (Some e) h kept fits = grind (arith, IsStateAt-next p e.0 e.1 out waits (eqb (level_at levels e.0) (level_at levels p)) h kept fits)

  pub HasCome-next : (p : ℕ) (out : List (List ℕ)) (waits now : List (Option ℕ)) (last : Option (ℕ × ℕ)) (g : Option ℕ) → IsStateAt p out waits last → is_kept_at classes p ≡ true → p < length classes
      → now ≡ waits_before classes levels last p waits → g ≡ choice_at classes levels last p now → HasCome p out g now
  HasCome-next p out waits now last g h kept fits read found = grind (arith, came_by)

  pub IsStateAt-came : (p : ℕ) (out more : List (List ℕ)) (g : Option ℕ) (now : List (Option ℕ)) (s : ℕ) (last : Option (ℕ × ℕ))
      → HasCome p out g now → more ≡ with_entry g p out → s ≡ index_of g out → last ≡ Some (p, s) → IsStateAt (p + 1) more now last
  IsStateAt-came p out more g now s last came grown index e = grind arith

  -- at the end these are the sequences
  pub IsStateAt-end : (out : List (List ℕ)) (waits : List (Option ℕ)) (last : Option (ℕ × ℕ)) → IsStateAt (length classes) out waits last
      → (para_level : ℕ) → map (with_ends para_level classes levels) out ≡ sequences para_level classes levels
  IsStateAt-end out waits None h para_level = ap (map (with_ends para_level classes levels)) h.0 ∙ IsPass-end classes levels para_level (length classes) [] [] [] (pass_none (length classes) h.2)
  IsStateAt-end out waits (Some e) h para_level = IsPass-end classes levels para_level e.0 out h.stack (reverse waits) h.pass

  begun : (p : ℕ) (out : List (List ℕ)) (waits : List (Option ℕ)) (last : Option (ℕ × ℕ)) → IsStateAt p out waits last → AllBegun classes levels out
  begun p out waits None h = simp h.0 tt
  begun p out waits (Some e) h = h.pass.begun

  last_in_text : (p : ℕ) (ps : List ℕ) → p < length classes → AreSuccessors classes levels (p ∷ ps) → last_or p ps < length classes
  last_in_text p [] within follows = within
  last_in_text p (q ∷ ps) within follows = last_in_text q ps (successor-IsLaterKept classes levels p q follows.0).within follows.1

  begun_places : (xs : List ℕ) → IsBegunList classes levels xs → ArePlaces (length classes) xs
  begun_places xs h = grind (arith, last_in_text)

  places_at : (out : List (List ℕ)) → AllBegun classes levels out → (k : ℕ) → k < length out → ArePlaces (length classes) (get_or out k [])
  places_at [] h k within = absurd (omega arith)
  places_at (xs ∷ out) h k within = grind (arith, begun_places xs, places_at out h.1 (k - 1))

  pub IsStateAt-places : (p : ℕ) (out : List (List ℕ)) (waits : List (Option ℕ)) (last : Option (ℕ × ℕ)) → IsStateAt p out waits last
      → (k : ℕ) → k < length out → ArePlaces (length classes) (get_or out k [])
  IsStateAt-places p out waits last h k within = places_at out (begun p out waits last h) k within
