-- The successor of a character in its sequence: the two ways in which there is one, and what both have in common.
use Rattle.bidi_base.proofs.Common.{◌≡◌, ℕ, ◌+◌, ◌-◌, ◌<◌, true, false, List, length, Option, Some, None, refl, ap, ◌∙◌, arith, ◌⊎◌, inl, inr, both_ways, is_kept, is_isolate_initiator}
use Rattle.bidi_base.proofs.Common.{is_pdi, is_isolate_initiator_at, matching_pdi, is_kept_at, next_kept, kept_before, level_at, have_one_level, resumed_at, successor}
use Rattle.bidi_base.specs.declared.char_data.BidiClass.{BidiClass}
use Rattle.bidi_base.proofs.PlacesLemmas.{IsLeast, find-between, find-between-is, IsGreatest, find_last-range_with_len, find_last-range_with_len-None, find-between-is_None}
use Rattle.bidi_laws.proofs.IsolatesLemmas.{matching_pdi-IsLeast, matching_pdi-is_pdi}
use Rattle.bidi_laws.proofs.OpenMatches.{match_of-injective}
use Rattle.bidi_base.proofs.Lists.{cases_Option}

-- the next kept character is the least kept one that is later
pub next_kept-IsLeast : (classes : List BidiClass) (p q : ℕ) → next_kept classes p ≡ Some q → IsLeast (is_kept_at classes) (p + 1) (length classes) q
unfolding next_kept
next_kept-IsLeast classes p q e = find-between (is_kept_at classes) (p + 1) (length classes) q e

pub next_kept-is : (classes : List BidiClass) (p q : ℕ) → IsLeast (is_kept_at classes) (p + 1) (length classes) q → next_kept classes p ≡ Some q
unfolding next_kept
next_kept-is classes p q h = find-between-is (is_kept_at classes) (p + 1) (length classes) q h

pub next_kept-is_None : (classes : List BidiClass) (p : ℕ) → ((k : ℕ) → p < k → k < length classes → is_kept_at classes k ≡ false) → next_kept classes p ≡ None
unfolding next_kept
next_kept-is_None classes p none = grind (arith, find-between-is_None)

-- the kept character before is the greatest kept one that is earlier
pub kept_before-IsGreatest : (classes : List BidiClass) (q p : ℕ) → kept_before classes q ≡ Some p → IsGreatest (is_kept_at classes) 0 q p
unfolding kept_before
kept_before-IsGreatest classes q p e = grind (arith, find_last-range_with_len)

pub kept_before-None : (classes : List BidiClass) (q : ℕ) → kept_before classes q ≡ None → (k : ℕ) → k < q → is_kept_at classes k ≡ false
unfolding kept_before
kept_before-None classes q e k below = find_last-range_with_len-None (is_kept_at classes) 0 (q - 0) e k (omega arith) (omega arith)

pub kept_before-is : (classes : List BidiClass) (q p : ℕ) → IsGreatest (is_kept_at classes) 0 q p → kept_before classes q ≡ Some p
kept_before-is classes q p h = elim (cases_Option (kept_before classes q)) [
  | inl e ↦ absurd (both_ways (is_kept_at classes p) (kept_before-None classes q e p h.below) h.passes)
  | inr r ↦ r.1 ∙ ap Some (grind (arith, kept_before-IsGreatest classes q r.0 r.1))
]

pub kept_before-is_None : (classes : List BidiClass) (q : ℕ) → ((k : ℕ) → k < q → is_kept_at classes k ≡ false) → kept_before classes q ≡ None
kept_before-is_None classes q none = elim (cases_Option (kept_before classes q)) [
  | inl e ↦ e
  | inr r ↦ grind (arith, kept_before-IsGreatest classes q r.0 r.1, none r.0)
]

-- of kept characters, q is the next after p exactly if p is the one before q
pub kept_before-next : (classes : List BidiClass) (p q : ℕ) → is_kept_at classes p ≡ true → next_kept classes p ≡ Some q → kept_before classes q ≡ Some p
kept_before-next classes p q kept e = grind (arith, next_kept-IsLeast classes p q e, kept_before-is classes q p)

pub next_kept-before : (classes : List BidiClass) (p q : ℕ) → is_kept_at classes q ≡ true → q < length classes → kept_before classes q ≡ Some p → next_kept classes p ≡ Some q
next_kept-before classes p q kept within e = grind (arith, kept_before-IsGreatest classes q p e, next_kept-is classes p q)

-- an initiator and a PDI are kept
pub is_kept-pdi : (c : BidiClass) → is_pdi c ≡ true → is_kept c ≡ true
is_kept-pdi c e = grind arith

pub is_kept-initiator : (c : BidiClass) → is_isolate_initiator c ≡ true → is_kept c ≡ true
is_kept-initiator c e = grind arith

-- q follows p in one level run
pub record IsRunStep (classes : List BidiClass) (levels : List ℕ) (p q : ℕ) : Type 0 where
  pub next : next_kept classes p ≡ Some q
  pub level : level_at levels q ≡ level_at levels p

-- p is an initiator at the end of its level run, and its matching PDI q begins one
pub record IsResumed (classes : List BidiClass) (levels : List ℕ) (p q : ℕ) : Type 0 where
  pub opens : is_isolate_initiator_at classes p ≡ true
  pub matches : matching_pdi classes p ≡ Some q
  pub ends : have_one_level levels (next_kept classes p) p ≡ false
  pub begins : have_one_level levels (kept_before classes q) q ≡ false

pub have_one_level-level : (levels : List ℕ) (o : Option ℕ) (p q : ℕ) → have_one_level levels o p ≡ true → o ≡ Some q → level_at levels q ≡ level_at levels p
have_one_level-level levels o p q h e = grind arith

pub have_one_level-from : (levels : List ℕ) (o : Option ℕ) (p q : ℕ) → o ≡ Some q → level_at levels q ≡ level_at levels p → have_one_level levels o p ≡ true
have_one_level-from levels o p q e same = grind arith

pub successor-cases : (classes : List BidiClass) (levels : List ℕ) (p q : ℕ) → successor classes levels p ≡ Some q → IsRunStep classes levels p q ⊎ IsResumed classes levels p q
unfolding successor resumed_at
successor-cases classes levels p q e = grind arith

pub successor-run_step : (classes : List BidiClass) (levels : List ℕ) (p q : ℕ) → IsRunStep classes levels p q → successor classes levels p ≡ Some q
unfolding successor
successor-run_step classes levels p q h = grind arith

pub successor-resumed : (classes : List BidiClass) (levels : List ℕ) (p q : ℕ) → IsResumed classes levels p q → successor classes levels p ≡ Some q
unfolding successor resumed_at
successor-resumed classes levels p q h = rw (h.ends, h.opens, h.matches, h.begins) refl

-- a successor is later, stands in the text, and is kept
pub record IsLaterKept (classes : List BidiClass) (p q : ℕ) : Type 0 where
  pub later : p < q
  pub within : q < length classes
  pub kept : is_kept_at classes q ≡ true

pub successor-IsLaterKept : (classes : List BidiClass) (levels : List ℕ) (p q : ℕ) → successor classes levels p ≡ Some q → IsLaterKept classes p q
successor-IsLaterKept classes levels p q e = elim (successor-cases classes levels p q e) [
  | inl step ↦ grind (arith, next_kept-IsLeast classes p q step.next)
  | inr resumed ↦ grind (arith, matching_pdi-IsLeast classes p q resumed.matches, is_kept-pdi, matching_pdi-is_pdi classes p q resumed.matches)
]

-- a matching PDI has the level of its initiator: so it is where levels are explicit levels
abbrev pub SameLevelAtMatch : List BidiClass → List ℕ → Type 0
SameLevelAtMatch classes levels = (p q : ℕ) → is_isolate_initiator_at classes p ≡ true → matching_pdi classes p ≡ Some q → level_at levels q ≡ level_at levels p

pub successor-level : (classes : List BidiClass) (levels : List ℕ) (p q : ℕ) → SameLevelAtMatch classes levels → successor classes levels p ≡ Some q → level_at levels q ≡ level_at levels p
successor-level classes levels p q same e = grind (arith, successor-cases classes levels p q e)

-- two initiators have no match in common
pub matching_pdi-injective : (classes : List BidiClass) (p r q : ℕ) → is_isolate_initiator_at classes p ≡ true → is_isolate_initiator_at classes r ≡ true
    → matching_pdi classes p ≡ Some q → matching_pdi classes r ≡ Some q → p ≡ r
unfolding matching_pdi
matching_pdi-injective classes p r q opens_p opens_r e f = grind (arith, match_of-injective)

-- no two kept characters have one successor
pub successor-injective : (classes : List BidiClass) (levels : List ℕ) (p r q : ℕ) → is_kept_at classes p ≡ true
    → is_kept_at classes r ≡ true → successor classes levels p ≡ Some q → successor classes levels r ≡ Some q → p ≡ r
successor-injective classes levels p r q kept_p kept_r e f =
    grind (
      arith,
      successor-cases classes levels p q e,
      successor-cases classes levels r q f,
      kept_before-next classes p q,
      kept_before-next classes r q,
      matching_pdi-injective classes p r q,
    )
