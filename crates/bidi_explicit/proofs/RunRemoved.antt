-- A paragraph that X9 removes whole, and one in which nothing opens an isolate.
use Rattle.bidi_base.proofs.Common.{◌≡◌, ℕ, ◌+◌, ◌<◌, false, cond, eqb, List, [], ◌∷◌, length, Option, Some, None, refl, arith, is_isolate_initiator}
use Rattle.bidi_base.proofs.Common.{class_at, between, is_isolate_initiator_at, kept_indexes, begins_run, sequences, run_starts, read_class}
use Rattle.std.specs.List.{fold}
use Rattle.bidi_base.specs.declared.char_data.BidiClass.{BidiClass}
use Rattle.bidi_base.proofs.ChainLemmas.{filter_range-none}
use Rattle.bidi_laws.proofs.SuccessorLemmas.{kept_before-is_None}
use Rattle.bidi_laws.proofs.RunsLemmas.{IsLevelRun}
use Rattle.bidi_explicit.specs.Joining.{read_range}
use Rattle.bidi_explicit.proofs.RunCutting.{run_starts-some}
use Rattle.bidi_explicit.proofs.RunJoining.{begins_kept, begins_after}
use Rattle.bidi_explicit.proofs.RunUnits.{NoneKept}

-- a run in which no character is kept is a whole paragraph of removed characters
pub record IsAllRemoved (classes : List BidiClass) (a b : ℕ) : Type 0 where
  pub front : a ≡ 0
  pub back : b ≡ length classes
  pub none : NoneKept classes 0 (length classes)

pub all_removed : (classes : List BidiClass) (levels : List ℕ) (para_level a b : ℕ) → IsLevelRun classes levels a b → NoneKept classes a b → IsAllRemoved classes a b
all_removed classes levels para_level a b range none = grind (arith, begins_kept, kept_before-is_None, begins_after) steps 400000

-- it has no sequence
pub sequences-none : (para_level : ℕ) (classes : List BidiClass) (levels : List ℕ) → NoneKept classes 0 (length classes) → sequences para_level classes levels ≡ []
unfolding sequences kept_indexes
sequences-none para_level classes levels none = grind (arith, filter_range-none)

-- and one level run
pub run_starts-removed : (classes : List BidiClass) (levels : List ℕ) → 0 < length classes → NoneKept classes 0 (length classes) → run_starts classes levels ≡ 0 ∷ []
unfolding begins_run
run_starts-removed classes levels some none = grind (arith, run_starts-some, filter_range-none)

-- where no class opens an isolate nothing ever waits
pub read_range-inert : (classes : List BidiClass) (last s a b : ℕ) → ((m : ℕ) → is_isolate_initiator_at classes m ≡ false) → read_range classes last s a b [] ≡ []
read_range-inert classes last s a b none = inert (between a b)
  where
    one : (c : BidiClass) (w : Option ℕ) → is_isolate_initiator c ≡ false → read_class c w [] ≡ []
    one c w other = grind arith

    inert : (ms : List ℕ) → fold (λ ws m. read_class (class_at classes m) (cond (eqb (m + 1) last) (Some s) None) ws) [] ms ≡ []
    inert [] = refl
    inert (m ∷ ms) = simp (one (class_at classes m) (cond (eqb (m + 1) last) (Some s) None) (none m)) (inert ms)
