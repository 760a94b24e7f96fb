-- Flags that say whether a count has risen from 0.
use Rattle.bidi_base.proofs.Common.{◌≡◌, ℕ, ◌+◌, ◌<◌, ◌↔◌, Bool, true, IsTrue, ◌||◌, nat_lt, List, Option, None, Some, Result, Ok, Err, IfSome, sym, ◌∙◌, arith}
use Rattle.std.proofs.lemmas.Bool.{ltb-true, lt-ltb}
use Rattle.std.proofs.lemmas.Bool.Decides.{nat_tests}
use Rattle.bidi_show_run.specs.Ends.{ReadsToEnd}
use Rattle.bidi_show_run.specs.Runs.{LeavesAtEnd}
use Rattle.bidi_show_run.specs.declared.fault.ShowFault.{ShowFault}
use Rattle.bidi_show_run.specs.declared.fault.ShowFault.TheVariants.{Usage, NotUtf8, Memory, Device}

-- the count has risen, if the flag is set
pub risen : (flag : Bool) (count : ℕ) → flag ≡ nat_lt 0 count → IsTrue flag → 0 < count
risen flag count same set = ltb-true 0 count (sym same ∙ set)

-- the flag is set, if the count has risen
pub set_by : (flag : Bool) (count : ℕ) → flag ≡ nat_lt 0 count → 0 < count → flag ≡ true
set_by flag count same more = same ∙ lt-ltb 0 count more

-- what is reported exactly if either count rose is reported exactly if either flag is set
pub reported_by_either : (P : Type 0) (first second : Bool) (one other : ℕ) → first ≡ nat_lt 0 one → second ≡ nat_lt 0 other
    → (P ↔ 0 < one + other) → (P ↔ IsTrue (first || second))
reported_by_either P first second one other same same-2 reported =
    ((λ p. let more : 0 < one + other = reported.0 p in grind (arith, nat_tests)), λ set. reported.1 (grind (arith, nat_tests)))

-- the same for NotUtf8 and the end of the input
pub reported_at_end : (P : Type 0) (Q : List ℕ → Type 0) (known : Option (List ℕ)) (flag : Bool) (count : ℕ) → flag ≡ nat_lt 0 count
    → IfSome known (λ bytes. P ↔ (0 < count) × Q bytes) → IfSome known (λ bytes. P ↔ IsTrue flag × Q bytes)
reported_at_end P Q None flag count same reported = tt
reported_at_end P Q (Some bytes) flag count same reported =
    ((λ p. (set_by flag count same (reported.0 p).0, (reported.0 p).1)), λ both. reported.1 (risen flag count same both.0, both.1))

-- a run that reads to the end, once, leaves its reader there
pub leaves_at_end : {A : Type 0} (reads : Bool) (result : Result A ShowFault) (flag : Bool) (count : ℕ) (left : Option (List ℕ))
    → flag ≡ nat_lt 0 count → ReadsToEnd reads result 0 count left → LeavesAtEnd reads result flag left
leaves_at_end reads (Ok answer) flag count left same to_end =
    λ is. (set_by flag count same (omega (arith, (to_end is).0)), (to_end is).1)
leaves_at_end reads (Err NotUtf8) flag count left same to_end = (to_end.0, set_by flag count same (omega (arith, to_end.1.0)), to_end.1.1)
leaves_at_end reads (Err Usage) flag count left same to_end = grind (arith, nat_tests)
leaves_at_end reads (Err Memory) flag count left same to_end = tt
leaves_at_end reads (Err Device) flag count left same to_end = tt
