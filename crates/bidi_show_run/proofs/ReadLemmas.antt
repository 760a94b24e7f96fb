-- What is reported of bytes that were read to their end.
use Rattle.bidi_base.proofs.Common.{◌≡◌, ℕ, ◌+◌, ◌<◌, ◌↔◌, List, ◌++◌, Option, None, Some, Result, IfSome, IsUtf8, append-nil, ap, ◌∙◌, subst, arith, sym}
use Rattle.std.specs.Result.{IsErrOf}
use Rattle.bidi_show_run.specs.Texts.{ReadsAll}
use Rattle.bidi_show_run.specs.declared.fault.ShowFault.{ShowFault}
use Rattle.bidi_show_run.specs.declared.fault.ShowFault.TheVariants.{NotUtf8}

-- they are all bytes that the input had, if these are known
pub reported_of_all : {A : Type 0} (old new : Option (List ℕ)) (bytes : List ℕ) (result : Result A ShowFault) (before after : ℕ) → ReadsAll old new bytes
    → after ≡ before + 1 → (IsErrOf result NotUtf8 ↔ ¬ (IsUtf8 bytes)) → IfSome old (λ all. IsErrOf result NotUtf8 ↔ (before < after) × ¬ (IsUtf8 all))
reported_of_all None new bytes result before after read ended reported = tt
reported_of_all (Some all) None bytes result before after read ended reported = absurd read.consumed
reported_of_all (Some all) (Some left) bytes result before after read ended reported =
    let same : bytes ≡ all = sym (read.consumed ∙ ap (λ l. bytes ++ l) read.to_end ∙ append-nil bytes) in
    let more : before < after = omega arith in
    subst (λ bs. IsErrOf result NotUtf8 ↔ (before < after) × ¬ (IsUtf8 bs)) same ((λ is. (more, reported.0 is)), λ is. reported.1 is.1)
