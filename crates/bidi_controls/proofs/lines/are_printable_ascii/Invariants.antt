use Rattle.bidi_base.proofs.Common.{◌≡◌, true, take, All}
use Rattle.bidi_controls.specs.Lines.{is_printable_ascii}
use Rattle.bidi_controls.proofs.lines.are_printable_ascii.Given as goal

abbrev pub invariant-loop-c : goal.invariant-loop-c
invariant-loop-c l = l.are_printable ≡ true → All (λ c. is_printable_ascii c ≡ true) (take l.c-index l.chars)
