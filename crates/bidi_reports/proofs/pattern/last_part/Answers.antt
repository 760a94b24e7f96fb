use Rattle.std.proofs.Common.{arith, refl, sym}
use Rattle.std.proofs.lemmas.List.{nil_from_length}
use Rattle.bidi_reports.specs.Patterns.{has_separator}
use Rattle.bidi_reports.proofs.PatternLemmas.{last-init}
use Rattle.bidi_reports.proofs.pattern.last_part.Goals as goal

pub loop-rest-init : goal.loop-rest-init
loop-rest-init c = last-init c.args.path.now (has_separator c.args.path.now) refl

pub returns : goal.returns
returns c = let empty = nil_from_length c.loop-rest.rest.now (omega arith) in sym (rw empty at c.loop-rest.invariant)
