use Rattle.std.proofs.Common.{arith, ◌∙◌, sym, ap, append-nil, [], ◌++◌}
use Rattle.std.proofs.lemmas.List.{nil_from_length}
use Rattle.bidi_reports.specs.Globs.{matches}
use Rattle.bidi_reports.specs.declared.glob.Part.TheVariants.{Char}
use Rattle.bidi_reports.proofs.GlobLemmas.{part-accepts}
use Rattle.bidi_reports.proofs.glob.take_parts.Goals as goal

pub loop-rest-init : goal.loop-rest-init
loop-rest-init c = ([], sym (append-nil _), c.requires)

pub loop-rest-preserved : goal.loop-rest-preserved
loop-rest-preserved c =
    let inv = c.loop-rest.invariant in
    part-accepts c.args.chars.now c.take_part.new.ends c.args.parts.now c.loop-rest.rest.now inv.0 (Char 0) inv.1 (omega arith) (c.take_part.ensures (matches inv.0) inv.2)

pub returns : goal.returns
returns c =
    let inv = c.loop-rest.invariant in
    rw (inv.1 ∙ ap (λ xs. xs ++ inv.0) (nil_from_length c.loop-rest.rest.now (omega arith))) inv.2
