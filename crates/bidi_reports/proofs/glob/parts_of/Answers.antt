use Rattle.std.proofs.Common.{arith, ◌∙◌, sym}
use Rattle.std.proofs.lemmas.List.{nil_from_length}
use Rattle.bidi_reports.proofs.PartsLemmas.{parts-step, parts-none, parts-end, push-read}
use Rattle.bidi_reports.specs.Globs.{parts_of}
use Rattle.bidi_reports.proofs.glob.parts_of.Goals as goal

pub loop-rest-preserved : goal.loop-rest-preserved
loop-rest-preserved c =
    let within = c.in-Some.ensures.within in
    let step = parts-step c.loop-rest.rest.now c.in-Some.part c.in-Some.len (sym c.first_part.ensures.part ∙ c.in-Some.is) within.0 (omega arith) in
    rw (c.in_ok-push.ensures.items, c.split_at.ensures.back)
    (push-read (parts_of c.args.text.now) c.loop-rest.parts.items c.in-Some.part _ _ c.loop-rest.invariant step)

pub returns-in_default : goal.returns-in_default
returns-in_default c =
    let none = parts-none c.loop-rest.rest.now (sym c.first_part.ensures.part ∙ c.in_default.is) (grind arith) in
    sym (rw none at c.loop-rest.invariant)

pub returns : goal.returns
returns c =
    let empty = nil_from_length c.loop-rest.rest.now (grind arith) in
    sym (rw (empty, parts-end c.loop-rest.parts.items) at c.loop-rest.invariant)
