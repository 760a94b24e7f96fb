use Rattle.bidi_base.proofs.Common.{◌++◌, arith, refl}
use Rattle.bidi_controls.proofs.LossyLemmas.{utf8_decoded-nil}
use Rattle.bidi_controls.proofs.FaultLemmas.{utf8_fault-start}
use Rattle.bidi_controls.proofs.FileLinesLemmas.{cut-at, fault-at, break-in_front}
use Rattle.bidi_controls.proofs.file_lines.whole_lines_len.Goals as goal

pub returns-in_default-clause-cut : goal.returns-in_default-clause-cut
returns-in_default-clause-cut c = λ more. rw utf8_decoded-nil refl

pub returns-in-Some-memrchr2-clause-cut : goal.returns-in-Some-memrchr2-clause-cut
returns-in-Some-memrchr2-clause-cut c =
    let bytes = c.args.bytes.now in let at = c.in-Some-memrchr2.at in
    let there = break-in_front bytes c.in-Some.front.now at c.in-Some.field-0-0.now (grind (arith, c.in-Some.ensures.cases)) c.in-Some-memrchr2.ensures in
    λ more. rw c.break_end.ensures.end (cut-at bytes at there.0 there.1 there.2 more)

pub returns-in-None-clause-cut : goal.returns-in-None-clause-cut
returns-in-None-clause-cut c = λ more. rw utf8_decoded-nil refl

pub returns-in_default-clause-fault : goal.returns-in_default-clause-fault
returns-in_default-clause-fault c = λ more. utf8_fault-start (c.args.bytes.now ++ more)

pub returns-in-Some-memrchr2-clause-fault : goal.returns-in-Some-memrchr2-clause-fault
returns-in-Some-memrchr2-clause-fault c =
    let bytes = c.args.bytes.now in let at = c.in-Some-memrchr2.at in
    let there = break-in_front bytes c.in-Some.front.now at c.in-Some.field-0-0.now (grind (arith, c.in-Some.ensures.cases)) c.in-Some-memrchr2.ensures in
    λ more. rw c.break_end.ensures.end (fault-at bytes at there.0 there.1 there.2 more)

pub returns-in-None-clause-fault : goal.returns-in-None-clause-fault
returns-in-None-clause-fault c = λ more. utf8_fault-start (c.args.bytes.now ++ more)
