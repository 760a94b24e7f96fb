use Rattle.bidi_base.proofs.Common.{◌≡◌, ℕ, true, List, sym, ap, ◌∙◌, arith, length}
use Rattle.bidi_calls.proofs.CallerText.{length-caller, reported-room}
use Rattle.bidi_calls.specs.LineText.{are_entries_per_char}
use Rattle.bidi_calls.proofs.line_text.reorder_line.Goals as goal

pub returns-in_err-check-2-clause-fault : goal.returns-in_err-check-2-clause-fault
returns-in_err-check-2-clause-fault g c =
    let len = g.T.TextSource.encoding.len_of in
    let encode = g.T.LineText.encode in
    let l = c.args.line.now in
    let cs : List ℕ = (g.T.TextSource.text c.in_ok-own.own).chars in
    let units = g.T.LineText.units_of c.in_ok-own.own in
    let text = c.in_ok-own.ensures.text in
    let equal = rw (c.class_numbers.ensures, c.level_numbers.ensures) at c.is_per_char-per_char.ensures in
    let holds : are_entries_per_char len cs l ≡ true = grind arith in
    let count = length-caller len g.T.TextSource.encoding.positive cs l c.in_ok-own.ensures.valid holds c.in_ok-own.ensures.same_len encode units (ap length text.units ∙ sym text.len) g.met.T.CountedText.encoded in
    let reported = rw (text.chars, text.units) at (reported-room len encode cs units l (length c.args.out.now) _ holds count) in
    rw reported (grind arith)
