use Rattle.bidi_base.proofs.Common.{ap, length, subst}
use Rattle.bidi_numbers.specs.Faults.{FaultsAs}
use Rattle.bidi_calls.proofs.PartsLemmas.{found-is}
use Rattle.bidi_calls.specs.DisplayParts.{room_fault, WritesDisplay}
use Rattle.bidi_calls.proofs.display_line.display_text.Goals as goal

pub returns-clause-fault : goal.returns-clause-fault
returns-clause-fault g c =
    let found = found-is g.T.LineText.encode c.args.options c.args.flags c.mirrors_by.result.on g.T.TextSource.encoding.len_of (g.T.TextSource.text c.args.text).chars c.args.line.now
    c.in_ok-displayed.displayed c.in_ok-shown.shown.text.items c.in_ok-shown.shown.order.items (length c.chars.result.now) c.requires.options c.mirrors_by.ensures
    c.in_ok-displayed.ensures.options c.in_ok-displayed.ensures.displays c.in_ok-shown.ensures.text c.in_ok-shown.ensures.order (ap length c.chars.ensures) in
    subst (λ parts. FaultsAs c.write_parts.result (room_fault parts c.args.out.now)) found c.write_parts.ensures.fault

pub returns-clause-writes : goal.returns-clause-writes
returns-clause-writes g c =
    let found = found-is g.T.LineText.encode c.args.options c.args.flags c.mirrors_by.result.on g.T.TextSource.encoding.len_of (g.T.TextSource.text c.args.text).chars c.args.line.now
    c.in_ok-displayed.displayed c.in_ok-shown.shown.text.items c.in_ok-shown.shown.order.items (length c.chars.result.now) c.requires.options c.mirrors_by.ensures
    c.in_ok-displayed.ensures.options c.in_ok-displayed.ensures.displays c.in_ok-shown.ensures.text c.in_ok-shown.ensures.order (ap length c.chars.ensures) in
    subst (λ parts. WritesDisplay parts c.write_parts.result c.args.out.now c.write_parts.new.out) found c.write_parts.ensures.writes
