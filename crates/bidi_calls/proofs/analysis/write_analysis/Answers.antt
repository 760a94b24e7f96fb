use Rattle.bidi_base.proofs.Common.{◌∙◌, ℕ, List, length, ap, rules, arith}
use Rattle.unicode_bidi.specs.Engine.{found_paragraphs}
use Rattle.bidi_calls.proofs.FoundText.{structs-found, count-found}
use Rattle.bidi_calls.proofs.analysis.write_analysis.Goals as goal

pub returns-in_err-check_room_or_none-clause-fault : goal.returns-in_err-check_room_or_none-clause-fault
returns-in_err-check_room_or_none-clause-fault g c =
    let call = c.args.call.now in
    let chars : List ℕ = (g.T.TextSource.text call.text).chars in
    let count = ap length c.paragraphs-found.ensures
    ∙ count-found (g.D.BidiDataSource.source call.data_source.now) call.base call.rule g.T.TextSource.encoding.len_of chars c.analyse_with_base.new.classes (found_paragraphs c.analyse_with_base.new.self)
    c.in_ok-analyse_with_base.ensures.analysis.paragraphs in
    rw (← count) (search rules)

pub returns-clause-fault : goal.returns-clause-fault
returns-clause-fault g c =
    let call = c.args.call.now in
    let chars : List ℕ = (g.T.TextSource.text call.text).chars in
    let count = ap length c.paragraphs-found.ensures
    ∙ count-found (g.D.BidiDataSource.source call.data_source.now) call.base call.rule g.T.TextSource.encoding.len_of chars c.analyse_with_base.new.classes (found_paragraphs c.analyse_with_base.new.self)
    c.in_ok-analyse_with_base.ensures.analysis.paragraphs in
    rw (← count) (search rules)

pub put_paragraphs-requires : goal.put_paragraphs-requires
put_paragraphs-requires g c = grind arith

pub returns-clause-writes : goal.returns-clause-writes
returns-clause-writes g c =
    let call = c.args.call.now in
    let chars : List ℕ = (g.T.TextSource.text call.text).chars in
    let source = g.D.BidiDataSource.source call.data_source.now in
    let count = ap length c.paragraphs-found.ensures
    ∙ count-found source call.base call.rule g.T.TextSource.encoding.len_of chars c.analyse_with_base.new.classes (found_paragraphs c.analyse_with_base.new.self)
    c.in_ok-analyse_with_base.ensures.analysis.paragraphs in
    let structs = structs-found source call.base call.rule g.T.TextSource.encoding.len_of chars c.analyse_with_base.new.classes (found_paragraphs c.analyse_with_base.new.self)
    c.in_ok-analyse_with_base.ensures.analysis.paragraphs in
    record {
      unchanged = search rules;
      classes = search (rules, c.in_ok-analyse_with_base.ensures.analysis.paragraphs.classes);
      levels = search (rules, c.in_ok-analyse_with_base.ensures.analysis.levels);
      paragraphs = rw (← structs) (search rules);
      count = count;
      buffers = search rules;
    }
