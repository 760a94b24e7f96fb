use Rattle.bidi_base.proofs.Common.{◌∙◌, ℕ, List, length, length-map, ap, sym, rules}
use Rattle.bidi_base.specs.Classes.{class_number}
use Rattle.unicode_bidi.specs.Engine.{found_paragraphs}
use Rattle.bidi_calls.proofs.FoundText.{structs-found, count-found}
use Rattle.bidi_calls.proofs.paragraph_search.write_search.Goals as goal

pub returns-in_err-check-clause-fault : goal.returns-in_err-check-clause-fault
returns-in_err-check-clause-fault g c =
    let call = c.args.call.now in
    let are = c.in_ok-find_paragraphs.ensures.paragraphs in
    let count = ap length c.paragraphs-found.ensures
    ∙ count-found (g.D.BidiDataSource.source call.data_source.now) call.base call.rule g.T.TextSource.encoding.len_of (g.T.TextSource.text call.text).chars c.find_paragraphs.new.classes
    (found_paragraphs c.find_paragraphs.new.self) are in
    let units = ap length are.classes ∙ sym (length-map _ class_number) in
    rw (← count, ← units) (search rules)

pub returns-clause-fault : goal.returns-clause-fault
returns-clause-fault g c =
    let call = c.args.call.now in
    let are = c.in_ok-find_paragraphs.ensures.paragraphs in
    let count = ap length c.paragraphs-found.ensures
    ∙ count-found (g.D.BidiDataSource.source call.data_source.now) call.base call.rule g.T.TextSource.encoding.len_of (g.T.TextSource.text call.text).chars c.find_paragraphs.new.classes
    (found_paragraphs c.find_paragraphs.new.self) are in
    let units = ap length are.classes ∙ sym (length-map _ class_number) in
    rw (← count, ← units) (search rules)

pub returns-clause-writes : goal.returns-clause-writes
returns-clause-writes g c =
    let call = c.args.call.now in
    let source = g.D.BidiDataSource.source call.data_source.now in
    let chars : List ℕ = (g.T.TextSource.text call.text).chars in
    let are = c.in_ok-find_paragraphs.ensures.paragraphs in
    let count = ap length c.paragraphs-found.ensures
    ∙ count-found source call.base call.rule g.T.TextSource.encoding.len_of chars c.find_paragraphs.new.classes (found_paragraphs c.find_paragraphs.new.self) are in
    let structs = structs-found source call.base call.rule g.T.TextSource.encoding.len_of chars c.find_paragraphs.new.classes (found_paragraphs c.find_paragraphs.new.self) are in
    record {
      unchanged = search rules;
      classes = search (rules, are.classes);
      paragraphs = rw (← structs) (search rules);
      count = count;
      buffers = search rules;
    }
