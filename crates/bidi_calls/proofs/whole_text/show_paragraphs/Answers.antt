use Rattle.bidi_base.proofs.Common.{◌≡◌, ℕ, List, length, refl, arith, subst, text_len}
use Rattle.unicode_bidi.specs.Engine.{found_paragraphs, Follow}
use Rattle.unicode_bidi.proofs.BasedParagraphs.{based-Follow, based-lines}
use Rattle.bidi_calls.proofs.WholeTextLemmas.{found-parts}
use Rattle.bidi_calls.specs.Flags.{mirrored_if}
use Rattle.bidi_calls.proofs.whole_text.show_paragraphs.Goals as goal

pub push_paragraphs-requires : goal.push_paragraphs-requires
push_paragraphs-requires g c =
    let call = c.args.call.now in
    let source = g.D.BidiDataSource.source call.data_source.now in
    let len_of = g.T.TextSource.encoding.len_of in
    let some = g.T.TextSource.encoding.positive in
    let cs : List ℕ = (g.T.TextSource.text c.args.text).chars in
    let ps = found_paragraphs c.analyse_with_base.new.self in
    let are = c.in_ok-analyse_with_base.ensures.analysis.paragraphs in
    λ _. (
      (refl, tt),
      (
        rw c.paragraphs-paragraphs.ensures (based-lines source call.base call.rule len_of some cs c.analyse_with_base.new.classes ps are),
        rw c.paragraphs-paragraphs.ensures (based-Follow source call.base call.rule len_of some cs c.analyse_with_base.new.classes ps are),
      ),
    )

pub reset_paragraphs-requires-clause-follow : goal.reset_paragraphs-requires-clause-follow
reset_paragraphs-requires-clause-follow g c =
    let call = c.args.call.now in
    let source = g.D.BidiDataSource.source call.data_source.now in
    let cs : List ℕ = (g.T.TextSource.text c.args.text).chars in
    let ps = found_paragraphs c.analyse_with_base.new.self in
    let long : text_len g.T.TextSource.encoding.len_of cs ≡ length c.analyse_with_base.new.levels = omega (arith, c.analyse_with_base.auto.levels, c.requires.level_room) in
    rw c.paragraphs-paragraphs.ensures
    (subst (λ (n : ℕ). Follow 0 n ps) long
    (based-Follow source call.base call.rule g.T.TextSource.encoding.len_of g.T.TextSource.encoding.positive cs c.analyse_with_base.new.classes ps c.in_ok-analyse_with_base.ensures.analysis.paragraphs))

pub returns : goal.returns
returns g c =
    let call = c.args.call.now in
    let source = g.D.BidiDataSource.source call.data_source.now in
    let cs : List ℕ = (g.T.TextSource.text c.args.text).chars in
    let ps = found_paragraphs c.analyse_with_base.new.self in
    let analysis = c.in_ok-analyse_with_base.ensures.analysis in
    found-parts source call.base call.rule g.T.TextSource.encoding.len_of cs c.analyse_with_base.new.classes ps analysis.paragraphs call.options (mirrored_if call.mirrors.on) g.T.LineText.encode
    c.analyse_with_base.new.levels c.reset_paragraphs.new.levels c.push_paragraphs.new.out.order.items c.push_paragraphs.new.out.text.items analysis.levels
    (rw c.paragraphs-paragraphs.ensures at c.reset_paragraphs.ensures)
    (rw (c.paragraphs-paragraphs.ensures, c.new-line.ensures.options, c.new.ensures.items) at c.in_ok-push_paragraphs.ensures.order)
    (rw (c.paragraphs-paragraphs.ensures, c.new-line.ensures.options, c.new-2.ensures.items) at c.in_ok-push_paragraphs.ensures.text)
