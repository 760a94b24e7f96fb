use Rattle.bidi_base.proofs.Common.{◌∙◌, ℕ, ◌+◌, ◌<◌, List, None, length, get_or, subst, sym, ap, arith, IsLine}
use Rattle.bidi_paragraphs.specs.declared.paragraph_info.ParagraphInfo.{ParagraphInfo}
use Rattle.bidi_paragraphs.specs.ParagraphInfo.{range_of, level_of}
use Rattle.unicode_bidi.specs.Base.{level_in_text, HasLevelBy}
use Rattle.unicode_bidi.specs.Engine.{chars_of}
use Rattle.unicode_bidi.specs.declared.base.Base.TheVariants.{AutoOr}
use Rattle.unicode_bidi.proofs.BaseLemmas.{level_with-decided, level_with-undecided}
use Rattle.unicode_bidi.proofs.ParagraphChanges.{unchanged, AreChanged, AreChanged-set}
use Rattle.unicode_bidi.proofs.base.fall_back.Goals as goal
use Rattle.unicode_bidi.proofs.base.fall_back.Goals.{then-is_undecided, else-is_undecided}

pub is_undecided-requires-clause-line : goal.is_undecided-requires-clause-line
is_undecided-requires-clause-line g c =
    let len = g.T.TextSource.encoding.len_of in
    let cs : List ℕ = (g.T.TextSource.text c.args.text).chars in
    let i = c.loop-paragraph.paragraph-index in
    let p = c.paragraph-item.result in
    let own : ParagraphInfo → ℕ = level_in_text (g.D.BidiDataSource.source c.args.data_source.now) (AutoOr c.args.level) len cs in
    let within : i < length c.loop-paragraph.paragraphs = omega arith in
    let still : i < length c.args.paragraphs.now = omega arith in
    let is = unchanged own c.args.paragraphs.now i c.loop-paragraph.paragraphs c.loop-paragraph.invariant within c.loop-paragraph.auto.paragraphs p in
    subst (λ (q : ParagraphInfo). IsLine len cs q.range.start q.range.end) (sym is) (c.requires.lines i p still)

pub is_undecided-requires-clause-level : goal.is_undecided-requires-clause-level
is_undecided-requires-clause-level g c =
    let source = g.D.BidiDataSource.source c.args.data_source.now in
    let len = g.T.TextSource.encoding.len_of in
    let cs : List ℕ = (g.T.TextSource.text c.args.text).chars in
    let i = c.loop-paragraph.paragraph-index in
    let p = c.paragraph-item.result in
    let own : ParagraphInfo → ℕ = level_in_text (g.D.BidiDataSource.source c.args.data_source.now) (AutoOr c.args.level) len cs in
    let within : i < length c.loop-paragraph.paragraphs = omega arith in
    let still : i < length c.args.paragraphs.now = omega arith in
    let is = unchanged own c.args.paragraphs.now i c.loop-paragraph.paragraphs c.loop-paragraph.invariant within c.loop-paragraph.auto.paragraphs p in
    subst (HasLevelBy source None len cs) (sym is) (c.requires.levels i p still)

pub loop-paragraph-preserved : goal.loop-paragraph-preserved
loop-paragraph-preserved g c =
    let source = g.D.BidiDataSource.source c.args.data_source.now in
    let len = g.T.TextSource.encoding.len_of in
    let cs : List ℕ = (g.T.TextSource.text c.args.text).chars in
    let own : ParagraphInfo → ℕ = level_in_text source (AutoOr c.args.level) len cs in
    let i = c.loop-paragraph.paragraph-index in
    let p = c.paragraph-item.result in
    let h = c.loop-paragraph.invariant in
    let same = c.loop-paragraph.auto.paragraphs in
    let within : i < length c.loop-paragraph.paragraphs = omega arith in
    let still : i < length c.args.paragraphs.now = omega arith in
    let is = unchanged own c.args.paragraphs.now i c.loop-paragraph.paragraphs h within same p in
    let piece : List ℕ = chars_of len cs (get_or c.args.paragraphs.now i p) in
    let test = rw is at c.is_undecided.ensures in
    elim c.if-is_undecided.branch [
      | then-is_undecided w ↦
          subst (AreChanged own c.args.paragraphs.now (i + 1)) (sym w.paragraphs-is)
          (AreChanged-set own c.args.paragraphs.now i c.loop-paragraph.paragraphs h within same p w.from_range.result (w.from_range.ensures.range ∙ w.range.ensures ∙ ap range_of is)
          (w.from_range.ensures.level ∙ sym (level_with-undecided source c.args.level piece (sym test ∙ w.if-is_undecided.true))))
      | else-is_undecided w ↦
          subst (AreChanged own c.args.paragraphs.now (i + 1)) (sym w.paragraphs-is)
          (AreChanged-set own c.args.paragraphs.now i c.loop-paragraph.paragraphs h within same p (get_or c.loop-paragraph.paragraphs i p) (ap range_of is)
          (ap level_of is ∙ c.requires.levels i p still ∙ sym (level_with-decided source c.args.level piece (sym test ∙ w.if-is_undecided.false))))
    ]
