use Rattle.bidi_base.proofs.Common.{◌≡◌, ◌∙◌, List, [], ◌∷◌, map, ap, sym, arith, paragraph_level}
use Rattle.bidi_laws.proofs.OneParagraph.{para_level-one, whole-IsAnalysis}
use Rattle.bidi_lines.specs.Analysed.{with_lists}
use Rattle.bidi_paragraphs.specs.ParagraphInfo.{level_of, levels_of}
use Rattle.bidi_paragraphs.specs.declared.paragraph_info.ParagraphInfo.{ParagraphInfo}
use Rattle.unicode_bidi.specs.Engine.{found_paragraphs}
use Rattle.unicode_bidi.proofs.ParagraphUnits.{only}
use Rattle.unicode_bidi.proofs.WholeText.{written-front}
use Rattle.unicode_bidi.proofs.engine.ParagraphAnalysis.find.Goals as goal

pub returns : goal.returns
returns g c =
    let source = g.D.BidiDataSource.source c.args.data_source.now in
    let base = c.args.base_level in
    let found = with_lists (g.T.TextSource.text c.args.text) c.analyse.new.classes c.analyse.new.levels in
    let ps : List ParagraphInfo = found_paragraphs c.analyse.new.self in
    let analysis = c.in_ok-analyse.ensures.analysis in
    let own : levels_of ps ≡ paragraph_level base (map source.class_of found.chars) ∷ [] = para_level-one source base found _ _ analysis in
    let level : c.level-self.result ≡ paragraph_level base (map source.class_of found.chars) =
    c.level-self.ensures ∙ only level_of ps c.index-paragraphs-0.result _ own (rw c.paragraphs.ensures at c.index-paragraphs-0.is) in
    rw (
      written-front c.resize.new.self.len c.analyse.new.classes _ (omega (arith, c.analyse.auto.classes, c.as_mut_slice.ensures.len)),
      written-front c.resize-2.new.self.len c.analyse.new.levels _ (omega (arith, c.analyse.auto.levels, c.as_mut_slice-2.ensures.len)),
    )
    (whole-IsAnalysis source base found _ _ analysis c.level-self.result (own ∙ ap (λ l. l ∷ []) (sym level)))
