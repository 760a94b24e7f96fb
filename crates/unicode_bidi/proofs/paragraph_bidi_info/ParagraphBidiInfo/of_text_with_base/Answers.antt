use Rattle.bidi_base.proofs.Common.{◌≡◌, ◌∙◌, ℕ, List, [], ◌∷◌, map, ap, arith, refl, rules, sym}
use Rattle.unicode_bidi.specs.Base.{level_with}
use Rattle.unicode_bidi.specs.Engine.{with_analysis}
use Rattle.bidi_paragraphs.specs.ParagraphFlags.{flags_of}
use Rattle.bidi_paragraphs.specs.declared.paragraph_info.ParagraphInfo.{ParagraphInfo}
use Rattle.bidi_paragraphs.specs.ParagraphInfo.{level_of, levels_of}
use Rattle.bidi_paragraphs.proofs.FlagsLemmas.{is_pure_ltr-flags}
use Rattle.unicode_bidi.proofs.BaseLaws.{whole-IsAnalysisWith}
use Rattle.unicode_bidi.proofs.ParagraphUnits.{only, flags-one}
use Rattle.unicode_bidi.proofs.paragraph_bidi_info.ParagraphBidiInfo.of_text_with_base.Goals as goal

pub bounds-as_slice-0-2 : goal.bounds-as_slice-0-2
bounds-as_slice-0-2 g c = grind (arith, flags-one)

pub returns : goal.returns
returns g c =
    let source = g.D.BidiDataSource.source c.args.data_source.now in
    let base = c.args.base in
    let cs : List ℕ = (g.T.TextSource.text c.args.text).chars in
    let found = with_analysis (g.T.TextSource.text c.args.text) c.in_ok-found.found in
    let ps : List ParagraphInfo = c.in_ok-found.found.paragraphs.items in
    let analysis = c.in_ok-found.ensures.analysis in
    let one : c.in_ok-found.found.flags.items ≡ flags_of (map source.class_of cs) ∷ [] = rw (← flags-one) c.in_ok-found.ensures.flags in
    let own : levels_of ps ≡ level_with source base cs ∷ [] = analysis.paragraphs.para_levels in
    let level : c.level-paragraph_level.result ≡ level_with source base cs =
    c.level-paragraph_level.ensures ∙ only level_of ps c.index-as_slice-0.result _ own (rw c.as_slice.ensures at c.index-as_slice-0.is) in
    record {
      text = first_of (search rules, grind arith);
      analysis =
          rw (c.new.ensures.text, c.new.ensures.classes, c.new.ensures.levels)
          (whole-IsAnalysisWith source base found _ _ analysis c.level-paragraph_level.result (own ∙ ap (λ l. l ∷ []) (sym level)));
      pure_ltr =
          c.is_pure_ltr-is_pure_ltr.ensures
          ∙ is_pure_ltr-flags _ (map source.class_of cs) (rw (c.as_slice-2.ensures, one) refl)
          ∙ rw c.new.ensures.text refl;
    }
