use Rattle.bidi_base.proofs.Common.{◌≡◌, ◌∙◌, ◌++◌, ℕ, List, ap, subst, flat_map, encode_utf8, take_all, IsLine}
use Rattle.std.proofs.Common.{string_bytes}
use Rattle.bidi_lines.specs.Analysed.{with_lists}
use Rattle.bidi_paragraphs.specs.declared.paragraph_info.ParagraphInfo.{ParagraphInfo}
use Rattle.bidi_display.specs.Shown.{options}
use Rattle.bidi_display.specs.TextDisplay.{displayed_paragraph, displayed_paragraphs}
use Rattle.bidi_display.specs.declared.options.DisplayOptions.{DisplayOptions}
use Rattle.bidi_display.proofs.Extending.{Extends-appended, Extends-trans}
use Rattle.bidi_display.proofs.TextDisplayLemmas.{own-range, written-next}
use Rattle.bidi_display.proofs.text_display.push_paragraphs.Goals as goal

pub push_paragraph-requires-clause-is_line : goal.push_paragraph-requires-clause-is_line
push_paragraph-requires-clause-is_line g c =
    let chars : List ℕ = (g.T.TextSource.text c.args.text).chars in
    own-range c.args.paragraphs.now c.loop-paragraph.paragraph-index c.paragraph-item.result c.loop-paragraph-test.true c.paragraph-item.is
    (λ (r : ℕ × ℕ). IsLine g.T.TextSource.encoding.len_of chars r.0 r.1) c.requires.are_lines

pub returns-in_err-push_paragraph-clause-options : goal.returns-in_err-push_paragraph-clause-options
returns-in_err-push_paragraph-clause-options g c = c.push_paragraph.ensures.options ∙ c.loop-paragraph.invariant.options

pub returns-in_err-push_paragraph-clause-extends : goal.returns-in_err-push_paragraph-clause-extends
returns-in_err-push_paragraph-clause-extends g c = Extends-trans _ _ _ (Extends-appended _ _ _ c.loop-paragraph.invariant.text) c.push_paragraph.ensures.extends

pub loop-paragraph-preserved : goal.loop-paragraph-preserved
loop-paragraph-preserved g c =
    let a = with_lists (g.T.TextSource.text c.args.text) c.args.classes.now c.args.levels.now in
    let mirrored_of = g.M.MirroredCharacters.mirrored_of c.args.mirrors.now in
    let pushed : string_bytes c.push_paragraph.new.out ≡ string_bytes c.loop-paragraph.out ++ flat_map encode_utf8 (displayed_paragraph (options c.args.line.now) mirrored_of a c.paragraph-item.result) =
    subst (λ (o : DisplayOptions). string_bytes c.push_paragraph.new.out ≡ string_bytes c.loop-paragraph.out ++ flat_map encode_utf8 (displayed_paragraph o mirrored_of a c.paragraph-item.result))
    c.loop-paragraph.invariant.options c.in_ok-push_paragraph.ensures.text in
    record {
      options = c.push_paragraph.ensures.options ∙ c.loop-paragraph.invariant.options;
      text = written-next c.args.paragraphs.now c.loop-paragraph.paragraph-index c.paragraph-item.result c.loop-paragraph-test.true c.paragraph-item.is
          (displayed_paragraph (options c.args.line.now) mirrored_of a) (string_bytes c.args.out.now) (string_bytes c.loop-paragraph.out) (string_bytes c.push_paragraph.new.out) c.loop-paragraph.invariant.text pushed;
    }

pub returns-clause-options : goal.returns-clause-options
returns-clause-options g c = c.loop-paragraph.invariant.options

pub returns-clause-text : goal.returns-clause-text
returns-clause-text g c =
    let a = with_lists (g.T.TextSource.text c.args.text) c.args.classes.now c.args.levels.now in
    let mirrored_of = g.M.MirroredCharacters.mirrored_of c.args.mirrors.now in
    c.loop-paragraph.invariant.text
    ∙ ap (λ (ps : List ParagraphInfo). string_bytes c.args.out.now ++ flat_map encode_utf8 (displayed_paragraphs (options c.args.line.now) mirrored_of a ps))
    (take_all c.loop-paragraph.paragraph-index c.args.paragraphs.now c.loop-paragraph-test.false)

pub returns-clause-extends : goal.returns-clause-extends
returns-clause-extends g c = Extends-appended _ _ _ c.loop-paragraph.invariant.text
