use Rattle.bidi_base.proofs.Common.{◌≡◌, ◌∙◌, ◌++◌, ℕ, List, ap, sym, subst, refl, flat_map, map, take_all, append-nil, char_index, IsLine}
use Rattle.bidi_lines.specs.Analysed.{with_lists}
use Rattle.bidi_paragraphs.specs.declared.paragraph_info.ParagraphInfo.{ParagraphInfo}
use Rattle.bidi_display.specs.Shown.{options}
use Rattle.bidi_display.specs.declared.options.DisplayOptions.{DisplayOptions}
use Rattle.bidi_calls.proofs.OrderOfRuns.{char_index-zero}
use Rattle.bidi_calls.proofs.WholeTextLemmas.{own-range, next-in-order, written-next, encoded-next}
use Rattle.bidi_calls.specs.WholeText.{of_info, paragraph_order, paragraph_text}
use Rattle.bidi_calls.proofs.whole_text.push_paragraphs.Goals as goal

pub loop-paragraph-init : goal.loop-paragraph-init
loop-paragraph-init g c = record {
  options = refl;
  follow = (0, sym (char_index-zero g.T.TextSource.encoding.len_of g.T.TextSource.encoding.positive (g.T.TextSource.text c.args.shown.now.text).chars), c.requires.follow);
  order = sym (append-nil c.args.out.now.order.items);
  text = sym (append-nil c.args.out.now.text.items);
}

pub push_paragraph-requires : goal.push_paragraph-requires
push_paragraph-requires g c =
    let len_of = g.T.TextSource.encoding.len_of in
    let chars : List ℕ = (g.T.TextSource.text c.args.shown.now.text).chars in
    let next = next-in-order c.args.paragraphs.now c.loop-paragraph.paragraph-index c.paragraph-item.result c.loop-paragraph-test.true c.paragraph-item.is _ _ c.loop-paragraph.invariant.follow.2 in
    λ _. (
      (refl, tt),
      (
        own-range (λ (r : ℕ × ℕ). IsLine len_of chars r.0 r.1) c.args.paragraphs.now c.loop-paragraph.paragraph-index c.paragraph-item.result c.loop-paragraph-test.true c.paragraph-item.is c.requires.lines,
        c.loop-paragraph.invariant.follow.1 ∙ ap (char_index len_of chars) (sym next.0),
      ),
    )

pub loop-paragraph-preserved : goal.loop-paragraph-preserved
loop-paragraph-preserved g c =
    let a = with_lists (g.T.TextSource.text c.args.shown.now.text) c.args.shown.now.classes.now c.args.shown.now.levels.now in
    let mirrored_of = g.M.MirroredCharacters.mirrored_of c.args.mirrors.now in
    let encode = g.T.LineText.encode in
    let ps = c.args.paragraphs.now in
    let k = c.loop-paragraph.paragraph-index in
    let p = c.paragraph-item.result in
    let first_options = options c.args.line.now in
    let next = next-in-order ps k p c.loop-paragraph-test.true c.paragraph-item.is _ _ c.loop-paragraph.invariant.follow.2 in
    record {
      options = c.push_paragraph.ensures.options ∙ c.loop-paragraph.invariant.options;
      follow = (p.range.end, c.in_ok-first.ensures.next, next.1);
      order = written-next (paragraph_order first_options a) ps k p c.loop-paragraph-test.true c.paragraph-item.is c.args.out.now.order.items c.loop-paragraph.out.order.items c.push_paragraph.new.out.order.items
          c.loop-paragraph.invariant.order
          (subst (λ (o : DisplayOptions). c.push_paragraph.new.out.order.items ≡ c.loop-paragraph.out.order.items ++ paragraph_order o a (of_info p)) c.loop-paragraph.invariant.options c.in_ok-first.ensures.order);
      text = encoded-next encode (paragraph_text first_options mirrored_of a) ps k p c.loop-paragraph-test.true c.paragraph-item.is c.args.out.now.text.items c.loop-paragraph.out.text.items c.push_paragraph.new.out.text.items
          c.loop-paragraph.invariant.text
          (subst (λ (o : DisplayOptions). c.push_paragraph.new.out.text.items ≡ c.loop-paragraph.out.text.items ++ flat_map encode (paragraph_text o mirrored_of a (of_info p))) c.loop-paragraph.invariant.options c.in_ok-first.ensures.text);
    }

pub returns-clause-order : goal.returns-clause-order
returns-clause-order g c =
    let a = with_lists (g.T.TextSource.text c.args.shown.now.text) c.args.shown.now.classes.now c.args.shown.now.levels.now in
    c.loop-paragraph.invariant.order
    ∙ ap (λ (ps : List ParagraphInfo). c.args.out.now.order.items ++ flat_map (paragraph_order (options c.args.line.now) a) (map of_info ps)) (take_all c.loop-paragraph.paragraph-index c.args.paragraphs.now c.loop-paragraph-test.false)

pub returns-clause-text : goal.returns-clause-text
returns-clause-text g c =
    let a = with_lists (g.T.TextSource.text c.args.shown.now.text) c.args.shown.now.classes.now c.args.shown.now.levels.now in
    let mirrored_of = g.M.MirroredCharacters.mirrored_of c.args.mirrors.now in
    c.loop-paragraph.invariant.text
    ∙ ap (λ (ps : List ParagraphInfo). c.args.out.now.text.items ++ flat_map g.T.LineText.encode (flat_map (paragraph_text (options c.args.line.now) mirrored_of a) (map of_info ps)))
    (take_all c.loop-paragraph.paragraph-index c.args.paragraphs.now c.loop-paragraph-test.false)
