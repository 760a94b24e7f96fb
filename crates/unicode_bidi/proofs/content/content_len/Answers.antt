use Rattle.bidi_base.proofs.Common.{◌∙◌, ◌≤◌, length, sym, arith, take_all, ap}
use Rattle.unicode_bidi.specs.Content.{content_len}
use Rattle.unicode_bidi.proofs.ContentLemmas.{content_len-back, content_len-last, content_len-none}
use Rattle.unicode_bidi.proofs.content.content_len.Goals as goal

pub loop-len-init : goal.loop-len-init
loop-len-init c = record { within = omega arith; same = ap content_len (take_all (length c.args.classes.now) c.args.classes.now (omega arith)) }

pub bounds-classes-len : goal.bounds-classes-len
bounds-classes-len c = omega (arith, c.loop-len.invariant.within)

pub loop-len-preserved : goal.loop-len-preserved
loop-len-preserved c =
    let within : c.loop-len.len ≤ length c.args.classes.now = c.loop-len.invariant.within in
    record {
      within = omega arith;
      same = sym (content_len-back c.args.classes.now c.loop-len.len _ _ (omega arith) (omega arith) (sym c.is_paragraph_separator.ensures ∙ c.if-is_paragraph_separator.true)) ∙ c.loop-len.invariant.same;
    }

pub returns-else-is_paragraph_separator : goal.returns-else-is_paragraph_separator
returns-else-is_paragraph_separator c =
    let within : c.loop-len.len ≤ length c.args.classes.now = c.loop-len.invariant.within in
    content_len-last c.args.classes.now c.loop-len.len _ _ (omega arith) (omega arith) (sym c.is_paragraph_separator.ensures ∙ c.if-is_paragraph_separator.false) ∙ c.loop-len.invariant.same

pub returns-after-loop-len : goal.returns-after-loop-len
returns-after-loop-len c = content_len-none c.args.classes.now c.loop-len.len c.loop-len-test.false ∙ c.loop-len.invariant.same
