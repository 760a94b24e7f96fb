use Rattle.bidi_base.proofs.Common.{◌≡◌, ◌∙◌, ◌==◌, false, list_any, sym, arith, chars, has_rtl, encodes-chars}
use Rattle.bidi_shown.specs.Plain.{tabbed_line}
use Rattle.bidi_shown.proofs.EvenLemmas.{tabbed_line-even, tabbed_line-none}
use Rattle.bidi_shown.proofs.line.push_text.Goals as goal

pub returns-then-not-has_rtl : goal.returns-then-not-has_rtl
returns-then-not-has_rtl c =
    let even : has_rtl c.args.levels.now ≡ false = sym c.has_rtl.ensures ∙ c.if-not-has_rtl.true in
    let none : list_any (λ x. x == 0x09) (chars c.args.text.now) ≡ false = sym c.has_tab-tabs.ensures ∙ c.if-not-tabs.true in
    let text : tabbed_line (chars c.args.text.now) c.args.levels.now ≡ c.args.text.now =
    tabbed_line-even (chars c.args.text.now) c.args.levels.now c.requires even none ∙ encodes-chars c.args.text.now c.utf8.text in
    grind arith

pub returns : goal.returns
returns c =
    let none : list_any (λ x. x == 0x09) (chars c.args.text.now) ≡ false = sym c.has_tab-tabs.ensures ∙ c.if-tabs.false in
    let line = tabbed_line-none (chars c.args.text.now) c.args.levels.now c.requires none in
    grind (arith, line)
