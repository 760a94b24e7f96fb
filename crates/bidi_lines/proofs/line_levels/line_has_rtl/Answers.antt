use Rattle.bidi_base.proofs.Common.{◌≡◌, ◌<◌, ◌-◌, ◌+◌, length, sym, subst, ◌∙◌, arith, ℕ, get_or_default}
use Rattle.bidi_lines.proofs.LineLevels.{ShowsNoRtlFrom, ShowsNoRtlFrom-start, ShowsNoRtlFrom-more, read-at, has_rtl-shown, has_rtl-even, has_rtl-end}
use Rattle.bidi_lines.proofs.line_levels.line_has_rtl.Goals as goal

pub returns-then-not-has_rtl : goal.returns-then-not-has_rtl
returns-then-not-has_rtl c = grind (arith, has_rtl-even)

pub loop-at-init : goal.loop-at-init
loop-at-init c = ShowsNoRtlFrom-start c.args.para_level c.args.classes.now c.args.levels.now

back : (n : ℕ) → 0 < n → n - 1 + 1 ≡ n
back n h = omega arith

pub returns-then-shows_rtl : goal.returns-then-shows_rtl
returns-then-shows_rtl c =
    let at : ℕ = c.loop-at.at - 1 in
    let fits : at < length c.args.classes.now = omega (arith, c.loop-at.invariant.within) in
    let w = read-at c.args.para_level c.args.classes.now c.args.levels.now at c.loop-at.reset _ _ c.index-levels-at.result fits
    (simp (back c.loop-at.at c.loop-at-test.true) c.loop-at.invariant.reset_next)
    c.is_reset-reset.ensures (c.index-levels-at.is ∙ get_or_default c.args.levels.now at c.index-levels-at.result 0 (omega arith)) c.shows_rtl.ensures in
    sym (has_rtl-shown c.args.para_level c.args.classes.now c.args.levels.now c.requires at fits (sym w.1 ∙ c.if-shows_rtl.true))

pub loop-at-preserved : goal.loop-at-preserved
loop-at-preserved c =
    let at : ℕ = c.loop-at.at - 1 in
    let fits : at < length c.args.classes.now = omega (arith, c.loop-at.invariant.within) in
    let same = sym (back c.loop-at.at c.loop-at-test.true) in
    let w = read-at c.args.para_level c.args.classes.now c.args.levels.now at c.loop-at.reset _ _ c.index-levels-at.result fits
    (simp (← same) c.loop-at.invariant.reset_next)
    c.is_reset-reset.ensures (c.index-levels-at.is ∙ get_or_default c.args.levels.now at c.index-levels-at.result 0 (omega arith)) c.shows_rtl.ensures in
    ShowsNoRtlFrom-more c.args.para_level c.args.classes.now c.args.levels.now at c.loop-at.reset c.is_reset-reset.result fits w.0 (sym w.1 ∙ c.if-shows_rtl.false)
    (subst (λ (n : ℕ). ShowsNoRtlFrom c.args.para_level c.args.classes.now c.args.levels.now c.loop-at.reset n) same c.loop-at.invariant)

pub returns-then-is_rtl : goal.returns-then-is_rtl
returns-then-is_rtl c = grind (arith, has_rtl-end)

pub returns-else-is_rtl : goal.returns-else-is_rtl
returns-else-is_rtl c = grind (arith, has_rtl-end)
