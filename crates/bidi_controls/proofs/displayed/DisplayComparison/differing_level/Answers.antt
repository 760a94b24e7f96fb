use Rattle.bidi_base.proofs.Common.{◌≡◌, ◌∙◌, ℕ, Bool, true, false, ◌&&◌, not, if◌then◌else◌, List, Some, None, refl, sym, ap, ap₂, arith, Source, Option}
use Rattle.std.specs.Bool.{then_some}
use Rattle.bidi_controls.specs.Displayed.{is_displayed_differently, differs_with_base, differing_level, has_control_or_mark, own_level, is_as_read, shown_ascii, are_same, plain_line}
use Rattle.bidi_controls.proofs.DisplayedLemmas.{differs_own}
use Rattle.bidi_controls.proofs.displayed.DisplayComparison.differing_level.Goals as goal

-- the level with which a line is displayed differently, if it is
abbrev level_if : Source → List ℕ → Option ℕ
level_if source line = if is_displayed_differently source line then Some (differing_level source line) else None

none : (source : Source) (line : List ℕ) → has_control_or_mark source line ≡ false → None ≡ level_if source line
unfolding is_displayed_differently
none source line no_control = simp no_control refl

from_left : (source : Source) (line : List ℕ) → has_control_or_mark source line ≡ true → differs_with_base source (Some 0) line ≡ true → Some 0 ≡ level_if source line
unfolding is_displayed_differently
from_left source line control differs = simp (control, differs) refl

own : (source : Source) (line : List ℕ) (differs : Bool) → has_control_or_mark source line ≡ true → differs_with_base source (Some 0) line ≡ false → differs ≡ differs_with_base source None line
    → then_some differs (own_level source line) ≡ level_if source line
unfolding is_displayed_differently
own source line true control same is = simp (control, same, ← is) refl
own source line false control same is = simp (control, same, ← is) refl

pub returns-then-not-has_control_or_mark-clause-level : goal.returns-then-not-has_control_or_mark-clause-level
returns-then-not-has_control_or_mark-clause-level g c = none (g.D.BidiDataSource.source c.args.data_source.now) c.args.line.now (grind arith)

pub returns-then-branch-clause-level : goal.returns-then-branch-clause-level
unfolding differs_with_base
returns-then-branch-clause-level g c =
    from_left (g.D.BidiDataSource.source c.args.data_source.now) c.args.line.now (grind arith) (sym c.in_ok-differs.ensures.differs ∙ c.if-branch.true)

pub returns-clause-level : goal.returns-clause-level
unfolding differs_with_base
returns-clause-level g c =
    let source = g.D.BidiDataSource.source c.args.data_source.now in
    let line = c.args.line.now in
    let level = c.own_level-level.ensures.level in
    let plain_is : c.as_slice.result.now ≡ plain_line source line = c.as_slice.ensures.value ∙ c.in_ok-differs.ensures.plain.plain in
    let plain_level = c.own_level-plain_level.ensures.level ∙ ap (own_level source) plain_is in
    let differs = c.in_ok-differs-2.ensures.differs
    ∙ ap₂ (λ l p. not (is_as_read source (Some l) line) && not (are_same (shown_ascii source (Some l) line) (shown_ascii source (Some p) (plain_line source line)))) level plain_level
    ∙ sym (differs_own source line) in
    c.then_some.ensures ∙ ap (then_some c.in_ok-differs-2.differs) level
    ∙ own source line c.in_ok-differs-2.differs (grind arith) (sym c.in_ok-differs.ensures.differs ∙ c.if-branch.false) differs
