use Rattle.bidi_base.proofs.Common.{◌≡◌, ◌∙◌, ℕ, Bool, true, false, ◌||◌, not, if◌then◌else◌, List, Some, None, refl, sym, ap, Source}
use Rattle.std.specs.Bool.{then_some}
use Rattle.bidi_controls.specs.Displayed.{is_as_read, moving_level, own_level}
use Rattle.bidi_controls.proofs.DisplayedLemmas.{read_own}
use Rattle.bidi_controls.proofs.displayed.DisplayComparison.moving_level.Goals as goal

own : (source : Source) (line : List ℕ) (read : Bool) → is_as_read source (Some 0) line ≡ true → read ≡ is_as_read source None line
    → then_some (not read) (own_level source line) ≡ (if not (is_as_read source (Some 0) line) || not (is_as_read source None line) then Some (moving_level source line) else None)
own source line true same is = simp (same, ← is) refl
own source line false same is = simp (same, ← is) refl

pub returns-clause-level : goal.returns-clause-level
returns-clause-level g c =
    let source = g.D.BidiDataSource.source c.args.data_source.now in
    let line = c.args.line.now in
    let level = c.own_level-level.ensures.level in
    let read = c.in_ok-is_read.ensures.same ∙ ap (λ l. is_as_read source (Some l) line) level ∙ sym (read_own source line) in
    c.then_some.ensures ∙ ap (then_some (not c.in_ok-is_read.is_read)) level
    ∙ own source line c.in_ok-is_read.is_read (sym c.in_ok-is_as_read.ensures.same ∙ c.if-not-branch.false) read
