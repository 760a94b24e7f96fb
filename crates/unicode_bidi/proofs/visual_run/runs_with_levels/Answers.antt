use Rattle.bidi_base.proofs.Common.{Ok, Err, Result}
use Rattle.std.specs.Prelude.{IfOk}
use Rattle.bidi_lines.specs.Analysed.{analysed}
use Rattle.unicode_bidi.proofs.RunsOfLine as line_of
use Rattle.unicode_bidi.proofs.visual_run.runs_with_levels.Goals as goal

pub with_levels-requires : goal.with_levels-requires
with_levels-requires g c =
    let a = analysed c.args.analysed.now in
    let shows = c.in_ok-show.ensures.shows in
    line_of.starts_in_line a c.args.para_level c.args.line c.runs.result.now c.levels.result.now
    (c.runs.ensures.runs a c.args.para_level c.args.line shows) (c.levels.ensures.levels a c.args.para_level c.args.line shows)

-- what holds of the value, if there is one, follows from two facts of it
from_both : {X Y : Type 0} (r : Result X Y) (P Q R : X → Type 0) → ((x : X) → P x → Q x → R x) → IfOk r P → IfOk r Q → IfOk r R
from_both (Ok x) P Q R step p q = step x p q
from_both (Err e) P Q R step p q = tt

pub returns : goal.returns
returns g c =
    let a = analysed c.args.analysed.now in
    let shows = c.in_ok-show.ensures.shows in
    from_both c.with_levels.result _ _ _
    (λ v same levels. line_of.runs_with_levels a c.args.para_level c.args.line c.levels.result.now c.runs.result.now v.items
    (c.runs.ensures.runs a c.args.para_level c.args.line shows) (c.levels.ensures.levels a c.args.para_level c.args.line shows) same levels)
    c.with_levels.ensures.ranges c.with_levels.ensures.levels
