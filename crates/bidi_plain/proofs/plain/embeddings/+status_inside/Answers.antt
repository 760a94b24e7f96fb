use Rattle.bidi_base.proofs.Common.{◌∙◌}
use Rattle.std.proofs.lemmas.Result.{OkIff-at_ok, OkIff-at_err}
use Rattle.bidi_plain.proofs.StatusLemmas.{status_inside-none, status_inside-first, status_inside-stops}
use Rattle.bidi_plain.proofs.plain.embeddings.+status_inside.Goals as goal

pub returns-in-empty : goal.returns-in-empty
returns-in-empty t c = status_inside-none c.args.status c.args.openers.now c.in-empty.len_below

pub returns-in-Ok : goal.returns-in-Ok
returns-in-Ok t c =
    let level_fits = OkIff-at_ok c.next_level.result _ _ c.in-Ok.level c.next_level.ensures c.in-Ok.is in
    c.status_inside.ensures ∙ status_inside-first _ _ _ c.status.view_is _ c.in-Ok.level _ c.in-len1-up.len_at_least level_fits.0 level_fits.1 c.override_of.ensures

pub returns-in-Err : goal.returns-in-Err
returns-in-Err t c = status_inside-stops _ _ _ c.status.view_is _ c.in-len1-up.len_at_least (OkIff-at_err c.next_level.result _ _ c.in-Err.field-0 c.next_level.ensures c.in-Err.is)
