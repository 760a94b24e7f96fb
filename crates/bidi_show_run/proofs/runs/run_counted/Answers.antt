use Rattle.bidi_base.proofs.Common.{rules}
use Rattle.bidi_show_run.proofs.WatchedLemmas.{reported_by_either, reported_at_end, leaves_at_end, risen}
use Rattle.bidi_show_run.proofs.runs.run_counted.Goals as goal

pub returns : goal.returns
returns g c =
    let run = c.run-outcome.ensures in
    let input = c.run-outcome.new.input in
    let output = c.run-outcome.new.output in
    let new = c.new-input.ensures in
    record {
      usage = run.usage;
      device = rw (c.into_watched.ensures, c.into_watched-2.ensures)
          (reported_by_either _ _ _ input.failed output.failed input.reports_failed output.reports_failed
          (rw (new.failed, c.new-output.ensures.failed) at run.device));
      not_utf8 = rw c.into_watched.ensures
          (reported_at_end _ _ _ _ input.ended input.reports_ended (rw (new.reader, new.ended) at run.not_utf8));
      ended = rw c.into_watched.ensures
          (leaves_at_end _ _ _ input.ended _ input.reports_ended (rw new.ended at run.ended));
      written = rw (c.into_watched.ensures, c.into_watched-2.ensures) (rw (new.reader, c.new-output.ensures.writer) at run.written);
      unchanged = search rules;
      unchanged_if_read_fails = λ failed.
          let rose = risen _ input.failed input.reports_failed (rw c.into_watched.ensures at failed) in
          let same = (rw new.failed at run.unchanged_if_read_fails) rose in
          search rules;
      unread = search rules;
    }
