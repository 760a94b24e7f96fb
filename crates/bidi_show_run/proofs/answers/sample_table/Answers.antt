use Rattle.bidi_show_run.specs.Texts.{sample_source}
use Rattle.bidi_show_run.proofs.answers.sample_table.Goals as goal

pub returns : goal.returns
unfolding sample_source
returns c = rw c.unwrap.ensures at c.new.ensures.source
