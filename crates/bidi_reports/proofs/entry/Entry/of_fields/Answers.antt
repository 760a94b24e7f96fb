use Rattle.bidi_reports.proofs.EntryLemmas.{too_many-fields}
use Rattle.bidi_reports.proofs.entry.Entry.of_fields.Goals as goal

pub returns-in-len4-up : goal.returns-in-len4-up
returns-in-len4-up c = too_many-fields c.args.number c.args.fields.now c.in-len4-up.len_at_least
