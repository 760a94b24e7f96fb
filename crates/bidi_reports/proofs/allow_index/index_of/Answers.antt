use Rattle.std.proofs.Common.{◌∙◌, ap}
use Rattle.bidi_reports.specs.AllowIndex.{indexes_at}
use Rattle.bidi_reports.proofs.IndexLemmas.{indexes-mapped}
use Rattle.bidi_reports.proofs.allow_index.index_of.Goals as goal

pub returns : goal.returns
returns c = λ key.
    c.in_ok-index.ensures key ∙ indexes-mapped key c.as_slice.result.now
    ∙ ap (λ pairs. indexes_at key (Rattle.std.proofs.Common.map (λ p. (Rattle.std.proofs.Common.string_bytes p.0, p.1)) pairs)) c.as_slice.ensures.value
    ∙ ap (indexes_at key) c.in_ok-pairs.ensures
