use Rattle.bidi_base.proofs.Common.{◌∙◌, YieldsList-end, map-id, YieldsList-from_vec}
use Rattle.bidi_laws.proofs.AgreeLemmas.{sequences-explicit_levels}
use Rattle.bidi_plain.proofs.plain.run_sequences.sequences.Goals as goal

pub returns-clause-explicit : goal.returns-clause-explicit
returns-clause-explicit c = λ h.
    let source = c.into_iter-places-iterator.ensures.into_iter_gives in
    let came = YieldsList-end (YieldsList-from_vec {s = c.into_iter-places-iterator.result} c.in_ok-found.found.items source.0 (source.1 ∙ c.in_ok-found.found.ok.0)) c.loop-places.yielded c.loop-places.places-iterator c.loop-places.yielded_by c.next.result c.next.new.self c.in-None.is c.next.ensures.steps in
    simp (c.loop-places.invariant, ← map-id c.loop-places.yielded, came.0, c.in_ok-found.ensures.all, sequences-explicit_levels _ _ _ h)
