-- The sequences that begin before the next run are resolved, and the linked runs stay.
use Rattle.bidi_base.proofs.Common.{◌≡◌, List, ℕ, map, stored_classes}
use Rattle.bidi_explicit.specs.Joining.{characters_of}
use Rattle.bidi_explicit.specs.Links.{linked_runs, sequences_before}
use Rattle.bidi_paragraphs.proofs.LevelPasses.{AreResolvedTo}
use Rattle.bidi_paragraphs.proofs.paragraph_levels.LevelResolver.resolve_nested.Given as goal

abbrev pub invariant-loop-first : goal.invariant-loop-first
invariant-loop-first g l =
    let len = g.T.TextSource.encoding.len_of in
    let h = g.T.TextSource.encoding.positive in
    let cs : List ℕ = (g.T.TextSource.text l.paragraph.text).chars in
    let given = g.D.BidiDataSource.source l.paragraph.data_source.now in
    let source = map given.class_of cs in
    let runs = linked_runs l.links l.initial.runs.items in
    record {
      kept : linked_runs l.links l.runs.items ≡ runs;
      resolved : AreResolvedTo len h cs source given.bracket_of l.paragraph.level (map (characters_of len cs (stored_classes source)) (sequences_before l.links runs l.first)) l.classes;
    }
