use Rattle.bidi_base.proofs.Common.{◌≡◌, ◌++◌, filter, flat_map, map, option_to_list, range_with_len}
use Rattle.bidi_controls.specs.Findings.{is_wanted, finding_at}
use Rattle.bidi_controls.proofs.check.push_findings.Given as goal

abbrev pub invariant-loop-index : goal.invariant-loop-index
invariant-loop-index g l =
    l.findings.items
    ≡ l.initial.findings.items
    ++ filter (is_wanted l.wanted)
    (flat_map (λ k. option_to_list (finding_at l.paragraph.line l.paragraph.place (map (g.D.BidiDataSource.source l.fn.data_source).class_of l.paragraph.chars.now) l.paragraph.chars.now k))
    (range_with_len 0 l.index))
