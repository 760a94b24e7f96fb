use Rattle.bidi_base.proofs.Common.{◌≡◌, Bool, false, arith, length, get_or, length-map-range_with_len, get_or-map-range_with_len}
use Rattle.bidi_controls.proofs.FindingsLemmas.{more_findings}
use Rattle.bidi_controls.proofs.check.push_findings.Goals as goal

pub push_finding_at-requires : goal.push_finding_at-requires
push_finding_at-requires g c = grind (arith, length-map-range_with_len)

pub loop-index-preserved : goal.loop-index-preserved
loop-index-preserved g c =
    let source = g.D.BidiDataSource.source c.args.data_source.now in
    let flag : Bool = get_or c.args.unmatched.now c.loop-index.index false in
    more_findings source.class_of c.args.wanted c.args.paragraph.now.line c.args.paragraph.now.place c.args.paragraph.now.chars.now c.loop-index.index flag _ _ _
    (grind (arith, length-map-range_with_len)) (grind (arith, length-map-range_with_len, get_or-map-range_with_len)) c.loop-index.invariant
    c.in_ok-push_finding_at.ensures

pub returns : goal.returns
returns g c =
    let whole : c.loop-index.index ≡ length c.args.paragraph.now.chars.now = grind (arith, length-map-range_with_len) in
    simp whole at c.loop-index.invariant
