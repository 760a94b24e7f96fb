use Rattle.bidi_base.proofs.Common.{◌≡◌, ℕ, List, ◌+◌, ◌<◌, ◌≤◌, true, get_or, ap, ◌∙◌, arith, inl, inr, cases_lt, and_parts, length-map}
use Rattle.bidi_base.proofs.Common.{take_all, is_kept_in_place, is_nsm, class_at, is_boundary, unit_index, text_len, IsLine}
use Rattle.bidi_base.proofs.UnitIndexLemmas.{is_boundary-unit_index, unit_index-lt, unit_index-mono}
use Rattle.bidi_base.proofs.TextLemmas.{is_boundary-le}
use Rattle.bidi_explicit.proofs.CharEnds.{Begins, begins_at}
use Rattle.bidi_rules.proofs.KeptRuns.{line_at}
use Rattle.bidi_explicit.proofs.WalkLemmas.{no_range}
use Rattle.bidi_rules.proofs.NearestLemmas.{every-more, earlier-here, in-here}
use Rattle.bidi_rules.proofs.neutral.marks.marks_end.Goals as goal
use Rattle.bidi_rules.proofs.neutral.marks.marks_end.Goals.{In-loop-at}
use Rattle.bidi_rules.proofs.neutral.marks.marks_end.Given.{Over}

line : (g : Over) (c : In-loop-at g)
    → IsLine g.T.TextSource.encoding.len_of (g.T.TextSource.text c.args.text).chars (get_or c.args.runs.now c.loop-run.run-index no_range).start (get_or c.args.runs.now c.loop-run.run-index no_range).end
line g c = search (arith, line_at)

inside : (g : Over) (c : In-loop-at g) → c.loop-at.at < text_len g.T.TextSource.encoding.len_of (g.T.TextSource.text c.args.text).chars
inside g c = search (arith, is_boundary-le, line)

begins : (g : Over) (c : In-loop-at g) → Begins (g.T.TextSource.text c.args.text) c.loop-at.at
begins g c = search (arith, begins_at, inside)

pub loop-at-init : goal.loop-at-init
loop-at-init g c =
    grind (
      arith,
      line_at g.T.TextSource.encoding.len_of (g.T.TextSource.text c.args.text).chars c.args.runs.now c.loop-run.run-index c.loop-run-test.true c.requires.are_lines,
    )

pub bounds-classes-at : goal.bounds-classes-at
bounds-classes-at g c = omega (arith, inside g c, c.requires.same_len)

pub bounds-original_classes-at : goal.bounds-original_classes-at
bounds-original_classes-at g c = grind (arith, inside) steps 400000

pub returns-then-ends_marks : goal.returns-then-ends_marks
returns-then-ends_marks g c =
    grind (
      arith,
      begins g ((goal.at.returns-then-ends_marks g c).In-loop-at),
      and_parts,
      earlier-here,
      in-here,
      inside g ((goal.at.returns-then-ends_marks g c).In-loop-at),
    )

pub end_of-at-requires-clause-inside : goal.end_of-at-requires-clause-inside
end_of-at-requires-clause-inside g c = inside g (goal.at.end_of-at-requires-clause-inside g c).In-loop-at

pub loop-at-smaller : goal.loop-at-smaller
loop-at-smaller g c =
    grind (
      arith,
      begins g (goal.at.loop-at-smaller g c).In-loop-at,
      unit_index-lt g.T.TextSource.encoding.len_of (g.T.TextSource.text c.args.text).chars g.T.TextSource.encoding.positive (begins g (goal.at.loop-at-smaller g c).In-loop-at).index ((begins g (goal.at.loop-at-smaller g c).In-loop-at).index + 1),
    )

pub loop-at-preserved : goal.loop-at-preserved
loop-at-preserved g c =
    let len_of = g.T.TextSource.encoding.len_of in
    let chars : List ℕ = (g.T.TextSource.text c.args.text).chars in
    let s = c.loop-at in
    let b = begins g (goal.at.loop-at-preserved g c).In-loop-at in
    let next : c.end_of-at.result ≡ unit_index len_of chars (b.index + 1) = c.end_of-at.ensures b.index b.within b.there in
    let more = unit_index-lt len_of chars g.T.TextSource.encoding.positive b.index (b.index + 1) (omega arith) b.within in
    record {
      begins = ap (is_boundary len_of chars) next ∙ is_boundary-unit_index len_of chars (b.index + 1);
      marks = λ u start below k is from kept. elim (cases_lt u s.at) [
        | inl earlier ↦ s.invariant.marks u start earlier k is from kept
        | inr later ↦
            let same : k ≡ b.index = grind (arith, unit_index-mono) in
            grind (arith, is, b.there, kept, c.ends_marks.ensures, c.if-ends_marks.false)
      ];
      start = omega (arith, s.invariant.start);
      from = omega (arith, s.invariant.from);
    }

pub loop-run-preserved : goal.loop-run-preserved
loop-run-preserved g c =
    let len_of = g.T.TextSource.encoding.len_of in
    let chars : List ℕ = (g.T.TextSource.text c.args.text).chars in
    let a = c.args in
    every-more a.runs.now c.loop-run.run-index c.loop-run-test.true (λ u. (k : ℕ) → u ≡ unit_index len_of chars k → a.from ≤ u → is_kept_in_place (class_at a.classes.now u) ≡ true → is_nsm (class_at a.original_classes.now u) ≡ true) c.loop-run.invariant
    (λ u start end k is from kept. c.loop-at.invariant.marks u start (omega (arith, c.loop-at-test.false)) k is from kept)

pub returns : goal.returns
returns g c = grind (arith, and_parts, take_all, length-map)
