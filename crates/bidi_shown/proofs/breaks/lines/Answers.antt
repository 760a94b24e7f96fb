use Rattle.bidi_base.proofs.Common.{◌≤◌, sym, subst, arith, append_assoc, append-nil, map-append, All-nil, All-push, Run, length, common_steps, IsCharBoundary-start, List, ℕ, ◌-◌, [], ◌∷◌, Range, map, run_of, ◌≡◌, ◌++◌, ◌<◌}
use Rattle.bidi_shown.specs.Bounds.{IsRangeOf}
use Rattle.bidi_shown.specs.Breaks.{lines_of_text, line_range, or_empty}
use Rattle.bidi_shown.proofs.ClusterLemmas.{clusters_of-placed, ArePlaced-drop, ArePlaced, IsRangeOf-line}
use Rattle.bidi_shown.proofs.LineLemmas.{lines_of-none, lines_of-more}
use Rattle.bidi_shown.specs.declared.breaks.LineLength.{LineLength}
use Rattle.bidi_shown.specs.declared.cluster.Cluster.{Cluster}
use Rattle.bidi_shown.proofs.breaks.lines.Goals as goal
use Rattle.bidi_shown.proofs.breaks.lines.Goals.{then-is_empty+in_ok-push-2, else-is_empty}

or_empty-some : (lines : List (Range ℕ)) (all : List Run) → 0 < length lines → map run_of lines ≡ all → map run_of lines ≡ or_empty all
or_empty-some [] all some is = absurd (omega arith)
or_empty-some (line ∷ lines) all some is = simp (sym is)

-- lines, or one empty line if there are none
or_empty-none : (lines : List (Range ℕ)) (out : List (Range ℕ)) (all : List Run) → length lines ≡ 0 → map run_of lines ≡ all → out ≡ lines ++ record { start = 0; end = 0 } ∷ []
    → map run_of out ≡ or_empty all
or_empty-none [] out all none is e = simp (e, sym is)
or_empty-none (line ∷ lines) out all none is e = absurd (omega arith)

-- a line cuts no character
IsRangeOf-line_range : (text : List ℕ) (line : LineLength) (ks : List Cluster) → ArePlaced text 0 ks → 1 ≤ line.shown → line.shown ≤ length ks
    → IsRangeOf text (record { start = (line_range line ks).0; end = (line_range line ks).1 })
IsRangeOf-line_range text line [] placed some within = absurd (omega arith)
IsRangeOf-line_range text line (k ∷ ks) placed some within = IsRangeOf-line text 0 (line.shown - 1) (k ∷ ks) k k placed (omega arith)

pub loop-rest-init : goal.loop-rest-init
loop-rest-init g c = record {
  placed = simp (c.as_slice-rest.ensures.value, c.in_ok-clusters.ensures) (clusters_of-placed _ c.args.text.now c.utf8.text);
  shown = simp (c.as_slice-rest.ensures.value, c.in_ok-clusters.ensures, c.new-lines.ensures.items);
  ranges = simp c.new-lines.ensures.items (All-nil (IsRangeOf c.args.text.now));
}

pub loop-rest-preserved : goal.loop-rest-preserved
loop-rest-preserved g c = record {
  placed = rw c.split_at.ensures.back (ArePlaced-drop c.args.text.now 0 c.first_line-line.result.taken c.loop-rest.rest.now c.loop-rest.invariant.placed);
  shown = grind (arith, lines_of-more, map-append, append_assoc);
  ranges =
      let P : Run → Type 0 = λ r. IsRangeOf c.args.text.now (record { start = r.0; end = r.1 }) in
      let some : 1 ≤ c.first_line-line.result.shown = omega (arith, c.first_line-line.ensures.advances) in
      let within : c.first_line-line.result.shown ≤ length c.loop-rest.rest.now = omega (arith, c.first_line-line.ensures.ordered, c.first_line-line.ensures.within) in
      let here = IsRangeOf-line_range c.args.text.now c.first_line-line.result c.loop-rest.rest.now c.loop-rest.invariant.placed some within in
      rw c.in_ok-push.ensures.items (All-push (IsRangeOf c.args.text.now) c.loop-rest.lines.items c.range_of.result c.loop-rest.invariant.ranges (subst P (sym c.range_of.ensures) here));
}

pub returns-clause-lines : goal.returns-clause-lines
unfolding lines_of_text
returns-clause-lines g c = elim c.if-is_empty.branch [
  | then-is_empty+in_ok-push-2 w ↦ grind (arith, lines_of-none, append-nil, or_empty-none)
  | else-is_empty w ↦ grind (arith, lines_of-none, append-nil, or_empty-some)
]

pub returns-clause-ranges : goal.returns-clause-ranges
returns-clause-ranges g c = elim c.if-is_empty.branch [
  | then-is_empty+in_ok-push-2 w ↦ grind (arith, common_steps, IsCharBoundary-start c.args.text.now c.utf8.text)
  | else-is_empty w ↦ grind arith
]
