use Rattle.bidi_base.proofs.Common.{◌≡◌, ℕ, ◌<◌, ◌&&◌, true, false, List, length, map, drop, get_or, ltb, ◌∙◌, sym, ap, inl, inr, arith, rules, cases_lt, get_or-map, length-map, take_all, Range}
use Rattle.bidi_base.proofs.Common.{bounds, max, min, are_ordered_from, common_steps, ◌≤◌}
use Rattle.bidi_explicit.proofs.CountBelow.{count_below-none, count_below-more, count_below-parts, count_below-monotone}
use Rattle.bidi_explicit.proofs.InRuns.{run_some, start_after}
use Rattle.bidi_explicit.proofs.WalkLemmas.{no_range, are_ordered-drop, are_ordered-front}
use Rattle.bidi_explicit.proofs.WrittenOver.{runs-more, runs-stop}
use Rattle.bidi_explicit.proofs.written.write_over_runs_counted.Goals as goal

-- the ranges end one after another
ends_ascend : (low index : ℕ) (runs : List (ℕ × ℕ)) → are_ordered_from low runs ≡ true → index < length runs → (get_or runs 0 (0, 0)).1 ≤ (get_or runs index (0, 0)).1
ends_ascend low index runs h fits = grind (arith, common_steps, are_ordered-front, run_some, start_after)

pub loop-class-init : goal.loop-class-init
loop-class-init g c = grind (arith, count_below-none)

-- the run that comes
record Comes (runs : List (Range ℕ)) (index to : ℕ) : Type 0 where
  fits : index < length runs
  is : get_or (map bounds runs) index (0, 0) ≡ bounds (get_or runs index no_range)
  before : (get_or (map bounds runs) index (0, 0)).0 < to

comes : (runs : List (Range ℕ)) (index to : ℕ) → (ltb index (length runs) && ltb (get_or (map bounds runs) index (0, 0)).0 to) ≡ true → Comes runs index to
comes runs index to h = grind (arith, get_or-map)

pub loop-class-preserved : goal.loop-class-preserved
loop-class-preserved g c =
    let runs = c.args.runs.now in
    let ranges = map bounds runs in
    let index = c.loop-class.index in
    let it = comes runs index c.args.to (sym c.begins_below.ensures ∙ c.loop-class-test.true) in
    let fits : index < length ranges = omega (arith, it.fits, length-map runs bounds) in
    let r = get_or ranges index (0, 0) in
    let start : c.max.result ≡ max r.0 c.args.from = c.max.ensures ∙ ap (λ (r : ℕ × ℕ). max r.0 c.args.from) (sym it.is) in
    let end : c.min.result ≡ min r.1 c.args.to = c.min.ensures ∙ ap (λ (r : ℕ × ℕ). min r.1 c.args.to) (sym it.is) in
    record {
      fits = omega (arith, it.fits);
      written = search (rules, runs-more);
      steps_at_least = omega (arith, c.loop-class.invariant.steps_at_least, c.write_over.ensures.steps);
      steps_at_most = λ some first. grind (arith, ends_ascend, run_some, count_below-more);
    }

pub returns-clause-written : goal.returns-clause-written
returns-clause-written g c =
    let runs = c.args.runs.now in
    let ranges = map bounds runs in
    let index = c.loop-class.index in
    let now = c.loop-class.classes in
    let long = length-map runs bounds in
    let written = c.loop-class.invariant.written in
    let fails : (ltb index (length runs) && ltb (get_or ranges index (0, 0)).0 c.args.to) ≡ false = sym c.begins_below.ensures ∙ c.loop-class-test.false in
    elim (cases_lt index (length runs)) [
      | inl fits ↦ runs-stop ranges c.args.class c.args.from c.args.to c.args.classes.now index now c.requires.ordered (omega arith) (grind (arith, fails)) written
      | inr all ↦ grind (arith, take_all)
    ]

pub returns-clause-steps_at_most : goal.returns-clause-steps_at_most
returns-clause-steps_at_most g c =
    grind (
      arith,
      count_below-parts c.loop-class.index (map bounds c.args.runs.now) c.args.from,
      count_below-parts c.loop-class.index (map bounds c.args.runs.now) c.args.to,
      count_below-monotone 0 (drop c.loop-class.index (map bounds c.args.runs.now)) c.args.from c.args.to (are_ordered-drop 0 c.loop-class.index (map bounds c.args.runs.now) c.requires.ordered),
      are_ordered-drop 0 c.loop-class.index (map bounds c.args.runs.now) c.requires.ordered,
    )
