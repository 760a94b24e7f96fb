use Rattle.bidi_base.proofs.Common.{◌≡◌, ◌+◌, ◌*◌, ◌<◌, ◌≤◌, ℕ, suc, List, length, map, get_or, refl, sym, ◌∙◌, arith, length-map, bounds}
use Rattle.bidi_base.specs.declared.char_data.BidiClass.TheVariants.{ON}
use Rattle.bidi_rules.specs.WeakWalk.{len_at, resolved_to, Pass, WaitsBelow}
use Rattle.bidi_explicit.specs.SequenceUnits.{count_below}
use Rattle.bidi_rules.specs.declared.weak.w2_w4_w5_w7.Walk.{Walk}
use Rattle.bidi_explicit.proofs.CountBelow.{count_below-monotone}
use Rattle.bidi_rules.proofs.CountedUnits.{count_below-all, count_below-within, count_resolved-monotone, WaitsBelow-idle}
use Rattle.bidi_explicit.proofs.InRuns.{next_start, run_some, start_or, start_or-at, start_or-past}
use Rattle.bidi_rules.specs.WeakPass.{is_number}
use Rattle.bidi_rules.proofs.WeakMarks.{is_any-none}
use Rattle.bidi_rules.proofs.WeakText.{IsWhole-line, lines-within}
use Rattle.bidi_rules.proofs.WeakWalkLemmas.{IsUnderWay-first_run, IsUnderWay-next_run, IsWrittenOver-decided, IsWalked-decided, IsWalked-none}
use Rattle.bidi_rules.proofs.weak.w2_w4_w5_w7.resolve_numbers.Goals as goal

pub loop-run-init : goal.loop-run-init
loop-run-init g c =
    let len_of = g.T.TextSource.encoding.len_of in
    let chars : List ℕ = (g.T.TextSource.text c.args.text).chars in
    let runs = map bounds c.args.runs.now in
    let old = c.args.classes.now in
    let p : Pass = record { runs = runs; sos = c.args.sos; old = old; len = len_at len_of chars } in
    let under_way = IsUnderWay-first_run p c.requires.ordered (lines-within len_of g.T.TextSource.encoding.positive chars runs c.requires.are_lines c.requires.ordered c.args.sos old c.requires.per_char) in
    grind (arith, WaitsBelow-idle, under_way)

pub read_run-requires-clause-inside : goal.read_run-requires-clause-inside
read_run-requires-clause-inside g c =
    omega (arith, lines-within _ g.T.TextSource.encoding.positive _ (map bounds c.args.runs.now) c.requires.are_lines c.requires.ordered c.args.sos _ c.requires.per_char c.loop-run.run (0, 0) (omega (arith, c.loop-run-test.true, length-map c.args.runs.now bounds)), c.loop-run.invariant.under_way.long)

pub read_run-requires-clause-whole : goal.read_run-requires-clause-whole
read_run-requires-clause-whole g c =
    grind (
      arith,
      length-map c.args.runs.now bounds,
      IsWhole-line g.T.TextSource.encoding.len_of g.T.TextSource.encoding.positive (g.T.TextSource.text c.args.text).chars c.args.classes.now c.requires.per_char (get_or (map bounds c.args.runs.now) c.loop-run.run (0, 0)).0 (get_or (map bounds c.args.runs.now) c.loop-run.run (0, 0)).1,
      start_or-at (map bounds c.args.runs.now) c.loop-run.run (length c.args.classes.now),
    )

pub loop-run-preserved : goal.loop-run-preserved
loop-run-preserved g c =
    let len_of = g.T.TextSource.encoding.len_of in
    let chars : List ℕ = (g.T.TextSource.text c.args.text).chars in
    let runs = map bounds c.args.runs.now in
    let old = c.args.classes.now in
    let index = c.loop-run.run in
    let fits : index < length runs = omega (arith, c.loop-run-test.true, length-map c.args.runs.now bounds) in
    let p : Pass = record { runs = runs; sos = c.args.sos; old = old; len = len_at len_of chars } in
    let start = start_or-at runs index (length old) fits in
    let begin = simp start at c.loop-run.invariant.under_way in
    let inside = lines-within len_of g.T.TextSource.encoding.positive chars runs c.requires.are_lines c.requires.ordered c.args.sos old c.requires.per_char in
    let next = next_start 0 index runs (length old) c.requires.ordered fits (inside index (0, 0) fits) in
    let end = (get_or runs index (0, 0)).1 in
    let some = run_some 0 index runs c.requires.ordered fits in
    let one : suc index ≡ index + 1 = omega arith in
    let later : end ≤ start_or runs (index + 1) (length old) = simp (← one) next in
    let counted = count_resolved-monotone runs c.read_run.new.self end (start_or runs (index + 1) (length old)) c.requires.ordered later in
    let read = count_below-within 0 index runs (get_or runs index (0, 0)).0 end c.requires.ordered fits (omega arith) (omega (arith, some)) (omega arith) in
    let behind = count_below-monotone 0 runs end (start_or runs (index + 1) (length old)) c.requires.ordered later in
    let under_way = IsUnderWay-next_run p c.requires.ordered inside c.read_run.new.classes c.read_run.new.self index fits (c.read_run.ensures.reads p refl refl begin) in
    grind (arith, under_way)

pub returns-clause-walked : goal.returns-clause-walked
returns-clause-walked g c =
    let chars : List ℕ = (g.T.TextSource.text c.args.text).chars in
    let runs = map bounds c.args.runs.now in
    let old = c.args.classes.now in
    let now = c.loop-run.classes in
    let w = c.loop-run.walk in
    let p : Pass = record { runs = runs; sos = c.args.sos; old = old; len = len_at g.T.TextSource.encoding.len_of chars } in
    let top : start_or runs c.loop-run.run (length old) ≡ length old = grind (arith, start_or-past, length-map) in
    let h = simp top at c.loop-run.invariant.under_way in
    IsWalked-decided p now w (length old) h c.write_waiting.new.classes (omega arith)
    (IsWrittenOver-decided p now w (length old) h ON c.write_waiting.new.classes c.requires.ordered (λ t. simp h.long at (c.write_waiting.ensures.held t)) c.write_waiting.ensures.unchanged)

pub returns-then-not-has_numbers-clause-walked : goal.returns-then-not-has_numbers-clause-walked
returns-then-not-has_numbers-clause-walked g c =
    IsWalked-none _ c.args.runs.now _ c.args.classes.now
    (is_any-none is_number c.args.runs.now c.args.classes.now (lines-within _ g.T.TextSource.encoding.positive _ _ c.requires.are_lines c.requires.ordered c.args.sos _ c.requires.per_char) (sym c.has_numbers.ensures ∙ c.if-not-has_numbers.true))

-- all runs are read
record AreRead (runs : List (ℕ × ℕ)) (w : Walk) (n steps first : ℕ) : Type 0 where
  waiting : WaitsBelow runs w n
  steps_at_most : steps ≤ first + 2 * count_below runs n + 2 * count_below runs (resolved_to w n)

read : (runs : List (ℕ × ℕ)) (w : Walk) (index n steps first : ℕ) → length runs ≤ index → WaitsBelow runs w (start_or runs index n)
    → steps ≤ first + 2 * count_below runs (start_or runs index n) + 2 * count_below runs (resolved_to w (start_or runs index n))
    → AreRead runs w n steps first
read runs w index n steps first past waiting steps_at_most = grind (arith, start_or-past)

pub read_run-requires-clause-waiting : goal.read_run-requires-clause-waiting
read_run-requires-clause-waiting g c = grind (arith, start_or-at, length-map)

pub write_waiting-requires-clause-waiting : goal.write_waiting-requires-clause-waiting
write_waiting-requires-clause-waiting g c = grind arith

pub returns-clause-steps_at_most : goal.returns-clause-steps_at_most
returns-clause-steps_at_most g c =
    let runs = map bounds c.args.runs.now in
    let long : length c.loop-run.classes ≡ length c.args.classes.now = omega (arith, c.loop-run.auto.classes) in
    let all = read runs c.loop-run.walk c.loop-run.run (length c.args.classes.now) c.loop-run.steps c.args.steps.now (omega (arith, c.loop-run-test.false, length-map c.args.runs.now bounds)) c.loop-run.invariant.waiting c.loop-run.invariant.steps_at_most in
    omega (arith, all.steps_at_most, simp long at c.write_waiting.ensures.steps_at_most, count_below-all 0 runs (length c.args.classes.now) c.requires.ordered (lines-within _ g.T.TextSource.encoding.positive _ runs c.requires.are_lines c.requires.ordered c.args.sos _ c.requires.per_char))
