use Rattle.bidi_base.proofs.Common.{◌≡◌, ◌+◌, ◌-◌, ◌*◌, ◌<◌, ◌≤◌, ℕ, Bool, true, false, not, cond, List, length, map, get_or, drop, sym, ap}
use Rattle.bidi_base.proofs.Common.{subst, ◌∙◌, arith, IsTrue, cond-false, get_or_past, is_l, class_at, bounds, are_ordered}
use Rattle.bidi_base.specs.declared.char_data.BidiClass.{BidiClass}
use Rattle.bidi_text.proofs.PerCharTests.{class_test}
use Rattle.bidi_rules.specs.declared.weak.w2_w4_w5_w7.Walk.{Walk}
use Rattle.bidi_explicit.specs.RunCutting.{filled}
use Rattle.bidi_rules.specs.WeakPass.{strengthened, waits, left_over, w7_by, resolved}
use Rattle.bidi_rules.specs.WeakWalk.{seen, resolved_to, Pass, IsUnderWay}
use Rattle.bidi_explicit.specs.SequenceUnits.{count_below, is_seen, IsWrittenOver}
use Rattle.bidi_explicit.proofs.CountBelow.{count_below-monotone}
use Rattle.bidi_rules.proofs.WeakWalkLemmas.{IsWrittenOver-decided, IsUnderWay-joins, IsUnderWay-waits, IsUnderWay-decides}
use Rattle.bidi_explicit.proofs.WrittenOver.{IsWrittenOver-filled}
use Rattle.bidi_rules.specs.declared.weak.before.Before.{Before}
use Rattle.bidi_rules.proofs.weak.w2_w4_w5_w7.Walk.read.Goals as goal
use Rattle.bidi_rules.proofs.weak.w2_w4_w5_w7.Walk.read.Goals.{then-not-is_joined_by+then-waits, then-not-is_joined_by+else-waits+then-ne, then-not-is_joined_by+else-waits+else-ne, else-not-is_joined_by}

resolved-stays : (c strong : BidiClass) (b : Bool) (before : Before) → left_over (w7_by b (resolved (strengthened strong c) before)) ≡ w7_by b (resolved (strengthened strong c) before)
resolved-stays c strong b before = grind arith

equal : (b : Bool) → not b ≡ false → b ≡ true
equal b h = grind arith

filled_over : (to : ℕ) (v : BidiClass) (from : ℕ) (now1 now2 : List BidiClass) → now2 ≡ filled from (to - from) v now1 → from ≤ to → to ≤ length now1 → IsWrittenOver (λ k. true) v from to now1 now2
filled_over to v from now1 now2 is order fits = subst (IsWrittenOver (λ k. true) v from to now1) (sym is) (IsWrittenOver-filled v from to now1 order fits)

-- what waited has its class
written_by : (p : Pass) (runs : List (ℕ × ℕ)) → p.runs ≡ runs → (i : ℕ) (w : Walk) (now now1 : List BidiClass) (h : IsUnderWay p now w i) (v held : BidiClass) → held ≡ v → IsTrue (are_ordered runs)
    → (waits w.before ≡ true → IsWrittenOver (is_seen (drop w.first_run runs) now) held w.first i now now1) → (waits w.before ≡ false → now1 ≡ now) → IsWrittenOver (seen p) v h.from i now now1
written_by p runs same i w now now1 h v held is ordered some none =
    simp (← is) (IsWrittenOver-decided p now w i h held now1 (simp same ordered) (λ t. simp same (some t)) none)

-- after what is written
above_written : (w : Walk) (runs : List (ℕ × ℕ)) (held : BidiClass) (i k : ℕ) (now now1 : List BidiClass) → i ≤ k
    → (waits w.before ≡ true → IsWrittenOver (is_seen (drop w.first_run runs) now) held w.first i now now1)
    → (waits w.before ≡ false → now1 ≡ now) → class_at now1 k ≡ class_at now k
above_written w runs held i k now now1 order some none = grind arith

pub returns-clause-outside : goal.returns-clause-outside
returns-clause-outside g c =
    let w = c.args.self.now in
    let i = c.args.stretch.start in
    let now = c.args.classes.now in
    let runs = map bounds c.args.runs.now in
    λ k order. let past : i ≤ k = omega (arith, c.requires.some) in
    elim c.if-not-is_joined_by.branch [
      | then-not-is_joined_by+then-waits b ↦ grind arith
      | then-not-is_joined_by+else-waits+then-ne b ↦ ap (λ (cs : List BidiClass). class_at cs k) b.classes-is ∙ (filled_over c.args.stretch.end b.numbered-own.result i b.write_waiting.new.classes b.fill.new.classes b.fill.ensures (omega (arith, c.requires.some)) (omega (arith, c.requires.inside, b.write_waiting.auto.classes))).above k order ∙ above_written w runs _ i k now b.write_waiting.new.classes past b.write_waiting.ensures.held b.write_waiting.ensures.unchanged
      | then-not-is_joined_by+else-waits+else-ne b ↦ ap (λ (cs : List BidiClass). class_at cs k) b.classes-is ∙ above_written w runs _ i k now b.write_waiting.new.classes past b.write_waiting.ensures.held b.write_waiting.ensures.unchanged
      | else-not-is_joined_by b ↦ ap (λ (cs : List BidiClass). class_at cs k) b.classes-is
    ]

pub returns-clause-reads : goal.returns-clause-reads
returns-clause-reads g c =
    λ p s h.
    let w = c.args.self.now in
    let i = c.args.stretch.start in
    let j = c.args.stretch.end in
    let now = c.args.classes.now in
    let runs = map bounds c.args.runs.now in
    let x = class_at p.old i in
    let z = strengthened w.strong x in
    let read : class_at now i ≡ x = h.unwritten i h.order in
    let z_is : c.strengthened-strong.result ≡ z = c.strengthened-strong.ensures ∙ ap (strengthened w.strong) read in
    elim c.if-not-is_joined_by.branch [
      | then-not-is_joined_by+then-waits b ↦
          let written = written_by p runs s.runs_are i w now b.write_waiting.new.classes h _ b.numbered-held.result (grind arith) c.requires.ordered b.write_waiting.ensures.held b.write_waiting.ensures.unchanged in
          grind (arith, z_is, IsUnderWay-waits p now w i h runs c.args.run j s b.write_waiting.new.classes written)
      | then-not-is_joined_by+else-waits+then-ne b ↦
          let written = written_by p runs s.runs_are i w now b.write_waiting.new.classes h _ b.numbered-held.result (grind arith) c.requires.ordered b.write_waiting.ensures.held b.write_waiting.ensures.unchanged in
          let fill = filled_over j b.numbered-own.result i b.write_waiting.new.classes b.fill.new.classes b.fill.ensures (omega (arith, c.requires.some)) (omega (arith, c.requires.inside, b.write_waiting.auto.classes)) in
          grind (arith, z_is, fill, resolved-stays x w.strong (is_l w.strong) w.before, IsUnderWay-decides p now w i h runs c.args.run j s b.write_waiting.new.classes written)
      | then-not-is_joined_by+else-waits+else-ne b ↦
          let written = written_by p runs s.runs_are i w now b.write_waiting.new.classes h _ b.numbered-held.result (grind arith) c.requires.ordered b.write_waiting.ensures.held b.write_waiting.ensures.unchanged in
          let same : left_over (class_at now i) ≡ b.numbered-own.result = sym b.left_over.ensures ∙ class_test.same b.left_over.result b.numbered-own.result (equal _ (sym b.ne.ensures ∙ b.if-ne.false)) in
          grind (arith, z_is, same, IsUnderWay-decides p now w i h runs c.args.run j s b.write_waiting.new.classes written)
      | else-not-is_joined_by b ↦ grind (arith, z_is, IsUnderWay-joins p now w i h runs c.args.run j s)
    ]

run_fits : (runs : List (ℕ × ℕ)) (run start : ℕ) → start < (get_or runs run (0, 0)).1 → run < length runs
run_fits runs run start within = grind (arith, get_or_past)

pub returns-clause-waiting : goal.returns-clause-waiting
returns-clause-waiting g c = grind (arith, run_fits)

-- and where it does not
paid_idle : (runs : List (ℕ × ℕ)) (t : Bool) (first start end a b : ℕ) → are_ordered runs ≡ true → t ≡ false → start < end
    → a ≤ b + 2 * count_below runs start → a ≤ b + 2 * count_below runs (cond t first end)
paid_idle runs t first start end a b ordered idle order paid = omega (arith, paid, ap (count_below runs) (cond-false t first end idle), count_below-monotone 0 runs start end ordered (omega arith))

pub returns-clause-steps_at_most : goal.returns-clause-steps_at_most
returns-clause-steps_at_most g c =
    grind (
      arith,
      paid_idle (map bounds c.args.runs.now) (waits c.after-next.result) c.if-not-is_joined_by.self.first c.args.stretch.start c.args.stretch.end (c.if-not-is_joined_by.steps + 2 * count_below (map bounds c.args.runs.now) (resolved_to c.args.self.now c.args.stretch.start)) c.args.steps.now c.requires.ordered,
    )
