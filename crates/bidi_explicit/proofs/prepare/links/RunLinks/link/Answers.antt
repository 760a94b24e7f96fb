-- One run after another is linked.
use Rattle.bidi_base.proofs.Common.{◌≡◌, ℕ, length, get_or, is_l_or_r, true, inl, inr, ap, ◌∙◌, arith, rules, cases_Bool, take_all, direction_of}
use Rattle.bidi_laws.proofs.AgreeLemmas.{sequences-explicit_levels}
use Rattle.bidi_explicit.specs.Links.{with_link, with_sides}
use Rattle.bidi_explicit.proofs.WalkLemmas.{no_range}
use Rattle.bidi_explicit.proofs.RunLoop.{Comes, comes, last_kept, waiting_fits, AreLinkedSoFar-start, AreLinkedSoFar-read, AreLinkedSoFar-unread, AreSequences-end, AreSequences-removed}
use Rattle.bidi_explicit.proofs.prepare.links.RunLinks.link.Given.{Over}
use Rattle.bidi_explicit.proofs.prepare.links.RunLinks.link.Goals as goal
use Rattle.bidi_explicit.proofs.prepare.links.RunLinks.link.Goals.{In-loop-run}

-- the run that comes
run_at : (g : Over) (c : In-loop-run g) → Comes (g.T.TextSource.text c.args.leveled.now.text) c.args.leveled.now.original_classes.now c.args.leveled.now.levels.now c.args.runs.now
    (record { classes = c.requires.leveled.original; levels = c.requires.leveled.levels; runs_are = c.requires.runs }) c.loop-run.run-index (get_or c.args.runs.now c.loop-run.run-index no_range)
run_at g c = search (rules, comes)

direction-known : (level : ℕ) → is_l_or_r (direction_of level) ≡ true
direction-known level = grind arith

pub loop-run-init : goal.loop-run-init
loop-run-init g c =
    AreLinkedSoFar-start _ _ _ _ (record { classes = c.requires.leveled.original; levels = c.requires.leveled.levels; runs_are = c.requires.runs }) _ _ _ c.in_ok-restart.ensures.next c.in_ok-restart.ensures.sides c.in_ok-restart.ensures.waiting

pub kept_end-kept_end-requires-clause-ordered : goal.kept_end-kept_end-requires-clause-ordered
kept_end-kept_end-requires-clause-ordered g c = grind (arith, run_at)

pub kept_end-kept_end-requires-clause-inside : goal.kept_end-kept_end-requires-clause-inside
kept_end-kept_end-requires-clause-inside g c = grind (arith, run_at)

pub returns-then-kept_end-run : goal.returns-then-kept_end-run
returns-then-kept_end-run g c =
    let run = run_at g (goal.at.returns-then-kept_end-run g c).In-loop-run in
    let known : is_l_or_r c.bidi_class-side.result ≡ true = grind (arith, direction-known) in
    grind (
      arith,
      sequences-explicit_levels,
      AreSequences-removed _ _ _ _
          (record { classes = c.requires.leveled.original; levels = c.requires.leveled.levels; runs_are = c.requires.runs }) _ _ _ _ _ _ _ _ c.put.new.self
          c.loop-run.invariant run.next run.within run.is c.kept_end-kept_end.ensures c.if-kept_end-run.true known c.in_ok-put.ensures.next c.in_ok-put.ensures.sides,
    )

pub bounds-levels-kept_end : goal.bounds-levels-kept_end
bounds-levels-kept_end g c = grind (arith, run_at)

pub bounds-original_classes-kept_end : goal.bounds-original_classes-kept_end
bounds-original_classes-kept_end g c = grind (arith, run_at)

pub level_after-requires : goal.level_after-requires
level_after-requires g c = grind (arith, run_at)

pub bounds-original_classes-run : goal.bounds-original_classes-run
bounds-original_classes-run g c = grind (arith, run_at)

pub read-requires-clause-is_line : goal.read-requires-clause-is_line
read-requires-clause-is_line g c = grind (arith, run_at)

pub read-requires-clause-kept_end : goal.read-requires-clause-kept_end
read-requires-clause-kept_end g c =
    let run = run_at g (goal.at.read-requires-clause-kept_end g c).In-loop-run in
    (last_kept _ _ _ _ (record { classes = c.requires.leveled.original; levels = c.requires.leveled.levels; runs_are = c.requires.runs }) _ _ _ run.next c.kept_end-kept_end.ensures c.if-kept_end-run.false).boundary

pub put-requires-in-loop-run : goal.put-requires-in-loop-run
put-requires-in-loop-run g c =
    let run = run_at g (goal.at.put-requires-in-loop-run g c).In-loop-run in
    rw c.in_ok-read.ensures.next
    (waiting_fits _ _ _ _ (record { classes = c.requires.leveled.original; levels = c.requires.leveled.levels; runs_are = c.requires.runs }) _ _ _ _ _ _ _ _
    c.loop-run.invariant run.next run.within c.kept_end-kept_end.ensures c.if-kept_end-run.false c.waiting_for-waits.ensures)

pub loop-run-preserved : goal.loop-run-preserved
loop-run-preserved g c =
    let run = run_at g (goal.at.loop-run-preserved g c).In-loop-run in
    let waits_is = c.waiting_for-waits.ensures in
    let next_is = c.in_ok-put-2.ensures.next ∙ ap (with_link c.waiting_for-waits.result) c.in_ok-read.ensures.next in
    let sides_are = c.in_ok-put-2.ensures.sides ∙ ap (with_sides c.waiting_for-waits.result c.side-sos.result c.side-eos.result) c.in_ok-read.ensures.sides in
    let waiting = c.in_ok-put-2.ensures.waiting ∙ c.in_ok-read.ensures.waiting in
    rw run.more
    (elim (cases_Bool c.args.has_isolate_controls) [
      | inl on ↦
          AreLinkedSoFar-read _ _ _ _ (record { classes = c.requires.leveled.original; levels = c.requires.leveled.levels; runs_are = c.requires.runs }) _ _ _ _ _ _ _ _
          c.loop-run.invariant run.next run.within c.kept_end-kept_end.ensures c.if-kept_end-run.false waits_is _ _ _ _ c.index-levels-kept_end.is c.level_after.ensures c.side-sos.ensures c.side-eos.ensures _ next_is sides_are
          on (length c.loop-run.self.next.items) c.loop-run.invariant.so_far.links.long (rw on at waiting)
      | inr off ↦
          AreLinkedSoFar-unread _ _ _ _ (record { classes = c.requires.leveled.original; levels = c.requires.leveled.levels; runs_are = c.requires.runs }) _ _ _ _ _ _ _ _
          c.loop-run.invariant run.next run.within c.kept_end-kept_end.ensures c.if-kept_end-run.false waits_is _ _ _ _ c.index-levels-kept_end.is c.level_after.ensures c.side-sos.ensures c.side-eos.ensures _ next_is sides_are
          off c.requires.isolates (rw off at waiting)
    ])

pub returns : goal.returns
returns g c =
    grind (
      arith,
      sequences-explicit_levels,
      AreSequences-end _ _ _ _
          (record { classes = c.requires.leveled.original; levels = c.requires.leveled.levels; runs_are = c.requires.runs }) _ _ _ _ _
          (take_all c.loop-run.run-index c.args.runs.now c.loop-run-test.false) c.loop-run.invariant,
    )
