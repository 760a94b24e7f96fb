use Rattle.bidi_base.proofs.Common.{◌≡◌, length, map, true, if◌then◌else◌, refl, sym, ◌∙◌, arith, length-map, is_l_or_r, stands_for, bounds}
use Rattle.bidi_base.specs.declared.char_data.BidiClass.{BidiClass}
use Rattle.bidi_rules.specs.JoinPass.{Unjoined, IsUnderWay}
use Rattle.bidi_rules.specs.PairPass.{opposite_of}
use Rattle.bidi_explicit.proofs.InRuns.{start_or-at, start_or-past}
use Rattle.bidi_rules.proofs.JoinWalk.{IsUnderWay-start, IsUnderWay-gap, IsFinished, IsFinished-embedding, IsFinished-opposite}
use Rattle.bidi_rules.proofs.neutral.directions.resolve_opposite.Goals as goal
use Rattle.bidi_rules.proofs.neutral.directions.resolve_opposite.Goals.{After-loop-run, After-stands_for-2}

-- the direction that stands before the first unit
before_first : (e sos : BidiClass) → is_l_or_r e ≡ true → is_l_or_r sos ≡ true → (if stands_for (opposite_of e) sos then opposite_of e else e) ≡ sos
before_first e sos a b = grind arith

pub loop-run-init : goal.loop-run-init
loop-run-init c = grind (arith, IsUnderWay-start, before_first)

pub loop-run-preserved : goal.loop-run-preserved
loop-run-preserved c =
    grind (
      arith,
      length-map c.args.runs.now bounds,
      start_or-at (map bounds c.args.runs.now) c.loop-run.run (length c.args.classes.now),
      IsUnderWay-gap,
    )

abbrev sequence : After-loop-run → Unjoined
sequence c = record {
  runs = map bounds c.args.runs.now;
  e = c.args.directions.embedding;
  sos = c.args.directions.sos;
  eos = c.args.directions.eos;
  old = c.args.classes.now;
  ordered = c.requires.ordered;
  side = c.requires.side;
  resolved = c.requires.resolved;
}

-- the runs are read
read : (c : After-loop-run) → IsUnderWay (sequence c) c.loop-run.classes c.loop-run.join (length c.args.classes.now)
read c =
    simp (start_or-past (map bounds c.args.runs.now) c.loop-run.run (length c.args.classes.now) (omega (arith, c.loop-run-test.false, length-map c.args.runs.now bounds))) at (c.loop-run.invariant.reads (sequence c) refl refl refl refl)

asked : (c : After-stands_for-2) → c.stands_for-2.result ≡ stands_for (opposite_of c.args.directions.embedding) c.args.directions.eos
asked c = grind arith steps 400000

-- the direction at the end is the opposite one
turned : (c : goal.After-classes-then-stands_for-1) → IsFinished (sequence (goal.at.returns-then-stands_for-clause-kept c).After-loop-run) c.write_waiting.new.classes
turned c =
    let before = (goal.at.returns-then-stands_for-clause-kept c).After-loop-run in
    IsFinished-opposite (sequence before) _ _ _ c.requires.eos (sym (asked (goal.at.returns-then-stands_for-clause-kept c).After-stands_for-2) ∙ c.if-stands_for.true)
    (λ waiting. simp (c.loop-run.invariant.opposite, c.loop-run.invariant.long) at (c.write_waiting.ensures.held waiting)) c.write_waiting.ensures.unchanged (read before)

pub returns-then-stands_for-clause-kept : goal.returns-then-stands_for-clause-kept
returns-then-stands_for-clause-kept c = (turned c).answers

pub returns-then-stands_for-clause-outside : goal.returns-then-stands_for-clause-outside
returns-then-stands_for-clause-outside c = (turned c).unseen

pub returns-then-stands_for-clause-own : goal.returns-then-stands_for-clause-own
returns-then-stands_for-clause-own c = (turned c).own

-- or the embedding one
kept : (c : goal.Else-stands_for) → IsFinished (sequence (goal.at.returns-else-stands_for-clause-kept c).After-loop-run) c.loop-run.classes
kept c =
    let before = (goal.at.returns-else-stands_for-clause-kept c).After-loop-run in
    IsFinished-embedding (sequence before) c.loop-run.classes c.loop-run.join c.requires.eos (sym (asked (goal.at.returns-else-stands_for-clause-kept c).After-stands_for-2) ∙ c.if-stands_for.false) (read before)

pub returns-else-stands_for-clause-kept : goal.returns-else-stands_for-clause-kept
returns-else-stands_for-clause-kept c = (kept c).answers

pub returns-else-stands_for-clause-outside : goal.returns-else-stands_for-clause-outside
returns-else-stands_for-clause-outside c = (kept c).unseen

pub returns-else-stands_for-clause-own : goal.returns-else-stands_for-clause-own
returns-else-stands_for-clause-own c = (kept c).own
