use Rattle.bidi_base.proofs.Common.{◌≡◌, ℕ, ◌-◌, ◌<◌, ◌≤◌, true, false, List, length, get_or, set, sym, ◌∙◌, arith, inl, inr, cases_lt, get_or_default, class_at, length-set, is_separator}
use Rattle.bidi_lines.specs.ResetStops.{is_stop}
use Rattle.bidi_lines.proofs.LineLevels.{IsSweptTo-start, IsSweptTo-removed, IsSweptTo-plain, IsSweptTo-no_break, IsSweptTo-separator, IsSweptTo-end, AreLastBlanks, level_before}
use Rattle.bidi_lines.proofs.line_levels.reset_levels.Goals as goal

pub loop-at-init : goal.loop-at-init
loop-at-init g c = record { swept = IsSweptTo-start c.args.para_level (g.C.ClassList.classes c.args.classes) c.args.levels.now; ends = omega arith }

pub loop-at-preserved-then-is_separator : goal.loop-at-preserved-then-is_separator
loop-at-preserved-then-is_separator g c =
    let apart : is_separator (class_at (g.C.ClassList.classes c.args.classes) c.loop-at.at) ≡ true = grind arith in
    let b : AreLastBlanks (g.C.ClassList.classes c.args.classes) c.loop-at.start c.loop-at.at c.blanks_start-blanks.result = grind arith in
    record {
      swept = IsSweptTo-separator _ _ _ c.loop-at.levels _ _ c.loop-at.before _ _ b c.loop-at.invariant.swept (omega (arith, c.loop-at-test.true)) apart (grind arith);
      ends = omega (arith, c.loop-at-test.true);
    }

-- the level before an index that is not the first
level_before-at : (level : ℕ) (levels : List ℕ) (i d read : ℕ) → 0 < i → i ≤ length levels → read ≡ get_or levels (i - 1) d → read ≡ level_before level levels i
level_before-at level levels i d read some fits e = grind (arith, get_or_default levels (i - 1) d 0)

pub loop-at-preserved-then-is_removed : goal.loop-at-preserved-then-is_removed
loop-at-preserved-then-is_removed g c =
    let f = c.next_break-at.ensures in
    let at = c.loop-at.at in
    let long = length-set c.loop-at.levels at c.loop-at.before in
    let read = level_before-at c.args.para_level (set c.loop-at.levels at c.loop-at.before) c.next_break-at.result c.index-levels-at.result c.index-levels-at.result
    (omega (arith, f.begins)) (omega (arith, f.ends, long)) c.index-levels-at.is in
    let one = IsSweptTo-removed c.args.para_level (g.C.ClassList.classes c.args.classes) c.args.levels.now c.loop-at.levels c.loop-at.start c.loop-at.before at (grind arith)
    (grind arith) c.loop-at.invariant.swept in
    record {
      swept = rw read (IsSweptTo-no_break _ _ _ _ _ c.loop-at.before _ _ (omega arith) f.begins f.before one);
      ends = grind arith;
    }

pub loop-at-preserved : goal.loop-at-preserved
loop-at-preserved g c =
    let f = c.next_stop-at.ensures in
    let here : is_stop (class_at (g.C.ClassList.classes c.args.classes) c.loop-at.at) ≡ false =
    rw (← c.class_at-class.ensures) (simp (sym c.is_separator.ensures ∙ c.if-is_separator.false, sym c.is_removed.ensures ∙ c.if-is_removed.false)) in
    let read = level_before-at c.args.para_level c.loop-at.levels c.next_stop-at.result c.index-levels-at-else-is_removed.result c.index-levels-at-else-is_removed.result
    (omega (arith, f.begins)) (omega (arith, f.ends, c.requires, c.loop-at.auto.levels)) c.index-levels-at-else-is_removed.is in
    record {
      swept = rw read (IsSweptTo-plain _ _ _ _ _ c.loop-at.before _ _ (omega (arith, f.begins)) (λ k from below. elim (cases_lt c.loop-at.at k) [
        | inl past ↦ f.before k (omega arith) below
        | inr same ↦ let e : k ≡ c.loop-at.at = omega arith in simp (e, here)
      ]) c.loop-at.invariant.swept);
      ends = f.ends;
    }

pub returns : goal.returns
returns g c =
    let b : AreLastBlanks (g.C.ClassList.classes c.args.classes) c.loop-at.start c.loop-at.at c.blanks_start-blanks-2.result = grind arith in
    IsSweptTo-end _ _ _ c.loop-at.levels _ _ c.loop-at.before _ _ b c.loop-at.invariant.swept (omega (arith, c.loop-at-test.false, c.loop-at.invariant.ends)) c.requires (grind arith)
