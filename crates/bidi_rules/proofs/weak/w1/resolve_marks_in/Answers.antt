use Rattle.bidi_base.proofs.Common.{◌≡◌, ◌+◌, ◌-◌, ◌<◌, ◌≤◌, ℕ, List, false, length, reverse, take, drop, unwrap_or, ◌∙◌, ap, sym, arith, get_or-take, get_or-drop, length-take, length-drop, list_any_at, is_kept_in_place, is_nsm, class_at, nearest}
use Rattle.bidi_base.specs.declared.char_data.BidiClass.{BidiClass}
use Rattle.bidi_base.specs.declared.char_data.BidiClass.TheVariants.{L}
use Rattle.bidi_rules.specs.WeakWalk.{is_any_of, Marks}
use Rattle.bidi_rules.proofs.FoldAny.{fold_any}
use Rattle.bidi_rules.proofs.WeakMarks.{AreMarked-passes}
use Rattle.bidi_rules.proofs.weak.w1.resolve_marks_in.Goals as goal

-- no unit of a block without a mark is one
none_at : (now : List BidiClass) (at n k : ℕ) → is_any_of is_nsm (take n (drop at now)) ≡ false → at + n ≤ length now → at ≤ k → k < at + n → is_nsm (class_at now k) ≡ false
none_at now at n k none fits from below =
    grind (arith, fold_any is_nsm (take n (drop at now)), list_any_at is_nsm (take n (drop at now)) (k - at) L, get_or-take, get_or-drop, length-take, length-drop)

-- such a block is passed
Marks-block : (now : List BidiClass) (last before : BidiClass) (at n : ℕ) → is_any_of is_nsm (take n (drop at now)) ≡ false → at + n ≤ length now
    → before ≡ nearest is_kept_in_place (reverse (take n (drop at now))) last → Marks at (at + n) last before now now
Marks-block now last before at n none fits is runs sos old in_run h =
    rw is (AreMarked-passes runs sos old now last at n h (omega (arith, fits, h.long)) (λ k from below. (in_run k from below, none_at now at n k none fits from below)))

-- one part of a run after another
Marks-more : (start mid end : ℕ) (a b c : BidiClass) (old mid_classes new : List BidiClass) → start ≤ mid → mid ≤ end → Marks start mid a b old mid_classes → Marks mid end b c mid_classes new → Marks start end a c old new
Marks-more start mid end a b c old mid_classes new order within first second runs sos before in_run h =
    second runs sos before (λ k from below. in_run k (omega (arith, from, order)) below) (first runs sos before (λ k from below. in_run k from (omega (arith, below, within))) h)

pub loop-at-preserved : goal.loop-at-preserved
loop-at-preserved g c =
    let h = c.loop-at.invariant in
    let at = c.loop-at.at in
    let now = c.loop-at.classes in
    let last = c.loop-at.last in
    let size : at + 16 - at ≡ 16 = omega arith in
    let none : is_any_of is_nsm (take 16 (drop at now)) ≡ false = simp size at (sym c.is_mark_in.ensures ∙ c.if-is_mark_in.false) in
    let is : c.unwrap_or-last.result ≡ nearest is_kept_in_place (reverse (take 16 (drop at now))) last =
    simp size at (c.unwrap_or-last.ensures ∙ ap (λ o. unwrap_or o last) c.last_kept.ensures) in
    let block = Marks-block now last c.unwrap_or-last.result at 16 none (omega (arith, c.loop-at-test.true, h.end, h.long, c.requires.within)) is in
    record {
      starts = omega (arith, h.starts);
      ends = omega (arith, c.loop-at-test.true, h.ends);
      end = h.end;
      long = h.long;
      marked = Marks-more c.args.run.now.start at (at + 16) c.args.before last c.unwrap_or-last.result c.args.classes.now now now h.starts (omega arith) h.marked block;
      steps_at_least = omega (arith, h.steps_at_least);
      steps_at_most = omega (arith, h.steps_at_most, h.starts);
    }
