use Rattle.bidi_base.proofs.Common.{◌≡◌, ◌≤◌, ◌<◌, ℕ, length, true, false, sym, ap, subst, ◌∙◌, arith, inl, inr, cases_lt, stands_for, class_at}
use Rattle.bidi_base.specs.declared.char_data.BidiClass.{BidiClass}
use Rattle.bidi_rules.specs.PairPass.{opposite_of}
use Rattle.bidi_rules.proofs.JoinWalk.{IsAtOpposite-decided, IsAtOpposite-inert, IsUnderWay-turned}
use Rattle.bidi_rules.proofs.neutral.directions.Join.next_opposite.Goals as goal
use Rattle.bidi_rules.proofs.neutral.directions.Join.next_opposite.Goals.{then-self+else-next-end+else-stands_for, else-self}

pub returns-then-next-end-clause-reads : goal.returns-then-next-end-clause-reads
returns-then-next-end-clause-reads c = grind arith

pub returns-then-stands_for-clause-reads : goal.returns-then-stands_for-clause-reads
returns-then-stands_for-clause-reads c =
    λ s runs_are same inside u. grind (
      arith,
      IsAtOpposite-decided s c.args.classes.now c.args.self.now c.args.at c.args.end inside,
    )

pub returns-clause-reads : goal.returns-clause-reads
returns-clause-reads c = λ s runs_are same inside u.
    let now = c.args.classes.now in
    let at = c.args.at in
    let end = c.args.end in
    let next = c.first_opposite.result in
    let q = c.first_opposite.ensures in
    let fits : end ≤ length s.old = omega (arith, c.requires.inside, u.joined.long) in
    let before : c.if-self.self.opposite ≡ c.args.self.now.opposite → (k : ℕ) → c.if-self.from ≤ k → k < next → stands_for (opposite_of s.e) (class_at now k) ≡ false =
    λ is k a b. ap (λ (d : BidiClass). stands_for d (class_at now k)) (same ∙ sym is) ∙ q.before k a b in
    let there : c.if-self.self.opposite ≡ c.args.self.now.opposite → next < end → stands_for (opposite_of s.e) (class_at now next) ≡ true =
    λ is some. ap (λ (d : BidiClass). stands_for d (class_at now next)) (same ∙ sym is) ∙ q.at some in
    elim c.if-self.branch [
      | then-self+else-next-end+else-stands_for w ↦
          let f = w.first_passing-next.ensures in
          let mid = w.first_passing-next.result in
          let below : mid < end = omega (arith, f.ends, w.if-next-end.false) in
          let is = ap (λ r. r.opposite) w.self-is in
          let other : stands_for (opposite_of s.e) (class_at now mid) ≡ false = ap (λ (d : BidiClass). stands_for d (class_at now mid)) same ∙ sym w.stands_for.ensures ∙ w.if-stands_for.false in
          let turned = IsUnderWay-turned s now c.args.self.now at end inside fits u mid f.begins below f.before (f.at below) other w.if-self.true in
          let behind : (k : ℕ) → mid ≤ k → k < next → stands_for (opposite_of s.e) (class_at now k) ≡ false =
          λ k a b. elim (cases_lt mid k) [
            | inl after ↦ before is k (omega (arith, w.from-is)) b
            | inr upto ↦ let here : mid ≡ k = omega (arith, a, upto) in subst (λ u. stands_for (opposite_of s.e) (class_at now u) ≡ false) here other
          ] in
          IsAtOpposite-inert s now c.if-self.self mid mid next end turned (ap (λ r. r.waits) w.self-is) (omega (arith, q.begins, w.from-is)) q.ends fits behind (there is)
      | else-self w ↦
          let is = ap (λ r. r.opposite) w.self-is in
          let idle : c.args.self.now.waits ≡ false = w.if-self.false in
          IsAtOpposite-inert s now c.if-self.self u.done c.if-self.from next end (simp w.from-is (simp idle at u.joined)) (ap (λ r. r.waits) w.self-is ∙ idle) q.begins q.ends fits (before is) (there is)
    ]
