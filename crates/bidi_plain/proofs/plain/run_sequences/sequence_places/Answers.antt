use Rattle.bidi_base.proofs.Common.{◌≡◌, map, length, not, [], sym, ap, ◌∙◌, arith, length-map, get_or-map, map-map, with_ends}
use Rattle.bidi_plain.proofs.ListPass.{IsStateAt-removed, HasCome-next, IsStateAt-came, IsStateAt-end, IsStateAt-places}
use Rattle.bidi_plain.proofs.plain.run_sequences.sequence_places.Goals as goal
use Rattle.bidi_plain.proofs.plain.run_sequences.sequence_places.Goals.{then-not-is_removed+in_ok-s+in_ok-came, else-not-is_removed}

pub put-requires : goal.put-requires
put-requires c =
    let came = HasCome-next _ _ c.loop-place.place (map (λ v. v.items) c.loop-place.sequences.items) c.loop-place.waiting.items c.go_on.new.waiting.items c.loop-place.last c.in_ok-s.s c.loop-place.invariant (grind arith) c.loop-place-test.true c.in_ok-s.ensures.read c.in_ok-s.ensures.found in
    rw length-map at came.fits

pub loop-place-preserved : goal.loop-place-preserved
loop-place-preserved c = elim c.if-not-is_removed.branch [
  | then-not-is_removed+in_ok-s+in_ok-came w ↦
      let came = HasCome-next _ _ c.loop-place.place (map (λ v. v.items) c.loop-place.sequences.items) c.loop-place.waiting.items w.go_on.new.waiting.items c.loop-place.last w.in_ok-s.s
      c.loop-place.invariant (grind arith) c.loop-place-test.true w.in_ok-s.ensures.read w.in_ok-s.ensures.found in
      rw (w.sequences-is, w.waiting-is) (IsStateAt-came _ _ _ _ _ _ _ _ _ came w.in_ok-came.ensures.grown w.in_ok-came.ensures.index w.last-is)
  | else-not-is_removed w ↦
      rw (w.sequences-is, w.waiting-is, w.last-is) (IsStateAt-removed _ _ _ _ _ _ c.loop-place.invariant (ap not (sym c.is_removed.ensures ∙ w.if-not-is_removed.false)))
]

pub returns-clause-all : goal.returns-clause-all
returns-clause-all c = λ paragraph. rw (← map-map (with_ends paragraph c.args.classes.now c.args.levels.now) (λ v. v.items) c.loop-place.sequences.items) (IsStateAt-end _ _ _ _ _ (rw (let e : c.loop-place.place ≡ length c.args.classes.now = omega arith in e) at c.loop-place.invariant) paragraph)

pub returns-clause-places : goal.returns-clause-places
returns-clause-places c k d within = rw (← get_or-map (λ v. v.items) c.loop-place.sequences.items k d [] within) (IsStateAt-places _ _ _ _ _ _ c.loop-place.invariant k (simp length-map within))
