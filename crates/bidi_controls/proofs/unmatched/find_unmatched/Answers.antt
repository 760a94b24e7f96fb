use Rattle.bidi_base.proofs.Common.{◌≡◌, ℕ, ◌<◌, length, get_or, map, sym, ap, ◌∙◌, arith, List, length-map, get_or-map, class_at}
use Rattle.bidi_base.specs.declared.char_data.BidiClass.{BidiClass}
use Rattle.bidi_base.specs.declared.char_data.BidiClass.TheVariants.{L}
use Rattle.bidi_controls.proofs.UnmatchedPass.{IsReadSoFar-start, IsReadSoFar-room, IsReadSoFar-more, IsReadSoFar-end}
use Rattle.bidi_controls.proofs.unmatched.find_unmatched.Goals as goal

-- a character of the line, and its class
here : (f : ℕ → BidiClass) (line : List ℕ) (p x : ℕ) (class : BidiClass) → p < length line → x ≡ get_or line p x → class ≡ f x → (p < length (map f line)) × (class_at (map f line) p ≡ class)
here f line p x class fits at is = (rw (length-map line f) fits, get_or-map f line p x L fits ∙ ap f (sym at) ∙ sym is)

pub loop-place-init : goal.loop-place-init
loop-place-init g c =
    grind (arith, IsReadSoFar-start)

pub note_character-requires : goal.note_character-requires
note_character-requires g c =
    let h = here (g.D.BidiDataSource.source c.args.data_source.now).class_of c.args.line.now _ _ _ c.loop-place-test.true c.index-line-place.is c.bidi_class-class.ensures in
    λ q some. omega (arith, IsReadSoFar-room _ _ _ _ c.close-closed.result h.0 c.loop-place.invariant (rw h.1 c.close-closed.ensures.place) q some)

pub loop-place-preserved : goal.loop-place-preserved
loop-place-preserved g c =
    let h = here (g.D.BidiDataSource.source c.args.data_source.now).class_of c.args.line.now _ _ _ c.loop-place-test.true c.index-line-place.is c.bidi_class-class.ensures in
    IsReadSoFar-more _ _ _ _ _ _ _ _ _ h.0 h.1 c.loop-place.invariant c.close-closed.ensures.place c.close-closed.ensures.left c.in_ok-open.ensures c.in_ok-note_character.ensures

pub returns : goal.returns
returns g c =
    grind (arith, length-map, IsReadSoFar-end (map (g.D.BidiDataSource.source c.args.data_source.now).class_of c.args.line.now) c.loop-place.openers)
