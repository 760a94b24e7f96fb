use Rattle.bidi_base.proofs.Common.{◌≡◌, ◌∙◌, ℕ, ◌+◌, ◌<◌, ◌≤◌, ◌++◌, Bool, true, false, if◌then◌else◌, List, [], ◌∷◌, length, get_or, drop, drop-cons, drop_all, add-one, sym, ap, arith, append_assoc, append-nil, get_or_default, take_rest, Source}
use Rattle.bidi_controls.specs.Displayed.{plain_line}
use Rattle.bidi_controls.specs.Placeholders.{is_inside_after, is_left, plain_from}
use Rattle.bidi_controls.proofs.placeholders.write_plain.Goals as goal

one : (left : Bool) (c : ℕ) (old plain : List ℕ) → (old ++ (if left then c ∷ [] else [])) ++ plain ≡ old ++ (if left then c ∷ plain else plain)
one true c old plain = append_assoc old (c ∷ []) plain
one false c old plain = ap (λ t. t ++ plain) (append-nil old)

-- one more character
more : (source : Source) (inside next : Bool) (chars : List ℕ) (i c : ℕ) (after old new all : List ℕ) → next ≡ is_inside_after source inside c after → new ≡ old ++ (if is_left source inside c after then c ∷ [] else [])
    → i < length chars → c ≡ get_or chars i c → after ≡ drop (i + 1) chars → old ++ plain_from source inside (drop i chars) ≡ all → new ++ plain_from source next (drop (i + 1) chars) ≡ all
more source inside next chars i c after old new all next_is new_is fits is after_is before =
    let here : drop i chars ≡ c ∷ drop (i + 1) chars = grind (arith, add-one, drop-cons chars i c fits) in
    let rest = drop (i + 1) chars in
    simp (new_is, next_is, after_is) (one (is_left source inside c rest) c old (plain_from source (is_inside_after source inside c rest) rest))
    ∙ ap (λ t. old ++ plain_from source inside t) (sym here) ∙ before

-- after the last one
at_end : (source : Source) (inside : Bool) (chars : List ℕ) (i : ℕ) (old all : List ℕ) → length chars ≤ i → old ++ plain_from source inside (drop i chars) ≡ all → old ≡ all
at_end source inside chars i old all past before = sym (append-nil old) ∙ simp (drop_all i chars past) at before

pub loop-index-preserved : goal.loop-index-preserved
loop-index-preserved g c =
    more (g.D.BidiDataSource.source c.args.data_source.now) c.loop-index.is_inside c.is_inside_after-is_inside.result c.args.chars.now c.loop-index.index _ _ _ _ _
    c.is_inside_after-is_inside.ensures c.in_ok-push_if_left.ensures c.loop-index-test.true (grind (arith, get_or_default)) (take_rest c.args.chars.now (c.loop-index.index + 1)) c.loop-index.invariant

pub returns : goal.returns
unfolding plain_line
returns g c = at_end (g.D.BidiDataSource.source c.args.data_source.now) c.loop-index.is_inside c.args.chars.now c.loop-index.index _ _ (grind arith) c.loop-index.invariant
