use Rattle.bidi_base.proofs.Common.{◌≡◌, ◌+◌, ◌≤◌, ℕ, List, length, map, get_or, sym, ap, subst, ◌∙◌, arith, length-map, take_all, is_nsm, unit_index, text_len, bounds, kept_in_place}
use Rattle.bidi_base.proofs.UnitIndexLemmas.{unit_index-mono}
use Rattle.bidi_rules.specs.PairPass.{unit_index_at, IsSet}
use Rattle.bidi_rules.proofs.NeutralSteps.{runs-within}
use Rattle.bidi_rules.proofs.PairPlaces.{pair_at}
use Rattle.bidi_rules.proofs.PairSteps.{IsWalkedTo-start, IsWalkedTo-none, IsWalkedTo-set, IsAnswered-taken, Stands, stands}
use Rattle.bidi_rules.proofs.RowLemmas.{IsRow-none}
use Rattle.bidi_rules.proofs.neutral.pairs.resolve_pairs.Given.{Over}
use Rattle.bidi_rules.proofs.neutral.pairs.resolve_pairs.Goals as goal
use Rattle.bidi_rules.proofs.neutral.pairs.resolve_pairs.Goals.{In-loop-pair, in-Some, in_default}

pub loop-pair-init : goal.loop-pair-init
loop-pair-init g c = (
  λ h ready side long found nested is.
      IsWalkedTo-start g.T.TextSource.encoding.len_of h (g.T.TextSource.text c.args.text).chars c.args.sequence.original_classes.now c.args.sequence.runs.now c.args.directions.sos c.args.classes.now ready c.args.directions.embedding side long found nested c.new-walk.result c.new-walk.ensures,
  rw c.new-row.ensures (IsRow-none g.T.TextSource.encoding.len_of (g.T.TextSource.text c.args.text).chars (map bounds c.args.sequence.runs.now) c.args.sequence.original_classes.now c.args.classes.now c.args.directions.embedding),
)

-- where the pair stands
here : (g : Over) (c : In-loop-pair g)
    → Stands g.T.TextSource.encoding.len_of g.T.TextSource.encoding.positive (g.T.TextSource.text c.args.text).chars c.args.sequence.original_classes.now c.args.sequence.runs.now c.args.directions.sos c.args.classes.now c.requires.ready c.args.directions.embedding c.requires.side c.requires.original c.requires.pairs.0 c.requires.pairs.1 (get_or c.args.pairs.now c.loop-pair.pair-index (0, 0)) c.loop-pair.pair-index
here g c = search (arith, stands)

long : (g : Over) (c : In-loop-pair g) → length c.args.classes.now ≡ text_len g.T.TextSource.encoding.len_of (g.T.TextSource.text c.args.text).chars
long g c = grind arith steps 400000

pub place_of-first-requires-clause-begins : goal.place_of-first-requires-clause-begins
place_of-first-requires-clause-begins g c = (here g (goal.at.place_of-first-requires-clause-begins g c).In-loop-pair).first_begins

pub place_of-first-requires-clause-inside : goal.place_of-first-requires-clause-inside
place_of-first-requires-clause-inside g c = (here g (goal.at.place_of-first-requires-clause-inside g c).In-loop-pair).first_inside

pub place_of-last-requires-clause-begins : goal.place_of-last-requires-clause-begins
place_of-last-requires-clause-begins g c = (here g (goal.at.place_of-last-requires-clause-begins g c).In-loop-pair).last_begins

pub place_of-last-requires-clause-inside : goal.place_of-last-requires-clause-inside
place_of-last-requires-clause-inside g c = (here g (goal.at.place_of-last-requires-clause-inside g c).In-loop-pair).last_inside

pub bounds-original_classes-opening : goal.bounds-original_classes-opening
bounds-original_classes-opening g c =
    let loop = (goal.at.bounds-original_classes-opening g c).In-loop-pair in
    omega (arith, (here g loop).first_inside, long g loop, c.requires.original)

pub pair_direction-taken-requires-clause-runs : goal.pair_direction-taken-requires-clause-runs
pair_direction-taken-requires-clause-runs g c =
    rw c.loop-pair.auto.classes (runs-within g.T.TextSource.encoding.len_of g.T.TextSource.encoding.positive (g.T.TextSource.text c.args.text).chars c.args.sequence.runs.now c.args.directions.sos c.args.classes.now c.requires.ready)

pub pair_direction-taken-requires-clause-inside : goal.pair_direction-taken-requires-clause-inside
pair_direction-taken-requires-clause-inside g c =
    let st = here g (goal.at.pair_direction-taken-requires-clause-inside g c).In-loop-pair in
    grind (arith, st.first_place, c.place_of-first.ensures.is.ends _ st.first_within (c.place_of-first.ensures.unit ∙ st.first_place), unit_index-mono g.T.TextSource.encoding.len_of (g.T.TextSource.text c.args.text).chars)

pub pair_direction-taken-requires-clause-closing : goal.pair_direction-taken-requires-clause-closing
pair_direction-taken-requires-clause-closing g c =
    let loop = (goal.at.pair_direction-taken-requires-clause-closing g c).In-loop-pair in
    omega (arith, (here g loop).last_inside, long g loop, c.loop-pair.auto.classes)

pub set_direction-requires : goal.set_direction-requires
set_direction-requires g c =
    let st = here g (goal.at.set_direction-requires g c).In-loop-pair in
    record {
      fits = record {
        lines = c.requires.ready.are_lines;
        ordered = c.requires.ready.ordered;
        long = grind arith steps 400000;
        stored = grind arith steps 400000;
        begins = rw c.place_of-first.ensures.unit st.first_begins;
        inside = rw c.place_of-first.ensures.unit st.first_inside;
        place = c.place_of-first.ensures.is;
      };
      last = c.loop-pair.invariant.1;
    }

pub set_direction-requires-in-Some : goal.set_direction-requires-in-Some
set_direction-requires-in-Some g c =
    let st = here g (goal.at.set_direction-requires-in-Some g c).In-loop-pair in
    record {
      fits = record {
        lines = c.requires.ready.are_lines;
        ordered = c.requires.ready.ordered;
        long = grind arith steps 400000;
        stored = grind arith steps 400000;
        begins = rw c.place_of-last.ensures.unit st.last_begins;
        inside = rw c.place_of-last.ensures.unit st.last_inside;
        place = c.place_of-last.ensures.is;
      };
      last = c.set_direction.ensures.row;
    }

pub loop-pair-preserved : goal.loop-pair-preserved
loop-pair-preserved g c = (
  λ h ready side long found nested is.
      let len_of = g.T.TextSource.encoding.len_of in
      let chars : List ℕ = (g.T.TextSource.text c.args.text).chars in
      let a = c.args in
      let s = c.loop-pair in
      let k = s.pair-index in
      let e = a.directions.embedding in
      let sos = a.directions.sos in
      let old = a.classes.now in
      let original = a.sequence.original_classes.now in
      let runs = a.sequence.runs.now in
      let ks = kept_in_place len_of chars old (map bounds runs) in
      let i = (pair_at found k).0 in
      let j = (pair_at found k).1 in
      let st = stands len_of h chars original runs sos old ready e side long found nested a.pairs.now is k c.loop-pair-test.true in
      let w = s.invariant.0 h ready side long found nested is in
      let opening = c.place_of-first.ensures in
      let inside : c.place_of-first.result.end ≡ unit_index len_of chars (get_or ks i 0 + 1) = opening.is.ends (get_or ks i 0) st.first_within (opening.unit ∙ st.first_place) in
      let answer = IsAnswered-taken len_of h chars original runs sos old ready e side long found nested s.classes k st.fits s.walk c.pair_direction-taken.new.self w c.pair_direction-taken.result
      (rw (sym st.first, sym st.last, sym inside, sym (c.is_nsm.ensures ∙ ap is_nsm (sym st.class_is))) c.pair_direction-taken.ensures.taken) in
      elim c.match-taken.branch [
        | in-Some b ↦
            rw b.classes-is
            (IsWalkedTo-set len_of h chars original runs sos old ready e side long found nested s.classes k st.fits s.walk c.pair_direction-taken.new.self w c.pair_direction-taken.result b.in-Some.direction b.set_direction.new.classes b.set_direction-in-Some.new.classes answer b.in-Some.is
            (c.pair_direction-taken.ensures.embedding ∙ w.embedding_is) (c.pair_direction-taken.ensures.opposite ∙ w.opposite_is)
            (subst (λ u. IsSet len_of chars (map bounds runs) original b.in-Some.direction u (get_or ks i 0 + 1) s.classes b.set_direction.new.classes) (opening.unit ∙ st.first) (b.set_direction.ensures.set (get_or ks i 0) st.first_within (opening.unit ∙ st.first_place)))
            (subst (λ u. IsSet len_of chars (map bounds runs) original b.in-Some.direction u (get_or ks j 0 + 1) b.set_direction.new.classes b.set_direction-in-Some.new.classes) (b.place_of-last.ensures.unit ∙ st.last) (b.set_direction-in-Some.ensures.set (get_or ks j 0) st.last_within (b.place_of-last.ensures.unit ∙ st.last_place))))
        | in_default b ↦
            rw b.classes-is
            (IsWalkedTo-none len_of h chars original runs sos old ready e side long found nested s.classes k st.fits s.walk c.pair_direction-taken.new.self w c.pair_direction-taken.result answer b.in_default.is
            (c.pair_direction-taken.ensures.embedding ∙ w.embedding_is) (c.pair_direction-taken.ensures.opposite ∙ w.opposite_is))
      ],
  elim c.match-taken.branch [
    | in-Some b ↦ rw (b.classes-is, b.row-is) b.set_direction-in-Some.ensures.row
    | in_default b ↦ rw (b.classes-is, b.row-is) c.loop-pair.invariant.1
  ],
)

pub returns : goal.returns
returns g c = λ found nested is.
    let len_of = g.T.TextSource.encoding.len_of in
    let chars : List ℕ = (g.T.TextSource.text c.args.text).chars in
    let a = c.args in
    let ks = kept_in_place len_of chars a.classes.now (map bounds a.sequence.runs.now) in
    let w = c.loop-pair.invariant.0 g.T.TextSource.encoding.positive c.requires.ready c.requires.side c.requires.original found nested is in
    let all : length found ≤ c.loop-pair.pair-index = omega (arith, ap length is, length-map found (λ (p : ℕ × ℕ). let q : ℕ × ℕ = (unit_index_at len_of chars ks p.0, unit_index_at len_of chars ks p.1) in q), c.loop-pair-test.false) in
    simp (take_all c.loop-pair.pair-index found all) at w.done
