use Rattle.bidi_base.proofs.Common.{◌≡◌, Bool, false, refl, sym, ◌-◌, ◌≤◌, ◌+◌, ℕ, List, length, map, take, drop, min, subst, arith, both_ways, All, length-map, take_all, Range, bounds, in_runs}
use Rattle.bidi_base.specs.declared.char_data.BidiClass.{BidiClass}
use Rattle.bidi_rules.specs.PairPass.{IsSearched}
use Rattle.bidi_rules.specs.declared.neutral.pairs.Pair.{Pair}
use Rattle.bidi_explicit.proofs.RunOf.{ends-later}
use Rattle.bidi_explicit.proofs.WalkLemmas.{are_ordered-take, forwards-in_order, map-take, part_after}
use Rattle.bidi_rules.proofs.neutral.pairs.PairPass.pair_direction.Goals as goal

-- what is asked of the runs from one on is asked of all
later : (runs : List (Range ℕ)) (r : ℕ) (d : BidiClass) (classes : List BidiClass) (pair : Pair) (known next : ℕ) (answer : Bool)
    → ((k : ℕ) → pair.opening ≤ k → in_runs (drop r (map bounds runs)) k ≡ in_runs (map bounds runs) k) → pair.opening ≤ pair.inside
    → IsSearched d (map bounds (take (length runs - r) (drop r runs))) classes pair known next answer → IsSearched d (map bounds runs) classes pair known next answer
later runs r d classes pair known next answer same order a = grind (arith, part_after)

pub returns-then-is_inside-clause-taken : goal.returns-then-is_inside-clause-taken
returns-then-is_inside-clause-taken c =
    let yes' = c.if-is_inside.true in
    record {
      embedding = c.is_inside.result;
      opposite = false;
      context = c.args.self.now.embedding.direction;
      searched = grind (arith, later);
      searched_opposite = λ none. absurd (both_ways c.is_inside.result none yes');
      idle = λ _. refl;
      nearest = λ none some. absurd (both_ways c.is_inside.result none yes');
      is = grind arith;
    }

front : (runs : List (Range ℕ)) (upto r : ℕ) → upto ≡ min (length runs) (r + 1) → map bounds (take upto runs) ≡ take (r + 1) (map bounds runs)
front runs upto r is = grind (arith, map-take, length-map, take_all)

pub is_inside-requires-clause-ordered : goal.is_inside-requires-clause-ordered
is_inside-requires-clause-ordered c = grind (arith, forwards-in_order) steps 400000

pub is_inside-requires-2-clause-ordered : goal.is_inside-requires-2-clause-ordered
is_inside-requires-2-clause-ordered c = grind (arith, forwards-in_order) steps 400000

pub direction_before-requires-clause-ordered : goal.direction_before-requires-clause-ordered
direction_before-requires-clause-ordered c = grind (arith, front, are_ordered-take)

pub direction_before-requires-clause-inside : goal.direction_before-requires-clause-inside
direction_before-requires-clause-inside c =
    subst (λ (rs : List (ℕ × ℕ)). All (λ (r : ℕ × ℕ). r.1 ≤ length c.args.classes.now) rs) (sym (front c.args.runs.now c.min-upto.result c.args.run c.min-upto.ensures))
    (ends-later (length c.args.classes.now) (c.args.run + 1) (map bounds c.args.runs.now) c.requires.runs)

pub returns-then-is_inside-2-clause-taken : goal.returns-then-is_inside-2-clause-taken
returns-then-is_inside-2-clause-taken c = grind (arith, later, front)

pub returns-clause-taken : goal.returns-clause-taken
returns-clause-taken c =
    record {
      embedding = c.is_inside.result;
      opposite = c.is_inside-2.result;
      context = c.args.self.now.embedding.direction;
      searched = grind (arith, later);
      searched_opposite = λ _. grind (arith, later);
      idle = λ some. absurd (both_ways c.is_inside.result c.if-is_inside.false some);
      nearest = λ _ some. absurd (both_ways c.is_inside-2.result c.if-is_inside-2.false some);
      is = grind arith;
    }
