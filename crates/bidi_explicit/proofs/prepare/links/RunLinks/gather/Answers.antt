-- One run is found as it is; several are copied.
use Rattle.bidi_base.proofs.Common.{◌≡◌, ◌<◌, ◌≤◌, ◌+◌, ◌-◌, ℕ, List, length, map, take, drop, take_all, get_or, not, false, Option, Some, None, is_some}
use Rattle.bidi_base.proofs.Common.{refl, sym, ap, ◌∙◌, arith, Range, get_or_default, length-map, length-take, length-drop, bounds}
use Rattle.bidi_explicit.specs.Links.{next_run, sides_at, AreLinked}
use Rattle.bidi_explicit.specs.declared.prepare.links.RunLinks.{RunLinks}
use Rattle.bidi_explicit.specs.declared.prepare.links.RunSides.{RunSides}
use Rattle.bidi_explicit.proofs.RunGather.{IsWholeChain, copied-one, sequence_at-chain, sequence_at-one, sequence_at-well_formed}
use Rattle.bidi_explicit.proofs.prepare.links.RunLinks.gather.Goals as goal

none_from : (o : Option ℕ) → is_some o ≡ false → o ≡ None
none_from None e = refl
none_from (Some n) e = absurd (cc e)

-- the classes at the ends of a run, as the code reads them
side_is : (links : RunLinks) (runs : List (ℕ × ℕ)) (k : ℕ) (side : RunSides) → AreLinked links runs → k < length links.next.items
    → side ≡ get_or links.sides.items k side → sides_at links.sides.items k ≡ side
side_is links runs k side linked within is =
    get_or_default links.sides.items k _ side (omega (arith, within, linked.all_sides, linked.all_next)) ∙ sym is

pub index-requires-2 : goal.index-requires-2
index-requires-2 c = grind (arith, c.in_ok-last.ensures.inside, c.requires.linked.all_sides, c.requires.linked.all_next)

pub returns-then-is_none-clause-sequence : goal.returns-then-is_none-clause-sequence
returns-then-is_none-clause-sequence c =
    let links = c.args.self.now in
    let n = length links.next.items in
    let list : List (Range ℕ) = c.args.runs.now.items in
    let runs : List (Range ℕ) = take n list in
    let linked = c.requires.linked in
    let first = c.args.first in
    let long = length-map runs bounds in
    let all : n ≡ length runs = omega (arith, linked.all_next, long) in
    let room : n ≤ length list = omega (arith, all, length-take n list) in
    let within : first < length runs = omega (arith, all, c.requires.first) in
    let sos_is = ap (λ (s : RunSides). s.sos) (side_is links (map bounds runs) first c.index.result.now linked c.requires.first c.index.ensures) ∙ c.in-Some.is in
    let eos_is = ap (λ (s : RunSides). s.eos) (side_is links (map bounds runs) first c.index-then-is_none.result.now linked c.requires.first c.index-then-is_none.ensures) in
    let none : next_run links.next.items first ≡ None = sym c.next_run.ensures ∙ none_from c.next_run.result (c.is_none.ensures ∙ ap not c.if-is_none.true) in
    let eos = c.index-then-is_none.result.now.eos in
    let one : List (Range ℕ) = take (first + 1 - first) (drop first list) in
    let is = sequence_at-one links runs linked first long within c.in-Some.sos eos sos_is one (copied-one links runs linked first long list n refl refl room first c.requires.first all) none eos_is in
    rw c.new.ensures (record {
      ordered = omega arith;
      inside = omega (arith, room, c.requires.first);
      is = is;
      well_formed = sequence_at-well_formed links runs linked first long within c.in-Some.sos eos sos_is one is;
    })

pub returns-clause-sequence : goal.returns-clause-sequence
returns-clause-sequence c =
    let links = c.args.self.now in
    let n = length links.next.items in
    let runs : List (Range ℕ) = take n c.args.runs.now.items in
    let linked = c.requires.linked in
    let first = c.args.first in
    let last = c.in_ok-last.last in
    let long = length-map runs bounds in
    let all : n ≡ length runs = omega (arith, linked.all_next, long) in
    let within : first < length runs = omega (arith, all, c.requires.first) in
    let list : List (Range ℕ) = c.copy_chain.new.runs.items in
    let came = c.in_ok-last.ensures in
    let room : n ≤ length list = omega (arith, all, long, length-take n list, length-map (take n list) bounds, ap (λ (l : List (ℕ × ℕ)). length l) came.outside) in
    let sos_is = ap (λ (s : RunSides). s.sos) (side_is links (map bounds runs) first c.index.result.now linked c.requires.first c.index.ensures) ∙ c.in-Some.is in
    let eos_is = ap (λ (s : RunSides). s.eos) (side_is links (map bounds runs) last c.index-2.result.now linked came.inside c.index-2.ensures) in
    let eos = c.index-2.result.now.eos in
    let start_is : c.len.result ≡ n = grind arith in
    let end_is : c.len-2.result ≡ length list = grind arith in
    let cut : take (length list - n) (drop n list) ≡ drop n list = take_all (length list - n) (drop n list) (omega (arith, length-drop n list)) in
    let whole : IsWholeChain links runs linked first long last (drop n list) =
    record { runs_are = came.runs; final = came.last; within = omega (arith, came.inside, all) } in
    let is = sequence_at-chain links runs linked first long within c.in-Some.sos eos sos_is last (drop n list) whole eos_is in
    rw (c.new-2.ensures, start_is, end_is) (record {
      ordered = room;
      inside = omega arith;
      is = rw cut is;
      well_formed = rw cut (sequence_at-well_formed links runs linked first long within c.in-Some.sos eos sos_is (drop n list) is);
    })
