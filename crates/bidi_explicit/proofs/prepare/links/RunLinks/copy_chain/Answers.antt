use Rattle.bidi_base.proofs.Common.{◌≡◌, ◌<◌, ◌≤◌, ◌∙◌, ℕ, List, [], ◌∷◌, ◌++◌, None, length, map, take, drop, drop_all, take_all, sym}
use Rattle.bidi_base.proofs.Common.{ap, refl, arith, get_or, get_or_default, length-append, length-map, bounds, Range}
use Rattle.bidi_explicit.specs.Links.{next_run, AreLinked}
use Rattle.bidi_explicit.specs.declared.prepare.links.RunLinks.{RunLinks}
use Rattle.bidi_explicit.proofs.RunGather.{IsWholeChain, IsGathered-start, IsGathered-more, IsGathered-end, copied-kept, copied-more, copied-is}
use Rattle.bidi_explicit.proofs.WalkLemmas.{no_range}
use Rattle.bidi_explicit.proofs.prepare.links.RunLinks.copy_chain.Goals as goal
use Rattle.bidi_explicit.proofs.prepare.links.RunLinks.copy_chain.Goals.{In_default}

-- as many runs as were linked
count : (links : RunLinks) (runs : List (Range ℕ)) → AreLinked links (map bounds runs) → length runs ≡ length links.next.items
count links runs linked = omega (arith, linked.all_next, length-map runs bounds)

pub loop-next-init : goal.loop-next-init
loop-next-init c =
    let links = c.args.self.now in
    let n = length links.next.items in
    let runs : List (Range ℕ) = take n c.args.runs.now.items in
    let linked = c.requires.linked in
    let all = count links runs linked in
    let within : c.args.first < length runs = omega (arith, all, c.requires.first) in
    let r : Range ℕ = get_or runs c.args.first no_range in
    let items : c.push_copy.new.runs.items ≡ runs ++ r ∷ [] = c.in_ok-push_copy.ensures no_range ∙ ap (λ (l : List (Range ℕ)). l ++ get_or l c.args.first no_range ∷ []) (c.truncate.ensures.items ∙ ap (λ (k : ℕ). take k c.args.runs.now.items) (let is : c.len.result ≡ n = grind arith in is)) in
    let same : take n runs ≡ runs = take_all n runs (omega (arith, all)) in
    let room : n ≤ length runs = omega (arith, all) in
    let long = length-map runs bounds in
    rw items (record {
      room = omega (arith, length-append runs (r ∷ []), all);
      kept = copied-kept links runs linked c.args.first long runs n refl same room r;
      came = rw (copied-more links runs linked c.args.first long runs n refl same room r, drop_all n runs (omega (arith, all)))
          (IsGathered-start links runs linked c.args.first long r within (get_or_default runs c.args.first no_range r within));
    })

pub loop-next-preserved : goal.loop-next-preserved
loop-next-preserved c =
    let links = c.args.self.now in
    let n = length links.next.items in
    let runs : List (Range ℕ) = take n c.args.runs.now.items in
    let linked = c.requires.linked in
    let all = count links runs linked in
    let long = length-map runs bounds in
    let list : List (Range ℕ) = c.loop-next.runs.items in
    let h = c.loop-next.invariant in
    let next = c.in-Some.next in
    let leads = sym c.next_run.ensures ∙ c.in-Some.is in
    let within : next < length runs = omega (arith, long, (linked.later _ _ leads).1) in
    let r : Range ℕ = get_or runs next no_range in
    let at = copied-is links runs linked c.args.first long list n refl h.kept h.room next no_range (omega (arith, all, within)) in
    let items : c.push_copy-in-Some.new.runs.items ≡ list ++ r ∷ [] = c.in_ok-push_copy-2.ensures no_range ∙ ap (λ (r : Range ℕ). list ++ r ∷ []) at in
    rw items (record {
      room = omega (arith, length-append list (r ∷ []), h.room);
      kept = copied-kept links runs linked c.args.first long list n refl h.kept h.room r;
      came = rw (copied-more links runs linked c.args.first long list n refl h.kept h.room r)
          (IsGathered-more links runs linked c.args.first long c.loop-next.last next (drop n list) r h.came leads (get_or_default runs next no_range r within));
    })

-- all runs of the chain came
whole : (c : In_default)
    → IsWholeChain c.args.self.now (take (length c.args.self.now.next.items) c.args.runs.now.items) c.requires.linked c.args.first (length-map (take (length c.args.self.now.next.items) c.args.runs.now.items) bounds) c.loop-next.last
    (drop (length c.args.self.now.next.items) c.loop-next.runs.items)
whole c =
    let links = c.args.self.now in
    let runs : List (Range ℕ) = take (length links.next.items) c.args.runs.now.items in
    let none : next_run links.next.items c.loop-next.last ≡ None = sym c.next_run.ensures ∙ c.in_default.is in
    IsGathered-end links runs c.requires.linked c.args.first (length-map runs bounds) c.loop-next.last (drop (length links.next.items) c.loop-next.runs.items) c.loop-next.invariant.came none

pub returns-clause-runs : goal.returns-clause-runs
returns-clause-runs c = (whole c).runs_are

pub returns-clause-last : goal.returns-clause-last
returns-clause-last c = (whole c).final
