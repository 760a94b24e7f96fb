use Rattle.bidi_base.proofs.Common.{◌≡◌, ◌<◌, length, map, find, Some, refl, sym, ap, ◌∙◌, arith, rules, get_or_default, is_kept_in_place, direction_of, class_at, bounds, units_in_runs}
use Rattle.bidi_base.proofs.UnitsLemmas.{length-from_is_per_char}
use Rattle.bidi_base.specs.InPlace.{CanResolveNeutrals}
use Rattle.bidi_text.proofs.PerCharTests.{class_eq, class_test}
use Rattle.bidi_rules.specs.NeutralPass.{IsReady}
use Rattle.bidi_explicit.specs.RunSequence.{borrowed_runs, borrowed_sos, borrowed_eos}
use Rattle.bidi_rules.proofs.NeutralSteps.{IsReady-sequence, IsUpToN1, runs-within, first-is, first-within}
use Rattle.bidi_rules.proofs.ResolvedUnits.{resolved-none, IsResolved, IsResolved-alike, IsResolved-decided}
use Rattle.bidi_rules.proofs.neutral.NeutralResolver.resolve.Given.{Over}
use Rattle.bidi_rules.proofs.neutral.NeutralResolver.resolve.Goals as goal
use Rattle.bidi_rules.proofs.neutral.NeutralResolver.resolve.Goals.{After-runs-runs, In-Some}

-- what the borrowed sequence fits
given : (g : Over) (c : After-runs-runs g)
    → CanResolveNeutrals g.T.TextSource.encoding.len_of (g.T.TextSource.text c.args.text).chars (map bounds (borrowed_runs c.borrowed-borrowed.result)) c.args.levels.now c.args.original_classes.now c.args.processing_classes.now
given g c = rw c.borrowed-borrowed.ensures.runs c.requires

ready : (g : Over) (c : After-runs-runs g) → IsReady g.T.TextSource.encoding.len_of (g.T.TextSource.text c.args.text).chars (borrowed_runs c.borrowed-borrowed.result) (borrowed_sos c.borrowed-borrowed.result) c.args.processing_classes.now
ready g c =
    IsReady-sequence g.T.TextSource.encoding.len_of g.T.TextSource.encoding.positive (g.T.TextSource.text c.args.text).chars c.borrowed-borrowed.result (borrowed_runs c.borrowed-borrowed.result) (borrowed_sos c.borrowed-borrowed.result) c.args.processing_classes.now refl refl
    (given g c).per_char (given g c).are_lines (given g c).resolved

pub first_kept-requires : goal.first_kept-requires
first_kept-requires g c =
    rw c.runs-runs.ensures (runs-within g.T.TextSource.encoding.len_of g.T.TextSource.encoding.positive (g.T.TextSource.text c.args.text).chars (borrowed_runs c.borrowed-borrowed.result) (borrowed_sos c.borrowed-borrowed.result) c.args.processing_classes.now (ready g (goal.at.first_kept-requires g c).After-runs-runs))

-- the runs at hand are those of the sequence
found : (g : Over) (c : In-Some g) → Some c.in-Some.first ≡ find (λ u. is_kept_in_place (class_at c.args.processing_classes.now u)) (units_in_runs (map bounds (borrowed_runs c.borrowed-borrowed.result)))
found g c = grind arith

within : (g : Over) (c : In-Some g) → c.in-Some.first < length c.args.levels.now
within g c =
    grind (
      arith,
      first-within g.T.TextSource.encoding.len_of g.T.TextSource.encoding.positive (g.T.TextSource.text c.args.text).chars (borrowed_runs c.borrowed-borrowed.result) (borrowed_sos c.borrowed-borrowed.result) c.args.processing_classes.now (ready g (goal.at.bounds-levels-first g c).After-runs-runs) c.in-Some.first (found g c),
      ready g (goal.at.bounds-levels-first g c).After-runs-runs,
      found g c,
    )

pub bounds-levels-first : goal.bounds-levels-first
bounds-levels-first g c = within g c

pub returns-in_default : goal.returns-in_default
returns-in_default g c =
    let none = simp c.runs-runs.ensures at (sym c.in_default.is ∙ c.first_kept.ensures) in
    record {
      resolved = IsResolved-alike _ _ _ _ _ _ _ _ _ _ _ _ _ c.borrowed-borrowed.ensures.runs c.borrowed-borrowed.ensures.sos c.borrowed-borrowed.ensures.eos
          (resolved-none g.T.TextSource.encoding.len_of g.T.TextSource.encoding.positive (g.T.TextSource.text c.args.text).chars (g.D.BidiDataSource.source c.args.data_source.now) c.args.levels.now c.args.original_classes.now c.args.processing_classes.now
          (borrowed_runs c.borrowed-borrowed.result) (borrowed_sos c.borrowed-borrowed.result) (borrowed_eos c.borrowed-borrowed.result) c.requires.per_char (ready g (goal.at.returns-in_default g c).After-runs-runs) none);
      unchanged = grind arith;
    }

pub invariant_of-leveled : goal.invariant_of-leveled
invariant_of-leveled g c =
    let e = g.T.TextSource.encoding in
    let long = length-from_is_per_char class_eq class_test e.len_of e.positive _ _ c.requires.per_char in
    record { class_each = c.requires.original ∙ long; level_each = c.requires.levels ∙ long }

pub resolve_up_to_n1-requires : goal.resolve_up_to_n1-requires
resolve_up_to_n1-requires g c = given g (goal.at.resolve_up_to_n1-requires g c).After-runs-runs

pub apply_n2-requires : goal.apply_n2-requires
apply_n2-requires g c = search (rules, first_kept-requires)

-- N2 is done
resolved : (g : Over) (c : goal.After-processing_classes-2-1 g)
    → IsResolved g.T.TextSource.encoding.len_of (g.T.TextSource.text c.args.text).chars (g.D.BidiDataSource.source c.args.data_source.now) c.args.levels.now c.args.original_classes.now c.args.processing_classes.now c.apply_n2.new.classes
    (borrowed_runs c.borrowed-borrowed.result) (borrowed_sos c.borrowed-borrowed.result) (borrowed_eos c.borrowed-borrowed.result)
resolved g c =
    let first = (goal.at.returns g c).In-Some in
    let r = ready g (goal.at.returns g c).After-runs-runs in
    let units = g.T.TextSource.encoding.len_of in
    let chars = (g.T.TextSource.text c.args.text).chars in
    let runs = borrowed_runs c.borrowed-borrowed.result in
    let sos = borrowed_sos c.borrowed-borrowed.result in
    let old = c.args.processing_classes.now in
    let now = c.resolve_up_to_n1.new.processing_classes in
    let up : IsUpToN1 units chars (g.D.BidiDataSource.source c.args.data_source.now) c.args.levels.now c.args.original_classes.now old now runs sos (borrowed_eos c.borrowed-borrowed.result) =
    grind arith in
    IsResolved-decided units g.T.TextSource.encoding.positive chars runs sos (borrowed_eos c.borrowed-borrowed.result) (g.D.BidiDataSource.source c.args.data_source.now) c.args.levels.now c.args.original_classes.now old r now c.apply_n2.new.classes up
    c.bidi_class-embedding.result
    (simp (c.bidi_class-embedding.ensures, first-is units g.T.TextSource.encoding.positive chars runs sos old r c.in-Some.first (found g first)) (ap direction_of (c.index-levels-first.is ∙ get_or_default c.args.levels.now c.in-Some.first c.index-levels-first.result 0 (within g first))))
    (simp (ap (map bounds) c.runs-runs.ensures) at c.apply_n2.ensures)

pub returns : goal.returns
returns g c = record {
  resolved = IsResolved-alike _ _ _ _ _ _ _ _ _ _ _ _ _ c.borrowed-borrowed.ensures.runs c.borrowed-borrowed.ensures.sos c.borrowed-borrowed.ensures.eos (resolved g c);
  unchanged = grind arith;
}
