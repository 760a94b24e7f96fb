use Rattle.bidi_base.proofs.Common.{◌≡◌, ◌<◌, ℕ, List, true, length, text_len, Source, refl, sym, ap, ◌∙◌, arith, get_or_default, is_l_or_r, direction_of, level_at}
use Rattle.bidi_rules.proofs.OneDirection.{IsUpToN1-one}
use Rattle.bidi_laws.proofs.NeutralLemmas.{direction_of-l_or_r}
use Rattle.bidi_explicit.specs.RunSequence.{borrowed_runs, borrowed_sos, borrowed_eos}
use Rattle.bidi_rules.proofs.NeutralSteps.{eos-side, long, IsUpToN1, IsReady-sequence, runs-within, first-within, mid-within, mid-resolved, IsUpToN1-none, IsUpToN1-paired, IsUpToN1-sequence}
use Rattle.bidi_rules.specs.NeutralPass.{pairs_in, IsPaired, IsReady}
use Rattle.bidi_rules.proofs.Gathered.{pairs-nested, pairs-placed}
use Rattle.bidi_rules.proofs.neutral.resolve_up_to_n1.Given.{Over}
use Rattle.bidi_rules.proofs.neutral.resolve_up_to_n1.Goals as goal
use Rattle.bidi_rules.proofs.neutral.resolve_up_to_n1.Goals.{After-sos-sos, After-eos-eos, After-resolve_pairs, After-resolve_opposite}

ready : (g : Over) (c : After-sos-sos g) → IsReady g.T.TextSource.encoding.len_of (g.T.TextSource.text c.args.leveled.now.text).chars c.runs-runs.result.now c.sos-sos.result c.args.processing_classes.now
ready g c = IsReady-sequence g.T.TextSource.encoding.len_of g.T.TextSource.encoding.positive (g.T.TextSource.text c.args.leveled.now.text).chars c.args.sequence c.runs-runs.result.now c.sos-sos.result c.args.processing_classes.now c.runs-runs.ensures c.sos-sos.ensures c.requires.per_char c.requires.are_lines c.requires.resolved

units_long : (g : Over) (c : After-sos-sos g) → length c.args.processing_classes.now ≡ text_len g.T.TextSource.encoding.len_of (g.T.TextSource.text c.args.leveled.now.text).chars
units_long g c = long g.T.TextSource.encoding.len_of g.T.TextSource.encoding.positive (g.T.TextSource.text c.args.leveled.now.text).chars c.runs-runs.result.now c.sos-sos.result c.args.processing_classes.now (ready g c)

-- what is at the first unit that is kept
begins : (g : Over) (c : After-eos-eos g)
    → IsReady g.T.TextSource.encoding.len_of (g.T.TextSource.text c.args.leveled.now.text).chars c.runs-runs.result.now c.sos-sos.result c.args.processing_classes.now
    → c.bidi_class-embedding.result ≡ direction_of (level_at c.args.leveled.now.levels.now c.in-Some.first)
begins g c r =
    let found = sym c.in-Some.is ∙ c.first_kept.ensures in
    let within : c.in-Some.first < length c.args.leveled.now.levels.now = omega (arith, first-within g.T.TextSource.encoding.len_of g.T.TextSource.encoding.positive (g.T.TextSource.text c.args.leveled.now.text).chars c.runs-runs.result.now c.sos-sos.result c.args.processing_classes.now r c.in-Some.first found, c.requires.levels) in
    c.bidi_class-embedding.ensures ∙ ap direction_of (c.index-levels-first.is ∙ get_or_default c.args.leveled.now.levels.now c.in-Some.first c.index-levels-first.result 0 within)

-- the embedding direction is L or R
side : (g : Over) (c : After-eos-eos g)
    → IsReady g.T.TextSource.encoding.len_of (g.T.TextSource.text c.args.leveled.now.text).chars c.runs-runs.result.now c.sos-sos.result c.args.processing_classes.now
    → is_l_or_r c.bidi_class-embedding.result ≡ true
side g c r = ap is_l_or_r (begins g c r) ∙ direction_of-l_or_r (level_at c.args.leveled.now.levels.now c.in-Some.first)

pub first_kept-requires : goal.first_kept-requires
first_kept-requires g c =
    runs-within g.T.TextSource.encoding.len_of g.T.TextSource.encoding.positive (g.T.TextSource.text c.args.leveled.now.text).chars c.runs-runs.result.now c.sos-sos.result c.args.processing_classes.now (ready g (goal.at.first_kept-requires g c).After-sos-sos)

pub stands_alone-requires : goal.stands_alone-requires
stands_alone-requires g c =
    runs-within g.T.TextSource.encoding.len_of g.T.TextSource.encoding.positive (g.T.TextSource.text c.args.leveled.now.text).chars c.runs-runs.result.now c.sos-sos.result c.args.processing_classes.now (ready g (goal.at.stands_alone-requires g c).After-sos-sos)

pub returns-in_default : goal.returns-in_default
returns-in_default g c =
    let eos = borrowed_eos c.args.sequence in
    record {
      resolved = IsUpToN1-sequence g.T.TextSource.encoding.len_of (g.T.TextSource.text c.args.leveled.now.text).chars (g.D.BidiDataSource.source c.args.data_source.now) c.args.leveled.now.levels.now c.args.leveled.now.original_classes.now c.args.processing_classes.now c.args.processing_classes.now c.args.sequence c.runs-runs.result.now c.sos-sos.result eos c.runs-runs.ensures c.sos-sos.ensures refl
          (IsUpToN1-none g.T.TextSource.encoding.len_of g.T.TextSource.encoding.positive (g.T.TextSource.text c.args.leveled.now.text).chars (g.D.BidiDataSource.source c.args.data_source.now) c.args.leveled.now.levels.now c.args.leveled.now.original_classes.now c.args.processing_classes.now c.runs-runs.result.now c.sos-sos.result eos (ready g (goal.at.returns-in_default g c).After-sos-sos) (sym c.in_default.is ∙ c.first_kept.ensures));
      unchanged = grind arith;
    }

pub bounds-levels-first : goal.bounds-levels-first
bounds-levels-first g c =
    omega (arith, first-within g.T.TextSource.encoding.len_of g.T.TextSource.encoding.positive (g.T.TextSource.text c.args.leveled.now.text).chars c.runs-runs.result.now c.sos-sos.result c.args.processing_classes.now (ready g (goal.at.bounds-levels-first g c).After-sos-sos) c.in-Some.first (sym c.in-Some.is ∙ c.first_kept.ensures), c.requires.levels)

-- one direction alone
pub returns-then-stands_alone : goal.returns-then-stands_alone
returns-then-stands_alone g c =
    record {
      resolved = grind (
        arith,
        ready g (goal.at.returns-then-stands_alone g c).After-sos-sos,
        begins g (goal.at.returns-then-stands_alone g c).After-eos-eos (ready g (goal.at.returns-then-stands_alone g c).After-sos-sos),
        side g (goal.at.returns-then-stands_alone g c).After-eos-eos (ready g (goal.at.returns-then-stands_alone g c).After-sos-sos),
        IsUpToN1-sequence g.T.TextSource.encoding.len_of (g.T.TextSource.text c.args.leveled.now.text).chars (g.D.BidiDataSource.source c.args.data_source.now) c.args.leveled.now.levels.now c.args.leveled.now.original_classes.now c.args.processing_classes.now c.args.processing_classes.now c.args.sequence c.runs-runs.result.now c.sos-sos.result c.eos-eos.result c.runs-runs.ensures c.sos-sos.ensures c.eos-eos.ensures,
        IsUpToN1-one g.T.TextSource.encoding.len_of g.T.TextSource.encoding.positive (g.T.TextSource.text c.args.leveled.now.text).chars c.runs-runs.result.now c.sos-sos.result c.args.processing_classes.now (ready g (goal.at.returns-then-stands_alone g c).After-sos-sos) c.bidi_class-embedding.result (side g (goal.at.returns-then-stands_alone g c).After-eos-eos (ready g (goal.at.returns-then-stands_alone g c).After-sos-sos)) (c.stands_alone.ensures.classes c.if-stands_alone.true) (g.D.BidiDataSource.source c.args.data_source.now) c.args.leveled.now.levels.now c.args.leveled.now.original_classes.now c.eos-eos.result c.in-Some.first (c.stands_alone.ensures.sos c.if-stands_alone.true) (c.stands_alone.ensures.eos c.if-stands_alone.true),
      );
      unchanged = grind arith;
    }

pub gather-requires-clause-are_lines : goal.gather-requires-clause-are_lines
gather-requires-clause-are_lines g c = (ready g (goal.at.gather-requires-clause-are_lines g c).After-sos-sos).are_lines

pub gather-requires-clause-same_len : goal.gather-requires-clause-same_len
gather-requires-clause-same_len g c = units_long g (goal.at.gather-requires-clause-same_len g c).After-sos-sos

pub resolve_pairs-requires-clause-ready : goal.resolve_pairs-requires-clause-ready
resolve_pairs-requires-clause-ready g c = ready g (goal.at.resolve_pairs-requires-clause-ready g c).After-sos-sos

pub resolve_pairs-requires-clause-side : goal.resolve_pairs-requires-clause-side
resolve_pairs-requires-clause-side g c =
    side g (goal.at.resolve_pairs-requires-clause-side g c).After-eos-eos (ready g (goal.at.resolve_pairs-requires-clause-side g c).After-sos-sos)

pub resolve_pairs-requires-clause-same_len : goal.resolve_pairs-requires-clause-same_len
resolve_pairs-requires-clause-same_len g c = units_long g (goal.at.resolve_pairs-requires-clause-same_len g c).After-sos-sos

pub resolve_pairs-requires-clause-pairs : goal.resolve_pairs-requires-clause-pairs
resolve_pairs-requires-clause-pairs g c =
    let len_of = g.T.TextSource.encoding.len_of in
    let chars : List ℕ = (g.T.TextSource.text c.args.leveled.now.text).chars in
    let source : Source = g.D.BidiDataSource.source c.args.data_source.now in
    let runs = c.runs-runs.result.now in
    let old = c.args.processing_classes.now in (
      pairs_in len_of chars source old runs,
      pairs-nested len_of chars source runs old,
      pairs-placed len_of g.T.TextSource.encoding.positive chars source runs c.sos-sos.result old (ready g (goal.at.resolve_pairs-requires-clause-pairs g c).After-sos-sos) _ c.finish-pairs.result.now refl (c.finish-pairs.ensures _ c.in_ok-gather.ensures),
    )

pub resolve_opposite-requires-clause-ordered : goal.resolve_opposite-requires-clause-ordered
resolve_opposite-requires-clause-ordered g c = (ready g (goal.at.resolve_opposite-requires-clause-ordered g c).After-sos-sos).ordered

-- N0 is done
paired : (g : Over) (c : After-resolve_pairs g)
    → IsReady g.T.TextSource.encoding.len_of (g.T.TextSource.text c.args.leveled.now.text).chars c.runs-runs.result.now c.sos-sos.result c.args.processing_classes.now
    → IsPaired g.T.TextSource.encoding.len_of (g.T.TextSource.text c.args.leveled.now.text).chars c.args.leveled.now.original_classes.now c.args.processing_classes.now c.resolve_pairs.new.classes c.runs-runs.result.now c.bidi_class-embedding.result c.sos-sos.result
    (pairs_in g.T.TextSource.encoding.len_of (g.T.TextSource.text c.args.leveled.now.text).chars (g.D.BidiDataSource.source c.args.data_source.now) c.args.processing_classes.now c.runs-runs.result.now)
paired g c r =
    let len_of = g.T.TextSource.encoding.len_of in
    let chars : List ℕ = (g.T.TextSource.text c.args.leveled.now.text).chars in
    let source : Source = g.D.BidiDataSource.source c.args.data_source.now in
    let runs = c.runs-runs.result.now in
    let old = c.args.processing_classes.now in
    c.resolve_pairs.ensures (pairs_in len_of chars source old runs) (pairs-nested len_of chars source runs old)
    (pairs-placed len_of g.T.TextSource.encoding.positive chars source runs c.sos-sos.result old r _ c.finish-pairs.result.now refl (c.finish-pairs.ensures _ c.in_ok-gather.ensures))

pub resolve_opposite-requires-clause-inside : goal.resolve_opposite-requires-clause-inside
resolve_opposite-requires-clause-inside g c =
    let r = ready g (goal.at.resolve_opposite-requires-clause-inside g c).After-sos-sos in
    mid-within _ g.T.TextSource.encoding.positive _ (g.D.BidiDataSource.source c.args.data_source.now) _ _ _ _ _ _ r (paired g (goal.at.resolve_opposite-requires-clause-inside g c).After-resolve_pairs r)

pub resolve_opposite-requires-clause-resolved : goal.resolve_opposite-requires-clause-resolved
resolve_opposite-requires-clause-resolved g c =
    let r = ready g (goal.at.resolve_opposite-requires-clause-resolved g c).After-sos-sos in
    mid-resolved _ g.T.TextSource.encoding.positive _ (g.D.BidiDataSource.source c.args.data_source.now) _ _ _ _ _ _ r (paired g (goal.at.resolve_opposite-requires-clause-resolved g c).After-resolve_pairs r)
    (side g (goal.at.resolve_opposite-requires-clause-resolved g c).After-eos-eos r)

pub resolve_opposite-requires-clause-eos : goal.resolve_opposite-requires-clause-eos
resolve_opposite-requires-clause-eos g c = eos-side c.args.sequence c.eos-eos.result c.eos-eos.ensures

-- the steps, one after the other
resolved : (g : Over) (c : After-resolve_opposite g)
    → (c.bidi_class-embedding.result ≡ direction_of (level_at c.args.leveled.now.levels.now c.in-Some.first))
    → IsReady g.T.TextSource.encoding.len_of (g.T.TextSource.text c.args.leveled.now.text).chars c.runs-runs.result.now c.sos-sos.result c.args.processing_classes.now
    → IsPaired g.T.TextSource.encoding.len_of (g.T.TextSource.text c.args.leveled.now.text).chars c.args.leveled.now.original_classes.now c.args.processing_classes.now c.resolve_pairs.new.classes c.runs-runs.result.now c.bidi_class-embedding.result c.sos-sos.result
    (pairs_in g.T.TextSource.encoding.len_of (g.T.TextSource.text c.args.leveled.now.text).chars (g.D.BidiDataSource.source c.args.data_source.now) c.args.processing_classes.now c.runs-runs.result.now)
    → IsUpToN1 g.T.TextSource.encoding.len_of (g.T.TextSource.text c.args.leveled.now.text).chars (g.D.BidiDataSource.source c.args.data_source.now) c.args.leveled.now.levels.now c.args.leveled.now.original_classes.now c.args.processing_classes.now c.resolve_opposite.new.classes (borrowed_runs c.args.sequence) (borrowed_sos c.args.sequence) (borrowed_eos c.args.sequence)
resolved g c embedding r paired_here =
    IsUpToN1-sequence g.T.TextSource.encoding.len_of (g.T.TextSource.text c.args.leveled.now.text).chars (g.D.BidiDataSource.source c.args.data_source.now) c.args.leveled.now.levels.now c.args.leveled.now.original_classes.now c.args.processing_classes.now c.resolve_opposite.new.classes c.args.sequence c.runs-runs.result.now c.sos-sos.result c.eos-eos.result c.runs-runs.ensures c.sos-sos.ensures c.eos-eos.ensures
    (IsUpToN1-paired g.T.TextSource.encoding.len_of g.T.TextSource.encoding.positive (g.T.TextSource.text c.args.leveled.now.text).chars (g.D.BidiDataSource.source c.args.data_source.now) c.args.leveled.now.original_classes.now c.args.processing_classes.now c.resolve_pairs.new.classes c.runs-runs.result.now c.bidi_class-embedding.result c.sos-sos.result
    r paired_here (ap is_l_or_r embedding ∙ direction_of-l_or_r (level_at c.args.leveled.now.levels.now c.in-Some.first)) c.eos-eos.result c.resolve_opposite.new.classes c.resolve_opposite.auto.classes c.resolve_opposite.ensures.kept c.resolve_opposite.ensures.outside c.resolve_opposite.ensures.own c.args.leveled.now.levels.now c.in-Some.first (sym c.in-Some.is ∙ c.first_kept.ensures) embedding)

pub returns : goal.returns
returns g c =
    let r = ready g (goal.at.returns g c).After-sos-sos in
    record {
      resolved = resolved g (goal.at.returns g c).After-resolve_opposite (begins g (goal.at.returns g c).After-eos-eos r) r
          (paired g (goal.at.returns g c).After-resolve_pairs r);
      unchanged = grind arith;
    }
