use Rattle.std.proofs.lemmas.Result.{on_ok_weaker}
use Rattle.unicode_bidi.proofs.BaseLaws.{IsAnalysis-with}
use Rattle.unicode_bidi.proofs.BaseLemmas.{HasLowLevel-base_of}
use Rattle.unicode_bidi.proofs.engine.Analyser.analyse.Goals as goal

pub analyse_with_base-requires-clause-low : goal.analyse_with_base-requires-clause-low
analyse_with_base-requires-clause-low g c = rw c.from.ensures (HasLowLevel-base_of c.args.base_level c.requires.low)

pub returns-clause-analysis : goal.returns-clause-analysis
returns-clause-analysis g c =
    let source = g.D.BidiDataSource.source c.args.data_source.now in
    on_ok_weaker c.analyse_with_base.result
    (IsAnalysis-with source c.args.rule _ c.args.base_level _ g.T.TextSource.encoding.positive c.requires.low)
    (rw c.from.ensures at c.analyse_with_base.ensures.analysis)
