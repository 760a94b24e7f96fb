use Rattle.std.specs.Prelude.{Result, Ok, Err, IfOk}
use Rattle.unicode_bidi.proofs.BaseLaws.{IsAnalysis-with}
use Rattle.unicode_bidi.proofs.BaseLemmas.{HasLowLevel-base_of}
use Rattle.unicode_bidi.specs.Engine.{paragraphs}
use Rattle.unicode_bidi.proofs.engine.analyse_by.Goals as goal

-- what holds of a result in both ways holds of it at once
IfOk-both : {T E : Type 0} (r : Result T E) (P Q R : T → Type 0) → ((x : T) → P x → Q x → R x) → IfOk r P → IfOk r Q → IfOk r R
IfOk-both (Ok x) P Q R f p q = f x p q
IfOk-both (Err y) P Q R f p q = tt

pub analyse_by_base-requires : goal.analyse_by_base-requires
analyse_by_base-requires g c = rw c.from.ensures (HasLowLevel-base_of c.args.base_level c.requires)

pub returns : goal.returns
returns g c =
    let source = g.D.BidiDataSource.source c.args.data_source.now in
    IfOk-both c.analyse_by_base.result _ _ _
    (λ a with_base flags. record {
      analysis = IsAnalysis-with source c.args.rule _ c.args.base_level (paragraphs a) g.T.TextSource.encoding.positive c.requires with_base;
      flags = flags;
    })
    (rw c.from.ensures at c.analyse_by_base.ensures.analysis)
    c.analyse_by_base.ensures.flags
