use Rattle.bidi_base.proofs.Common.{List, ℕ, All, refl, subst}
use Rattle.unicode_bidi.specs.Base.{fixed_level, HasLevelBy}
use Rattle.unicode_bidi.specs.declared.base.Base.{Base}
use Rattle.unicode_bidi.proofs.BaseLemmas.{fixed-levels}
use Rattle.unicode_bidi.proofs.base.apply_base.Goals as goal

pub returns-in_default : goal.returns-in_default
returns-in_default g c =
    let source = g.D.BidiDataSource.source c.args.data_source.now in
    let cs : List ℕ = (g.T.TextSource.text c.args.text).chars in
    record {
      ranges = refl;
      flags = refl;
      levels = fixed-levels source c.args.base (λ level is. c.in_default.not-AutoOr level is) g.T.TextSource.encoding.len_of cs c.args.found.now.paragraphs.items c.requires.levels;
    }

pub fall_back-requires-clause-levels : goal.fall_back-requires-clause-levels
fall_back-requires-clause-levels g c =
    let source = g.D.BidiDataSource.source c.args.data_source.now in
    let cs : List ℕ = (g.T.TextSource.text c.args.text).chars in
    let own = subst (λ (b : Base). All (HasLevelBy source (fixed_level b) g.T.TextSource.encoding.len_of cs) c.args.found.now.paragraphs.items) c.in-AutoOr.is c.requires.levels in
    rw c.as_mut_slice.ensures.value own
