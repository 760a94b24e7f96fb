use Rattle.bidi_base.proofs.Common.{true, refl, arith, inl, inr, cases_lt}
use Rattle.bidi_base.proofs.UpdatedLemmas.{IsUpdated-set}
use Rattle.bidi_paragraphs.proofs.paragraph_levels.write_removed.Goals as goal

pub loop-at-preserved : goal.loop-at-preserved
loop-at-preserved c =
    let inv = c.loop-at.invariant in
    let at = c.loop-at.at in
    record {
      begins = omega (arith, inv.begins);
      ends = grind arith;
      removed = λ u a b. elim (cases_lt u at) [ inl under ↦ inv.removed u a under | inr same ↦ grind arith ];
      written = IsUpdated-set 0 (λ u. true) (λ level. c.args.before) c.args.from c.args.levels.now at c.loop-at.levels c.args.before inv.begins (grind arith) refl refl inv.written;
    }
