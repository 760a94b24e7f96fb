use Rattle.bidi_base.proofs.Common.{◌∙◌, sym, ap, arith}
use Rattle.bidi_base.specs.Source.{Source, table_source}
use Rattle.bidi_numbers.proofs.tables.Tables.searched.Goals as goal

pub invariant_of-result : goal.invariant_of-result
unfolding table_source
invariant_of-result c = record {
  same = λ x is d.
      c.args.self.now.same x.now (grind (arith, c.as_ref.ensures.value, is)) d ∙ sym (ap (λ (s : Source). s.bracket_of d) c.requires);
}
