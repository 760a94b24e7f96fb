-- The classes that a sequence's characters have are among those of all units.
use Rattle.bidi_base.proofs.Common.{arith, sym, ◌∙◌, kept_in_place}
use Rattle.bidi_vectors_rules.proofs.LeftClasses.{all_resolved}
use Rattle.bidi_vectors_rules.proofs.neutrals.Neutrals.check.Goals as goal

pub returns : goal.returns
unfolding kept_in_place
returns c = record {
  per_char = grind arith;
  are_lines = grind arith;
  levels = grind arith;
  original = grind arith;
  resolved = all_resolved _ _ c.args.classes.now _ (sym c.are_left_or_removed.ensures ∙ c.if-not-are_left_or_removed.false);
}
