use Rattle.bidi_base.proofs.Common.{refl, sym, ◌∙◌, arith}
use Rattle.bidi_lines.proofs.LineByLevels.{empty-IsLine, empty-runs, empty-runs_of_chars, empty-levels}
use Rattle.bidi_lines.proofs.shown_line.ShownLine.of_text.Goals as goal

pub invariant_of-result : goal.invariant_of-result
invariant_of-result g c = record {
  is_line = empty-IsLine _ _;
  one_per_unit = omega arith;
  runs_of_levels = c.new-2.ensures ∙ sym (empty-runs 0);
  runs_of_chars = empty-runs_of_chars _ _ 0;
  of_levels = refl;
}

pub returns-clause-shows : goal.returns-clause-shows
returns-clause-shows g c a level len_of chars = record { len_of = len_of; chars = chars; start = refl; end = refl; levels = empty-levels a level }
