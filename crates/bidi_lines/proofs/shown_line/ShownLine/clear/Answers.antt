use Rattle.bidi_base.proofs.Common.{◌≡◌, List, [], refl, sym, ◌∙◌, arith, Ok, Err, Result, OnOk, OnErr}
use Rattle.bidi_lines.proofs.LineByLevels.{empty-IsLine, empty-runs, empty-runs_of_chars}
use Rattle.bidi_lines.proofs.shown_line.ShownLine.clear.Goals as goal

-- what a call leaves, if it gives the same whether or not it fails
always : {A E X : Type 0} (result : Result A E) (xs ys zs : List X) → OnOk result (xs ≡ ys) → OnErr result (xs ≡ zs) → ys ≡ zs → xs ≡ ys
always (Ok x) xs ys zs ok err same = ok
always (Err e) xs ys zs ok err same = err ∙ sym same

pub invariant_of-self : goal.invariant_of-self
invariant_of-self g c = record {
  is_line = empty-IsLine _ _;
  one_per_unit = omega arith;
  runs_of_levels = always c.find.result _ _ [] c.find.ensures.runs c.find.ensures.emptied (empty-runs 0);
  runs_of_chars = empty-runs_of_chars _ _ 0;
  of_levels = refl;
}
