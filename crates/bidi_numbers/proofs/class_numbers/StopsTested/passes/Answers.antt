use Rattle.bidi_base.proofs.Common.{◌≡◌, ℕ, ◌&&◌, ◌||◌, nat_le, sym, ap, ◌∙◌, arith, nat_tests, get_or-map}
use Rattle.bidi_base.specs.declared.char_data.BidiClass.TheVariants.{L}
use Rattle.bidi_lines.specs.ResetStops.{is_stop}
use Rattle.bidi_numbers.specs.Numbers.{class_numbered}
use Rattle.bidi_numbers.proofs.class_numbers.StopsTested.passes.Goals as goal

stops : (n : ℕ) → (nat_le 9 n && nat_le n 11 || nat_le 14 n && nat_le n 18) ≡ is_stop (class_numbered n)
unfolding class_numbered
stops n = grind (arith, nat_tests)

pub returns : goal.returns
returns c = stops _ ∙ ap is_stop (sym (get_or-map class_numbered c.args.self.numbers.now c.args.index 0 L c.requires))
