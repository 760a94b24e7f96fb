use Rattle.bidi_base.proofs.Common.{◌≡◌, length, string_bytes, chars}
use Rattle.bidi_show_run.proofs.ShownLemmas.{levels_so_far}
use Rattle.bidi_show_run.proofs.shown.push_levels.Given as goal

abbrev pub invariant-loop-at : goal.invariant-loop-at
invariant-loop-at l = string_bytes l.out ≡ levels_so_far (string_bytes l.fn.out) (chars l.fn.text) l.fn.levels (length l.yielded)
