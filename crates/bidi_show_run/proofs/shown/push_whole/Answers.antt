use Rattle.bidi_base.proofs.Common.{◌≤◌, List, ℕ, length, arith, len_utf8, IsLine, IsPerChar}
use Rattle.bidi_base.proofs.TextLemmas.{is_boundary-le}
use Rattle.bidi_base.proofs.UnitsLemmas.{length-from_IsPerChar}
use Rattle.bidi_show_run.proofs.shown.push_whole.Goals as goal
use Rattle.bidi_lines.proofs.StoredLine.{levels_IsPerChar}

reaches : (cs levels : List ℕ) (start end : ℕ) → IsLine len_utf8 cs start end → IsPerChar len_utf8 cs levels → end ≤ length levels
reaches cs levels start end line per_char = grind (arith, is_boundary-le, length-from_IsPerChar)

pub slice_bounds-push_levels-end : goal.slice_bounds-push_levels-end
slice_bounds-push_levels-end g c = grind (arith, reaches, levels_IsPerChar)

pub push_levels-requires : goal.push_levels-requires
push_levels-requires g c = grind arith
