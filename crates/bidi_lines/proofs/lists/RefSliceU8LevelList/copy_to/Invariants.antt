use Rattle.bidi_base.proofs.Common.{◌≡◌, ℕ, ◌<◌, slice_index}
use Rattle.bidi_lines.proofs.lists.RefSliceU8LevelList.copy_to.Given as goal

abbrev pub invariant-loop-i : goal.invariant-loop-i
invariant-loop-i l = (k : ℕ) → k < l.i → slice_index l.out k ≡ slice_index l.self k
