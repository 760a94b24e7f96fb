use Rattle.bidi_base.proofs.Common.{◌≤◌, ◌<◌, ◌-◌}
use Rattle.bidi_paragraphs.proofs.first_pass.other_characters.block_end.Given as goal

abbrev pub invariant-loop-text : goal.invariant-loop-text
invariant-loop-text g l = (l.from < l.end) × (l.end ≤ l.len)

abbrev pub decreases-loop-text : goal.decreases-loop-text
decreases-loop-text g l = l.len - l.end
