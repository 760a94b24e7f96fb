use Rattle.bidi_base.proofs.Common.{◌≡◌, ◌≤◌, length, take}
use Rattle.unicode_bidi.specs.Content.{content_len}
use Rattle.unicode_bidi.proofs.content.content_len.Given as goal

-- what was passed are separators
abbrev pub invariant-loop-len : goal.invariant-loop-len
invariant-loop-len l = record {
  within : l.len ≤ length l.classes;
  same : content_len (take l.len l.classes) ≡ content_len l.classes;
}

abbrev pub decreases-loop-len : goal.decreases-loop-len
decreases-loop-len l = l.len
