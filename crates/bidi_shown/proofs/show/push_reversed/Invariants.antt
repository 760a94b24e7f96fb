use Rattle.bidi_base.proofs.Common.{◌≡◌, ◌≤◌, ◌++◌, take, reverse, flat_map, encode_utf8, string_bytes, length}
use Rattle.bidi_shown.proofs.show.push_reversed.Given as goal

abbrev pub invariant-loop-end : goal.invariant-loop-end
invariant-loop-end l = record {
  within : l.end ≤ length l.chars;
  written : string_bytes l.out ++ flat_map encode_utf8 (reverse (take l.end l.chars)) ≡ string_bytes l.fn.out ++ flat_map encode_utf8 (reverse l.chars);
}

abbrev pub decreases-loop-end : goal.decreases-loop-end
decreases-loop-end l = l.end
