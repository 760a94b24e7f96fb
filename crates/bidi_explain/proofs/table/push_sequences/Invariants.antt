use Rattle.bidi_base.proofs.Common.{◌≡◌, ◌++◌, take, flat_map, string_bytes}
use Rattle.bidi_explain.specs.Tables.{sequence_text}
use Rattle.bidi_explain.proofs.table.push_sequences.Given as goal

abbrev pub invariant-loop-sequence : goal.invariant-loop-sequence
invariant-loop-sequence l = string_bytes l.out ≡ string_bytes l.fn.out ++ flat_map sequence_text (take l.sequence-index l.sequences)
