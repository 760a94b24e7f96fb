use Rattle.bidi_base.proofs.Common.{◌<◌, length, append_assoc}
use Rattle.bidi_explain.proofs.BlocksLemmas.{All-part}
use Rattle.bidi_explain.proofs.page.push_upper.Goals as goal

pub push_boxes_row-requires-clause-within : goal.push_boxes_row-requires-clause-within
push_boxes_row-requires-clause-within c = rw c.part.ensures (All-part (λ p. p < length c.args.chars.now) c.args.block c.args.indexes.now c.requires.within)

pub returns : goal.returns
returns c = simp (c.in_ok-push_str-2.ensures.bytes, c.in_ok-push_rows.ensures, c.in_ok-push_boxes_row.ensures, c.part.ensures, c.in_ok-push_str.ensures.bytes, append_assoc)
