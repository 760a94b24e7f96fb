use Rattle.bidi_base.proofs.Common.{arith}
use Rattle.bidi_text.proofs.StrLemmas.{IsCharBoundary-from_is_boundary, subrange-from_str}
use Rattle.bidi_text.proofs.text.str_text.StrTextTextSource.subrange.Goals as goal

pub range-requires-clause-start_boundary : goal.range-requires-clause-start_boundary
range-requires-clause-start_boundary c = λ _. IsCharBoundary-from_is_boundary c.as_str-text.result.now c.args.range.start c.as_str-text.utf8 (rw c.as_str-text.ensures c.requires.begins)

pub range-requires-clause-end_boundary : goal.range-requires-clause-end_boundary
range-requires-clause-end_boundary c = IsCharBoundary-from_is_boundary c.as_str-text.result.now c.args.range.end c.as_str-text.utf8 (rw c.as_str-text.ensures c.requires.ends)

pub returns : goal.returns
returns c = grind (arith, subrange-from_str)
