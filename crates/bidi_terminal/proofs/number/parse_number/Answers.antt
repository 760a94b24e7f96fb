use Rattle.bidi_base.proofs.Common.{◌∙◌, sym, arith}
use Rattle.bidi_terminal.proofs.NumbersLemmas.{parse_short}
use Rattle.bidi_terminal.proofs.number.parse_number.Goals as goal

pub returns-then-is_digits : goal.returns-then-is_digits
returns-then-is_digits c =
    c.ok.ensures.value ∙ parse_short c.args.word.now _ c.parse.ensures.value.0 (sym c.is_digits.ensures ∙ c.if-is_digits.true) (omega arith)
