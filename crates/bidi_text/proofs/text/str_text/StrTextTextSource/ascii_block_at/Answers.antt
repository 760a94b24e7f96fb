use Rattle.bidi_base.proofs.Common.{◌≡◌, ◌∙◌, ◌+◌, ◌≤◌, ap, length, len_utf8, chars, arith, ascii_at}
use Rattle.bidi_text.proofs.StrLemmas.{ascii_at-block}
use Rattle.bidi_text.proofs.text.str_text.StrTextTextSource.ascii_block_at.Goals as goal

pub returns-then-is_ascii : goal.returns-then-is_ascii
returns-then-is_ascii c k below =
    let bs = c.as_bytes-bytes.result.now in
    let same : bs ≡ c.args.self.now.text.now = cc (c.as_bytes-bytes.ensures.value, c.as_str.ensures) in
    let room : c.args.index + 16 ≤ length bs = grind arith in
    let low = c.is_ascii.ensures c.if-is_ascii.true k below in
    ascii_at-block bs c.args.index k c.as_bytes-bytes.ensures.utf8 room below low ∙ ap (λ xs. ascii_at len_utf8 (chars xs) (c.args.index + k)) same
