use Rattle.bidi_base.proofs.Common.{◌≡◌, ℕ, ◌+◌, List, length, reverse, flat_map, ap, ◌∙◌, arith, chars, subrange, IsLine, IsUtf8, len_utf8}
use Rattle.std.specs.Char.{encode_utf8}
use Rattle.bidi_base.proofs.UnitIndexLemmas.{text_len-subrange}
use Rattle.bidi_text.proofs.StrLemmas.{has_units, text_len-chars}
use Rattle.bidi_lines.proofs.ReversedUtf8.{reversed-chars}
use Rattle.bidi_lines.proofs.line_text.utf8.StrTextLineText.reverse_run.Goals as goal

-- the run has as many bytes as the range
as_long : (text bytes : List ℕ) (start end : ℕ) → IsLine len_utf8 (chars text) start end → IsUtf8 bytes → chars bytes ≡ subrange len_utf8 (chars text) start end → length bytes + start ≡ end
as_long text bytes start end line u e = grind (arith, text_len-chars bytes, text_len-subrange len_utf8 has_units (chars text) start end line)

pub reverse_text-requires : goal.reverse_text-requires
reverse_text-requires c = grind (arith, as_long)

pub write_chars_reversed-requires : goal.write_chars_reversed-requires
write_chars_reversed-requires c = grind (arith, as_long)

pub returns-then-are_short : goal.returns-then-are_short
returns-then-are_short c =
    let text = c.as_str-text.result.now in
    let is : chars text ≡ subrange len_utf8 (chars c.args.self.text.now) c.args.run.start c.args.run.end = ap chars c.as_str-text.ensures ∙ ap (λ t. t.chars) c.subrange.ensures in
    let same : length c.reverse_text.new.out ≡ length text = grind (arith, as_long) in
    reversed-chars text c.reverse_text.new.out c.as_str-text.utf8 (grind arith) same (λ j fits. grind arith) ∙ ap (λ cs. flat_map encode_utf8 (reverse cs)) is
