use Rattle.bidi_base.proofs.Common.{◌∙◌, ap, sym, inl, inr, cases_Bool, both_ways, false_from_ne_true, len_utf8, chars, is_boundary}
use Rattle.bidi_text.proofs.StrLemmas.{is_boundary-from_str, IsCharBoundary-from_is_boundary}
use Rattle.bidi_text.proofs.text.str_text.StrTextTextSource.is_boundary.Goals as goal

-- a boundary of the bytes is one of the characters, and no other index is
pub returns : goal.returns
returns c =
    let bytes = c.as_str.result.now in
    let at = c.args.index in
    let test = c.is_char_boundary.ensures.test in
    let same = ap (λ text. is_boundary len_utf8 (chars text) at) c.as_str.ensures in
    elim (cases_Bool c.is_char_boundary.result) [
      | inl begins ↦ begins ∙ sym (is_boundary-from_str bytes at c.as_str.utf8 (test.0 begins)) ∙ same
      | inr inside ↦
          inside
          ∙ sym (false_from_ne_true (is_boundary len_utf8 (chars bytes) at) (λ begins. both_ways c.is_char_boundary.result inside (test.1 (IsCharBoundary-from_is_boundary bytes at c.as_str.utf8 begins))))
          ∙ same
    ]
