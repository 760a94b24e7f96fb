use Rattle.bidi_base.proofs.Common.{◌++◌, sym, ap, subst, ◌∙◌, arith, IsUtf8, encode_utf8, slice_range, string_bytes, IsUtf8-append, IsUtf8-string_bytes}
use Rattle.bidi_text.proofs.StrLemmas.{has_units, text_len-chars, IsCharBoundary-from_is_boundary}
use Rattle.bidi_lines.proofs.ShownLines.{on_ok, pushed_ok, pushed_either, still_shown, appends_shown}
use Rattle.bidi_lines.proofs.LineUtf8.{shown_utf8}
use Rattle.bidi_lines.specs.ShownLine.{levels}
use Rattle.bidi_lines.proofs.shown_line.utf8.ShownLine+StrText.push_text.Goals as goal

pub range-requires-clause-start_boundary : goal.range-requires-clause-start_boundary
range-requires-clause-start_boundary c = λ _. IsCharBoundary-from_is_boundary c.as_str-text.result.now c.args.self.now.start c.as_str-text.utf8 (rw c.as_str-text.ensures c.args.self.now.is_line.begins)

pub range-requires-clause-end_boundary : goal.range-requires-clause-end_boundary
range-requires-clause-end_boundary c = IsCharBoundary-from_is_boundary c.as_str-text.result.now c.args.self.now.end c.as_str-text.utf8 (rw c.as_str-text.ensures c.args.self.now.is_line.ends)

pub returns-then-not-self-clause-text : goal.returns-then-not-self-clause-text
returns-then-not-self-clause-text c a level line shows =
    let s = c.args.self.now in
    let u : IsUtf8 s.text.text.now = subst IsUtf8 c.as_str-text.ensures c.as_str-text.utf8 in
    pushed_ok c.push_str.result _ _ _ c.push_str.ensures.bytes (λ e. appends_shown s has_units a level line shows encode_utf8 s.text.text.now _ _ (sym (text_len-chars s.text.text.now u))
    (e ∙ ap (λ xs. string_bytes c.args.out.now ++ xs) (c.range.ensures.value ∙ ap (λ xs. slice_range xs s.start s.end) c.as_str-text.ensures ∙ sym (still_shown s encode_utf8 s.text.text.now c.if-not-self.true))))

pub from_utf8_unchecked-requires : goal.from_utf8_unchecked-requires
from_utf8_unchecked-requires c =
    let s = c.args.self.now in
    let u : IsUtf8 s.text.text.now = subst IsUtf8 c.as_str-text.ensures c.as_str-text.utf8 in
    let old : IsUtf8 c.into_bytes-bytes.result.items = subst IsUtf8 (sym (ap (λ v. v.items) c.into_bytes-bytes.ensures.value)) (IsUtf8-string_bytes c.replace.result) in
    pushed_either IsUtf8 c.push_units-pushed.result _ _ _ c.push_units-pushed.ensures.text c.push_units-pushed.ensures.unchanged
    (IsUtf8-append c.into_bytes-bytes.result.items _ old (shown_utf8 s.text.text.now u s.start (levels s) s.runs_of_chars)) old

pub returns-clause-text : goal.returns-clause-text
returns-clause-text c a level line shows =
    let s = c.args.self.now in
    let u : IsUtf8 s.text.text.now = subst IsUtf8 c.as_str-text.ensures c.as_str-text.utf8 in
    on_ok c.push_units-pushed.result (λ e. appends_shown s has_units a level line shows encode_utf8 s.text.text.now _ _ (sym (text_len-chars s.text.text.now u)) (grind arith)) c.push_units-pushed.ensures.text
