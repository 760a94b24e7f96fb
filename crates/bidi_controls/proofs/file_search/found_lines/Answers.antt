use Rattle.bidi_base.proofs.Common.{◌≡◌, ◌∙◌, ℕ, List, sym, ap, map, IfOk-weaker, IsUtf8-string_bytes, IsUtf8, chars, None, arith, nat_tests, utf8_valid_len-IsUtf8, true, cond-true}
use Rattle.bidi_unicode.specs.Unicode.{unicode_source}
use Rattle.bidi_controls.specs.Decoded.{decoded, utf8_decoded, utf8_fault, first_invalid, is_utf16}
use Rattle.bidi_controls.specs.FileLines.{file_lines_of}
use Rattle.bidi_controls.specs.FileSearch.{line_of, found_from}
use Rattle.bidi_controls.specs.declared.file_search.Searched.{Searched}
use Rattle.std.proofs.lemmas.Str.{utf8_lossy-IsUtf8}
use Rattle.bidi_controls.proofs.file_search.found_lines.Goals as goal

first_invalid-utf16 : (bytes : List ℕ) → is_utf16 bytes ≡ true → first_invalid bytes ≡ None
first_invalid-utf16 bytes is = cond-true _ _ _ is

utf8_fault-text : (text : List ℕ) → IsUtf8 text → utf8_fault text ≡ None
utf8_fault-text text u = grind (arith, nat_tests, utf8_valid_len-IsUtf8 text u)

utf8_decoded-text : (text : List ℕ) → IsUtf8 text → utf8_decoded text ≡ chars text
utf8_decoded-text text u = ap chars (utf8_lossy-IsUtf8 text u)

pub returns-in-Some-clause-lines : goal.returns-in-Some-clause-lines
returns-in-Some-clause-lines c =
    let reported = rw c.in-Some.is at c.in_ok-text.ensures in
    let same : utf8_decoded c.as_bytes.result.now ≡ decoded c.args.bytes.now =
    ap utf8_decoded c.as_bytes.ensures.value ∙ utf8_decoded-text _ (IsUtf8-string_bytes c.in-Some.text) ∙ reported.1 in
    let lines = λ (bytes : List ℕ). found_from unicode_source c.args.sought 1 (file_lines_of bytes) in
    IfOk-weaker c.found_lines_of_utf8.result (λ (s : Searched). map line_of s.lines.items ≡ lines (utf8_decoded c.as_bytes.result.now)) (λ (s : Searched). map line_of s.lines.items ≡ lines (decoded c.args.bytes.now)) (λ s h. h ∙ ap lines same)
    c.found_lines_of_utf8.ensures.lines

pub returns-in-Some-clause-invalid : goal.returns-in-Some-clause-invalid
returns-in-Some-clause-invalid c =
    let reported = rw c.in-Some.is at c.in_ok-text.ensures in
    let none : utf8_fault c.as_bytes.result.now ≡ first_invalid c.args.bytes.now =
    ap utf8_fault c.as_bytes.ensures.value ∙ utf8_fault-text _ (IsUtf8-string_bytes c.in-Some.text) ∙ sym (first_invalid-utf16 c.args.bytes.now reported.0) in
    IfOk-weaker c.found_lines_of_utf8.result (λ (s : Searched). s.invalid ≡ utf8_fault c.as_bytes.result.now) (λ (s : Searched). s.invalid ≡ first_invalid c.args.bytes.now) (λ s h. h ∙ none)
    c.found_lines_of_utf8.ensures.invalid
