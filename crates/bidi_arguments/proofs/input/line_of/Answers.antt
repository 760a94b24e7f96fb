use Rattle.bidi_base.proofs.Common.{◌≡◌, ◌∙◌, ℕ, List, ap, IsUtf8-string_bytes, IsUtf8, chars}
use Rattle.bidi_controls.specs.Decoded.{decoded, utf8_decoded}
use Rattle.std.proofs.lemmas.Str.{utf8_lossy-IsUtf8}
use Rattle.bidi_arguments.proofs.input.line_of.Goals as goal

utf8_decoded-text : (text : List ℕ) → IsUtf8 text → utf8_decoded text ≡ chars text
utf8_decoded-text text u = ap chars (utf8_lossy-IsUtf8 text u)

pub returns-in-Some : goal.returns-in-Some
returns-in-Some c =
    let reported = rw c.in-Some.is at c.in_ok-text.ensures in
    let same : utf8_decoded c.as_bytes.result.now ≡ decoded c.args.bytes.now =
    ap utf8_decoded c.as_bytes.ensures.value ∙ utf8_decoded-text _ (IsUtf8-string_bytes c.in-Some.text) ∙ reported.1 in
    rw (← same) c.line_of_utf8.ensures
