use Rattle.bidi_base.proofs.Common.{◌≡◌, ◌++◌, length, string_bytes, chars, IsUtf8}
use Rattle.bidi_unicode.specs.Unicode.{unicode_source}
use Rattle.bidi_shown.specs.Displayed.{shown_text}
use Rattle.bidi_shown.proofs.text.push_text.Given as goal

abbrev pub invariant-loop-rest : goal.invariant-loop-rest
invariant-loop-rest l = record {
  utf8 : IsUtf8 l.rest;
  shown : string_bytes l.out ++ shown_text unicode_source l.fn.view (chars l.rest) ≡ string_bytes l.fn.out ++ shown_text unicode_source l.fn.view (chars l.fn.text);
}

abbrev pub decreases-loop-rest : goal.decreases-loop-rest
decreases-loop-rest l = length l.rest
