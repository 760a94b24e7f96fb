use Rattle.bidi_base.proofs.Common.{◌≡◌, ◌≤◌, ◌++◌, length, take, drop, chars, IsCharBoundary, char_indices_rest, char_indices_offset}
use Rattle.bidi_base.specs.Paragraphs.{own_chars}
use Rattle.bidi_shown.specs.Displayed.{after_first}
use Rattle.bidi_shown.proofs.first.own_len.Given as goal

abbrev pub invariant-loop-at : goal.invariant-loop-at
invariant-loop-at g l =
    let source = g.D.BidiDataSource.source l.fn.data_source in
    let at = char_indices_offset l.at-iterator in
    record {
      within : at ≤ length l.text;
      rest : char_indices_rest l.at-iterator ≡ drop at l.text;
      boundary : IsCharBoundary l.text at;
      own : chars (take at l.text) ++ own_chars source (chars (drop at l.text)) ≡ own_chars source (chars l.text);
      after : after_first source (chars (drop at l.text)) ≡ after_first source (chars l.text);
    }
