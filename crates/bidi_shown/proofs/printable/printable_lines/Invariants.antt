use Rattle.bidi_base.proofs.Common.{◌≡◌, ℕ, ◌<◌, ◌≤◌, ◌++◌, true, slice_index, take, drop, slice_range, list_all, chars, IsCharBoundary}
use Rattle.bidi_unicode.specs.Unicode.{unicode_source}
use Rattle.bidi_shown.specs.PrintableLines.{is_printable_ascii, is_printable_or_feed, ArePrintableLines, CopiesPrintable}
use Rattle.bidi_shown.specs.Displayed.{shown_text}
use Rattle.bidi_shown.specs.declared.view.View.{View}
use Rattle.bidi_shown.proofs.printable.printable_lines.Given as goal

abbrev pub invariant-loop-at : goal.invariant-loop-at
invariant-loop-at l = record {
  ordered : l.end ≤ l.at;
  printable : list_all is_printable_ascii (slice_range l.text l.end l.at) ≡ true;
  read : (k : ℕ) → k < l.at → is_printable_or_feed (slice_index l.text k) ≡ true;
  lines : ArePrintableLines l.text l.end;
  longest : (len : ℕ) → len ≤ l.at → ArePrintableLines l.text len → len ≤ l.end;
  boundary : IsCharBoundary l.text l.end;
  shown : (view : View) → CopiesPrintable view → shown_text unicode_source view (chars l.text) ≡ take l.end l.text ++ shown_text unicode_source view (chars (drop l.end l.text));
}
