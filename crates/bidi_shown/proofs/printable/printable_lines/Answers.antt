use Rattle.bidi_base.proofs.Common.{◌≡◌, ℕ, ◌<◌, ◌≤◌, ◌+◌, ◌-◌, ◌==◌, true, cases_Bool, ap, ◌∙◌, List, length, get_or, slice_index, arith, nat_tests, IsCharBoundary-start, IsCharBoundary-after_ascii}
use Rattle.bidi_shown.specs.PrintableLines.{is_printable_ascii, is_printable_or_feed, ArePrintableLines}
use Rattle.bidi_shown.proofs.PrintableLemmas.{printable-line, printable-longer}
use Rattle.bidi_shown.proofs.printable.printable_lines.Goals as goal
use Rattle.bidi_shown.proofs.printable.printable_lines.Goals.{then-byte-eq10, else-byte-eq10+else-not-is_printable_ascii}

read_more : (text : List ℕ) (at : ℕ) → is_printable_or_feed (slice_index text at) ≡ true → ((k : ℕ) → k < at → is_printable_or_feed (slice_index text k) ≡ true) → (k : ℕ) → k < at + 1 → is_printable_or_feed (slice_index text k) ≡ true
read_more text at here before k below = grind (arith, cases_Bool (k == at), nat_tests, before k)

-- no line feed is here, so no lines end here
longest_more : (text : List ℕ) (at end : ℕ) → is_printable_ascii (slice_index text at) ≡ true → ((len : ℕ) → len ≤ at → ArePrintableLines text len → len ≤ end)
    → (len : ℕ) → len ≤ at + 1 → ArePrintableLines text len → len ≤ end
longest_more text at end here before len few lines =
    let last : len ≡ at + 1 → slice_index text (len - 1) ≡ slice_index text at = λ all. ap (λ n. slice_index text (n - 1)) all ∙ ap (slice_index text) (omega arith) in
    grind (arith, nat_tests, here, last, before len, lines.ended)

lines_more : (text : List ℕ) (at : ℕ) → at < length text → slice_index text at ≡ 0x0A → ((k : ℕ) → k < at + 1 → is_printable_or_feed (slice_index text k) ≡ true) → ArePrintableLines text (at + 1)
lines_more text at within feed read = record {
  within = omega (arith, within);
  printable = read;
  ended = λ some. ap (slice_index text) (omega arith) ∙ feed;
}

pub loop-at-init : goal.loop-at-init
loop-at-init c = grind (arith, IsCharBoundary-start c.args.text.now c.utf8.text)

pub loop-at-preserved : goal.loop-at-preserved
loop-at-preserved c =
    let text : List ℕ = c.args.text.now in
    let at : ℕ = c.loop-at.at in
    let end : ℕ = c.loop-at.end in
    let ordered : end ≤ at = c.loop-at.invariant.ordered in
    let within : at < length text = grind arith in
    elim c.if-byte-eq10.branch [
      | then-byte-eq10 w ↦
          let feed : get_or text at 0 ≡ 0x0A = grind arith in
          let here : is_printable_or_feed (slice_index text at) ≡ true = grind (arith, nat_tests) in
          let read = read_more text at here c.loop-at.invariant.read in
          let none : (at + 1) - (at + 1) ≡ 0 = omega arith in
          simp w.end-is (record {
            ordered = omega arith;
            printable = simp none;
            read = read;
            lines = lines_more text at within feed read;
            longest = λ len few lines. few;
            boundary = IsCharBoundary-after_ascii text at c.utf8.text within (omega (arith, feed));
            shown = λ view requires. printable-line text end at ordered within view requires c.utf8.text c.loop-at.invariant.boundary feed c.loop-at.invariant.printable (c.loop-at.invariant.shown view requires);
          })
      | else-byte-eq10+else-not-is_printable_ascii w ↦
          let printable : is_printable_ascii (get_or text at 0) ≡ true = grind arith in
          let here : is_printable_or_feed (slice_index text at) ≡ true = grind arith in
          simp w.end-is (record {
            ordered = omega arith;
            printable = printable-longer text end at ordered within c.loop-at.invariant.printable printable;
            read = read_more text at here c.loop-at.invariant.read;
            lines = c.loop-at.invariant.lines;
            longest = longest_more text at end printable c.loop-at.invariant.longest;
            boundary = c.loop-at.invariant.boundary;
            shown = c.loop-at.invariant.shown;
          })
    ]
