use Rattle.bidi_base.proofs.Common.{◌≡◌, ℕ, ◌+◌, ◌-◌, ◌<◌, ◌≤◌, true, false, List, All, length, take, drop, get_or, ap, subst, sym, ◌∙◌, arith, length-drop, length-take-le, take_all, nat_tests}
use Rattle.bidi_base.proofs.Common.{Source, get_or-drop, get_or-take, get_or_default}
use Rattle.bidi_controls.specs.FileLines.{ends_file_line}
use Rattle.bidi_controls.specs.Lines.{is_printable_ascii}
use Rattle.bidi_controls.proofs.LinesLemmas.{IsUnbroken-more, IsUnbroken-plain, IsUnbroken-ended, IsUnbroken-whole}
use Rattle.bidi_controls.proofs.LinesWithoutControls.{HaveNoControls-more, HaveNoControls-plain}
use Rattle.bidi_controls.proofs.lines.first_file_line.Goals as goal
use Rattle.bidi_controls.proofs.lines.first_file_line.Goals.{then-is_control_or_mark, else-is_control_or_mark}

-- what is after an index
behind : (n : ℕ) (chars : List ℕ) → drop n chars ≡ take (length chars - n) (drop n chars)
behind n chars = sym (take_all (length chars - n) (drop n chars) (omega (arith, length-drop n chars)))

-- printable ASCII ends no line
no_end : (c : ℕ) → is_printable_ascii c ≡ true → (after : List ℕ) → ends_file_line c after ≡ false
no_end c printable after = grind (arith, nat_tests)

-- each of the characters of a block is printable ASCII
in_block : (chars : List ℕ) (n k : ℕ) → n + k ≤ length chars → All (λ c. is_printable_ascii c ≡ true) (take k (drop n chars)) → (i : ℕ)
    → n ≤ i → i < n + k → is_printable_ascii (get_or chars i 0) ≡ true
in_block chars n k fits printable i low high =
    let same : get_or (take k (drop n chars)) (i - n) 0 ≡ get_or chars i 0 =
    get_or-take k (drop n chars) (i - n) 0 (omega (arith, low, high)) ∙ get_or-drop n chars (i - n) 0 ∙ ap (λ j. get_or chars j 0) (omega (arith, low)) in
    ap is_printable_ascii (sym same) ∙ printable (i - n) 0 (omega (arith, low, high, fits, length-take-le k (drop n chars), length-drop n chars))

as_many : (chars : List ℕ) (at n k : ℕ) → n ≡ k → All (λ c. is_printable_ascii c ≡ true) (take n (drop at chars)) → All (λ c. is_printable_ascii c ≡ true) (take k (drop at chars))
as_many chars at n k same printable = subst (λ m. All (λ c. is_printable_ascii c ≡ true) (take m (drop at chars))) same printable

pub loop-at-preserved-then-are_printable_ascii : goal.loop-at-preserved-then-are_printable_ascii
loop-at-preserved-then-are_printable_ascii g c =
    let source : Source = g.D.BidiDataSource.source c.args.data_source.now in
    let chars : List ℕ = c.args.chars.now in
    let fits : c.loop-at.at + 16 ≤ length chars = grind arith in
    let block = in_block chars c.loop-at.at 16 fits
    (as_many chars c.loop-at.at (c.loop-at.at + 16 - c.loop-at.at) 16 (omega arith) (c.are_printable_ascii.ensures c.if-are_printable_ascii.true)) in
    record {
      ends = fits;
      unbroken = IsUnbroken-plain ends_file_line chars c.loop-at.at 16 fits (λ i low high. no_end (get_or chars i 0) (block i low high)) c.loop-at.invariant.unbroken;
      without_controls = λ yes. HaveNoControls-plain source chars c.loop-at.at 16 fits (λ i low high. c.requires.no_control_in_ascii c.if-ascii_has_no_control.true (get_or chars i 0) (block i low high)) (c.loop-at.invariant.without_controls yes);
    }

-- nor does this one
at_one : (chars : List ℕ) (at c : ℕ) → at < length chars → c ≡ get_or chars at c → is_printable_ascii c ≡ true → (i : ℕ) → at ≤ i → i < at + 1 → is_printable_ascii (get_or chars i 0) ≡ true
at_one chars at c fits here printable i low high =
    let same : at ≡ i = omega (arith, low, high) in
    subst (λ n. is_printable_ascii (get_or chars n 0) ≡ true) same (ap is_printable_ascii (sym (here ∙ get_or_default chars at c 0 fits)) ∙ printable)

pub loop-at-preserved-then-is_printable_ascii : goal.loop-at-preserved-then-is_printable_ascii
loop-at-preserved-then-is_printable_ascii g c =
    let source : Source = g.D.BidiDataSource.source c.args.data_source.now in
    let chars : List ℕ = c.args.chars.now in
    let fits : c.loop-at.at + 1 ≤ length chars = omega (arith, c.loop-at-test.true) in
    let here = at_one chars c.loop-at.at c.index-chars-at.result c.loop-at-test.true c.index-chars-at.is (sym c.is_printable_ascii.ensures ∙ c.if-is_printable_ascii.true) in
    record {
      ends = fits;
      unbroken = IsUnbroken-plain ends_file_line chars c.loop-at.at 1 fits (λ i low high. no_end (get_or chars i 0) (here i low high)) c.loop-at.invariant.unbroken;
      without_controls = λ yes. HaveNoControls-plain source chars c.loop-at.at 1 fits (λ i low high. c.requires.no_control_in_ascii c.if-ascii_has_no_control-2.true (get_or chars i 0) (here i low high)) (c.loop-at.invariant.without_controls yes);
    }

pub returns-then-ends_file_line-clause-first : goal.returns-then-ends_file_line-clause-first
returns-then-ends_file_line-clause-first g c = grind (arith, behind, IsUnbroken-ended ends_file_line c.args.chars.now)

pub returns-then-ends_file_line-clause-without_controls : goal.returns-then-ends_file_line-clause-without_controls
returns-then-ends_file_line-clause-without_controls g c =
    HaveNoControls-more (g.D.BidiDataSource.source c.args.data_source.now) c.args.chars.now c.loop-at.at _ _ _ c.loop-at-test.true c.index-chars-at.is
    (elim c.if-is_control_or_mark.branch [
      | then-is_control_or_mark w ↦ grind arith
      | else-is_control_or_mark w ↦ grind arith
    ])
    c.loop-at.invariant.without_controls

pub loop-at-preserved : goal.loop-at-preserved
loop-at-preserved g c = record {
  ends = omega (arith, c.loop-at-test.true);
  unbroken = grind (arith, behind, IsUnbroken-more ends_file_line c.args.chars.now);
  without_controls = HaveNoControls-more (g.D.BidiDataSource.source c.args.data_source.now) c.args.chars.now c.loop-at.at _ _ _ c.loop-at-test.true c.index-chars-at.is
      (elim c.if-is_control_or_mark.branch [
        | then-is_control_or_mark w ↦ grind arith
        | else-is_control_or_mark w ↦ grind arith
      ])
      c.loop-at.invariant.without_controls;
}

pub returns-clause-first : goal.returns-clause-first
returns-clause-first g c = grind (arith, IsUnbroken-whole ends_file_line c.args.chars.now)
