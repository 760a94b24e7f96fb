-- What the paragraphs of a text are by each rule: also where a carriage return and the line feed after it stay
-- together.
use Rattle.bidi_base.proofs.Common.{◌≡◌, ℕ, true, false, not, ◌&&◌, ◌==◌, List, [], ◌∷◌, refl, inl, inr, arith, All, onto_first, All-nil, All-cons, All-tail}
use Rattle.bidi_base.proofs.Common.{cases_Bool, and_parts, SplitTest, cut_after, begins_with_line_feed, cr_lf_together, ends_by, paragraphs_of, ranges_from, Source}
use Rattle.bidi_base.specs.Paragraphs.{has_inner_end, AreParagraphRanges}
use Rattle.bidi_base.specs.declared.split_rule.SplitRule.{SplitRule}
use Rattle.bidi_base.specs.declared.split_rule.SplitRule.TheVariants.{EachSeparator, CrLfTogether}
use Rattle.bidi_laws.proofs.ParagraphsLemmas.{All-onto_first, is_stop, Ends, paragraphs-undivided, cut_after-ended, cut_after-partition, cut_after-lines, cut_after-AllButLast, cut_after-All}
use Rattle.bidi_base.proofs.TextLemmas.{HasUnits}

module _ (source : Source) where
  abbrev ends : SplitTest
  ends = cr_lf_together source

  abbrev Holds : List ℕ → Type 0
  Holds p = has_inner_end ends p ≡ false

  stops : (c : ℕ) (after : List ℕ) → ends c after ≡ true → is_stop source c ≡ true
  stops c after e = (and_parts (is_stop source c) (not (c == 0x0D && begins_with_line_feed source after)) e).0

  together-undivided : (chars : List ℕ) → All Holds (cut_after ends chars)
  together-undivided [] = All-nil Holds
  together-undivided (c ∷ cs) = elim (cases_Bool (ends c cs)) [
    | inl stop ↦ rw stop (All-cons Holds (c ∷ []) (cut_after ends cs) refl (together-undivided cs))
    | inr on ↦ rw on (elim (cases_Bool (is_stop source c)) [
      | inl pair ↦ paired cs (grind arith) (together-undivided cs)
      | inr other ↦ All-onto_first Holds c (cut_after ends cs) refl (λ p h. grind arith) (together-undivided cs)
    ])
  ]
    where
      paired : (ds : List ℕ) → ((c == 0x0D) ≡ true) × (begins_with_line_feed source ds ≡ true) → All Holds (cut_after ends ds) → All Holds (onto_first c (cut_after ends ds))
      paired [] p h = absurd (cc p.1)
      paired (d ∷ ds) p h =
          let stop : ends d ds ≡ true = grind arith in
          rw stop (All-cons Holds (c ∷ d ∷ []) (cut_after ends ds) (grind arith) (All-tail Holds (d ∷ []) (cut_after ends ds) (rw stop at h)))

-- the ranges of the paragraphs of a text by a rule
ends_by-stop : (rule : SplitRule) (source : Source) (c : ℕ) (after : List ℕ) → ends_by rule source c after ≡ true → is_stop source c ≡ true
ends_by-stop EachSeparator source c after e = e
ends_by-stop CrLfTogether source c after e = stops source c after e

rule-undivided : (rule : SplitRule) (source : Source) (chars : List ℕ) → All (λ p. has_inner_end (ends_by rule source) p ≡ false) (cut_after (ends_by rule source) chars)
rule-undivided EachSeparator source chars = paragraphs-undivided source chars
rule-undivided CrLfTogether source chars = together-undivided source chars

pub rule-AreParagraphRanges : (rule : SplitRule) (source : Source) (len_of : ℕ → ℕ) → HasUnits len_of → (chars : List ℕ)
    → AreParagraphRanges rule source len_of chars (ranges_from len_of 0 (paragraphs_of (ends_by rule source) chars))
rule-AreParagraphRanges rule source len_of units chars = let ends : SplitTest = ends_by rule source in
    record {
      partition = cut_after-partition ends len_of units chars;
      lines = cut_after-lines ends len_of units chars;
      ended = cut_after-AllButLast ends len_of units chars (Ends source) (cut_after-ended source ends (ends_by-stop rule source) chars);
      undivided = cut_after-All ends len_of units chars (λ p. has_inner_end ends p ≡ false) (rule-undivided rule source chars);
    }
