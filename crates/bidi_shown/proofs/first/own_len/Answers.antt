use Rattle.bidi_base.proofs.Common.{◌≡◌, ◌∙◌, ◌++◌, ℕ, false, List, [], take, drop, ap, sym, arith, common_steps, append-nil, chars-nil, chars, encode_utf8, char_indices_rest, char_indices_offset}
use Rattle.bidi_base.proofs.Common.{is_paragraph_separator, Source, IsCharBoundary-start}
use Rattle.bidi_base.specs.Paragraphs.{own_chars}
use Rattle.bidi_shown.proofs.FirstLemmas.{own-ended, past-boundary, past-rest, from-chars, past-own, past-after}
use Rattle.bidi_shown.proofs.first.own_len.Goals as goal
use Rattle.bidi_shown.proofs.first.own_len.Goals.{Then-separates}
use Rattle.bidi_shown.proofs.first.own_len.Given.{Over}

pub loop-at-init : goal.loop-at-init
loop-at-init g c = grind (arith, common_steps, chars-nil, IsCharBoundary-start c.args.text.now c.utf8.text)

-- at a separator nothing is left
ended : (g : Over) (c : Then-separates g) → own_chars (g.D.BidiDataSource.source c.args.data_source.now) (chars (drop (char_indices_offset c.loop-at.at-iterator) c.args.text.now)) ≡ []
ended g c =
    let source : Source = g.D.BidiDataSource.source c.args.data_source.now in
    let here : drop (char_indices_offset c.loop-at.at-iterator) c.args.text.now ≡ encode_utf8 c.in-Some.c ++ char_indices_rest c.next.new.self = sym c.loop-at.invariant.rest ∙ c.in-Some.ensures.steps.1 in
    ap (own_chars source) (from-chars source c.args.text.now c.utf8.text (char_indices_offset c.loop-at.at-iterator) c.in-Some.c (char_indices_rest c.next.new.self) c.loop-at.invariant.boundary here)
    ∙ own-ended source c.in-Some.c (chars (char_indices_rest c.next.new.self)) (sym c.separates.ensures ∙ c.if-separates.true)

pub returns-then-separates-clause-own : goal.returns-then-separates-clause-own
returns-then-separates-clause-own g c =
    let w : Then-separates g = (goal.at.returns-then-separates-clause-own g c).Then-separates in
    let front : List ℕ = chars (take (char_indices_offset c.loop-at.at-iterator) c.args.text.now) in
    rw c.in-Some.ensures.steps.0 (sym (append-nil front) ∙ ap (λ (l : List ℕ). front ++ l) (sym (ended g w)) ∙ c.loop-at.invariant.own)

pub returns-then-separates-clause-ended : goal.returns-then-separates-clause-ended
returns-then-separates-clause-ended g c = rw c.in-Some.ensures.steps.0 (ended g (goal.at.returns-then-separates-clause-ended g c).Then-separates)

pub loop-at-preserved : goal.loop-at-preserved
loop-at-preserved g c =
    let source : Source = g.D.BidiDataSource.source c.args.data_source.now in
    let text : List ℕ = c.args.text.now in
    let at : ℕ = char_indices_offset c.loop-at.at-iterator in
    let rest : List ℕ = char_indices_rest c.next.new.self in
    let here : drop at text ≡ encode_utf8 c.in-Some.c ++ rest = sym c.loop-at.invariant.rest ∙ c.in-Some.ensures.steps.1 in
    let other : is_paragraph_separator (source.class_of c.in-Some.c) ≡ false = sym c.separates.ensures ∙ c.if-separates.false in
    let boundary = past-boundary source text c.utf8.text at c.in-Some.c rest c.loop-at.invariant.boundary here in
    simp c.in-Some.ensures.steps.2 (record {
      within = boundary.0;
      rest = past-rest source text c.utf8.text at c.in-Some.c rest c.loop-at.invariant.boundary here;
      boundary = boundary;
      own = past-own source text c.utf8.text at c.in-Some.c rest c.loop-at.invariant.boundary here other c.loop-at.invariant.own;
      after = past-after source text c.utf8.text at c.in-Some.c rest c.loop-at.invariant.boundary here other c.loop-at.invariant.after;
    })
