-- The ranges fit if each does, in the order of the list.
use Rattle.bidi_base.proofs.Common.{◌≡◌, ℕ, ◌<◌, ◌≤◌, List, length, map, get_or, take, ◌∙◌, arith, rules, All, Range, take_all, get_or-map, length-map, All-map, All-get_or, IsLine, bounds, AreLines}
use Rattle.std.proofs.lemmas.List.Elements.{All-more}
use Rattle.bidi_explicit.proofs.prepare.sequence.IsolatingRunSequence.fits.Goals as goal

one_of : (len_of : ℕ → ℕ) (chars : List ℕ) (runs read : List (Range ℕ)) (k : ℕ) (d : Range ℕ) → read ≡ runs → k < length read
    → AreLines len_of chars (map bounds runs) → IsLine len_of chars (get_or read k d).start (get_or read k d).end
one_of len_of chars runs read k d e fits all =
    simp (get_or-map bounds read k d (bounds d) fits) at
    (All-get_or (λ (r : ℕ × ℕ). IsLine len_of chars r.0 r.1) (map bounds read) k (bounds d) (omega (arith, fits, length-map read bounds)) (simp (← e) at all))

all_of : (len_of : ℕ → ℕ) (chars : List ℕ) (runs read : List (Range ℕ)) (k : ℕ) → read ≡ runs → length read ≤ k
    → All (λ (r : Range ℕ). IsLine len_of chars r.start r.end) (take k read) → AreLines len_of chars (map bounds runs)
all_of len_of chars runs read k e past all =
    All-map (λ (r : ℕ × ℕ). IsLine len_of chars r.0 r.1) bounds runs (simp (take_all k read past ∙ e) at all)

pub returns-then-not-is_line : goal.returns-then-not-is_line
returns-then-not-is_line g c = grind (arith, one_of)

pub loop-run-preserved : goal.loop-run-preserved
loop-run-preserved g c =
    All-more (λ (r : Range ℕ). IsLine g.T.TextSource.encoding.len_of (g.T.TextSource.text c.args.text).chars r.start r.end) c.runs-run-items.result.now c.loop-run.run-index _ c.loop-run-test.true c.loop-run.invariant (c.is_line.ensures.0 c.if-not-is_line.false)

pub returns : goal.returns
returns g c = search (rules, all_of)
