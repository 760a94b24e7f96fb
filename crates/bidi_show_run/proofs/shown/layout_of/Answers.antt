use Rattle.bidi_base.proofs.Common.{◌≡◌, ◌∙◌, ◌++◌, ◌<◌, ◌∷◌, [], List, ℕ, length, map, sym, ap, arith, eqb-true, common_steps, eqb-false, len_utf8, chars, Range, Run, run_of, line_ranges}
use Rattle.bidi_show_run.specs.Texts.{one_column, one_at_least}
use Rattle.unicode_bidi.specs.BidiInfo.{text as text_of}
use Rattle.unicode_bidi.specs.ParagraphInfo.{range_of}
use Rattle.bidi_show_run.proofs.shown.layout_of.Goals as goal
use Rattle.bidi_show_run.proofs.shown.layout_of.Goals.{then-is_empty+in_ok-push, else-is_empty}

-- if no line was found, there is an empty one
none_found : (start : ℕ) (lines : List (Range ℕ)) (ranges : List Run) → length lines ≡ 0 → map run_of lines ≡ ranges
    → map run_of (lines ++ (record { start = start; end = start }) ∷ []) ≡ one_at_least start ranges
none_found start lines ranges none found = grind (arith, common_steps)

some_found : (start : ℕ) (lines : List (Range ℕ)) (ranges : List Run) → 0 < length lines → map run_of lines ≡ ranges → map run_of lines ≡ one_at_least start ranges
some_found start lines ranges some found = grind (arith, common_steps)

pub returns-clause-lines : goal.returns-clause-lines
returns-clause-lines g c =
    let cs : List ℕ = chars (text_of c.args.info.now) in
    let start : ℕ = c.range-start.result.start in
    let end : ℕ = c.own_end-end.result in
    let range : range_of c.unwrap-own.result ≡ record { start = start; end = end } = rw c.unwrap-own.ensures at c.new.ensures.range in
    let found : map run_of c.in_ok-lines.lines.items ≡ line_ranges len_utf8 cs one_column c.args.limit start end =
    c.in_ok-lines.ensures.lines ∙ ap (λ (r : Range ℕ). line_ranges len_utf8 cs one_column c.args.limit r.start r.end) range in
    let shown : map run_of c.if-is_empty.lines.items ≡ one_at_least start (line_ranges len_utf8 cs one_column c.args.limit start end) =
    elim c.if-is_empty.branch [
      | then-is_empty+in_ok-push w ↦
          let none = eqb-true _ _ (sym c.is_empty.ensures ∙ w.if-is_empty.true) in
          rw w.lines-is (ap (map run_of) w.in_ok-push.ensures.items ∙ none_found start c.in_ok-lines.lines.items _ (omega (arith, none, c.in_ok-lines.lines.ok.0)) found)
      | else-is_empty w ↦
          let some = eqb-false _ _ (sym c.is_empty.ensures ∙ w.if-is_empty.false) in
          rw w.lines-is (some_found start c.in_ok-lines.lines.items _ (omega (arith, some, c.in_ok-lines.lines.ok.0)) found)
    ] in
    shown ∙ simp (c.range-start.ensures, c.own_end-end.ensures.end)
