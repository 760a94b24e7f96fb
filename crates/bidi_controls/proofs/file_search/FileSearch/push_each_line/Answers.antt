use Rattle.bidi_base.proofs.Common.{◌≡◌, ◌+◌, ◌++◌, ◌∙◌, ◌∷◌, false, sym, ap, arith, append-nil, map, ℕ, List, length, nil_from_length, []}
use Rattle.bidi_controls.specs.Decoded.{utf8_decoded}
use Rattle.bidi_controls.specs.FileLines.{file_lines_of}
use Rattle.bidi_controls.proofs.FileLinesLemmas.{no_lines}
use Rattle.bidi_controls.specs.FileSearch.{line_of, found_from, may_hold}
use Rattle.bidi_controls.proofs.FoundLemmas.{first-nothing, first-count}
use Rattle.bidi_controls.specs.declared.check.Sought.{Sought}
use Rattle.bidi_unicode.specs.Unicode.{unicode_source}
use Rattle.bidi_controls.proofs.LossyLemmas.{utf8_decoded-nil}
use Rattle.bidi_controls.proofs.file_search.FileSearch.push_each_line.Goals as goal

nothing-left : (sought : Sought) (number : ℕ) (bytes : List ℕ) → length bytes ≡ 0 → found_from unicode_source sought number (file_lines_of (utf8_decoded bytes)) ≡ []
nothing-left sought number bytes none =
    ap (λ t. found_from unicode_source sought number (file_lines_of (utf8_decoded t))) (nil_from_length bytes none)
    ∙ ap (λ t. found_from unicode_source sought number (file_lines_of t)) utf8_decoded-nil

pub loop-rest-preserved : goal.loop-rest-preserved
loop-rest-preserved c =
    let h = c.loop-rest.invariant.0 in
    let sought = c.args.self.now.sought in
    let number = c.loop-rest.self.lines + 1 in
    let rest = c.loop-rest.rest.now in let line = c.split_at.result.0.now in let after = c.split_at.result.1.now in
    let first : file_lines_of (utf8_decoded rest) ≡ utf8_decoded line ∷ file_lines_of (utf8_decoded after) =
    rw (c.split_at.ensures.front, c.split_at.ensures.back) c.first_line_len.ensures.first in
    let none : may_hold sought.wanted line ≡ false = ap (λ (s : Sought). may_hold s.wanted line) (sym c.loop-rest.invariant.1) ∙ sym c.may_hold.ensures ∙ c.if-may_hold.false in
    let same = first-nothing sought number rest line after first none in
    let count = first-count sought number rest line after first in (
      record {
        all = ap (λ t. map line_of c.loop-rest.found.items ++ t) (sym same) ∙ h.all;
        count = let before = h.count in omega arith;
        few = let before = h.few in omega (arith, c.split_at.ensures.back_len, c.first_line_len.ensures.advances);
      },
      c.loop-rest.invariant.1,
      c.loop-rest.invariant.2,
      c.loop-rest.invariant.3,
    )

pub returns-clause-found : goal.returns-clause-found
returns-clause-found c =
    let none = nothing-left c.args.self.now.sought (c.loop-rest.self.lines + 1) c.loop-rest.rest.now (grind arith) in
    sym (append-nil (map line_of c.loop-rest.found.items)) ∙ ap (λ t. map line_of c.loop-rest.found.items ++ t) (sym none) ∙ c.loop-rest.invariant.0.all

pub returns-clause-lines : goal.returns-clause-lines
returns-clause-lines c =
    let none = no_lines c.loop-rest.rest.now (grind arith) in let all = c.loop-rest.invariant.0.count in omega arith
