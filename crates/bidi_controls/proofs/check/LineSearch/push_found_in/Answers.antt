use Rattle.bidi_base.proofs.Common.{◌≡◌, ℕ, ◌+◌, ◌-◌, ◌++◌, ◌≤◌, List, [], ◌∷◌, length, length-drop, length-take-le, sym, ap, ap₂, arith, append_assoc, append-nil, ◌∙◌, Source}
use Rattle.bidi_controls.specs.FileSearch.{DisplayedAt, displayed_in_line, displayed_in_paragraph, displayed_in_paragraphs}
use Rattle.bidi_controls.specs.Findings.{findings_in_line, findings_in_paragraph, findings_in_paragraphs}
use Rattle.bidi_base.specs.Paragraphs.{paragraphs_in}
use Rattle.bidi_controls.specs.declared.check.Sought.{Sought}
use Rattle.bidi_controls.specs.declared.finding.Finding.{Finding}
use Rattle.bidi_controls.specs.declared.finding.Wanted.{Wanted}
use Rattle.bidi_controls.proofs.check.LineSearch.push_found_in.Goals as goal

-- what is found in a paragraph goes before what is found in the paragraphs after it
with_paragraph : (source : Source) (wanted : Wanted) (number from next : ℕ) (rest paragraph after : List ℕ) (old new all : List Finding) → paragraphs_in source rest ≡ paragraph ∷ paragraphs_in source after
    → next ≡ from + length paragraph → old ++ findings_in_paragraphs source wanted number from (paragraphs_in source rest) ≡ all → new ≡ old ++ findings_in_paragraph source wanted number from paragraph
    → new ++ findings_in_paragraphs source wanted number next (paragraphs_in source after) ≡ all
with_paragraph source wanted number from next rest paragraph after old new all first next_is before here = grind (arith, append_assoc)

with_displayed : (source : Source) (sought : Sought) (from next : ℕ) (rest paragraph after : List ℕ) (old new all : List DisplayedAt) → paragraphs_in source rest ≡ paragraph ∷ paragraphs_in source after
    → next ≡ from + length paragraph → old ++ displayed_in_paragraphs source sought from (paragraphs_in source rest) ≡ all → new ≡ old ++ displayed_in_paragraph source sought from paragraph
    → new ++ displayed_in_paragraphs source sought next (paragraphs_in source after) ≡ all
with_displayed source sought from next rest paragraph after old new all first next_is before here = grind (arith, append_assoc)

-- after the last paragraph nothing more is found
at_end : (source : Source) (wanted : Wanted) (number from : ℕ) (rest : List ℕ) (old all : List Finding) → length rest ≡ 0
    → old ++ findings_in_paragraphs source wanted number from (paragraphs_in source rest) ≡ all → old ≡ all
at_end source wanted number from [] old all none found = sym (append-nil old) ∙ found
at_end source wanted number from (c ∷ rest) old all none found = absurd (omega (arith, none))

displayed_at_end : (source : Source) (sought : Sought) (from : ℕ) (rest : List ℕ) (old all : List DisplayedAt) → length rest ≡ 0
    → old ++ displayed_in_paragraphs source sought from (paragraphs_in source rest) ≡ all → old ≡ all
displayed_at_end source sought from [] old all none found = sym (append-nil old) ∙ found
displayed_at_end source sought from (c ∷ rest) old all none found = absurd (omega (arith, none))

pub loop-rest-init : goal.loop-rest-init
loop-rest-init g c = grind arith

pub loop-rest-preserved : goal.loop-rest-preserved
loop-rest-preserved g c =
    let source = g.D.BidiDataSource.source c.args.data_source.now in
    let rest : List ℕ = c.loop-rest.rest.now in
    let paragraph : List ℕ = c.split_at.result.0.now in
    let after : List ℕ = c.split_at.result.1.now in
    let fits : length rest ≤ length c.args.line.now.chars.now = c.loop-rest.invariant.fits in
    let within : c.first_paragraph_len.result ≤ length rest = c.first_paragraph_len.ensures.within in
    let front_len : length paragraph ≡ c.first_paragraph_len.result = ap length c.split_at.ensures.front ∙ length-take-le c.first_paragraph_len.result rest within in
    let back_len : length after ≡ length rest - c.first_paragraph_len.result = ap length c.split_at.ensures.back ∙ length-drop c.first_paragraph_len.result rest in
    let first : paragraphs_in source rest ≡ paragraph ∷ paragraphs_in source after =
    c.first_paragraph_len.ensures.first ∙ ap₂ (λ p a. p ∷ paragraphs_in source a) (sym c.split_at.ensures.front) (sym c.split_at.ensures.back) in
    let next : length c.args.line.now.chars.now - length after ≡ length c.args.line.now.chars.now - length rest + length paragraph = omega (arith, fits, front_len, back_len, within) in
    record {
      fits = omega (arith, fits, back_len, within);
      findings = with_paragraph source c.args.sought.wanted c.args.line.now.number (length c.args.line.now.chars.now - length rest) (length c.args.line.now.chars.now - length after) rest paragraph after _ _ _ first
          next c.loop-rest.invariant.findings c.in_ok-push_found_in_paragraph.ensures.findings;
      displayed = with_displayed source c.args.sought (length c.args.line.now.chars.now - length rest) (length c.args.line.now.chars.now - length after) rest paragraph after _ _ _ first
          next c.loop-rest.invariant.displayed c.in_ok-push_found_in_paragraph.ensures.displayed;
    }

pub returns-clause-findings : goal.returns-clause-findings
unfolding findings_in_line
returns-clause-findings g c =
    at_end (g.D.BidiDataSource.source c.args.data_source.now) c.args.sought.wanted c.args.line.now.number _ c.loop-rest.rest.now _ _ (grind arith) c.loop-rest.invariant.findings

pub returns-clause-displayed : goal.returns-clause-displayed
unfolding displayed_in_line
returns-clause-displayed g c =
    displayed_at_end (g.D.BidiDataSource.source c.args.data_source.now) c.args.sought _ c.loop-rest.rest.now _ _ (grind arith) c.loop-rest.invariant.displayed
