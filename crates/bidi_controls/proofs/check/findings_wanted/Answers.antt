use Rattle.bidi_base.proofs.Common.{◌≡◌, ℕ, ◌+◌, ◌++◌, List, ◌∷◌, take, sym, ap, arith, append_assoc, append-nil, not, or_parts, ◌∙◌, Source}
use Rattle.bidi_controls.proofs.LinesWithoutControls.{findings_in_line-without_controls}
use Rattle.bidi_controls.specs.Findings.{findings_of, findings_from, findings_in_line}
use Rattle.bidi_controls.specs.FileLines.{file_lines_of}
use Rattle.bidi_controls.specs.declared.finding.Finding.{Finding}
use Rattle.bidi_controls.specs.declared.finding.Wanted.{Wanted}
use Rattle.std.proofs.lemmas.Bool.{not-false}
use Rattle.bidi_controls.proofs.check.findings_wanted.Goals as goal
use Rattle.bidi_controls.proofs.check.findings_wanted.Goals.{then-may_have_findings+in_ok-push_found_in, else-may_have_findings}

pub loop-rest-init : goal.loop-rest-init
unfolding findings_of
loop-rest-init g c = grind arith

-- the findings in a line go before those in the lines after it
with_line : (source : Source) (wanted : Wanted) (n : ℕ) (rest line after : List ℕ) (old new all : List Finding) → file_lines_of rest ≡ line ∷ file_lines_of after
    → old ++ findings_from source wanted (n + 1) (file_lines_of rest) ≡ all → new ≡ old ++ findings_in_line source wanted (n + 1) line
    → new ++ findings_from source wanted (n + 1 + 1) (file_lines_of after) ≡ all
with_line source wanted n rest line after old new all first before here = grind (arith, append_assoc)

pub loop-rest-preserved : goal.loop-rest-preserved
loop-rest-preserved g c =
    let source = g.D.BidiDataSource.source c.args.data_source.now in
    let first = c.first_file_line-first.ensures in
    let line = take c.first_file_line-first.result.len c.loop-rest.rest.now in
    let here : c.if-may_have_findings.found.findings.items ≡ c.loop-rest.found.findings.items ++ findings_in_line source c.args.wanted (c.loop-rest.lines_before + 1) line = elim c.if-may_have_findings.branch [
      | then-may_have_findings+in_ok-push_found_in w ↦
          ap (λ found. found.findings.items) w.found-is
          ∙ (w.in_ok-push_found_in.ensures.findings ∙ ap (λ chars. c.loop-rest.found.findings.items ++ findings_in_line source c.args.wanted (c.loop-rest.lines_before + 1) chars) c.split_at.ensures.front)
      | else-may_have_findings w ↦
          let parts = or_parts (not c.first_file_line-first.result.has_no_controls) c.args.wanted.letters_alone (sym c.may_have_findings.ensures ∙ w.if-may_have_findings.false) in
          ap (λ found. found.findings.items) w.found-is
          ∙ sym (append-nil c.loop-rest.found.findings.items)
          ∙ ap (λ t. c.loop-rest.found.findings.items ++ t) (sym (findings_in_line-without_controls source c.args.wanted (c.loop-rest.lines_before + 1) line parts.1 (first.without_controls (not-false _ parts.0))))
    ] in
    record {
      few = grind arith;
      found = with_line source c.args.wanted c.loop-rest.lines_before c.loop-rest.rest.now line c.split_at.result.1.now _ _ _
          (first.first ∙ ap (λ after. line ∷ file_lines_of after) (sym c.split_at.ensures.back)) c.loop-rest.invariant.found here;
    }
