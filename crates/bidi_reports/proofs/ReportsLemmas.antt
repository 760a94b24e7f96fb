-- What is reported of the findings of a line, one finding after another.
use Rattle.bidi_base.proofs.Common.{◌≡◌, ℕ, ◌+◌, ◌<◌, ◌≤◌, Bool, true, false, not, ◌==◌, List, [], ◌∷◌, ◌++◌, length, get_or, drop, drop-cons, drop_all, add-one, append-nil, append_assoc, refl, arith, nat_tests, list_any, take, take_all, ◌||◌, ◌∙◌}
use Rattle.std.proofs.lemmas.List.Folds.{list_any_more}
use Rattle.bidi_controls.specs.FileSearch.{DisplayedAt}
use Rattle.bidi_controls.specs.declared.finding.Finding.{Finding}
use Rattle.bidi_controls.specs.declared.finding.Trouble.{Trouble}
use Rattle.bidi_controls.specs.declared.finding.Trouble.TheVariants.{NotClosed, ClosesNothing, Present, DisplayedDifferently, LettersAlone}
use Rattle.bidi_reports.specs.Digests.{digest_for}
use Rattle.bidi_reports.specs.Reports.{differs, displayed_for, finding_report, findings_report, is_left_out}
use Rattle.bidi_reports.specs.Words.{is_displayed_differently, is_unmatched}
use Rattle.bidi_reports.specs.declared.form.Form.{Form}
use Rattle.bidi_reports.specs.declared.form.Form.TheVariants.{Quiet, Text, Json, Sarif}

module _ (form : Form) (different : Bool) (name line : List ℕ) (displayed : List DisplayedAt) (findings : List Finding) where
  abbrev rest : Bool → ℕ → List ℕ
  rest later i = findings_report form different later name line displayed (drop i findings)

  abbrev own : Bool → Finding → List ℕ
  own later finding = finding_report form later name line (digest_for form line) (displayed_for displayed finding) finding

  rest-own : (later : Bool) (i : ℕ) (d : Finding) → i < length findings → is_left_out form different (get_or findings i d) ≡ false
      → rest later i ≡ own later (get_or findings i d) ++ rest true (i + 1)
  unfolding findings_report
  rest-own later i d within kept = rw (add-one, drop-cons findings i d) (simp kept)

  rest-left_out : (later : Bool) (i : ℕ) (d : Finding) → i < length findings → is_left_out form different (get_or findings i d) ≡ true
      → rest later i ≡ rest later (i + 1)
  unfolding findings_report
  rest-left_out later i d within left = rw (add-one, drop-cons findings i d) (simp left)

  -- a finding more
  pub report-more : (later : Bool) (i : ℕ) (d : Finding) (digest old new all : List ℕ) → i < length findings → is_left_out form different (get_or findings i d) ≡ false
      → digest ≡ digest_for form line → old ++ rest later i ≡ all
      → new ≡ old ++ finding_report form later name line digest (displayed_for displayed (get_or findings i d)) (get_or findings i d)
      → new ++ rest true (i + 1) ≡ all
  report-more later i d digest old new all within kept same before here =
      let own_here : new ≡ old ++ own later (get_or findings i d) = rw same at here in grind (arith, append_assoc, rest-own later i d within kept)

  -- a finding that is left out
  pub report-left_out : (later : Bool) (i : ℕ) (d : Finding) (old all : List ℕ) → i < length findings → is_left_out form different (get_or findings i d) ≡ true
      → old ++ rest later i ≡ all → old ++ rest later (i + 1) ≡ all
  report-left_out later i d old all within left before = grind (arith, rest-left_out later i d within left)

  -- after the last one
  pub report-end : (later : Bool) (i : ℕ) (old all : List ℕ) → length findings ≤ i → old ++ rest later i ≡ all → old ≡ all
  unfolding findings_report
  report-end later i old all past before = grind (arith, append-nil, drop_all i findings past)

-- a finding is reported
abbrev pub is_kept : Form → Bool → Finding → Bool
is_kept form different finding = not (is_left_out form different finding)

-- whether a finding is reported, after one that is left out
pub later-left_out : (form now : Form) (different : Bool) (findings : List Finding) (i : ℕ) (d : Finding) (later before : Bool) → i < length findings → now ≡ form
    → is_left_out now different (get_or findings i d) ≡ true → later ≡ (before || list_any (is_kept form different) (take i findings))
    → later ≡ (before || list_any (is_kept form different) (take (i + 1) findings))
later-left_out form now different findings i d later before within same left is =
    let out : is_left_out form different (get_or findings i d) ≡ true = rw same at left in
    grind (arith, list_any_more (is_kept form different) findings i d within)

-- and after one that is reported
pub later-kept : (form now : Form) (different : Bool) (findings : List Finding) (i : ℕ) (d : Finding) (later before : Bool) → i < length findings → now ≡ form
    → is_left_out now different (get_or findings i d) ≡ false → later ≡ true
    → later ≡ (before || list_any (is_kept form different) (take (i + 1) findings))
later-kept form now different findings i d later before within same kept is =
    let own : is_left_out form different (get_or findings i d) ≡ false = rw same at kept in
    grind (arith, list_any_more (is_kept form different) findings i d within)

kept-different : (trouble : Trouble) → is_displayed_differently trouble ≡ true → is_unmatched trouble ≡ false
kept-different NotClosed is = cc
kept-different ClosesNothing is = cc
kept-different Present is = refl
kept-different DisplayedDifferently is = refl
kept-different LettersAlone is = refl

one-kept : (findings : List Finding) → differs findings ≡ true → list_any (is_kept Sarif true) findings ≡ true
one-kept [] is = cc
one-kept (finding ∷ findings) is = grind (arith, kept-different finding.trouble, one-kept findings)

not_empty : (finding : Finding) (findings : List Finding) → true ≡ not (length (finding ∷ findings) == 0)
not_empty finding findings = grind (arith, nat_tests)

-- one of a line's findings is reported, if there is any
any-kept : (form : Form) (different : Bool) (findings : List Finding) → differs findings ≡ different
    → list_any (is_kept form different) findings ≡ not (length findings == 0)
any-kept form different [] is = refl
any-kept Quiet different (finding ∷ findings) is = not_empty finding findings
any-kept (Text excerpts colors notes) different (finding ∷ findings) is = not_empty finding findings
any-kept Json different (finding ∷ findings) is = not_empty finding findings
any-kept Sarif false (finding ∷ findings) is = not_empty finding findings
any-kept Sarif true (finding ∷ findings) is = one-kept (finding ∷ findings) is ∙ not_empty finding findings

pub later-end : (form : Form) (different : Bool) (findings : List Finding) (i : ℕ) (later before : Bool) → length findings ≤ i → differs findings ≡ different
    → later ≡ (before || list_any (is_kept form different) (take i findings)) → later ≡ (before || not (length findings == 0))
later-end form different findings i later before past same is = grind (arith, take_all i findings past, any-kept form different findings same)
