-- What is noted and written over lines of a file.
use Rattle.bidi_base.proofs.Common.{◌≡◌, ℕ, ◌+◌, ◌<◌, ◌||◌, Bool, true, false, List, [], ◌∷◌, ◌++◌, length, get_or, map, take, flat_map, refl, sym, ap, ◌∙◌, subst, drop, add-one, drop-cons, take_more, map-append, flat_map-append, append-nil, append_assoc, list_any, list_any-append, Option, Some, None}
use Rattle.std.specs.Prelude.{is_some}
use Rattle.bidi_arguments.specs.LineReports.{is_any_reported, is_reported, lines_report, reported_of}
use Rattle.bidi_controls.specs.FileSearch.{FoundAt, displayed_of, line_of}
use Rattle.bidi_controls.specs.declared.file_search.FoundLine.{FoundLine}
use Rattle.bidi_reports.specs.AllowIndex.{allows_at}
use Rattle.bidi_reports.specs.Allowances.{with_more}
use Rattle.bidi_reports.specs.Allowed.{AllowList, Notes}
use Rattle.bidi_reports.specs.Entries.{Entry, Query}
use Rattle.bidi_reports.specs.Reports.{line_report}
use Rattle.bidi_reports.specs.declared.form.Form.{Form}

or-assoc : (a b c : Bool) → ((a || b) || c) ≡ (a || (b || c))
or-assoc true b c = refl
or-assoc false b c = refl

-- questions after questions
pub notes-more : (first more : List Query) (a b c : AllowList) → Notes first a b → Notes more b c → Notes (first ++ more) a c
notes-more first more a b c p q = record {
  entries = q.entries ∙ p.entries;
  used = λ k within.
      let inside : k < length b.entries = subst (λ es. k < length es) (sym p.entries) within in
      q.used k inside
      ∙ ap (λ x. x || list_any (λ query. allows_at query b.entries k) more) (p.used k within)
      ∙ ap (λ es. (get_or a.used k false || list_any (λ query. allows_at query a.entries k) first) || list_any (λ query. allows_at query es k) more) p.entries
      ∙ or-assoc (get_or a.used k false) (list_any (λ query. allows_at query a.entries k) first) (list_any (λ query. allows_at query a.entries k) more)
      ∙ ap (λ x. get_or a.used k false || x) (sym (list_any-append (λ query. allows_at query a.entries k) first more));
}

-- one line more
pub line-more : {X : Type 0} (f : FoundAt → List X) (lines : List FoundLine) (i : ℕ) (line : FoundLine) → i < length lines → line ≡ get_or lines i line
    → flat_map f (map line_of (take (i + 1) lines)) ≡ flat_map f (map line_of (take i lines)) ++ f (line_of line)
line-more f lines i line within is =
    ap (λ ls. flat_map f (map line_of ls)) (take_more lines i line within)
    ∙ ap (flat_map f) (map-append line_of (take i lines) (get_or lines i line ∷ []))
    ∙ flat_map-append f (map line_of (take i lines)) (line_of (get_or lines i line) ∷ [])
    ∙ ap (λ own. flat_map f (map line_of (take i lines)) ++ own) (append-nil (f (line_of (get_or lines i line))))
    ∙ ap (λ own. flat_map f (map line_of (take i lines)) ++ f (line_of own)) (sym is)

-- text after text
pub written-more : (first more : List ℕ) (written : Option (List ℕ)) → with_more more (with_more first written) ≡ with_more (first ++ more) written
written-more first more None = refl
written-more first more (Some text) = ap Some (append_assoc text first more)

-- the lines that are left begin with this one
lines-left : (lines : List FoundLine) (i : ℕ) (line : FoundLine) → i < length lines → line ≡ get_or lines i line
    → map line_of (drop i lines) ≡ line_of line ∷ map line_of (drop (i + 1) lines)
lines-left lines i line within is =
    let cut : drop i lines ≡ get_or lines i line ∷ drop (i + 1) lines = rw add-one (drop-cons lines i line within) in
    ap (map line_of) cut ∙ ap (λ own. line_of own ∷ map line_of (drop (i + 1) lines)) (sym is)

module _ (entries : List Entry) (writes : Bool) (name : List ℕ) (lines : List FoundLine) (i : ℕ) (line : FoundLine) (within : i < length lines) (is : line ≡ get_or lines i line) where
  pub report-more : (out out_after whole : List ℕ) (form form_after : Form) (later later_after : Bool)
      → out ++ lines_report entries writes form later name (map line_of (drop i lines)) ≡ whole
      → out_after ≡ out ++ line_report form later name line.chars.items (map displayed_of line.displayed.items) (reported_of entries writes name (line_of line))
      → form_after ≡ form → later_after ≡ (later || is_reported entries writes name (line_of line))
      → out_after ++ lines_report entries writes form_after later_after name (map line_of (drop (i + 1) lines)) ≡ whole
  report-more out out_after whole form form_after later later_after before here same_form same_later =
      rw (here, same_form, same_later) (append_assoc out _ _ ∙ rw (lines-left lines i line within is) at before)

  pub any-more : (found found_after whole : Bool) → (found || is_any_reported entries writes name (map line_of (drop i lines))) ≡ whole
      → found_after ≡ (found || is_reported entries writes name (line_of line))
      → (found_after || is_any_reported entries writes name (map line_of (drop (i + 1) lines))) ≡ whole
  any-more found found_after whole before here =
      rw here (or-assoc found (is_reported entries writes name (line_of line)) (is_any_reported entries writes name (map line_of (drop (i + 1) lines)))
      ∙ rw (lines-left lines i line within is) at before)

-- text or no text, before and after more of it
pub is_some-more : (more : List ℕ) (written : Option (List ℕ)) → is_some (with_more more written) ≡ is_some written
is_some-more more None = refl
is_some-more more (Some text) = refl
