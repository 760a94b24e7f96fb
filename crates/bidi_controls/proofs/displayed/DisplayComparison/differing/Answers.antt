use Rattle.bidi_base.proofs.Common.{◌≡◌, ◌∙◌, ℕ, Bool, true, false, ◌||◌, not, if◌then◌else◌, List, Some, None, refl, sym, ap, arith, Source}
use Rattle.std.proofs.lemmas.Bool.{not-false, not-true}
use Rattle.bidi_base.specs.Paragraphs.{own_chars}
use Rattle.bidi_controls.specs.Displayed.{has_right_to_left, is_as_read, is_displayed_differently, is_moved_by_letters, is_right_to_left, moving_level}
use Rattle.bidi_controls.specs.Findings.{first_place, if_wanted, wanted_differing}
use Rattle.bidi_controls.specs.declared.differing.Differing.{Differing}
use Rattle.bidi_controls.specs.declared.finding.Trouble.TheVariants.{LettersAlone}
use Rattle.bidi_controls.specs.declared.finding.Wanted.{Wanted}
use Rattle.bidi_controls.proofs.LinesWithoutControls.{still-none, unwanted_letters}
use Rattle.bidi_controls.proofs.displayed.DisplayComparison.differing.Goals as goal
use Rattle.bidi_controls.proofs.displayed.DisplayComparison.differing.Goals.{then-not-wanted-3-via-then-not-wanted-3, then-not-wanted-3-via-else-not-wanted-3+then-not-has_right_to_left}

none_if : (test : Bool) (x : ℕ) → (if test then Some x else None) ≡ None → test ≡ false
none_if true x e = absurd (cc e)
none_if false x e = refl

some_if : (test : Bool) (x y : ℕ) → (if test then Some x else None) ≡ Some y → (test ≡ true) × (y ≡ x)
some_if true x y e = (refl, grind (arith, e))
some_if false x y e = absurd (cc e)

-- what letters alone can make of a paragraph
abbrev letters_of : Source → List ℕ → Differing
letters_of source chars = record {
  trouble = LettersAlone;
  place = first_place (λ c. is_right_to_left (source.class_of c)) chars;
  level = moving_level source (own_chars source chars);
}

module _ (source : Source) (wanted : Wanted) (chars line : List ℕ) (line_is : line ≡ own_chars source chars) (same : is_displayed_differently source line ≡ false) where
  by_letters : wanted_differing source wanted chars ≡ if_wanted wanted (if is_moved_by_letters source line then Some (letters_of source chars) else None)
  by_letters = simp (← line_is, same) refl

  unwanted : wanted.letters_alone ≡ false → None ≡ wanted_differing source wanted chars
  unwanted none = sym (by_letters ∙ unwanted_letters source wanted (is_moved_by_letters source line) (letters_of source chars) refl none)

  without_letters : has_right_to_left source line ≡ false → None ≡ wanted_differing source wanted chars
  without_letters none = sym (by_letters ∙ still-none source wanted line (letters_of source chars) none)

  module _ (letters : has_right_to_left source line ≡ true) where
    moved_is : is_moved_by_letters source line ≡ (not (is_as_read source (Some 0) line) || not (is_as_read source None line))
    unfolding is_moved_by_letters
    moved_is = simp (letters, same) refl

    still : (not (is_as_read source (Some 0) line) || not (is_as_read source None line)) ≡ false → None ≡ wanted_differing source wanted chars
    still h = sym (by_letters ∙ ap (λ moved. if_wanted wanted (if moved then Some (letters_of source chars) else None)) (moved_is ∙ h))

    moved : wanted.letters_alone ≡ true → (not (is_as_read source (Some 0) line) || not (is_as_read source None line)) ≡ true → Some (letters_of source chars) ≡ wanted_differing source wanted chars
    moved is_wanted h = sym (by_letters ∙ ap (λ moved. if_wanted wanted (if moved then Some (letters_of source chars) else None)) (moved_is ∙ h) ∙ simp is_wanted refl)

pub returns-then-not-wanted-3-clause-differing : goal.returns-then-not-wanted-3-clause-differing
returns-then-not-wanted-3-clause-differing g c =
    let source = g.D.BidiDataSource.source c.args.data_source.now in
    let same = none_if _ _ (sym c.in_ok-level.ensures.level ∙ c.in_default.is) in
    elim c.then-not-wanted-3.branch [
      | then-not-wanted-3-via-then-not-wanted-3 w ↦ unwanted source c.args.wanted c.args.chars.now c.own_chars-line.result.now c.own_chars-line.ensures same (not-true _ w.if-not-wanted-3.true)
      | then-not-wanted-3-via-else-not-wanted-3+then-not-has_right_to_left w ↦
          without_letters source c.args.wanted c.args.chars.now c.own_chars-line.result.now c.own_chars-line.ensures same (sym w.has_right_to_left.ensures ∙ w.if-not-has_right_to_left.true)
    ]

pub returns-in_default-2-clause-differing : goal.returns-in_default-2-clause-differing
returns-in_default-2-clause-differing g c =
    let source = g.D.BidiDataSource.source c.args.data_source.now in
    let same = none_if _ _ (sym c.in_ok-level.ensures.level ∙ c.in_default.is) in
    still source c.args.wanted c.args.chars.now c.own_chars-line.result.now c.own_chars-line.ensures same (sym c.has_right_to_left.ensures ∙ c.if-not-has_right_to_left.false)
    (none_if _ _ (sym c.in_ok-level-2.ensures.level ∙ c.in_default-2.is))

pub returns-clause-differing : goal.returns-clause-differing
returns-clause-differing g c =
    let source = g.D.BidiDataSource.source c.args.data_source.now in
    let chars : List ℕ = c.args.chars.now in
    let line = c.own_chars-line.result.now in
    let same = none_if _ _ (sym c.in_ok-level.ensures.level ∙ c.in_default.is) in
    let found = some_if _ _ _ (sym c.in_ok-level-2.ensures.level ∙ c.in-Some-2.is) in
    let place : c.unwrap_or-place-2.result ≡ first_place (λ x. is_right_to_left (source.class_of x)) chars = grind arith in
    let level : c.in-Some-2.level ≡ moving_level source (own_chars source chars) = found.1 ∙ ap (moving_level source) c.own_chars-line.ensures in
    ap (λ p. Some (record { trouble = LettersAlone; place = p; level = c.in-Some-2.level })) place
    ∙ ap (λ l. Some (record { trouble = LettersAlone; place = first_place (λ x. is_right_to_left (source.class_of x)) chars; level = l })) level
    ∙ moved source c.args.wanted chars line c.own_chars-line.ensures same (sym c.has_right_to_left.ensures ∙ c.if-not-has_right_to_left.false) (not-false _ c.if-not-wanted-3.false) found.0
