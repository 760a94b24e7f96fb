-- Lines in which nothing can be found: without direction controls and marks, and without letters if these are wanted.
use Rattle.bidi_base.proofs.Common.{◌≡◌, ℕ, zero, suc, ◌+◌, ◌<◌, ◌≤◌, SplitTest, cut_after, cr_lf_together, onto_first, get_or_default, Bool, true, false, ◌&&◌, if◌then◌else◌, List, [], ◌∷◌, ◌++◌}
use Rattle.bidi_base.proofs.Common.{Some, None, length, get_or, take, map, refl, ap, sym, subst, arith, ◌∙◌, take_more, flat_map, get_or-map, range_with_len, class_at, Source}
use Rattle.bidi_base.proofs.Common.{All, All-push, All-head, All-tail, All-cons, All-nil, All-weaker, cases_Bool, inl, inr, option_to_list, take_while-cons}
use Rattle.std.specs.Prelude.{take_while}
use Rattle.bidi_controls.specs.Controls.{control_of}
use Rattle.bidi_controls.specs.Displayed.{has_control_or_mark, has_right_to_left, is_displayed_differently, is_moved_by_letters, is_right_to_left, moving_level}
use Rattle.bidi_controls.specs.Findings.{finding_at, first_place, character_findings, if_wanted, wanted_differing, findings_in_line, findings_in_paragraph, findings_in_paragraphs}
use Rattle.bidi_controls.specs.declared.differing.Differing.{Differing}
use Rattle.bidi_controls.specs.declared.finding.Trouble.TheVariants.{LettersAlone}
use Rattle.bidi_controls.specs.declared.finding.Wanted.{Wanted}
use Rattle.bidi_base.specs.Paragraphs.{own_chars, paragraphs_in}
use Rattle.bidi_controls.specs.NoControls.{HaveNoControls}
use Rattle.bidi_controls.proofs.FindingsLemmas.{findings-parts}

pub HaveNoControls-more : (source : Source) (chars : List ℕ) (n c : ℕ) (before after : Bool) → n < length chars → c ≡ get_or chars n c
    → (after ≡ true → (before ≡ true) × (control_of (source.class_of c) c ≡ None)) → (before ≡ true → HaveNoControls source (take n chars))
    → after ≡ true → HaveNoControls source (take (n + 1) chars)
HaveNoControls-more source chars n c before after fits here step h set =
    let same : take (n + 1) chars ≡ take n chars ++ c ∷ [] = take_more chars n c fits ∙ ap (λ x. take n chars ++ x ∷ []) (sym here) in
    subst (HaveNoControls source) (sym same) (All-push (λ x. control_of (source.class_of x) x ≡ None) (take n chars) c (h (step set).0) (step set).1)

-- and k characters more
pub HaveNoControls-plain : (source : Source) (chars : List ℕ) (n k : ℕ) → n + k ≤ length chars → ((i : ℕ) → n ≤ i → i < n + k → control_of (source.class_of (get_or chars i 0)) (get_or chars i 0) ≡ None)
    → HaveNoControls source (take n chars) → HaveNoControls source (take (n + k) chars)
HaveNoControls-plain source chars n zero fits plain h = subst (λ m. HaveNoControls source (take m chars)) (omega arith) h
HaveNoControls-plain source chars n (suc k) fits plain h =
    let before = HaveNoControls-plain source chars n k (omega (arith, fits)) (λ i low high. plain i low (omega (arith, high))) h in
    subst (λ m. HaveNoControls source (take m chars)) (omega arith)
    (HaveNoControls-more source chars (n + k) (get_or chars (n + k) 0) true true (omega (arith, fits)) (get_or_default chars (n + k) 0 (get_or chars (n + k) 0) (omega (arith, fits)))
    (λ yes. (refl, plain (n + k) (omega arith) (omega arith))) (λ yes. before) refl)

-- ---- a line in which each character is neither a control or a mark, nor a letter if letters are wanted

-- nothing can be found at a character
abbrev pub HasNothing : Source → Wanted → ℕ → Type 0
HasNothing source wanted c = (control_of (source.class_of c) c ≡ None) × ((wanted.letters_alone && is_right_to_left (source.class_of c)) ≡ false)

-- none of some indexes gives a value
flat_map-none : {Y : Type 0} (f : ℕ → List Y) (n low : ℕ) → ((k : ℕ) → k < low + n → f k ≡ []) → flat_map f (range_with_len low n) ≡ []
flat_map-none f zero low none = refl
flat_map-none f (suc n) low none = grind (arith, none low, flat_map-none f n (suc low))

module _ (source : Source) (wanted : Wanted) where
  abbrev Nothing : ℕ → Type 0
  Nothing c = HasNothing source wanted c

  no_controls : (t : ℕ → Bool) (chars : List ℕ) → All Nothing chars → has_control_or_mark source (take_while t chars) ≡ false
  no_controls t [] all = refl
  no_controls t (c ∷ cs) all =
      let here = (All-head Nothing c cs all).0 in
      let later = no_controls t cs (All-tail Nothing c cs all) in
      rw (take_while-cons t c cs) (elim (cases_Bool (t c)) [ inl goes_on ↦ simp (goes_on, here, later) refl | inr ends ↦ simp ends refl ])

  no_letters : (t : ℕ → Bool) (chars : List ℕ) → All Nothing chars → wanted.letters_alone ≡ true → has_right_to_left source (take_while t chars) ≡ false
  no_letters t [] all letters = refl
  no_letters t (c ∷ cs) all letters =
      let here : is_right_to_left (source.class_of c) ≡ false = simp letters at ((All-head Nothing c cs all).1) in
      let later = no_letters t cs (All-tail Nothing c cs all) letters in
      rw (take_while-cons t c cs) (elim (cases_Bool (t c)) [ inl goes_on ↦ simp (goes_on, here, later) refl | inr ends ↦ simp ends refl ])

  -- a paragraph is displayed as it reads, or letters are not wanted
  pub unwanted_letters : (moved : Bool) (differing : Differing) → differing.trouble ≡ LettersAlone → wanted.letters_alone ≡ false → if_wanted wanted (if moved then Some differing else None) ≡ None
  unwanted_letters true differing is unwanted = simp (is, unwanted) refl
  unwanted_letters false differing is unwanted = refl

  pub still-none : (own : List ℕ) (differing : Differing) → has_right_to_left source own ≡ false → if_wanted wanted (if is_moved_by_letters source own then Some differing else None) ≡ None
  unfolding is_moved_by_letters
  still-none own differing no_letter = simp no_letter refl

  differing-none : (chars : List ℕ) → All Nothing chars → wanted_differing source wanted chars ≡ None
  unfolding is_displayed_differently
  differing-none chars all =
      let own = own_chars source chars in
      let no_control : has_control_or_mark source own ≡ false = no_controls _ chars all in
      simp no_control (elim (cases_Bool wanted.letters_alone) [
        | inl letters ↦ still-none own (record {
          trouble = LettersAlone;
          place = first_place (λ c. is_right_to_left (source.class_of c)) chars;
          level = moving_level source own;
        }) (no_letters _ chars all letters)
        | inr unwanted ↦ unwanted_letters (is_moved_by_letters source own) (record {
          trouble = LettersAlone;
          place = first_place (λ c. is_right_to_left (source.class_of c)) chars;
          level = moving_level source own;
        }) refl unwanted
      ])

  finding-none : (number from : ℕ) (chars : List ℕ) (k : ℕ) → All Nothing chars → k < length chars → option_to_list (finding_at number from (map source.class_of chars) chars k) ≡ []
  finding-none number from chars k all below =
      let none : control_of (class_at (map source.class_of chars) k) (get_or chars k 0) ≡ None = grind (arith, get_or-map, all k 0) in
      simp none refl

  findings_in_paragraph-none : (number from : ℕ) (chars : List ℕ) → All Nothing chars → findings_in_paragraph source wanted number from chars ≡ []
  findings_in_paragraph-none number from chars all =
      let none : character_findings number from (map source.class_of chars) chars ≡ [] =
      flat_map-none (λ k. option_to_list (finding_at number from (map source.class_of chars) chars k)) (length chars) 0 (λ k below. finding-none number from chars k all (omega arith)) in
      findings-parts source wanted number from chars ∙ simp (differing-none chars all, none) refl

  one_nothing : (c : ℕ) → Nothing c → All Nothing (c ∷ [])
  one_nothing c here = All-cons Nothing c [] here (All-nil Nothing)

  onto_nothing : (c : ℕ) (pieces : List (List ℕ)) → Nothing c → All (All Nothing) pieces → All (All Nothing) (onto_first c pieces)
  onto_nothing c [] here all = All-cons (All Nothing) (c ∷ []) [] (one_nothing c here) (All-nil (All Nothing))
  onto_nothing c (piece ∷ pieces) here all =
      All-cons (All Nothing) (c ∷ piece) pieces (All-cons Nothing c piece here (All-head (All Nothing) piece pieces all)) (All-tail (All Nothing) piece pieces all)

  -- no piece has something
  pub nothing-cut : (ends : SplitTest) (chars : List ℕ) → All Nothing chars → All (All Nothing) (cut_after ends chars)
  nothing-cut ends [] all = All-nil (All Nothing)
  nothing-cut ends (c ∷ cs) all =
      let here = All-head Nothing c cs all in
      let later = nothing-cut ends cs (All-tail Nothing c cs all) in
      elim (cases_Bool (ends c cs)) [
        | inl stop ↦ rw stop (All-cons (All Nothing) (c ∷ []) (cut_after ends cs) (one_nothing c here) later)
        | inr on ↦ rw on (onto_nothing c (cut_after ends cs) here later)
      ]

  findings_in_paragraphs-none : (number from : ℕ) (pieces : List (List ℕ)) → All (All Nothing) pieces → findings_in_paragraphs source wanted number from pieces ≡ []
  findings_in_paragraphs-none number from [] all = refl
  findings_in_paragraphs-none number from (piece ∷ pieces) all =
      simp (
        findings_in_paragraph-none number from piece (All-head (All Nothing) piece pieces all),
        findings_in_paragraphs-none number (from + length piece) pieces (All-tail (All Nothing) piece pieces all),
      ) refl

  pub findings_in_line-none : (number : ℕ) (line : List ℕ) → All Nothing line → findings_in_line source wanted number line ≡ []
  unfolding findings_in_line
  findings_in_line-none number line all =
      findings_in_paragraphs-none number 0 (paragraphs_in source line) (nothing-cut (cr_lf_together source) line all)

  -- a line without controls and marks, if letters are not wanted
  pub findings_in_line-without_controls : (number : ℕ) (line : List ℕ) → wanted.letters_alone ≡ false → HaveNoControls source line → findings_in_line source wanted number line ≡ []
  findings_in_line-without_controls number line unwanted none =
      findings_in_line-none number line (All-weaker (λ c. control_of (source.class_of c) c ≡ None) Nothing (λ c here. (here, simp unwanted refl)) line none)
