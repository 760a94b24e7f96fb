-- What options before others ask for, if arguments are texts.
use Rattle.bidi_base.proofs.Common.{◌≡◌, sym, ap, ◌∙◌, ℕ, ◌-◌, ◌≤◌, Bool, true, false, List, [], ◌∷◌, Some, None, Ok, length, get_or, map, drop, string_bytes, arith, codes}
use Rattle.bidi_base.proofs.Common.{slice_range, take_all, length-drop}
use Rattle.std.specs.Str.{bytes_eq}
use Rattle.std.specs.declared.string.String.{String}
use Rattle.bidi_terminal.specs.Bases.{base_named}
use Rattle.bidi_terminal.specs.Numbers.{number_of}
use Rattle.bidi_terminal.specs.declared.base.Base.{Base}
use Rattle.bidi_arguments.specs.Checks.{flag_named, setting_named, with_flag, with_setting}
use Rattle.bidi_arguments.specs.Commands.{by_options, check_of, explain_of, show_of}
use Rattle.bidi_arguments.specs.Shows.{show_setting_named, with_show_setting}
use Rattle.bidi_explain.specs.declared.view.Form.TheVariants.{Page}
use Rattle.bidi_explain.specs.declared.view.StageView.{StageView}
use Rattle.bidi_arguments.specs.declared.check_options.CheckOptions.{CheckOptions}
use Rattle.bidi_arguments.specs.declared.check_options.Flag.{Flag}
use Rattle.bidi_arguments.specs.declared.check_options.Setting.{Setting}
use Rattle.bidi_arguments.specs.declared.operands.Operands.{Operands}
use Rattle.bidi_arguments.specs.declared.operands.Operands.TheVariants.{Files, Lines}
use Rattle.bidi_arguments.specs.declared.show_options.ShowSetting.{ShowSetting}
use Rattle.bidi_shown.specs.declared.view.View.{View}

module _ {Z : Type 0} where
  -- the words from the n-th on
  rest-all : (n : ℕ) (words : List (String Z)) → slice_range words n (length words) ≡ drop n words
  rest-all n words = take_all (length words - n) (drop n words) (omega (arith, length-drop n words))

  -- a word that is this option
  abbrev is_named : String Z → List ℕ → Bool
  is_named word option = bytes_eq (string_bytes word) option

  pub explain_of-html : (view : StageView) (operands : Operands) (words : List (String Z)) (first : String Z) → 1 ≤ length words → first ≡ get_or words 0 first → is_named first (codes "--html") ≡ true
      → explain_of (record view { form = Page }) operands (map string_bytes (slice_range words 1 (length words))) ≡ explain_of view operands (map string_bytes words)
  explain_of-html view operands [] first some is named = absurd (omega arith)
  explain_of-html view operands (w ∷ []) first some is named = simp (simp is at named)
  explain_of-html view operands (w ∷ v ∷ words) first some is named = simp (rest-all 1 (w ∷ v ∷ words), simp is at named)

  pub explain_of-files : (view : StageView) (operands : Operands) (words : List (String Z)) (first third : String Z) → 1 ≤ length words → first ≡ get_or words 0 first → third ≡ get_or words 0 third
      → is_named first (codes "--html") ≡ false → is_named third (codes "--files") ≡ true
      → explain_of view Files (map string_bytes (slice_range words 1 (length words))) ≡ explain_of view operands (map string_bytes words)
  explain_of-files view operands [] first third some is is' other named = absurd (omega arith)
  explain_of-files view operands (w ∷ []) first third some is is' other named = simp (simp is at other, simp is' at named)
  explain_of-files view operands (w ∷ v ∷ words) first third some is is' other named = simp (rest-all 1 (w ∷ v ∷ words), simp is at other, simp is' at named)

  pub explain_of-line : (view : StageView) (operands : Operands) (words : List (String Z)) (first third fourth : String Z) → 1 ≤ length words → first ≡ get_or words 0 first → third ≡ get_or words 0 third
      → fourth ≡ get_or words 0 fourth → is_named first (codes "--html") ≡ false → is_named third (codes "--files") ≡ false → is_named fourth (codes "--line") ≡ true
      → explain_of view Lines (map string_bytes (slice_range words 1 (length words))) ≡ explain_of view operands (map string_bytes words)
  explain_of-line view operands [] first third fourth some is is' is'' other neither named = absurd (omega arith)
  explain_of-line view operands (w ∷ []) first third fourth some is is' is'' other neither named = simp (simp is at other, simp is' at neither, simp is'' at named)
  explain_of-line view operands (w ∷ v ∷ words) first third fourth some is is' is'' other neither named =
      simp (rest-all 1 (w ∷ v ∷ words), simp is at other, simp is' at neither, simp is'' at named)

  pub explain_of-base : (view : StageView) (operands : Operands) (words : List (String Z)) (first third fourth fifth second : String Z) (base : Base)
      → 2 ≤ length words → first ≡ get_or words 0 first → third ≡ get_or words 0 third → fourth ≡ get_or words 0 fourth
      → fifth ≡ get_or words 0 fifth → second ≡ get_or words 1 second → is_named first (codes "--html") ≡ false → is_named third (codes "--files") ≡ false
      → is_named fourth (codes "--line") ≡ false → is_named fifth (codes "--base") ≡ true → base_named (string_bytes second) ≡ Some base
      → explain_of (record view { base = base }) operands (map string_bytes (slice_range words 2 (length words))) ≡ explain_of view operands (map string_bytes words)
  explain_of-base view operands (w ∷ v ∷ words) first third fourth fifth second base some is is' is'' last next other neither no_line named level =
      simp (rest-all 2 (w ∷ v ∷ words), simp is at other, simp is' at neither, simp is'' at no_line, simp last at named, simp next at level)
  explain_of-base view operands words first third fourth fifth second base some is is' is'' last next other neither no_line named level = absurd (omega arith)

  pub explain_of-width : (view : StageView) (operands : Operands) (words : List (String Z)) (first third fourth fifth sixth second : String Z) (width : ℕ)
      → 2 ≤ length words → first ≡ get_or words 0 first → third ≡ get_or words 0 third → fourth ≡ get_or words 0 fourth
      → fifth ≡ get_or words 0 fifth → sixth ≡ get_or words 0 sixth → second ≡ get_or words 1 second → is_named first (codes "--html") ≡ false → is_named third (codes "--files") ≡ false
      → is_named fourth (codes "--line") ≡ false → is_named fifth (codes "--base") ≡ false → is_named sixth (codes "--width") ≡ true → number_of (string_bytes second) ≡ Some width
      → explain_of (record view { width = Some width }) operands (map string_bytes (slice_range words 2 (length words))) ≡ explain_of view operands (map string_bytes words)
  explain_of-width view operands (w ∷ v ∷ words) first third fourth fifth sixth second width some is is' is'' fifth_is last next other neither no_line not_base named number =
      simp (rest-all 2 (w ∷ v ∷ words), simp is at other, simp is' at neither, simp is'' at no_line, simp fifth_is at not_base, simp last at named, simp next at number)
  explain_of-width view operands words first third fourth fifth sixth second width some is is' is'' fifth_is last next other neither no_line not_base named number = absurd (omega arith)

  -- words, and the first of them
  pub words-first : (words : List (String Z)) (first : String Z) → 1 ≤ length words → first ≡ get_or words 0 first
      → map string_bytes words ≡ string_bytes first ∷ map string_bytes (slice_range words 1 (length words))
  words-first [] first some is = absurd (omega arith)
  words-first (w ∷ words) first some is = let e : first ≡ w = is in simp (rest-all 1 (w ∷ words), e)

  pub words-two : (words : List (String Z)) (first second : String Z) → 1 ≤ length words → first ≡ get_or words 0 first
      → 1 ≤ length (slice_range words 1 (length words)) → second ≡ get_or (slice_range words 1 (length words)) 0 second
      → map string_bytes words
      ≡ string_bytes first ∷ string_bytes second ∷ map string_bytes (slice_range (slice_range words 1 (length words)) 1 (length (slice_range words 1 (length words))))
  words-two words first second some is more is' =
      words-first words first some is ∙ ap (λ rest. string_bytes first ∷ rest) (words-first (slice_range words 1 (length words)) second more is')

module _ (options : CheckOptions) where
  check_of-flag : (word : List ℕ) (words : List (List ℕ)) (flag : Flag) → flag_named word ≡ Some flag → check_of (with_flag flag options) words ≡ check_of options (word ∷ words)
  check_of-flag word [] flag named = simp named
  check_of-flag word (value ∷ words) flag named = simp named

  check_of-setting : (word value : List ℕ) (words : List (List ℕ)) (setting : Setting) → flag_named word ≡ None → setting_named word ≡ Some setting
      → by_options (with_setting setting value options) (λ next. check_of next words) ≡ check_of options (word ∷ value ∷ words)
  check_of-setting word value words setting not_flag named = simp (not_flag, named)

  module _ {Z : Type 0} (words : List (String Z)) (first : String Z) (some : 1 ≤ length words) (is : first ≡ get_or words 0 first) where
    abbrev rest : List (String Z)
    rest = slice_range words 1 (length words)

    pub words_of-flag : (flag : Flag) → flag_named (string_bytes first) ≡ Some flag → check_of (with_flag flag options) (map string_bytes rest) ≡ check_of options (map string_bytes words)
    words_of-flag flag named =
        check_of-flag (string_bytes first) (map string_bytes rest) flag named ∙ sym (ap (check_of options) (words-first words first some is))

    module _ (not_flag : flag_named (string_bytes first) ≡ None) where
      module _ (setting : Setting) (named : setting_named (string_bytes first) ≡ Some setting) where
        module _ (second : String Z) (more : 1 ≤ length rest) (is' : second ≡ get_or rest 0 second) where
          words_of-setting : by_options (with_setting setting (string_bytes second) options) (λ next. check_of next (map string_bytes (slice_range rest 1 (length rest)))) ≡ check_of options (map string_bytes words)
          words_of-setting =
              check_of-setting (string_bytes first) (string_bytes second) (map string_bytes (slice_range rest 1 (length rest))) setting not_flag named
              ∙ sym (ap (check_of options) (words-two words first second some is more is'))

          pub words_of-value : (next : CheckOptions) → with_setting setting (string_bytes second) options ≡ Ok next
              → check_of next (map string_bytes (slice_range rest 1 (length rest))) ≡ check_of options (map string_bytes words)
          words_of-value next taken =
              sym (ap (λ r. by_options r (λ o. check_of o (map string_bytes (slice_range rest 1 (length rest))))) taken) ∙ words_of-setting

module _ (view : View) where
  show_of-plain : (word : List ℕ) (words : List (List ℕ)) → bytes_eq word (codes "--plain") ≡ true → show_of (record view { plain = true }) words ≡ show_of view (word ∷ words)
  show_of-plain word [] named = simp named
  show_of-plain word (value ∷ words) named = simp named

  show_of-setting : (word value : List ℕ) (words : List (List ℕ)) (setting : ShowSetting) → bytes_eq word (codes "--plain") ≡ false → show_setting_named word ≡ Some setting
      → by_options (with_show_setting setting value view) (λ next. show_of next words) ≡ show_of view (word ∷ value ∷ words)
  show_of-setting word value words setting other named = simp (other, named)

  module _ {Z : Type 0} (words : List (String Z)) (first : String Z) (some : 1 ≤ length words) (is : first ≡ get_or words 0 first) where
    pub shown_words-plain : bytes_eq (string_bytes first) (codes "--plain") ≡ true
        → show_of (record view { plain = true }) (map string_bytes (slice_range words 1 (length words))) ≡ show_of view (map string_bytes words)
    shown_words-plain named =
        show_of-plain (string_bytes first) (map string_bytes (slice_range words 1 (length words))) named ∙ sym (ap (show_of view) (words-first words first some is))

    module _ (other : bytes_eq (string_bytes first) (codes "--plain") ≡ false) (setting : ShowSetting) (named : show_setting_named (string_bytes first) ≡ Some setting)
        (second : String Z) (more : 1 ≤ length (slice_range words 1 (length words))) (is' : second ≡ get_or (slice_range words 1 (length words)) 0 second) where
      abbrev last : List (String Z)
      last = slice_range (slice_range words 1 (length words)) 1 (length (slice_range words 1 (length words)))

      shown_words-setting : by_options (with_show_setting setting (string_bytes second) view) (λ next. show_of next (map string_bytes last)) ≡ show_of view (map string_bytes words)
      shown_words-setting =
          show_of-setting (string_bytes first) (string_bytes second) (map string_bytes last) setting other named
          ∙ sym (ap (show_of view) (words-two words first second some is more is'))

      pub shown_words-value : (next : View) → with_show_setting setting (string_bytes second) view ≡ Ok next
          → show_of next (map string_bytes last) ≡ show_of view (map string_bytes words)
      shown_words-value next taken =
          sym (ap (λ r. by_options r (λ v. show_of v (map string_bytes last))) taken) ∙ shown_words-setting
