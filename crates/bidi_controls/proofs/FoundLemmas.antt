-- What is found in lines: line by line, and in lines in which nothing can be found.
use Rattle.bidi_base.proofs.Common.{◌≡◌, ℕ, zero, suc, ◌+◌, ◌<◌, true, false, not, ◌&&◌, List, [], ◌∷◌, ◌++◌, Option, None, Some, length, drop, refl, sym, ap, ◌∙◌, arith}
use Rattle.bidi_base.proofs.Common.{append_assoc, All, All-nil, All-cons, All-head, All-tail, All-weaker, cases_Bool, inl, inr, nat_tests, and_parts, or_parts, list_all}
use Rattle.bidi_base.proofs.Common.{Source, option_map, option_or}
use Rattle.std.proofs.lemmas.Bool.{not-false}
use Rattle.std.proofs.Common.{add_assoc}
use Rattle.std.specs.Char.{is_ascii}
use Rattle.bidi_base.specs.declared.char_data.BidiClass.{BidiClass}
use Rattle.bidi_base.specs.declared.char_data.BidiClass.TheVariants.{LRE, LRO, RLE, RLO, PDF, LRI, RLI, FSI, PDI}
use Rattle.bidi_unicode.specs.Unicode.{unicode_source}
use Rattle.bidi_controls.specs.Controls.{mark_of, control_of}
use Rattle.bidi_controls.specs.Displayed.{is_right_to_left}
use Rattle.bidi_controls.specs.declared.check.Sought.{Sought}
use Rattle.bidi_controls.specs.declared.finding.Wanted.{Wanted}
use Rattle.bidi_controls.proofs.LinesWithoutControls.{HasNothing, findings_in_line-none, nothing-cut}
use Rattle.bidi_controls.specs.ControlBytes.{is_control_char, holds_control}
use Rattle.bidi_controls.specs.Decoded.{utf8_decoded, utf8_fault, fault_from}
use Rattle.bidi_controls.specs.FileLines.{ends_file_line, file_lines_of}
use Rattle.bidi_controls.proofs.ControlBytesLemmas.{utf8_decoded-other}
use Rattle.bidi_controls.proofs.ControlChars.{is_control_class, control_class-char, ascii-no_letter}
use Rattle.bidi_controls.proofs.LossyLemmas.{each_char, first_char, first_char-byte, utf8_decoded-pieces}
use Rattle.bidi_controls.specs.FileSearch.{FoundAt, with_findings, displayed_in_line, found_in, found_from, may_hold}

-- ---- line by line

pub found_from-append : (source : Source) (sought : Sought) (number : ℕ) (lines more : List (List ℕ))
    → found_from source sought number (lines ++ more) ≡ found_from source sought number lines ++ found_from source sought (number + length lines) more
found_from-append source sought number [] more = grind arith
found_from-append source sought number (line ∷ lines) more =
    let later = found_from-append source sought (number + 1) lines more in
    let at : number + 1 + length lines ≡ number + length (line ∷ lines) = omega arith in
    ap (λ t. found_in source sought number line ++ t) later
    ∙ sym (append_assoc (found_in source sought number line) (found_from source sought (number + 1) lines) (found_from source sought (number + 1 + length lines) more))
    ∙ ap (λ n. (found_in source sought number line ++ found_from source sought (number + 1) lines) ++ found_from source sought n more) at

-- ---- lines without controls

no_mark : (c : ℕ) → is_control_char c ≡ false → mark_of c ≡ None
no_mark c h = grind (arith, nat_tests)

no_control : (class : BidiClass) (c : ℕ) → is_control_class class ≡ false → mark_of c ≡ None → control_of class c ≡ None
no_control LRE c h none = cc
no_control LRO c h none = cc
no_control RLE c h none = cc
no_control RLO c h none = cc
no_control PDF c h none = cc
no_control LRI c h none = cc
no_control RLI c h none = cc
no_control FSI c h none = cc
no_control PDI c h none = cc
no_control _ c h none = none

-- nothing can be found at a character of Unicode
abbrev Nothing : Wanted → ℕ → Type 0
Nothing wanted c = HasNothing unicode_source wanted c

nothing_at : (wanted : Wanted) (c : ℕ) → is_control_char c ≡ false → (wanted.letters_alone && is_right_to_left (unicode_source.class_of c)) ≡ false → Nothing wanted c
nothing_at wanted c other no_letter = (no_control (unicode_source.class_of c) c (control_class-char c other) (no_mark c other), no_letter)

-- both facts hold at each character
both : (P Q R : ℕ → Type 0) → ((c : ℕ) → P c → Q c → R c) → (chars : List ℕ) → All P chars → All Q chars → All R chars
both P Q R step [] p q = All-nil R
both P Q R step (c ∷ chars) p q = All-cons R c chars (step c (All-head P c chars p) (All-head Q c chars q)) (both P Q R step chars (All-tail P c chars p) (All-tail Q c chars q))

low-drop : (bytes : List ℕ) (k : ℕ) → list_all is_ascii bytes ≡ true → list_all is_ascii (drop k bytes) ≡ true
low-drop bytes zero h = h
low-drop [] (suc k) h = h
low-drop (b ∷ bytes) (suc k) h = low-drop bytes k (and_parts (is_ascii b) (list_all is_ascii bytes) h).1

low-first : (bytes : List ℕ) → list_all is_ascii bytes ≡ true → 0 < length bytes → first_char bytes < 128
low-first [] h some = absurd (omega arith)
low-first (b ∷ bytes) h some =
    let low : b < 128 = grind (arith, nat_tests, and_parts (is_ascii b) (list_all is_ascii bytes) h) in
    rw (first_char-byte b bytes low) low

-- ASCII decodes to ASCII, which has no letters from right to left
low-chars : (bytes : List ℕ) → list_all is_ascii bytes ≡ true → All (λ c. c < 128) (utf8_decoded bytes)
low-chars bytes h = rw (utf8_decoded-pieces bytes) (each_char (λ c. c < 128) (λ bs. list_all is_ascii bs ≡ true) low-first low-drop bytes h)

nothing_held : (wanted : Wanted) (bytes : List ℕ) → may_hold wanted bytes ≡ false → All (Nothing wanted) (utf8_decoded bytes)
nothing_held wanted bytes h =
    let parts = or_parts (holds_control bytes) (wanted.letters_alone && not (list_all is_ascii bytes)) h in
    let others = utf8_decoded-other bytes parts.0 in
    elim (cases_Bool wanted.letters_alone) [
      | inl letters ↦
          let low : list_all is_ascii bytes ≡ true = not-false _ (simp letters at parts.1) in
          both (λ c. is_control_char c ≡ false) (λ c. c < 128) (Nothing wanted) (λ c other below. nothing_at wanted c other (simp (letters, ascii-no_letter c below) refl)) (utf8_decoded bytes) others (low-chars bytes low)
      | inr unwanted ↦ All-weaker (λ c. is_control_char c ≡ false) (Nothing wanted) (λ c other. nothing_at wanted c other (simp unwanted refl)) (utf8_decoded bytes) others
    ]

-- nothing is found in a line whose bytes hold nothing
pub found_in-nothing : (sought : Sought) (number : ℕ) (line : List ℕ) → may_hold sought.wanted line ≡ false → found_in unicode_source sought number (utf8_decoded line) ≡ []
found_in-nothing sought number line h =
    ap (λ findings. with_findings number (utf8_decoded line) findings (displayed_in_line unicode_source sought (utf8_decoded line)))
    (findings_in_line-none unicode_source sought.wanted number (utf8_decoded line) (nothing_held sought.wanted line h))

found_from-none : (sought : Sought) (number : ℕ) (lines : List (List ℕ)) → All (All (Nothing sought.wanted)) lines → found_from unicode_source sought number lines ≡ []
found_from-none sought number [] all = refl
found_from-none sought number (line ∷ lines) all =
    let one : found_in unicode_source sought number line ≡ [] =
    ap (λ findings. with_findings number line findings (displayed_in_line unicode_source sought line)) (findings_in_line-none unicode_source sought.wanted number line (All-head (All (Nothing sought.wanted)) line lines all)) in
    ap (λ t. t ++ found_from unicode_source sought (number + 1) lines) one ∙ found_from-none sought (number + 1) lines (All-tail (All (Nothing sought.wanted)) line lines all)

-- nor in the lines of such bytes
pub found_from-nothing : (sought : Sought) (number : ℕ) (bytes : List ℕ) → may_hold sought.wanted bytes ≡ false
    → found_from unicode_source sought number (file_lines_of (utf8_decoded bytes)) ≡ []
found_from-nothing sought number bytes h =
    found_from-none sought number (file_lines_of (utf8_decoded bytes)) (nothing-cut unicode_source sought.wanted ends_file_line (utf8_decoded bytes) (nothing_held sought.wanted bytes h))

-- ---- where bytes stop being UTF-8, if they are read in two parts

mapped_twice : (offset len : ℕ) (found : Option ℕ) → option_map (λ at. offset + at) (option_map (λ at. len + at) found) ≡ option_map (λ at. offset + len + at) found
mapped_twice offset len None = refl
mapped_twice offset len (Some at) = ap Some (sym (add_assoc offset len at))

pub fault_from-twice : (before first : Option ℕ) (offset len : ℕ) (rest : List ℕ)
    → option_or before (option_map (λ at. offset + at) (fault_from first len rest)) ≡ fault_from (option_or before (option_map (λ at. offset + at) first)) (offset + len) rest
fault_from-twice (Some before) first offset len rest = refl
fault_from-twice None (Some first) offset len rest = refl
fault_from-twice None None offset len rest = mapped_twice offset len (utf8_fault rest)

-- ---- the first line, and the lines after it

module _ (sought : Sought) (number : ℕ) (rest line after : List ℕ) (first : file_lines_of (utf8_decoded rest) ≡ utf8_decoded line ∷ file_lines_of (utf8_decoded after)) where
  pub first-nothing : may_hold sought.wanted line ≡ false
      → found_from unicode_source sought number (file_lines_of (utf8_decoded rest)) ≡ found_from unicode_source sought (number + 1) (file_lines_of (utf8_decoded after))
  first-nothing none =
      ap (found_from unicode_source sought number) first
      ∙ ap (λ t. t ++ found_from unicode_source sought (number + 1) (file_lines_of (utf8_decoded after))) (found_in-nothing sought number line none)

  pub first-count : length (file_lines_of (utf8_decoded rest)) ≡ length (file_lines_of (utf8_decoded after)) + 1
  first-count = let e = ap length first in omega arith

-- ---- bytes that are cut after the end of a line

pub joined-found : (sought : Sought) (start lines : ℕ) (bytes front rest : List ℕ) (before found : List FoundAt)
    → file_lines_of (utf8_decoded bytes) ≡ file_lines_of (utf8_decoded front) ++ file_lines_of (utf8_decoded rest)
    → found ≡ before ++ found_from unicode_source sought (start + 1) (file_lines_of (utf8_decoded front))
    → lines ≡ start + length (file_lines_of (utf8_decoded front))
    → found ++ found_from unicode_source sought (lines + 1) (file_lines_of (utf8_decoded rest)) ≡ before ++ found_from unicode_source sought (start + 1) (file_lines_of (utf8_decoded bytes))
joined-found sought start lines bytes front rest before found cut is count =
    let first = file_lines_of (utf8_decoded front) in let later = file_lines_of (utf8_decoded rest) in
    let at : lines + 1 ≡ start + 1 + length first = omega arith in
    ap (λ t. t ++ found_from unicode_source sought (lines + 1) later) is
    ∙ append_assoc before (found_from unicode_source sought (start + 1) first) (found_from unicode_source sought (lines + 1) later)
    ∙ ap (λ n. before ++ (found_from unicode_source sought (start + 1) first ++ found_from unicode_source sought n later)) at
    ∙ ap (λ t. before ++ t) (sym (found_from-append unicode_source sought (start + 1) first later))
    ∙ ap (λ t. before ++ found_from unicode_source sought (start + 1) t) (sym cut)

pub joined-fault : (before now : Option ℕ) (offset end len : ℕ) (bytes front rest : List ℕ)
    → utf8_fault bytes ≡ fault_from (utf8_fault front) len rest → now ≡ fault_from before offset front → end ≡ offset + len
    → fault_from now end rest ≡ fault_from before offset bytes
joined-fault before now offset end len bytes front rest cut is at =
    ap (λ t. fault_from t end rest) is ∙ ap (λ n. fault_from (fault_from before offset front) n rest) at
    ∙ sym (fault_from-twice before (utf8_fault front) offset len rest)
    ∙ ap (λ t. option_or before (option_map (λ at. offset + at) t)) (sym cut)
