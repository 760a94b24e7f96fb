-- Bytes without the UTF-8 of a direction control or mark decode to other characters.
use Rattle.bidi_base.proofs.Common.{◌≡◌, ℕ, zero, suc, ◌+◌, ◌<◌, ◌≤◌, true, false, ◌||◌, ◌==◌, List, [], ◌∷◌, ◌++◌, Option, None, Some, length, get_or, drop, refl, sym, ap, subst, ◌∙◌, arith, All}
use Rattle.bidi_base.proofs.Common.{nat_le, cases_Bool, cases_eq, inl, inr, and_parts, or_cases, leb-true, eqb-true, false_from_ne_true, drop_all, drop_more, nat_tests, ⊎_elim}
use Rattle.memchr.specs.Find.{IsFirstByte, is_byte2}
use Rattle.std.specs.Char.{encode_utf8}
use Rattle.bstr.specs.Utf8.{decoded, or_replacement}
use Rattle.bstr.proofs.lemmas.SoundLemmas.{SpellsChar-decoded}
use Rattle.bidi_controls.specs.ControlBytes.{is_from_to, is_control_char, is_control_begun, begins_with_control, holds_control}
use Rattle.bidi_controls.specs.Decoded.{utf8_decoded}
use Rattle.bidi_controls.proofs.LossyLemmas.{each_char, utf8_decoded-pieces}
use lib.Utf8.{encode}

-- a fact of each number up from the first
up_from : (P : ℕ → Type 0) (first c : ℕ) → first ≤ c → P first → (first + 1 ≤ c → P c) → P c
up_from P first c le here more = elim (cases_eq c first) [ inl same ↦ subst P (sym same) here | inr other ↦ more (omega arith) ]

module _ (rest : List ℕ) where
  abbrev Begins : ℕ → Type 0
  Begins c = begins_with_control (encode_utf8 c ++ rest) ≡ true

  marks-begin : (c : ℕ) → 0x200E ≤ c → c ≤ 0x200F → Begins c
  unfolding encode
  marks-begin c le ge = up_from Begins 0x200E c le refl (λ le. up_from Begins 0x200F c le refl (λ le. absurd (omega arith)))

  embeddings-begin : (c : ℕ) → 0x202A ≤ c → c ≤ 0x202E → Begins c
  unfolding encode
  embeddings-begin c le ge =
      up_from Begins 0x202A c le refl (λ le. up_from Begins 0x202B c le refl (λ le. up_from Begins 0x202C c le refl (λ le. up_from Begins 0x202D c le refl (λ le. up_from Begins 0x202E c le refl (λ le. absurd (omega arith))))))

  isolates-begin : (c : ℕ) → 0x2066 ≤ c → c ≤ 0x2069 → Begins c
  unfolding encode
  isolates-begin c le ge =
      up_from Begins 0x2066 c le refl (λ le. up_from Begins 0x2067 c le refl (λ le. up_from Begins 0x2068 c le refl (λ le. up_from Begins 0x2069 c le refl (λ le. absurd (omega arith)))))

  letter_mark-begins : Begins 0x061C
  unfolding encode
  letter_mark-begins = refl

is_from_to-le : (first last c : ℕ) → is_from_to first last c ≡ true → (first ≤ c) × (c ≤ last)
is_from_to-le first last c h =
    let parts = and_parts (nat_le first c) (nat_le c last) h in (leb-true first c parts.0, leb-true c last parts.1)

-- a control's UTF-8 begins with it
control-begins : (c : ℕ) (rest : List ℕ) → is_control_char c ≡ true → begins_with_control (encode_utf8 c ++ rest) ≡ true
control-begins c rest is =
    ⊎_elim
    (λ low. ⊎_elim
    (λ low. ⊎_elim
    (λ letter. subst (Begins rest) (sym (eqb-true c 0x061C letter)) (letter_mark-begins rest))
    (λ mark. let bounds = is_from_to-le 0x200E 0x200F c mark in marks-begin rest c bounds.0 bounds.1)
    (or_cases (c == 0x061C) (is_from_to 0x200E 0x200F c) low))
    (λ embedding. let bounds = is_from_to-le 0x202A 0x202E c embedding in embeddings-begin rest c bounds.0 bounds.1)
    (or_cases (c == 0x061C || is_from_to 0x200E 0x200F c) (is_from_to 0x202A 0x202E c) low))
    (λ isolate. let bounds = is_from_to-le 0x2066 0x2069 c isolate in isolates-begin rest c bounds.0 bounds.1)
    (or_cases (c == 0x061C || is_from_to 0x200E 0x200F c || is_from_to 0x202A 0x202E c) (is_from_to 0x2066 0x2069 c) is)

pub holds_control-drop : (bytes : List ℕ) (k : ℕ) → holds_control bytes ≡ false → holds_control (drop k bytes) ≡ false
unfolding holds_control
holds_control-drop bytes zero h = h
holds_control-drop [] (suc k) h = h
holds_control-drop (b ∷ bytes) (suc k) h = holds_control-drop bytes k (grind arith)

begins-false : (bytes : List ℕ) → holds_control bytes ≡ false → begins_with_control bytes ≡ false
unfolding holds_control
begins-false [] h = refl
begins-false (b ∷ bytes) h = grind arith

replaced-other : (bytes : List ℕ) (char : Option ℕ) → (decoded bytes).char ≡ char → begins_with_control bytes ≡ false → is_control_char (or_replacement char) ≡ false
replaced-other bytes None is h = refl
replaced-other bytes (Some c) is h = elim (cases_Bool (is_control_char c)) [
  | inl held ↦
      let spelt = (SpellsChar-decoded bytes c is).bytes in
      let begun = control-begins c (drop (decoded bytes).size bytes) held in
      let begun_here : begins_with_control bytes ≡ true = ap begins_with_control spelt ∙ begun in cc
  | inr other ↦ other
]

-- the characters of such bytes are no controls and no marks
pub utf8_decoded-other : (bytes : List ℕ) → holds_control bytes ≡ false → All (λ c. is_control_char c ≡ false) (utf8_decoded bytes)
utf8_decoded-other bytes h =
    rw (utf8_decoded-pieces bytes)
    (each_char (λ c. is_control_char c ≡ false) (λ bs. holds_control bs ≡ false) (λ bs h some. replaced-other bs (decoded bs).char refl (begins-false bs h)) holds_control-drop bytes h)

-- ---- the search for one

-- no first byte of one is before an index
abbrev NoneLeads : List ℕ → ℕ → Type 0
NoneLeads bytes end = (k : ℕ) → k < end → is_byte2 0xD8 0xE2 (get_or bytes k 0) ≡ true → ⊥

no_lead : (b second third : ℕ) → is_byte2 0xD8 0xE2 b ≡ false → is_control_begun b second third ≡ false
no_lead b second third h = grind (arith, nat_tests)

holds_control-skip : (bytes : List ℕ) (end : ℕ) → NoneLeads bytes end → holds_control bytes ≡ holds_control (drop end bytes)
unfolding holds_control
holds_control-skip bytes zero none = refl
holds_control-skip [] (suc end) none = refl
holds_control-skip (b ∷ bytes) (suc end) none =
    let other : is_byte2 0xD8 0xE2 b ≡ false = false_from_ne_true (is_byte2 0xD8 0xE2 b) (none 0 (omega arith)) in
    ap (λ t. t || holds_control bytes) (no_lead b (get_or bytes 0 0) (get_or bytes 1 0) other) ∙ holds_control-skip bytes end (λ k below. none (suc k) (omega arith))

holds_control-none : (bytes : List ℕ) → NoneLeads bytes (length bytes) → holds_control bytes ≡ false
unfolding holds_control
holds_control-none bytes none = holds_control-skip bytes (length bytes) none ∙ ap holds_control (drop_all (length bytes) bytes (omega arith))

holds_control-here : (bytes : List ℕ) → begins_with_control bytes ≡ true → holds_control bytes ≡ true
unfolding holds_control
holds_control-here [] h = h
holds_control-here (b ∷ bytes) h = ap (λ t. t || holds_control bytes) h

holds_control-behind : (bytes : List ℕ) (at : ℕ) → at < length bytes → begins_with_control (drop at bytes) ≡ false → holds_control (drop at bytes) ≡ holds_control (drop (at + 1) bytes)
unfolding holds_control
holds_control-behind bytes at within h =
    let e = drop_more bytes at 0 within in
    ap holds_control e ∙ ap (λ t. t || holds_control (drop (at + 1) bytes)) (ap begins_with_control (sym e) ∙ h)

-- ---- what the search for a first byte found

abbrev pub IsFirstLead : List ℕ → Option ℕ → Type 0
IsFirstLead bytes found = IsFirstByte (is_byte2 0xD8 0xE2) bytes found

pub found-within : (bytes : List ℕ) (at : ℕ) → IsFirstLead bytes (Some at) → at < length bytes
found-within bytes at h = h.0.high

found-skip : (bytes : List ℕ) (at : ℕ) → IsFirstLead bytes (Some at) → holds_control bytes ≡ holds_control (drop at bytes)
found-skip bytes at h = holds_control-skip bytes at (λ k below. h.0.before k (omega arith) below)

pub found-here : (bytes : List ℕ) (at : ℕ) → IsFirstLead bytes (Some at) → begins_with_control (drop at bytes) ≡ true → holds_control bytes ≡ true
found-here bytes at h begins = found-skip bytes at h ∙ holds_control-here (drop at bytes) begins

pub found-other : (bytes : List ℕ) (at : ℕ) → IsFirstLead bytes (Some at) → begins_with_control (drop at bytes) ≡ false → holds_control bytes ≡ holds_control (drop (at + 1) bytes)
found-other bytes at h other = found-skip bytes at h ∙ holds_control-behind bytes at h.0.high other

pub found-none : (bytes : List ℕ) → IsFirstLead bytes None → holds_control bytes ≡ false
found-none bytes h = holds_control-none bytes (λ k below. h k (omega arith) below)
