-- How many characters a text has, counted by its units.
use Rattle.bidi_base.proofs.Common.{◌≡◌, ℕ, true, false, lt-ltb, le-ltb, ◌+◌, ◌/◌, ◌≤◌, inl, inr, cases_lt, List, [], ◌∷◌, ◌++◌, length, refl, sym, ap, ◌∙◌, arith, nat_tests, and_parts, list_all}
use Rattle.bidi_base.proofs.Common.{chars, encode_utf8, IsUtf8, text_len, per_unit, per_char, utf16_text, sum_by-cons, sum_by-append, if◌then◌else◌, encodes-chars, is_character}
use Rattle.std.specs.List.{count_by}
use lib.Utf8.{encode, encodes, next}
use Rattle.bidi_base.proofs.PerUnit.{per_char-per_unit}
use Rattle.bidi_base.proofs.TextLemmas.{HasUnits, length-le-text_len}
use Rattle.bidi_calls.specs.LineParts.{begins_character}

count_by-append : (xs ys : List ℕ) → count_by begins_character (xs ++ ys) ≡ count_by begins_character xs + count_by begins_character ys
count_by-append xs ys = sum_by-append (λ x. if begins_character x then 1 else 0) xs ys

-- a byte after the first of a character begins none
follows : (c : ℕ) → begins_character (next c) ≡ false
follows c = grind (arith, nat_tests)

-- the first byte of a long character begins it
leads : (b n : ℕ) → 192 ≤ b → begins_character (b + n) ≡ true
leads b n high = grind (arith, nat_tests)

one_begins : (c : ℕ) → count_by begins_character (encode_utf8 c) ≡ 1
unfolding encode
one_begins c = elim (cases_lt c 128) [
  | inl short ↦ simp (lt-ltb c 128 short) (grind (arith, nat_tests))
  | inr above ↦
      elim (cases_lt c 2048) [
        | inl short ↦ simp (le-ltb c 128 above, lt-ltb c 2048 short, leads 192 (c / 64) (omega arith), follows c) refl
        | inr above' ↦
            elim (cases_lt c 65536) [
              | inl short ↦ simp (le-ltb c 128 above, le-ltb c 2048 above', lt-ltb c 65536 short, leads 224 (c / 4096) (omega arith), follows c, follows (c / 64)) refl
              | inr above'' ↦
                  simp (le-ltb c 128 above, le-ltb c 2048 above', le-ltb c 65536 above'', leads 240 (c / 262144) (omega arith), follows c, follows (c / 64), follows (c / 4096)) refl
            ]
      ]
]

count-encodes : (cs : List ℕ) → count_by begins_character (encodes cs) ≡ length cs
count-encodes [] = refl
count-encodes (c ∷ cs) = grind (arith, count_by-append (encode_utf8 c) (encodes cs), one_begins c, count-encodes cs)

pub count-utf8 : (bs : List ℕ) → IsUtf8 bs → count_by begins_character bs ≡ length (chars bs)
count-utf8 bs valid = ap (count_by begins_character) (sym (encodes-chars bs valid)) ∙ count-encodes (chars bs)

-- units that are no surrogates are characters
pub count-plain : (us : List ℕ) → list_all is_character us ≡ true → length (utf16_text us) ≡ length us
count-plain [] plain = refl
count-plain (u ∷ []) plain = refl
count-plain (u ∷ v ∷ us) plain =
    let parts = and_parts (is_character u) (list_all is_character (v ∷ us)) plain in
    let rest = count-plain (v ∷ us) parts.1 in
    grind (arith, nat_tests, parts)

module _ (len_of : ℕ → ℕ) (some : HasUnits len_of) where
  -- where there are as many characters as units, each is one unit long
  per_unit-plain : (cs values : List ℕ) → text_len len_of cs ≡ length cs → length values ≡ length cs → per_unit len_of cs values ≡ values
  per_unit-plain [] [] e f = refl
  per_unit-plain [] (v ∷ vs) e f = absurd (omega (arith, f))
  per_unit-plain (c ∷ cs) [] e f = absurd (omega (arith, f))
  per_unit-plain (c ∷ cs) (v ∷ vs) e f =
      let whole = sum_by-cons len_of c cs in
      let least = length-le-text_len len_of some cs in
      let one : len_of c ≡ 1 = omega (arith, some c, whole, least, e) in
      let rest = per_unit-plain cs vs (omega (arith, some c, whole, least, e)) (omega (arith, f)) in
      simp (one, rest) refl

  pub per_char-plain : (cs levels : List ℕ) → text_len len_of cs ≤ length cs → length levels ≡ text_len len_of cs → levels ≡ per_char 0 len_of cs levels
  per_char-plain cs levels e f =
      let least = length-le-text_len len_of some cs in
      let same = per_unit-plain cs levels (omega (arith, e, least)) (omega (arith, e, f, least)) in
      sym (per_char-per_unit len_of some 0 cs levels (omega (arith, e, f, least))) ∙ ap (per_char 0 len_of cs) same
