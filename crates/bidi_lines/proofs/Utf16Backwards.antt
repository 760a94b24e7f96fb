-- Units of UTF-16 without surrogates are their characters.
use Rattle.bidi_base.proofs.Common.{◌≡◌, ℕ, ◌<◌, ◌^◌, true, false, List, [], ◌∷◌, ◌++◌, suc, get_or, reverse, flat_map, refl, sym, ap, ap₂, ◌∙◌, arith, and_parts, append-nil, list_all, utf16_text}
use Rattle.bidi_base.proofs.Common.{flat_map-append, reverse-append, encode_utf16, is_pair, lone_char, is_character}

lone_char-character : (u : ℕ) → u < 2 ^ 16 → is_character u ≡ true → lone_char u ≡ u
lone_char-character u fits h = grind arith

is_pair-character : (u v : ℕ) → is_character u ≡ true → is_pair u v ≡ false
is_pair-character u v h = grind arith

pub utf16_text-characters : (us : List ℕ) → ((k : ℕ) → get_or us k 0 < 2 ^ 16) → list_all is_character us ≡ true → utf16_text us ≡ us
utf16_text-characters [] fits h = refl
utf16_text-characters (u ∷ []) fits h = ap (λ c. c ∷ []) (lone_char-character u (fits 0) (and_parts (is_character u) true h).0)
utf16_text-characters (u ∷ v ∷ us) fits h =
    let parts = and_parts (is_character u) (list_all is_character (v ∷ us)) h in
    simp (is_pair-character u v parts.0, lone_char-character u (fits 0) parts.0, utf16_text-characters (v ∷ us) (λ k. fits (suc k)) parts.1)

one_unit : (u : ℕ) → u < 2 ^ 16 → encode_utf16 u ≡ u ∷ []
one_unit u fits = grind arith

-- they are encoded as their units
pub encoded-characters : (us : List ℕ) → ((k : ℕ) → get_or us k 0 < 2 ^ 16) → list_all is_character us ≡ true → us ≡ flat_map encode_utf16 (utf16_text us)
encoded-characters us fits h = sym (ap (flat_map encode_utf16) (utf16_text-characters us fits h) ∙ each us fits)
  where
    each : (us : List ℕ) → ((k : ℕ) → get_or us k 0 < 2 ^ 16) → flat_map encode_utf16 us ≡ us
    each [] fits = refl
    each (u ∷ us) fits = ap₂ (λ xs ys. xs ++ ys) (one_unit u (fits 0)) (each us (λ k. fits (suc k)))

-- last first they are their units last first
pub backwards-characters : (us : List ℕ) → ((k : ℕ) → get_or us k 0 < 2 ^ 16) → flat_map encode_utf16 (reverse us) ≡ reverse us
backwards-characters [] fits = refl
backwards-characters (u ∷ us) fits =
    ap (flat_map encode_utf16) (reverse-append (u ∷ []) us) ∙ flat_map-append encode_utf16 (reverse us) (u ∷ [])
    ∙ ap₂ (λ xs ys. xs ++ ys) (backwards-characters us (λ k. fits (suc k))) (append-nil (encode_utf16 u) ∙ one_unit u (fits 0)) ∙ sym (reverse-append (u ∷ []) us)
