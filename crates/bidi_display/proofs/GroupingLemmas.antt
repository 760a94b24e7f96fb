-- What a pass over the characters of a cluster has read of them.
use Rattle.bidi_base.proofs.Common.{◌≡◌, ℕ, ◌+◌, ◌<◌, Bool, true, false, cond, not, List, [], ◌∷◌, ◌++◌, length, map, take, drop, get_or, find, Some, None, sym, ap, ◌∙◌, arith, drop_more, take_more, filter-append, map-append, append-nil}
use Rattle.bidi_base.proofs.Common.{string_bytes, chars, encode_utf8, encode_utf8_all, encodes-append, encodes-chars, chars_from_encodes, IsUtf8-string_bytes}
use Rattle.std.specs.declared.string.String.{String}
use Rattle.bidi_base.specs.Classes.{is_kept, is_removed}
use Rattle.bidi_display.specs.LineClusters.{is_dropped, displayed_chars, level_char, or_first_level, cluster_level}
use Rattle.bidi_display.specs.declared.line_char.LineChar.{LineChar}
use Rattle.bidi_display.specs.declared.options.DisplayOptions.{DisplayOptions}
use Rattle.bidi_display.specs.declared.options.Dropped.{Dropped}

-- ---- the next character

pub drop-item : (cs : List LineChar) (k : ℕ) (c : LineChar) → k < length cs → c ≡ get_or cs k c → drop k cs ≡ c ∷ drop (k + 1) cs
drop-item cs k c within is = drop_more cs k c within ∙ ap (λ x. x ∷ drop (k + 1) cs) (sym is)

pub take-item : (cs : List LineChar) (k : ℕ) (c : LineChar) → k < length cs → c ≡ get_or cs k c → take (k + 1) cs ≡ take k cs ++ c ∷ []
take-item cs k c within is = take_more cs k c within ∙ ap (λ x. take k cs ++ x ∷ []) (sym is)

pub dropped-by : (options : DisplayOptions) (dropped : Dropped) (c : LineChar) (drops b : Bool) → options.dropped ≡ dropped → drops ≡ is_dropped dropped c → drops ≡ b → is_dropped options.dropped c ≡ b
dropped-by options dropped c drops b same is e = ap (λ d. is_dropped d c) same ∙ sym is ∙ e

-- the characters of a text after one more
pub chars_push : {Z : Type 0} (old new : String Z) (c : ℕ) → string_bytes new ≡ string_bytes old ++ encode_utf8 c → chars (string_bytes new) ≡ chars (string_bytes old) ++ c ∷ []
chars_push old new c e =
    let cs = chars (string_bytes old) in
    let bytes : encode_utf8_all (cs ++ c ∷ []) ≡ string_bytes new =
    encodes-append cs (c ∷ []) ∙ ap (λ bs. bs ++ encode_utf8_all (c ∷ [])) (encodes-chars (string_bytes old) (IsUtf8-string_bytes old))
    ∙ ap (λ bs. string_bytes old ++ bs) (append-nil (encode_utf8 c)) ∙ sym e in
    sym (chars_from_encodes (cs ++ c ∷ []) (string_bytes new) (IsUtf8-string_bytes new) bytes)

module _ (options : DisplayOptions) where
  abbrev is_displayed : LineChar → Bool
  is_displayed c = not (is_dropped options.dropped c)

  -- ---- the displayed ones

  -- the code points of the displayed ones of these characters
  abbrev displayed_codes : List LineChar → List ℕ
  displayed_codes cs = map (λ c. c.char) (displayed_chars options cs)

  displayed_codes-append : (cs : List LineChar) (c : LineChar) → displayed_codes (cs ++ c ∷ []) ≡ displayed_codes cs ++ displayed_codes (c ∷ [])
  displayed_codes-append cs c =
      ap (map (λ d. d.char)) (filter-append is_displayed cs (c ∷ [])) ∙ map-append (λ d. d.char) (displayed_chars options cs) (displayed_chars options (c ∷ []))

  pub displayed-more : (cs : List LineChar) (k : ℕ) (c : LineChar) → k < length cs → c ≡ get_or cs k c → is_dropped options.dropped c ≡ false
      → displayed_codes (take (k + 1) cs) ≡ displayed_codes (take k cs) ++ c.char ∷ []
  displayed-more cs k c within is shown =
      ap displayed_codes (take-item cs k c within is) ∙ displayed_codes-append (take k cs) c
      ∙ ap (λ b. displayed_codes (take k cs) ++ map (λ d. d.char) (cond (not b) (c ∷ []) [])) shown

  pub displayed-dropped : (cs : List LineChar) (k : ℕ) (c : LineChar) → k < length cs → c ≡ get_or cs k c → is_dropped options.dropped c ≡ true
      → displayed_codes (take (k + 1) cs) ≡ displayed_codes (take k cs)
  displayed-dropped cs k c within is hidden =
      ap displayed_codes (take-item cs k c within is) ∙ displayed_codes-append (take k cs) c
      ∙ ap (λ b. displayed_codes (take k cs) ++ map (λ d. d.char) (cond (not b) (c ∷ []) [])) hidden ∙ append-nil (displayed_codes (take k cs))

  -- ---- the level

  level_char-cons : (cs : List LineChar) (c : LineChar) (b : Bool) → is_dropped options.dropped c ≡ b
      → level_char options (c ∷ cs) ≡ find (λ d. is_kept d.class) (cond (not b) (c ∷ displayed_chars options cs) (displayed_chars options cs))
  level_char-cons cs c b e = ap (λ x. find (λ d. is_kept d.class) (cond (not x) (c ∷ displayed_chars options cs) (displayed_chars options cs))) e

  pub level_char-dropped : (cs : List LineChar) (c : LineChar) → is_dropped options.dropped c ≡ true → level_char options (c ∷ cs) ≡ level_char options cs
  level_char-dropped cs c hidden = level_char-cons cs c true hidden

  pub level_char-removed : (cs : List LineChar) (c : LineChar) → is_dropped options.dropped c ≡ false → is_removed c.class ≡ true → level_char options (c ∷ cs) ≡ level_char options cs
  level_char-removed cs c shown removed = level_char-cons cs c false shown ∙ ap (λ x. cond (not x) (Some c) (level_char options cs)) removed

  pub level_char-kept : (cs : List LineChar) (c : LineChar) → is_dropped options.dropped c ≡ false → is_removed c.class ≡ false → level_char options (c ∷ cs) ≡ Some c
  level_char-kept cs c shown kept = level_char-cons cs c false shown ∙ ap (λ x. cond (not x) (Some c) (level_char options cs)) kept

  pub cluster_level-found : (cluster : List LineChar) (c : LineChar) → level_char options cluster ≡ Some c → c.level ≡ cluster_level options cluster
  cluster_level-found cluster c e = sym (ap (λ o. or_first_level options o cluster) e)

  pub cluster_level-none : (cluster : List LineChar) (d : LineChar) → 0 < length cluster → level_char options cluster ≡ None → (get_or cluster 0 d).level ≡ cluster_level options cluster
  cluster_level-none [] d some e = absurd (omega arith)
  cluster_level-none (c ∷ cs) d some e = sym (ap (λ o. or_first_level options o (c ∷ cs)) e)
