use Rattle.bidi_base.proofs.Common.{◌≡◌, ℕ, Option, Some, option_map, sym, ap, subst, ◌∙◌, arith, inl, inr, get_or, cases_lt, char_at, len_utf8, chars}
use Rattle.bidi_text.proofs.StrLemmas.{text_len-chars, char_at-short, char_at-three, char_at-four}
use Rattle.bidi_text.proofs.text.str_text.StrTextTextSource.len_at.Goals as goal

pub bounds-as_bytes-index : goal.bounds-as_bytes-index
bounds-as_bytes-index c = grind (arith, text_len-chars)

-- the length of what is found
len_of-found : (found : Option (ℕ × ℕ)) (code len : ℕ) → found ≡ Some (code, len) → Some len ≡ option_map (λ read. read.1) found
len_of-found found code len is = sym (ap (option_map (λ read. read.1)) is)

pub returns : goal.returns
returns c =
    let bytes = c.as_bytes.result.now in
    let same = c.as_bytes.ensures.value ∙ c.as_str.ensures in
    elim (cases_lt (get_or bytes c.args.index 0) 224) [
      | inl short ↦ grind (arith, text_len-chars, char_at-short)
      | inr long ↦ elim (cases_lt (get_or bytes c.args.index 0) 240) [
        | inl low ↦
            let w = char_at-three bytes c.args.index c.as_bytes.ensures.utf8 (cc (same, c.requires.begins)) (grind (arith, text_len-chars)) long low in
            let found = subst (λ us. Some 3 ≡ option_map (λ read. read.1) (char_at len_utf8 (chars us) c.args.index)) same (len_of-found _ _ 3 w.found) in
            grind (arith, found)
        | inr high ↦
            let w = char_at-four bytes c.args.index c.as_bytes.ensures.utf8 (cc (same, c.requires.begins)) (grind (arith, text_len-chars)) high in
            let found = subst (λ us. Some 4 ≡ option_map (λ read. read.1) (char_at len_utf8 (chars us) c.args.index)) same (len_of-found _ _ 4 w.found) in
            grind (arith, found)
      ]
    ]
