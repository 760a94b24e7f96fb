-- The last character of units of UTF-16.
use Rattle.bidi_base.proofs.Common.{suc, ◌≡◌, ℕ, ◌-◌, true, false, List, [], ◌∷◌, length, drop, drop-cons, get_or, ◌∙◌, ap, arith, drop_all, splits_pair, pair_char, lone_char}
use Rattle.bidi_base.specs.Utf16.{IsLast}
use Rattle.bidi_text.proofs.Utf16Lemmas.{NoPairAt, NoPairAt-from_splits_pair, PairAt, pair_at, utf16_text-cut, utf16_len-lone, utf16_len-pair, text_pair}

-- the last unit, and the last two
drop_last : (us : List ℕ) (i : ℕ) → length us ≡ suc i → drop i us ≡ get_or us i 0 ∷ []
drop_last us i e = grind (arith, drop-cons, drop_all)

drop_two : (us : List ℕ) (i : ℕ) → length us ≡ suc (suc i) → drop i us ≡ get_or us i 0 ∷ get_or us (suc i) 0 ∷ []
drop_two us i e = drop-cons us i 0 (omega arith) ∙ ap (λ z. get_or us i 0 ∷ z) (drop_last us (suc i) e)

module _ (us : List ℕ) (last : ℕ) (long : length us ≡ suc last) where
  pub IsLast-lone : splits_pair us last ≡ false → IsLast us (lone_char (get_or us last 0)) 1
  IsLast-lone e =
      grind (arith, utf16_len-lone (get_or us last 0), utf16_text-cut us last (NoPairAt-from_splits_pair us last e), drop_last us last long)

  pair_last : PairAt us last → IsLast us (pair_char (get_or us (last - 1) 0) (get_or us last 0)) 2
  pair_last w =
      let apart : NoPairAt us w.first = λ n e. grind (arith, w.pair, w.second) in
      grind (arith, w.second, w.pair, drop_two us w.first, utf16_text-cut us w.first apart, text_pair (get_or us w.first 0) (get_or us last 0) [], utf16_len-pair)

  pub IsLast-pair : splits_pair us last ≡ true → IsLast us (pair_char (get_or us (last - 1) 0) (get_or us last 0)) 2
  IsLast-pair e = pair_last (pair_at us last e)
