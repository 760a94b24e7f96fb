-- A pass that brings the value of each character's first unit to the character's index.
use Rattle.bidi_base.proofs.Common.{◌≡◌, ◌≢◌, ◌∙◌, ℕ, ◌+◌, ◌-◌, ◌<◌, ◌≤◌, List, length, get_or, take, set, arith, true, false, sym, ap, char_index, get_or-set_other, take_more, take_more_set}
use Rattle.bidi_base.proofs.Common.{take_all, unit_index, text_len, per_char, is_boundary, length-set, length-take-le}
use Rattle.std.proofs.lemmas.List.{take-set}
use Rattle.bidi_base.proofs.TextLemmas.{HasUnits, length-le-text_len}
use Rattle.bidi_base.proofs.UnitIndexLemmas.{unit_index-more, unit_index-more-le, unit_index-le-back, unit_index-lt, unit_index-end, is_boundary-unit_index, unit_index-char_index, char_index-le}
use Rattle.bidi_base.proofs.PerUnit.{length-per_char, get_or-per_char}

module _ (len_of : ℕ → ℕ) (chars old : List ℕ) where
  -- the values of the first n characters stand at the front of `new`, and what comes after them is as it was
  pub record IsGathered (new : List ℕ) (n : ℕ) : Type 0 where
    pub long : length new ≡ length old
    pub front : take n new ≡ take n (per_char 0 len_of chars old)
    pub rest : (u : ℕ) → unit_index len_of chars n ≤ u → get_or new u 0 ≡ get_or old u 0

  -- a place is not before its character's index
  index-le-unit_index : HasUnits len_of → (n : ℕ) → n ≤ length chars → n ≤ unit_index len_of chars n
  index-le-unit_index h n fits = grind (arith, length-le-text_len, length-take-le)

  -- one value more at the front
  front-more : HasUnits len_of → (new : List ℕ) (n x : ℕ) → n < length chars → length old ≡ text_len len_of chars → length new ≡ length old
      → x ≡ get_or old (unit_index len_of chars n) 0 → take n new ≡ take n (per_char 0 len_of chars old)
      → take (n + 1) (set new n x) ≡ take (n + 1) (per_char 0 len_of chars old)
  front-more h new n x fits same long is front =
      let ahead = index-le-unit_index h n (omega arith) in
      grind (arith, take_more_set new n x, take_more (per_char 0 len_of chars old) n 0, get_or-per_char 0 len_of chars old n 0, length-per_char 0 len_of chars old, unit_index-more-le len_of chars n 0, h (get_or chars n 0))

  pub IsGathered-more : HasUnits len_of → (new : List ℕ) (n x : ℕ) → n < length chars → length old ≡ text_len len_of chars
      → x ≡ get_or new (unit_index len_of chars n) 0 → IsGathered new n → IsGathered (set new n x) (n + 1)
  IsGathered-more h new n x fits same is g =
      let ahead = index-le-unit_index h n (omega arith) in
      let later = index-le-unit_index h (n + 1) (omega arith) in
      grind (arith, length-set new n x, take_more_set new n x, take_more (per_char 0 len_of chars old) n 0, get_or-per_char 0 len_of chars old n 0, length-per_char 0 len_of chars old, unit_index-more len_of chars n 0, unit_index-more-le len_of chars n 0, h (get_or chars n 0), get_or-set_other new n)

  pub IsGathered-end : (new : List ℕ) (n : ℕ) → n ≡ length chars → IsGathered new n → take n new ≡ per_char 0 len_of chars old
  IsGathered-end new n e g = grind (arith, take_all, length-per_char)

  -- the values of the n characters that begin before the unit `at` stand at the front of `new`, and no other one begins before it
  pub record IsTaken (new : List ℕ) (n at : ℕ) : Type 0 where
    pub long : length new ≡ length old
    pub front : take n new ≡ take n (per_char 0 len_of chars old)
    pub few : n ≤ length chars
    pub ahead : at ≤ unit_index len_of chars n
    pub behind : (k : ℕ) → k < n → unit_index len_of chars k < at

  pub IsTaken-le : HasUnits len_of → (new : List ℕ) (n at : ℕ) → IsTaken new n at → n ≤ at
  IsTaken-le h new n at s = grind (arith, s.few, s.behind (n - 1), index-le-unit_index h (n - 1))

  -- no character begins here
  pub IsTaken-inside : HasUnits len_of → (new : List ℕ) (n at x : ℕ) → is_boundary len_of chars at ≡ false → IsTaken new n at → IsTaken (set new n x) n (at + 1)
  IsTaken-inside h new n at x inside s =
      let apart : at ≢ unit_index len_of chars n = grind (arith, is_boundary-unit_index len_of chars n, inside) in
      record {
        long = length-set new n x ∙ s.long;
        front = take-set new n x ∙ s.front;
        few = s.few;
        ahead = omega (arith, apart, s.ahead);
        behind = λ k lt. omega (arith, s.behind k lt);
      }

  -- the next character begins here
  pub IsTaken-more : HasUnits len_of → (new : List ℕ) (n at x : ℕ) → is_boundary len_of chars at ≡ true → at < text_len len_of chars
      → length old ≡ text_len len_of chars → x ≡ get_or old at 0 → IsTaken new n at → IsTaken (set new n x) (n + 1) (at + 1)
  IsTaken-more h new n at x begins within same is s =
      let m = char_index len_of chars at in
      let place_m : unit_index len_of chars m ≡ at = unit_index-char_index len_of h chars at begins in
      let le : m ≤ n = unit_index-le-back len_of chars h m n (char_index-le len_of chars at) (omega (arith, place_m, s.ahead)) in
      let same_index : m ≡ n = grind (arith, le, place_m, s.behind m) in
      let here : at ≡ unit_index len_of chars n = sym place_m ∙ ap (unit_index len_of chars) same_index in
      let short : n < length chars = grind (arith, s.few, here, within, unit_index-end len_of chars n) in
      record {
        long = length-set new n x ∙ s.long;
        front = front-more h new n x short same s.long (is ∙ ap (λ u. get_or old u 0) here) s.front;
        few = omega (arith, short);
        ahead = omega (arith, here, unit_index-more len_of chars n 0 short, h (get_or chars n 0));
        behind = λ k lt. grind (arith, lt, here, s.behind k);
      }

  pub IsTaken-end : HasUnits len_of → (new : List ℕ) (n : ℕ) → IsTaken new n (text_len len_of chars) → n ≡ length chars
  IsTaken-end h new n s = grind (arith, s.few, s.ahead, unit_index-lt len_of chars h n (length chars), unit_index-end len_of chars (length chars))

  pub taken-all : (new : List ℕ) (n at : ℕ) → n ≡ length chars → IsTaken new n at → take n new ≡ per_char 0 len_of chars old
  taken-all new n at e s = grind (arith, s.front, take_all, length-per_char)

  -- the same within one list: its values from `at` on are as they were
  pub record IsSwept (new : List ℕ) (n at : ℕ) : Type 0 where
    pub taken : IsTaken new n at
    pub rest : (u : ℕ) → at ≤ u → get_or new u 0 ≡ get_or old u 0

  -- one value moved, whether or not a character begins here
  pub IsSwept-next : HasUnits len_of → (new : List ℕ) (n at x m : ℕ) → IsSwept new n at → IsTaken (set new n x) m (at + 1) → IsSwept (set new n x) m (at + 1)
  IsSwept-next h new n at x m s next = record {
    taken = next;
    rest = λ u le. get_or-set_other new n u x 0 (omega (arith, le, IsTaken-le h new n at s.taken)) ∙ s.rest u (omega (arith, le));
  }
