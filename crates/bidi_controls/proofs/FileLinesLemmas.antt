-- The lines of decoded bytes.
use Rattle.bidi_base.proofs.Common.{◌≡◌, ℕ, zero, suc, ◌+◌, ◌<◌, ◌≤◌, true, false, ◌||◌, ◌&&◌, ◌==◌, not, List, [], ◌∷◌, ◌++◌, length, get_or, take, drop, refl, sym, ap, ◌∙◌, arith, append_assoc}
use Rattle.bidi_base.proofs.Common.{cases_lt, inl, inr, nat_tests, take_more, drop_more, take-append-drop, append-nil, add-zero, get_or-drop, get_or-take, get_or_default}
use Rattle.bidi_base.proofs.Common.{length-drop, length-take, cases_Bool, cond-true, cond-false, eqb-true, and_parts, false_from_ne_true, Some, nil_from_length, length-append}
use Rattle.bidi_base.proofs.Common.{get_or_append_left, ⊎_elim, All-drop}
use Rattle.memchr.specs.Find.{IsLastByte, is_byte2}
use Rattle.bidi_controls.specs.Decoded.{utf8_decoded, utf8_fault, fault_from}
use Rattle.bidi_controls.specs.FileLines.{is_break, is_before_line_feed, ends_file_line, break_end, file_lines_of}
use Rattle.bidi_controls.proofs.CutLemmas.{HasNoBreak, file_lines-append, file_lines-one, file_lines-whole}
use Rattle.bidi_controls.proofs.FaultLemmas.{utf8_fault-at}
use Rattle.bidi_controls.proofs.LossyLemmas.{first_char, first_char-low, first_char-byte, each_char, utf8_decoded-pieces, utf8_decoded-at, utf8_decoded-nil, utf8_decoded-first}

high-no_break : (c : ℕ) → 128 ≤ c → is_break c ≡ false
high-no_break c high = grind (arith, nat_tests)

break-low : (a : ℕ) → is_break a ≡ true → a < 128
break-low a h = grind (arith, nat_tests)

first_char-no_break : (bytes : List ℕ) → HasNoBreak bytes → 0 < length bytes → is_break (first_char bytes) ≡ false
first_char-no_break bytes h some =
    ⊎_elim (λ low. ap is_break (first_char-low bytes low) ∙ h 0 0 some) (high-no_break (first_char bytes)) (cases_lt (first_char bytes) 128)

-- bytes without the end of a line decode to characters without one
pub HasNoBreak-decoded : (bytes : List ℕ) → HasNoBreak bytes → HasNoBreak (utf8_decoded bytes)
HasNoBreak-decoded bytes h =
    rw (utf8_decoded-pieces bytes)
    (each_char (λ c. is_break c ≡ false) HasNoBreak first_char-no_break (λ bs k all. All-drop (λ c. is_break c ≡ false) k bs all) bytes h)

same_line_feed : (c b : ℕ) → (c < 128 → c ≡ b) → (b < 128 → c ≡ b) → (c == 0x0A) ≡ (b == 0x0A)
same_line_feed c b one other = ⊎_elim
    (λ low. ap (λ x. x == 0x0A) (other low))
    (λ high. ⊎_elim (λ low. ap (λ x. x == 0x0A) (one low)) (λ high_too. grind (arith, nat_tests)) (cases_lt c 128))
    (cases_lt b 128)

-- a line feed is first in both
pub before_line_feed-decoded : (bytes : List ℕ) → is_before_line_feed (utf8_decoded bytes) ≡ is_before_line_feed bytes
before_line_feed-decoded [] = rw utf8_decoded-nil refl
before_line_feed-decoded (b ∷ bytes) =
    rw (utf8_decoded-first b bytes) (same_line_feed (first_char (b ∷ bytes)) b (first_char-low (b ∷ bytes)) (first_char-byte b bytes))

ends-decoded : (a : ℕ) (bytes : List ℕ) → ends_file_line a (utf8_decoded bytes) ≡ ends_file_line a bytes
ends-decoded a bytes = ap (λ t. a == 0x0A || (a == 0x0D && not t)) (before_line_feed-decoded bytes)

-- bytes that are cut after the end of a line
pub decoded-cut : (before : List ℕ) (a : ℕ) (after : List ℕ) → is_break a ≡ true → ends_file_line a after ≡ true
    → file_lines_of (utf8_decoded (before ++ a ∷ after)) ≡ file_lines_of (utf8_decoded (before ++ a ∷ [])) ++ file_lines_of (utf8_decoded after)
decoded-cut before a after h ends =
    let low = break-low a h in
    rw (utf8_decoded-at before a after low, utf8_decoded-at before a [] low, utf8_decoded-nil)
    (file_lines-append (utf8_decoded before) a (utf8_decoded after) (ends-decoded a after ∙ ends))

alone : (a : ℕ) → file_lines_of (a ∷ []) ≡ (a ∷ []) ∷ []
alone a = grind arith

-- bytes up to the first end of a line decode to one line
pub decoded-one : (before : List ℕ) (a : ℕ) → HasNoBreak before → is_break a ≡ true
    → file_lines_of (utf8_decoded (before ++ a ∷ [])) ≡ utf8_decoded (before ++ a ∷ []) ∷ []
decoded-one before a h is =
    rw (utf8_decoded-at before a [] (break-low a is), utf8_decoded-nil) (file_lines-one (utf8_decoded before) (a ∷ []) (HasNoBreak-decoded before h) (alone a))

pub decoded-one_pair : (before : List ℕ) → HasNoBreak before
    → file_lines_of (utf8_decoded (before ++ 0x0D ∷ 0x0A ∷ [])) ≡ utf8_decoded (before ++ 0x0D ∷ 0x0A ∷ []) ∷ []
decoded-one_pair before h =
    rw (utf8_decoded-at before 0x0D (0x0A ∷ []) (omega arith), utf8_decoded-at [] 0x0A [] (omega arith), utf8_decoded-nil)
    (file_lines-one (utf8_decoded before) (0x0D ∷ 0x0A ∷ []) (HasNoBreak-decoded before h) refl)

-- and those without one
pub decoded-whole : (bytes : List ℕ) → HasNoBreak bytes → 0 < length bytes → file_lines_of (utf8_decoded bytes) ≡ utf8_decoded bytes ∷ []
decoded-whole [] h some = absurd (omega arith)
decoded-whole (b ∷ bytes) h some =
    file_lines-whole (utf8_decoded (b ∷ bytes)) (HasNoBreak-decoded (b ∷ bytes) h) (rw (utf8_decoded-first b bytes) (omega arith))

-- ---- the end of a line at an index

before_line_feed-read : (bytes : List ℕ) → is_before_line_feed bytes ≡ (get_or bytes 0 0 == 0x0A)
before_line_feed-read [] = refl
before_line_feed-read (b ∷ bytes) = refl

before_line_feed-append : (bytes more : List ℕ) → 0 < length bytes → is_before_line_feed (bytes ++ more) ≡ is_before_line_feed bytes
before_line_feed-append [] more some = absurd (omega arith)
before_line_feed-append (b ∷ bytes) more some = refl

ends-single : (a next : ℕ) (after : List ℕ) → is_break a ≡ true → a == 0x0D && next == 0x0A ≡ false → is_before_line_feed after ≡ (next == 0x0A) → ends_file_line a after ≡ true
ends-single a next after is single read = grind (arith, nat_tests)

within_some : (bytes : List ℕ) (k : ℕ) → get_or bytes k 0 ≡ 0x0A → k < length bytes
within_some [] k h = absurd (omega arith)
within_some (b ∷ bytes) zero h = omega arith
within_some (b ∷ bytes) (suc k) h = let later = within_some bytes k h in omega arith

module _ (bytes : List ℕ) (at : ℕ) (within : at < length bytes) (is : is_break (get_or bytes at 0) ≡ true) where
  abbrev a : ℕ
  a = get_or bytes at 0

  abbrev next : ℕ
  next = get_or bytes (at + 1) 0

  behind : get_or (drop (at + 1) bytes) 0 0 ≡ next
  behind = get_or-drop (at + 1) bytes 0 0 ∙ ap (λ k. get_or bytes k 0) (add-zero (at + 1))

  split : bytes ≡ take at bytes ++ a ∷ drop (at + 1) bytes
  split = sym (take-append-drop at bytes) ∙ ap (λ t. take at bytes ++ t) (drop_more bytes at 0 within)

  front : take (at + 1) bytes ≡ take at bytes ++ a ∷ []
  front = take_more bytes at 0 within

  -- a carriage return, or a line feed by itself
  module _ (single : a == 0x0D && next == 0x0A ≡ false) where
    end-single : break_end bytes at ≡ at + 1
    end-single = cond-false _ _ _ single

    cut-single : (more : List ℕ) → is_before_line_feed (drop (at + 1) bytes ++ more) ≡ (next == 0x0A)
        → file_lines_of (utf8_decoded (bytes ++ more)) ≡ file_lines_of (utf8_decoded (take (at + 1) bytes)) ++ file_lines_of (utf8_decoded (drop (at + 1) bytes ++ more))
    cut-single more read =
        ap (λ t. file_lines_of (utf8_decoded (t ++ more))) split
        ∙ ap (λ t. file_lines_of (utf8_decoded t)) (append_assoc (take at bytes) (a ∷ drop (at + 1) bytes) more)
        ∙ decoded-cut (take at bytes) a (drop (at + 1) bytes ++ more) is (ends-single a next (drop (at + 1) bytes ++ more) is single read)
        ∙ ap (λ t. file_lines_of (utf8_decoded t) ++ file_lines_of (utf8_decoded (drop (at + 1) bytes ++ more))) (sym front)

    one-single : HasNoBreak (take at bytes) → file_lines_of (utf8_decoded (take (at + 1) bytes)) ≡ utf8_decoded (take (at + 1) bytes) ∷ []
    one-single h = rw front (decoded-one (take at bytes) a h is)

  -- a carriage return before a line feed
  module _ (pair : a == 0x0D && next == 0x0A ≡ true) where
    end-pair : break_end bytes at ≡ at + 2
    end-pair = cond-true _ _ _ pair

    first-is : a ≡ 0x0D
    first-is = eqb-true a 0x0D (and_parts (a == 0x0D) (next == 0x0A) pair).0

    next-is : next ≡ 0x0A
    next-is = eqb-true next 0x0A (and_parts (a == 0x0D) (next == 0x0A) pair).1

    two : at + 1 + 1 ≡ at + 2
    two = omega arith

    rest-pair : drop (at + 1) bytes ≡ 0x0A ∷ drop (at + 2) bytes
    rest-pair =
        drop_more bytes (at + 1) 0 (within_some bytes (at + 1) next-is) ∙ ap (λ x. x ∷ drop (at + 1 + 1) bytes) next-is ∙ ap (λ k. 0x0A ∷ drop k bytes) two

    split-pair : bytes ≡ (take at bytes ++ 0x0D ∷ []) ++ 0x0A ∷ drop (at + 2) bytes
    split-pair =
        split ∙ ap (λ x. take at bytes ++ x ∷ drop (at + 1) bytes) first-is ∙ ap (λ t. take at bytes ++ 0x0D ∷ t) rest-pair
        ∙ sym (append_assoc (take at bytes) (0x0D ∷ []) (0x0A ∷ drop (at + 2) bytes))

    front-pair : take (at + 2) bytes ≡ (take at bytes ++ 0x0D ∷ []) ++ 0x0A ∷ []
    front-pair =
        ap (λ k. take k bytes) (sym two) ∙ take_more bytes (at + 1) 0 (within_some bytes (at + 1) next-is)
        ∙ ap (λ t. t ++ next ∷ []) (front ∙ ap (λ x. take at bytes ++ x ∷ []) first-is) ∙ ap (λ x. (take at bytes ++ 0x0D ∷ []) ++ x ∷ []) next-is

    cut-pair : (more : List ℕ)
        → file_lines_of (utf8_decoded (bytes ++ more)) ≡ file_lines_of (utf8_decoded (take (at + 2) bytes)) ++ file_lines_of (utf8_decoded (drop (at + 2) bytes ++ more))
    cut-pair more =
        ap (λ t. file_lines_of (utf8_decoded (t ++ more))) split-pair
        ∙ ap (λ t. file_lines_of (utf8_decoded t)) (append_assoc (take at bytes ++ 0x0D ∷ []) (0x0A ∷ drop (at + 2) bytes) more)
        ∙ decoded-cut (take at bytes ++ 0x0D ∷ []) 0x0A (drop (at + 2) bytes ++ more) refl refl
        ∙ ap (λ t. file_lines_of (utf8_decoded t) ++ file_lines_of (utf8_decoded (drop (at + 2) bytes ++ more))) (sym front-pair)

    one-pair : HasNoBreak (take at bytes) → file_lines_of (utf8_decoded (take (at + 2) bytes)) ≡ utf8_decoded (take (at + 2) bytes) ∷ []
    one-pair h =
        rw (front-pair ∙ append_assoc (take at bytes) (0x0D ∷ []) (0x0A ∷ [])) (decoded-one_pair (take at bytes) h)

  -- the bytes are cut there, whatever follows, if there is a byte after the index
  pub cut-at : at + 1 < length bytes → (more : List ℕ)
      → file_lines_of (utf8_decoded (bytes ++ more)) ≡ file_lines_of (utf8_decoded (take (break_end bytes at) bytes)) ++ file_lines_of (utf8_decoded (drop (break_end bytes at) bytes ++ more))
  cut-at more_within more = elim (cases_Bool (a == 0x0D && next == 0x0A)) [
    | inl pair ↦ rw (end-pair pair) (cut-pair pair more)
    | inr single ↦ rw (end-single single)
        (cut-single single more
        (before_line_feed-append (drop (at + 1) bytes) more (omega (arith, length-drop (at + 1) bytes)) ∙ before_line_feed-read (drop (at + 1) bytes) ∙ ap (λ x. x == 0x0A) behind))
  ]

  abbrev FaultIsCut : List ℕ → ℕ → Type 0
  FaultIsCut more n = utf8_fault (bytes ++ more) ≡ fault_from (utf8_fault (take n bytes)) n (drop n bytes ++ more)

  -- and so is where they stop being UTF-8
  pub fault-at : at + 1 < length bytes → (more : List ℕ) → FaultIsCut more (break_end bytes at)
  fault-at more_within more = elim (cases_Bool (a == 0x0D && next == 0x0A)) [
    | inl pair ↦ rw (end-pair pair)
        (utf8_fault-at bytes more (take at bytes ++ 0x0D ∷ []) (at + 2) 0x0A (front-pair pair) (omega arith) (omega arith))
    | inr single ↦ rw (end-single single) (utf8_fault-at bytes more (take at bytes) (at + 1) a front (break-low a is) (omega arith))
  ]

  abbrev FirstIs : ℕ → Type 0
  FirstIs n = file_lines_of (utf8_decoded bytes) ≡ utf8_decoded (take n bytes) ∷ file_lines_of (utf8_decoded (drop n bytes))

  -- the first line ends there, if none ends before
  pub first-at : HasNoBreak (take at bytes) → FirstIs (break_end bytes at)
  first-at h = elim (cases_Bool (a == 0x0D && next == 0x0A)) [
    | inl pair ↦ rw (end-pair pair)
        (let e = cut-pair pair [] in let one = one-pair pair h in grind (arith, append-nil, e, one))
    | inr single ↦ rw (end-single single)
        (let e = cut-single single [] (ap is_before_line_feed (append-nil (drop (at + 1) bytes)) ∙ before_line_feed-read (drop (at + 1) bytes) ∙ ap (λ x. x == 0x0A) behind) in
        let one = one-single single h in grind (arith, append-nil, e, one))
  ]

-- ---- what the searches found

-- none of the first bytes ends a line
pub none-before : (bytes : List ℕ) (end : ℕ) → ((k : ℕ) → 0 ≤ k → k < end → is_byte2 0x0A 0x0D (get_or bytes k 0) ≡ true → ⊥) → HasNoBreak (take end bytes)
none-before bytes end none k d below =
    let fits : k < end = omega (arith, length-take end bytes) in
    let inside : k < length bytes = omega (arith, length-take end bytes) in
    ap is_break (get_or-take end bytes k d fits ∙ get_or_default bytes k d 0 inside) ∙ false_from_ne_true (is_byte2 0x0A 0x0D (get_or bytes k 0)) (none k (omega arith) fits)

pub no_lines : (bytes : List ℕ) → length bytes ≡ 0 → length (file_lines_of (utf8_decoded bytes)) ≡ 0
no_lines bytes none = ap (λ t. length (file_lines_of (utf8_decoded t))) (nil_from_length bytes none) ∙ ap (λ t. length (file_lines_of t)) utf8_decoded-nil

-- the last end of a line in all bytes but the last
pub break-in_front : (bytes front : List ℕ) (at last : ℕ) → bytes ≡ front ++ last ∷ [] → IsLastByte (is_byte2 0x0A 0x0D) front (Some at)
    → (at < length bytes) × (is_break (get_or bytes at 0) ≡ true) × (at + 1 < length bytes)
break-in_front bytes front at last whole found =
    let long : length bytes ≡ length front + 1 = ap length whole ∙ length-append front (last ∷ []) in
    let high : at < length front = found.0.high in
    let here : get_or bytes at 0 ≡ get_or front at 0 = ap (λ t. get_or t at 0) whole ∙ get_or_append_left front (last ∷ []) 0 at high in
    (omega arith, ap is_break here ∙ found.1, omega arith)
