-- A block of classes that pass a test: what is seen over it, and how a pass that rewrites block by block goes on.
use Rattle.bidi_base.proofs.Common.{◌≡◌, ℕ, zero, suc, ◌+◌, ◌-◌, ◌<◌, ◌≤◌, Bool, true, false, List, [], ◌∷◌, length, get_or, take, drop, replicate, reverse, sym, ap, ◌∙◌, arith, inl, inr}
use Rattle.bidi_base.proofs.Common.{length-take, length-drop, length-append, get_or-take, get_or-drop, common_steps, cases_lt, length-replicate, get_or-replicate, drop_more, drop_all, take_rest}
use Rattle.bidi_base.proofs.Common.{ext_get_or, length-take-le, get_or-append_right, prefix_len-le-length, prefix_len, in_context, drop-drop}
use Rattle.bidi_base.specs.declared.char_data.BidiClass.{BidiClass}
use Rattle.bidi_base.specs.declared.char_data.BidiClass.TheVariants.{L}
use Rattle.std.proofs.lemmas.List.Sums.{prefix_len_passes, prefix_len_stops}
use Rattle.std.proofs.lemmas.Slice.{take-put_mid, take-put_mid_below, drop-put_mid}
use borrow.Rule.Slice.PartMut.{put_mid}
use Rattle.bidi_base.proofs.PlacesLemmas.{reverse-take_more, length-in_context, get_or-in_context}
use Rattle.bidi_laws.proofs.InPlace.{IsRewritten, IsRewritten-end}

-- the n classes from i on pass the test, and the one after them does not
pub record IsBlock (test : BidiClass → Bool) (xs : List BidiClass) (i n : ℕ) : Type 0 where
  pub room : i + n ≤ length xs
  pub inside : (k : ℕ) → k < n → test (get_or xs (i + k) L) ≡ true
  pub behind : i + n < length xs → test (get_or xs (i + n) L) ≡ false

pub IsBlock-prefix_len : (test : BidiClass → Bool) (xs : List BidiClass) (i n : ℕ) → i ≤ length xs → n ≡ prefix_len test (drop i xs) → IsBlock test xs i n
IsBlock-prefix_len test xs i n fits is = grind (arith, length-drop, prefix_len-le-length, get_or-drop, prefix_len_passes, prefix_len_stops)

-- the same from what a pass counts, after i nothing being written yet
pub IsBlock-counted : (test : BidiClass → Bool) (old now : List BidiClass) (i n : ℕ) → i ≤ length old → drop i now ≡ drop i old
    → n ≡ prefix_len test (take (length now - i) (drop i now)) → IsBlock test old i n
IsBlock-counted test old now i n fits rest is = grind (arith, IsBlock-prefix_len test old i n fits, take_rest now i)

-- the length of the part that is filled
pub length-part : (now : List BidiClass) (i n : ℕ) → i + n ≤ length now → length (take (i + n - i) (drop i now)) ≡ n
length-part now i n room = omega (arith, length-take (i + n - i) (drop i now), length-drop i now)

-- what is seen past classes of a block
module _ {V : Type 0} (test : BidiClass → Bool) (look : List BidiClass → V) (passes : (c : BidiClass) (cs : List BidiClass) → test c ≡ true → look (c ∷ cs) ≡ look cs) (xs : List BidiClass) where
  pub look-drop : (i n : ℕ) → i + n ≤ length xs → ((k : ℕ) → k < n → test (get_or xs (i + k) L) ≡ true) → look (drop i xs) ≡ look (drop (i + n) xs)
  look-drop i zero room inside = ap (λ (j : ℕ). look (drop j xs)) (let same : i ≡ i + 0 = omega arith in same)
  look-drop i (suc n) room inside =
      grind (arith, drop_more xs i L, passes (get_or xs i L) (drop (i + 1) xs), inside 0, look-drop (i + 1) n (omega arith) (λ k below. grind (arith, inside (suc k))))

  pub look-take : (i n : ℕ) → i + n ≤ length xs → ((k : ℕ) → k < n → test (get_or xs (i + k) L) ≡ true) → look (reverse (take (i + n) xs)) ≡ look (reverse (take i xs))
  look-take i zero room inside = ap (λ (j : ℕ). look (reverse (take j xs))) (let same : i + 0 ≡ i = omega arith in same)
  look-take i (suc n) room inside = grind (arith, reverse-take_more xs (i + n) L, look-take i n)

drop_later : (xs ys : List BidiClass) (i n : ℕ) → drop i xs ≡ drop i ys → drop (i + n) xs ≡ drop (i + n) ys
drop_later xs ys i n e = sym (drop-drop n i xs) ∙ ap (drop n) e ∙ drop-drop n i ys

pub read_later : (xs ys : List BidiClass) (i k : ℕ) → drop i xs ≡ drop i ys → get_or xs (i + k) L ≡ get_or ys (i + k) L
read_later xs ys i k e = grind (arith, get_or-drop)

module _ (rule : List BidiClass → BidiClass → List BidiClass → BidiClass) where
  -- the rule's answer at k, in the list as it was
  abbrev pub answer : List BidiClass → ℕ → BidiClass
  answer old k = rule (reverse (take k old)) (get_or old k L) (drop (k + 1) old)

  pub answer_is : (old : List BidiClass) (k : ℕ) → k < length old → get_or (in_context rule [] old) k L ≡ answer old k
  answer_is old k fits = grind (arith, common_steps, get_or-in_context)

  -- the n classes from i on now are the rule's answers
  pub IsRewritten-block : (old now now1 : List BidiClass) (i n : ℕ) → IsRewritten rule old now i → i + n ≤ length old → take i now1 ≡ take i now → drop (i + n) now1 ≡ drop (i + n) old
      → length now1 ≡ length old → ((k : ℕ) → k < n → get_or now1 (i + k) L ≡ answer old (i + k)) → IsRewritten rule old now1 (i + n)
  IsRewritten-block old now now1 i n h room front rest long inside =
      record { front = ext_get_or L _ _ (grind (arith, length-take-le, length-in_context)) each; rest = rest; long = long }
    where
      at : (k : ℕ) → k < i + n → get_or now1 k L ≡ get_or (in_context rule [] old) k L
      at k below = elim (cases_lt k i) [
        | inl before ↦ grind (arith, get_or-take i now1 k L before, front, h.front, get_or-take i (in_context rule [] old) k L before)
        | inr after ↦
            let place : i + (k - i) ≡ k = omega arith in
            ap (λ (j : ℕ). get_or now1 j L) (sym place) ∙ inside (k - i) (omega arith) ∙ ap (answer old) place ∙ sym (answer_is old k (omega arith))
      ]

      each : (k : ℕ) → k < length (take (i + n) now1) → get_or (take (i + n) now1) k L ≡ get_or (take (i + n) (in_context rule [] old)) k L
      each k below = grind (arith, length-take-le, get_or-take, at)

  -- a block that was written over by one class
  pub IsRewritten-filled : (old now : List BidiClass) (i n m : ℕ) (y : BidiClass) → IsRewritten rule old now i → i + n ≤ length old → m ≡ n
      → ((k : ℕ) → k < n → answer old (i + k) ≡ y) → IsRewritten rule old (put_mid i m now (replicate n y)) (i + n)
  IsRewritten-filled old now i n m y h room same answers =
      let filled : length (replicate n y) ≡ n = length-replicate n y in
      let long : length now ≡ length old = h.long in
      let front = take-put_mid i m now (replicate n y) (i + n) (omega arith) (omega arith) in
      IsRewritten-block old now (put_mid i m now (replicate n y)) i n h room (take-put_mid_below i m now (replicate n y) i (omega arith) (omega arith))
      (drop-put_mid i m now (replicate n y) (i + n) (omega arith) (omega arith) (omega arith) ∙ drop_later now old i n h.rest)
      (grind (arith, length-append, length-take-le, length-drop))
      (λ k below. grind (arith, get_or-take (i + n) (put_mid i m now (replicate n y)) (i + k) L, front, get_or-append_right, length-take-le, get_or-replicate, answers k below))

  -- a block that stays
  pub IsRewritten-unchanged : (old now : List BidiClass) (i n : ℕ) → IsRewritten rule old now i → i + n ≤ length old → ((k : ℕ) → k < n → answer old (i + k) ≡ get_or old (i + k) L)
      → IsRewritten rule old now (i + n)
  IsRewritten-unchanged old now i n h room answers = grind (arith, IsRewritten-block, drop_later, read_later)

  -- past the end nothing is left to do
  pub IsRewritten-past : (old now : List BidiClass) (i j : ℕ) → length old ≤ i → i ≤ j → IsRewritten rule old now i → IsRewritten rule old now j
  IsRewritten-past old now i j past later h = grind (arith, IsRewritten-end, drop_all)
