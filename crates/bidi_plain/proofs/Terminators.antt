-- W5 block by block.
use Rattle.bidi_base.proofs.Common.{◌≡◌, ℕ, suc, ◌+◌, ◌-◌, ◌<◌, ◌≤◌, Bool, true, false, not, ◌||◌, cond, List, ◌∷◌, length, get_or, take, drop, replicate, reverse, ap, subst}
use Rattle.bidi_base.proofs.Common.{◌∙◌, arith, inl, inr, cases_lt, drop_more, drop_all, get_or_past, prefix_len, is_et, is_en, class_at, nearest_is, w5_rule}
use borrow.Rule.Slice.PartMut.{put_mid}
use Rattle.bidi_base.specs.declared.char_data.BidiClass.{BidiClass}
use Rattle.bidi_base.specs.declared.char_data.BidiClass.TheVariants.{L, EN, ET}
use Rattle.bidi_base.proofs.PlacesLemmas.{reverse-take_more}
use Rattle.bidi_laws.proofs.InPlace.{IsRewritten, IsRewritten-keep}
use Rattle.bidi_laws.proofs.Blocks.{IsBlock, look-drop, look-take, answer, IsRewritten-filled, IsRewritten-unchanged, IsRewritten-past, IsBlock-counted, length-part, read_later}

-- past the terminators a European number is next
abbrev pub is_number_next : List BidiClass → Bool
is_number_next = nearest_is (λ c. not (is_et c)) is_en

passes : (c : BidiClass) (cs : List BidiClass) → is_et c ≡ true → is_number_next (c ∷ cs) ≡ is_number_next cs
passes c cs e = grind arith

stops : (c : BidiClass) (cs : List BidiClass) → is_et c ≡ false → is_number_next (c ∷ cs) ≡ is_en c
stops c cs e = grind arith

is_et-ET : (c : BidiClass) → is_et c ≡ true → c ≡ ET
is_et-ET c e = grind arith

w5_rule-ET : (before : List BidiClass) (c : BidiClass) (after : List BidiClass) → is_et c ≡ true → w5_rule before c after ≡ cond (is_number_next before || is_number_next after) EN ET
w5_rule-ET before c after e = grind arith

w5_rule-other : (before : List BidiClass) (c : BidiClass) (after : List BidiClass) → is_et c ≡ false → c ≡ w5_rule before c after
w5_rule-other before c after e = grind arith

-- the classes before `start` are done, and `after_number` says whether a European number stands before the next block
-- of terminators
pub record IsAtBlock (old now : List BidiClass) (after_number : Bool) (start : ℕ) : Type 0 where
  pub rewritten : IsRewritten w5_rule old now start
  pub number : start ≤ length old → after_number ≡ is_number_next (reverse (take start old))

module _ (old : List BidiClass) (start n : ℕ) (block : IsBlock is_et old start n) where
  before_number_is : is_en (class_at old (start + n)) ≡ is_number_next (drop (start + n) old)
  before_number_is = grind (arith, drop_more, stops, get_or_past, drop_all)

  -- what each terminator of the block becomes
  answers : (after_number : Bool) → after_number ≡ is_number_next (reverse (take start old)) → (k : ℕ) → k < n
      → answer w5_rule old (start + k) ≡ cond (after_number || is_en (class_at old (start + n))) EN ET
  answers after_number number k below =
      let place : start + k + 1 + (n - suc k) ≡ start + n = omega (arith, block.room) in
      let before = look-take is_et is_number_next passes old start k (omega (arith, block.room)) (λ j less. block.inside j (omega arith)) in
      let after = look-drop is_et is_number_next passes old (start + k + 1) (n - suc k) (omega (arith, block.room))
      (λ j less. subst (λ (p : ℕ). is_et (get_or old p L) ≡ true) (omega arith) (block.inside (k + 1 + j) (omega arith))) in
      simp (w5_rule-ET (reverse (take (start + k) old)) (get_or old (start + k) L) (drop (start + k + 1) old) (block.inside k below), before, number, after, place, before_number_is)

  -- the class after the block
  behind : (now : List BidiClass) → IsRewritten w5_rule old now (start + n) → IsAtBlock old now (is_en (class_at old (start + n))) (start + n + 1)
  behind now h = elim (cases_lt (start + n) (length old)) [
    | inl more ↦ grind (arith, IsRewritten-keep w5_rule old now (start + n) L more, block.behind more, w5_rule-other, stops, reverse-take_more old (start + n) L more)
    | inr past ↦ grind (arith, IsRewritten-past w5_rule old now (start + n) (start + n + 1) past)
  ]

  pub IsAtBlock-filled : (now : List BidiClass) (after_number : Bool) (m : ℕ) → IsAtBlock old now after_number start → m ≡ n → (after_number || is_en (class_at old (start + n))) ≡ true
      → IsAtBlock old (put_mid start m now (replicate n EN)) (is_en (class_at old (start + n))) (start + n + 1)
  IsAtBlock-filled now after_number m h same beside = grind (arith, behind (put_mid start m now (replicate n EN)), IsRewritten-filled w5_rule old now start n m EN, answers after_number)

  pub IsAtBlock-kept : (now : List BidiClass) (after_number : Bool) → IsAtBlock old now after_number start → (after_number || is_en (class_at old (start + n))) ≡ false
      → IsAtBlock old now (is_en (class_at old (start + n))) (start + n + 1)
  IsAtBlock-kept now after_number h alone = grind (arith, behind now, IsRewritten-unchanged w5_rule old now start n, answers after_number, is_et-ET)

-- the same two steps as the pass makes them, which counts the block and reads after it in the slice as it is now
module _ (old now : List BidiClass) (after_number before_number : Bool) (start n : ℕ) (h : IsAtBlock old now after_number start) (fits : start ≤ length old)
    (counted : n ≡ prefix_len is_et (take (length now - start) (drop start now))) (next : before_number ≡ is_en (class_at now (start + n))) where
  block : IsBlock is_et old start n
  block = IsBlock-counted is_et old now start n fits h.rewritten.rest counted

  next_is : before_number ≡ is_en (class_at old (start + n))
  next_is = next ∙ ap is_en (read_later now old start n h.rewritten.rest)

  pub step-filled : (ys : List BidiClass) → (after_number || before_number) ≡ true → ys ≡ replicate (length (take (start + n - start) (drop start now))) EN
      → IsAtBlock old (put_mid start (start + n - start) now ys) before_number (start + n + 1)
  step-filled ys beside filled =
      let h0 = IsAtBlock-filled old start n block now after_number (start + n - start) h (omega arith) (rw next_is at beside) in
      simp (filled, length-part now start n (omega (arith, block.room, h.rewritten.long)), next_is) h0

  pub step-kept : (after_number || before_number) ≡ false → IsAtBlock old now before_number (start + n + 1)
  step-kept alone = rw next_is (IsAtBlock-kept old start n block now after_number h (rw next_is at alone))
