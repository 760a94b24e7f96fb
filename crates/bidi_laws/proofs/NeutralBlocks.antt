-- N1 and N2 block by block.
use Rattle.bidi_base.proofs.Common.{◌≡◌, ℕ, suc, ◌+◌, ◌-◌, ◌<◌, ◌≤◌, true, cond, List, ◌∷◌, length, get_or, take, drop, replicate}
use Rattle.bidi_base.proofs.Common.{reverse, unwrap_or, sym, ap, subst, ◌∙◌, arith, inl, inr, cases_lt, drop_more}
use Rattle.bidi_base.proofs.Common.{drop_all, get_or_past, get_or_default, list_all_at, list_all, as_direction, has_direction, is_ni, is_weak_resolved, same_class, nearest_direction, n1_rule}
use Rattle.bidi_base.specs.declared.char_data.BidiClass.{BidiClass}
use Rattle.bidi_base.specs.declared.char_data.BidiClass.TheVariants.{L, ON}
use borrow.Rule.Slice.PartMut.{put_mid}
use Rattle.bidi_base.proofs.PlacesLemmas.{reverse-take_more}
use Rattle.bidi_laws.proofs.NeutralLemmas.{nearest_direction-more}
use Rattle.bidi_laws.proofs.InPlace.{IsRewritten, IsRewritten-keep}
use Rattle.bidi_laws.proofs.Blocks.{IsBlock, read_later, look-drop, look-take, answer, IsRewritten-filled, IsRewritten-past}

-- a neutral is looked past
pub past_neutral : (d c : BidiClass) (cs : List BidiClass) → is_ni c ≡ true → nearest_direction d (c ∷ cs) ≡ nearest_direction d cs
past_neutral d c cs e = grind arith

-- what neutrals between two directions take
abbrev pub common : BidiClass → BidiClass → BidiClass → BidiClass
common e left right = cond (same_class left right) left e

module _ (e sos eos : BidiClass) where
  -- the classes before `start` are done, and `left` is the direction before the next block of neutrals
  pub record IsAtNeutrals (old now : List BidiClass) (left : BidiClass) (start : ℕ) : Type 0 where
    pub rewritten : IsRewritten (n1_rule e sos eos) old now start
    pub is_left : start ≤ length old → left ≡ nearest_direction sos (reverse (take start old))

  module _ (old now : List BidiClass) (left right : BidiClass) (start n : ℕ) (resolved : list_all is_weak_resolved old ≡ true) (h : IsAtNeutrals old now left start) (fits : start ≤ length old)
      (block : IsBlock is_ni old start n) (next : right ≡ unwrap_or (as_direction (get_or now (start + n) ON)) eos) where
    -- the class after the block has a direction
    is_directed : start + n < length old → has_direction (get_or old (start + n) L) ≡ true
    is_directed more = grind (arith, block.behind more, list_all_at is_weak_resolved old (start + n) L more)

    -- at any default
    right_is : start + n < length old → (d : BidiClass) → right ≡ unwrap_or (as_direction (get_or old (start + n) L)) d
    right_is more d =
        let long : length now ≡ length old = h.rewritten.long in
        next ∙ simp (get_or_default now (start + n) ON L (omega arith), read_later now old start n h.rewritten.rest) (grind (arith, is_directed more))

    right_near : nearest_direction eos (drop (start + n) old) ≡ right
    right_near = elim (cases_lt (start + n) (length old)) [
      | inl more ↦
          simp (drop_more old (start + n) L more, nearest_direction-more) (sym (right_is more (nearest_direction eos (drop (start + n + 1) old))))
      | inr past ↦ grind (arith, get_or_past, drop_all)
    ]

    answers : (k : ℕ) → k < n → answer (n1_rule e sos eos) old (start + k) ≡ common e left right
    answers k below =
        let room = block.room in
        let place : start + k + 1 + (n - suc k) ≡ start + n = omega arith in
        let before : nearest_direction sos (reverse (take (start + k) old)) ≡ left =
        look-take is_ni (nearest_direction sos) (past_neutral sos) old start k (omega arith) (λ j less. block.inside j (omega arith)) ∙ sym (h.is_left fits)
        in
        let after : nearest_direction eos (drop (start + k + 1) old) ≡ right =
        look-drop is_ni (nearest_direction eos) (past_neutral eos) old (start + k + 1) (n - suc k) (omega arith)
        (λ j less. subst (λ (p : ℕ). is_ni (get_or old p L) ≡ true) (omega arith) (block.inside (k + 1 + j) (omega arith)))
        ∙ ap (λ (p : ℕ). nearest_direction eos (drop p old)) place ∙ right_near
        in
        simp (block.inside k below, before, after)

    behind : (now1 : List BidiClass) → IsRewritten (n1_rule e sos eos) old now1 (start + n) → IsAtNeutrals old now1 right (start + n + 1)
    behind now1 g = elim (cases_lt (start + n) (length old)) [
      | inl more ↦
          let x = get_or old (start + n) L in
          let before = reverse (take (start + n) old) in
          record {
            rewritten = IsRewritten-keep (n1_rule e sos eos) old now1 (start + n) L more (grind (arith, block.behind more)) g;
            is_left = λ fits. right_is more (nearest_direction sos before) ∙ sym (nearest_direction-more sos x before) ∙ ap (nearest_direction sos) (sym (reverse-take_more old (start + n) L more));
          }
      | inr past ↦ record { rewritten = IsRewritten-past (n1_rule e sos eos) old now1 (start + n) (start + n + 1) past (omega arith) g; is_left = λ fits. absurd (omega arith) }
    ]

    -- the block is filled with what its two sides give
    pub IsAtNeutrals-block : IsAtNeutrals old (put_mid start (start + n - start) now (replicate n (common e left right))) right (start + n + 1)
    IsAtNeutrals-block =
        let y = common e left right in
        let room : start + n ≤ length old = block.room in
        behind (put_mid start (start + n - start) now (replicate n y)) (IsRewritten-filled (n1_rule e sos eos) old now start n (start + n - start) y h.rewritten room (omega arith) answers)
