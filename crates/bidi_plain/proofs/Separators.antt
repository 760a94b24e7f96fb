-- W4 from the front, where the class before is read as the pass has left it.
use Rattle.bidi_base.proofs.Common.{◌≡◌, ℕ, ◌+◌, ◌-◌, ◌<◌, ◌≤◌, List, [], ◌∷◌, length, get_or, take, drop, set, reverse, sym, ◌∙◌, arith, drop_more, drop_all, in_context, w4_rule, get_or-take}
use Rattle.bidi_base.specs.declared.char_data.BidiClass.{BidiClass}
use Rattle.bidi_base.specs.declared.char_data.BidiClass.TheVariants.{L}
use Rattle.bidi_base.proofs.PlacesLemmas.{reverse-take_more}
use Rattle.bidi_laws.proofs.InPlace.{IsRewritten, IsRewritten-read, IsRewritten-write, IsRewritten-keep, IsRewritten-end}
use Rattle.bidi_laws.proofs.Blocks.{answer_is, read_later}

-- the rule reads one class on each side, and that before as it was or as it is
read_before : (bs : List BidiClass) (b c : BidiClass) (cs : List BidiClass) (a : BidiClass) (as' : List BidiClass) → w4_rule (w4_rule bs b (c ∷ cs) ∷ []) c (a ∷ []) ≡ w4_rule (b ∷ bs) c (a ∷ as')
read_before bs b c cs a as' = grind arith

alone : (bs : List BidiClass) (c : BidiClass) → w4_rule bs c [] ≡ c
alone bs c = grind arith

module _ (old now : List BidiClass) where
  pub separator_step : (i : ℕ) (y : BidiClass) → 1 ≤ i → i + 1 < length old → IsRewritten w4_rule old now i
      → y ≡ w4_rule (get_or now (i - 1) L ∷ []) (get_or now i L) (get_or now (i + 1) L ∷ []) → IsRewritten w4_rule old (set now i y) (i + 1)
  separator_step i y from inside h is =
      let b = get_or old (i - 1) L in
      let c = get_or old i L in
      let a = get_or old (i + 1) L in
      let bs = reverse (take (i - 1) old) in
      let place : i - 1 + 1 ≡ i = omega arith in
      let here : get_or now i L ≡ c = IsRewritten-read w4_rule old now i L h in
      let next : get_or now (i + 1) L ≡ a = read_later now old i 1 h.rest in
      let before : get_or now (i - 1) L ≡ w4_rule bs b (c ∷ drop (i + 1) old) =
      sym (get_or-take i now (i - 1) L (omega arith))
      ∙ simp (h.front, get_or-take i (in_context w4_rule [] old) (i - 1) L (omega arith), answer_is w4_rule old (i - 1) (omega arith), place, drop_more old i L (omega arith))
      in
      let left : reverse (take i old) ≡ b ∷ bs = rw place at (reverse-take_more old (i - 1) L (omega arith)) in
      let right : drop (i + 1) old ≡ a ∷ drop (i + 1 + 1) old = drop_more old (i + 1) L inside in
      IsRewritten-write w4_rule old now i y L (omega arith)
      (cc (is, before, here, next, read_before bs b c (drop (i + 1) old) a (drop (i + 1 + 1) old), left, right)) h

  -- the last class has none after it
  pub separators_end : (i : ℕ) → length old ≤ i + 1 → IsRewritten w4_rule old now i → now ≡ in_context w4_rule [] old
  separators_end i past h = grind (arith, IsRewritten-end, IsRewritten-keep w4_rule old now i L, alone, drop_all)
