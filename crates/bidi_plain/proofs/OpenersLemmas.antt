-- Isolates among the openers that are open, by their number.
use Rattle.bidi_base.proofs.Common.{◌≡◌, ℕ, ◌+◌, ◌<◌, true, false, cond, List, [], ◌∷◌, count_by, refl, arith, list_any, sum_by-cons, is_isolate_initiator, outside_isolate, left_open}
use Rattle.bidi_base.specs.declared.char_data.BidiClass.{BidiClass}
use Rattle.bidi_base.specs.declared.char_data.BidiClass.TheVariants.{PDI}

abbrev pub isolates_in : List BidiClass → ℕ
isolates_in openers = count_by is_isolate_initiator openers

count_more : (c : BidiClass) (openers : List BidiClass) → isolates_in (c ∷ openers) ≡ cond (is_isolate_initiator c) 1 0 + isolates_in openers
count_more c openers = sum_by-cons (λ x. cond (is_isolate_initiator x) 1 0) c openers

-- outside the innermost isolate there is one isolate fewer
pub isolates_in-outside : (openers : List BidiClass) → 0 < isolates_in openers → isolates_in openers ≡ isolates_in (outside_isolate openers) + 1
isolates_in-outside [] some = absurd (omega arith)
isolates_in-outside (c ∷ openers) some = grind (arith, count_more, isolates_in-outside openers)

any_some : (openers : List BidiClass) → 0 < isolates_in openers → list_any is_isolate_initiator openers ≡ true
any_some [] some = absurd (omega arith)
any_some (c ∷ openers) some = grind (arith, count_more, any_some openers)

any_none : (openers : List BidiClass) → isolates_in openers ≡ 0 → list_any is_isolate_initiator openers ≡ false
any_none [] none = refl
any_none (c ∷ openers) none = grind (arith, count_more, any_none openers)

-- a PDI closes an isolate where one is open
pub left_open-pdi : (c : BidiClass) (openers : List BidiClass) → c ≡ PDI → 0 < isolates_in openers → left_open c openers ≡ outside_isolate openers
left_open-pdi c openers e some = simp (e, any_some openers some)

pub left_open-unmatched : (c : BidiClass) (openers : List BidiClass) → c ≡ PDI → isolates_in openers ≡ 0 → left_open c openers ≡ openers
left_open-unmatched c openers e none = simp (e, any_none openers none)
