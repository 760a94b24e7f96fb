-- Repetition, rule by rule: W1 to W3, W5 to W7, N1 and N2 commute with it, and W4 does where it changes no item of
-- several units.
use Rattle.bidi_base.proofs.Common.{◌≡◌, ℕ, not, List, length, unwrap_or, refl, if◌then◌else◌, arith, as_direction, is_nsm, is_ni}
use Rattle.bidi_base.proofs.Common.{same_class, nearest, per_unit, carried, w1_rule, w1, nearest_direction, n1_rule, n1_n2}
use Rattle.bidi_base.specs.declared.char_data.BidiClass.{BidiClass}
use Rattle.bidi_base.specs.declared.char_data.BidiClass.TheVariants.{NSM}
use Rattle.bidi_laws.proofs.Repeated.{HaveUnits, IsUncounted, nearest_step, nearest-uncounted, commutes, commutes_before}

-- ---- the answers of the rules, by what they see before and after

abbrev w1_answer : BidiClass → BidiClass → BidiClass
w1_answer v NSM = carried v
w1_answer v c = c

abbrev n1_answer : BidiClass → BidiClass → BidiClass → BidiClass → BidiClass
n1_answer e v c w = if is_ni c then (if same_class v w then v else e) else c

-- the nearest direction, as N1 sees it
abbrev pub direction_step : BidiClass → BidiClass → BidiClass
direction_step c v = unwrap_or (as_direction c) v

pub nearest_direction-uncounted : (d : BidiClass) → IsUncounted direction_step (nearest_direction d)
nearest_direction-uncounted d = grind arith

-- ---- the rules that commute with repetition

module _ (len_of : ℕ → ℕ) (chars : List ℕ) (classes : List BidiClass) (some : HaveUnits len_of chars) (long : length classes ≡ length chars) where
  pub w1-per_unit : (sos : BidiClass) → w1 sos (per_unit len_of chars classes) ≡ per_unit len_of chars (w1 sos classes)
  w1-per_unit sos =
      commutes_before (w1_rule sos) (nearest_step (λ c. not (is_nsm c))) (λ xs. nearest (λ c. not (is_nsm c)) xs sos) w1_answer
      (nearest-uncounted (λ c. not (is_nsm c)) sos) (λ xs c ys. grind arith) (λ v c. grind arith) len_of chars classes some long

  pub n1_n2-per_unit : (e sos eos : BidiClass) → n1_n2 e sos eos (per_unit len_of chars classes) ≡ per_unit len_of chars (n1_n2 e sos eos classes)
  n1_n2-per_unit e sos eos =
      commutes (n1_rule e sos eos) direction_step (nearest_direction sos) direction_step (nearest_direction eos) (n1_answer e)
      (record { before = nearest_direction-uncounted sos; after = nearest_direction-uncounted eos; reads = λ xs c ys. refl }) (λ v c w. grind arith) len_of chars classes some long
