-- The pass from the front gives W1 to W7.
use Rattle.bidi_base.proofs.Common.{◌≡◌, ℕ, zero, suc, Bool, true, false, not, if◌then◌else◌, List, [], ◌∷◌, ◌++◌, replicate}
use Rattle.bidi_base.proofs.Common.{refl, sym, ap, ◌∙◌, append-nil, arith, rules, is_strong, is_nsm, is_et, is_en}
use Rattle.bidi_base.proofs.Common.{is_l, is_l_or_r, nearest, nearest_is, in_context, carried, w1_rule, w2_rule, w3_rule, w4_rule, w5_rule, w6_rule, w7_rule, w1, w3, w6, weak_classes}
use Rattle.bidi_base.specs.declared.char_data.BidiClass.{BidiClass}
use Rattle.bidi_base.specs.declared.char_data.BidiClass.TheVariants.{L, R, EN, ES, ET, AN, CS, ON}
use Rattle.bidi_rules.specs.declared.weak.before.Before.{Before}
use Rattle.bidi_rules.specs.declared.weak.before.Before.TheVariants.{Other, European, Arabic, Terminators, EuropeanSeparator, ArabicSeparator}
use Rattle.bidi_base.proofs.PlacesLemmas.{nearest-more}
use Rattle.bidi_rules.specs.WeakPass.{marked, after_w1, strengthened, strong_up_to, after_w3, waits, is_beside_european, w7_by, after_w7}

marked-is : (m sos x : BidiClass) (before after : List BidiClass) → m ≡ carried (nearest (λ c. not (is_nsm c)) before sos) → w1_rule sos before x after ≡ marked m x
marked-is m sos x before after h = grind arith

marked-next : (m sos x : BidiClass) (before : List BidiClass) → m ≡ carried (nearest (λ c. not (is_nsm c)) before sos) → carried (marked m x) ≡ carried (nearest (λ c. not (is_nsm c)) (x ∷ before) sos)
marked-next m sos x before h = grind arith

pub after_w1-is : (sos m : BidiClass) (before xs : List BidiClass) → m ≡ carried (nearest (λ c. not (is_nsm c)) before sos) → in_context (w1_rule sos) before xs ≡ after_w1 m xs
after_w1-is sos m before [] h = refl
after_w1-is sos m before (x ∷ xs) h =
    grind (arith, marked-is m sos x before xs, marked-next m sos x before, after_w1-is sos (carried (marked m x)) (x ∷ before) xs)

strengthened-is : (strong sos y : BidiClass) (before after : List BidiClass) → strong ≡ nearest is_strong before sos → w3_rule (w2_rule sos before y after) ≡ strengthened strong y
strengthened-is strong sos y before after h = grind arith

after_w3-is : (sos strong : BidiClass) (before ys : List BidiClass) → strong ≡ nearest is_strong before sos → w3 (in_context (w2_rule sos) before ys) ≡ after_w3 strong ys
after_w3-is sos strong before [] h = refl
after_w3-is sos strong before (y ∷ ys) h =
    grind (arith, strengthened-is strong sos y before ys, nearest-more, after_w3-is sos (strong_up_to strong y) (y ∷ before) ys)

-- W4 to W7
abbrev after_all : BidiClass → List BidiClass → List BidiClass → List BidiClass → List BidiClass → List BidiClass
after_all sos b4 b5 b7 zs = in_context (w7_rule sos) b7 (w6 (in_context w5_rule b5 (in_context w4_rule b4 zs)))

-- the number directly before, or else ON
abbrev number_before : List BidiClass → BidiClass
number_before (EN ∷ before) = EN
number_before (AN ∷ before) = AN
number_before _ = ON

abbrev number_of : Before → BidiClass
number_of European = EN
number_of Arabic = AN
number_of _ = ON

abbrev is_european : List BidiClass → Bool
is_european = nearest_is (λ c. not (is_et c)) is_en

-- what is known where nothing waits
record IsPassed (sos : BidiClass) (b4 b5 b7 : List BidiClass) (after_l : Bool) (before : Before) : Type 0 where
  number : number_before b4 ≡ number_of before
  beside : is_european b5 ≡ is_beside_european before
  left : after_l ≡ is_l (nearest is_l_or_r b7 sos)

-- the claim at the classes that are left
record IsRight (sos : BidiClass) (zs : List BidiClass) : Type 0 where
  ready : (before : Before) (b4 b5 b7 : List BidiClass) (after_l : Bool) → waits before ≡ false → IsPassed sos b4 b5 b7 after_l before
      → after_all sos b4 b5 b7 zs ≡ after_w7 after_l before 0 zs
  terminators : (n : ℕ) (b4 b5 b7 : List BidiClass) (after_l : Bool) → is_european b5 ≡ false → after_l ≡ is_l (nearest is_l_or_r b7 sos)
      → after_all sos b4 b5 b7 (ET ∷ (replicate n ET ++ zs)) ≡ after_w7 after_l Terminators (suc n) zs
  plus : (b4 b5 b7 : List BidiClass) (after_l : Bool) → after_l ≡ is_l (nearest is_l_or_r b7 sos)
      → after_all sos (EN ∷ b4) b5 b7 (ES ∷ zs) ≡ after_w7 after_l EuropeanSeparator 1 zs
  comma : (b4 b5 b7 : List BidiClass) (after_l : Bool) → after_l ≡ is_l (nearest is_l_or_r b7 sos)
      → after_all sos (EN ∷ b4) b5 b7 (CS ∷ zs) ≡ after_w7 after_l EuropeanSeparator 1 zs
  arabic : (b4 b5 b7 : List BidiClass) (after_l : Bool) → after_l ≡ is_l (nearest is_l_or_r b7 sos)
      → after_all sos (AN ∷ b4) b5 b7 (CS ∷ zs) ≡ after_w7 after_l ArabicSeparator 1 zs

is_european-terminators : (rest : List BidiClass) (d : Bool) → ((b : List BidiClass) → is_european (in_context w4_rule (ET ∷ b) rest) ≡ d)
    → (n : ℕ) (b : List BidiClass) → is_european (in_context w4_rule (ET ∷ b) (replicate n ET ++ rest)) ≡ d
is_european-terminators rest d h zero b = h b
is_european-terminators rest d h (suc n) b = is_european-terminators rest d h n (ET ∷ b)

-- a terminator by itself
w4-terminator : (before after : List BidiClass) → w4_rule before ET after ≡ ET
w4-terminator [] after = refl
w4-terminator (EN ∷ before) after = refl
w4-terminator (AN ∷ before) after = refl
w4-terminator (x ∷ before) after = refl

-- what it becomes, where it is beside a European number or not
abbrev beside : Bool → BidiClass
beside d = w6_rule (if d then EN else ET)

beside-passed : (d : Bool) (sos : BidiClass) (before : List BidiClass) → nearest is_l_or_r (beside d ∷ before) sos ≡ nearest is_l_or_r before sos
beside-passed true sos before = refl
beside-passed false sos before = refl

-- one terminator that no European number stands before
one-terminator : (sos : BidiClass) (after_l d : Bool) (b4 b5 b7 zs : List BidiClass) → is_european b5 ≡ false
    → is_european (in_context w4_rule (ET ∷ b4) zs) ≡ d → after_l ≡ is_l (nearest is_l_or_r b7 sos)
    → after_all sos b4 b5 b7 (ET ∷ zs) ≡ w7_by after_l (beside d) ∷ after_all sos (ET ∷ b4) (ET ∷ b5) (beside d ∷ b7) zs
one-terminator sos after_l true b4 b5 b7 zs none far left = simp (w4-terminator b4 zs, none, far, left)
one-terminator sos after_l false b4 b5 b7 zs none far left = simp (w4-terminator b4 zs, none, far, left)

-- a block of terminators that no European number stands before: what follows decides
terminators-behind : (sos : BidiClass) (after_l : Bool) (rest : List BidiClass) (d : Bool) → ((b : List BidiClass) → is_european (in_context w4_rule (ET ∷ b) rest) ≡ d) → (r : List BidiClass)
    → ((b4 b5 b7 : List BidiClass) → IsPassed sos b4 b5 b7 after_l Other → after_all sos b4 b5 b7 rest ≡ r)
    → (n : ℕ) (b4 b5 b7 : List BidiClass) → is_european b5 ≡ false → after_l ≡ is_l (nearest is_l_or_r b7 sos)
    → after_all sos b4 b5 b7 (ET ∷ (replicate n ET ++ rest)) ≡ replicate (suc n) (w7_by after_l (beside d)) ++ r
terminators-behind sos after_l rest d h r go zero b4 b5 b7 none left =
    one-terminator sos after_l d b4 b5 b7 rest none (h b4) left
    ∙ ap (λ (cs : List BidiClass). w7_by after_l (beside d) ∷ cs) (go (ET ∷ b4) (ET ∷ b5) (beside d ∷ b7) (record { number = refl; beside = none; left = left ∙ ap is_l (sym (beside-passed d sos b7)) }))
terminators-behind sos after_l rest d h r go (suc n) b4 b5 b7 none left =
    one-terminator sos after_l d b4 b5 b7 (replicate (suc n) ET ++ rest) none (is_european-terminators rest d h (suc n) b4) left
    ∙ ap (λ (cs : List BidiClass). w7_by after_l (beside d) ∷ cs) (terminators-behind sos after_l rest d h r go n (ET ∷ b4) (ET ∷ b5) (beside d ∷ b7) none (left ∙ ap is_l (sym (beside-passed d sos b7))))

pub replicate-onto : (c : BidiClass) (n : ℕ) (zs : List BidiClass) → replicate n c ++ (c ∷ zs) ≡ c ∷ (replicate n c ++ zs)
replicate-onto c zero zs = refl
replicate-onto c (suc n) zs = simp (replicate-onto c n zs)

-- a class that W4 to W6 leave alone
w4-plain : (before : List BidiClass) (c : BidiClass) (after : List BidiClass) → (c ≡ ES → ⊥) → (c ≡ CS → ⊥) → w4_rule before c after ≡ c
w4-plain before c after a b = grind arith

module _ (sos : BidiClass) (zs : List BidiClass) (next : IsRight sos zs) where
  ready-more : (z : BidiClass) (before : Before) (b4 b5 b7 : List BidiClass) (after_l : Bool) → waits before ≡ false → IsPassed sos b4 b5 b7 after_l before
      → after_all sos b4 b5 b7 (z ∷ zs) ≡ after_w7 after_l before 0 (z ∷ zs)
  ready-more ET before b4 b5 b7 after_l free h = grind (arith, next.terminators 0)
  ready-more EN before b4 b5 b7 after_l free h = grind arith
  ready-more AN before b4 b5 b7 after_l free h = grind arith
  ready-more ES before b4 b5 b7 after_l free h = grind arith
  ready-more CS before b4 b5 b7 after_l free h = grind arith
  ready-more L before b4 b5 b7 after_l free h = grind arith
  ready-more R before b4 b5 b7 after_l free h = grind arith
  ready-more z before b4 b5 b7 after_l free h =
      ap (λ (c : BidiClass). in_context (w7_rule sos) b7 (w6 (in_context w5_rule b5 (c ∷ in_context w4_rule (z ∷ b4) zs)))) (w4-plain b4 z zs (λ e. cc e) (λ e. cc e))
      ∙ ap (λ (cs : List BidiClass). z ∷ cs) (next.ready Other (z ∷ b4) (z ∷ b5) (z ∷ b7) after_l refl (record { number = refl; beside = refl; left = h.left }))

  -- after what waited, where it is not joined
  waiting_becomes-terminators : (n : ℕ) (after_l : Bool) (z : BidiClass) → is_et z ≡ false
      → replicate (suc n) (w7_by after_l (w6_rule (if is_en z then EN else ET))) ++ after_w7 after_l Other 0 (z ∷ zs) ≡ after_w7 after_l Terminators (suc n) (z ∷ zs)
  waiting_becomes-terminators n after_l z h = grind arith

  terminators-other : (z : BidiClass) → is_et z ≡ false → (n : ℕ) (b4 b5 b7 : List BidiClass) (after_l : Bool) → is_european b5 ≡ false → after_l ≡ is_l (nearest is_l_or_r b7 sos)
      → after_all sos b4 b5 b7 (ET ∷ (replicate n ET ++ (z ∷ zs))) ≡ after_w7 after_l Terminators (suc n) (z ∷ zs)
  terminators-other z other n b4 b5 b7 after_l none left =
      terminators-behind sos after_l (z ∷ zs) (is_en z) (λ b. grind arith) _ (λ c4 c5 c7. ready-more z Other c4 c5 c7 after_l refl) n b4 b5 b7 none left
      ∙ waiting_becomes-terminators n after_l z other

  terminators-more : (z : BidiClass) (n : ℕ) (b4 b5 b7 : List BidiClass) (after_l : Bool) → is_european b5 ≡ false → after_l ≡ is_l (nearest is_l_or_r b7 sos)
      → after_all sos b4 b5 b7 (ET ∷ (replicate n ET ++ (z ∷ zs))) ≡ after_w7 after_l Terminators (suc n) (z ∷ zs)
  terminators-more ET n b4 b5 b7 after_l none left = simp (replicate-onto ET n zs) (next.terminators (suc n) b4 b5 b7 after_l none left)
  terminators-more z n b4 b5 b7 after_l none left = terminators-other z refl n b4 b5 b7 after_l none left

  right-more : (z : BidiClass) → IsRight sos (z ∷ zs)
  right-more z = record {
    ready = ready-more z;
    terminators = terminators-more z;
    plus = λ b4 b5 b7. grind (arith, ready-more z Other);
    comma = grind (arith, ready-more z Other);
    arabic = grind (arith, ready-more z Other);
  }

terminators-end : (sos : BidiClass) (n : ℕ) (b4 b5 b7 : List BidiClass) (after_l : Bool) → is_european b5 ≡ false → after_l ≡ is_l (nearest is_l_or_r b7 sos)
    → after_all sos b4 b5 b7 (ET ∷ (replicate n ET ++ [])) ≡ after_w7 after_l Terminators (suc n) []
terminators-end sos n b4 b5 b7 after_l none left =
    terminators-behind sos after_l [] false (λ b. refl) [] (λ c4 c5 c7 p. refl) n b4 b5 b7 none left ∙ append-nil (replicate (suc n) ON)

is_right : (sos : BidiClass) (zs : List BidiClass) → IsRight sos zs
is_right sos [] = search (rules, terminators-end)
is_right sos (z ∷ zs) = right-more sos zs (is_right sos zs) z

-- W2 to W7 in one pass, after W1
pub weak_classes-pass : (sos : BidiClass) (xs : List BidiClass) → weak_classes sos xs ≡ after_w7 (is_l sos) Other 0 (after_w3 sos (w1 sos xs))
unfolding weak_classes
weak_classes-pass sos xs =
    simp (← after_w3-is sos sos [] (w1 sos xs) refl) ((is_right sos (w3 (in_context (w2_rule sos) [] (w1 sos xs)))).ready Other [] [] [] (is_l sos) refl (record { number = refl; beside = refl; left = refl }))
