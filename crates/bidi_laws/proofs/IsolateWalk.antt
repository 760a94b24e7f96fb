-- Isolates in one walk from the front, which counts those that are open: the matching PDI (BD9), the deciding character
-- (P2), and what an FSI becomes (X5c).
use Rattle.bidi_base.proofs.Common.{◌≡◌, ℕ, zero, suc, ◌+◌, ◌-◌, ◌<◌, ◌≤◌, Bool, true, false, not, ◌&&◌, ◌||◌, cond, List, [], ◌∷◌, ◌++◌, length, take, drop, map, find, Option, Some, None}
use Rattle.bidi_base.proofs.Common.{unwrap_or, option_map, refl, ap, ◌∙◌, arith, inl, inr, lt-ltb, le-ltb, length-drop, range_with_len, list_any, take_more, cases_Bool, is_strong, class_at}
use Rattle.bidi_base.proofs.Common.{count_between, is_closed_at, is_before, match_of, is_isolate_initiator_at, is_pdi_at, is_isolate_initiator, is_pdi, matching_pdi, is_inside, is_isolated, deciding_class}
use Rattle.bidi_base.proofs.Common.{isolated_classes, resolved_fsi, stored_class, stored_classes, get_or-drop}
use Rattle.bidi_base.specs.declared.char_data.BidiClass.{BidiClass}
use Rattle.bidi_base.specs.declared.char_data.BidiClass.TheVariants.{L, LRI, RLI, FSI, PDI}
use Rattle.std.proofs.Math.Seq.{take-nil}
use Rattle.bidi_laws.proofs.MatchingLemmas.{count_between-more, count_between-none}

-- what a character does to the number of open isolates
pub data Kind : Type 0 where
  opening : Kind
  closing : Kind
  neither : Kind

abbrev pub opens_one : Kind → Bool
opens_one opening = true
opens_one _ = false

abbrev pub closes_one : Kind → Bool
closes_one closing = true
closes_one _ = false

unfoldable pub kind_of : BidiClass → Kind
kind_of LRI = opening
kind_of RLI = opening
kind_of FSI = opening
kind_of PDI = closing
kind_of _ = neither

-- what the tests of a class say of its kind
pub initiator-kind : (c : BidiClass) → is_isolate_initiator c ≡ opens_one (kind_of c)
unfolding kind_of
initiator-kind c = grind arith

pub pdi-kind : (c : BidiClass) → is_pdi c ≡ closes_one (kind_of c)
unfolding kind_of
pdi-kind c = grind arith

pub strong-neither : (c : BidiClass) → is_strong c ≡ true → kind_of c ≡ neither
unfolding kind_of
strong-neither c h = grind arith

-- the number of open isolates after a character, where d are open before it
abbrev pub depth_by : Kind → ℕ → ℕ
depth_by opening d = suc d
depth_by closing zero = zero
depth_by closing (suc d) = d
depth_by neither d = d

-- and after some characters
abbrev pub depth_after : ℕ → List BidiClass → ℕ
depth_after d [] = d
depth_after d (c ∷ cs) = depth_after (depth_by (kind_of c) d) cs

abbrev pub is_zero : ℕ → Bool
is_zero zero = true
is_zero (suc n) = false

-- the character is a PDI that no open isolate awaits
abbrev pub ends_by : Kind → ℕ → Bool
ends_by closing d = is_zero d
ends_by _ d = false

-- some character is
abbrev pub has_end : ℕ → List BidiClass → Bool
has_end d [] = false
has_end d (c ∷ cs) = ends_by (kind_of c) d || has_end (depth_by (kind_of c) d) cs

-- the index of the first that is, where the first character has index p
abbrev pub end_from : ℕ → ℕ → List BidiClass → Option ℕ
end_from d p [] = None
end_from d p (c ∷ cs) = cond (ends_by (kind_of c) d) (Some p) (end_from (depth_by (kind_of c) d) (suc p) cs)

-- the first strong character at which no isolate is open
abbrev pub deciding_from : ℕ → List BidiClass → Option BidiClass
deciding_from d [] = None
deciding_from d (c ∷ cs) = cond (is_strong c && is_zero d) (Some c) (deciding_from (depth_by (kind_of c) d) cs)

-- the same before the first PDI that no open isolate awaits
abbrev pub resolving_from : ℕ → List BidiClass → Option BidiClass
resolving_from d [] = None
resolving_from d (c ∷ cs) = cond (ends_by (kind_of c) d) None (cond (is_strong c && is_zero d) (Some c) (resolving_from (depth_by (kind_of c) d) cs))

-- a class with an FSI resolved by the deciding character inside it
abbrev pub stored_by : BidiClass → Option BidiClass → BidiClass
stored_by FSI deciding = resolved_fsi deciding
stored_by c deciding = c

abbrev pub stored_from : List BidiClass → List BidiClass
stored_from [] = []
stored_from (c ∷ cs) = stored_by c (resolving_from 0 cs) ∷ stored_from cs

-- ---- what is left of a list at an index

record IsAt (xs : List BidiClass) (p : ℕ) (x : BidiClass) (rest : List BidiClass) : Type 0 where
  is : class_at xs p ≡ x
  next : drop (p + 1) xs ≡ rest

at_front : (xs : List BidiClass) (p : ℕ) (x : BidiClass) (rest : List BidiClass) → drop p xs ≡ x ∷ rest → IsAt xs p x rest
at_front [] p x rest e = grind (arith, length-drop {A = BidiClass} p [])
at_front (y ∷ xs) zero x rest e = record { is = cc; next = cc }
at_front (y ∷ xs) (suc p) x rest e = grind (arith, at_front xs p x rest e)

-- ---- the matching PDI

-- of the indexes after q and below p, d more open than close
record IsUnder (classes : List BidiClass) (q p d : ℕ) : Type 0 where
  later : q < p
  counts : count_between (is_isolate_initiator_at classes) (q + 1) p ≡ count_between (is_pdi_at classes) (q + 1) p + d

find_end : (classes : List BidiClass) (q p d : ℕ) (rest : List BidiClass) → drop p classes ≡ rest → IsUnder classes q p d
    → find (is_closed_at (is_isolate_initiator_at classes) (is_pdi_at classes) q) (range_with_len p (length rest)) ≡ end_from d p rest
find_end classes q p d [] e h = refl
find_end classes q p d (x ∷ rest) e h =
    grind (arith, at_front classes p x rest e, count_between-more, initiator-kind x, pdi-kind x, find_end classes q (p + 1) (depth_by (kind_of x) d) rest)

-- the match of q is the first PDI after q that no open isolate awaits
pub matching_pdi-end_from : (classes : List BidiClass) (q : ℕ) → matching_pdi classes q ≡ end_from 0 (q + 1) (drop (q + 1) classes)
unfolding matching_pdi match_of
matching_pdi-end_from classes q =
    grind (arith, count_between-none, length-drop (q + 1) classes, find_end classes q (q + 1) 0 (drop (q + 1) classes) refl)

-- ---- what is in an isolate

-- a walk that starts later finds only later ends
end_from-from : (d u k : ℕ) (xs : List BidiClass) → end_from d u xs ≡ Some k → u ≤ k
end_from-from d u k [] e = absurd (cc e)
end_from-from d u k (x ∷ xs) e = grind (arith, end_from-from (depth_by (kind_of x) d) (suc u) k xs)

-- the index u + n is before the first end exactly if there is no end up to it
before_end : (d u n : ℕ) (xs : List BidiClass) → is_before (u + n) (end_from d u xs) ≡ not (has_end d (take (suc n) xs))
before_end d u n [] = refl
before_end d u zero (x ∷ xs) = grind (arith, end_from-from)
before_end d u (suc n) (x ∷ xs) = grind (arith, before_end (depth_by (kind_of x) d) (suc u) n xs)

-- the characters read leave an isolate open
abbrev pub is_open_after : List BidiClass → Bool
is_open_after [] = false
is_open_after (c ∷ cs) = (opens_one (kind_of c) && not (has_end 0 cs)) || is_open_after cs

-- how an end is found in characters that were read one by one
pub depth_after-append : (d : ℕ) (xs ys : List BidiClass) → depth_after d (xs ++ ys) ≡ depth_after (depth_after d xs) ys
depth_after-append d [] ys = refl
depth_after-append d (x ∷ xs) ys = depth_after-append (depth_by (kind_of x) d) xs ys

pub has_end-append : (d : ℕ) (xs ys : List BidiClass) → has_end d (xs ++ ys) ≡ (has_end d xs || has_end (depth_after d xs) ys)
has_end-append d [] ys = refl
has_end-append d (x ∷ xs) ys = grind (arith, has_end-append (depth_by (kind_of x) d) xs ys)

-- one more open isolate stays open until the first end
pub depth_after-deeper : (d : ℕ) (xs : List BidiClass) → depth_after (suc d) xs ≡ cond (has_end d xs) (depth_after d xs) (suc (depth_after d xs))
depth_after-deeper d [] = refl
depth_after-deeper d (x ∷ xs) = grind (arith, depth_after-deeper (depth_by (kind_of x) d) xs)

-- an isolate is open exactly if their number is not zero
pub is_open_after-depth : (xs : List BidiClass) → is_open_after xs ≡ not (is_zero (depth_after 0 xs))
is_open_after-depth [] = refl
is_open_after-depth (x ∷ xs) = grind (arith, is_open_after-depth xs, depth_after-deeper 0 xs)

-- a character that closes nothing is no end
has_end-more : (d k : ℕ) (xs : List BidiClass) → k < length xs → kind_of (class_at xs k) ≡ neither → has_end d (take (suc k) xs) ≡ has_end d (take k xs)
has_end-more d k xs within other = grind (arith, take_more xs k L within, has_end-append, other)

none_inside : (classes : List BidiClass) (p s n : ℕ) → p ≤ s → list_any (λ q. is_inside classes q p) (range_with_len s n) ≡ false
unfolding is_inside
none_inside classes p s zero order = refl
none_inside classes p s (suc n) order = grind (arith, le-ltb s p order, none_inside classes p (s + 1) n)

-- the isolates round p that begin at s or later
some_inside : (classes : List BidiClass) (p s k : ℕ) (rest : List BidiClass) → drop s classes ≡ rest → s + k ≡ p → k < length rest → kind_of (class_at classes p) ≡ neither
    → list_any (λ q. is_inside classes q p) (range_with_len s (length rest)) ≡ is_open_after (take k rest)
unfolding is_inside
some_inside classes p s zero rest e place within other = none_inside classes p s (length rest) (omega arith)
some_inside classes p s (suc k) [] e place within other = absurd (omega arith)
some_inside classes p s (suc k) (x ∷ rest) e place within other =
    grind (
      arith,
      at_front classes s x rest e,
      initiator-kind x,
      get_or-drop,
      matching_pdi-end_from,
      before_end,
      has_end-more,
      lt-ltb s p,
      some_inside classes p (s + 1) k rest,
    )

-- a character that neither opens nor closes stands in an isolate exactly if one is open there
pub is_isolated-depth : (classes : List BidiClass) (p : ℕ) → p < length classes → kind_of (class_at classes p) ≡ neither → is_isolated classes p ≡ not (is_zero (depth_after 0 (take p classes)))
unfolding is_isolated
is_isolated-depth classes p within other = some_inside classes p 0 p classes refl (omega arith) within other ∙ is_open_after-depth (take p classes)

-- ---- the deciding character (P2)

not_not : (b : Bool) → not (not b) ≡ b
not_not true = refl
not_not false = refl

-- a search takes what is first, or goes on
find_step : (test : ℕ → Bool) (f : ℕ → BidiClass) (p n : ℕ) (b : Bool) (c : BidiClass) (later : Option BidiClass) → test p ≡ b → f p ≡ c → option_map f (find test (range_with_len (p + 1) n)) ≡ later
    → option_map f (find test (range_with_len p (suc n))) ≡ cond b (Some c) later
find_step test f p n true c later here is on = grind arith
find_step test f p n false c later here is on = grind arith

find_deciding : (classes : List BidiClass) (p : ℕ) (rest : List BidiClass) → drop p classes ≡ rest
    → option_map (class_at classes) (find (λ k. is_strong (class_at classes k) && not (is_isolated classes k)) (range_with_len p (length rest))) ≡ deciding_from (depth_after 0 (take p classes)) rest
find_deciding classes p [] e = refl
find_deciding classes p (x ∷ rest) e =
    let at = at_front classes p x rest e in
    let d = depth_after 0 (take p classes) in
    let within : p < length classes = grind (arith, length-drop p classes) in
    let here : (is_strong (class_at classes p) && not (is_isolated classes p)) ≡ (is_strong x && is_zero d) = elim (cases_Bool (is_strong x)) [
      | inl strong ↦ simp (at.is, strong, is_isolated-depth classes p within (ap kind_of at.is ∙ strong-neither x strong)) (not_not (is_zero d))
      | inr weak ↦ simp (at.is, weak)
    ] in
    let deeper : depth_after 0 (take (p + 1) classes) ≡ depth_by (kind_of x) d =
    ap (depth_after 0) (take_more classes p L within) ∙ depth_after-append 0 (take p classes) (class_at classes p ∷ []) ∙ ap (λ c. depth_by (kind_of c) d) at.is in
    find_step (λ k. is_strong (class_at classes k) && not (is_isolated classes k)) (class_at classes) p (length rest) (is_strong x && is_zero d) x _ here at.is
    (find_deciding classes (p + 1) rest at.next ∙ ap (λ n. deciding_from n rest) deeper)

-- the deciding character is found in one walk
pub deciding_class-from : (classes : List BidiClass) → deciding_class classes ≡ deciding_from 0 classes
unfolding deciding_class
deciding_class-from classes = find_deciding classes 0 classes refl

-- ---- what an FSI becomes (X5c)

-- the deciding character of what is before the first end
resolved : (d u n : ℕ) (xs : List BidiClass) → u + length xs ≤ n → deciding_from d (take (unwrap_or (end_from d u xs) n - u) xs) ≡ resolving_from d xs
resolved d u n [] fits = grind (arith, take-nil)
resolved d u n (x ∷ xs) fits = elim (cases_Bool (ends_by (kind_of x) d)) [
  | inl ends ↦ let none : u - u ≡ 0 = omega arith in rw (ends, none) refl
  | inr on ↦
      let more : unwrap_or (end_from (depth_by (kind_of x) d) (suc u) xs) n - u ≡ suc (unwrap_or (end_from (depth_by (kind_of x) d) (suc u) xs) n - suc u) =
      grind (arith, end_from-from) in
      rw (on, more, resolved (depth_by (kind_of x) d) (suc u) n xs (omega arith)) refl
]

pub deciding_class-isolated : (classes : List BidiClass) (q : ℕ) → q < length classes → deciding_class (isolated_classes classes q) ≡ resolving_from 0 (drop (q + 1) classes)
unfolding isolated_classes
deciding_class-isolated classes q within = grind (arith, deciding_class-from, matching_pdi-end_from, resolved, length-drop)

stored_class-by : (classes : List BidiClass) (q : ℕ) (c : BidiClass) → stored_class classes q c ≡ stored_by c (deciding_class (isolated_classes classes q))
stored_class-by classes q c = grind arith

all_stored : (classes : List BidiClass) (p : ℕ) (rest : List BidiClass) → drop p classes ≡ rest
    → map (λ q. stored_class classes q (class_at classes q)) (range_with_len p (length rest)) ≡ stored_from rest
all_stored classes p [] e = refl
all_stored classes p (x ∷ rest) e = grind (
  arith,
  at_front classes p x rest e,
  stored_class-by classes p x,
  deciding_class-isolated classes p,
  length-drop p classes,
  all_stored classes (p + 1) rest,
)

-- what a class is stored as depends on what follows it alone
pub stored_classes-from : (classes : List BidiClass) → stored_classes classes ≡ stored_from classes
unfolding stored_classes
stored_classes-from classes = all_stored classes 0 classes refl
