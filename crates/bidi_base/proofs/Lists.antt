-- Facts on lists and searches that several files use.
use Rattle.bidi_base.proofs.Common.{◌≡◌, ℕ, zero, suc, ◌+◌, ◌-◌, ◌<◌, ◌≤◌, Bool, true, false, cond, ◌&&◌, List, [], ◌∷◌, ◌++◌, length, map, get_or, take, drop, reverse, filter_map, find, Option}
use Rattle.bidi_base.proofs.Common.{Some, None, option_map, refl, sym, ap, ◌∙◌, arith, ◌⊎◌, inl, inr, append-nil, length-append, length-drop, list_all, option_or, cases_Bool, and_parts}
use Rattle.bidi_base.proofs.Common.{reverse-append, reverse-reverse, take-append-le, take_all, length-take-le, get_or-append_right, length-replicate, filter-append, last_or, filter, replicate}
use Rattle.bidi_base.proofs.Common.{get_or-drop}
use mathlib.Core.List.{reverse_aux}
use borrow.Rule.Slice.PartMut.{put_mid}

-- the two cases of an option, with what it is
pub cases_Option : {X : Type 0} (o : Option X) → (o ≡ None) ⊎ ((x : X) × (o ≡ Some x))
cases_Option None = inl refl
cases_Option (Some x) = inr (x, refl)

pub option_or-None : {X : Type 0} (o : Option X) → option_or o None ≡ o
option_or-None o = grind arith

-- a test that either choice passes
pub chosen : {X : Type 0} (p : X → Bool) (b : Bool) (x y : X) → p x ≡ true → p y ≡ true → p (cond b x y) ≡ true
chosen p b x y h k = grind arith

-- ---- a test of each element

pub list_all-take : {X : Type 0} (p : X → Bool) (n : ℕ) (xs : List X) → list_all p xs ≡ true → list_all p (take n xs) ≡ true
list_all-take p zero xs h = refl
list_all-take p (suc n) [] h = refl
list_all-take p (suc n) (x ∷ xs) h = grind (arith, list_all-take p n xs)

pub list_all-drop : {X : Type 0} (p : X → Bool) (n : ℕ) (xs : List X) → list_all p xs ≡ true → list_all p (drop n xs) ≡ true
list_all-drop p zero xs h = h
list_all-drop p (suc n) [] h = refl
list_all-drop p (suc n) (x ∷ xs) h = list_all-drop p n xs (and_parts _ _ h).1

-- ---- the last element, and the first of the reverse

split_last : {X : Type 0} (xs : List X) (v : X) (vs : List X) → reverse xs ≡ v ∷ vs → xs ≡ reverse vs ++ v ∷ []
split_last xs v vs e = sym (reverse-reverse xs) ∙ ap reverse e ∙ reverse-append (v ∷ []) vs

pub reverse_front : {X : Type 0} (xs : List X) (v : X) (vs : List X) → reverse xs ≡ v ∷ vs → reverse (take (length xs - 1) xs) ≡ vs
reverse_front {X} xs v vs e =
    grind (arith, split_last xs v vs e, length-append, take-append-le, take_all, reverse-reverse)

pub reverse_none : {X : Type 0} (xs : List X) → reverse xs ≡ [] → xs ≡ []
reverse_none xs e = sym (reverse-reverse xs) ∙ ap reverse e

pub last_or-append : {X : Type 0} (d : X) (xs : List X) (v : X) → last_or d (xs ++ v ∷ []) ≡ v
last_or-append d [] v = refl
last_or-append d (x ∷ xs) v = last_or-append x xs v

pub last_or-reverse : {X : Type 0} (d : X) (xs : List X) (v : X) (vs : List X) → reverse xs ≡ v ∷ vs → last_or d xs ≡ v
last_or-reverse {X} d xs v vs e = ap (last_or d) (split_last xs v vs e) ∙ last_or-append d (reverse vs) v

map_onto : {X Y : Type 0} (f : X → Y) (xs ys : List X) → map f (reverse_aux xs ys) ≡ reverse_aux (map f xs) (map f ys)
map_onto f [] ys = refl
map_onto f (x ∷ xs) ys = map_onto f xs (x ∷ ys)

pub map-reverse : {X Y : Type 0} (f : X → Y) (xs : List X) → map f (reverse xs) ≡ reverse (map f xs)
map-reverse f xs = map_onto f xs []

pub filter-reverse : {X : Type 0} (p : X → Bool) (xs : List X) → filter p (reverse xs) ≡ reverse (filter p xs)
filter-reverse p [] = refl
filter-reverse p (x ∷ xs) = simp (reverse-append (x ∷ []) xs, filter-append, filter-reverse p xs)
    (elim (cases_Bool (p x)) [ inl here ↦ rw here (sym (reverse-append (x ∷ []) (filter p xs))) | inr gone ↦ rw gone (append-nil (reverse (filter p xs))) ])

-- ---- tests one after another

pub filter_twice : {X : Type 0} (p q : X → Bool) (xs : List X) → filter q (filter p xs) ≡ filter (λ x. p x && q x) xs
filter_twice p q [] = refl
filter_twice p q (x ∷ xs) = grind (arith, filter_twice p q xs)

pub find-filter : {X : Type 0} (p q : X → Bool) (xs : List X) → find q (filter p xs) ≡ find (λ x. p x && q x) xs
find-filter p q [] = refl
find-filter p q (x ∷ xs) = grind (arith, find-filter p q xs)

pub find-map : {X Y : Type 0} (q : Y → Bool) (f : X → Y) (xs : List X) → find q (map f xs) ≡ option_map f (find (λ x. q (f x)) xs)
find-map q f [] = refl
find-map q f (x ∷ xs) = grind (arith, find-map q f xs)

-- ---- what a search finds

pub find-passes : {X : Type 0} (test : X → Bool) (xs : List X) (x : X) → find test xs ≡ Some x → test x ≡ true
find-passes test [] x e = absurd (cc e)
find-passes test (y ∷ xs) x e = grind (arith, find-passes test xs x)

pub find-index : {X : Type 0} (test : X → Bool) (xs : List X) (x d : X) → find test xs ≡ Some x → (k : ℕ) × (k < length xs) × (get_or xs k d ≡ x)
find-index test [] x d e = absurd (cc e)
find-index test (y ∷ xs) x d e = elim (cases_Bool (test y)) [
  | inl here ↦ let same : Some y ≡ Some x = rw here at e in (0, omega arith, cc)
  | inr gone ↦ let h = find-index test xs x d (rw gone at e) in (suc h.0, omega (arith, h.1), h.2)
]

-- a search finds the first element that passes, and nothing where none does
pub find-first : {X : Type 0} (test : X → Bool) (xs : List X) (i : ℕ) (d : X) → i < length xs → test (get_or xs i d) ≡ true
    → ((k : ℕ) → k < i → test (get_or xs k d) ≡ false) → find test xs ≡ Some (get_or xs i d)
find-first test [] i d below passes before = absurd (omega arith)
find-first test (x ∷ xs) zero d below passes before = rw passes refl
find-first test (x ∷ xs) (suc i) d below passes before = rw (before 0 (omega arith)) (find-first test xs i d (omega arith) passes (λ k h. before (suc k) (omega arith)))

pub find-none : {X : Type 0} (test : X → Bool) (xs : List X) (d : X) → ((k : ℕ) → k < length xs → test (get_or xs k d) ≡ false) → find test xs ≡ None
find-none test [] d none = refl
find-none test (x ∷ xs) d none = rw (none 0 (omega arith)) (find-none test xs d (λ k h. none (suc k) (omega arith)))

-- tests that agree on each element
pub find-same : {X : Type 0} (p q : X → Bool) (xs : List X) (d : X) → ((k : ℕ) → k < length xs → p (get_or xs k d) ≡ q (get_or xs k d)) → find p xs ≡ find q xs
find-same p q [] d same = refl
find-same p q (x ∷ xs) d same = rw (same 0 (omega arith), find-same p q xs d (λ k below. same (suc k) (omega arith))) refl

pub filter_map-same : {X Y : Type 0} (f g : X → Option Y) (xs : List X) → ((x : X) → f x ≡ g x) → filter_map f xs ≡ filter_map g xs
filter_map-same f g xs same = λ i. filter_map (λ x. same x i) xs

-- ---- a list of which a part is written over by one value

module _ {X : Type 0} (start count : ℕ) (xs : List X) (x d : X) (n : ℕ) where
  pub put_mid-after : start + count ≤ length xs → start + count ≤ n → get_or (put_mid start count xs (replicate count x)) n d ≡ get_or xs n d
  put_mid-after fits after = grind (arith, get_or-append_right, length-take-le, length-replicate, get_or-drop)

pub length-put_mid : {X : Type 0} (start count : ℕ) (xs : List X) (x : X) → start + count ≤ length xs → length (put_mid start count xs (replicate count x)) ≡ length xs
length-put_mid start count xs x fits = grind (arith, length-append, length-replicate, length-take-le, length-drop)
