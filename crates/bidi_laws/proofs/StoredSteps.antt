-- A paragraph that is read from the front, one character more: its stored classes (X5c), its deciding character (P2)
-- and its open isolates. The rules at what was read so far are what a pass holds, since an isolate with no matching PDI
-- ends at the end.
use Rattle.bidi_base.proofs.Common.{◌≡◌, ℕ, suc, ◌<◌, Bool, true, false, not, ◌&&◌, ◌||◌, cond, List, [], ◌∷◌, ◌++◌, length, set, map, Option, Some, None, option_map, refl, ap, ◌∙◌}
use Rattle.bidi_base.proofs.Common.{arith, inl, inr, cases_Bool, and-true, and_parts, All, option_or, length-map, map-append, length-set, length-map-range_with_len, All-nil, All-map}
use Rattle.bidi_base.proofs.Common.{is_strong, class_at, innermost, outer, opened_by, decided_by, is_fsi, deciding_class, resolved_fsi, stored_classes}
use Rattle.bidi_base.specs.declared.char_data.BidiClass.{BidiClass}
use Rattle.bidi_base.specs.declared.char_data.BidiClass.TheVariants.{FSI, LRI, RLI}
use Rattle.bidi_laws.proofs.IsolateWalk.{Kind, opening, closing, neither, kind_of, initiator-kind, pdi-kind, strong-neither, opens_one, depth_by, depth_after, depth_after-deeper, is_zero}
use Rattle.bidi_laws.proofs.IsolateWalk.{ends_by, has_end, has_end-append, deciding_from, deciding_class-from, resolving_from, stored_by, stored_from, stored_classes-from}

-- the indexes of the initiators of the isolates that some characters leave open, outermost first
abbrev pub onto_later : Bool → List ℕ → List ℕ
onto_later true later = 0 ∷ later
onto_later false later = later

abbrev pub open_initiators : List BidiClass → List ℕ
open_initiators [] = []
open_initiators (c ∷ cs) = onto_later (opens_one (kind_of c) && not (has_end 0 cs)) (map suc (open_initiators cs))

-- what stays open after one more character of a kind, which has index n
abbrev opened_kind : Kind → ℕ → List ℕ → List ℕ
opened_kind opening n under = under ++ n ∷ []
opened_kind closing n under = outer under
opened_kind neither n under = under

-- the stored classes, once the innermost open isolate has met the class c
abbrev pub met_by : BidiClass → Option ℕ → List BidiClass → List BidiClass
met_by c None stored = stored
met_by c (Some q) stored = cond (is_strong c && is_fsi (class_at stored q)) (set stored q (resolved_fsi (Some c))) stored

-- ---- the open isolates

abbrev is_empty : List ℕ → Bool
is_empty [] = true
is_empty (q ∷ qs) = false

-- as many as the walk counts
open_depth : (xs : List BidiClass) → depth_after 0 xs ≡ length (open_initiators xs)
open_depth [] = refl
open_depth (x ∷ xs) = grind (arith, open_depth xs, depth_after-deeper 0 xs, length-map)

is_zero-depth : (xs : List BidiClass) → is_zero (depth_after 0 xs) ≡ is_empty (open_initiators xs)
is_zero-depth xs = grind (arith, open_depth)

has_end-push : (xs : List BidiClass) (c : BidiClass) → has_end 0 (xs ++ c ∷ []) ≡ (has_end 0 xs || ends_by (kind_of c) (depth_after 0 xs))
has_end-push xs c = grind (arith, has_end-append)

-- one more character
open_initiators-push_kind : (xs : List BidiClass) (c : BidiClass) → open_initiators (xs ++ c ∷ []) ≡ opened_kind (kind_of c) (length xs) (open_initiators xs)
open_initiators-push_kind [] c = grind arith
open_initiators-push_kind (x ∷ xs) c =
    rw (has_end-push xs c, open_initiators-push_kind xs c, open_depth xs) (one (kind_of c) (opens_one (kind_of x)) (has_end 0 xs) (length xs) (open_initiators xs))
  where
    outer-map : (qs : List ℕ) → map suc (outer qs) ≡ outer (map suc qs)
    outer-map [] = refl
    outer-map (q ∷ []) = refl
    outer-map (q ∷ r ∷ qs) = ap (λ (rs : List ℕ). suc q ∷ rs) (outer-map (r ∷ qs))

    one : (k : Kind) (b e : Bool) (n : ℕ) (qs : List ℕ)
        → onto_later (b && not (e || ends_by k (length qs))) (map suc (opened_kind k n qs)) ≡ opened_kind k (suc n) (onto_later (b && not e) (map suc qs))
    one opening b e n qs = grind (arith, map-append)
    one closing b e n [] = grind arith
    one closing b e n (q ∷ qs) = grind (arith, outer-map)
    one neither b e n qs = grind arith

pub open_initiators-push : (xs : List BidiClass) (c : BidiClass) → open_initiators (xs ++ c ∷ []) ≡ opened_by c (length xs) (open_initiators xs)
open_initiators-push xs c = grind (arith, open_initiators-push_kind, initiator-kind c, pdi-kind c)

-- ---- the deciding character

deciding_from-append : (d : ℕ) (xs ys : List BidiClass) → deciding_from d (xs ++ ys) ≡ option_or (deciding_from d xs) (deciding_from (depth_after d xs) ys)
deciding_from-append d [] ys = refl
deciding_from-append d (x ∷ xs) ys = grind (arith, deciding_from-append (depth_by (kind_of x) d) xs ys)

pub deciding_class-push : (xs : List BidiClass) (c : BidiClass) → deciding_class (xs ++ c ∷ []) ≡ option_or (deciding_class xs) (decided_by c (open_initiators xs))
deciding_class-push xs c = grind (arith, deciding_class-from, deciding_from-append, is_zero-depth)

pub deciding_class-nil : deciding_class [] ≡ None
deciding_class-nil = deciding_class-from []

-- ---- the stored classes

-- what a character more says of an FSI before xs
found_by : BidiClass → List BidiClass → Option BidiClass
found_by c xs = cond (has_end 0 xs) None (cond (is_strong c && is_zero (depth_after 0 xs)) (Some c) None)

strong_ends_nothing : (c : BidiClass) (d : ℕ) → is_strong c ≡ true → ends_by (kind_of c) d ≡ false
strong_ends_nothing c d strong = simp (strong-neither c strong)

none_either : (b : Bool) → cond {A = Option BidiClass} b None None ≡ None
none_either true = refl
none_either false = refl

pushed : (ends here later : Bool) (x : BidiClass) (now before found : Option BidiClass) → now ≡ option_or before (cond later None found)
    → cond ends None (cond here (Some x) now) ≡ option_or (cond ends None (cond here (Some x) before)) (cond (ends || later) None found)
pushed true here later x now before found e = refl
pushed false true later x now before found e = refl
pushed false false later x now before found e = e

resolving-push_from : (d : ℕ) (xs : List BidiClass) (c : BidiClass)
    → resolving_from d (xs ++ c ∷ []) ≡ option_or (resolving_from d xs) (cond (has_end d xs) None (cond (is_strong c && is_zero (depth_after d xs)) (Some c) None))
resolving-push_from d [] c = elim (cases_Bool (is_strong c)) [ inl strong ↦ simp (strong_ends_nothing c d strong) | inr weak ↦ simp weak (none_either (ends_by (kind_of c) d)) ]
resolving-push_from d (x ∷ xs) c =
    pushed (ends_by (kind_of x) d) (is_strong x && is_zero d) (has_end (depth_by (kind_of x) d) xs) x _ _ _ (resolving-push_from (depth_by (kind_of x) d) xs c)

resolving-push : (xs : List BidiClass) (c : BidiClass) → resolving_from 0 (xs ++ c ∷ []) ≡ option_or (resolving_from 0 xs) (found_by c xs)
unfolding found_by
resolving-push xs c = resolving-push_from 0 xs c

strong_by : (ends here : Bool) (x s : BidiClass) (later : Option BidiClass) → cond ends None (cond here (Some x) later) ≡ Some s
    → (here ≡ true → is_strong x ≡ true) → (later ≡ Some s → is_strong s ≡ true) → is_strong s ≡ true
strong_by true here x s later e first next = absurd (cc e)
strong_by false true x s later e first next = cc (e, first refl)
strong_by false false x s later e first next = next e

resolving-strong : (d : ℕ) (xs : List BidiClass) (s : BidiClass) → resolving_from d xs ≡ Some s → is_strong s ≡ true
resolving-strong d [] s e = absurd (cc e)
resolving-strong d (x ∷ xs) s e =
    strong_by (ends_by (kind_of x) d) (is_strong x && is_zero d) x s (resolving_from (depth_by (kind_of x) d) xs) e (λ both. (and_parts _ _ both).0) (resolving-strong (depth_by (kind_of x) d) xs s)

-- a direction that was found stays
pub resolved-strong : (s : BidiClass) → is_strong s ≡ true → is_fsi (resolved_fsi (Some s)) ≡ false
resolved-strong s e = grind arith

or_none : (o : Option BidiClass) → option_or o None ≡ o
or_none None = refl
or_none (Some s) = refl

-- what is first is stored as before, where the new character says nothing of it
first_stays : (x c : BidiClass) (xs : List BidiClass) → found_by c xs ≡ None → stored_by x (resolving_from 0 (xs ++ c ∷ [])) ≡ stored_by x (resolving_from 0 xs)
first_stays x c xs none = ap (stored_by x) (resolving-push xs c ∙ ap (option_or (resolving_from 0 xs)) none ∙ or_none (resolving_from 0 xs))

found_by-zero : (c : BidiClass) (xs : List BidiClass) → is_zero (depth_after 0 xs) ≡ true → found_by c xs ≡ cond (has_end 0 xs) None (cond (is_strong c) (Some c) None)
unfolding found_by
found_by-zero c xs none = simp (none, and-true (is_strong c))

fsi_met : (c : BidiClass) (ended : Bool) (o : Option BidiClass) (stored : List BidiClass) → ((s : BidiClass) → o ≡ Some s → is_strong s ≡ true)
    → stored_by FSI (option_or o (cond ended None (cond (is_strong c) (Some c) None))) ∷ stored ≡ met_by c (innermost (onto_later (not ended) [])) (stored_by FSI o ∷ stored)
fsi_met c true None stored strong = refl
fsi_met c true (Some s) stored strong = refl
fsi_met c false None stored strong = elim (cases_Bool (is_strong c)) [ inl decides ↦ simp decides | inr weak ↦ simp weak ]
fsi_met c false (Some s) stored strong = elim (cases_Bool (is_strong c)) [ inl decides ↦ simp (decides, resolved-strong s (strong s refl)) | inr weak ↦ simp weak ]

other_met : (c : BidiClass) (open_ended : Bool) (y : BidiClass) (stored : List BidiClass) → is_fsi y ≡ false → y ∷ stored ≡ met_by c (innermost (onto_later open_ended [])) (y ∷ stored)
other_met c false y stored other = refl
other_met c true y stored other = elim (cases_Bool (is_strong c)) [ inl decides ↦ simp (decides, other) | inr weak ↦ simp weak ]

-- where no isolate is open after it, what is first is the innermost open initiator, or none is
first_met : (x c : BidiClass) (xs stored : List BidiClass) → is_zero (depth_after 0 xs) ≡ true
    → stored_by x (resolving_from 0 (xs ++ c ∷ [])) ∷ stored ≡ met_by c (innermost (onto_later (opens_one (kind_of x) && not (has_end 0 xs)) [])) (stored_by x (resolving_from 0 xs) ∷ stored)
unfolding kind_of
first_met FSI c xs stored zero_depth =
    simp (resolving-push xs c, found_by-zero c xs zero_depth) (fsi_met c (has_end 0 xs) (resolving_from 0 xs) stored (resolving-strong 0 xs))
first_met LRI c xs stored zero_depth = other_met c (not (has_end 0 xs)) LRI stored refl
first_met RLI c xs stored zero_depth = other_met c (not (has_end 0 xs)) RLI stored refl
first_met _ c xs stored zero_depth = refl

pub innermost-map : {X Y : Type 0} (f : X → Y) (xs : List X) → innermost (map f xs) ≡ option_map f (innermost xs)
innermost-map f [] = refl
innermost-map f (x ∷ []) = refl
innermost-map f (x ∷ y ∷ xs) = innermost-map f (y ∷ xs)

innermost-later : (b : Bool) (q : ℕ) (qs : List ℕ) → innermost (onto_later b (map suc (q ∷ qs))) ≡ option_map suc (innermost (q ∷ qs))
innermost-later b q qs = grind (arith, innermost-map)

later_met : (c y : BidiClass) (o : Option ℕ) (stored : List BidiClass) → met_by c (option_map suc o) (y ∷ stored) ≡ y ∷ met_by c o stored
later_met c y o stored = grind arith

stored_from-push : (xs : List BidiClass) (c : BidiClass) → stored_from (xs ++ c ∷ []) ≡ met_by c (innermost (open_initiators xs)) (stored_from xs) ++ c ∷ []
unfolding found_by
stored_from-push [] c = grind arith
stored_from-push (x ∷ xs) c =
    grind (arith, stored_from-push xs c, first_met, is_zero-depth, first_stays, innermost-later, later_met)

-- one more character: a strong one is the direction of the innermost open isolate, if that has an FSI with none so far
pub stored_classes-push : (xs : List BidiClass) (c : BidiClass) → stored_classes (xs ++ c ∷ []) ≡ met_by c (innermost (open_initiators xs)) (stored_classes xs) ++ c ∷ []
stored_classes-push xs c = grind (arith, stored_classes-from, stored_from-push)

pub stored_classes-nil : stored_classes [] ≡ []
stored_classes-nil = stored_classes-from []

pub length-stored_classes : (xs : List BidiClass) → length (stored_classes xs) ≡ length xs
unfolding stored_classes
length-stored_classes xs = grind (arith, length-map-range_with_len)

pub length-met_by : (c : BidiClass) (o : Option ℕ) (stored : List BidiClass) → length (met_by c o stored) ≡ length stored
length-met_by c o stored = grind (arith, length-set)

-- open initiators are indexes of the characters
pub open_initiators-below : (xs : List BidiClass) → All (λ (q : ℕ). q < length xs) (open_initiators xs)
open_initiators-below [] = All-nil (λ (q : ℕ). q < 0)
open_initiators-below (x ∷ xs) = first (opens_one (kind_of x) && not (has_end 0 xs)) (open_initiators-below xs)
  where
    later : All (λ (q : ℕ). q < length xs) (open_initiators xs) → All (λ (q : ℕ). q < suc (length xs)) (map suc (open_initiators xs))
    later h = All-map (λ (q : ℕ). q < suc (length xs)) suc (open_initiators xs) (λ k d within. omega (arith, h k d within))

    first : (b : Bool) → All (λ (q : ℕ). q < length xs) (open_initiators xs) → All (λ (q : ℕ). q < suc (length xs)) (onto_later b (map suc (open_initiators xs)))
    first b h = grind (arith, later)
