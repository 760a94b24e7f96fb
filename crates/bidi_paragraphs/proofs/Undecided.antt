-- The open isolates of an FSI that no character decided yet: what they are once some characters were read, and after one more.
use Rattle.bidi_base.proofs.Common.{◌≡◌, ℕ, zero, suc, ◌+◌, ◌-◌, ◌<◌, ◌≤◌, Bool, true, false, ◌&&◌, ◌||◌, cond, List, [], ◌∷◌, ◌++◌, length, take, map, Option, Some, None, refl, ap, ◌∙◌, arith}
use Rattle.bidi_base.proofs.Common.{length-append, get_or-set_same, get_or-set_other, All, option_or, option_to_list, get_or-append, add-zero, get_or-append_seam, Range, cond_both, length-take-le}
use Rattle.bidi_base.proofs.Common.{length-map, map-append, get_or-map, option_map, common_steps, All-nil, All-cons, All-head, All-tail, All-take, is_strong, is_isolate_initiator, is_pdi, stored_classes}
use Rattle.bidi_base.proofs.Common.{class_at, innermost, outer, opened_by, decided_by, is_fsi, append-nil, All-push}
use Rattle.std.specs.Option.{is_some}
use Rattle.bidi_base.specs.declared.char_data.BidiClass.{BidiClass}
use Rattle.bidi_laws.proofs.ReadingLemmas.{outer-take, innermost-All}
use Rattle.bidi_laws.proofs.StoredSteps.{innermost-map, onto_later, resolved-strong, open_initiators, open_initiators-push}
use Rattle.bidi_laws.proofs.StoredSteps.{open_initiators-below, met_by, length-met_by, stored_classes-push, length-stored_classes}
use Rattle.bidi_paragraphs.proofs.ClassSets.{apart_eqb}
use Rattle.bidi_paragraphs.specs.FirstPass.{at_depth, waiting, depth_after, undecided_after, deciding_after, classes_after}
use Rattle.bidi_paragraphs.specs.declared.first_pass.paragraph_state.Undecided.{Undecided}

-- of the open initiators those that are FSI by their stored class so far, where k isolates stand around them
abbrev pub undecided_from : (ℕ → Range ℕ) → ℕ → List BidiClass → List ℕ → List Undecided
undecided_from units k stored [] = []
undecided_from units k stored (q ∷ qs) =
    cond (is_fsi (class_at stored q)) (record { units = units q; depth = k + 1 } ∷ undecided_from units (k + 1) stored qs) (undecided_from units (k + 1) stored qs)

-- ---- the innermost one

pub innermost-push : {X : Type 0} (xs : List X) (x : X) → innermost (xs ++ x ∷ []) ≡ Some x
innermost-push [] x = refl
innermost-push (y ∷ []) x = refl
innermost-push (y ∷ z ∷ xs) x = innermost-push (z ∷ xs) x

pub outer-push : {X : Type 0} (xs : List X) (x : X) → outer (xs ++ x ∷ []) ≡ xs
outer-push [] x = refl
outer-push (y ∷ []) x = refl
outer-push {X} (y ∷ z ∷ xs) x = ap (λ (ys : List X). y ∷ ys) (outer-push (z ∷ xs) x)

pub outer-innermost : {X : Type 0} (xs : List X) (x : X) → innermost xs ≡ Some x → xs ≡ outer xs ++ x ∷ []
outer-innermost [] x e = absurd (cc e)
outer-innermost {X} (y ∷ []) x e = cc e
outer-innermost {X} (y ∷ z ∷ xs) x e = ap (λ (ys : List X). y ∷ ys) (outer-innermost (z ∷ xs) x e)

pub innermost-none : {X : Type 0} (xs : List X) → innermost xs ≡ None → xs ≡ []
innermost-none [] e = refl
innermost-none (x ∷ []) e = absurd (cc e)
innermost-none (x ∷ y ∷ xs) e = let none : y ∷ xs ≡ [] = innermost-none (y ∷ xs) e in absurd (cc none)

-- ---- the one that waits, as code takes it

pub popped : (items rest : List Undecided) (r : Option Undecided) → items ≡ rest ++ option_to_list r → rest ≡ take (length items - 1) items → r ≡ innermost items
popped items rest r is less = grind (arith, innermost-push, length-take-le, length-append)

pub waiting-innermost : (d : ℕ) (us : List Undecided) (u : Undecided) → waiting d us ≡ Some u → innermost us ≡ Some u
waiting-innermost d us u e = grind arith

-- ---- the open initiators ascend

abbrev Ascend : ℕ → List ℕ → Type 0
Ascend low [] = Unit {0}
Ascend low (q ∷ qs) = (low ≤ q) × Ascend (q + 1) qs

Ascend-suc : (low less : ℕ) (qs : List ℕ) → less ≤ suc low → Ascend low qs → Ascend less (map suc qs)
Ascend-suc low less [] le h = tt
Ascend-suc low less (q ∷ qs) le h = (omega (arith, h.0), Ascend-suc (q + 1) (suc q + 1) qs (omega arith) h.1)

-- all others stand before the innermost one
before_last : (low : ℕ) (qs : List ℕ) (q : ℕ) → Ascend low (qs ++ q ∷ []) → (low ≤ q) × All (λ (p : ℕ). p < q) qs
before_last low [] q h = (h.0, All-nil (λ (p : ℕ). p < q))
before_last low (p ∷ qs) q h =
    let later = before_last (p + 1) qs q h.1 in
    (omega (arith, h.0, later.0), All-cons (λ (p : ℕ). p < q) p qs (omega (arith, later.0)) later.1)

Ascend-open : (cs : List BidiClass) → Ascend 0 (open_initiators cs)
Ascend-open [] = tt
Ascend-open (c ∷ cs) = onto _ (open_initiators cs) (Ascend-open cs)
  where
    onto : (b : Bool) (qs : List ℕ) → Ascend 0 qs → Ascend 0 (onto_later b (map suc qs))
    onto true qs h = (omega arith, Ascend-suc 0 1 qs (omega arith) h)
    onto false qs h = Ascend-suc 0 0 qs (omega arith) h

-- ---- of a list that is pushed to

module _ (units : ℕ → Range ℕ) where
  undecided-push : (k : ℕ) (stored : List BidiClass) (qs : List ℕ) (q : ℕ)
      → undecided_from units k stored (qs ++ q ∷ []) ≡ undecided_from units k stored qs ++ cond (is_fsi (class_at stored q)) (record { units = units q; depth = k + length qs + 1 } ∷ []) []
  undecided-push k stored [] q = simp add-zero
  undecided-push k stored (p ∷ qs) q = grind (arith, undecided-push (k + 1) stored qs q)

  -- their depths are at most the number of the initiators
  pub depths : (k : ℕ) (stored : List BidiClass) (qs : List ℕ) → All (λ (u : Undecided). u.depth ≤ k + length qs) (undecided_from units k stored qs)
  depths k stored [] = All-nil (λ (u : Undecided). u.depth ≤ k + 0)
  depths k stored (q ∷ qs) =
      let rest : All (λ (u : Undecided). u.depth ≤ k + suc (length qs)) (undecided_from units (k + 1) stored qs) = λ i d within. omega (arith, depths (k + 1) stored qs i d within) in
      cond_both (is_fsi (class_at stored q)) _ _ (All (λ (u : Undecided). u.depth ≤ k + suc (length qs)))
      (λ _. All-cons (λ (u : Undecided). u.depth ≤ k + suc (length qs)) (record { units = units q; depth = k + 1 }) (undecided_from units (k + 1) stored qs) (omega arith) rest) (λ _. rest)

  -- they depend on the stored classes of the initiators alone
  undecided-agree : (k : ℕ) (stored other : List BidiClass) (qs : List ℕ) → All (λ (q : ℕ). class_at other q ≡ class_at stored q) qs
      → undecided_from units k other qs ≡ undecided_from units k stored qs
  undecided-agree k stored other [] h = refl
  undecided-agree k stored other (q ∷ qs) h =
      grind (arith, All-head (λ p. class_at other p ≡ class_at stored p) q qs h, undecided-agree (k + 1) stored other qs, All-tail (λ p. class_at other p ≡ class_at stored p) q qs h)

-- what holds of each initiator holds of those that are undecided
pub All-undecided : (P : Undecided → Type 0) (units : ℕ → Range ℕ) (k : ℕ) (stored : List BidiClass) (qs : List ℕ)
    → All (λ (q : ℕ). (d : ℕ) → P (record { units = units q; depth = d })) qs → All P (undecided_from units k stored qs)
All-undecided P units k stored [] h = All-nil P
All-undecided P units k stored (q ∷ qs) h =
    let here : ℕ → Type 0 = λ q. (d : ℕ) → P (record { units = units q; depth = d }) in
    let rest = All-undecided P units (k + 1) stored qs (All-tail here q qs h) in
    cond_both (is_fsi (class_at stored q)) _ _ (All P) (λ _. All-cons P _ _ (All-head here q qs h (k + 1)) rest) (λ _. rest)

-- there are at most as many as characters
pub open_initiators-few : (cs : List BidiClass) → length (open_initiators cs) ≤ length cs
open_initiators-few [] = omega arith
open_initiators-few (c ∷ cs) = grind (arith, open_initiators-few cs, length-map)

-- ---- one more character

too_deep : (d m : ℕ) (xs : List Undecided) → All (λ (u : Undecided). u.depth ≤ m) xs → m < d → waiting d xs ≡ None
too_deep d m xs h less = grind (arith, innermost-All (λ (u : Undecided). u.depth ≤ m) xs, apart_eqb)

pub length-opened_by : (c : BidiClass) (n : ℕ) (qs : List ℕ) → length (opened_by c n qs) ≡ depth_after c (length qs)
length-opened_by c n qs = grind (arith, length-append, outer-take qs, length-take-le (length qs - 1) qs)

module _ (units : ℕ → Range ℕ) (cs : List BidiClass) (c : BidiClass) where
  abbrev pub qs : List ℕ
  qs = open_initiators cs

  abbrev pub stored : List BidiClass
  stored = stored_classes cs

  abbrev pub before : List Undecided
  before = undecided_from units 0 stored qs

  abbrev pub fsi_at : ℕ → Undecided
  fsi_at q = record { units = units q; depth = length qs }

  -- the innermost initiator, where it is an FSI by its stored class so far
  abbrev pub waits_of : Option ℕ → Option Undecided
  waits_of None = None
  waits_of (Some q) = cond (is_fsi (class_at stored q)) (Some (fsi_at q)) None

  module _ (q : ℕ) (e : innermost qs ≡ Some q) where
    cut : qs ≡ outer qs ++ q ∷ []
    cut = outer-innermost qs q e

    abbrev under : List Undecided
    under = undecided_from units 0 stored (outer qs)

    before_cut : before ≡ under ++ cond (is_fsi (class_at stored q)) (fsi_at q ∷ []) []
    before_cut = grind (arith, cut, length-append, undecided-push)

  pub waiting-is : (o : Option ℕ) → innermost qs ≡ o → waiting (length qs) before ≡ waits_of o
  waiting-is None e = simp (innermost-none qs e)
  waiting-is (Some q) e =
      grind (
        arith,
        before_cut q e,
        innermost-push,
        append-nil,
        too_deep (length qs) (0 + length (outer qs)) (under q e) (depths units 0 stored (outer qs)),
        cut q e,
        length-append,
      )

  -- ---- the step

  abbrev pub n : ℕ
  n = length cs

  -- what is read at the initiators so far stays
  appended : (st : List BidiClass) → length st ≡ length cs → (xs : List ℕ) → All (λ (q : ℕ). q < length cs) xs → undecided_from units 0 (st ++ c ∷ []) xs ≡ undecided_from units 0 st xs
  appended st long xs below = grind (arith, undecided-agree, get_or-append)

  pushed : undecided_from units 0 (stored_classes (cs ++ c ∷ [])) (open_initiators (cs ++ c ∷ [])) ≡ undecided_from units 0 (met_by c (innermost qs) stored ++ c ∷ []) (opened_by c n qs)
  pushed = grind (arith, stored_classes-push, open_initiators-push)

  abbrev closed : Bool → List Undecided
  closed b = cond (b && is_some (waiting (length qs) before)) (outer before) before

  -- an isolate ends, or its FSI is decided
  closes : (o : Option ℕ) → innermost qs ≡ o → undecided_from units 0 stored (outer qs) ≡ closed true
  closes None e = simp (innermost-none qs e)
  closes (Some q) e = grind (arith, waiting-is (Some q) e, before_cut q e, append-nil, outer-push (under q e) (fsi_at q))

  at_pdi : is_isolate_initiator c ≡ false → is_pdi c ≡ true → undecided_from units 0 (stored_classes (cs ++ c ∷ [])) (open_initiators (cs ++ c ∷ [])) ≡ closed true
  at_pdi init pdi =
      let outer_below : All (λ (q : ℕ). q < length cs) (outer qs) = rw outer-take at (All-take (λ (q : ℕ). q < length cs) (length qs - 1) qs (open_initiators-below cs)) in
      grind (arith, pushed, init, pdi, appended stored (length-stored_classes cs) (outer qs) outer_below, closes (innermost qs) refl)

  at_strong : is_isolate_initiator c ≡ false → is_pdi c ≡ false → is_strong c ≡ true → undecided_from units 0 (stored_classes (cs ++ c ∷ [])) (open_initiators (cs ++ c ∷ [])) ≡ closed true
  at_strong init pdi strong =
      grind (
        arith,
        pushed,
        init,
        pdi,
        appended (met_by c (innermost qs) stored),
        length-met_by,
        length-stored_classes,
        open_initiators-below cs,
        decided (innermost qs) refl,
        closes (innermost qs) refl,
      )
    where
      decided : (o : Option ℕ) → innermost qs ≡ o → undecided_from units 0 (met_by c o stored) qs ≡ undecided_from units 0 stored (outer qs)
      decided None e = simp (innermost-none qs e)
      decided (Some q) e =
          let stop : List BidiClass = met_by c (Some q) stored in
          let apart : All (λ (p : ℕ). p < q) (outer qs) = (before_last 0 (outer qs) q (rw (cut q e) at (Ascend-open cs))).1 in
          let here : is_fsi (class_at stop q) ≡ false = grind (
            arith,
            strong,
            get_or-set_same,
            innermost-All (λ (p : ℕ). p < length cs) qs q (open_initiators-below cs) e,
            length-stored_classes,
            resolved-strong c strong,
          ) in
          ap (undecided_from units 0 stop) (cut q e) ∙ simp (undecided-push units 0 stop (outer qs) q, here, append-nil)
          (undecided-agree units 0 stored stop (outer qs) (λ i d within. grind (arith, apart i d within, get_or-set_other)))

  pub undecided-more : undecided_from units 0 (stored_classes (cs ++ c ∷ [])) (open_initiators (cs ++ c ∷ [])) ≡ undecided_after c (units n) (length qs) before
  undecided-more = grind (
    arith,
    at_pdi,
    at_strong,
    pushed,
    appended,
    length-stored_classes,
    open_initiators-below cs,
    undecided-push,
    get_or-append_seam,
    append-nil,
  )

  -- the deciding class
  pub deciding-more : (deciding : Option BidiClass) → option_or deciding (decided_by c qs) ≡ deciding_after c (length qs) deciding
  deciding-more deciding = grind arith

-- ---- where some of the open isolates are not counted

-- the same, with k more isolates around it
abbrev pub deeper : ℕ → Undecided → Undecided
deeper k u = record { units = u.units; depth = u.depth + k }

outer-map : {X Y : Type 0} (f : X → Y) (xs : List X) → outer (map f xs) ≡ map f (outer xs)
outer-map f [] = refl
outer-map f (x ∷ []) = refl
outer-map {X} {Y} f (x ∷ y ∷ xs) = ap (λ (ys : List Y). f x ∷ ys) (outer-map f (y ∷ xs))

at_depth-deeper : (k d : ℕ) (o : Option Undecided) → at_depth (d + k) (option_map (deeper k) o) ≡ option_map (deeper k) (at_depth d o)
at_depth-deeper k d None = refl
at_depth-deeper k d (Some u) = grind (arith, common_steps)

pub waiting-deeper : (k d : ℕ) (us : List Undecided) → waiting (d + k) (map (deeper k) us) ≡ option_map (deeper k) (waiting d us)
waiting-deeper k d us = simp (innermost-map (deeper k) us) (at_depth-deeper k d (innermost us))

pub undecided_after-deeper : (class : BidiClass) (range : Range ℕ) (k d : ℕ) (us : List Undecided)
    → undecided_after class range (d + k) (map (deeper k) us) ≡ map (deeper k) (undecided_after class range d us)
undecided_after-deeper class range k d us = grind (arith, map-append, waiting-deeper, outer-map)

pub classes_after-deeper : (class : BidiClass) (k d : ℕ) (us : List Undecided) (classes : List BidiClass)
    → classes_after class (waiting (d + k) (map (deeper k) us)) classes ≡ classes_after class (waiting d us) classes
classes_after-deeper class k d us classes = simp (waiting-deeper k d us) (by_option (waiting d us))
  where
    by_option : (o : Option Undecided) → classes_after class (option_map (deeper k) o) classes ≡ classes_after class o classes
    by_option None = refl
    by_option (Some u) = refl

pub deciding_after-deeper : (class : BidiClass) (k d : ℕ) (deciding : Option BidiClass) → (0 < k → is_some deciding ≡ true) → deciding_after class (d + k) deciding ≡ deciding_after class d deciding
deciding_after-deeper class zero d deciding decided = simp add-zero
deciding_after-deeper class (suc k) d deciding decided = grind (arith, decided (omega arith))

-- if none is counted, none is undecided
pub none_counted : (k : ℕ) (us : List Undecided) → All (λ (u : Undecided). u.depth ≤ k) (map (deeper k) us) → All (λ (u : Undecided). 0 < u.depth) us → us ≡ []
none_counted k [] low counted = refl
none_counted k (u ∷ us) low counted = absurd (omega (arith, low 0 u (omega arith), counted 0 u (omega arith)))

-- what holds of those with more isolates around them, and does not depend on the isolates
pub All-deeper : (P : Range ℕ → Type 0) (k : ℕ) (us : List Undecided) → All (λ (u : Undecided). P u.units) (map (deeper k) us) → All (λ (u : Undecided). P u.units) us
All-deeper P k us h = λ i d within. rw (get_or-map (deeper k) us i d) at (h i (deeper k d) (omega (arith, length-map us (deeper k))))

-- the undecided stay counted
pub counted_after : (class : BidiClass) (range : Range ℕ) (d : ℕ) (us : List Undecided) → All (λ (u : Undecided). 0 < u.depth) us
    → All (λ (u : Undecided). 0 < u.depth) (undecided_after class range d us)
counted_after class range d us h =
    let P : Undecided → Type 0 = λ u. 0 < u.depth in
    cond_both (is_isolate_initiator class) _ _ (All P)
    (λ _. cond_both (is_fsi class) _ _ (All P) (λ _. All-push P us (record { units = range; depth = d + 1 }) h (omega arith)) (λ _. h))
    (λ _. cond_both ((is_strong class || is_pdi class) && is_some (waiting d us)) _ _ (All P) (λ _. rw outer-take at (All-take P (length us - 1) us h)) (λ _. h))
