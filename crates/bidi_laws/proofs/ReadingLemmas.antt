-- The steps of the pass that reads a paragraph, as its calls leave them.
use Rattle.bidi_base.proofs.Common.{◌≡◌, ℕ, suc, ◌+◌, ◌-◌, ◌<◌, Bool, ◌&&◌, cond, List, [], ◌∷◌, ◌++◌, length, get_or, set, take, drop, Some, refl, sym, ap, subst, ◌∙◌, arith, length-take}
use Rattle.bidi_base.proofs.Common.{length-append, All, Range, take-append-drop, take-take, drop_more, get_or-append-add, All-head, All-tail, is_strong, unit_index, per_unit, class_at, resolved_fsi}
use Rattle.bidi_base.proofs.Common.{innermost, outer, is_fsi, filled, met_units, slice_get}
use Rattle.bidi_base.specs.declared.char_data.BidiClass.{BidiClass}
use Rattle.std.proofs.lemmas.List.{set_split, set-append_right}
use Rattle.bidi_base.proofs.UnitIndexLemmas.{unit_index-more}
use Rattle.bidi_base.proofs.PerUnit.{per_unit-append, take-per_unit, drop-per_unit, get_or-per_unit-unit_index}
use Rattle.bidi_base.proofs.TextLemmas.{HasUnits}
use Rattle.bidi_laws.proofs.StoredSteps.{met_by}

-- what is at the end of a list is innermost
pub innermost-last : {X : Type 0} (xs : List X) → slice_get xs (length xs - 1) ≡ innermost xs
innermost-last [] = refl
innermost-last (x ∷ []) = refl
innermost-last (x ∷ y ∷ xs) =
    let n : suc (suc (length xs)) - 1 ≡ suc (suc (length xs) - 1) = omega arith in rw n (innermost-last (y ∷ xs))

pub outer-take : {X : Type 0} (xs : List X) → take (length xs - 1) xs ≡ outer xs
outer-take [] = refl
outer-take (x ∷ []) = refl
outer-take {X} (x ∷ y ∷ xs) =
    let n : suc (suc (length xs)) - 1 ≡ suc (suc (length xs) - 1) = omega arith in simp (n, outer-take (y ∷ xs))

pub innermost-All : {X : Type 0} (P : X → Type 0) (xs : List X) (x : X) → All P xs → innermost xs ≡ Some x → P x
innermost-All P [] x h e = absurd (cc e)
innermost-All {X} P (y ∷ []) x h e = let same : y ≡ x = cc e in subst P same (All-head P y [] h)
innermost-All P (y ∷ z ∷ xs) x h e = innermost-All P (z ∷ xs) x (All-tail P y (z ∷ xs) h) e

-- ---- one value for each code unit, if the value of one character changes

-- the units of a character
abbrev pub char_units : (ℕ → ℕ) → List ℕ → ℕ → Range ℕ
char_units len_of chars k = record { start = unit_index len_of chars k; end = unit_index len_of chars (k + 1) }

-- they stay where more characters are read
pub char_units-take : (len_of : ℕ → ℕ) (chars : List ℕ) (n k : ℕ) → k < n → char_units len_of (take n chars) k ≡ char_units len_of chars k
char_units-take len_of chars n k within = grind (arith, take-take)

module _ {X : Type 0} (len_of : ℕ → ℕ) (chars : List ℕ) (values : List X) (long : length values ≡ length chars) (k : ℕ) (within : k < length chars) where
  pub per_unit-set : (x : X) → per_unit len_of chars (set values k x) ≡ filled (char_units len_of chars k) x (per_unit len_of chars values)
  per_unit-set x =
      let more : suc k ≡ k + 1 = omega arith in
      let c : ℕ = get_or chars k 0 in
      let cut : chars ≡ take k chars ++ c ∷ drop (k + 1) chars = grind (arith, take-append-drop, drop_more) in
      let changed : set values k x ≡ take k values ++ x ∷ drop (k + 1) values = grind (arith, set_split) in
      let wide : unit_index len_of chars (k + 1) - unit_index len_of chars k ≡ len_of c = omega (arith, unit_index-more len_of chars k 0 within) in
      ap (per_unit len_of chars) changed ∙ ap (λ (cs : List ℕ). per_unit len_of cs (take k values ++ x ∷ drop (k + 1) values)) cut
      ∙ per_unit-append len_of (take k chars) (c ∷ drop (k + 1) chars) (take k values) (x ∷ drop (k + 1) values) (omega (arith, length-take k values, length-take k chars))
      ∙ simp (wide, take-per_unit len_of chars values k long, drop-per_unit len_of chars values (k + 1) long)

-- an initiator of the paragraph that is read, of whose characters `stored` are the classes, meets a character
pub met_units-char : (len_of : ℕ → ℕ) → HasUnits len_of → (chars : List ℕ) (front stored : List BidiClass) (class : BidiClass) (q : ℕ) → length front + length stored ≡ length chars → q < length stored
    → met_units class (Some (char_units len_of chars (length front + q))) (per_unit len_of chars (front ++ stored)) ≡ per_unit len_of chars (front ++ met_by class (Some q) stored)
met_units-char len_of units chars front stored class q long within =
    let k : ℕ = length front + q in
    let all : length (front ++ stored) ≡ length chars = omega (arith, length-append front stored) in
    let inside : k < length chars = omega arith in
    let read : class_at (per_unit len_of chars (front ++ stored)) (unit_index len_of chars k) ≡ class_at stored q =
    grind (arith, get_or-per_unit-unit_index, get_or-append-add) in
    let place_in : length front + q - length front ≡ q = omega arith in
    let changed : set (front ++ stored) k (resolved_fsi (Some class)) ≡ front ++ set stored q (resolved_fsi (Some class)) =
    grind (arith, set-append_right) in
    simp read
    (by_tests (is_strong class) (is_fsi (class_at stored q)) (sym (per_unit-set len_of chars (front ++ stored) all k inside (resolved_fsi (Some class))) ∙ ap (per_unit len_of chars) changed))
  where
    by_tests : (s f : Bool) {us : List BidiClass} → us ≡ per_unit len_of chars (front ++ set stored q (resolved_fsi (Some class)))
        → cond s (cond f us (per_unit len_of chars (front ++ stored))) (per_unit len_of chars (front ++ stored)) ≡ per_unit len_of chars (front ++ cond (s && f) (set stored q (resolved_fsi (Some class))) stored)
    by_tests s f e = grind arith
