-- N0 pair by pair: what a pair takes, and which characters take it.
use Rattle.bidi_base.proofs.Common.{◌≡◌, ℕ, zero, suc, ◌+◌, ◌-◌, ◌<◌, ◌≤◌, Bool, true, false, ◌&&◌, ◌||◌, cond, eqb, ltb, leb, List, [], ◌∷◌, map, length, get_or, take, drop, reverse, replicate}
use Rattle.bidi_base.proofs.Common.{find, filter_map, Some, None, option_map, is_some, refl, sym, ap, ◌∙◌, arith, length-take, length-drop, common_steps, list_all, list_any, prefix_len}
use Rattle.bidi_base.proofs.Common.{option_map_or, le-leb, take_rest, fill_by_all, length-map-range_with_len, get_or-map-range_with_len, prefix_len-le-length, BidiClass, L, as_direction, is_nsm}
use Rattle.bidi_base.proofs.Common.{same_class, class_at, indexes, nearest_direction, pair_direction, is_mark_after, goes_with_pair, with_pair, n0_pair, n0, slice_range}
use Rattle.std.proofs.lemmas.List.Sums.{fold_more}
use borrow.Rule.Slice.PartMut.{put_mid}
use Rattle.bidi_base.proofs.Lists.{put_mid-after, length-put_mid}

-- a test of the directions, as one of the classes
pub any_direction : (test : BidiClass → Bool) (cs : List BidiClass) → list_any test (filter_map as_direction cs) ≡ list_any (λ c. option_map_or test (as_direction c) false) cs
any_direction test [] = refl
any_direction test (c ∷ cs) = grind (arith, any_direction test cs)

pub some_direction : (x : BidiClass) (cs : List BidiClass)
    → option_map (λ (_ : BidiClass). x) (find (λ _. true) (filter_map as_direction cs)) ≡ cond (list_any (λ c. is_some (as_direction c)) cs) (Some x) None
some_direction x [] = refl
some_direction x (c ∷ cs) = grind (arith, some_direction x cs)

-- what a pair takes, by the two tests
pub pair_direction-tests : (e sos : BidiClass) (classes : List BidiClass) (pair : ℕ × ℕ) (same some : Bool)
    → same ≡ list_any (λ c. option_map_or (same_class e) (as_direction c) false) (slice_range classes (pair.0 + 1) pair.1)
    → some ≡ list_any (λ c. is_some (as_direction c)) (slice_range classes (pair.0 + 1) pair.1)
    → pair_direction e sos classes pair ≡ cond same (Some e) (cond some (Some (nearest_direction sos (reverse (take pair.0 classes)))) None)
unfolding pair_direction
pair_direction-tests e sos classes pair same some k l = simp (any_direction, some_direction, k, l)

-- of the first n elements all pass if at least n do from the front on
list_all-front : (p : BidiClass → Bool) (xs : List BidiClass) (n : ℕ) → n ≤ length xs → list_all p (take n xs) ≡ leb n (prefix_len p xs)
list_all-front p xs zero fits = sym (le-leb 0 (prefix_len p xs) (omega arith))
list_all-front p [] (suc n) fits = absurd (omega arith)
list_all-front p (x ∷ xs) (suc n) fits = grind (arith, list_all-front p xs n)

-- k is a mark after b where it lies within the marks that begin there
is_mark_after-prefix_len : (source_classes : List BidiClass) (b k : ℕ) → b < length source_classes → k < length source_classes
    → is_mark_after source_classes b k ≡ (ltb b k && ltb k (b + 1 + prefix_len is_nsm (drop (b + 1) source_classes)))
unfolding is_mark_after
is_mark_after-prefix_len source_classes b k inside fits = grind (arith, list_all-front, length-drop)

-- the classes once one bracket and the marks after it have taken a direction
abbrev pub with_bracket : List BidiClass → ℕ → List BidiClass → BidiClass → List BidiClass
with_bracket source_classes b classes d = map (λ k. cond (eqb k b || is_mark_after source_classes b k) d (class_at classes k)) (indexes classes)

pub with_bracket-filled : (source_classes classes ys : List BidiClass) (b m : ℕ) (d : BidiClass) → length source_classes ≡ length classes → b < length classes
    → m ≡ prefix_len is_nsm (take (length source_classes - (b + 1)) (drop (b + 1) source_classes))
    → ys ≡ replicate (length (take (b + 1 + m - b) (drop b classes))) d
    → put_mid b (b + 1 + m - b) classes ys ≡ with_bracket source_classes b classes d
with_bracket-filled source_classes classes ys b m d long inside counted filled =
    let marks : m ≡ prefix_len is_nsm (drop (b + 1) source_classes) = counted ∙ ap (prefix_len is_nsm) (take_rest source_classes (b + 1)) in
    let room : b + (1 + m) ≤ length classes = grind (arith, prefix_len-le-length, length-drop) in
    let same : b + 1 + m - b ≡ 1 + m = omega arith in
    let part : length (take (b + 1 + m - b) (drop b classes)) ≡ 1 + m = omega (arith, length-take (b + 1 + m - b) (drop b classes), length-drop b classes) in
    rw (filled, part, same) (fill_by_all (λ k. cond (eqb k b || is_mark_after source_classes b k) d (class_at classes k)) _ (length classes) L (length-put_mid b (1 + m) classes d room)
    (λ k fits. simp (is_mark_after-prefix_len source_classes b k (omega arith) (omega arith), ← marks) (grind (arith, common_steps, put_mid-after))))

pub length-with_bracket : (source_classes classes : List BidiClass) (b : ℕ) (d : BidiClass) → length (with_bracket source_classes b classes d) ≡ length classes
length-with_bracket source_classes classes b d = grind (arith, length-map-range_with_len)

-- both brackets, one after the other
pub with_bracket-both : (source_classes classes : List BidiClass) (pair : ℕ × ℕ) (d : BidiClass) → with_bracket source_classes pair.1 (with_bracket source_classes pair.0 classes d) d ≡ with_pair source_classes pair classes d
unfolding with_pair goes_with_pair
with_bracket-both source_classes classes pair d =
    fill_by_all (λ k. cond (goes_with_pair source_classes pair k) d (class_at classes k)) _ (length classes) L (grind (
      arith,
      length-with_bracket,
    ))
    (λ k fits. grind (arith, get_or-map-range_with_len, length-with_bracket))

-- N0 for one pair, by what it takes
pub n0_pair-Some : (e sos : BidiClass) (source_classes classes : List BidiClass) (pair : ℕ × ℕ) (d : BidiClass) → pair_direction e sos classes pair ≡ Some d
    → n0_pair e sos source_classes classes pair ≡ with_bracket source_classes pair.1 (with_bracket source_classes pair.0 classes d) d
unfolding n0_pair
n0_pair-Some e sos source_classes classes pair d is = rw (is, with_bracket-both source_classes classes pair d) refl

pub n0_pair-None : (e sos : BidiClass) (source_classes classes : List BidiClass) (pair : ℕ × ℕ) → pair_direction e sos classes pair ≡ None → n0_pair e sos source_classes classes pair ≡ classes
unfolding n0_pair
n0_pair-None e sos source_classes classes pair is = grind arith

pub n0-none : (e sos : BidiClass) (source_classes classes : List BidiClass) → n0 e sos source_classes [] classes ≡ classes
unfolding n0
n0-none e sos source_classes classes = refl

pub n0-more : (e sos : BidiClass) (source_classes classes : List BidiClass) (pairs : List (ℕ × ℕ)) (i : ℕ) (d : ℕ × ℕ) → i < length pairs
    → n0 e sos source_classes (take (i + 1) pairs) classes ≡ n0_pair e sos source_classes (n0 e sos source_classes (take i pairs) classes) (get_or pairs i d)
unfolding n0
n0-more e sos source_classes classes pairs i d fits = fold_more (n0_pair e sos source_classes) classes pairs i d fits
