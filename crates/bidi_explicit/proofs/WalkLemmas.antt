-- Ranges in order, and the walks over the units of some of them.
use Rattle.bidi_base.proofs.Common.{◌≡◌, ℕ, zero, suc, ◌+◌, ◌-◌, ◌<◌, ◌≤◌, true, List, [], ◌∷◌, ◌++◌, length, map, get_or, take, drop, reverse, Some, append-nil, refl, sym, ap, ◌∙◌, arith, IsTrue}
use Rattle.bidi_base.proofs.Common.{map-append, reverse-append, get_or-map, flat_map-append, MakesProgress, item_count, Range, between, bounds, are_ordered_from, are_ordered, units_in_runs}
use Rattle.bidi_base.proofs.Common.{is_run_sequence}
use Rattle.std.proofs.lemmas.Slice.{between_to_end}
use Rattle.bidi_base.specs.declared.char_data.BidiClass.{BidiClass}
use Rattle.bidi_base.specs.Units.{units_from, units_below}
use Rattle.bidi_base.proofs.PlacesLemmas.{range_with_len-more}

-- what is where a list of runs has none
abbrev pub no_range : Range ℕ
no_range = record { start = 0; end = 0 }

-- what one range says
pub record IsOrderedFront (low : ℕ) (r : ℕ × ℕ) (runs : List (ℕ × ℕ)) : Type 0 where
  pub from : low ≤ r.0
  pub not_empty : r.0 < r.1
  pub later : are_ordered_from r.1 runs ≡ true

pub are_ordered-front : (low : ℕ) (r : ℕ × ℕ) (runs : List (ℕ × ℕ)) → are_ordered_from low (r ∷ runs) ≡ true → IsOrderedFront low r runs
are_ordered-front low r runs h = grind arith

pub are_ordered-lower : (low from : ℕ) (runs : List (ℕ × ℕ)) → low ≤ from → are_ordered_from from runs ≡ true → are_ordered_from low runs ≡ true
are_ordered-lower low from [] order h = refl
are_ordered-lower low from (r ∷ runs) order h = grind arith

pub are_ordered-take : (low k : ℕ) (runs : List (ℕ × ℕ)) → are_ordered_from low runs ≡ true → are_ordered_from low (take k runs) ≡ true
are_ordered-take low zero runs h = refl
are_ordered-take low (suc k) [] h = refl
are_ordered-take low (suc k) (r ∷ runs) h = grind (arith, are_ordered-front low r runs h, are_ordered-take r.1 k runs)

pub are_ordered-drop : (low k : ℕ) (runs : List (ℕ × ℕ)) → are_ordered_from low runs ≡ true → are_ordered_from low (drop k runs) ≡ true
are_ordered-drop low zero runs h = h
are_ordered-drop low (suc k) [] h = refl
are_ordered-drop low (suc k) (r ∷ runs) h = grind (
  arith,
  are_ordered-front low r runs h,
  are_ordered-drop r.1 k runs,
  are_ordered-lower low r.1 (drop k runs),
)

-- the ranges before the last, and the last
pub are_ordered-last : (low : ℕ) (runs : List (ℕ × ℕ)) (r : ℕ × ℕ) → are_ordered_from low (runs ++ r ∷ []) ≡ true → (are_ordered_from low runs ≡ true) × (r.0 < r.1)
are_ordered-last low [] r h = (refl, (are_ordered-front low r [] h).not_empty)
are_ordered-last low (q ∷ runs) r h = grind (arith, are_ordered-front low q (runs ++ r ∷ []) h, are_ordered-last q.1 runs r)

-- the first number of a range, and the last
pub between-first : (low high : ℕ) → low < high → between low high ≡ low ∷ between (low + 1) high
between-first low high order = grind arith

-- upwards: the first unit of the next range
pub forwards_run : (at end : ℕ) (all later : List (ℕ × ℕ)) (r : ℕ × ℕ) → end ≤ at → are_ordered all ≡ true → all ≡ r ∷ later
    → between at end ++ units_in_runs all ≡ r.0 ∷ (between (r.0 + 1) r.1 ++ units_in_runs later)
forwards_run at end all later r order h e = grind (arith, between-first)

pub backwards_unit : (start at : ℕ) (earlier : List (ℕ × ℕ)) → start < at → reverse (units_in_runs earlier ++ between start at) ≡ (at - 1) ∷ reverse (units_in_runs earlier ++ between start (at - 1))
backwards_unit start at earlier order = grind (arith, range_with_len-more, reverse-append)

pub backwards_run : (start at : ℕ) (all earlier : List (ℕ × ℕ)) (r : ℕ × ℕ) → at ≤ start → are_ordered all ≡ true → all ≡ earlier ++ r ∷ []
    → reverse (units_in_runs all ++ between start at) ≡ (r.1 - 1) ∷ reverse (units_in_runs earlier ++ between r.0 (r.1 - 1))
backwards_run start at all earlier r order h e = grind (arith, are_ordered-last, append-nil, backwards_unit, flat_map-append) steps 400000

-- a step of an iterator that gives the list `rest`
pub walks_on : {S : Type 0} (can : S → Type 0) (rest : S → List ℕ) (s t : S) (x : ℕ) → rest s ≡ x ∷ rest t → can t → MakesProgress can (item_count rest) s (Some x) t
walks_on can rest s t x e ready = grind arith steps 400000

-- the ranges after one, and those before it
pub later_ranges : (runs later : List (Range ℕ)) (run : Range ℕ) → runs ≡ run ∷ later → IsTrue (are_ordered (map bounds runs)) → IsTrue (are_ordered (map bounds later))
later_ranges runs later run e h = grind (arith, are_ordered-lower)

pub earlier_ranges : (runs earlier : List (Range ℕ)) (run : Range ℕ) → runs ≡ earlier ++ run ∷ [] → IsTrue (are_ordered (map bounds runs))
    → IsTrue (are_ordered (map bounds earlier)) × (run.start < run.end)
earlier_ranges runs earlier run e h = grind (arith, are_ordered-last, map-append)

-- where a walk upwards begins: `read` is the slice of the ranges, and `run` the one at an index
map-drop : {X Y : Type 0} (f : X → Y) (k : ℕ) (xs : List X) → map f (drop k xs) ≡ drop k (map f xs)
map-drop f zero xs = refl
map-drop f (suc k) [] = refl
map-drop f (suc k) (x ∷ xs) = map-drop f k xs

pub map-take : {X Y : Type 0} (f : X → Y) (k : ℕ) (xs : List X) → map f (take k xs) ≡ take k (map f xs)
map-take f zero xs = refl
map-take f (suc k) [] = refl
map-take {Y = Y} f (suc k) (x ∷ xs) = ap {B = List Y} (λ ys. f x ∷ ys) (map-take f k xs)

range_at : (runs : List (Range ℕ)) (run : Range ℕ) (k : ℕ) → run ≡ get_or runs k run → k < length runs → get_or (map bounds runs) k (0, 0) ≡ bounds run
range_at runs run k e fits = get_or-map bounds runs k run (0, 0) fits ∙ ap bounds (sym e)

pub part_after : (runs read : List (Range ℕ)) (k : ℕ) → read ≡ runs → map bounds (take (length read - k) (drop k read)) ≡ drop k (map bounds runs)
part_after runs read k e = grind (arith, between_to_end, map-drop)

part_before : (runs read : List (Range ℕ)) (k : ℕ) → read ≡ runs → map bounds (take k read) ≡ take k (map bounds runs)
part_before runs read k e = ap (λ (xs : List (Range ℕ)). map bounds (take k xs)) e ∙ map-take bounds k runs

pub forwards-in_order : (runs read : List (Range ℕ)) (k : ℕ) → read ≡ runs → IsTrue (are_ordered (map bounds runs)) → IsTrue (are_ordered (map bounds (take (length read - k) (drop k read))))
forwards-in_order runs read k e h = grind (arith, part_after, are_ordered-drop) steps 400000

pub backwards-in_order : (runs read : List (Range ℕ)) (k : ℕ) → read ≡ runs → IsTrue (are_ordered (map bounds runs)) → IsTrue (are_ordered (map bounds (take k read)))
backwards-in_order runs read k e h = grind (arith, part_before, are_ordered-take) steps 400000

pub forwards-start : (runs read : List (Range ℕ)) (run : Range ℕ) (pos k : ℕ) → read ≡ runs → run ≡ get_or runs k run → k < length runs
    → between pos run.end ++ units_in_runs (map bounds (take (length read - (k + 1)) (drop (k + 1) read))) ≡ units_from (map bounds runs) pos k
forwards-start runs read run pos k e is fits = grind (arith, part_after, range_at)

pub backwards-start : (runs read : List (Range ℕ)) (run : Range ℕ) (pos k : ℕ) → read ≡ runs → run ≡ get_or runs k run → k < length runs
    → reverse (units_in_runs (map bounds (take k read)) ++ between run.start pos) ≡ units_below (map bounds runs) pos k
backwards-start runs read run pos k e is fits = grind (arith, part_before, range_at)

-- what a sequence has
pub is_run_sequence-ordered : (runs : List (ℕ × ℕ)) (sos eos : BidiClass) → IsTrue (is_run_sequence runs sos eos) → IsTrue (are_ordered runs)
is_run_sequence-ordered runs sos eos h = grind arith steps 400000
