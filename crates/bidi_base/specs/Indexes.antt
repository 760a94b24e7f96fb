-- Indexes of a list, and rules that read an element with what is before and after it.
use Rattle.std.specs.Prelude.{ℕ, zero, suc, ◌-◌, ◌==◌, Bool, false, List, [], ◌∷◌, length, get_or, reverse, find, Option, Some, None, unwrap_or, count_by}
use Rattle.std.specs.List.{range_with_len}
use Rattle.std.specs.Option.{option_map_or}
use Rattle.bidi_base.specs.declared.char_data.BidiClass.{BidiClass}
use Rattle.bidi_base.specs.declared.char_data.BidiClass.TheVariants.{L}

-- the numbers from `low` up to `high`, without `high`
abbrev pub between : ℕ → ℕ → List ℕ
between low high = range_with_len low (high - low)

-- the indexes of a list
abbrev pub indexes : {X : Type 0} → List X → List ℕ
indexes xs = range_with_len 0 (length xs)

-- the class at an index, or L past the end
abbrev pub class_at : List BidiClass → ℕ → BidiClass
class_at classes p = get_or classes p L

-- the elements at the indexes, or d past the end
abbrev pub at_indexes : {X : Type 0} → X → List X → List ℕ → List X
at_indexes d xs [] = []
at_indexes d xs (p ∷ ps) = get_or xs p d ∷ at_indexes d xs ps

-- the last element that passes the test
abbrev pub find_last : {X : Type 0} → (X → Bool) → List X → Option X
find_last test xs = find test (reverse xs)

-- the first element that passes the test, or else d; it is the nearest one if the list begins with what is nearest
abbrev pub nearest : {X : Type 0} → (X → Bool) → List X → X → X
nearest test xs d = unwrap_or (find test xs) d

-- a rule applied at each element of a list at once: it reads those before, nearest first, the element, and those after
abbrev pub in_context : {X Y : Type 0} → (List X → X → List X → Y) → List X → List X → List Y
in_context rule before [] = []
in_context rule before (x ∷ after) = rule before x after ∷ in_context rule (x ∷ before) after

-- how many indexes from `low` up to `high` pass the test
abbrev pub count_between : (ℕ → Bool) → ℕ → ℕ → ℕ
count_between test low high = count_by test (between low high)

-- there is a number, and it is n
abbrev pub holds_number : Option ℕ → ℕ → Bool
holds_number None n = false
holds_number (Some m) n = m == n

-- the numbers to which `next` leads from a first one, if there is one: at most n of them, with the first one
abbrev pub chain : (ℕ → Option ℕ) → ℕ → Option ℕ → List ℕ
chain next zero p = []
chain next (suc n) None = []
chain next (suc n) (Some p) = p ∷ chain next n (next p)

-- the first element, and the last one, or else d
abbrev pub first_or : {X : Type 0} → X → List X → X
first_or d [] = d
first_or d (x ∷ xs) = x

abbrev pub last_or : {X : Type 0} → X → List X → X
last_or d [] = d
last_or d (x ∷ xs) = last_or x xs

-- an element passes the first test, and the nearest such element also passes the second
abbrev pub nearest_is : {X : Type 0} → (X → Bool) → (X → Bool) → List X → Bool
nearest_is test goal xs = option_map_or goal (find test xs) false
