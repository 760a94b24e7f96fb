-- Parts of rows, and where blocks begin.
use Rattle.bidi_base.proofs.Common.{◌≡◌, ◌∙◌, ℕ, zero, suc, ◌+◌, ◌-◌, ◌*◌, ◌/◌, ◌<◌, ◌++◌, List, length, get_or, map, flat_map, take, drop, max, subst, arith, common_steps, All, range_with_len}
use Rattle.bidi_base.proofs.Common.{add-one, drop-take, flat_map_more, map-append, take-append-drop, take-take, take_all, flat_map-append, take-map, drop-map, length-range_with_len}
use Rattle.bidi_base.proofs.Common.{get_or-range_with_len, All-drop, All-take}
use Rattle.std.proofs.Math.Nat.{mul_comm}
use Rattle.bidi_controls.proofs.IndexLemmas.{next_index}
use Rattle.bidi_explain.specs.Blocks.{block_at, block_count, blocks_of, part_of}
use Rattle.bidi_explain.specs.declared.blocks.Block.{Block}

-- a part of a row, cell by cell
pub map-part : {A B : Type 0} (f : A → B) (block : Block) (items : List A) → map f (part_of block items) ≡ part_of block (map f items)
map-part f block items = simp (take-map, drop-map)

-- what holds of a row holds of its part
pub All-part : {A : Type 0} (P : A → Type 0) (block : Block) (items : List A) → All P items → All P (part_of block items)
All-part P block items all = All-take P block.columns _ (All-drop P block.from items all)

-- the indexes of a list are its own
pub indexes-within : (len : ℕ) → All (λ p. p < len) (range_with_len 0 len)
indexes-within len k d below = grind (arith, length-range_with_len, get_or-range_with_len)

-- what is written of one more item
pub one_more : {A : Type 0} (f : A → List ℕ) (items : List A) (i : ℕ) (d : A) (out before after : List ℕ) → i < length items
    → before ≡ out ++ flat_map f (take i items) → after ≡ before ++ f (get_or items i d) → after ≡ out ++ flat_map f (take (i + 1) items)
one_more f items i d out before after within so_far more = grind (arith, common_steps, flat_map_more)

-- a part after a beginning
take-further : {A : Type 0} (n m : ℕ) (items : List A) → take n items ++ take m (drop n items) ≡ take (n + m) items
take-further n m items = simp (take-take n (n + m) items (omega arith), drop-take) at (take-append-drop n (take (n + m) items))

-- the first blocks have the first columns
first-blocks : {A : Type 0} (columns n : ℕ) (items : List A) → flat_map (λ b. part_of b items) (map (block_at columns) (range_with_len 0 n)) ≡ take (n * columns) items
first-blocks columns zero items = grind (arith, common_steps)
first-blocks {A} columns (suc n) items =
    let P : ℕ → Type 0 = λ k. flat_map (λ b. part_of b items) (map (block_at columns) (range_with_len 0 k)) ≡ take (k * columns) items in
    let next : (n + 1) * columns ≡ n * columns + columns = grind arith in
    subst P (add-one n)
    (simp (next_index n, map-append, flat_map-append, first-blocks columns n items, next) (grind (arith, common_steps, take-further (n * columns) columns items)))

-- all blocks together have each column once, in order
pub all-blocks : {A : Type 0} (columns : ℕ) (items : List A) → 0 < columns → flat_map (λ b. part_of b items) (blocks_of columns (length items)) ≡ items
all-blocks columns items some =
    let last : ℕ = max (length items) 1 - 1 in
    let next : (last / columns + 1) * columns ≡ last / columns * columns + columns = grind arith in
    let same : last / columns * columns ≡ columns * (last / columns) = mul_comm (last / columns) columns in
    first-blocks columns (block_count columns (length items)) items ∙ take_all (block_count columns (length items) * columns) items (omega (arith, next, same))
