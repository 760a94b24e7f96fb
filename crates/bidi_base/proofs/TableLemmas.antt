-- What a table of ranges and one of brackets answer, by indexes, and when a table has a fault.
use Rattle.bidi_base.proofs.Common.{◌≡◌, ℕ, zero, suc, ◌+◌, ◌-◌, ◌<◌, ◌≤◌, true, false, min, List, length, get_or, take, drop, replicate, find, Option, Some, None, is_some, option_and_then}
use Rattle.bidi_base.proofs.Common.{ap, ◌∙◌, arith, common_steps, length-take-le, nat_tests, BidiClass, L, between, indexes, table_class, is_member, range_at, fault_at}
use borrow.Rule.Slice.PartMut.{put_mid}
use Rattle.bidi_base.specs.declared.data_source.TableError.{TableError}
use Rattle.bidi_base.specs.Source.{in_range, bracket_in, table_bracket, table_fault}
use Rattle.bidi_base.proofs.PlacesLemmas.{find-between, find-between-is, find-between-is_None, find-between-None}
use Rattle.bidi_base.proofs.Lists.{find-first, find-none, put_mid-after}

-- the bracket where an entry holds the character and none before it does, and where none does
pub table_bracket-at : (brackets : List (ℕ × ℕ × Option ℕ)) (c i : ℕ) → i < length brackets
    → is_member c (get_or brackets i (0, 0, None)) ≡ true → ((k : ℕ) → k < i → is_member c (get_or brackets k (0, 0, None)) ≡ false)
    → table_bracket brackets c ≡ Some (bracket_in (get_or brackets i (0, 0, None)) c)
table_bracket-at brackets c i below holds before = grind (arith, find-first)

pub table_bracket-none : (brackets : List (ℕ × ℕ × Option ℕ)) (c : ℕ) → ((k : ℕ) → k < length brackets → is_member c (get_or brackets k (0, 0, None)) ≡ false) → table_bracket brackets c ≡ None
table_bracket-none brackets c none = grind (arith, find-none (is_member c) brackets (0, 0, None) none)

-- the indexes of a list as the numbers from 0 up to its length
indexes_between : (ranges : List (ℕ × ℕ × BidiClass)) → between 0 (length ranges) ≡ indexes ranges
indexes_between ranges = grind arith

-- the fault of a table where one range is faulty and none before it is, and where none is
pub table_fault-first : (ranges : List (ℕ × ℕ × BidiClass)) (i : ℕ) (e : TableError) → i < length ranges → fault_at ranges i ≡ Some e
    → ((k : ℕ) → k < i → fault_at ranges k ≡ None) → table_fault ranges ≡ Some e
table_fault-first ranges i e below faulty before =
    let found = find-between-is (λ k. is_some (fault_at ranges k)) 0 (length ranges) i (grind arith) in
    ap (option_and_then (fault_at ranges)) (rw (indexes_between ranges) at found) ∙ faulty

pub table_fault-none : (ranges : List (ℕ × ℕ × BidiClass)) → ((i : ℕ) → i < length ranges → fault_at ranges i ≡ None) → table_fault ranges ≡ None
table_fault-none ranges none =
    let found : find (λ k. is_some (fault_at ranges k)) (indexes ranges) ≡ None = grind (arith, find-between-is_None) in
    simp found

-- a range with no fault
pub fault_at-in_order : (ranges : List (ℕ × ℕ × BidiClass)) (i : ℕ) → fault_at ranges i ≡ None
    → ((range_at ranges i).0 ≤ (range_at ranges i).1) × (0 < i → (range_at ranges (i - 1)).1 < (range_at ranges i).0)
fault_at-in_order ranges i h = grind arith

-- in a table with no fault each range is in order, and begins after the end of every one before it
pub faultless-at : (ranges : List (ℕ × ℕ × BidiClass)) (i : ℕ) → table_fault ranges ≡ None → i < length ranges → fault_at ranges i ≡ None
faultless-at ranges i none below = grind (arith, find-between-None (λ k. is_some (fault_at ranges k)) 0 (length ranges) (grind (arith, find-between)) i)

pub faultless-in_order : (ranges : List (ℕ × ℕ × BidiClass)) (i : ℕ) → table_fault ranges ≡ None → i < length ranges → (range_at ranges i).0 ≤ (range_at ranges i).1
faultless-in_order ranges i none below = (fault_at-in_order ranges i (faultless-at ranges i none below)).0

pub faultless-ascending : (ranges : List (ℕ × ℕ × BidiClass)) (i j : ℕ) → table_fault ranges ≡ None → i < j → j < length ranges → (range_at ranges i).1 < (range_at ranges j).0
faultless-ascending ranges i zero none before below = absurd (omega arith)
faultless-ascending ranges i (suc j) none before below = grind (arith, fault_at-in_order, faultless-at, faultless-ascending ranges i j none, faultless-in_order)

-- one range against a character, and so all before it or all from it on
pub all_before : (ranges : List (ℕ × ℕ × BidiClass)) (c i : ℕ) → table_fault ranges ≡ None → i < length ranges → (range_at ranges i).1 < c → (k : ℕ) → k < i + 1 → (range_at ranges k).1 < c
all_before ranges c i none below h k earlier = grind (arith, faultless-ascending, faultless-in_order)

pub all_after : (ranges : List (ℕ × ℕ × BidiClass)) (c i : ℕ) → table_fault ranges ≡ None → c < (range_at ranges i).0 → (k : ℕ) → i ≤ k → k < length ranges → c < (range_at ranges k).0
all_after ranges c i none h k later below = grind (arith, faultless-ascending, faultless-in_order)

-- the class of a character that a range holds, and of one that lies between all ranges
pub table_class-holder : (ranges : List (ℕ × ℕ × BidiClass)) (c i : ℕ) → table_fault ranges ≡ None → i < length ranges
    → (range_at ranges i).0 ≤ c → c ≤ (range_at ranges i).1 → table_class ranges c ≡ (range_at ranges i).2
table_class-holder ranges c i none below from to =
    grind (arith, nat_tests, find-first (in_range c) ranges i (0, 0, L) below, faultless-ascending ranges)

pub table_class-between : (ranges : List (ℕ × ℕ × BidiClass)) (c low high : ℕ) → high ≤ low
    → ((k : ℕ) → k < low → (range_at ranges k).1 < c) → ((k : ℕ) → high ≤ k → k < length ranges → c < (range_at ranges k).0)
    → table_class ranges c ≡ L
table_class-between ranges c low high met before after = grind (arith, nat_tests, find-none (in_range c) ranges (0, 0, L))

-- the classes of the first characters by the ranges from `i` on, once the part that range `i` holds was filled
pub cached-filled : (kept : ℕ) (ranges : List (ℕ × ℕ × BidiClass)) (i later end : ℕ) (classes part : List BidiClass) → later ≡ i + 1
    → i < length ranges → end ≡ min ((range_at ranges i).1 + 1) kept → (range_at ranges i).0 < end → length classes ≡ kept
    → part ≡ replicate (length (take (end - (range_at ranges i).0) (drop (range_at ranges i).0 classes))) (range_at ranges i).2
    → ((n : ℕ) → n < kept → get_or classes n L ≡ table_class (drop later ranges) n)
    → (n : ℕ) → n < kept → get_or (put_mid (range_at ranges i).0 (end - (range_at ranges i).0) classes part) n L ≡ table_class (drop i ranges) n
cached-filled kept ranges i later end classes part next below at_end some long filled so_far n within = grind (arith, common_steps, length-take-le, put_mid-after)
