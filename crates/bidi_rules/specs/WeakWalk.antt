-- The weak passes in place: what each has done once it has read some code units.
use Rattle.std.specs.Prelude.{◌≡◌, ℕ, ◌+◌, ◌-◌, ◌*◌, ◌/◌, ◌<◌, ◌≤◌, Bool, true, false, ◌||◌, if◌then◌else◌, List, ◌++◌, length, map, get_or, min, nat_lt, slice_range}
use Rattle.std.specs.List.{fold, list_any}
use Rattle.std.specs.Option.{option_map_or}
use Rattle.std.specs.declared.ops.Range.{Range}
use Rattle.bidi_base.specs.declared.char_data.BidiClass.{BidiClass}
use Rattle.bidi_base.specs.declared.char_data.BidiClass.TheVariants.{L}
use Rattle.bidi_base.specs.Classes.{is_kept_in_place}
use Rattle.bidi_base.specs.Indexes.{at_indexes, class_at}
use Rattle.bidi_base.specs.Text.{char_at}
use Rattle.bidi_base.specs.InPlace.{AreWeakTypesResolved, CanResolveWeakTypes}
use Rattle.bidi_base.specs.Units.{bounds, chars_in_runs, in_runs, units_in_runs}
use Rattle.bidi_base.specs.Updated.{IsUpdated}
use Rattle.bidi_base.specs.Weak.{carried}
use Rattle.bidi_rules.specs.declared.weak.w2_w4_w5_w7.Walk.{Walk}
use Rattle.bidi_rules.specs.declared.weak.before.Before.TheVariants.{Other}
use Rattle.bidi_explicit.specs.RunSequence.{borrowed_runs, borrowed_sos}
use Rattle.bidi_explicit.specs.declared.prepare.borrowed.BorrowedSequence.{BorrowedSequence}
use Rattle.bidi_explicit.specs.SequenceUnits.{is_seen, seen_from, seen_units}
use Rattle.bidi_rules.specs.WeakPass.{after_w1, strengthened, next_before, waits, left_over, still_to_come, walked}

-- the classes of a range of code units, as far as there are any
abbrev pub part_of : List BidiClass → ℕ × ℕ → List BidiClass
part_of classes r = let end = min r.1 (length classes) in slice_range classes (min r.0 end) end

-- one of some classes passes the test
abbrev pub is_any_of : (BidiClass → Bool) → List BidiClass → Bool
is_any_of test classes = fold (λ found class. found || test class) false classes

-- a class in some ranges passes the test
abbrev pub is_any : (BidiClass → Bool) → List (Range ℕ) → List BidiClass → Bool
is_any test runs classes = list_any (λ run. is_any_of test (part_of classes (bounds run))) runs

-- the classes of a range; if it has 32 or more, also those of the code units after it, up to a multiple of 32 in all
abbrev pub blocks_of : List BidiClass → ℕ × ℕ → List BidiClass
blocks_of classes r =
    let end = min r.1 (length classes) in
    let start = min r.0 end in
    let wide = min (start + (end - start + 31) / 32 * 32) (length classes) in
    slice_range classes start (if nat_lt (end - start) 32 then end else wide)

abbrev pub is_any_in_blocks : (BidiClass → Bool) → List (Range ℕ) → List BidiClass → Bool
is_any_in_blocks test runs classes = list_any (λ run. is_any_of test (blocks_of classes (bounds run))) runs

-- W1 is done for the code units before i, and the next mark takes `mark`
pub record AreMarked (runs : List (ℕ × ℕ)) (sos : BidiClass) (old now : List BidiClass) (mark : BidiClass) (i : ℕ) : Type 0 where
  pub answers : at_indexes L now (seen_from runs old 0 i)
      ++ after_w1 mark (at_indexes L old (seen_from runs old i (length old)))
      ≡ after_w1 sos (at_indexes L old (seen_units runs old))
  pub unread : (k : ℕ) → i ≤ k → class_at now k ≡ class_at old k
  pub unseen : (k : ℕ) → is_seen runs old k ≡ false → class_at now k ≡ class_at old k
  pub kept : (k : ℕ) → is_kept_in_place (class_at now k) ≡ is_kept_in_place (class_at old k)
  pub takes : is_kept_in_place mark ≡ true
  pub inside : i ≤ length old
  pub long : length now ≡ length old

-- reading the code units from `start` up to `end` of a run continues W1 after a character of the class `before`, and
-- leaves it after one of the class `last`
abbrev pub Marks : ℕ → ℕ → BidiClass → BidiClass → List BidiClass → List BidiClass → Type 0
Marks start end before last now new =
    (runs : List (ℕ × ℕ)) (sos : BidiClass) (old : List BidiClass) → ((k : ℕ) → start ≤ k → k < end → in_runs runs k ≡ true)
    → AreMarked runs sos old now (carried before) start → AreMarked runs sos old new (carried last) end

-- W1 is done
pub record IsMarked (runs : List (ℕ × ℕ)) (sos : BidiClass) (old new : List BidiClass) : Type 0 where
  pub answers : at_indexes L new (seen_units runs old) ≡ after_w1 sos (at_indexes L old (seen_units runs old))
  pub unseen : (k : ℕ) → is_seen runs old k ≡ false → class_at new k ≡ class_at old k
  pub kept : (k : ℕ) → is_kept_in_place (class_at new k) ≡ is_kept_in_place (class_at old k)
  pub long : length new ≡ length old

-- the length of the character that begins at a code unit, or 1 if none begins there
abbrev pub len_at : (ℕ → ℕ) → List ℕ → ℕ → ℕ
len_at len_of chars u = option_map_or (λ e. e.1) (char_at len_of chars u) 1

-- a pass over the code units of some ranges, with the classes that they had at its start
pub record Pass : Type 0 where
  pub runs : List (ℕ × ℕ)
  pub sos : BidiClass
  pub old : List BidiClass
  pub len : ℕ → ℕ

abbrev pub seen : Pass → ℕ → Bool
seen p k = is_seen p.runs p.old k

abbrev pub units : Pass → ℕ → ℕ → List ℕ
units p low high = seen_from p.runs p.old low high

-- the code units from one up to another have the class of the first
abbrev pub AreAlike : List BidiClass → ℕ → ℕ → Type 0
AreAlike classes from to = (k : ℕ) → from ≤ k → k < to → class_at classes k ≡ class_at classes from

-- two for each code unit of some runs: the maximum of iterations of a loop over the runs and their code units
abbrev pub two_a_unit : List (Range ℕ) → ℕ
two_a_unit runs = 2 * length (units_in_runs (map bounds runs))

-- what W1 to W7 require of a sequence that borrows its runs
abbrev pub CanResolveWeak : (ℕ → ℕ) → List ℕ → BorrowedSequence → List BidiClass → Type 0
CanResolveWeak len_of chars sequence old = CanResolveWeakTypes len_of chars (map bounds (borrowed_runs sequence)) old

-- W1 to W7 are done in the sequence
abbrev pub IsWeakResolved : (ℕ → ℕ) → List ℕ → BorrowedSequence → List BidiClass → List BidiClass → Type 0
IsWeakResolved len_of chars sequence old new =
    AreWeakTypesResolved len_of chars (map bounds (borrowed_runs sequence)) (borrowed_sos sequence) old new

-- how many code units a sequence has
abbrev pub unit_count_of : BorrowedSequence → ℕ
unit_count_of sequence = length (units_in_runs (map bounds (borrowed_runs sequence)))

-- how many characters begin in a sequence
abbrev pub char_count_of : (ℕ → ℕ) → List ℕ → BorrowedSequence → ℕ
char_count_of len_of chars sequence = length (chars_in_runs len_of chars (map bounds (borrowed_runs sequence)))

-- what waits begins at `from`, at or after the start of the run `first_run`
pub record AreHeld (p : Pass) (w : Walk) (from : ℕ) : Type 0 where
  pub first : w.first ≡ from
  pub run_fits : w.first_run < length p.runs
  pub run : (get_or p.runs w.first_run (0, 0)).0 ≤ from

-- the pass has read the code units before i, and none from `from` on is written; with the rest of the pass, they get
-- the classes of the whole pass
pub record IsUnderWay (p : Pass) (now : List BidiClass) (w : Walk) (i : ℕ) : Type 0 where
  pub from : ℕ
  pub answers : map left_over (at_indexes L now (units p 0 from))
      ++ walked (class_at p.old) p.len w.strong w.before 0 (length (units p from i)) (units p i (length p.old))
      ≡ walked (class_at p.old) p.len p.sos Other 0 0 (units p 0 (length p.old))
  pub unwritten : (k : ℕ) → from ≤ k → class_at now k ≡ class_at p.old k
  pub unseen : (k : ℕ) → seen p k ≡ false → class_at now k ≡ class_at p.old k
  pub waiting : waits w.before ≡ true → AreHeld p w from
  pub idle : waits w.before ≡ false → from ≡ i
  pub order : from ≤ i
  pub inside : i ≤ length p.old
  pub long : length now ≡ length p.old

-- these code units of the run at an index have one class, which is not BN; if they are a separator that waits, they are
-- one character
pub record IsStretch (p : Pass) (w : Walk) (runs : List (ℕ × ℕ)) (run from to : ℕ) : Type 0 where
  pub runs_are : p.runs ≡ runs
  pub some : from < to
  pub inside : to ≤ length p.old
  pub kept : is_kept_in_place (class_at p.old from) ≡ true
  pub alike : AreAlike p.old from to
  pub single : let next = next_before (strengthened w.strong (class_at p.old from)) w.before in
      still_to_come next (p.len from) ≡ still_to_come next (to - from)
  pub run_fits : run < length runs
  pub run_starts : (get_or runs run (0, 0)).0 ≤ from
  pub run_ends : to ≤ (get_or runs run (0, 0)).1

-- reading the code units from `from` up to `to` of a run leads from the state `before` to the state `after`
abbrev pub Reads : List (ℕ × ℕ) → ℕ → ℕ → ℕ → Walk → Walk → List BidiClass → List BidiClass → Type 0
Reads runs run from to before after old new =
    (p : Pass) → IsStretch p before runs run from to → IsUnderWay p old before from → IsUnderWay p new after to

-- the same for code units of one run, if nothing is written
abbrev pub Passes : ℕ → ℕ → ℕ → Walk → Walk → List BidiClass → Type 0
Passes from to end before after now =
    (p : Pass) (run : ℕ) → run < length p.runs → (get_or p.runs run (0, 0)).0 ≤ from
    → end ≤ (get_or p.runs run (0, 0)).1 → IsUnderWay p now before from → IsUnderWay p now after to

abbrev pub ReadsTo : (ℕ → ℕ) → List (ℕ × ℕ) → ℕ → ℕ → Walk → Walk → List BidiClass → List BidiClass → Type 0
ReadsTo len runs from to before after old new =
    (p : Pass) → p.runs ≡ runs → p.len ≡ len → IsUnderWay p old before from → IsUnderWay p new after to

-- the character that begins at u ends at `end` or before, and its code units have one class
pub record IsWhole (len : ℕ → ℕ) (classes : List BidiClass) (end u : ℕ) : Type 0 where
  pub some : 1 ≤ len u
  pub within : u + len u ≤ end
  pub alike : AreAlike classes u (u + len u)

-- what waits, if something does, begins before u, and before the end of the run `first_run`
pub record WaitsBelow (runs : List (ℕ × ℕ)) (w : Walk) (u : ℕ) : Type 0 where
  pub first_run : w.first_run ≤ length runs
  pub first : waits w.before ≡ true → w.first < u
  pub run : waits w.before ≡ true → w.first < (get_or runs w.first_run (0, 0)).1

-- the code units before this one are resolved, if those before u are read
abbrev pub resolved_to : Walk → ℕ → ℕ
resolved_to w u = if waits w.before then w.first else u

-- W2, W4, W5 and W7 are done: after W3 and W6, the classes will be those of the rules
pub record IsWalked (len : ℕ → ℕ) (runs : List (ℕ × ℕ)) (sos : BidiClass) (old new : List BidiClass) : Type 0 where
  pub answers : map left_over (at_indexes L new (seen_units runs old))
      ≡ walked (class_at old) len sos Other 0 0 (seen_units runs old)
  pub unseen : (k : ℕ) → is_seen runs old k ≡ false → class_at new k ≡ class_at old k
  pub long : length new ≡ length old

-- W3 and W6 have changed the code units from `start` up to `end`, and no others, with one step for each; the count was
-- `before` and is `after`
pub record AreChangedAndCounted (start end : ℕ) (old new : List BidiClass) (before after : ℕ) : Type 0 where
  pub changed : IsUpdated L (λ u. true) left_over start end old new
  pub steps : after ≡ before + (end - start)
