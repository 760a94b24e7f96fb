-- L1 along a line: the level that each place takes, and what a pass over the line keeps true.
use Rattle.bidi_base.proofs.Common.{◌≡◌, ℕ, zero, suc, ◌+◌, ◌-◌, ◌<◌, ◌≤◌, ◌≢◌, if◌then◌else◌, ◌&&◌, ◌||◌, Bool, true, false, not, nat_lt, List, [], ◌∷◌, length, get_or, drop, set, refl, sym, ap}
use Rattle.bidi_base.proofs.Common.{◌∙◌, arith, inl, inr, drop-cons, get_or-set_other, get_or-set_same, add-zero, common_steps, nat_tests, same_number_lists, cases_lt, cases_Bool, get_or_default}
use Rattle.bidi_base.proofs.Common.{list_any_at, list_any_none, is_removed, is_odd, has_rtl, is_reset, line_levels_after, line_levels, class_at, length-set, is_separator, is_blank}
use Rattle.bidi_base.specs.declared.char_data.BidiClass.{BidiClass}
use Rattle.bidi_base.specs.declared.char_data.BidiClass.TheVariants.{L}
use Rattle.bidi_lines.specs.ResetStops.{is_stop, is_break_at}

-- ---- classes

pub is_blank-removed : (c : BidiClass) → is_removed c ≡ true → is_blank c ≡ true
is_blank-removed c e = grind arith

pub is_separator-blank : (c : BidiClass) → is_blank c ≡ true → is_separator c ≡ false
is_separator-blank c e = grind arith

-- ---- what is reset

module _ (classes : List BidiClass) where
  pub is_reset-at_blank : (i : ℕ) → i < length classes → is_blank (class_at classes i) ≡ true → is_reset (drop i classes) ≡ is_reset (drop (suc i) classes)
  is_reset-at_blank i fits e = grind (arith, drop-cons classes i L)

  pub is_reset-at_separator : (i : ℕ) → i < length classes → is_separator (class_at classes i) ≡ true → is_reset (drop i classes) ≡ true
  is_reset-at_separator i fits e = grind (arith, drop-cons classes i L)

  pub is_reset-at_other : (i : ℕ) → i < length classes → is_separator (class_at classes i) ≡ false → is_blank (class_at classes i) ≡ false → is_reset (drop i classes) ≡ false
  is_reset-at_other i fits p q = grind (arith, drop-cons classes i L)

  -- blanks up to i are reset if what follows them is
  pub is_reset-blanks : (n k : ℕ) → k + n ≤ length classes → ((j : ℕ) → k ≤ j → j < k + n → is_blank (class_at classes j) ≡ true) → is_reset (drop k classes) ≡ is_reset (drop (k + n) classes)
  is_reset-blanks zero k fits blank = simp (add-zero)
  is_reset-blanks (suc n) k fits blank = grind (arith, is_reset-at_blank k, is_reset-blanks n (suc k))

  pub is_reset-to : (k i : ℕ) → (k ≤ i) × (i ≤ length classes) → ((j : ℕ) → k ≤ j → j < i → is_blank (class_at classes j) ≡ true) → is_reset (drop k classes) ≡ is_reset (drop i classes)
  is_reset-to k i within blank = grind (arith, is_reset-blanks (i - k) k)

  -- what comes before a character that is neither is not reset, up to the separator before it
  is_reset-not : (n k m : ℕ) → k + n ≡ m → m < length classes → ((j : ℕ) → k ≤ j → j ≤ m → is_separator (class_at classes j) ≡ false)
      → is_blank (class_at classes m) ≡ false → is_reset (drop k classes) ≡ false
  is_reset-not zero k m e fits apart other =
      let same : m ≡ k = omega arith in
      is_reset-at_other k (omega arith) (apart k (omega arith) (omega arith)) (simp (← same) other)
  is_reset-not (suc n) k m e fits apart other =
      let after : is_reset (drop (suc k) classes) ≡ false = is_reset-not n (suc k) m (omega arith) fits (λ j low high. apart j (omega arith) high) other in
      elim (cases_Bool (is_blank (class_at classes k))) [
        | inl blank ↦ is_reset-at_blank k (omega arith) blank ∙ after
        | inr none ↦ is_reset-at_other k (omega arith) (apart k (omega arith) (omega arith)) none
      ]

  pub is_reset-before : (k m : ℕ) → (k ≤ m) × (m < length classes) → ((j : ℕ) → k ≤ j → j ≤ m → is_separator (class_at classes j) ≡ false)
      → is_blank (class_at classes m) ≡ false → is_reset (drop k classes) ≡ false
  is_reset-before k m within apart other = is_reset-not (m - k) k m (omega arith) (omega arith) apart other

-- the line's end counts as reset
is_reset-end : (xs : List BidiClass) → is_reset (drop (length xs) xs) ≡ true
is_reset-end [] = refl
is_reset-end (x ∷ xs) = is_reset-end xs

-- ---- the level at a place

-- the level before an index, where `before` stands before the list
abbrev pub level_before : ℕ → List ℕ → ℕ → ℕ
level_before before levels zero = before
level_before before levels (suc i) = get_or levels i 0

pub level_before-more : (before : ℕ) (levels : List ℕ) (i : ℕ) → level_before before levels (i + 1) ≡ get_or levels i 0
level_before-more before levels i = ap (level_before before levels) (let e : i + 1 ≡ suc i = omega arith in e)

pub level_before-same : (before : ℕ) (xs ys : List ℕ) (i : ℕ) → ((k : ℕ) → k < i → get_or xs k 0 ≡ get_or ys k 0) → level_before before xs i ≡ level_before before ys i
level_before-same before xs ys i h = grind arith

-- the level of a character that is not reset
abbrev pub kept_level : ℕ → List BidiClass → List ℕ → List ℕ → ℕ → ℕ
kept_level before classes old new i = if is_removed (class_at classes i) then level_before before new i else get_or old i 0

-- `new` has at i the level that L1 gives
abbrev pub HasLineLevel : ℕ → ℕ → List BidiClass → List ℕ → List ℕ → ℕ → Type 0
HasLineLevel level before classes old new i = get_or new i 0 ≡ (if is_reset (drop i classes) then level else kept_level before classes old new i)

pub length-line_levels_after : (level before : ℕ) (classes : List BidiClass) (levels : List ℕ) → length levels ≡ length classes
    → length (line_levels_after level before classes levels) ≡ length classes
unfolding line_levels_after
length-line_levels_after level before [] levels e = refl
length-line_levels_after level before (c ∷ classes) [] e = absurd (omega arith)
length-line_levels_after level before (c ∷ classes) (o ∷ levels) e = ap suc (length-line_levels_after level _ classes levels (omega arith))

pub length-line_levels : (level : ℕ) (classes : List BidiClass) (levels : List ℕ) → length levels ≡ length classes → length (line_levels level classes levels) ≡ length classes
unfolding line_levels
length-line_levels level classes levels e = length-line_levels_after level level classes levels e

-- the line's list has these levels
line_levels_after-at : (level before : ℕ) (classes : List BidiClass) (levels : List ℕ) (i : ℕ) → i < length classes → length levels ≡ length classes
    → HasLineLevel level before classes levels (line_levels_after level before classes levels) i
unfolding line_levels_after
line_levels_after-at level before [] levels i fits e = absurd (omega arith)
line_levels_after-at level before (c ∷ classes) [] i fits e = absurd (omega arith)
line_levels_after-at level before (c ∷ classes) (o ∷ levels) zero fits e = refl
line_levels_after-at level before (c ∷ classes) (o ∷ levels) (suc zero) fits e = line_levels_after-at level _ classes levels zero (omega arith) (omega arith)
line_levels_after-at level before (c ∷ classes) (o ∷ levels) (suc (suc i)) fits e = line_levels_after-at level _ classes levels (suc i) (omega arith) (omega arith)

pub line_levels-at : (level : ℕ) (classes : List BidiClass) (levels : List ℕ) (i : ℕ) → i < length classes → length levels ≡ length classes
    → HasLineLevel level level classes levels (line_levels level classes levels) i
unfolding line_levels
line_levels-at level classes levels i fits e = line_levels_after-at level level classes levels i fits e

-- a list with these levels everywhere is the line's
pub line_levels-is : (level : ℕ) (classes : List BidiClass) (old new : List ℕ) → length old ≡ length classes → length new ≡ length classes
    → ((i : ℕ) → i < length classes → HasLineLevel level level classes old new i) → new ≡ line_levels level classes old
line_levels-is level classes old new e f h = same_number_lists new (line_levels level classes old) (f ∙ sym (length-line_levels level classes old e)) (λ k fits. same_at k (omega arith))
  where
    same_at : (i : ℕ) → i < length classes → get_or new i 0 ≡ get_or (line_levels level classes old) i 0
    same_at zero fits = simp (h zero fits, line_levels-at level classes old zero fits e)
    same_at (suc i) fits = simp (h (suc i) fits, line_levels-at level classes old (suc i) fits e, same_at i (omega arith))

-- ---- a pass over the line

-- The levels up to i are looked at. Those before `start` are done. From there to i stands no separator, and the levels
-- are those that stay if what follows is not reset. `before` is the level before i.
pub record IsSweptTo (level : ℕ) (classes : List BidiClass) (old new : List ℕ) (start before i : ℕ) : Type 0 where
  pub ordered : start ≤ i
  pub long : length new ≡ length old
  pub done : (k : ℕ) → k < start → HasLineLevel level level classes old new k
  pub apart : (k : ℕ) → start ≤ k → k < i → is_separator (class_at classes k) ≡ false
  pub pending : (k : ℕ) → start ≤ k → k < i → get_or new k 0 ≡ kept_level level classes old new k
  pub rest : (k : ℕ) → i ≤ k → get_or new k 0 ≡ get_or old k 0
  pub last : before ≡ level_before level new i

pub IsSweptTo-start : (level : ℕ) (classes : List BidiClass) (levels : List ℕ) → IsSweptTo level classes levels levels 0 level 0
IsSweptTo-start level classes levels = grind arith

-- what stays where the entries below k stay
stays : (level : ℕ) (classes : List BidiClass) (old xs ys : List ℕ) (k : ℕ) → ((j : ℕ) → j < k → get_or xs j 0 ≡ get_or ys j 0) → kept_level level classes old xs k ≡ kept_level level classes old ys k
stays level classes old xs ys k h = grind arith

done_stays : (level : ℕ) (classes : List BidiClass) (old xs ys : List ℕ) (k : ℕ) → ((j : ℕ) → j < suc k → get_or xs j 0 ≡ get_or ys j 0)
    → HasLineLevel level level classes old xs k → HasLineLevel level level classes old ys k
done_stays level classes old xs ys k h here = grind arith

-- the part from `from` to `to` of a list is written with one level
pub record IsFilled (old new : List ℕ) (from to level : ℕ) : Type 0 where
  pub long : length new ≡ length old
  pub before : (k : ℕ) → k < from → get_or new k 0 ≡ get_or old k 0
  pub inside : (k : ℕ) → from ≤ k → k < to → get_or new k 0 ≡ level
  pub after : (k : ℕ) → to ≤ k → get_or new k 0 ≡ get_or old k 0

module _ (level : ℕ) (classes : List BidiClass) (old new : List ℕ) (start before i to : ℕ) where
  -- a stretch whose levels are those that stay
  swept : i ≤ to → ((k : ℕ) → i ≤ k → k < to → is_separator (class_at classes k) ≡ false)
      → ((k : ℕ) → i ≤ k → k < to → get_or new k 0 ≡ kept_level level classes old new k)
      → IsSweptTo level classes old new start before i → IsSweptTo level classes old new start (level_before level new to) to
  swept order plain same h = record {
    ordered = omega (arith, h.ordered);
    long = h.long;
    done = h.done;
    apart = λ k from below. elim (cases_lt k i) [ inl under ↦ h.apart k from under | inr past ↦ plain k past below ];
    pending = λ k from below. elim (cases_lt k i) [ inl under ↦ h.pending k from under | inr past ↦ same k past below ];
    rest = λ k from. h.rest k (omega arith);
    last = refl;
  }

  -- one of units that are neither separators nor removed
  pub IsSweptTo-plain : i ≤ to → ((k : ℕ) → i ≤ k → k < to → is_stop (class_at classes k) ≡ false)
      → IsSweptTo level classes old new start before i → IsSweptTo level classes old new start (level_before level new to) to
  IsSweptTo-plain order plain h = swept order (λ k a b. grind (arith, plain k a b)) (λ k a b. grind (arith, plain k a b, h.rest k a)) h

  no_break_level : (k : ℕ) → 0 < k → is_break_at classes new k ≡ false → get_or new k 0 ≡ get_or old k 0 → get_or new k 0 ≡ kept_level level classes old new k
  no_break_level zero some no_break same = absurd (omega arith)
  no_break_level (suc k) some no_break same = grind (arith, nat_tests)

  -- one of units that keep the level that they have, or that of the unit before
  pub IsSweptTo-no_break : 0 < i → i ≤ to → ((k : ℕ) → i ≤ k → k < to → is_break_at classes new k ≡ false)
      → IsSweptTo level classes old new start before i → IsSweptTo level classes old new start (level_before level new to) to
  IsSweptTo-no_break some order no_break h =
      swept order (λ k a b. let here = no_break k a b in grind arith) (λ k a b. no_break_level k (omega arith) (no_break k a b) (h.rest k a)) h

module _ (level : ℕ) (classes : List BidiClass) (old new : List ℕ) (start before i : ℕ) where
  -- a removed unit takes the level before it
  pub IsSweptTo-removed : i < length new → is_removed (class_at classes i) ≡ true → IsSweptTo level classes old new start before i → IsSweptTo level classes old (set new i before) start before (i + 1)
  IsSweptTo-removed fits removed h = record {
    ordered = omega (arith, h.ordered);
    long = length-set new i before ∙ h.long;
    done = λ k below. done_stays level classes old new (set new i before) k (λ j under. sym (other j (omega (arith, h.ordered)))) (h.done k below);
    apart = λ k from below. elim (cases_lt k i) [
      | inl under ↦ h.apart k from under
      | inr past ↦ let e : k ≡ i = omega arith in simp e (is_separator-blank (class_at classes i) (is_blank-removed (class_at classes i) removed))
    ];
    pending = λ k from below. elim (cases_lt k i) [
      | inl under ↦ other k (omega arith) ∙ h.pending k from under ∙ stays level classes old new (set new i before) k (λ j lower. sym (other j (omega arith)))
      | inr past ↦ let e : k ≡ i = omega arith in simp (e, removed)
          (get_or-set_same new i before 0 fits ∙ h.last ∙ level_before-same level new (set new i before) i (λ j lower. sym (other j (omega arith))))
    ];
    rest = λ k from. other k (omega arith) ∙ h.rest k (omega arith);
    last = sym (level_before-more level (set new i before) i ∙ get_or-set_same new i before 0 fits);
  }
    where
      other : (k : ℕ) → k ≢ i → get_or (set new i before) k 0 ≡ get_or new k 0
      other k apart = get_or-set_other new i k before 0 apart

-- `start` is where the blanks before `to` begin, or `from`
pub record AreLastBlanks (classes : List BidiClass) (from to start : ℕ) : Type 0 where
  pub begins : from ≤ start
  pub ends : start ≤ to
  pub blank : (k : ℕ) → start ≤ k → k < to → is_blank (class_at classes k) ≡ true
  pub stops : (k : ℕ) → from < start → k + 1 ≡ start → is_blank (class_at classes k) ≡ false

module _ (level : ℕ) (classes : List BidiClass) (old new next : List ℕ) (start before i blanks : ℕ) (b : AreLastBlanks classes start i blanks)
    (h : IsSweptTo level classes old new start before i) where
  -- in front of the last unit that is no blank nothing is reset
  not_reset : i ≤ length classes → (k : ℕ) → start ≤ k → k < blanks → is_reset (drop k classes) ≡ false
  not_reset fits k from below = is_reset-before classes k (blanks - 1) (omega arith, omega (arith, b.ends))
      (λ j low high. h.apart j (omega arith) (omega (arith, b.ends)))
      (b.stops (blanks - 1) (omega arith) (omega arith))

  -- what is before `to` is done, where the blanks are reset
  all_done : (to : ℕ) → i ≤ length classes → ((k : ℕ) → blanks ≤ k → k < to → is_reset (drop k classes) ≡ true) → IsFilled new next blanks to level
      → (k : ℕ) → k < to → HasLineLevel level level classes old next k
  all_done to fits reset f k below = elim (cases_lt k start) [
    | inl under ↦ done_stays level classes old new next k (λ j lower. sym (f.before j (omega (arith, b.begins)))) (h.done k under)
    | inr past ↦ elim (cases_lt k blanks) [
      | inl under ↦ simp (not_reset fits k past under) (f.before k under ∙ h.pending k past (omega (arith, b.ends)) ∙ stays level classes old new next k (λ j lower. sym (f.before j (omega arith))))
      | inr later ↦ simp (reset k later below) (f.inside k later below)
    ]
  ]

  -- a separator is reset, with the blanks before it
  pub IsSweptTo-separator : i < length classes → is_separator (class_at classes i) ≡ true → IsFilled new next blanks (i + 1) level → IsSweptTo level classes old next (i + 1) level (i + 1)
  IsSweptTo-separator fits apart f = record {
    ordered = omega arith;
    long = f.long ∙ h.long;
    done = all_done (i + 1) (omega arith)
        (λ k from below. is_reset-to classes k i (omega arith, omega arith) (λ j low high. b.blank j (omega arith) high) ∙ is_reset-at_separator classes i fits apart) f;
    apart = λ k from below. absurd (omega arith);
    pending = λ k from below. absurd (omega arith);
    rest = λ k from. f.after k from ∙ h.rest k (omega arith);
    last = sym (level_before-more level next i ∙ f.inside i b.ends (omega arith));
  }

  -- at the line's end the blanks are reset
  pub IsSweptTo-end : i ≡ length classes → length old ≡ length classes → IsFilled new next blanks i level → next ≡ line_levels level classes old
  IsSweptTo-end e same f = line_levels-is level classes old next same (f.long ∙ h.long ∙ same) (λ k below. all_done i (omega arith)
      (λ k from below. is_reset-to classes k (length classes) (omega arith, omega arith) (λ j low high. b.blank j (omega arith) (omega arith)) ∙ is_reset-end classes) f k (omega arith))

-- ---- whether some level is odd

-- a character that is not removed shows an odd level: the one passed, or its own
abbrev pub shows_rtl : ℕ → List BidiClass → List ℕ → ℕ → Bool
shows_rtl level classes levels k =
    if is_reset (drop k classes) then is_odd level else (not (is_removed (class_at classes k)) && is_odd (get_or levels k 0))

module _ (level : ℕ) (classes : List BidiClass) (levels : List ℕ) (same : length levels ≡ length classes) where
  -- one such character decides it
  pub has_rtl-shown : (k : ℕ) → k < length classes → shows_rtl level classes levels k ≡ true → has_rtl (line_levels level classes levels) ≡ true
  has_rtl-shown k fits e = grind (arith, list_any_at is_odd (line_levels level classes levels) k 0, length-line_levels, line_levels-at level classes levels k)

  -- and so does a removed one at the line's start
  pub has_rtl-first : 0 < length classes → is_removed (class_at classes 0) ≡ true → is_odd level ≡ true → has_rtl (line_levels level classes levels) ≡ true
  has_rtl-first some removed odd = grind (arith, list_any_at is_odd (line_levels level classes levels) 0 0, length-line_levels, line_levels-at level classes levels 0)

  -- where there is none, no level is odd
  pub has_rtl-none : ((k : ℕ) → k < length classes → shows_rtl level classes levels k ≡ false)
      → (0 < length classes → is_removed (class_at classes 0) ≡ true → is_odd level ≡ false) → has_rtl (line_levels level classes levels) ≡ false
  has_rtl-none none start = list_any_none is_odd (line_levels level classes levels) (λ k d fits. simp (get_or_default (line_levels level classes levels) k d 0 fits, even_at k (omega (arith, length-line_levels level classes levels same))))
    where
      even_at : (k : ℕ) → k < length classes → is_odd (get_or (line_levels level classes levels) k 0) ≡ false
      even_at zero fits = simp (line_levels-at level classes levels zero fits same) (grind (arith, none zero fits, start fits))
      even_at (suc k) fits = simp (line_levels-at level classes levels (suc k) fits same) (grind (arith, none (suc k) fits, even_at k (omega arith)))

  -- where neither the level passed is odd nor a stored one
  pub has_rtl-even : is_odd level ≡ false → has_rtl levels ≡ false → has_rtl (line_levels level classes levels) ≡ false
  has_rtl-even even stored = grind (arith, has_rtl-none, list_any_at)

  -- what the last test says, once no character shows an odd level
  pub has_rtl-end : (first : Bool) → ((k : ℕ) → k < length classes → shows_rtl level classes levels k ≡ false)
      → first ≡ (is_odd level && (nat_lt 0 (length classes) && is_removed (class_at classes 0))) → first ≡ has_rtl (line_levels level classes levels)
  has_rtl-end first none e = grind (arith, has_rtl-first, has_rtl-none)

-- ---- a pass from the line's end

-- the units from `at` on are looked at: none shows an odd level
pub record ShowsNoRtlFrom (level : ℕ) (classes : List BidiClass) (levels : List ℕ) (reset : Bool) (at : ℕ) : Type 0 where
  pub within : at ≤ length classes
  pub reset_next : reset ≡ is_reset (drop at classes)
  pub none : (k : ℕ) → at ≤ k → k < length classes → shows_rtl level classes levels k ≡ false

module _ (level : ℕ) (classes : List BidiClass) (levels : List ℕ) where
  pub ShowsNoRtlFrom-start : ShowsNoRtlFrom level classes levels true (length classes)
  ShowsNoRtlFrom-start = grind (arith, is_reset-end)

  -- what is read at a unit: whether it is reset, and whether it shows an odd level
  pub read-at : (at : ℕ) (next reset shows : Bool) (own : ℕ) → at < length classes → next ≡ is_reset (drop (at + 1) classes)
      → reset ≡ (is_separator (class_at classes at) || (is_blank (class_at classes at) && next)) → own ≡ get_or levels at 0
      → shows ≡ (if reset then is_odd level else (not (is_removed (class_at classes at)) && is_odd own)) → (reset ≡ is_reset (drop at classes)) × (shows ≡ shows_rtl level classes levels at)
  read-at at next reset shows own fits e f g h = grind (arith, common_steps)

  pub ShowsNoRtlFrom-more : (at : ℕ) (next reset : Bool) → at < length classes → reset ≡ is_reset (drop at classes)
      → shows_rtl level classes levels at ≡ false → ShowsNoRtlFrom level classes levels next (at + 1) → ShowsNoRtlFrom level classes levels reset at
  ShowsNoRtlFrom-more at next reset fits e here h = record {
    within = omega arith;
    reset_next = e;
    none = λ k from below. elim (cases_lt at k) [ inl past ↦ h.none k (omega arith) below | inr same ↦ let e : k ≡ at = omega arith in simp (e, here) ];
  }
