-- The explicit pass by stretches: where no control comes the status stands still, so the characters there have one
-- level and are under one override.
use Rattle.bidi_base.proofs.Common.{◌≡◌, ℕ, zero, suc, ◌+◌, ◌-◌, ◌<◌, ◌≤◌, ◌^◌, Bool, true, false, not, List, [], ◌∷◌, ◌++◌, length, get_or, set, Option, Some, None, refl, sym, ap, subst, ◌∙◌}
use Rattle.bidi_base.proofs.Common.{arith, inl, inr, length-take, eq-eqb, common_steps, cases_Bool, cases_lt, cases_eq, ext_get_or, length-replicate, get_or-append_right, is_kept}
use Rattle.bidi_base.proofs.Common.{is_kept_in_place, is_removed, then_some, class_at, IsFirst, passing, is_kept_at, level_at, State, start, closed, step, state_at}
use Rattle.bidi_base.proofs.Common.{add-zero, if◌then◌else◌, get_or-drop, answer_class, answer_level}
use Rattle.bidi_base.proofs.TextUnitIndexes.{length-per_char, get_or-per_unit, char_index-unit_index, is_boundary-unit_index, unit_index-char_index, unit_index-end, unit_index-le, unit_index-lt, unit_index-mono, unit_index-more, unit_index-zero, unit_of, IsPerChar-from_is_per_char}
use Rattle.bidi_base.specs.Texts.{Encoding, Text, char_index, is_boundary, unit_index, text_len, is_per_char, per_unit, IsPerChar, level_run_ranges}
use Rattle.bidi_base.specs.declared.char_data.BidiClass.{BidiClass}
use Rattle.bidi_base.specs.declared.char_data.BidiClass.TheVariants.{L, BN}
use Rattle.bidi_laws.proofs.ExplicitLemmas.{length-explicit_levels, length-processing_classes, level_at-explicit_levels, class_at-processing_classes}
use Rattle.bidi_base.proofs.PerUnit.{length-per_unit}
use Rattle.bidi_base.proofs.UnitIndexLemmas.{UnitOf}
use Rattle.bidi_laws.proofs.StatusBounds.{state_at-more}
use Rattle.bidi_laws.proofs.StatusMachine.{answer_level-explicit_level}
use Rattle.bidi_base.proofs.TextLemmas.{length-le-text_len}
use Rattle.bidi_base.proofs.UnitsLemmas.{length-from_IsPerChar, per_unit-from_IsPerChar}
use Rattle.bidi_text.proofs.PerCharTests.{class_test}
use Rattle.bidi_base.specs.contracts.char_data.BidiClassPartialEq.TheImpl.{ghosts}
use Rattle.bidi_explicit.specs.RunCutting.{IsCutTo, filled, differs, runs_before, run_start}
use Rattle.bidi_explicit.specs.Control.{is_control}
use Rattle.bidi_explicit.specs.ExplicitStretches.{overridden, open_run_after, runs_after, IsOverridden, Paragraph, stored, levels_of, classes_of, IsReadTo}
use Rattle.bidi_explicit.specs.StepUnit.{count_to, count_of}
use Rattle.bidi_explicit.specs.declared.explicit.StepUnit.{StepUnit}
use Rattle.bidi_explicit.specs.declared.explicit.StepUnit.TheVariants.{Character, CodeUnit}
use Rattle.bidi_explicit.specs.declared.explicit.stretches.OpenRun.{OpenRun}
use Rattle.bidi_explicit.proofs.ExplicitUnits.{CanRead, can_read, length-filled, processing_class-is, level_at as level_of_next, put_at, next_at, text_len-some}
use Rattle.bidi_explicit.proofs.RunCutting.{IsCutTo-start, IsCutTo-removed, IsCutTo-kept, IsCutTo-end, IsCutTo-none}
use Rattle.bidi_explicit.proofs.StackLemmas.{closed-other, opened-other}

-- ---- a part of a list that is written over

filled-inside : {X : Type 0} (from len : ℕ) (x d : X) (units : List X) → from + len ≤ length units → (k : ℕ) → from ≤ k → k < from + len → get_or (filled from len x units) k d ≡ x
filled-inside from len x d units fits k a b = grind (arith, common_steps)

filled-below : {X : Type 0} (from len : ℕ) (x d : X) (units : List X) → from + len ≤ length units → (k : ℕ) → k < from → get_or (filled from len x units) k d ≡ get_or units k d
filled-below from len x d units fits k a = grind (arith, common_steps)

filled-above : {X : Type 0} (from len : ℕ) (x d : X) (units : List X) → from + len ≤ length units → (k : ℕ) → from + len ≤ k → get_or (filled from len x units) k d ≡ get_or units k d
filled-above from len x d units fits k a = grind (arith, length-replicate, get_or-append_right, length-take, get_or-drop) steps 400000

module _ (put : BidiClass) (from at next : ℕ) (old now : List BidiClass) (h : IsOverridden (Some put) from at old now) (begun : from ≤ at) (order : at ≤ next) where
  pub IsOverridden-spared : ((u : ℕ) → at ≤ u → u < next → is_kept_in_place (class_at old u) ≡ false) → IsOverridden (Some put) from next old now
  IsOverridden-spared spared = record {
    inside = λ u a b t. grind (arith, cases_lt u at);
    failing = h.failing;
    below = h.below;
    above = λ u a. h.above u (omega arith);
    same_len = h.same_len;
  }

  pub IsOverridden-more : next ≤ length old → ((u : ℕ) → at ≤ u → u < next → is_kept_in_place (class_at old u) ≡ true) → IsOverridden (Some put) from next old (filled at (next - at) put now)
  IsOverridden-more room kept = record {
    inside = λ u above below t. grind (arith, cases_lt u at, filled-inside, filled-below);
    failing = λ u t. absurd (cc t);
    below = λ u below. grind (arith, filled-below);
    above = λ u above. grind (arith, filled-above);
    same_len = grind (arith, length-filled);
  }

-- ---- a class that is no control

step-plain : (c : BidiClass) (s : State) → is_control c ≡ false → step c s ≡ s
step-plain c s e = grind (arith, closed-other, opened-other)

kept-plain : (c : BidiClass) → is_control c ≡ false → is_kept c ≡ is_kept_in_place c
kept-plain c e = grind arith

-- ---- level runs over several characters

-- what each of some steps keeps
kept_on : (P : ℕ → Type 0) (i n j : ℕ) → i + n ≡ j → ((k : ℕ) → i ≤ k → k < j → P k → P (k + 1)) → P i → P j
kept_on P i zero j is step h = subst P (omega (arith, is)) h
kept_on P i (suc n) j is step h = kept_on P (i + 1) n j (omega arith) (λ k a b. step k (omega arith) b) (step i (omega arith) (omega arith) h)

module _ (len_of : ℕ → ℕ) (chars : List ℕ) (classes : List BidiClass) (levels : List ℕ) where
  same_level : (level : ℕ) → differs (Some level) level ≡ false
  same_level level = ap not (eq-eqb level level refl)

  -- those after a kept one at the same level go with its run
  cut-same : (i j : ℕ) (runs : List (ℕ × ℕ)) (from level : ℕ) → i ≤ j → ((k : ℕ) → i ≤ k → k < j → level ≡ level_at levels k)
      → IsCutTo len_of chars classes levels i runs from (Some level) → IsCutTo len_of chars classes levels j runs from (Some level)
  cut-same i j runs from level order one = kept_on (λ k. IsCutTo len_of chars classes levels k runs from (Some level)) i (j - i) j (omega arith) (λ k a b h. elim (cases_Bool (is_kept_at classes k)) [
    | inl kept ↦ simp (same_level level) at (IsCutTo-kept len_of chars classes levels k runs from (Some level) level kept (one k a b) h)
    | inr gone ↦ IsCutTo-removed len_of chars classes levels k runs from (Some level) gone h
  ])

-- ---- the characters of a paragraph

module _ {encoding : Encoding} (p : Paragraph encoding) (whole : IsPerChar p.text p.original) where
  abbrev place_of : ℕ → ℕ
  place_of k = unit_index p.text k

  original_is : p.original ≡ per_unit p.text (stored p)
  original_is = per_unit-from_IsPerChar L encoding.len_of encoding.positive p.text.chars p.original whole

  stored_long : length (stored p) ≡ length p.text.chars
  stored_long = length-per_char p.text L p.original

  original_long : length p.original ≡ text_len p.text
  original_long = length-from_IsPerChar encoding.len_of p.text.chars p.original whole

  levels_long : length (levels_of p) ≡ length p.text.chars
  levels_long = length-explicit_levels p.level (stored p) ∙ stored_long

  classes_long : length (classes_of p) ≡ length p.text.chars
  classes_long = length-processing_classes p.level (stored p) ∙ stored_long

  class-at_unit : (k j : ℕ) → k < length p.text.chars → j < encoding.len_of (get_or p.text.chars k 0) → class_at p.original (place_of k + j) ≡ class_at (stored p) k
  class-at_unit k j fits below = grind (arith, original_is, get_or-per_unit, stored_long) steps 400000

  class-at_place : (k : ℕ) → k < length p.text.chars → class_at p.original (place_of k) ≡ class_at (stored p) k
  class-at_place k fits = simp add-zero at (class-at_unit k 0 fits (omega (arith, encoding.positive (get_or p.text.chars k 0))))

  -- what is at a unit of a character
  of_unit : {X : Type 0} (d : X) (values : List X) (v : ℕ) (w : UnitOf encoding.len_of p.text.chars v) → length values ≡ length p.text.chars → get_or (per_unit p.text values) v d ≡ get_or values w.index d
  of_unit d values v w long = ap (λ u. get_or (per_unit p.text values) u d) w.at_place ∙ get_or-per_unit p.text values w.index w.offset 0 d long w.within w.below

  -- a unit between two places is one of a character between them
  unit-from : (i v : ℕ) → place_of i ≤ v → (w : UnitOf encoding.len_of p.text.chars v) → i ≤ w.index
  unit-from i v above w = grind (arith, w.at_place, w.below, unit_index-more p.text w.index 0 w.within, unit_index-mono p.text (w.index + 1) i)

  unit-to : (j v : ℕ) → v < place_of j → (w : UnitOf encoding.len_of p.text.chars v) → w.index < j
  unit-to j v below w = grind (arith, unit_index-mono)

  -- a character that begins at unit u, after others, or the end
  record BeginsFrom (i u : ℕ) : Type 0 where
    index : ℕ
    order : i ≤ index
    within : index ≤ length p.text.chars
    there : u ≡ place_of index

  -- the first unit that passes a test is the first one of its character
  first-begins : (test : BidiClass → Bool) (i from to u : ℕ) → from ≡ place_of i → to ≤ length p.original → IsFirst (passing test p.original) from to u → u < to → BeginsFrom i u
  first-begins test i from to u from_is fits h inside =
      let w = unit_of p.text u (omega (arith, original_long)) in
      let order = unit-from i u (omega (arith, h.begins)) w in
      let after = unit_index-mono p.text i w.index order in
      elim (cases_eq w.offset 0) [
        | inl none ↦ grind arith
        | inr some ↦ grind (
          arith,
          h.before (place_of w.index),
          class-at_place w.index w.within,
          class-at_unit w.index w.offset w.within w.below,
        )
      ]

  -- where a stretch without controls ends
  stretch-ends : (i from to : ℕ) → from ≡ place_of i → i ≤ length p.text.chars → IsFirst (passing is_control p.original) from (length p.original) to → BeginsFrom i to
  stretch-ends i from to from_is short h =
      grind (arith, cases_lt to (length p.original), first-begins is_control i from (length p.original) to, original_long, unit_index-end p.text (length p.text.chars))

  -- what holds of the class of each unit holds of each character
  each-char : (test : BidiClass → Bool) (b : Bool) (i j from to : ℕ) → from ≡ place_of i → to ≡ place_of j → j ≤ length p.text.chars
      → ((u : ℕ) → from ≤ u → u < to → test (class_at p.original u) ≡ b) → (k : ℕ) → i ≤ k → k < j → test (class_at (stored p) k) ≡ b
  each-char test b i j from to from_is to_is short each k above below =
      grind (arith, class-at_place k, unit_index-mono p.text i k, unit_index-lt p.text k j, each (place_of k))

  -- where characters i to j are no controls
  module _ (i j : ℕ) (order : i ≤ j) (short : j ≤ length p.text.chars) (plain : (k : ℕ) → i ≤ k → k < j → is_control (class_at (stored p) k) ≡ false) where
    state-to : (k : ℕ) → i ≤ k → k ≤ j → state_at p.level (stored p) k ≡ state_at p.level (stored p) i
    state-to k above upto =
        kept_on (λ m. state_at p.level (stored p) m ≡ state_at p.level (stored p) i) i (k - i) k (omega arith)
        (λ m a b same. simp (state_at-more, step-plain, plain m a (omega arith), same)) refl

    closed-still : (k : ℕ) → i ≤ k → k < j → closed (class_at (stored p) k) (state_at p.level (stored p) k) ≡ state_at p.level (stored p) i
    closed-still k above below = grind (arith, closed-other, state-to)

    level-still : (k : ℕ) → i ≤ k → k < j → get_or (levels_of p) k 0 ≡ (state_at p.level (stored p) i).top.status.level
    level-still k above below =
        grind (arith, level_at-explicit_levels p.level (stored p) k, answer_level-explicit_level p.level (stored p) k, closed-still k, stored_long, plain k)

    class-still : (k : ℕ) → i ≤ k → k < j → class_at (classes_of p) k ≡ overridden (state_at p.level (stored p) i).top.status.override (class_at (stored p) k)
    class-still k above below = grind (arith, class_at-processing_classes p.level (stored p) k, processing_class-is p.level (stored p) k, closed-still k, stored_long, plain k)

-- a search that goes from boundary to boundary finds a boundary
pub first-is_boundary : {encoding : Encoding} (p : Paragraph encoding) → is_per_char ghosts.eq p.text p.original ≡ true → (test : BidiClass → Bool) (from to u : ℕ)
    → is_boundary p.text from ≡ true → is_boundary p.text to ≡ true → to ≤ length p.original → IsFirst (passing test p.original) from to u → is_boundary p.text u ≡ true
first-is_boundary p whole test from to u begins ends fits first = elim (cases_lt u to) [
  | inl inside ↦
      let per_char = IsPerChar-from_is_per_char p.text ghosts.eq class_test p.original whole in
      let b = first-begins p per_char test (char_index p.text from) from to u (sym (unit_index-char_index p.text from begins)) fits first inside in
      ap (is_boundary p.text) b.there ∙ is_boundary-unit_index p.text b.index
  | inr past ↦ let same : u ≡ to = omega (arith, first.ends) in ap (is_boundary p.text) same ∙ ends
]

-- a search may begin after a unit that does not pass
pub IsFirst-from_next : (test : ℕ → Bool) (from to u : ℕ) → test from ≡ false → IsFirst test (from + 1) to u → IsFirst test from to u
IsFirst-from_next test from to u fails first = record {
  begins = omega (arith, first.begins);
  ends = first.ends;
  before = λ k above below. grind (arith, cases_eq k from, first.before k);
  at = first.at;
}

-- and it ends after that unit
pub IsFirst-advances : (test : ℕ → Bool) (from to u : ℕ) → test from ≡ false → from < to → IsFirst test from to u → from < u
IsFirst-advances test from to u fails some first = grind (arith, cases_eq u from, first.at, first.begins)

-- the end of a text is a boundary
pub is_boundary-end : {encoding : Encoding} (text : Text encoding) (units : ℕ) → units ≡ text_len text → is_boundary text units ≡ true
is_boundary-end text units is = ap (is_boundary text) (is ∙ sym (unit_index-end text (length text.chars) (omega arith))) ∙ is_boundary-unit_index text (length text.chars)

-- as many characters are read as begin below the unit
pub read-index : {encoding : Encoding} (p : Paragraph encoding) (u : ℕ) (stack : State) (levels : List ℕ) (classes : List BidiClass) (runs : List (ℕ × ℕ)) (run : OpenRun) (h : IsReadTo p u stack levels classes runs run)
    → char_index p.text u ≡ h.index
read-index p u stack levels classes runs run h = ap (char_index p.text) h.begins ∙ char_index-unit_index p.text h.index h.within

pub read-begins : {encoding : Encoding} (p : Paragraph encoding) (u : ℕ) (stack : State) (levels : List ℕ) (classes : List BidiClass) (runs : List (ℕ × ℕ)) (run : OpenRun)
    → IsReadTo p u stack levels classes runs run → is_boundary p.text u ≡ true
read-begins p u stack levels classes runs run h = grind (arith, is_boundary-unit_index) steps 400000

-- ---- more characters are read

module _ {encoding : Encoding} (p : Paragraph encoding) (at : ℕ) (stack : State) (levels : List ℕ) (classes : List BidiClass) (runs : List (ℕ × ℕ)) (run : OpenRun) (h : IsReadTo p at stack levels classes runs run) (to index : ℕ)
    (begins : to ≡ unit_index p.text index) (order : h.index ≤ index) (within : index ≤ length p.text.chars) where
  read-more : (next : State) (level : ℕ) (now_levels : List ℕ) (now_classes : List BidiClass) (now_runs : List (ℕ × ℕ)) (now : OpenRun) → next ≡ state_at p.level (stored p) index
      → now_levels ≡ filled at (to - at) level levels → ((k : ℕ) → h.index ≤ k → k < index → get_or (levels_of p) k 0 ≡ level)
      → length now_classes ≡ length classes → ((v : ℕ) → v < at → class_at now_classes v ≡ class_at classes v) → ((v : ℕ) → to ≤ v → class_at now_classes v ≡ class_at classes v)
      → ((v : ℕ) → at ≤ v → v < to → (w : UnitOf encoding.len_of p.text.chars v) → h.index ≤ w.index → w.index < index → class_at now_classes v ≡ class_at (classes_of p) w.index)
      → IsCutTo encoding.len_of p.text.chars (stored p) (levels_of p) index now_runs now.start now.last_level → IsReadTo p to next now_levels now_classes now_runs now
  read-more next level now_levels now_classes now_runs now machine filled_is each long below above new cut =
      let upto : to ≤ text_len p.text = omega (arith, begins, unit_index-le p.text index) in
      let from : at ≤ to = omega (arith, begins, h.begins, unit_index-mono p.text h.index index order) in
      let room : at + (to - at) ≤ length levels = omega (arith, h.levels_long) in
      let unit = λ (v : ℕ) (inside : v < to). unit_of p.text v (omega arith) in
      let first = λ (v : ℕ) (a : at ≤ v) (b : v < to). unit-from p h.per_char h.index v (omega (arith, h.begins)) (unit v b) in
      let last = λ (v : ℕ) (b : v < to). unit-to p h.per_char index v (omega (arith, begins)) (unit v b) in
      record {
        per_char = h.per_char;
        index = index;
        begins = begins;
        within = within;
        machine = machine;
        levels_long = simp (filled_is, length-filled at (to - at) level levels room, h.levels_long);
        classes_long = long ∙ h.classes_long;
        levels_written = λ v b. simp filled_is (elim (cases_lt v at) [
          | inl old ↦ filled-below at (to - at) level 0 levels room v old ∙ h.levels_written v old
          | inr a ↦ cc (
            filled-inside at (to - at) level 0 levels room v a (omega arith),
            each (unit v b).index (first v a b) (last v b),
            of_unit p h.per_char 0 (levels_of p) v (unit v b) (levels_long p h.per_char),
          )
        ]);
        classes_written = λ v b. elim (cases_lt v at) [
          | inl old ↦ below v old ∙ h.classes_written v old
          | inr a ↦ cc (new v a b (unit v b) (first v a b) (last v b), of_unit p h.per_char L (classes_of p) v (unit v b) (classes_long p h.per_char))
        ];
        unread = λ v a. above v a ∙ h.unread v (omega arith);
        cut = cut;
      }

-- ---- a stretch is read

module _ {encoding : Encoding} (p : Paragraph encoding) (from to : ℕ) (stack : State) (levels : List ℕ) (classes : List BidiClass) (runs : List (ℕ × ℕ)) (run : OpenRun) (h : IsReadTo p from stack levels classes runs run)
    (stretch : IsFirst (passing is_control p.original) from (length p.original) to) where
  end : BeginsFrom p h.per_char h.index to
  end = stretch-ends p h.per_char h.index from to h.begins h.within stretch

  plain : (k : ℕ) → h.index ≤ k → k < end.index → is_control (class_at (stored p) k) ≡ false
  plain = each-char p h.per_char is_control false h.index end.index from to h.begins end.there end.within stretch.before

  abbrev IsCut : ℕ → List (ℕ × ℕ) → ℕ → Option ℕ → Type 0
  IsCut k rs start last = IsCutTo encoding.len_of p.text.chars (stored p) (levels_of p) k rs start last

  level-here : (k : ℕ) → h.index ≤ k → k < end.index → get_or (levels_of p) k 0 ≡ stack.top.status.level
  level-here k above below = simp h.machine (level-still p h.per_char h.index end.index end.order end.within plain k above below)

  class-here : (k : ℕ) → h.index ≤ k → k < end.index → class_at (classes_of p) k ≡ overridden stack.top.status.override (class_at (stored p) k)
  class-here k above below = simp h.machine (class-still p h.per_char h.index end.index end.order end.within plain k above below)

  kept-as : (b : Bool) (j u : ℕ) → u ≡ unit_index p.text j → j ≤ end.index
      → ((v : ℕ) → from ≤ v → v < u → is_kept_in_place (class_at p.original v) ≡ b) → (k : ℕ) → h.index ≤ k → k < j → is_kept_at (stored p) k ≡ b
  kept-as b j u there upto each k above below =
      grind (arith, kept-plain (class_at (stored p) k), plain k, end.within, each-char p h.per_char is_kept_in_place b h.index j from u h.begins there)

  -- up to the first kept unit
  cut-before : (j u : ℕ) → u ≡ unit_index p.text j → h.index ≤ j → j ≤ end.index
      → ((v : ℕ) → from ≤ v → v < u → is_kept_in_place (class_at p.original v) ≡ false) → IsCut j runs run.start run.last_level
  cut-before j u there order upto none =
      kept_on (λ k. IsCut k runs run.start run.last_level) h.index (j - h.index) j (omega arith)
      (λ k a b. IsCutTo-removed encoding.len_of p.text.chars (stored p) (levels_of p) k runs run.start run.last_level (kept-as false j u there upto none k a b)) h.cut

  cut-some : (v level : ℕ) → level ≡ stack.top.status.level → IsFirst (passing is_kept_in_place p.original) from to v → v < to
      → IsCut end.index (runs_before run.last_level level run.start v runs) (run_start run.last_level level run.start v) (Some level)
  cut-some v level level_is first inside =
      let last = stretch.ends in
      let b = first-begins p h.per_char is_kept_in_place h.index from to v h.begins (omega arith) first inside in
      let below : b.index < end.index = grind (arith, unit_index-mono) in
      let kept : is_kept_at (stored p) b.index ≡ true = cc (kept-plain (class_at (stored p) b.index) (plain b.index b.order below), class-at_place p h.per_char b.index (omega (arith, below, end.within)), b.there, first.at inside) in
      cut-same encoding.len_of p.text.chars (stored p) (levels_of p) (b.index + 1) end.index (runs_before run.last_level level run.start v runs) (run_start run.last_level level run.start v) level (omega arith)
      (λ k above upto. level_is ∙ sym (level-here k (omega (arith, b.order)) upto))
      (simp (← b.there) at (IsCutTo-kept encoding.len_of p.text.chars (stored p) (levels_of p) b.index runs run.start run.last_level level kept (level_is ∙ sym (level-here b.index b.order below))
      (cut-before b.index v b.there b.order (omega arith) first.before)))

  stretch-read : (level : ℕ) (override : Option BidiClass) (now_levels : List ℕ) (now_classes : List BidiClass) (now_runs : List (ℕ × ℕ)) (now : OpenRun)
      → level ≡ stack.top.status.level → override ≡ stack.top.status.override
      → now_levels ≡ filled from (to - from) level levels → IsOverridden override from to classes now_classes → IsCut end.index now_runs now.start now.last_level → IsReadTo p to stack now_levels now_classes now_runs now
  stretch-read level override now_levels now_classes now_runs now level_is override_is filled_is over cut =
      let still = state-to p h.per_char h.index end.index end.order end.within plain end.index end.order
      (omega arith) in
      read-more p from stack levels classes runs run h to end.index end.there end.order end.within stack level now_levels now_classes now_runs now
      (h.machine ∙ sym still) filled_is
      (λ k above below. level-here k above below ∙ sym level_is) over.same_len over.below over.above
      (λ v above below w first last. grind (
        arith,
        over.inside v above below refl,
        h.unread v above,
        class-at_unit,
        class-here,
      )) cut

  module _ (level : ℕ) (override : Option BidiClass) (now_levels : List ℕ) (now_classes : List BidiClass) (level_is : level ≡ stack.top.status.level)
      (override_is : override ≡ stack.top.status.override)
      (filled_is : now_levels ≡ filled from (to - from) level levels) (over : IsOverridden override from to classes now_classes) (v : ℕ) (first : IsFirst (passing is_kept_in_place p.original) from to v) where
    -- its first kept character, if there is one, extends the run
    pub stretch-met : (some : Bool) → (some ≡ true → v < to) → (some ≡ false → to ≤ v) → (kept : Option ℕ) → kept ≡ then_some some v
        → IsReadTo p to stack now_levels now_classes (runs_after kept level run runs) (open_run_after kept level run)
    stretch-met some inside past kept kept_is = elim (cases_Bool some) [
      | inl set ↦ simp (kept_is, set) (stretch-read level override now_levels now_classes _ _ level_is override_is filled_is over (cut-some v level level_is first (inside set)))
      | inr none ↦ simp (kept_is, none) (stretch-read level override now_levels now_classes runs run level_is override_is filled_is over (cut-before end.index to end.there end.order
          (omega arith) (λ u above below. first.before u above (omega (arith, past none)))))
    ]

-- ---- a control is read

module _ {encoding : Encoding} (p : Paragraph encoding) (at : ℕ) (stack : State) (levels : List ℕ) (classes : List BidiClass) (runs : List (ℕ × ℕ)) (run : OpenRun)
    (h : IsReadTo p at stack levels classes runs run) (inside : at < length p.original) where
  control-fits : h.index < length p.text.chars
  control-fits = grind (arith, unit_index-end, original_long)

  control-class : class_at p.original at ≡ class_at (stored p) h.index
  control-class = grind (arith, class-at_place, control-fits) steps 400000

  pub control-can : p.level ≤ 125 → length p.original < 2 ^ 64 → CanRead encoding.len_of p.text.chars p.level (stored p) (class_at p.original at) stack
  control-can low few =
      can_read encoding.len_of p.text.chars p.level (stored p) h.index stack (class_at p.original at) low (omega (arith, control-fits, stored_long p h.per_char))
      (omega (arith, stored_long p h.per_char, length-le-text_len encoding.len_of encoding.positive p.text.chars, original_long p h.per_char)) control-class h.machine

  -- where it ends
  abbrev pub Ends : ℕ → Type 0
  Ends next = (k : ℕ) → k < length p.text.chars → at ≡ unit_index p.text k → next ≡ unit_index p.text (k + 1)

  pub control-index : (next : ℕ) → Ends next → char_index p.text next ≡ char_index p.text at + 1
  control-index next ends =
      cc (ends h.index control-fits h.begins, char_index-unit_index p.text (h.index + 1) (omega (arith, control-fits)), read-index p at stack levels classes runs run h)

  pub control-some : (next : ℕ) → Ends next → at < next
  control-some next ends = grind (arith, control-fits, unit_index-lt) steps 400000

  module _ (next : ℕ) (ends : Ends next) (now : State) (level : ℕ) (put : BidiClass) (now_is : now ≡ step (class_at p.original at) stack)
      (level_is : level ≡ answer_level p.level (class_at p.original at) stack)
      (put_is : put ≡ (if is_removed (class_at p.original at) then BN else answer_class (class_at p.original at) stack))
      (now_levels : List ℕ) (now_classes : List BidiClass) (levels_are : now_levels ≡ filled at (next - at) level levels) (classes_are : now_classes ≡ filled at (next - at) put classes) where
    within : h.index < length (stored p)
    within = omega (arith, control-fits, stored_long p h.per_char)

    level-at_control : level ≡ get_or (levels_of p) h.index 0
    level-at_control = level_of_next encoding.len_of p.text.chars p.level (stored p) h.index within (class_at p.original at) control-class stack now level put now_is level_is put_is h.machine

    put-at_control : put ≡ class_at (classes_of p) h.index
    put-at_control = put_at encoding.len_of p.text.chars p.level (stored p) h.index within (class_at p.original at) control-class stack now level put now_is level_is put_is h.machine

    control-read : (now_runs : List (ℕ × ℕ)) (now_run : OpenRun)
        → IsCutTo encoding.len_of p.text.chars (stored p) (levels_of p) (h.index + 1) now_runs now_run.start now_run.last_level
        → IsReadTo p next now now_levels now_classes now_runs now_run
    control-read now_runs now_run cut =
        let there : next ≡ unit_index p.text (h.index + 1) = ends h.index control-fits h.begins in
        let room : at + (next - at) ≤ length classes = omega (arith, there, h.classes_long, control-some next ends, unit_index-le p.text (h.index + 1)) in
        let one = λ (k : ℕ) (above : h.index ≤ k) (below : k < h.index + 1). let same : k ≡ h.index = omega arith in same in
        read-more p at stack levels classes runs run h next (h.index + 1) there (omega arith) (omega (arith, control-fits)) now level now_levels now_classes now_runs now_run
        (next_at encoding.len_of p.text.chars p.level (stored p) h.index within (class_at p.original at) control-class stack now level put now_is level_is put_is h.machine)
        levels_are (λ k above below. cc (one k above below, level-at_control))
        (grind (arith, length-filled)) (λ v below. grind (arith, filled-below)) (λ v above. grind (
          arith,
          filled-above,
          control-some next ends,
        ))
        (λ v above below w first last. cc (
          classes_are,
          filled-inside at (next - at) put L classes room v above (omega arith),
          put-at_control,
          one w.index first last,
        )) cut

    -- it extends the run, if it is kept
    pub control-after : (kept : Option ℕ) → kept ≡ then_some (is_kept (class_at p.original at)) at → IsReadTo p next now now_levels now_classes (runs_after kept level run runs) (open_run_after kept level run)
    control-after kept kept_is = elim (cases_Bool (is_kept (class_at p.original at))) [
      | inl set ↦ simp (kept_is, set) (control-read _ _ (simp h.begins (IsCutTo-kept encoding.len_of p.text.chars (stored p) (levels_of p) h.index runs run.start run.last_level level (ap is_kept (sym control-class) ∙ set) level-at_control h.cut)))
      | inr gone ↦ simp (kept_is, gone) (control-read runs run (IsCutTo-removed encoding.len_of p.text.chars (stored p) (levels_of p) h.index runs run.start run.last_level (ap is_kept (sym control-class) ∙ gone) h.cut))
    ]

-- ---- the start and the end of a paragraph

pub read-start : {encoding : Encoding} (p : Paragraph encoding) → is_per_char ghosts.eq p.text p.original ≡ true
    → (stack : State) (levels : List ℕ) (classes : List BidiClass) (runs : List (ℕ × ℕ)) (run : OpenRun) → stack ≡ start p.level
    → length levels ≡ length p.original → classes ≡ p.original → runs ≡ [] → run ≡ record { start = 0; last_level = None } → IsReadTo p 0 stack levels classes runs run
unfolding state_at
read-start {encoding = encoding} p whole stack levels classes runs run new long same none first =
    let per_char = IsPerChar-from_is_per_char p.text ghosts.eq class_test p.original whole in
    grind (arith, unit_index-zero p.text, original_long p per_char, IsCutTo-start encoding.len_of p.text.chars (stored p) (levels_of p))

module _ {encoding : Encoding} (p : Paragraph encoding) (at : ℕ) (stack : State) (levels : List ℕ) (classes : List BidiClass) (runs : List (ℕ × ℕ)) (run : OpenRun)
    (h : IsReadTo p at stack levels classes runs run) (past : length p.original ≤ at) where
  all_read : h.index ≡ length (stored p)
  all_read = grind (arith, common_steps, original_long, stored_long, unit_index-lt)

  pub read-all : char_index p.text at ≡ length p.text.chars
  read-all = read-index p at stack levels classes runs run h ∙ all_read ∙ stored_long p h.per_char

  pub read-count : (step_unit : StepUnit) → count_to step_unit p.text at ≡ count_of step_unit (length p.original) (length p.text.chars)
  read-count CodeUnit = grind (arith, h.begins, h.within, unit_index-le p.text h.index, original_long p h.per_char)
  read-count Character = read-all

  pub read-units : at ≡ length p.original
  read-units = read-count CodeUnit

  pub read-levels : levels ≡ per_unit p.text (levels_of p)
  read-levels =
      ext_get_or 0 levels _ (h.levels_long ∙ sym (length-per_unit encoding.len_of p.text.chars (levels_of p) (levels_long p h.per_char)))
      (λ u below. h.levels_written u (omega (arith, h.levels_long, original_long p h.per_char)))

  pub read-classes : classes ≡ per_unit p.text (classes_of p)
  read-classes =
      ext_get_or L classes _ (h.classes_long ∙ sym (length-per_unit encoding.len_of p.text.chars (classes_of p) (classes_long p h.per_char)))
      (λ u below. h.classes_written u (omega (arith, h.classes_long, original_long p h.per_char)))

  -- the last run ends with the text
  pub read-runs : (units : ℕ) → units ≡ length p.original → 0 < units → runs ++ (run.start, units) ∷ [] ≡ level_run_ranges p.text (stored p) (levels_of p)
  read-runs units is some = grind (arith, original_long, IsCutTo-end, all_read, text_len-some, stored_long)

  pub read-no_runs : length p.original ≡ 0 → runs ≡ level_run_ranges p.text (stored p) (levels_of p)
  read-no_runs none =
      let long = original_long p h.per_char in
      let count = stored_long p h.per_char in
      IsCutTo-none encoding.len_of p.text.chars (stored p) (levels_of p) h.index runs run.start run.last_level all_read (omega (arith, length-le-text_len encoding.len_of encoding.positive p.text.chars)) h.cut
