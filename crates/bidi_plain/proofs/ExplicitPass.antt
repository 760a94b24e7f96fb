-- What the pass over the characters keeps, and how a character goes into it.
use Rattle.bidi_base.proofs.Common.{◌≡◌, ℕ, ◌+◌, ◌<◌, ◌||◌, cond, List, [], ◌∷◌, ◌++◌, length, map, reverse, None, unwrap_or}
use Rattle.bidi_base.proofs.Common.{refl, arith, range_with_len, list_any, is_isolate_initiator, is_paragraph_separator}
use Rattle.bidi_base.proofs.Common.{is_removed, class_at, Status, status_inside, status_at, explicit_level, explicit_class, explicit_levels, explicit_classes, outside_isolate, left_open}
use Rattle.std.proofs.lemmas.List.FromFn.{map-range_with_len_more}
use Rattle.std.proofs.Math.Nat.{zero-add}
use Rattle.bidi_base.specs.declared.char_data.BidiClass.{BidiClass}
use Rattle.bidi_base.specs.Openers.{then_open}
use Rattle.bidi_base.proofs.Lists.{map-reverse}
use Rattle.bidi_laws.proofs.OpenersStack.{open_at-closed_by, below_isolate, closed_by, opened_by, openers_read}

module _ (classes : List BidiClass) where
  abbrev pub classes_of : List ℕ → List BidiClass
  classes_of stack = map (class_at classes) stack

  -- the stack of indexes and the list of classes step alike
  outside : (whole stack : List ℕ) → classes_of (below_isolate classes whole stack) ≡ cond (list_any is_isolate_initiator (classes_of stack)) (outside_isolate (classes_of stack)) (classes_of whole)
  outside whole [] = refl
  outside whole (q ∷ stack) = grind (arith, outside whole stack)

  classes_of-closed_by : (p : ℕ) (stack : List ℕ) → classes_of (closed_by classes p stack) ≡ left_open (class_at classes p) (classes_of stack)
  unfolding closed_by
  classes_of-closed_by p stack = grind (arith, outside)

  classes_of-opened_by : (p : ℕ) (stack : List ℕ) → classes_of (opened_by classes p stack) ≡ then_open (class_at classes p) (classes_of stack)
  unfolding opened_by
  classes_of-opened_by p stack = grind arith

  -- the classes of the openers that are open once p characters were read
  abbrev pub openers_at : ℕ → List BidiClass
  openers_at p = classes_of (openers_read classes p)

  openers_at-more : (p : ℕ) (openers closed : List BidiClass) → openers ≡ openers_at p → closed ≡ left_open (class_at classes p) openers → then_open (class_at classes p) closed ≡ openers_at (p + 1)
  unfolding openers_read
  openers_at-more p openers closed is e = grind (arith, classes_of-closed_by, classes_of-opened_by)

module _ (para_level : ℕ) (classes : List BidiClass) where
  abbrev start : Status
  start = record { level = para_level; override = None }

  -- the status inside what a character leaves open is that of its place
  status_is : (p : ℕ) (openers closed : List BidiClass) → p < length classes → openers ≡ openers_at classes p
      → closed ≡ left_open (class_at classes p) openers → status_inside start (reverse closed) ≡ status_at para_level classes p
  unfolding status_at
  status_is p openers closed fits is e = grind (arith, classes_of-closed_by, map-reverse, open_at-closed_by)

  -- the characters before p were read
  pub record IsExplicitSoFar (p : ℕ) (openers : List BidiClass) (levels : List ℕ) (overridden : List BidiClass) : Type 0 where
    pub open_is : openers ≡ openers_at classes p
    pub levels_are : levels ≡ map (explicit_level para_level classes) (range_with_len 0 p)
    pub classes_are : overridden ≡ map (explicit_class para_level classes) (range_with_len 0 p)

  one_more : {Y : Type 0} (f : ℕ → Y) (p : ℕ) (ys : List Y) (y : Y) → ys ≡ map f (range_with_len 0 p) → y ≡ f p → ys ++ y ∷ [] ≡ map f (range_with_len 0 (p + 1))
  one_more f p ys y e g = simp (map-range_with_len_more f 0 p p (zero-add p), e, g)

  pub IsExplicitSoFar-more : (p : ℕ) (openers closed next : List BidiClass) (levels : List ℕ) (overridden : List BidiClass) (status : Status) (x : ℕ) (y : BidiClass)
      → p < length classes → IsExplicitSoFar p openers levels overridden
      → closed ≡ left_open (class_at classes p) openers → next ≡ then_open (class_at classes p) closed → status ≡ status_inside start (reverse closed)
      → x ≡ cond (is_paragraph_separator (class_at classes p)) para_level status.level
      → y ≡ cond (is_paragraph_separator (class_at classes p) || is_removed (class_at classes p)) (class_at classes p) (unwrap_or status.override (class_at classes p))
      → IsExplicitSoFar (p + 1) next (levels ++ x ∷ []) (overridden ++ y ∷ [])
  unfolding explicit_level explicit_class
  IsExplicitSoFar-more p openers closed next levels overridden status x y fits h closes opens status_by x_is y_is =
      grind (arith, status_is, openers_at-more, one_more)

  pub IsExplicitSoFar-start : (openers : List BidiClass) (levels : List ℕ) (overridden : List BidiClass) → openers ≡ [] → levels ≡ [] → overridden ≡ [] → IsExplicitSoFar 0 openers levels overridden
  unfolding openers_read
  IsExplicitSoFar-start openers levels overridden a b c = record { open_is = a; levels_are = b; classes_are = c }

  pub IsExplicitSoFar-levels : (p : ℕ) (openers : List BidiClass) (levels : List ℕ) (overridden : List BidiClass) → p ≡ length classes
      → IsExplicitSoFar p openers levels overridden → levels ≡ explicit_levels para_level classes
  unfolding explicit_levels
  IsExplicitSoFar-levels p openers levels overridden all h = simp (h.levels_are, all)

  pub IsExplicitSoFar-classes : (p : ℕ) (openers : List BidiClass) (levels : List ℕ) (overridden : List BidiClass) → p ≡ length classes
      → IsExplicitSoFar p openers levels overridden → overridden ≡ explicit_classes para_level classes
  unfolding explicit_classes
  IsExplicitSoFar-classes p openers levels overridden all h = simp (h.classes_are, all)
