-- What the walk over a text holds once n characters were read.
use Rattle.bidi_base.proofs.Common.{◌≡◌, ℕ, ◌+◌, ◌<◌, ◌≤◌, true, false, List, [], ◌∷◌, ◌++◌, length, get_or, take, drop, map, Option, Some, None, is_some, option_map, refl, sym, ap, ◌∙◌, arith}
use Rattle.bidi_base.proofs.Common.{◌-◌, ◌⊎◌, inl, inr, ◌&&◌, ◌==◌, if◌then◌else◌, is_isolate_initiator, is_strong, is_pdi, subst, cases_Bool, false_from_ne_true, All-nil, append_assoc, length-append}
use Rattle.bidi_base.proofs.Common.{length-take, common_steps, All, is_none, Range, nil_from_length, map-append, length-map, take_more, take_all, drop_all, get_or-append-add, length-take-le}
use Rattle.bidi_base.proofs.Common.{take-append-drop, sum_by-append, is_paragraph_separator, deciding_class, paragraph_level, stored_classes, class_at, ranges_from, innermost, met_units, Source}
use Rattle.bidi_base.proofs.Common.{text_classes, paragraph_levels, char_at, unit_index, text_len, per_unit, replicate, append-nil, flat_map-append}
use Rattle.bidi_base.specs.declared.char_data.BidiClass.{BidiClass}
use Rattle.bidi_base.specs.declared.char_data.BidiClass.TheVariants.{L}
use Rattle.bidi_base.proofs.TextLemmas.{HasUnits, char_at-append, length-le-text_len}
use Rattle.bidi_base.proofs.PerUnit.{per_unit-push, get_or-per_unit-unit_index}
use Rattle.bidi_base.proofs.UnitIndexLemmas.{unit_index-le, unit_index-lt, unit_index-mono, unit_index-more}
use Rattle.bidi_laws.proofs.ParagraphsLemmas.{IsCut, IsCut-start, IsCut-more, IsCut-stop, IsCut-last, IsCut-none, ranges_from-push, joined, length-text_classes}
use Rattle.bidi_laws.proofs.ReadingLemmas.{char_units, char_units-take, met_units-char, innermost-All}
use Rattle.bidi_laws.proofs.StoredSteps.{stored_classes-nil, deciding_class-push, deciding_class-nil, open_initiators, open_initiators-push}
use Rattle.bidi_laws.proofs.StoredSteps.{met_by, stored_classes-push, length-stored_classes, length-met_by, open_initiators-below}
use Rattle.bidi_paragraphs.specs.declared.paragraph_flags.ParagraphFlags.{ParagraphFlags}
use Rattle.bidi_paragraphs.specs.declared.first_pass.paragraph_state.ParagraphState.{ParagraphState}
use Rattle.bidi_paragraphs.specs.declared.first_pass.TextState.{TextState}
use Rattle.bidi_paragraphs.specs.declared.first_pass.paragraph_state.Undecided.{Undecided}
use Rattle.bidi_paragraphs.specs.declared.paragraph_info.ParagraphInfo.{ParagraphInfo}
use Rattle.bidi_paragraphs.specs.FirstPass.{waiting, depth_after, undecided_after, deciding_after, classes_after, is_decided, stops_at, with_flags, IsAtStart, IsReadBy, StopsCounting, IsClosed}
use Rattle.bidi_paragraphs.specs.ParagraphInfo.{ranges_of, levels_of}
use Rattle.bidi_paragraphs.specs.ParagraphFlags.{flags_of, paragraph_flags, with_class}
use Rattle.bidi_base.specs.Paragraphs.{ends_by, ends_after, pieces_by}
use Rattle.bidi_base.specs.declared.split_rule.SplitRule.{SplitRule}
use Rattle.bidi_paragraphs.proofs.FlagsLemmas.{with_classes-push}
use Rattle.bidi_paragraphs.proofs.IdleClasses.{idle-classes, idle-initiator, idle-pdi, idle-strong}
use Rattle.bidi_paragraphs.proofs.PutUnits.{take-filled, filled-append}
use Rattle.bidi_paragraphs.proofs.Undecided.{undecided_from, waits_of, fsi_at, waiting-is, undecided-more, deciding-more, length-opened_by, open_initiators-few, All-undecided, depths}
use Rattle.bidi_paragraphs.proofs.Undecided.{deeper, undecided_after-deeper, classes_after-deeper, deciding_after-deeper, counted_after, none_counted, All-deeper}

-- one more character was read, of this class and with these units: k isolates were not counted, and then `after`
pub record IsCountedOn (class : BidiClass) (range : Range ℕ) (k after : ℕ) (old new : ParagraphState) : Type 0 where
  pub start : new.start ≡ old.start
  pub decided : 0 < after → is_some new.deciding ≡ true
  pub depth : new.depth + after ≡ depth_after class (old.depth + k)
  pub undecided : map (deeper after) new.undecided.items ≡ undecided_after class range (old.depth + k) (map (deeper k) old.undecided.items)
  pub counted : All (λ (u : Undecided). 0 < u.depth) new.undecided.items
  pub deciding : new.deciding ≡ deciding_after class (old.depth + k) old.deciding
  pub own_flags : new.flags ≡ with_class old.flags class

-- how many isolates are not counted, of k, after a character that is read: a PDI closes the innermost isolate
abbrev pub uncounted_after : BidiClass → ℕ → ℕ → ℕ
uncounted_after class depth k = if is_pdi class && (depth == 0) then k - 1 else k

-- and after one on which nothing depends but the flags
abbrev pub uncounted_idle : BidiClass → ℕ → ℕ
uncounted_idle class k = depth_after class k

module _ (class : BidiClass) (range : Range ℕ) (k : ℕ) (old : ParagraphState) where
  pub IsCountedOn-read : (new : ParagraphState) → (0 < k → is_some old.deciding ≡ true) → All (λ (u : Undecided). 0 < u.depth) old.undecided.items → (old.depth ≡ 0 → old.undecided.items ≡ [])
      → IsReadBy class range old new → IsCountedOn class range k (uncounted_after class old.depth k) old new
  IsCountedOn-read new decided counted empty read = record {
    start = read.start;
    decided = grind (arith, decided);
    depth = grind (arith, common_steps);
    undecided = grind (arith, undecided_after-deeper class range k old.depth old.undecided.items);
    counted = rw read.undecided (counted_after class range old.depth old.undecided.items counted);
    deciding = read.deciding ∙ sym (deciding_after-deeper class k old.depth old.deciding decided);
    own_flags = read.own_flags;
  }

  pub IsCountedOn-idle : stops_at old class ≡ false → (0 < k → is_some old.deciding ≡ true) → All (λ (u : Undecided). 0 < u.depth) old.undecided.items → (old.depth ≡ 0 → old.undecided.items ≡ [])
      → IsCountedOn class range k (uncounted_idle class k) old (with_flags old (with_class old.flags class))
  IsCountedOn-idle idle decided counted empty = record {
    start = refl;
    decided = grind arith;
    depth = grind arith;
    undecided = same_undecided old.undecided.items refl;
    counted = counted;
    deciding = grind (arith, deciding_after-deeper class k old.depth old.deciding decided);
    own_flags = refl;
  }
    where
      -- if some isolate is undecided, all that come are counted
      none_opens : (u : Undecided) (us : List Undecided) → u ∷ us ≡ old.undecided.items → is_isolate_initiator class ≡ false
      none_opens u us e = false_from_ne_true (is_isolate_initiator class) (λ opens. let decided = idle-initiator old class idle opens in grind arith)

      none_closes : (u : Undecided) (us : List Undecided) → u ∷ us ≡ old.undecided.items → is_pdi class ≡ false
      none_closes u us e = false_from_ne_true (is_pdi class) (λ closes. absurd (cc (e, empty (idle-pdi old class idle closes))))

      -- and no strong character decides any
      none_decides : (u : Undecided) (us : List Undecided) → u ∷ us ≡ old.undecided.items → undecided_after class range old.depth (u ∷ us) ≡ u ∷ us
      none_decides u us e =
          let opens = none_opens u us e in
          let closes = none_closes u us e in
          elim (cases_Bool (is_strong class)) [
            | inl strong ↦
                let inert : is_some (waiting old.depth (u ∷ us)) ≡ false = subst (λ vs. is_some (waiting old.depth vs) ≡ false) (sym e) (idle-strong old class idle strong) in
                simp (opens, closes, strong, inert)
            | inr other ↦ simp (opens, closes, other)
          ]

      same_undecided : (us : List Undecided) → us ≡ old.undecided.items → map (deeper (uncounted_idle class k)) us ≡ undecided_after class range (old.depth + k) (map (deeper k) us)
      same_undecided [] e = grind arith
      same_undecided (u ∷ us) e =
          let same : uncounted_idle class k ≡ k = simp (none_opens u us e, none_closes u us e) in
          ap (λ j. map (deeper j) (u ∷ us)) same ∙ sym (undecided_after-deeper class range k old.depth (u ∷ us) ∙ ap (map (deeper k)) (none_decides u us e))

-- what the walk has seen: the classes of the units, and the paragraphs that ended
pub record Seen : Type 0 where
  pub units : List BidiClass
  pub paragraphs : List ParagraphInfo
  pub flags : List ParagraphFlags

abbrev pub seen : List BidiClass → TextState → Seen
seen classes walk = record { units = classes; paragraphs = walk.paragraphs.items; flags = walk.flags.items }

module _ (source : Source) (len_of : ℕ → ℕ) (chars : List ℕ) where
  abbrev classes_of : List ℕ → List BidiClass
  classes_of piece = map source.class_of piece

  -- the units of the q-th character after some pieces
  abbrev units_after : List (List ℕ) → ℕ → Range ℕ
  units_after done q = char_units len_of chars (length (joined done) + q)

  -- `done` are the paragraphs that have ended, and `current` is the one that is read
  pub record IsTextRead (base_level : Option ℕ) (n : ℕ) (done : List (List ℕ)) (current : List ℕ) (found : Seen) (state : ParagraphState) : Type 0 where
    pub whole : joined done ++ current ≡ take n chars
    pub sized : length found.units ≡ text_len len_of chars
    pub classes : take (unit_index len_of chars n) found.units ≡ per_unit len_of (take n chars) (text_classes source done ++ stored_classes (classes_of current))
    pub ranges : ranges_of found.paragraphs ≡ ranges_from len_of 0 done
    pub levels : levels_of found.paragraphs ≡ paragraph_levels source base_level done
    pub flags : found.flags ≡ paragraph_flags source done
    pub start : state.start ≡ text_len len_of (joined done)
    -- so many of the isolates that are open are not counted, once the paragraph's level is decided
    pub uncounted : ℕ
    pub decided : 0 < uncounted → is_some state.deciding ≡ true
    pub depth : state.depth + uncounted ≡ length (open_initiators (classes_of current))
    pub undecided : map (deeper uncounted) state.undecided.items
        ≡ undecided_from (units_after done) 0 (stored_classes (classes_of current)) (open_initiators (classes_of current))
    pub counted : All (λ (u : Undecided). 0 < u.depth) state.undecided.items
    pub deciding : state.deciding ≡ deciding_class (classes_of current)
    pub own_flags : state.flags ≡ flags_of (classes_of current)

  -- and once all of them have ended
  pub record IsTextDone (base_level : Option ℕ) (n : ℕ) (done : List (List ℕ)) (found : Seen) : Type 0 where
    pub whole : joined done ≡ take n chars
    pub sized : length found.units ≡ text_len len_of chars
    pub classes : take (unit_index len_of chars n) found.units ≡ per_unit len_of (take n chars) (text_classes source done)
    pub ranges : ranges_of found.paragraphs ≡ ranges_from len_of 0 done
    pub levels : levels_of found.paragraphs ≡ paragraph_levels source base_level done
    pub flags : found.flags ≡ paragraph_flags source done

  -- the next paragraph begins
  pub IsTextRead-at_start : (base_level : Option ℕ) (n : ℕ) (done : List (List ℕ)) (found : Seen) (state : ParagraphState) → IsTextDone base_level n done found
      → IsAtStart state (unit_index len_of chars n) → IsTextRead base_level n done [] found state
  IsTextRead-at_start base_level n done found state h at_start = record {
    whole = grind (arith, h.whole, append-nil);
    sized = h.sized;
    classes = grind (arith, h.classes, append-nil, stored_classes-nil);
    ranges = h.ranges;
    levels = h.levels;
    flags = h.flags;
    start = at_start.here ∙ ap (text_len len_of) (sym h.whole);
    uncounted = 0;
    decided = λ some. absurd (omega (arith, some));
    depth = grind (arith, at_start.depth);
    undecided = simp at_start.undecided refl;
    counted = rw at_start.undecided (All-nil (λ (u : Undecided). 0 < u.depth));
    deciding = at_start.deciding ∙ sym deciding_class-nil;
    own_flags = at_start.own_flags;
  }

  -- the isolates that are open are not counted any more
  pub IsTextRead-stop_counting : (base_level : Option ℕ) (n : ℕ) (done : List (List ℕ)) (current : List ℕ) (found : Seen) (state new : ParagraphState)
      → IsTextRead base_level n done current found state → StopsCounting state new → IsTextRead base_level n done current found new
  IsTextRead-stop_counting base_level n done current found state new h less = record {
    whole = h.whole;
    sized = h.sized;
    classes = h.classes;
    ranges = h.ranges;
    levels = h.levels;
    flags = h.flags;
    start = less.start ∙ h.start;
    uncounted = if is_decided state then state.depth + h.uncounted else h.uncounted;
    decided = grind (arith, h.decided);
    depth = grind (arith, h.depth);
    undecided = simp less.undecided (same_undecided (state.undecided.items) refl);
    counted = rw less.undecided h.counted;
    deciding = less.deciding ∙ h.deciding;
    own_flags = less.own_flags ∙ h.own_flags;
  }
    where
      -- there is none, if it is decided
      same_undecided : (us : List Undecided) → us ≡ state.undecided.items
          → map (deeper (if is_decided state then state.depth + h.uncounted else h.uncounted)) us ≡ undecided_from (units_after done) 0 (stored_classes (classes_of current)) (open_initiators (classes_of current))
      same_undecided [] e = grind (arith, h.undecided)
      same_undecided (u ∷ us) e = grind (arith, h.undecided)

  -- ---- the end of a paragraph

  module _ (base_level : Option ℕ) (n : ℕ) (done : List (List ℕ)) (current : List ℕ) (found : Seen) (state : ParagraphState) (h : IsTextRead base_level n done current found state) where
    -- where it is read to
    read_to : unit_index len_of chars n ≡ text_len len_of (joined done) + text_len len_of current
    read_to = ap (text_len len_of) (sym h.whole) ∙ sum_by-append len_of (joined done) current

    -- it is not empty exactly if it begins before the end
    pub current-some : HasUnits len_of → state.start < unit_index len_of chars n → 0 < length current
    current-some units order = grind (arith, common_steps)

    pub current-none : HasUnits len_of → unit_index len_of chars n ≤ state.start → current ≡ []
    current-none units order = nil_from_length current (omega (arith, length-le-text_len len_of units current, h.start, read_to))

    pub IsTextDone-close : (closed : Seen) (end : ℕ) → end ≡ unit_index len_of chars n → closed.units ≡ found.units
        → IsClosed base_level state end found.paragraphs found.flags closed.paragraphs closed.flags → IsTextDone base_level n (done ++ current ∷ []) closed
    unfolding text_classes paragraph_levels paragraph_level paragraph_flags
    IsTextDone-close closed end here same ended =
        grind (arith, flat_map-append, map-append, append-nil, read_to, ranges_from-push)

  pub IsTextDone-none : (base_level : Option ℕ) (n : ℕ) (done : List (List ℕ)) (current : List ℕ) (found : Seen) (state : ParagraphState)
      → current ≡ [] → IsTextRead base_level n done current found state → IsTextDone base_level n done found
  IsTextDone-none base_level n done current found state none h = grind (arith, append-nil, stored_classes-nil)

  -- ---- one more character

  module _ (units : HasUnits len_of) (base_level : Option ℕ) (n : ℕ) (done : List (List ℕ)) (current : List ℕ) (found : Seen) (state : ParagraphState)
      (within : n < length chars) (h : IsTextRead base_level n done current found state) where
    long : length (joined done) + length current ≡ n
    long = omega (arith, length-append (joined done) current, ap length h.whole, length-take n chars)

    -- the open initiators stand among the units read
    units_within : (q : ℕ) → q < length (classes_of current) → ((units_after done q).start < (units_after done q).end) × ((units_after done q).end ≤ unit_index len_of chars n)
    units_within q below = grind (arith, long, length-map, unit_index-lt)

    pub open_within : All (λ (u : Undecided). (u.units.start ≤ u.units.end) × (u.units.end ≤ length found.units)) state.undecided.items
    open_within = All-deeper (λ units. (units.start ≤ units.end) × (units.end ≤ length found.units)) h.uncounted state.undecided.items
        (rw h.undecided (All-undecided (λ u. (u.units.start ≤ u.units.end) × (u.units.end ≤ length found.units)) (units_after done) 0 (stored_classes (classes_of current)) (open_initiators (classes_of current))
        (λ k d inside depth. grind (arith, units_within (get_or (open_initiators (classes_of current)) k d), open_initiators-below (classes_of current) k d inside, h.sized, unit_index-le len_of chars n))))

    -- where none is counted, none is undecided
    pub undecided-none : state.depth ≡ 0 → state.undecided.items ≡ []
    undecided-none none =
        let deep = depths (units_after done) 0 (stored_classes (classes_of current)) (open_initiators (classes_of current)) in
        none_counted h.uncounted state.undecided.items (rw h.undecided (λ i d inside. omega (arith, deep i d inside, h.depth, none))) h.counted

    -- and there are no more of them than units
    pub depth-le : state.depth ≤ unit_index len_of chars n
    depth-le = grind (arith, open_initiators-few, length-map, long, length-take, length-le-text_len)

    module _ (c : ℕ) (is_char : get_or chars n 0 ≡ c) (class : BidiClass) (is_class : class ≡ source.class_of c) where
      abbrev so_far : List BidiClass
      so_far = classes_of current

      abbrev values : List BidiClass
      values = text_classes source done ++ stored_classes so_far

      -- the units before it, which are read
      abbrev read_units : List BidiClass
      read_units = take (unit_index len_of chars n) found.units

      index-below : (q : ℕ) → innermost (open_initiators so_far) ≡ Some q → q < length so_far
      index-below q e = innermost-All (λ (q : ℕ). q < length so_far) (open_initiators so_far) q (open_initiators-below so_far) e

      units_taken : (q : ℕ) → q < length so_far → char_units len_of (take n chars) (length (text_classes source done) + q) ≡ units_after done q
      units_taken q below = grind (arith, long, length-map, length-text_classes, char_units-take)

      whole_long : length (text_classes source done) + length (stored_classes so_far) ≡ length (take n chars)
      whole_long = omega (arith, length-text_classes source done, length-stored_classes so_far, length-map current source.class_of, long, length-take n chars)

      -- the class at an initiator
      class-at : (q : ℕ) → q < length so_far → class_at read_units (units_after done q).start ≡ class_at (stored_classes so_far) q
      class-at q below =
          grind (
            arith,
            h.classes,
            units_taken q below,
            length-append,
            whole_long,
            length-stored_classes,
            get_or-per_unit-unit_index len_of units (take n chars) values (length (text_classes source done) + q) L,
            get_or-append-add,
          )

      -- what the innermost open isolate makes of them
      stop : (o : Option ℕ) → innermost (open_initiators so_far) ≡ o
          → met_units class (option_map (units_after done) o) read_units ≡ per_unit len_of (take n chars) (text_classes source done ++ met_by class o (stored_classes so_far))
      stop None e = h.classes
      stop (Some q) e = grind (
        arith,
        h.classes,
        index-below q e,
        units_taken q,
        length-stored_classes,
        met_units-char len_of units (take n chars) (text_classes source done) (stored_classes so_far) class q whole_long,
      )

      -- its units, as they are written
      pub drawn-is : (drawn : List BidiClass) (from : ℕ) → from ≡ unit_index len_of chars n → take (from + len_of c) drawn ≡ take from found.units ++ replicate (len_of c) class
          → take (unit_index len_of chars (n + 1)) drawn ≡ read_units ++ replicate (len_of c) class
      drawn-is drawn from from_is written = grind (arith, unit_index-more)

      -- once the units of the character are written
      module _ (drawn : List BidiClass) (drawn_is : take (unit_index len_of chars (n + 1)) drawn ≡ read_units ++ replicate (len_of c) class) (drawn_long : length drawn ≡ length found.units) where
        abbrev row : List BidiClass
        row = replicate (len_of c) class

        -- what the one that waits takes stays before them
        take-after : (u : Undecided) → u.units.start < u.units.end → u.units.end ≤ unit_index len_of chars n
            → take (unit_index len_of chars (n + 1)) (classes_after class (Some u) drawn) ≡ classes_after class (Some u) read_units ++ row
        take-after u some fits = grind (arith, take-filled, unit_index-mono, unit_index-le, filled-append, length-take-le)

        after : (o : Option ℕ) → innermost (open_initiators so_far) ≡ o
            → take (unit_index len_of chars (n + 1)) (classes_after class (waits_of (units_after done) so_far class o) drawn) ≡ per_unit len_of (take n chars) (text_classes source done ++ met_by class o (stored_classes so_far)) ++ row
        after None e = grind (arith, drawn_is, stop None e)
        after (Some q) e = grind (arith, index-below q e, units_within q, class-at q, take-after (fsi_at (units_after done) so_far class q), drawn_is, stop (Some q) e)

        IsTextRead-on : (range : Range ℕ) (longer : Seen) (new : ParagraphState) (uncounted : ℕ) → range ≡ char_units len_of chars n
            → longer.units ≡ classes_after class (waiting (state.depth + h.uncounted) (map (deeper h.uncounted) state.undecided.items)) drawn
            → length longer.units ≡ length found.units → longer.paragraphs ≡ found.paragraphs → longer.flags ≡ found.flags
            → IsCountedOn class range h.uncounted uncounted state new → IsTextRead base_level (n + 1) done (current ++ c ∷ []) longer new
        IsTextRead-on range longer new uncounted is_range is_longer same_length same_paragraphs same_flags read =
            let pushed = map-append source.class_of current (c ∷ []) in
            record {
              whole = grind (arith, append_assoc, take_more chars n 0);
              sized = same_length ∙ h.sized;
              classes = grind (arith, append_assoc, take_more chars n 0, waiting-is (units_after done) so_far class (innermost (open_initiators so_far)) refl, after, per_unit-push, stored_classes-push, map-append, length-append, length-met_by, whole_long, long, length-map);
              ranges = simp same_paragraphs h.ranges;
              levels = simp same_paragraphs h.levels;
              flags = same_flags ∙ h.flags;
              start = read.start ∙ h.start;
              uncounted = uncounted;
              decided = read.decided;
              depth = grind (arith, map-append, length-opened_by, open_initiators-push);
              undecided = grind (arith, map-append, undecided-more, long, length-map);
              counted = read.counted;
              deciding = grind (arith, map-append, deciding-more, deciding_class-push);
              own_flags = grind (arith, map-append, with_classes-push);
            }

        -- a character on whose class something depends
        pub IsTextRead-more : (range : Range ℕ) (longer : Seen) (new : ParagraphState) → range ≡ char_units len_of chars n
            → longer.units ≡ classes_after class (waiting state.depth state.undecided.items) drawn
            → length longer.units ≡ length found.units → longer.paragraphs ≡ found.paragraphs → longer.flags ≡ found.flags → IsReadBy class range state new → IsTextRead base_level (n + 1) done (current ++ c ∷ []) longer new
        IsTextRead-more range longer new is_range is_longer same_length same_paragraphs same_flags read =
            IsTextRead-on range longer new (uncounted_after class state.depth h.uncounted) is_range
            (is_longer ∙ sym (classes_after-deeper class h.uncounted state.depth state.undecided.items drawn))
            same_length same_paragraphs same_flags (IsCountedOn-read class range h.uncounted state new h.decided h.counted undecided-none read)

        -- a character on whose class nothing depends but the flags
        pub IsTextRead-idle : (longer : Seen) → stops_at state class ≡ false → longer.units ≡ drawn → longer.paragraphs ≡ found.paragraphs → longer.flags ≡ found.flags
            → IsTextRead base_level (n + 1) done (current ++ c ∷ []) longer (with_flags state (with_class state.flags class))
        IsTextRead-idle longer idle is_longer same_paragraphs same_flags =
            let range : Range ℕ = char_units len_of chars n in
            IsTextRead-on range longer (with_flags state (with_class state.flags class)) (uncounted_idle class h.uncounted) refl
            (is_longer ∙ idle-classes state class range idle undecided-none drawn ∙ sym (classes_after-deeper class h.uncounted state.depth state.undecided.items drawn))
            (ap length is_longer ∙ drawn_long) same_paragraphs same_flags (IsCountedOn-idle class range h.uncounted state idle h.decided h.counted undecided-none)

  -- ---- the whole walk

  pub record IsRead (rule : Option SplitRule) (base_level : Option ℕ) (n : ℕ) (found : Seen) (state : ParagraphState) : Type 0 where
    pub done : List (List ℕ)
    pub current : List ℕ
    pub cut : IsCut (ends_after rule source) chars done current (drop n chars)
    pub one : rule ≡ None → done ≡ []
    pub read : IsTextRead base_level n done current found state

  pub IsRead-start : (rule : Option SplitRule) (base_level : Option ℕ) (found : Seen) (state : ParagraphState)
      → length found.units ≡ text_len len_of chars → found.paragraphs ≡ [] → found.flags ≡ [] → IsAtStart state 0
      → IsRead rule base_level 0 found state
  unfolding text_classes paragraph_levels paragraph_flags
  IsRead-start rule base_level found state sized no_paragraphs no_flags at_start =
      let none : IsTextDone base_level 0 [] found = grind arith in
      let read = IsTextRead-at_start base_level 0 [] found state none at_start in
      record { done = []; current = []; cut = IsCut-start (ends_after rule source) chars; one = λ e. refl; read = read }

  -- the paragraph goes on
  pub IsRead-on : (rule : Option SplitRule) (base_level : Option ℕ) (n c : ℕ) (found : Seen) (state : ParagraphState) (longer : Seen) (after : ParagraphState) (h : IsRead rule base_level n found state)
      → drop n chars ≡ c ∷ drop (n + 1) chars
      → IsTextRead base_level (n + 1) h.done (h.current ++ c ∷ []) longer after → ends_after rule source c (drop (n + 1) chars) ≡ false → IsRead rule base_level (n + 1) longer after
  IsRead-on rule base_level n c found state longer after h next read on =
      let cut = IsCut-more (ends_after rule source) chars h.done h.current c (drop (n + 1) chars) on (rw next at h.cut) in
      record { done = h.done; current = h.current ++ c ∷ []; cut = cut; one = h.one; read = read }

  -- or it ends, and the next one begins
  pub IsRead-stop : (rule : Option SplitRule) (base_level : Option ℕ) (n c : ℕ) (found : Seen) (state : ParagraphState) (closed : Seen) (after : ParagraphState) (h : IsRead rule base_level n found state)
      → drop n chars ≡ c ∷ drop (n + 1) chars
      → IsTextDone base_level (n + 1) (h.done ++ (h.current ++ c ∷ []) ∷ []) closed → IsAtStart after (unit_index len_of chars (n + 1)) → ends_after rule source c (drop (n + 1) chars) ≡ true → IsRead rule base_level (n + 1) closed after
  IsRead-stop rule base_level n c found state closed after h next ended at_start stop =
      let done = h.done ++ (h.current ++ c ∷ []) ∷ [] in
      let cut = IsCut-stop (ends_after rule source) chars h.done h.current c (drop (n + 1) chars) stop (rw next at h.cut) in
      let read = IsTextRead-at_start base_level (n + 1) done closed after ended at_start in
      record { done = done; current = []; cut = cut; one = λ e. absurd (cc (e, stop)); read = read }

  -- at the end of the text, what is left is the last paragraph
  module _ (units : HasUnits len_of) (base_level : Option ℕ) (n : ℕ) (found : Seen) (state : ParagraphState) (all : n ≡ length chars) where
    ended : (rule : Option SplitRule) (h : IsRead rule base_level n found state) → IsCut (ends_after rule source) chars h.done h.current []
    ended rule h = rw (drop_all n chars (omega arith)) at h.cut

    -- it is not empty, or the only one
    pub IsRead-last : (rule : Option SplitRule) (h : IsRead rule base_level n found state)
        → (is_none rule ≡ true) ⊎ (state.start < unit_index len_of chars n) → h.done ++ h.current ∷ [] ≡ pieces_by rule source chars
    IsRead-last None h last = grind (arith, h.one refl, h.read.whole, take_all)
    IsRead-last (Some rule) h (inl e) = absurd (cc e)
    IsRead-last (Some rule) h (inr order) =
        sym (IsCut-last (ends_by rule source) chars h.done h.current (current-some base_level n h.done h.current found state h.read units order) (ended (Some rule) h))

    pub IsRead-none : (rule : Option SplitRule) (h : IsRead rule base_level n found state) → is_none rule ≡ false
        → unit_index len_of chars n ≤ state.start → (h.current ≡ []) × (h.done ≡ pieces_by rule source chars)
    IsRead-none None h some order = absurd (cc some)
    IsRead-none (Some rule) h some order =
        let none = current-none base_level n h.done h.current found state h.read units order in
        (none, sym (IsCut-none (ends_by rule source) chars h.done (rw none at (ended (Some rule) h))))

  -- ---- what the walk answers

  pub record IsAnswer (rule : Option SplitRule) (base_level : Option ℕ) (found : Seen) : Type 0 where
    pub classes : found.units ≡ per_unit len_of chars (text_classes source (pieces_by rule source chars))
    pub ranges : ranges_of found.paragraphs ≡ ranges_from len_of 0 (pieces_by rule source chars)
    pub levels : levels_of found.paragraphs ≡ paragraph_levels source base_level (pieces_by rule source chars)
    pub flags : found.flags ≡ paragraph_flags source (pieces_by rule source chars)

  pub IsTextDone-answer : (rule : Option SplitRule) (base_level : Option ℕ) (n : ℕ) (done : List (List ℕ)) (found : Seen) → n ≡ length chars
      → done ≡ pieces_by rule source chars → IsTextDone base_level n done found → IsAnswer rule base_level found
  IsTextDone-answer rule base_level n done found all is h = grind (arith, take_all)

-- what is no separator ends no paragraph
pub ends_after-other : (rule : Option SplitRule) (source : Source) (c : ℕ) (after : List ℕ) → is_paragraph_separator (source.class_of c) ≡ false → ends_after rule source c after ≡ false
ends_after-other rule source c after other = grind arith

-- the character that begins at a place is the first of those that follow
pub next-at : (len_of : ℕ → ℕ) → HasUnits len_of → (chars : List ℕ) (n : ℕ) → char_at len_of chars (unit_index len_of chars n) ≡ char_at len_of (drop n chars) 0
next-at len_of units chars n = rw take-append-drop at (char_at-append len_of units (take n chars) (drop n chars))

pub same_range : (a b c d : ℕ) → a ≡ b → c ≡ d → ◌≡◌ {A = Range ℕ} (record { start = a; end = c }) (record { start = b; end = d })
same_range a b c d e f = λ i. record { start = e i; end = f i }
