-- The loop over the level runs of a text: the run that comes, what has been joined before it, and what then.
use Rattle.bidi_base.proofs.Common.{◌≡◌, ℕ, ◌+◌, ◌-◌, ◌<◌, ◌≤◌, Bool, true, false, cond, eqb, max, List, [], ◌∷◌, ◌++◌, length, map, get_or, take, Option, refl, sym, ap, subst, ◌∙◌, arith}
use Rattle.bidi_base.proofs.Common.{length-append, rules, common_steps, IfSome, All, list_any, Range, both_ways, length-map, get_or-map, get_or_default, get_or_past, nil_from_length, take_more}
use Rattle.bidi_base.proofs.Common.{All-nil, All-cons, list_any_at, IsPermutation-refl, is_isolate_initiator, direction_of, class_at, is_isolate_initiator_at, is_kept_at, level_at, is_l_or_r, Some, None, IsTrue}
use Rattle.bidi_base.proofs.Common.{lt-ltb, le-leb, suc, zero, sequences, waiting_for, bounds}
use Rattle.bidi_base.proofs.Common.{flat_map, is_run_sequence}
use Rattle.bidi_base.proofs.TextUnitIndexes.{unit_index-lt, unit_index-end, char_index-unit_index, is_boundary-unit_index, IsLine-unit_indexes, length-per_char, per_unit-from_is_per_char, length-from_is_per_char}
use Rattle.bidi_base.specs.Texts.{Encoding, Text, unit_index, text_len, per_unit, per_char, is_per_char, is_boundary, IsLine, kept_in_runs, level_run_ranges, AreLines}
use Rattle.std.specs.Prelude.{IsPermutation}
use Rattle.bidi_base.specs.declared.char_data.BidiClass.{BidiClass}
use Rattle.bidi_base.specs.declared.char_data.BidiClass.TheVariants.{L}
use Rattle.bidi_text.proofs.PerCharTests.{class_eq, class_test, level_eq, level_test}
use Rattle.bidi_base.proofs.ChainLemmas.{filter_range-none}
use Rattle.bidi_explicit.specs.InText.{read_units, sequences_of}
use Rattle.bidi_explicit.specs.declared.prepare.links.RunLinks.{RunLinks}
use Rattle.bidi_explicit.specs.declared.prepare.links.RunSides.{RunSides}
use Rattle.bidi_base.specs.Search.{IsEndOfLast}
use Rattle.bidi_explicit.specs.Joining.{JoinedRuns, level_after_run, read_range}
use Rattle.bidi_explicit.specs.Links.{with_link, with_sides, next_run, begins, sequence_at, linked_sequences, AreLinked}
use Rattle.bidi_explicit.proofs.LevelRunLemmas.{kept_in_run, length-level_run_ranges}
use Rattle.bidi_explicit.proofs.RunUnits.{cuts, NoneKept, IsRunAt, run_at, unit_run, level_of_unit, class_of_unit, IsLastUnit, none_kept, last_unit}
use Rattle.bidi_explicit.proofs.RunJoining.{IsFirst, first_of, level_beyond}
use Rattle.bidi_explicit.proofs.LinkChains.{linked-sequences, linked-runs, linked-lines, linked-AreLinked}
use Rattle.bidi_explicit.proofs.LinkPass.{IsLinkedTo, IsLinkedTo-start, IsLinkedTo-more, waiting-fits}
use Rattle.bidi_explicit.proofs.RunMembers.{count}
use Rattle.bidi_explicit.proofs.RunRemoved.{IsAllRemoved, all_removed, sequences-none, run_starts-removed, read_range-inert}

-- classes and levels of a text, one entry for each code unit, and its level runs
pub record AreRunsOf {encoding : Encoding} (text : Text encoding) (units : List BidiClass) (unit_levels : List ℕ) (runs : List (Range ℕ)) : Type 0 where
  pub classes : is_per_char class_eq text units ≡ true
  pub levels : is_per_char level_eq text unit_levels ≡ true
  pub runs_are : map bounds runs ≡ level_run_ranges text (per_char L text units) (per_char 0 text unit_levels)

one_of : {X : Type 0} (xs : List X) (k : ℕ) (x : X) → length xs ≡ 1 → k < length xs → x ≡ get_or xs k x → xs ≡ x ∷ []
one_of xs k x long within is = grind (arith, common_steps)

-- where the n-th run begins
abbrev pub cut : {encoding : Encoding} → Text encoding → List BidiClass → List ℕ → ℕ → ℕ
cut text classes unit_levels n = get_or (cuts (per_char L text classes) (per_char 0 text unit_levels)) n 0

-- these runs have come; where no class opens an isolate nothing waits
pub record AreLinkedSoFar {encoding : Encoding} (text : Text encoding) (classes : List BidiClass) (unit_levels : List ℕ) (para_level : ℕ) (reads : Bool)
    (came : List (Range ℕ)) (links : RunLinks) (before : ℕ) : Type 0 where
  pub so_far : IsLinkedTo (per_char L text classes) (per_char 0 text unit_levels) para_level (length came) links.next.items links.sides.items links.waiting before
  pub inert : reads ≡ false → links.waiting ≡ []

-- what holds when all runs have come
pub record AreSequences {encoding : Encoding} (text : Text encoding) (classes : List BidiClass) (unit_levels : List ℕ) (para_level : ℕ) (runs : List (Range ℕ)) (links : RunLinks) : Type 0 where
  pub in_order : sequences_of text (per_char L text classes) (linked_sequences links (map bounds runs)) ≡ sequences para_level (per_char L text classes) (per_char 0 text unit_levels)
  pub shares : IsPermutation (map bounds runs) (flat_map (λ (s : JoinedRuns). s.runs) (linked_sequences links (map bounds runs)))
  pub lines : All (λ (s : JoinedRuns). AreLines text s.runs) (linked_sequences links (map bounds runs))
  pub linked : AreLinked links (map bounds runs)

-- the only run of a paragraph is its only sequence
one_sequence : (links : RunLinks) (r : ℕ × ℕ) (side : BidiClass) → links.next.items ≡ 0 ∷ [] → links.sides.items ≡ record { sos = Some side; eos = side } ∷ [] → linked_sequences links (r ∷ []) ≡ record { runs = r ∷ []; sos = side; eos = side } ∷ []
unfolding linked_sequences
one_sequence links r side e f = simp (e, f)

one_linked : (links : RunLinks) (r : ℕ × ℕ) (side : BidiClass) → links.next.items ≡ 0 ∷ [] → links.sides.items ≡ record { sos = Some side; eos = side } ∷ [] → r.0 < r.1 → is_l_or_r side ≡ true → AreLinked links (r ∷ [])
one_linked links r side e f some known = record { all_sides = ap length f; all_next = ap length e; later = later; well_formed = well_formed }
  where
    no_next : (k : ℕ) → next_run (0 ∷ []) k ≡ None
    no_next zero = refl
    no_next (suc k) = refl

    later : (k q : ℕ) → next_run links.next.items k ≡ Some q → (k < q) × (q < 1)
    later k q h = absurd (cc (ap (λ next. next_run next k) e, no_next k, h))

    well_formed : (k : ℕ) → k < 1 → begins links k ≡ true → IsTrue (is_run_sequence (sequence_at links (r ∷ []) k).runs (sequence_at links (r ∷ []) k).sos (sequence_at links (r ∷ []) k).eos)
    well_formed zero below here = simp (e, f, lt-ltb r.0 r.1 some, le-leb 0 r.0 (omega arith), known)
    well_formed (suc k) below here = absurd (omega arith)

module _ {encoding : Encoding} (text : Text encoding) (units : List BidiClass) (unit_levels : List ℕ) (runs : List (Range ℕ)) (given : AreRunsOf text units unit_levels runs) where
  abbrev classes : List BidiClass
  classes = per_char L text units

  abbrev levels : List ℕ
  levels = per_char 0 text unit_levels

  pub long : length (per_char L text units) ≡ length text.chars
  long = length-per_char text L units

  pub same : length (per_char 0 text unit_levels) ≡ length text.chars
  same = length-per_char text 0 unit_levels

  pub units_are : units ≡ per_unit text (per_char L text units)
  units_are = per_unit-from_is_per_char text class_eq class_test L units given.classes

  pub levels_are : unit_levels ≡ per_unit text (per_char 0 text unit_levels)
  levels_are = per_unit-from_is_per_char text level_eq level_test 0 unit_levels given.levels

  units_long : length units ≡ text_len text
  units_long = length-from_is_per_char text class_eq class_test units given.classes

  levels_long : length unit_levels ≡ text_len text
  levels_long = length-from_is_per_char text level_eq level_test unit_levels given.levels

  -- the run that comes after n others
  pub record IsNext (n : ℕ) (run : Range ℕ) : Type 0 where
    pub at : IsRunAt text (per_char L text units) (per_char 0 text unit_levels) long n (cut text units unit_levels n) (cut text units unit_levels (n + 1)) (bounds run)
    pub some : run.start < run.end
    pub inside : run.end ≤ length units
    pub inside_levels : run.end ≤ length unit_levels
    pub line : IsLine text run.start run.end

  pub next_level_run : (n : ℕ) (run : Range ℕ) → n < length runs → run ≡ get_or runs n run → IsNext n run
  next_level_run n run within is =
      let here : get_or (map bounds runs) n (0, 0) ≡ bounds run = get_or-map bounds runs n run (0, 0) within ∙ ap bounds (sym is) in
      let at : IsRunAt text classes levels long n (cut text units unit_levels n) (cut text units unit_levels (n + 1)) (bounds run) =
      simp here at (run_at text classes levels long (map bounds runs) n given.runs_are (omega (arith, length-map runs bounds))) in
      let unit = unit_run text classes levels long n (cut text units unit_levels n) (cut text units unit_levels (n + 1)) (bounds run) at in
      grind (arith, at, unit, units_long, levels_long, IsLine-unit_indexes text (cut text units unit_levels n) (cut text units unit_levels (n + 1)))

  -- the run at k comes after those before it
  pub record Comes (k : ℕ) (run : Range ℕ) : Type 0 where
    pub within : length (take k runs) < length runs
    pub is : run ≡ get_or runs (length (take k runs)) run
    pub next : IsNext (length (take k runs)) run
    pub more : take (k + 1) runs ≡ take k runs ++ run ∷ []

  pub comes : (k : ℕ) (d : Range ℕ) → k < length runs → Comes k (get_or runs k d)
  comes k d low = search (rules, next_level_run, take_more)

  -- the last character that X9 keeps in it
  pub record IsLastKept (n kept_end : ℕ) : Type 0 where
    pub index : ℕ
    pub unit : IsLastUnit text (per_char L text units) (per_char 0 text unit_levels) long units unit_levels same units_are levels_are (cut text units unit_levels n) (cut text units unit_levels (n + 1)) kept_end index
    pub boundary : is_boundary text kept_end ≡ true
    pub within : index + 1 ≤ length text.chars

  pub last_kept : (n : ℕ) (run : Range ℕ) (kept_end : ℕ) → IsNext n run → IsEndOfLast (is_kept_at units) run.start run.end kept_end → ¬ (kept_end ≡ run.start) → IsLastKept n kept_end
  last_kept n run kept_end next e some =
      let w = last_unit text classes levels long units unit_levels same units_are levels_are (cut text units unit_levels n) (cut text units unit_levels (n + 1)) run.start run.end kept_end next.at.start next.at.end (omega (arith, next.at.range.within, long)) e some in
      record {
        index = w.0;
        unit = w.1;
        boundary = ap (is_boundary text) w.1.at_end ∙ is_boundary-unit_index text (w.0 + 1);
        within = omega (arith, w.1.is_last.below, next.at.range.within, long);
      }

  counted : length runs ≡ count (per_char L text units) (per_char 0 text unit_levels)
  counted = sym (length-map runs bounds) ∙ ap length given.runs_are ∙ length-level_run_ranges text classes levels

  module _ (para_level : ℕ) where
    pub AreLinkedSoFar-start : (reads : Bool) (links : RunLinks) → links.next.items ≡ [] → links.sides.items ≡ [] → links.waiting ≡ []
        → AreLinkedSoFar text units unit_levels para_level reads [] links para_level
    AreLinkedSoFar-start reads links next sides waiting = record { so_far = rw (next, sides, waiting) (IsLinkedTo-start classes levels para_level); inert = λ _. waiting }

    -- a run with a kept character comes
    module _ (reads : Bool) (came : List (Range ℕ)) (run : Range ℕ) (links : RunLinks) (before kept_end : ℕ) (g : Option ℕ)
        (state : AreLinkedSoFar text units unit_levels para_level reads came links before) (next : IsNext (length came) run)
        (more_runs : length came < length runs) (e : IsEndOfLast (is_kept_at units) run.start run.end kept_end) (some : ¬ (kept_end ≡ run.start)) (g_is : g ≡ waiting_for (class_at units run.start) links.waiting) where
      abbrev a : ℕ
      a = cut text units unit_levels (length came)

      abbrev b : ℕ
      b = cut text units unit_levels (length came + 1)

      within : length came < count (per_char L text units) (per_char 0 text unit_levels)
      within = omega (arith, more_runs, counted)

      last : IsLastKept (length came) kept_end
      last = last_kept (length came) run kept_end next e some

      first : (f : ℕ) × IsFirst (per_char L text units) (cut text units unit_levels (length came)) (cut text units unit_levels (length came + 1)) f
      first = first_of (per_char L text units) (cut text units unit_levels (length came)) (cut text units unit_levels (length came + 1)) last.index last.unit.is_last

      g_at : g ≡ waiting_for (class_at (per_char L text units) (cut text units unit_levels (length came))) links.waiting
      g_at = simp (g_is, next.at.start, class_of_unit text classes levels long units unit_levels same units_are levels_are a (omega (arith, next.at.range.not_empty, next.at.range.within, long)))

      -- the run that waits is there
      pub waiting_fits : IfSome g (λ r. r < length links.next.items)
      waiting_fits = waiting-fits classes levels para_level (length came) links.next.items links.sides.items links.waiting before g first.0 last.index within state.so_far first.1 last.unit.is_last g_at

      module _ (level after : ℕ) (sos eos : BidiClass) (level_is : level ≡ get_or unit_levels (kept_end - 1) level)
          (after_is : after ≡ level_after_run para_level (class_at units (kept_end - 1)) unit_levels run.end) (sos_is : sos ≡ direction_of (max level before))
          (eos_is : eos ≡ direction_of (max level after)) (more : RunLinks) (next_is : more.next.items ≡ with_link g links.next.items) (sides_are : more.sides.items ≡ with_sides g sos eos links.sides.items) where
        -- past the run stands the next one, or nothing
        past_end : cond (eqb run.end (length unit_levels)) para_level (level_at unit_levels run.end) ≡ cond (eqb (cut text units unit_levels (length came + 1)) (length (per_char L text units))) para_level (level_at (per_char 0 text unit_levels) (cut text units unit_levels (length came + 1)))
        past_end =
            grind (arith, next.at.end, next.at.range.within, long, levels_long, unit_index-end text (length text.chars), unit_index-lt text b (length text.chars), level_of_unit text classes levels long units unit_levels same units_are levels_are b)

        after_at : after ≡ level_beyond (per_char L text units) (per_char 0 text unit_levels) para_level last.index (cut text units unit_levels (length came + 1))
        after_at = grind (arith, last, past_end)

        level_at_last : level ≡ level_at (per_char 0 text unit_levels) last.index
        level_at_last = level_is ∙ get_or_default unit_levels (kept_end - 1) level 0 (omega (arith, next.some, next.inside_levels, e.ends)) ∙ last.unit.level

        linked_with : more.waiting ≡ read_range (per_char L text units) (last.index + 1) (length came) (cut text units unit_levels (length came)) (cut text units unit_levels (length came + 1)) links.waiting
            → (reads ≡ false → more.waiting ≡ [])
            → AreLinkedSoFar text units unit_levels para_level reads (came ++ run ∷ []) more level
        linked_with read inert = record {
          so_far = rw (length-append came (run ∷ []), next_is, sides_are)
              (IsLinkedTo-more classes levels para_level (length came) links.next.items links.sides.items links.waiting before g first.0 last.index within state.so_far first.1 last.unit.is_last g_at level after sos eos level_at_last after_at sos_is eos_is more.waiting read);
          inert = inert;
        }

        -- its characters were read
        pub AreLinkedSoFar-read : reads ≡ true → (index : ℕ) → index ≡ length came
            → more.waiting ≡ read_units text units kept_end index run.start run.end links.waiting
            → AreLinkedSoFar text units unit_levels para_level reads (came ++ run ∷ []) more level
        AreLinkedSoFar-read on index is read =
            let last_at = char_index-unit_index text (last.index + 1) last.within in
            let a_at = char_index-unit_index text a (omega (arith, next.at.range.not_empty, next.at.range.within, long)) in
            let b_at = char_index-unit_index text b (omega (arith, next.at.range.within, long)) in
            linked_with (read ∙ simp (is, last.unit.at_end, next.at.start, next.at.end, last_at, a_at, b_at)) (λ off. absurd (both_ways reads off on))

        -- none of its characters opens an isolate
        pub AreLinkedSoFar-unread : reads ≡ false → (list_any is_isolate_initiator units ≡ true → reads ≡ true) → more.waiting ≡ links.waiting
            → AreLinkedSoFar text units unit_levels para_level reads (came ++ run ∷ []) more level
        AreLinkedSoFar-unread off any kept =
            linked_with (kept ∙ simp (state.inert off, read_range-inert classes (last.index + 1) (length came) a b none)) (λ _. kept ∙ state.inert off)
          where
            none : (m : ℕ) → is_isolate_initiator_at (per_char L text units) m ≡ false
            none m =
                grind (arith, any, units_long, long, class_of_unit text classes levels long units unit_levels same units_are levels_are m, unit_index-lt text m (length text.chars), unit_index-end text (length text.chars), list_any_at is_isolate_initiator units (unit_index text m) L, get_or_past classes m L)

    pub AreSequences-end : (reads : Bool) (came : List (Range ℕ)) (links : RunLinks) (before : ℕ) → came ≡ runs
        → AreLinkedSoFar text units unit_levels para_level reads came links before
        → AreSequences text units unit_levels para_level runs links
    AreSequences-end reads came links before all state =
        let w : IsLinkedTo (per_char L text units) (per_char 0 text unit_levels) para_level (count (per_char L text units) (per_char 0 text unit_levels)) links.next.items links.sides.items links.waiting before =
        subst (λ (n : ℕ). IsLinkedTo classes levels para_level n links.next.items links.sides.items links.waiting before) (ap length all ∙ counted) state.so_far in
        record {
          in_order = linked-sequences classes levels links w.wholes w.links para_level w.sides_are text long (map bounds runs) given.runs_are;
          shares = linked-runs classes levels links w.wholes w.links para_level w.sides_are text long (map bounds runs) given.runs_are;
          lines = linked-lines classes levels links w.wholes w.links para_level w.sides_are text long (map bounds runs) given.runs_are;
          linked = linked-AreLinked classes levels links w.wholes w.links para_level w.sides_are text long (map bounds runs) given.runs_are;
        }

    -- X9 removes the whole paragraph
    pub AreSequences-removed : (reads : Bool) (came : List (Range ℕ)) (run : Range ℕ) (links : RunLinks) (before kept_end : ℕ) (side : BidiClass) (new : RunLinks)
        → AreLinkedSoFar text units unit_levels para_level reads came links before → IsNext (length came) run → length came < length runs → run ≡ get_or runs (length came) run → IsEndOfLast (is_kept_at units) run.start run.end kept_end → kept_end ≡ run.start
        → is_l_or_r side ≡ true → new.next.items ≡ with_link None links.next.items → new.sides.items ≡ with_sides None side side links.sides.items → AreSequences text units unit_levels para_level runs new
    AreSequences-removed reads came run links before kept_end side new state next within is e none known next_is sides_are = record {
      in_order = simp (runs_one, one_is, sequences-none para_level classes levels gone.none, no_places);
      shares = simp (runs_one, one_is) (IsPermutation-refl (bounds run ∷ []));
      lines = simp (runs_one, one_is)
          (All-cons (λ (s : JoinedRuns). AreLines text s.runs) (record { runs = bounds run ∷ []; sos = side; eos = side }) []
          (All-cons (λ (r : ℕ × ℕ). IsLine text r.0 r.1) (bounds run) [] next.line (All-nil (λ (r : ℕ × ℕ). IsLine text r.0 r.1)))
          (All-nil (λ (s : JoinedRuns). AreLines text s.runs)));
      linked = rw runs_one (one_linked new (bounds run) side new_next new_sides next.some known);
    }
      where
        fits : cut text units unit_levels (length came + 1) ≤ length text.chars
        fits = omega (arith, next.at.range.within, long)

        none_here : NoneKept (per_char L text units) (cut text units unit_levels (length came)) (cut text units unit_levels (length came + 1))
        none_here = none_kept text classes levels long units unit_levels same units_are levels_are (cut text units unit_levels (length came)) (cut text units unit_levels (length came + 1)) run.start run.end kept_end next.at.start next.at.end fits e none

        gone : IsAllRemoved (per_char L text units) (cut text units unit_levels (length came)) (cut text units unit_levels (length came + 1))
        gone = all_removed classes levels para_level (cut text units unit_levels (length came)) (cut text units unit_levels (length came + 1)) next.at.range none_here

        none_came : length came ≡ 0
        none_came = (state.so_far.at_start gone.front).0

        new_next : new.next.items ≡ 0 ∷ []
        new_next = next_is ∙ ap {B = List ℕ} (λ xs. xs ++ 0 ∷ []) (nil_from_length links.next.items (state.so_far.links.long ∙ none_came))

        new_sides : new.sides.items ≡ record { sos = Some side; eos = side } ∷ []
        new_sides = sides_are ∙ ap {B = List RunSides} (λ xs. xs ++ record { sos = Some side; eos = side } ∷ []) (nil_from_length links.sides.items (state.so_far.sides_are.long ∙ none_came))

        one_is : linked_sequences new (bounds run ∷ []) ≡ record { runs = bounds run ∷ []; sos = side; eos = side } ∷ []
        one_is = one_sequence new (bounds run) side new_next new_sides

        no_places : kept_in_runs text (per_char L text units) (bounds run ∷ []) ≡ []
        no_places =
            let a = cut text units unit_levels (length came) in
            let b = cut text units unit_levels (length came + 1) in
            simp (next.at.start, next.at.end, kept_in_run text classes a b (omega (arith, next.at.range.not_empty, fits)) fits, filter_range-none (is_kept_at classes) a (b - a) (λ m low high. none_here m low (omega (arith, next.at.range.not_empty))))

        one_run : runs ≡ run ∷ []
        one_run =
            let one = run_starts-removed classes levels (omega (arith, next.at.range.not_empty, next.at.range.within)) gone.none in
            one_of runs (length came) run (sym (length-map runs bounds) ∙ ap length given.runs_are ∙ length-level_run_ranges text classes levels ∙ ap length one) within is

        runs_one : map bounds runs ≡ bounds run ∷ []
        runs_one = ap (map bounds) one_run
