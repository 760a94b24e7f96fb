-- The links between all level runs of a paragraph: their chains are the isolating run sequences.
use Rattle.bidi_base.proofs.Common.{◌≡◌, ℕ, zero, suc, ◌+◌, ◌<◌, ◌≤◌, Bool, true, false, not, cond, List, [], ◌∷◌, ◌++◌, length, map, get_or, Option, Some, None, is_some, unwrap_or, refl, sym, ap}
use Rattle.bidi_base.proofs.Common.{subst, ◌∙◌, arith, add-one, append-nil, inl, inr, filter, filter-append, range_with_len, cases_Bool, both_ways, lt-ltb, le-leb, list_any, flat_map-map, All}
use Rattle.bidi_base.proofs.Common.{All-nil, All-cons, map-append, IsPermutation, length-map, indexes, is_l_or_r, last_or, holds_number, chain, is_kept_at, kept_before, next_kept, have_one_level}
use Rattle.bidi_base.proofs.Common.{successor, is_first, start_class, end_class, sequence_from, sequences, has_places, are_ordered_from, are_ordered}
use Rattle.bidi_base.proofs.Common.{chars_in_runs, flat_map, IsPermutation-map, is_run_sequence}
use Rattle.bidi_base.proofs.TextUnitIndexes.{unit_index-lt, unit_index-mono, IsLine-unit_indexes}
use Rattle.bidi_base.specs.Units as in_units
use Rattle.bidi_base.specs.Texts.{Encoding, Text, unit_index, IsLine, AreLines, level_run_ranges, kept_in_runs}
use Rattle.bidi_base.specs.declared.char_data.BidiClass.{BidiClass}
use Rattle.bidi_base.specs.declared.char_data.BidiClass.TheVariants.{L}
use Rattle.bidi_base.proofs.ChainLemmas.{IsLinked, IsPermutation-chains, IsMaximal-chain, Follows, Follows-chain, Follows-join}
use Rattle.bidi_base.proofs.ChainLemmas.{holds_number-from, holds_number-true, filter_range-agree, none_in_range, fails_in_range}
use Rattle.bidi_base.proofs.Lists.{cases_Option}
use Rattle.bidi_laws.proofs.PassLemmas.{AreSuccessors}
use Rattle.bidi_laws.proofs.RunsLemmas.{AreRunSteps-successors}
use Rattle.bidi_laws.proofs.SequencesLemmas.{IsLinked-successor, is_first-none, is_first-from_none, is_first-successor}
use Rattle.bidi_laws.proofs.SuccessorLemmas.{successor-IsLaterKept, successor-cases, successor-injective, have_one_level-from, kept_before-next}
use Rattle.bidi_explicit.specs.InText.{characters_of, sequences_of}
use Rattle.bidi_explicit.specs.Joining.{JoinedRuns}
use Rattle.bidi_explicit.specs.Links.{next_run, sides_at, run_chain, begins, sequence_at, linked_sequences, AreLinked}
use Rattle.bidi_explicit.specs.declared.prepare.links.RunLinks.{RunLinks}
use Rattle.bidi_explicit.specs.declared.prepare.links.RunSides.{RunSides}
use Rattle.bidi_explicit.proofs.LevelRunLemmas.{kept_in_run, level_run_ranges-at, length-level_run_ranges}
use Rattle.bidi_explicit.proofs.LinkPass.{AreLinks, AreSides}
use Rattle.bidi_explicit.proofs.RunMembers.{count, cut, members, head, back, level_run, IsWhole, below_cut, same_run, begun_in, ended_in, kept_indexes-members}

last_or-append : (d x : ℕ) (xs ys : List ℕ) → last_or d (xs ++ x ∷ ys) ≡ last_or x ys
last_or-append d x [] ys = refl
last_or-append d x (z ∷ xs) ys = last_or-append z x xs ys

filter_all : (xs : List ℕ) → filter (λ _. true) xs ≡ xs
filter_all [] = refl
filter_all (x ∷ xs) = ap (λ ys. x ∷ ys) (filter_all xs)

map-flat_map : {X Y : Type 0} (f : X → Y) (g : ℕ → List X) (ks : List ℕ) → map f (flat_map g ks) ≡ flat_map (λ k. map f (g k)) ks
map-flat_map f g [] = refl
map-flat_map f g (k ∷ ks) = simp (map-append f (g k) (flat_map g ks), map-flat_map f g ks)

map-range-suc : {X : Type 0} (f : ℕ → X) (low n : ℕ) → map f (range_with_len (low + 1) n) ≡ map (λ k. f (suc k)) (range_with_len low n)
map-range-suc f low zero = refl
map-range-suc {X = X} f low (suc n) = simp (add-one low) (ap {B = List X} (λ ys. f (suc low) ∷ ys) (rw (← add-one low) (map-range-suc f (low + 1) n)))

-- a list is what is at its indexes
map-indexes : {X : Type 0} (xs : List X) (d : X) → map (λ k. get_or xs k d) (indexes xs) ≡ xs
map-indexes [] d = refl
map-indexes {X = X} (x ∷ xs) d = ap {B = List X} (λ ys. x ∷ ys) (map-range-suc (λ k. get_or (x ∷ xs) k d) 0 (length xs) ∙ map-indexes xs d)

module _ (classes : List BidiClass) (levels : List ℕ) (links : RunLinks) (wholes : (k : ℕ) → k < count classes levels → IsWhole classes levels k)
    (are : AreLinks classes levels (count classes levels) links.next.items) where
  abbrev n : ℕ
  n = count classes levels

  abbrev next : ℕ → Option ℕ
  next r = next_run links.next.items r

  abbrev first_of : ℕ → ℕ
  first_of k = head classes levels k

  abbrev last_of : ℕ → ℕ
  last_of k = back classes levels k

  run_links : IsLinked (count classes levels) (λ _. true) (λ r. next_run links.next.items r)
  run_links = record {
    later = λ p q k e. (are.to p q e).order;
    within = λ p q k e. (are.to p q e).within;
    keeps = λ p q k e. refl;
    one = one;
  }
    where
      one : (p r q : ℕ) → true ≡ true → true ≡ true → next p ≡ Some q → next r ≡ Some q → p ≡ r
      one p r q k j e f =
          let a = are.to p q e in
          let b = are.to r q f in
          let low : p < n = omega (arith, a.order, a.within) in
          let high : r < n = omega (arith, b.order, b.within) in
          let w = wholes p low in
          let v = wholes r high in
          same_run classes levels p r low high w v (successor-injective classes levels (last_of p) (last_of r) (first_of q) w.back_kept v.back_kept a.leads b.leads)

  abbrev FollowRuns : List ℕ → Type 0
  FollowRuns rs = Follows (count classes levels) (λ _. true) (λ r. next_run links.next.items r) run_links rs

  -- ---- the characters of a chain of runs

  record IsCharChain (r : ℕ) (rs : List ℕ) : Type 0 where
    rest : List ℕ
    is : flat_map (members classes levels) (r ∷ rs) ≡ head classes levels r ∷ rest
    follows : AreSuccessors classes levels (head classes levels r ∷ rest)
    final : last_or (head classes levels r) rest ≡ back classes levels (last_or r rs)

  char_chain : (r : ℕ) (rs : List ℕ) → r < n → FollowRuns (r ∷ rs) → IsCharChain r rs
  char_chain r [] within h =
      let w = wholes r within in
      record { rest = w.rest; is = append-nil (members classes levels r) ∙ w.here; follows = AreRunSteps-successors classes levels (first_of r) w.rest w.run.steps; final = sym w.final }
  char_chain r (q ∷ rs) within h =
      let w = wholes r within in
      let l = are.to r q h.0 in
      let c = char_chain q rs l.within h.1 in
      record {
        rest = w.rest ++ first_of q ∷ c.rest;
        is = ap {B = List ℕ} (λ xs. xs ++ flat_map (members classes levels) (q ∷ rs)) w.here ∙ ap {B = List ℕ} (λ ys. (first_of r ∷ w.rest) ++ ys) c.is;
        follows = Follows-join (length classes) (is_kept_at classes) (successor classes levels) (IsLinked-successor classes levels) (first_of r) (first_of q) w.rest c.rest
            (AreRunSteps-successors classes levels (first_of r) w.rest w.run.steps) (ap (successor classes levels) (sym w.final) ∙ l.leads) c.follows;
        final = last_or-append (first_of r) (first_of q) w.rest c.rest ∙ c.final;
      }

  last_below : (r : ℕ) (rs : List ℕ) → r < n → FollowRuns (r ∷ rs) → last_or r rs < n
  last_below r [] within h = within
  last_below r (q ∷ rs) within h = last_below q rs (are.to r q h.0).within h.1

  -- the last character of a run that no link leaves has no successor
  no_successor : (x : ℕ) → x < n → next x ≡ None → successor classes levels (last_of x) ≡ None
  no_successor x within none = elim (cases_Option (successor classes levels (last_of x))) [
    | inl e ↦ e
    | inr e ↦
        let w = wholes x within in
        let s = successor-IsLaterKept classes levels (last_of x) e.0 e.1 in
        let ends : have_one_level levels (next_kept classes (last_of x)) (last_of x) ≡ false = rw w.final w.run.ends in
        elim (successor-cases classes levels (last_of x) e.0 e.1) [
          | inl step ↦
              absurd (both_ways (have_one_level levels (next_kept classes (last_of x)) (last_of x)) ends (have_one_level-from levels (next_kept classes (last_of x)) (last_of x) e.0 step.next step.level))
          | inr resumed ↦
              let b = begun_in classes levels e.0 s.within s.kept resumed.begins in
              let link : next x ≡ Some b.0 = are.from x b.0 within b.1 (e.1 ∙ ap Some (sym b.2)) in
              absurd (cc (none, link))
        ]
  ]

  -- the sequence that begins with a run: its runs and its characters
  record IsSequence (r : ℕ) : Type 0 where
    rs : List ℕ
    runs : run_chain links r ≡ r ∷ rs
    follows : FollowRuns (r ∷ rs)
    rest : List ℕ
    members_are : flat_map (members classes levels) (r ∷ rs) ≡ head classes levels r ∷ rest
    places : chain (successor classes levels) (length classes) (Some (head classes levels r)) ≡ head classes levels r ∷ rest
    final : last_or (head classes levels r) rest ≡ back classes levels (last_or r rs)

  sequence_of : (r : ℕ) → r < n → IsSequence r
  sequence_of r within =
      let m = IsMaximal-chain n (λ _. true) (λ r. next_run links.next.items r) run_links r refl within in
      let c = char_chain r m.0 within m.1.follows in
      let w = wholes r within in
      let ended : successor classes levels (last_or (first_of r) c.rest) ≡ None = ap (successor classes levels) c.final ∙ no_successor (last_or r m.0) (last_below r m.0 within m.1.follows) m.1.ends in
      record {
        rs = m.0;
        runs = ap (λ k. chain (next_run links.next.items) k (Some r)) are.long ∙ m.1.is;
        follows = m.1.follows;
        rest = c.rest;
        members_are = c.is;
        places = sym (Follows-chain (length classes) (is_kept_at classes) (successor classes levels) (IsLinked-successor classes levels) (first_of r) c.rest w.run.kept w.run.within c.follows ended);
        final = c.final;
      }

  -- ---- where sequences begin

  later_members : (p : ℕ) (ps : List ℕ) → is_kept_at classes p ≡ true → p < length classes → AreSuccessors classes levels (p ∷ ps) → filter (is_first classes levels) ps ≡ []
  later_members p [] kept within steps = refl
  later_members p (q ∷ ps) kept within steps =
      let s = successor-IsLaterKept classes levels p q steps.0 in
      simp (is_first-successor classes levels p q kept within steps.0, later_members q ps s.kept s.within steps.1)

  firsts_of_run : (k : ℕ) → k < n → filter (is_first classes levels) (members classes levels k) ≡ cond (is_first classes levels (head classes levels k)) (head classes levels k ∷ []) []
  firsts_of_run k within =
      let w = wholes k within in
      let later = later_members (first_of k) w.rest w.run.kept w.run.within (AreRunSteps-successors classes levels (first_of k) w.rest w.run.steps) in
      ap (filter (is_first classes levels)) w.here ∙ ap {B = List ℕ} (λ ys. cond (is_first classes levels (first_of k)) (first_of k ∷ ys) ys) later

  firsts_from : (low m : ℕ) → low + m ≤ n
      → filter (is_first classes levels) (flat_map (members classes levels) (range_with_len low m)) ≡ map (head classes levels) (filter (λ k. is_first classes levels (head classes levels k)) (range_with_len low m))
  firsts_from low zero fits = refl
  firsts_from low (suc m) fits = elim (cases_Bool (is_first classes levels (first_of low))) [
    | inl e ↦ simp (filter-append, firsts_of_run low (omega arith), firsts_from (low + 1) m (omega arith), e)
    | inr e ↦ simp (filter-append, firsts_of_run low (omega arith), firsts_from (low + 1) m (omega arith), e)
  ]

  -- a run begins a sequence exactly if no link leads to it
  begins-heads : (r : ℕ) → r < n → is_first classes levels (head classes levels r) ≡ not (list_any (λ q. holds_number (next_run links.next.items q) r) (range_with_len 0 (count classes levels)))
  begins-heads r within = elim (cases_Bool (is_first classes levels (first_of r))) [
    | inl first ↦
        let none : list_any (λ q. holds_number (next q) r) (filter (λ _. true) (range_with_len 0 n)) ≡ false = none_in_range (λ q. holds_number (next q) r) (λ _. true) 0 n (λ k low high _. by_link first k (omega arith)) in
        first ∙ sym (ap not (ap (list_any (λ q. holds_number (next q) r)) (sym (filter_all (range_with_len 0 n))) ∙ none))
    | inr later ↦ elim (cases_Bool (list_any (λ q. holds_number (next q) r) (range_with_len 0 n))) [
      | inl some ↦ later ∙ sym (ap not some)
      | inr none ↦ absurd (both_ways (is_first classes levels (first_of r)) later (is_first-from_none classes levels (first_of r) (λ c kept fits leads. no_link none c kept fits leads)))
    ]
  ]
    where
      by_link : is_first classes levels (first_of r) ≡ true → (k : ℕ) → k < n → holds_number (next k) r ≡ false
      by_link first k low = elim (cases_Bool (holds_number (next k) r)) [
        | inl holds ↦
            let l = are.to k r (holds_number-true (next k) r holds) in
            let w = wholes k low in
            absurd (is_first-none classes levels (first_of r) first (last_of k) w.back_kept w.back_within l.leads)
        | inr other ↦ other
      ]

      no_link : list_any (λ q. holds_number (next q) r) (range_with_len 0 n) ≡ false → (c : ℕ) → is_kept_at classes c ≡ true → c < length classes → successor classes levels c ≡ Some (first_of r) → ⊥
      no_link none c kept fits leads = elim (successor-cases classes levels c (first_of r) leads) [
        | inl step ↦
            let w = wholes r within in
            both_ways (have_one_level levels (kept_before classes (first_of r)) (first_of r)) w.run.begins
            (have_one_level-from levels (kept_before classes (first_of r)) (first_of r) c (kept_before-next classes c (first_of r) kept step.next) (sym step.level))
        | inr resumed ↦
            let e = ended_in classes levels c fits kept resumed.ends in
            let link : next e.0 ≡ Some r = are.from e.0 r e.1 within (ap (successor classes levels) e.2 ∙ leads) in
            both_ways (holds_number (next e.0) r)
            (fails_in_range (λ q. holds_number (next q) r) (λ _. true) 0 n e.0 (ap (list_any (λ q. holds_number (next q) r)) (filter_all (range_with_len 0 n)) ∙ none) (omega arith) (omega (arith, e.1)) refl)
            (holds_number-from (next e.0) r link)
      ]

  -- ---- the sequences, of runs as ranges of units

  module _ (para_level : ℕ) (sides : AreSides classes levels para_level (count classes levels) links.sides.items) {encoding : Encoding} (text : Text encoding) (long : length classes ≡ length text.chars)
      (runs : List (ℕ × ℕ)) (runs_are : runs ≡ level_run_ranges text classes levels) where
    all_runs : length runs ≡ n
    all_runs = ap length runs_are ∙ length-level_run_ranges text classes levels

    abbrev run_at : ℕ → ℕ × ℕ
    run_at k = get_or runs k (0, 0)

    abbrev start_of : ℕ → ℕ
    start_of k = cut classes levels k

    run_is : (k : ℕ) → k < n → get_or runs k (0, 0) ≡ (unit_index text (cut classes levels k), unit_index text (cut classes levels (k + 1)))
    run_is k within = rw (runs_are, add-one k) (level_run_ranges-at text classes levels k (0, 0) long within)

    kept_in_runs-first : (r : ℕ × ℕ) (rs : List (ℕ × ℕ)) → kept_in_runs text classes (r ∷ rs) ≡ kept_in_runs text classes (r ∷ []) ++ kept_in_runs text classes rs
    unfolding in_units.kept_in_runs in_units.chars_in_runs
    kept_in_runs-first r rs = simp (filter-append, append-nil)

    kept_at : (k : ℕ) → k < n → kept_in_runs text classes (get_or runs k (0, 0) ∷ []) ≡ members classes levels k
    kept_at k within =
        let run = level_run classes levels k within in
        ap (λ r. kept_in_runs text classes (r ∷ [])) (run_is k within)
        ∙ kept_in_run text classes (start_of k) (start_of (k + 1)) (omega (arith, run.not_empty, run.within, long)) (omega (arith, run.within, long))

    -- the characters of the runs of a chain
    kept_along : (r : ℕ) (rs : List ℕ) → r < n → FollowRuns (r ∷ rs) → kept_in_runs text classes (map (λ k. get_or runs k (0, 0)) (r ∷ rs)) ≡ flat_map (members classes levels) (r ∷ rs)
    kept_along r [] within steps = kept_at r within ∙ sym (append-nil (members classes levels r))
    kept_along r (q ∷ rs) within steps =
        kept_in_runs-first (run_at r) (map (λ k. get_or runs k (0, 0)) (q ∷ rs))
        ∙ ap {B = List ℕ} (λ xs. xs ++ kept_in_runs text classes (map (λ k. get_or runs k (0, 0)) (q ∷ rs))) (kept_at r within)
        ∙ ap {B = List ℕ} (λ ys. members classes levels r ++ ys) (kept_along q rs (are.to r q steps.0).within steps.1)

    begins_is : (r : ℕ) → r < n → begins links r ≡ is_first classes levels (head classes levels r)
    begins_is r within = ap (λ (s : RunSides). is_some s.sos) (sides.is r within) ∙ either (is_first classes levels (first_of r))
      where
        either : (b : Bool) → is_some (cond b (Some (start_class para_level classes levels (first_of r))) None) ≡ b
        either true = refl
        either false = refl

    sos_is : (r : ℕ) → r < n → is_first classes levels (head classes levels r) ≡ true → (sequence_at links runs r).sos ≡ start_class para_level classes levels (head classes levels r)
    sos_is r within first = ap (λ (s : RunSides). unwrap_or s.sos L) (sides.is r within) ∙ simp first

    eos_is : (r : ℕ) → r < n → (s : IsSequence r) → (sequence_at links runs r).eos ≡ end_class para_level classes levels (back classes levels (last_or r s.rs))
    eos_is r within s =
        ap (λ ks. (sides_at links.sides.items (last_or r ks)).eos) s.runs
        ∙ ap (λ (x : RunSides). x.eos) (sides.is (last_or r s.rs) (last_below r s.rs within s.follows))

    sequence_is : (r : ℕ) → r < n → is_first classes levels (head classes levels r) ≡ true
        → characters_of text classes (sequence_at links runs r) ≡ sequence_from para_level classes levels (head classes levels r)
    unfolding sequence_from
    sequence_is r within first = λ i. record { places = places_are i; sos = sos_is r within first i; eos = eos_are i }
      where
        s : IsSequence r
        s = sequence_of r within

        places_are : kept_in_runs text classes (map (λ k. get_or runs k (0, 0)) (run_chain links r)) ≡ chain (successor classes levels) (length classes) (Some (head classes levels r))
        places_are =
            ap (λ ks. kept_in_runs text classes (map (λ k. get_or runs k (0, 0)) ks)) s.runs ∙ kept_along r s.rs within s.follows ∙ s.members_are ∙ sym s.places

        eos_are : (sequence_at links runs r).eos ≡ end_class para_level classes levels (last_or (head classes levels r) (chain (successor classes levels) (length classes) (Some (head classes levels r))))
        eos_are =
            eos_is r within s ∙ ap (end_class para_level classes levels) (sym (ap (last_or (first_of r)) s.places ∙ s.final))

    has_members : (r : ℕ) → r < n → has_places (sequence_from para_level classes levels (head classes levels r)) ≡ true
    unfolding sequence_from
    has_members r within = let s = sequence_of r within in lt-ltb 0 _ (omega (arith, ap length s.places))

    sequences_from : (low m : ℕ) → low + m ≤ n
        → filter has_places (map (characters_of text classes) (map (sequence_at links runs) (filter (begins links) (range_with_len low m))))
        ≡ map (sequence_from para_level classes levels) (map (head classes levels) (filter (λ k. is_first classes levels (head classes levels k)) (range_with_len low m)))
    sequences_from low zero fits = refl
    sequences_from low (suc m) fits = elim (cases_Bool (is_first classes levels (first_of low))) [
      | inl first ↦
          let here : begins links low ≡ true = begins_is low (omega arith) ∙ first in
          let is = sequence_is low (omega arith) first in
          let full : has_places (characters_of text classes (sequence_at links runs low)) ≡ true = ap has_places is ∙ has_members low (omega arith) in
          simp (here, first, full, is, sequences_from (low + 1) m (omega arith))
      | inr later ↦
          let here : begins links low ≡ false = begins_is low (omega arith) ∙ later in
          simp (here, later, sequences_from (low + 1) m (omega arith))
    ]

    pub linked-sequences : sequences_of text classes (linked_sequences links runs) ≡ sequences para_level classes levels
    unfolding linked_sequences sequences
    linked-sequences =
        ap (λ k. filter has_places (map (characters_of text classes) (map (sequence_at links runs) (filter (begins links) (range_with_len 0 k))))) all_runs
        ∙ sequences_from 0 n (omega arith)
        ∙ ap (map (sequence_from para_level classes levels)) (sym (ap (filter (is_first classes levels)) (kept_indexes-members classes levels) ∙ firsts_from 0 n (omega arith)))

    -- each run is in one of them
    pub linked-runs : IsPermutation runs (flat_map (λ (s : JoinedRuns). s.runs) (linked_sequences links runs))
    unfolding linked_sequences
    linked-runs =
        let ks : List ℕ = range_with_len 0 n in
        let from : ℕ → List ℕ = λ r. chain (next_run links.next.items) n (Some r) in
        let shared : IsPermutation ks (flat_map from (filter (begins links) ks)) = rw (filter_range-agree (begins links) (λ r. not (list_any (λ q. holds_number (next_run links.next.items q) r) ks)) 0 n (λ k low high. begins_is k (omega arith) ∙ begins-heads k (omega arith)))
        (rw (filter_all ks) at (IsPermutation-chains n (λ _. true) (λ r. next_run links.next.items r) run_links 0 n (omega arith))) in
        let whole : map run_at ks ≡ runs = ap (λ k. map run_at (range_with_len 0 k)) (sym all_runs) ∙ map-indexes runs (0, 0) in
        let parts : flat_map (λ (s : JoinedRuns). s.runs) (map (sequence_at links runs) (filter (begins links) (range_with_len 0 (length runs)))) ≡ map run_at (flat_map from (filter (begins links) ks)) =
        flat_map-map (λ (s : JoinedRuns). s.runs) (sequence_at links runs) (filter (begins links) (range_with_len 0 (length runs)))
        ∙ ap (λ k. flat_map (λ r. map run_at (chain (next_run links.next.items) k (Some r))) (filter (begins links) (range_with_len 0 (length runs)))) are.long
        ∙ ap (λ k. flat_map (λ r. map run_at (from r)) (filter (begins links) (range_with_len 0 k))) all_runs
        ∙ sym (map-flat_map run_at from (filter (begins links) ks)) in
        subst (λ (rs : List (ℕ × ℕ)). IsPermutation rs (flat_map (λ (s : JoinedRuns). s.runs) (map (sequence_at links runs) (filter (begins links) (range_with_len 0 (length runs)))))) whole
        (rw parts (IsPermutation-map run_at ks (flat_map from (filter (begins links) ks)) shared))

    -- ---- each sequence is one of runs in order that lie in the text

    line_at : (k : ℕ) → k < n → IsLine text (get_or runs k (0, 0)).0 (get_or runs k (0, 0)).1
    line_at k within =
        rw (run_is k within) (IsLine-unit_indexes text (start_of k) (start_of (k + 1)) (let run = level_run classes levels k within in omega (arith, run.not_empty)))

    lines_along : (r : ℕ) (rs : List ℕ) → r < n → FollowRuns (r ∷ rs) → AreLines text (map (λ k. get_or runs k (0, 0)) (r ∷ rs))
    lines_along r [] within steps = All-cons (λ (q : ℕ × ℕ). IsLine text q.0 q.1) (run_at r) [] (line_at r within) (All-nil (λ (q : ℕ × ℕ). IsLine text q.0 q.1))
    lines_along r (q ∷ rs) within steps =
        All-cons (λ (q : ℕ × ℕ). IsLine text q.0 q.1) (run_at r) (map (λ k. get_or runs k (0, 0)) (q ∷ rs)) (line_at r within) (lines_along q rs (are.to r q steps.0).within steps.1)

    lines_of : (r : ℕ) → r < n → AreLines text (sequence_at links runs r).runs
    lines_of r within = let s = sequence_of r within in rw s.runs (lines_along r s.rs within s.follows)

    lines_from : (low m : ℕ) → low + m ≤ n → All (λ (s : JoinedRuns). AreLines text s.runs) (map (sequence_at links runs) (filter (begins links) (range_with_len low m)))
    lines_from low zero fits = All-nil (λ (s : JoinedRuns). AreLines text s.runs)
    lines_from low (suc m) fits = elim (cases_Bool (begins links low)) [
      | inl here ↦
          rw here (All-cons (λ (s : JoinedRuns). AreLines text s.runs) (sequence_at links runs low) (map (sequence_at links runs) (filter (begins links) (range_with_len (low + 1) m))) (lines_of low (omega arith)) (lines_from (low + 1) m (omega arith)))
      | inr other ↦ rw other (lines_from (low + 1) m (omega arith))
    ]

    pub linked-lines : All (λ (s : JoinedRuns). AreLines text s.runs) (linked_sequences links runs)
    unfolding linked_sequences
    linked-lines = rw all_runs (lines_from 0 n (omega arith))

    run_some : (k : ℕ) → k < n → unit_index text (cut classes levels k) < unit_index text (cut classes levels (k + 1))
    run_some k within = let run = level_run classes levels k within in unit_index-lt text (start_of k) (start_of (k + 1)) run.not_empty (omega (arith, run.within, long))

    ordered_along : (low r : ℕ) (rs : List ℕ) → r < n → low ≤ unit_index text (cut classes levels r) → FollowRuns (r ∷ rs) → are_ordered_from low (map (λ k. get_or runs k (0, 0)) (r ∷ rs)) ≡ true
    ordered_along low r [] within from steps =
        simp (run_is r within, le-leb low (unit_index text (start_of r)) from, lt-ltb (unit_index text (start_of r)) (unit_index text (start_of (r + 1))) (run_some r within))
    ordered_along low r (q ∷ rs) within from steps =
        let l = are.to r q steps.0 in
        let later = ordered_along (unit_index text (start_of (r + 1))) q rs l.within (unit_index-mono text (start_of (r + 1)) (start_of q) (below_cut classes levels r q l.order (omega (arith, l.within)))) steps.1 in
        rw (run_is r within, le-leb low (unit_index text (start_of r)) from, lt-ltb (unit_index text (start_of r)) (unit_index text (start_of (r + 1))) (run_some r within)) later

    sos_side : (p : ℕ) → is_l_or_r (start_class para_level classes levels p) ≡ true
    unfolding start_class
    sos_side p = grind arith

    eos_side : (p : ℕ) → is_l_or_r (end_class para_level classes levels p) ≡ true
    unfolding end_class
    eos_side p = grind arith

    well_formed : (r : ℕ) → r < n → begins links r ≡ true → is_run_sequence (sequence_at links runs r).runs (sequence_at links runs r).sos (sequence_at links runs r).eos ≡ true
    well_formed r within here =
        let s = sequence_of r within in
        let first : is_first classes levels (first_of r) ≡ true = sym (begins_is r within) ∙ here in
        let ordered : are_ordered (sequence_at links runs r).runs ≡ true = rw s.runs (ordered_along 0 r s.rs within (omega arith) s.follows) in
        let some : length (sequence_at links runs r).runs ≡ suc (length s.rs) = rw s.runs (ap suc (length-map s.rs (λ k. get_or runs k (0, 0)))) in
        let full = lt-ltb 0 (length (sequence_at links runs r).runs) (omega (arith, some)) in
        let left : is_l_or_r (sequence_at links runs r).sos ≡ true = ap is_l_or_r (sos_is r within first) ∙ sos_side (first_of r) in
        let right : is_l_or_r (sequence_at links runs r).eos ≡ true = ap is_l_or_r (eos_is r within s) ∙ eos_side (last_of (last_or r s.rs)) in
        simp (full, ordered, left, right)

    pub linked-AreLinked : AreLinked links runs
    linked-AreLinked = record {
      all_sides = sides.long ∙ sym all_runs;
      all_next = are.long ∙ sym all_runs;
      later = λ r q e. let l = are.to r q e in (l.order, omega (arith, l.within, all_runs));
      well_formed = λ r within here. well_formed r (omega (arith, all_runs)) here;
    }
