-- One level run after another is linked: what a link says, what waits for the match of an open initiator, and what one
-- more run does.
use Rattle.bidi_base.proofs.Common.{◌≡◌, ◌≢◌, ℕ, zero, suc, ◌+◌, ◌-◌, ◌<◌, ◌≤◌, true, false, cond, eqb, max, List, [], ◌∷◌, ◌++◌, length, get_or, set, take, reverse, Option, Some, None, refl, sym}
use Rattle.bidi_base.proofs.Common.{ap, subst, ◌∙◌, arith, ◌⊎◌, inl, inr, range_with_len, cases_Bool, cases_eq, cases_lt, get_or_push, get_or_append_left, length-append, length-set}
use Rattle.bidi_base.proofs.Common.{reverse-append, eq-eqb, ne_eqb, IfSome, direction_of, class_at, first_or, last_or, is_isolate_initiator_at, is_pdi_at, matching_pdi, is_kept_at, kept_before, next_kept}
use Rattle.bidi_base.proofs.Common.{level_at, level_or, have_one_level, successor, is_first, start_class, end_class, read_class, waiting_for, get_or-set_same, get_or-set_other}
use Rattle.std.specs.List.{fold}
use Rattle.bidi_base.specs.declared.char_data.BidiClass.{BidiClass}
use Rattle.bidi_base.specs.declared.char_data.BidiClass.TheVariants.{L}
use Rattle.bidi_base.proofs.Lists.{reverse_front, last_or-reverse, reverse_none}
use Rattle.bidi_laws.proofs.IsolatesLemmas.{initiators_apart, pdis_apart}
use Rattle.bidi_laws.proofs.OpenMatches.{IsReadStack-match, IsReadStack-matched, IsReadStack-no_match}
use Rattle.bidi_laws.proofs.ReadStack.{Member, IsReadStack, IsReadStack-start, IsReadStack-more, IsReadStack-stay}
use Rattle.bidi_laws.proofs.RunsLemmas.{BeginsRun, IsLevelRun, is_first-run, successor-at_match}
use Rattle.bidi_laws.proofs.SequencesLemmas.{is_first-none, is_first-successor}
use Rattle.bidi_laws.proofs.SuccessorLemmas.{successor-IsLaterKept, successor-injective, is_kept-initiator, is_kept-pdi, kept_before-is_None}
use Rattle.bidi_laws.proofs.WaitingLemmas.{inside_run, is_first-no_pdi}
use Rattle.bidi_explicit.specs.Joining.{read_range}
use Rattle.bidi_explicit.specs.Links.{with_link, with_sides, sides_of, link_to, next_run, sides_at}
use Rattle.bidi_explicit.specs.declared.prepare.links.RunSides.{RunSides}
use Rattle.bidi_explicit.proofs.RunJoining.{IsFirst, first_at, kept_before-first, rest_of, front_is, last_is, one_level, kept_before-next_run, level_beyond, end_is}
use Rattle.bidi_explicit.proofs.RunMembers.{Member-filter, count, cut, members, head, back, level_run, cut-zero, IsWhole, whole_run, apart, same_run}
use Rattle.bidi_explicit.proofs.RunUnits.{IsLast}

-- past the last link there is none
get_or-push_zero : (xs : List ℕ) (r : ℕ) → get_or (xs ++ 0 ∷ []) r 0 ≡ get_or xs r 0
get_or-push_zero [] zero = refl
get_or-push_zero [] (suc r) = refl
get_or-push_zero (x ∷ xs) zero = refl
get_or-push_zero (x ∷ xs) (suc r) = get_or-push_zero xs r

next_run-none : (next : List ℕ) (r : ℕ) → next_run (with_link None next) r ≡ next_run next r
next_run-none next r = ap link_to (get_or-push_zero next r)

next_run-same : (next : List ℕ) (w : ℕ) → w < length next → next_run (with_link (Some w) next) w ≡ Some (length next)
next_run-same next w within =
    let read : get_or (set next w (length next) ++ 0 ∷ []) w 0 ≡ length next = get_or-push_zero (set next w (length next)) w ∙ get_or-set_same next w (length next) 0 within in
    grind (arith, ap link_to read)

next_run-other : (next : List ℕ) (w r : ℕ) → r ≢ w → next_run (with_link (Some w) next) r ≡ next_run next r
next_run-other next w r other =
    ap link_to (get_or-push_zero (set next w (length next)) r ∙ get_or-set_other next w r (length next) 0 other)

length-with_link : (g : Option ℕ) (next : List ℕ) → length (with_link g next) ≡ length next + 1
length-with_link None next = length-append next (0 ∷ [])
length-with_link (Some w) next = grind (arith, length-append, length-set)

module _ (classes : List BidiClass) (levels : List ℕ) where
  abbrev first_of : ℕ → ℕ
  first_of k = head classes levels k

  abbrev last_of : ℕ → ℕ
  last_of k = back classes levels k

  -- ---- links

  -- a link from the run at r to the run at q, of n runs
  pub record IsLink (n r q : ℕ) : Type 0 where
    pub order : r < q
    pub within : q < n
    pub leads : successor classes levels (back classes levels r) ≡ Some (head classes levels q)

  -- the links between n runs
  pub record AreLinks (n : ℕ) (next : List ℕ) : Type 0 where
    pub long : length next ≡ n
    pub to : (r q : ℕ) → next_run next r ≡ Some q → IsLink n r q
    pub from : (r q : ℕ) → r < n → q < n → successor classes levels (back classes levels r) ≡ Some (head classes levels q) → next_run next r ≡ Some q

  abbrev AllWhole : ℕ → Type 0
  AllWhole n = (k : ℕ) → k < n → IsWhole classes levels k

  pub AreLinks-start : AreLinks 0 []
  AreLinks-start = record { long = refl; to = λ r q e. absurd (cc e); from = λ r q below. absurd (omega arith) }

  module _ (n : ℕ) (next : List ℕ) (within : n < count classes levels) (wholes : AllWhole (n + 1)) (links : AreLinks n next) where
    -- a successor is in a later run
    later_run : (r q : ℕ) → r < n + 1 → q < n + 1 → successor classes levels (last_of r) ≡ Some (first_of q) → r < q
    later_run r q low high leads =
        let w = wholes r low in
        let v = wholes q high in
        let after = (successor-IsLaterKept classes levels (last_of r) (first_of q) leads).later in
        elim (cases_lt r q) [
          | inl less ↦ less
          | inr not_less ↦ elim (cases_eq q r) [
            | inl same ↦ absurd (omega (arith, after, w.order, ap first_of same))
            | inr other ↦ absurd (omega (arith, after, v.order, w.order, apart classes levels q r (omega arith) (omega arith) v w))
          ]
        ]

    -- a run that begins a sequence
    pub AreLinks-none : is_first classes levels (head classes levels n) ≡ true → AreLinks (n + 1) (with_link None next)
    AreLinks-none first = record { long = length-with_link None next ∙ ap (λ m. m + 1) links.long; to = to; from = from }
      where
        to : (r q : ℕ) → next_run (with_link None next) r ≡ Some q → IsLink (n + 1) r q
        to r q e =
            let l = links.to r q (sym (next_run-none next r) ∙ e) in
            record { order = l.order; within = omega (arith, l.within); leads = l.leads }

        from : (r q : ℕ) → r < n + 1 → q < n + 1 → successor classes levels (last_of r) ≡ Some (first_of q) → next_run (with_link None next) r ≡ Some q
        from r q low high leads = elim (cases_eq q n) [
          | inl same ↦
              let w = wholes r low in
              absurd (is_first-none classes levels (first_of n) first (last_of r) w.back_kept w.back_within (leads ∙ ap (λ k. Some (first_of k)) same))
          | inr other ↦
              next_run-none next r ∙ links.from r q (omega (arith, later_run r q low high leads)) (omega arith) leads
        ]

    -- a run that continues the sequence of the run at w
    pub AreLinks-some : (w : ℕ) → w < n → successor classes levels (back classes levels w) ≡ Some (head classes levels n) → AreLinks (n + 1) (with_link (Some w) next)
    AreLinks-some w before goes_on = record { long = length-with_link (Some w) next ∙ ap (λ m. m + 1) links.long; to = to; from = from }
      where
        here : next_run (with_link (Some w) next) w ≡ Some n
        here = next_run-same next w (omega (arith, links.long)) ∙ ap Some links.long

        to : (r q : ℕ) → next_run (with_link (Some w) next) r ≡ Some q → IsLink (n + 1) r q
        to r q e = elim (cases_eq r w) [
          | inl same ↦
              let is : n ≡ q = cc (here, e, ap (next_run (with_link (Some w) next)) same) in
              record { order = omega arith; within = omega arith; leads = ap last_at same ∙ goes_on ∙ ap (λ k. Some (first_of k)) is }
          | inr other ↦
              let l = links.to r q (sym (next_run-other next w r other) ∙ e) in
              record { order = l.order; within = omega (arith, l.within); leads = l.leads }
        ]
          where
            last_at : ℕ → Option ℕ
            last_at k = successor classes levels (last_of k)

        from : (r q : ℕ) → r < n + 1 → q < n + 1 → successor classes levels (last_of r) ≡ Some (first_of q) → next_run (with_link (Some w) next) r ≡ Some q
        from r q low high leads =
            let less = later_run r q low high leads in
            let v = wholes r low in
            let u = wholes w (omega arith) in
            elim (cases_eq q n) [
              | inl last ↦
                  let one : last_of r ≡ last_of w = successor-injective classes levels (last_of r) (last_of w) (first_of n) v.back_kept u.back_kept (leads ∙ ap (λ k. Some (first_of k)) last) goes_on in
                  let same : r ≡ w = same_run classes levels r w (omega arith) (omega arith) v u one in
                  ap (next_run (with_link (Some w) next)) same ∙ here ∙ ap Some (sym last)
              | inr inner ↦ elim (cases_eq r w) [
                | inl same ↦
                    let meets : first_of q ≡ first_of n = cc (leads, goes_on, ap (λ k. successor classes levels (last_of k)) same) in
                    let x = wholes q high in
                    absurd (omega (arith, meets, x.order, apart classes levels q n (omega arith) within x (wholes n (omega arith))))
                | inr other ↦ next_run-other next w r other ∙ links.from r q (omega arith) (omega arith) leads
              ]
            ]

  -- ---- what waits

  -- an initiator that ends its run waits with that run; one inside its run waits for nothing
  abbrev pub IsWaiting : ℕ → ℕ → Option ℕ → Type 0
  IsWaiting n i None = have_one_level levels (next_kept classes i) i ≡ true
  IsWaiting n i (Some w) = (w < n) × (i ≡ back classes levels w)

  abbrev pub AreWaiting : ℕ → List ℕ → List (Option ℕ) → Type 0
  AreWaiting n [] [] = Unit {0}
  AreWaiting n [] (w ∷ waits) = ⊥
  AreWaiting n (i ∷ stack) [] = ⊥
  AreWaiting n (i ∷ stack) (w ∷ waits) = IsWaiting n i w × AreWaiting n stack waits

  AreWaiting-more : (n : ℕ) (stack : List ℕ) (waits : List (Option ℕ)) → AreWaiting n stack waits → AreWaiting (n + 1) stack waits
  AreWaiting-more n [] [] h = tt
  AreWaiting-more n [] (w ∷ waits) h = h
  AreWaiting-more n (i ∷ stack) [] h = h
  AreWaiting-more n (i ∷ stack) (None ∷ waits) h = (h.0, AreWaiting-more n stack waits h.1)
  AreWaiting-more n (i ∷ stack) (Some w ∷ waits) h = ((omega (arith, h.0.0), h.0.1), AreWaiting-more n stack waits h.1)

  -- what is open once m characters were read, as the code keeps it: the innermost last
  pub record IsOpen (m n : ℕ) (waits : List (Option ℕ)) : Type 0 where
    pub stack : List ℕ
    pub isolates : IsReadStack (is_isolate_initiator_at classes) (is_pdi_at classes) m stack
    pub waiting : AreWaiting n stack (reverse waits)

  pub IsOpen-start : IsOpen 0 0 []
  IsOpen-start = record { stack = []; isolates = IsReadStack-start (is_isolate_initiator_at classes) (is_pdi_at classes); waiting = tt }

  pub IsOpen-more : (m n : ℕ) (waits : List (Option ℕ)) → IsOpen m n waits → IsOpen m (n + 1) waits
  IsOpen-more m n waits h = record { stack = h.stack; isolates = h.isolates; waiting = AreWaiting-more n h.stack (reverse waits) h.waiting }

  -- one character is read
  pub IsOpen-read : (m n : ℕ) (waits : List (Option ℕ)) (w : Option ℕ) → IsOpen m n waits
      → (is_isolate_initiator_at classes m ≡ true → IsWaiting n m w) → IsOpen (m + 1) n (read_class (class_at classes m) w waits)
  IsOpen-read m n waits w h wait = elim (cases_Bool (is_isolate_initiator_at classes m)) [
    | inl opens ↦
        rw opens
        (finish (waits ++ w ∷ []) (m ∷ h.stack) (w ∷ reverse waits) (IsReadStack-more (is_isolate_initiator_at classes) (is_pdi_at classes) m true false h.stack opens (initiators_apart classes m opens) (λ e. refl) h.isolates)
        (wait opens, h.waiting) (sym (reverse-append waits (w ∷ []))))
    | inr other ↦ elim (cases_Bool (is_pdi_at classes m)) [
      | inl closes ↦ rw (other, closes) (popped other closes h.stack (reverse waits) refl h.isolates h.waiting)
      | inr inert ↦
          rw (other, inert)
          (finish waits h.stack (reverse waits) (IsReadStack-stay (is_isolate_initiator_at classes) (is_pdi_at classes) m h.stack h.isolates other (inl inert)) h.waiting refl)
    ]
  ]
    where
      finish : (now : List (Option ℕ)) (st : List ℕ) (r : List (Option ℕ))
          → IsReadStack (is_isolate_initiator_at classes) (is_pdi_at classes) (m + 1) st → AreWaiting n st r → r ≡ reverse now → IsOpen (m + 1) n now
      finish now st r isolates waiting e = record { stack = st; isolates = isolates; waiting = subst (λ (x : List (Option ℕ)). AreWaiting n st x) e waiting }

      popped : is_isolate_initiator_at classes m ≡ false → is_pdi_at classes m ≡ true → (st : List ℕ) (r : List (Option ℕ)) → reverse waits ≡ r
          → IsReadStack (is_isolate_initiator_at classes) (is_pdi_at classes) m st → AreWaiting n st r
          → IsOpen (m + 1) n (take (length waits - 1) waits)
      popped other closes [] [] e isolates waiting =
          let none : waits ≡ [] = reverse_none waits e in
          finish (take (length waits - 1) waits) [] [] (IsReadStack-stay (is_isolate_initiator_at classes) (is_pdi_at classes) m [] isolates other (inr refl)) tt (sym (ap (λ (x : List (Option ℕ)). reverse (take (length x - 1) x)) none))
      popped other closes [] (v ∷ vs) e isolates waiting = absurd waiting
      popped other closes (i ∷ st) [] e isolates waiting = absurd waiting
      popped other closes (i ∷ st) (v ∷ vs) e isolates waiting =
          finish (take (length waits - 1) waits) st vs (IsReadStack-more (is_isolate_initiator_at classes) (is_pdi_at classes) m false true (i ∷ st) (pdis_apart classes m closes) closes (λ f. absurd (cc f)) isolates) waiting.1 (sym (reverse_front waits v vs e))

  -- characters that X9 removes change nothing
  IsOpen-skip : (k m n : ℕ) (waits : List (Option ℕ)) → IsOpen m n waits → ((j : ℕ) → m ≤ j → j < m + k → is_kept_at classes j ≡ false) → IsOpen (m + k) n waits
  IsOpen-skip zero m n waits h none = subst (λ (x : ℕ). IsOpen x n waits) (omega arith) h
  IsOpen-skip (suc k) m n waits h none =
      let gone = none m (omega arith) (omega arith) in
      let inert : is_isolate_initiator_at classes m ≡ false = grind (arith, is_kept-initiator (class_at classes m)) in
      let calm : is_pdi_at classes m ≡ false = grind (arith, is_kept-pdi (class_at classes m)) in
      let next : IsOpen (m + 1) n waits = record {
        stack = h.stack;
        isolates = IsReadStack-stay (is_isolate_initiator_at classes) (is_pdi_at classes) m h.stack h.isolates inert (inl calm);
        waiting = h.waiting;
      } in
      subst (λ (x : ℕ). IsOpen x n waits) (omega arith) (IsOpen-skip k (m + 1) n waits next (λ j low high. none j (omega arith) (omega arith)))

  -- the characters of a range are read
  IsOpen-range : (k m n : ℕ) (w : ℕ → Option ℕ) (waits : List (Option ℕ)) → IsOpen m n waits → ((j : ℕ) → m ≤ j → j < m + k → is_isolate_initiator_at classes j ≡ true → IsWaiting n j (w j))
      → IsOpen (m + k) n (fold (λ ws j. read_class (class_at classes j) (w j) ws) waits (range_with_len m k))
  IsOpen-range zero m n w waits h wait = subst (λ (x : ℕ). IsOpen x n waits) (omega arith) h
  IsOpen-range (suc k) m n w waits h wait =
      subst (λ (x : ℕ). IsOpen x n (fold (λ ws j. read_class (class_at classes j) (w j) ws) waits (range_with_len m (suc k)))) (omega arith)
      (IsOpen-range k (m + 1) n w (read_class (class_at classes m) (w m) waits) (IsOpen-read m n waits (w m) h (wait m (omega arith) (omega arith))) (λ j low high. wait j (omega arith) (omega arith)))

  -- the first character of a run begins a sequence, or continues that of the run that waits
  abbrev Begins : ℕ → Option ℕ → Type 0
  Begins f g = (g ≡ None) × (is_first classes levels f ≡ true)

  abbrev Continues : ℕ → ℕ → Option ℕ → Type 0
  Continues n f g = (w : ℕ) × (g ≡ Some w) × (w < n) × (successor classes levels (back classes levels w) ≡ Some f)

  goes_on : (n f : ℕ) (waits : List (Option ℕ)) → IsOpen f n waits → AllWhole n → f < length classes → BeginsRun classes levels f
      → Begins f (waiting_for (class_at classes f) waits) ⊎ Continues n f (waiting_for (class_at classes f) waits)
  unfolding matching_pdi
  goes_on n f waits h wholes within start = elim (cases_Bool (is_pdi_at classes f)) [
    | inl closes ↦ by_top closes h.stack (reverse waits) refl h.isolates h.waiting
    | inr other ↦ inl (simp other, is_first-no_pdi classes levels f other start)
  ]
    where
      by_top : is_pdi_at classes f ≡ true → (st : List ℕ) (r : List (Option ℕ)) → reverse waits ≡ r → IsReadStack (is_isolate_initiator_at classes) (is_pdi_at classes) f st → AreWaiting n st r
          → Begins f (waiting_for (class_at classes f) waits) ⊎ Continues n f (waiting_for (class_at classes f) waits)
      by_top closes [] [] e isolates waiting =
          inl (simp (closes, reverse_none waits e), is_first-run classes levels f start (λ i opens matches ends. IsReadStack-no_match (is_isolate_initiator_at classes) (is_pdi_at classes) (initiators_apart classes) (length classes) f i isolates opens matches))
      by_top closes [] (v ∷ vs) e isolates waiting = absurd waiting
      by_top closes (i ∷ st) [] e isolates waiting = absurd waiting
      by_top closes (i ∷ st) (None ∷ vs) e isolates waiting =
          inl (
            simp (closes, last_or-reverse None waits None vs e),
            is_first-run classes levels f start (λ j opens matches ends.
                grind (
                  arith,
                  IsReadStack-matched (is_isolate_initiator_at classes) (is_pdi_at classes) (initiators_apart classes) (length classes) f j (i ∷ st) isolates opens matches,
                  ends,
                  waiting.0,
                )),
          )
      by_top closes (i ∷ st) (Some w ∷ vs) e isolates waiting =
          let run = wholes w waiting.0.0 in
          let is : i ≡ back classes levels w = waiting.0.1 in
          let ends : have_one_level levels (next_kept classes i) i ≡ false = rw (is, run.final) run.run.ends in
          let matches = IsReadStack-match (is_isolate_initiator_at classes) (is_pdi_at classes) (initiators_apart classes) (length classes) f i st isolates closes within in
          inr (
            w,
            simp (closes, last_or-reverse None waits (Some w) vs e),
            waiting.0.0,
            ap (successor classes levels) (sym is) ∙ successor-at_match classes levels i f isolates.are_open.0 matches ends start,
          )

  -- ---- the classes at the ends of runs

  abbrev pub side_for : ℕ → ℕ → RunSides
  side_for para_level r =
      record {
        sos = cond (is_first classes levels (head classes levels r)) (Some (start_class para_level classes levels (head classes levels r))) None;
        eos = end_class para_level classes levels (back classes levels r);
      }

  pub record AreSides (para_level n : ℕ) (sides : List RunSides) : Type 0 where
    pub long : length sides ≡ n
    pub is : (r : ℕ) → r < n → sides_at sides r ≡ side_for para_level r

  AreSides-more : (para_level n : ℕ) (sides : List RunSides) (new : RunSides) → AreSides para_level n sides → new ≡ side_for para_level n → AreSides para_level (n + 1) (sides ++ new ∷ [])
  AreSides-more para_level n sides new h is = record {
    long = grind (arith, length-append, h.long);
    is = λ r below. elim (cases_lt r n) [
      | inl less ↦ get_or_append_left sides (new ∷ []) none r (omega (arith, h.long)) ∙ h.is r less
      | inr not_less ↦
          let same : r ≡ length sides = omega (arith, h.long) in
          let here : r ≡ n = omega arith in
          get_or_push sides new none r (sym same) ∙ is ∙ ap (side_for para_level) (sym here)
    ];
  }
    where
      none : RunSides
      none = record { sos = None; eos = L }

  -- ---- n runs are linked

  pub record IsLinkedTo (para_level n : ℕ) (next : List ℕ) (sides : List RunSides) (waits : List (Option ℕ)) (before : ℕ) : Type 0 where
    pub wholes : (k : ℕ) → k < n → IsWhole classes levels k
    pub links : AreLinks n next
    pub sides_are : AreSides para_level n sides
    pub is_open : IsOpen (cut classes levels n) n waits
    pub level_before : before ≡ level_or para_level levels (kept_before classes (cut classes levels n))
    pub at_start : cut classes levels n ≡ 0 → (n ≡ 0) × (waits ≡ [])

  pub IsLinkedTo-start : (para_level : ℕ) → IsLinkedTo para_level 0 [] [] [] para_level
  IsLinkedTo-start para_level = record {
    wholes = λ k below. absurd (omega arith);
    links = AreLinks-start;
    sides_are = record { long = refl; is = λ r below. absurd (omega arith) };
    is_open = rw (cut-zero classes levels) IsOpen-start;
    level_before = rw (cut-zero classes levels) (sym (ap (level_or para_level levels) (kept_before-is_None classes 0 (λ k below. absurd (omega arith)))));
    at_start = λ e. (refl, refl);
  }

  -- one more run with a kept character comes: the first of them is f, the last l
  module _ (para_level n : ℕ) (next : List ℕ) (sides : List RunSides) (waits : List (Option ℕ)) (before : ℕ) (g : Option ℕ) (f l : ℕ)
      (within : n < count classes levels) (linked : IsLinkedTo para_level n next sides waits before)
      (first : IsFirst classes (cut classes levels n) (cut classes levels (n + 1)) f) (last : IsLast classes (cut classes levels n) (cut classes levels (n + 1)) l) (g_is : g ≡ waiting_for (class_at classes (cut classes levels n)) waits) where
    abbrev a : ℕ
    a = cut classes levels n

    abbrev b : ℕ
    b = cut classes levels (n + 1)

    range : IsLevelRun classes levels (cut classes levels n) (cut classes levels (n + 1))
    range = level_run classes levels n within

    xs_are : members classes levels n ≡ f ∷ rest_of classes levels para_level f (cut classes levels (n + 1))
    xs_are = front_is classes levels para_level a b f range first

    first_is : head classes levels n ≡ f
    first_is = ap (first_or 0) xs_are

    last_member : back classes levels n ≡ l
    last_member = ap (last_or 0) xs_are ∙ last_is classes levels para_level a b f l range first last

    whole : IsWhole classes levels n
    whole = whole_run classes levels n within (omega (arith, ap length xs_are))

    pub wholes_more : (k : ℕ) → k < n + 1 → IsWhole classes levels k
    wholes_more k below = elim (cases_eq k n) [
      | inl same ↦ subst (λ (x : ℕ). IsWhole classes levels x) (sym same) whole
      | inr other ↦ linked.wholes k (omega arith)
    ]

    open_at : IsOpen f n waits
    open_at = subst (λ (x : ℕ). IsOpen x n waits) (omega (arith, first.from)) (IsOpen-skip (f - a) a n waits linked.is_open (λ j low high. first.none j low (omega (arith, first.from))))

    waits_for : g ≡ waiting_for (class_at classes f) waits
    waits_for = grind (arith, first_at classes levels para_level a b f range first, linked.at_start)

    choice : Begins f g ⊎ Continues n f g
    choice =
        rw waits_for (goes_on n f waits open_at linked.wholes (omega (arith, first.below, range.within)) (subst (λ (x : ℕ). BeginsRun classes levels x) first_is whole.run.begins))

    -- the run that waits is there
    pub waiting-fits : IfSome g (λ r. r < length next)
    waiting-fits = elim choice [
      | inl e ↦ rw e.0 tt
      | inr e ↦ rw e.1 (let fits : e.0 < length next = omega (arith, e.2, linked.links.long) in fits)
    ]

    -- with its link
    links_more : AreLinks (n + 1) (with_link g next)
    links_more = elim choice [
      | inl e ↦ rw e.0 (AreLinks-none n next within wholes_more linked.links (ap (is_first classes levels) first_is ∙ e.1))
      | inr e ↦ rw e.1 (AreLinks-some n next within wholes_more linked.links e.0 e.2 (e.3 ∙ ap Some (sym first_is)))
    ]

    -- its characters are read
    read_more : (now : List (Option ℕ)) → now ≡ read_range classes (l + 1) n (cut classes levels n) (cut classes levels (n + 1)) waits → IsOpen (cut classes levels (n + 1)) (n + 1) now
    read_more now read =
        let whole_range : a + (b - a) ≡ b = omega (arith, range.not_empty) in
        rw read (subst (λ (x : ℕ). IsOpen x (n + 1) (read_range classes (l + 1) n a b waits)) whole_range
        (IsOpen-range (b - a) a (n + 1) (λ m. cond (eqb (m + 1) (l + 1)) (Some n) None) waits (IsOpen-more a n waits linked.is_open) waits_by))
      where
        waits_by : (j : ℕ) → a ≤ j → j < a + (b - a) → is_isolate_initiator_at classes j ≡ true → IsWaiting (n + 1) j (cond (eqb (j + 1) (l + 1)) (Some n) None)
        waits_by j low high opens = elim (cases_eq j l) [
          | inl same ↦ rw (eq-eqb (j + 1) (l + 1) (omega arith)) (omega arith, same ∙ sym last_member)
          | inr other ↦
              let member : Member j (head classes levels n ∷ whole.rest) = rw whole.here at (Member-filter (is_kept_at classes) j a (b - a) low high (is_kept-initiator (class_at classes j) opens)) in
              rw (ne_eqb (j + 1) (l + 1) (λ e. other (omega arith)))
              (inside_run classes levels j (head classes levels n) whole.rest whole.run.steps member (λ e. other (e ∙ sym whole.final ∙ last_member)))
        ]

    module _ (level after : ℕ) (sos eos : BidiClass) (level_is : level ≡ level_at levels l)
        (after_is : after ≡ level_beyond classes levels para_level l (cut classes levels (n + 1))) (sos_is : sos ≡ direction_of (max level before))
        (eos_is : eos ≡ direction_of (max level after)) where
      sos_start : sos ≡ start_class para_level classes levels f
      unfolding start_class
      sos_start = simp (sos_is, level_is, one_level classes levels para_level a b f l range first last, linked.level_before, kept_before-first classes levels para_level a b f range first)

      eos_end : eos ≡ end_class para_level classes levels l
      eos_end = simp (eos_is, level_is, after_is, end_is classes levels para_level a b l range last)

      side_is : sides_of g sos eos ≡ side_for para_level n
      side_is = elim choice [
        | inl e ↦ rw (e.0, first_is, last_member, e.1, sos_start, eos_end) refl
        | inr e ↦
            let w = linked.wholes e.0 e.2 in
            let later : is_first classes levels f ≡ false = is_first-successor classes levels (back classes levels e.0) f w.back_kept w.back_within e.3 in
            rw (e.1, first_is, last_member, later, eos_end) refl
      ]

      pub IsLinkedTo-more : (now : List (Option ℕ))
          → now ≡ read_range classes (l + 1) n (cut classes levels n) (cut classes levels (n + 1)) waits
          → IsLinkedTo para_level (n + 1) (with_link g next) (with_sides g sos eos sides) now level
      IsLinkedTo-more now read = record {
        wholes = wholes_more;
        links = links_more;
        sides_are = AreSides-more para_level n sides (sides_of g sos eos) linked.sides_are side_is;
        is_open = read_more now read;
        level_before = level_is ∙ sym (ap (level_or para_level levels) (kept_before-next_run classes levels para_level a b l last));
        at_start = λ e. absurd (omega (arith, e, range.not_empty));
      }
