-- The directional status stack answers at each character the level and the class that the definitions give.
use Rattle.bidi_base.proofs.Common.{◌≡◌, ℕ, zero, suc, ◌+◌, ◌<◌, ◌≤◌, Bool, true, false, not, ◌&&◌, cond, leb, eqb, List, [], ◌∷◌, ◌++◌, common_steps, length, map, reverse, refl, ap, ◌∙◌, arith}
use Rattle.bidi_base.proofs.Common.{◌⊎◌, inl, inr, eq-eqb, cases_Bool, cases_eq, both_ways, cond-true, cond-false, is_isolate_initiator, class_at, Status, override_of, next_level, status_inside}
use Rattle.bidi_base.proofs.Common.{status_at, explicit_level, explicit_class, State, start, fits_in, entry_of, taken, refused, entered, drop_isolate, close_isolate, close_embedding, closed}
use Rattle.bidi_base.proofs.Common.{opened, state_at, nat_le, if◌then◌else◌, answer_level, answer_class}
use Rattle.bidi_base.specs.declared.char_data.BidiClass.{BidiClass}
use Rattle.bidi_base.specs.Levels.{max_depth}
use Rattle.bidi_laws.proofs.OpenersStack.{below_isolate, below_embedding, closed_by, opened_by, openers_read, left_at, open_at-closed_by}
use Rattle.bidi_base.specs.StatusMachine.{start_status}

-- the state that a stack of openers leaves, each entered in text order
unfoldable pub state_of : ℕ → List BidiClass → List ℕ → State
state_of para_level classes [] = start para_level
state_of para_level classes (q ∷ stack) = entered (class_at classes q) (state_of para_level classes stack)

-- an opener is taken
pub record IsTaken (c : BidiClass) (s : State) : Type 0 where
  pub level_fits : next_level c s.top.status.level ≤ 125
  pub no_isolates : s.overflow_isolates ≡ 0
  pub no_embeddings : s.overflow_embeddings ≡ 0

-- what a refusal does, by kind
pub refused-embedding : (c : BidiClass) (s : State) → is_isolate_initiator c ≡ false → s.overflow_isolates ≡ 0 → refused c s ≡ record s { overflow_embeddings = s.overflow_embeddings + 1 }
refused-embedding c s e none = cond-false _ _ _ e ∙ cond-true _ _ _ (eq-eqb s.overflow_isolates 0 none)

pub refused-inside : (c : BidiClass) (s : State) → is_isolate_initiator c ≡ false → 0 < s.overflow_isolates → refused c s ≡ s
refused-inside c s e some = grind arith

-- an opener is taken, or it overflows: as an isolate, as an embedding, or, inside an isolate that overflowed, unseen
pub data EnteredAs (c : BidiClass) (s : State) : State → Type 0 where
  as_taken : fits_in c s ≡ true → IsTaken c s → EnteredAs c s (taken c s)
  as_isolate : fits_in c s ≡ false → is_isolate_initiator c ≡ true → EnteredAs c s (record s { overflow_isolates = s.overflow_isolates + 1 })
  as_embedding : fits_in c s ≡ false → is_isolate_initiator c ≡ false → s.overflow_isolates ≡ 0 → EnteredAs c s (record s { overflow_embeddings = s.overflow_embeddings + 1 })
  as_unseen : fits_in c s ≡ false → is_isolate_initiator c ≡ false → 0 < s.overflow_isolates → EnteredAs c s s

pub entered_as : (c : BidiClass) (s : State) → EnteredAs c s (entered c s)
unfolding entered
entered_as c s = elim (cases_Bool (fits_in c s)) [
  | inl fits ↦ rw fits (as_taken fits (grind arith))
  | inr high ↦ elim (cases_Bool (is_isolate_initiator c)) [
    | inl isolate ↦ rw (high, isolate) (as_isolate high isolate)
    | inr other ↦ elim (cases_eq s.overflow_isolates 0) [
      | inl none ↦ rw (high, refused-embedding c s other none) (as_embedding high other none)
      | inr some ↦ rw (high, refused-inside c s other (omega arith)) (as_unseen high other (omega arith))
    ]
  ]
]

taken_valid : (c : BidiClass) (s : State) (isolate : Bool) → is_isolate_initiator c ≡ isolate → (taken c s).valid_isolates ≡ s.valid_isolates + cond isolate 1 0
taken_valid c s isolate e = ap (λ b. s.valid_isolates + cond b 1 0) e

-- an embedding changes neither count of isolates
entered-embedding : (c : BidiClass) (s t : State) → EnteredAs c s t → is_isolate_initiator c ≡ false → (t.overflow_isolates ≡ s.overflow_isolates) × (t.valid_isolates ≡ s.valid_isolates)
entered-embedding c s t h0 other = grind arith

-- s with further openers inside one isolate: the isolate overflowed, or it was taken
pub data IsInsideOf (s : State) : State → Type 0 where
  overflowed : IsInsideOf s (record s { overflow_isolates = s.overflow_isolates + 1 })
  inside : (t : State) → s.overflow_isolates ≡ 0 → s.overflow_embeddings ≡ 0 → t.overflow_isolates ≡ 0 → t.valid_isolates ≡ s.valid_isolates + 1
      → drop_isolate (t.top ∷ t.below) ≡ s.top ∷ s.below → IsInsideOf s t

entered-IsInsideOf : (c : BidiClass) (s t : State) → EnteredAs c s t → is_isolate_initiator c ≡ true → IsInsideOf s t
entered-IsInsideOf c s t (as_taken fits k) isolate =
    inside t k.no_isolates k.no_embeddings k.no_isolates (taken_valid c s true isolate) (cond-true _ _ _ isolate)
entered-IsInsideOf c s t (as_isolate high same) isolate = overflowed
entered-IsInsideOf c s t (as_embedding high other none) isolate = absurd (both_ways (is_isolate_initiator c) other isolate)
entered-IsInsideOf c s t (as_unseen high other some) isolate = absurd (both_ways (is_isolate_initiator c) other isolate)

IsInsideOf-entered : (c : BidiClass) (s t u : State) → EnteredAs c t u → is_isolate_initiator c ≡ false → IsInsideOf s t → IsInsideOf s u
IsInsideOf-entered c s t u (as_taken fits k) other overflowed = absurd (omega (arith, k.no_isolates))
IsInsideOf-entered c s t u (as_taken fits k) other (inside _ no_isolates no_embeddings none more drops) =
    inside u no_isolates no_embeddings none (omega (arith, taken_valid c t false other)) (cond-false _ _ _ other ∙ drops)
IsInsideOf-entered c s t u (as_isolate high isolate) other h = absurd (both_ways (is_isolate_initiator c) other isolate)
IsInsideOf-entered c s t u (as_embedding high same nothing) other overflowed = absurd (omega arith)
IsInsideOf-entered c s t u (as_embedding high same nothing) other (inside _ no_isolates no_embeddings none more drops) = inside u no_isolates no_embeddings none more drops
IsInsideOf-entered c s t u (as_unseen high same some) other h = h

-- so a PDI leaves what was there before the isolate
pub close_isolate-IsInsideOf : (s t : State) → IsInsideOf s t → close_isolate t ≡ s
unfolding close_isolate
close_isolate-IsInsideOf s t h = grind arith

pub close_isolate-none : (s : State) → s.overflow_isolates ≡ 0 → s.valid_isolates ≡ 0 → close_isolate s ≡ s
unfolding close_isolate
close_isolate-none s no_isolates no_valid = grind arith

-- a PDF takes back an embedding, and nothing else
close_embedding-embedding : (c : BidiClass) (s t : State) → EnteredAs c s t → is_isolate_initiator c ≡ false → close_embedding t ≡ s
unfolding close_embedding
close_embedding-embedding c s t h0 other = grind arith

close_embedding-isolate : (c : BidiClass) (s t : State) → EnteredAs c s t → is_isolate_initiator c ≡ true → close_embedding t ≡ t
unfolding close_embedding
close_embedding-isolate c s t h0 isolate = grind arith

pub close_embedding-start : (para_level : ℕ) → close_embedding (start para_level) ≡ start para_level
unfolding close_embedding
close_embedding-start para_level = refl

-- some opener asks for too high a level
abbrev pub is_cut : Status → List BidiClass → Bool
is_cut status [] = false
is_cut status (c ∷ openers) =
    if nat_le (next_level c status.level) max_depth then is_cut (record { level = next_level c status.level; override = override_of c }) openers else true

-- the status inside one opener more, where those before it were cut off or not
abbrev inside_one : BidiClass → Bool → Status → Status
inside_one c cut status =
    if not cut && nat_le (next_level c status.level) max_depth then record { level = next_level c status.level; override = override_of c } else status

abbrev fits_after : BidiClass → Bool → Status → Bool
fits_after c cut status = not cut && leb (next_level c status.level) 125

status_inside-more : (status : Status) (openers : List BidiClass) (c : BidiClass) → (status_inside status (openers ++ c ∷ []) ≡ inside_one c (is_cut status openers) (status_inside status openers))
    × (not (is_cut status (openers ++ c ∷ [])) ≡ fits_after c (is_cut status openers) (status_inside status openers))
unfolding status_inside
status_inside-more status [] c = grind arith
status_inside-more status (o ∷ openers) c = elim (cases_Bool (leb (next_level o status.level) 125)) [
  | inl fits ↦ rw fits (status_inside-more (record { level = next_level o status.level; override = override_of o }) openers c)
  | inr high ↦ rw high (refl, refl)
]

-- nothing has overflowed
abbrev is_clear : State → Bool
is_clear s = eqb s.overflow_isolates 0 && eqb s.overflow_embeddings 0

-- an opener that fits gives the status, and one that does not overflows
entered-status : (c : BidiClass) (s t : State) → EnteredAs c s t → (t.top.status ≡ cond (fits_in c s) (entry_of c s).status s.top.status) × (is_clear t ≡ fits_in c s)
entered-status c s t (as_taken fits k) = grind arith
entered-status c s t (as_isolate high isolate) = grind arith
entered-status c s t (as_embedding high other none) = grind arith
entered-status c s t (as_unseen high other some) = grind arith

fits_in-clear : (c : BidiClass) (s : State) → fits_in c s ≡ (is_clear s && leb (next_level c s.top.status.level) 125)
fits_in-clear c s = grind arith

module _ (para_level : ℕ) (classes : List BidiClass) where
  -- the state inside the openers of a stack
  abbrev inside_all : List ℕ → State
  inside_all stack = state_of para_level classes stack

  pub state_of-EnteredAs : (q : ℕ) (stack : List ℕ) → EnteredAs (class_at classes q) (inside_all stack) (inside_all (q ∷ stack))
  unfolding state_of
  state_of-EnteredAs q stack = entered_as (class_at classes q) (inside_all stack)

  -- a stack has no isolate, or its state is inside that of what is below its innermost isolate
  abbrev pub SplitState : List ℕ → Type 0
  SplitState stack =
      (((whole : List ℕ) → below_isolate classes whole stack ≡ whole) × ((inside_all stack).overflow_isolates ≡ 0) × ((inside_all stack).valid_isolates ≡ 0))
      ⊎ ((below : List ℕ) × ((whole : List ℕ) → below_isolate classes whole stack ≡ below) × IsInsideOf (inside_all below) (inside_all stack))

  pub split_state : (stack : List ℕ) → SplitState stack
  unfolding state_of
  split_state [] = inl (λ whole. refl, refl, refl)
  split_state (q ∷ stack) = grind (
    arith,
    entered-IsInsideOf (class_at classes q),
    state_of-EnteredAs q stack,
    entered-embedding (class_at classes q),
    IsInsideOf-entered (class_at classes q),
    split_state stack,
  )

  close_embedding-state_of : (stack : List ℕ) → close_embedding (inside_all stack) ≡ inside_all (below_embedding classes stack)
  unfolding state_of
  close_embedding-state_of [] = close_embedding-start para_level
  close_embedding-state_of (q ∷ stack) =
      grind (arith, close_embedding-isolate (class_at classes q) (inside_all stack), close_embedding-embedding (class_at classes q) (inside_all stack), state_of-EnteredAs q stack)

  -- what p closes and opens on the stack of indexes is what the machine does
  pub closed-state_of : (p : ℕ) (stack : List ℕ) → closed (class_at classes p) (inside_all stack) ≡ inside_all (closed_by classes p stack)
  unfolding closed closed_by
  closed-state_of p stack = grind (arith, close_embedding-state_of, split_state, close_isolate-none, close_isolate-IsInsideOf)

  opened-state_of : (p : ℕ) (stack : List ℕ) → opened (class_at classes p) (inside_all stack) ≡ inside_all (opened_by classes p stack)
  unfolding opened opened_by state_of
  opened-state_of p stack = grind arith

  pub state_at-state_of : (p : ℕ) → state_at para_level classes p ≡ inside_all (openers_read classes p)
  unfolding state_at state_of openers_read
  state_at-state_of zero = refl
  state_at-state_of (suc p) = grind (arith, state_at-state_of p, closed-state_of, opened-state_of)

  -- so what a character leaves is the state inside what it leaves open
  pub closed-state_at : (p : ℕ) → closed (class_at classes p) (state_at para_level classes p) ≡ inside_all (left_at classes p)
  closed-state_at p = grind (arith, state_at-state_of, closed-state_of)

  abbrev classes_of : List ℕ → List BidiClass
  classes_of stack = map (class_at classes) (reverse stack)

  classes_of-more : (q : ℕ) (stack : List ℕ) → classes_of (q ∷ stack) ≡ classes_of stack ++ class_at classes q ∷ []
  classes_of-more q stack = grind (arith, common_steps)

  -- the status on top is that inside the openers, and nothing overflowed exactly if none of them asks for too high a
  -- level
  record IsStatusOf (stack : List ℕ) : Type 0 where
    top : (inside_all stack).top.status ≡ status_inside (start_status para_level) (classes_of stack)
    clear : is_clear (inside_all stack) ≡ not (is_cut (start_status para_level) (classes_of stack))

  status_of : (stack : List ℕ) → IsStatusOf stack
  unfolding state_of status_inside
  status_of [] = record { top = refl; clear = refl }
  status_of (q ∷ stack) =
      let now = entered-status (class_at classes q) (inside_all stack) _ (entered_as _ _) in
      let more = status_inside-more (start_status para_level) (classes_of stack) (class_at classes q) in
      grind (
        arith,
        now.0,
        now.1,
        fits_in-clear (class_at classes q) (inside_all stack),
        status_of stack,
        classes_of-more q stack,
        more.0,
        more.1,
      )

  -- the machine's status at p is the one that the definitions give
  status_at-state_at : (p : ℕ) → p < length classes → (closed (class_at classes p) (state_at para_level classes p)).top.status ≡ status_at para_level classes p
  unfolding status_at
  status_at-state_at p fits = grind (arith, closed-state_at, status_of, open_at-closed_by)

  -- the machine answers the explicit level and the class after X of each character
  pub answer_level-explicit_level : (p : ℕ) → p < length classes → answer_level para_level (class_at classes p) (state_at para_level classes p) ≡ explicit_level para_level classes p
  unfolding explicit_level
  answer_level-explicit_level p fits = grind (arith, status_at-state_at)

  pub answer_class-explicit_class : (p : ℕ) → p < length classes → answer_class (class_at classes p) (state_at para_level classes p) ≡ explicit_class para_level classes p
  unfolding explicit_class
  answer_class-explicit_class p fits = grind (arith, status_at-state_at)
