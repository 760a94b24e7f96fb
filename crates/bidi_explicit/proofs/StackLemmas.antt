-- What the operations of the machine do to a stack of entries.
use Rattle.bidi_base.proofs.Common.{◌≡◌, ℕ, ◌+◌, ◌-◌, ◌<◌, ◌≤◌, true, false, cond, List, [], ◌∷◌, ◌++◌, length, map, reverse, Option, Some, None, refl, sym, ap, ◌∙◌, arith, common_steps, cond-true}
use Rattle.bidi_base.proofs.Common.{cond-false, reverse-append, length-reverse, length-map, is_isolate_initiator, is_opener, is_pdi, is_pdf, State, entry_of, taken, refused}
use Rattle.bidi_base.proofs.Common.{entered, fits_in, drop_isolate, close_isolate, close_embedding, closed, opened, next_level, override_of, IsWithinDepth}
use Rattle.std.specs.Prelude.{IsSome}
use Rattle.std.specs.Option.{option_to_list}
use Rattle.bidi_base.specs.declared.char_data.BidiClass.{BidiClass}
use Rattle.bidi_laws.proofs.StatusBounds.{IsTaken-room}
use Rattle.bidi_explicit.specs.declared.explicit.status.StatusEntry.{StatusEntry}
use Rattle.bidi_explicit.specs.Status.{below_last, entry_count, seen, state_by, IsLast}

-- the last entry, and those below it
below_last-push : (xs : List StatusEntry) (x : StatusEntry) → below_last (xs ++ x ∷ []) ≡ reverse xs
below_last-push xs x = simp reverse-append refl

pub length-below_last : (x : StatusEntry) (xs : List StatusEntry) → IsLast x xs → length (below_last xs) + 1 ≡ length xs
length-below_last x xs last = grind (arith, length-reverse, ap length last)

-- a PDF
pub close_embedding-inside : (x : StatusEntry) (xs : List StatusEntry) (i e v : ℕ) → 0 < i → state_by x xs i e v ≡ close_embedding (state_by x xs i e v)
unfolding close_embedding
close_embedding-inside x xs i e v some = grind arith

pub close_embedding-overflowed : (x : StatusEntry) (xs : List StatusEntry) (i e v : ℕ) → i ≡ 0 → 0 < e → state_by x xs i (e - 1) v ≡ close_embedding (state_by x xs i e v)
unfolding close_embedding
close_embedding-overflowed x xs i e v none some = grind arith

pub close_embedding-isolate_top : (x : StatusEntry) (xs : List StatusEntry) (i e v : ℕ) → i ≡ 0 → e ≡ 0 → x.is_isolate ≡ true → state_by x xs i e v ≡ close_embedding (state_by x xs i e v)
unfolding close_embedding
close_embedding-isolate_top x xs i e v none zero_e top = grind arith

pub close_embedding-alone : (x : StatusEntry) (xs : List StatusEntry) (i e v : ℕ) → i ≡ 0 → e ≡ 0 → length xs ≡ 0 → state_by x xs i e v ≡ close_embedding (state_by x xs i e v)
unfolding close_embedding
close_embedding-alone x [] i e v none zero_e few = grind (arith, common_steps)
close_embedding-alone x (y ∷ xs) i e v none zero_e few = absurd (omega arith)

close_embedding-pops : (x y : StatusEntry) (ys : List StatusEntry) (i e v : ℕ) → i ≡ 0 → e ≡ 0 → x.is_isolate ≡ false → state_by y ys i e v ≡ close_embedding (state_by x (y ∷ ys) i e v)
unfolding close_embedding
close_embedding-pops x y ys i e v none zero_e top = grind (arith, common_steps)

pub close_embedding-popped : (x y : StatusEntry) (z : Option StatusEntry) (old new : List StatusEntry) (i e v : ℕ) → i ≡ 0 → e ≡ 0 → IsSome z → old ≡ new ++ option_to_list z → IsLast y new
    → x.is_isolate ≡ false → state_by y (below_last new) i e v ≡ close_embedding (state_by x (below_last old) i e v)
close_embedding-popped x y None old new i e v none zero_e some is last top = absurd (grind (arith, some))
close_embedding-popped x y (Some z) old new i e v none zero_e some is last top =
    rw (ap below_last is ∙ below_last-push new z ∙ last) (close_embedding-pops x y (below_last new) i e v none zero_e top)

pub ruleset embedding_closings = (close_embedding-inside, close_embedding-overflowed, close_embedding-isolate_top, close_embedding-alone, close_embedding-popped, length-below_last)

-- a PDI
pub close_isolate-inside : (x : StatusEntry) (xs : List StatusEntry) (i e v : ℕ) → 0 < i → state_by x xs (i - 1) e v ≡ close_isolate (state_by x xs i e v)
unfolding close_isolate
close_isolate-inside x xs i e v some = grind arith

pub close_isolate-unmatched : (x : StatusEntry) (xs : List StatusEntry) (i e v : ℕ) → i ≡ 0 → v ≡ 0 → state_by x xs i e v ≡ close_isolate (state_by x xs i e v)
unfolding close_isolate
close_isolate-unmatched x xs i e v none zero_v = grind arith

close_isolate-pops : (x z : StatusEntry) (xs zs : List StatusEntry) (i e v : ℕ) → i ≡ 0 → 0 < v → drop_isolate (seen x ∷ map seen xs) ≡ seen z ∷ map seen zs
    → state_by z zs i 0 (v - 1) ≡ close_isolate (state_by x xs i e v)
unfolding close_isolate
close_isolate-pops x z xs zs i e v none some drops = grind arith

pub close_isolate-popped : (x z : StatusEntry) (old new : List StatusEntry) (i e v : ℕ) → i ≡ 0 → 0 < v → drop_isolate (map seen (reverse old)) ≡ map seen (reverse new) → IsLast x old → IsLast z new
    → state_by z (below_last new) i 0 (v - 1) ≡ close_isolate (state_by x (below_last old) i e v)
close_isolate-popped x z old new i e v none some drops last now =
    close_isolate-pops x z (below_last old) (below_last new) i e v none some (ap (λ es. drop_isolate (map seen es)) (sym last) ∙ drops ∙ ap (map seen) now)

pub ruleset isolate_closings = (close_isolate-inside, close_isolate-unmatched, close_isolate-popped)

-- an opener
pub entered_pushed : (c : BidiClass) (s : State) (x y : StatusEntry) (old new : List StatusEntry) (i e v w : ℕ) → state_by x (below_last old) i e v ≡ s → IsLast x old → new ≡ old ++ y ∷ []
    → fits_in c s ≡ true → seen y ≡ entry_of c s → w ≡ v + cond (is_isolate_initiator c) 1 0
    → state_by y (below_last new) i e w ≡ entered c s
unfolding entered
entered_pushed c s x y old new i e v w is last pushed fits same more = rw (ap below_last pushed ∙ below_last-push old y ∙ last) (simp (← is) (grind (arith, common_steps)))

-- the entry that it pushes
pub entry-is : (c : BidiClass) (s : State) (entry : StatusEntry) → entry.level ≡ next_level c s.top.status.level → entry.override_class ≡ override_of c → entry.is_isolate ≡ is_isolate_initiator c
    → seen entry ≡ entry_of c s
entry-is c s entry level override isolate = grind arith

entered_refused : (c : BidiClass) (s : State) → fits_in c s ≡ false → entered c s ≡ refused c s
unfolding entered
entered_refused c s e = cond-false (fits_in c s) (taken c s) (refused c s) e

pub entered_overflow_isolate : (c : BidiClass) (s : State) (x : StatusEntry) (xs : List StatusEntry) (i e v : ℕ) → state_by x xs i e v ≡ s → fits_in c s ≡ false → is_isolate_initiator c ≡ true
    → state_by x xs (i + 1) e v ≡ entered c s
entered_overflow_isolate c s x xs i e v is fails initiator = grind (arith, entered_refused)

pub entered_overflow_embedding : (c : BidiClass) (s : State) (x : StatusEntry) (xs : List StatusEntry) (i e v : ℕ) → state_by x xs i e v ≡ s → fits_in c s ≡ false → is_isolate_initiator c ≡ false
    → i ≡ 0 → state_by x xs i (e + 1) v ≡ entered c s
entered_overflow_embedding c s x xs i e v is fails other none = grind (arith, entered_refused)

pub entered_inside : (c : BidiClass) (s : State) (x : StatusEntry) (xs : List StatusEntry) (i e v : ℕ) → state_by x xs i e v ≡ s → fits_in c s ≡ false → is_isolate_initiator c ≡ false → 0 < i
    → s ≡ entered c s
entered_inside c s x xs i e v is fails other some = grind (arith, entered_refused)

-- how many entries there are
pub entry_count-close_embedding : (s : State) → entry_count (close_embedding s) ≤ entry_count s
unfolding close_embedding
entry_count-close_embedding s = grind arith

pub entry_count-entered : (c : BidiClass) (s : State) → entry_count (entered c s) ≤ entry_count s + 1
unfolding entered
entry_count-entered c s = grind arith

pub ruleset entry_counts = (entry_count-close_embedding, entry_count-entered)

-- by class
pub closed-pdi : (c : BidiClass) (s : State) → is_pdi c ≡ true → closed c s ≡ close_isolate s
unfolding closed
closed-pdi c s e = cond-true (is_pdi c) _ _ e

pub closed-pdf : (c : BidiClass) (s : State) → is_pdi c ≡ false → is_pdf c ≡ true → closed c s ≡ close_embedding s
unfolding closed
closed-pdf c s e f = cond-false (is_pdi c) _ _ e ∙ cond-true (is_pdf c) _ _ f

pub closed-other : (c : BidiClass) (s : State) → is_pdi c ≡ false → is_pdf c ≡ false → closed c s ≡ s
unfolding closed
closed-other c s e f = cond-false (is_pdi c) _ _ e ∙ cond-false (is_pdf c) _ _ f

pub opened-opener : (c : BidiClass) (s : State) → is_opener c ≡ true → opened c s ≡ entered c s
unfolding opened
opened-opener c s e = cond-true (is_opener c) _ _ e

pub opened-other : (c : BidiClass) (s : State) → is_opener c ≡ false → opened c s ≡ s
unfolding opened
opened-other c s e = cond-false (is_opener c) _ _ e

-- it finds room
pub fits_in-room : (para_level : ℕ) (c : BidiClass) (s : State) (x : StatusEntry) (entries : List StatusEntry) (i e v : ℕ) → state_by x (below_last entries) i e v ≡ s → IsLast x entries
    → IsWithinDepth para_level s → fits_in c s ≡ true → length entries < 126
fits_in-room para_level c s x entries i e v is last depth fits =
    grind (arith, length-map, length-below_last x entries last, IsTaken-room para_level c s depth)
