-- Level runs that are linked into isolating run sequences.
use Rattle.std.specs.Prelude.{◌≡◌, ℕ, ◌<◌, Bool, true, IsTrue, if◌then◌else◌, ◌==◌, List, [], ◌∷◌, ◌++◌, length, map, filter, get_or, slice_set, take, Option, Some, None, is_some, unwrap_or}
use Rattle.bidi_base.specs.declared.char_data.BidiClass.{BidiClass}
use Rattle.bidi_base.specs.declared.char_data.BidiClass.TheVariants.{L}
use Rattle.std.specs.Global.{Vec}
use Rattle.std.specs.List.{range_with_len}
use Rattle.std.specs.declared.ops.Range.{Range}
use Rattle.bidi_base.specs.Indexes.{chain, last_or}
use Rattle.bidi_base.specs.Sequences.{RunSequence, has_places}
use Rattle.bidi_base.specs.Units.{bounds, is_run_sequence}
use Rattle.bidi_explicit.specs.Joining.{JoinedRuns, characters_of}
use Rattle.bidi_explicit.specs.declared.prepare.links.RunLinks.{RunLinks}
use Rattle.bidi_explicit.specs.declared.prepare.links.RunSides.{RunSides}

-- the level runs that were linked: they are at the start of a list
abbrev pub linked_runs : RunLinks → List (Range ℕ) → List (ℕ × ℕ)
linked_runs links runs = map bounds (take (length links.next.items) runs)

-- the linked runs are unchanged, whatever comes after them
abbrev pub KeepsLinked : RunLinks → Vec (Range ℕ) → Vec (Range ℕ) → Type 0
KeepsLinked links old new = linked_runs links new.items ≡ linked_runs links old.items

-- the links with one more run, to which a link leads from the run at r, if there is one
abbrev pub with_link : Option ℕ → List ℕ → List ℕ
with_link None next = next ++ 0 ∷ []
with_link (Some r) next = slice_set next r (length next) ++ 0 ∷ []

-- the classes at the ends of this run: it has an sos only if it begins a sequence
abbrev pub sides_of : Option ℕ → BidiClass → BidiClass → RunSides
sides_of None sos eos = record { sos = Some sos; eos = eos }
sides_of (Some r) sos eos = record { sos = None; eos = eos }

abbrev pub with_sides : Option ℕ → BidiClass → BidiClass → List RunSides → List RunSides
with_sides waits sos eos sides = sides ++ sides_of waits sos eos ∷ []

-- the run that a link leads to, if it leads to one, and the run that continues the sequence of the run at r
abbrev pub link_to : ℕ → Option ℕ
link_to n = if n == 0 then None else Some n

abbrev pub next_run : List ℕ → ℕ → Option ℕ
next_run next r = link_to (get_or next r 0)

abbrev pub sides_at : List RunSides → ℕ → RunSides
sides_at sides r = get_or sides r (record { sos = None; eos = L })

-- the runs of the sequence that begins with the run at r
abbrev pub run_chain : RunLinks → ℕ → List ℕ
run_chain links r = chain (next_run links.next.items) (length links.next.items) (Some r)

-- a sequence begins with that run
abbrev pub begins : RunLinks → ℕ → Bool
begins links r = is_some (sides_at links.sides.items r).sos

-- the sequence that begins with the run at r
abbrev pub sequence_at : RunLinks → List (ℕ × ℕ) → ℕ → JoinedRuns
sequence_at links runs r =
    record {
      runs = map (λ k. get_or runs k (0, 0)) (run_chain links r);
      sos = unwrap_or (sides_at links.sides.items r).sos L;
      eos = (sides_at links.sides.items (last_or r (run_chain links r))).eos;
    }

-- the sequences that begin with the runs before the one at r, in the order of their first runs
abbrev pub sequences_before : RunLinks → List (ℕ × ℕ) → ℕ → List JoinedRuns
sequences_before links runs r = map (sequence_at links runs) (filter (begins links) (range_with_len 0 r))

-- all sequences
unfoldable pub linked_sequences : RunLinks → List (ℕ × ℕ) → List JoinedRuns
linked_sequences links runs = sequences_before links runs (length runs)

-- the sequences of the characters that X9 keeps, without those that have no such character
abbrev pub sequences_of : (ℕ → ℕ) → List ℕ → List BidiClass → List JoinedRuns → List RunSequence
sequences_of len_of chars classes out = filter has_places (map (characters_of len_of chars classes) out)

-- each link leads to a later run, and a sequence has runs in order and L or R at both ends
pub record AreLinked (links : RunLinks) (runs : List (ℕ × ℕ)) : Type 0 where
  pub all_sides : length links.sides.items ≡ length runs
  pub all_next : length links.next.items ≡ length runs
  pub later : (r q : ℕ) → next_run links.next.items r ≡ Some q → (r < q) × (q < length runs)
  pub well_formed : (r : ℕ) → r < length runs → begins links r ≡ true
      → IsTrue (is_run_sequence (sequence_at links runs r).runs (sequence_at links runs r).sos (sequence_at links runs r).eos)
