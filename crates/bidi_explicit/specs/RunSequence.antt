-- What contracts see of an isolating run sequence in code, and of the iterators over its code units.
use Rattle.std.specs.Prelude.{ℕ, List, ◌++◌, filter, map, reverse}
use Rattle.std.specs.declared.ops.Range.{Range}
use Rattle.bidi_base.specs.declared.char_data.BidiClass.{BidiClass}
use Rattle.bidi_base.specs.Indexes.{between}
use Rattle.bidi_base.specs.Sequences.{RunSequence, has_places}
use Rattle.bidi_base.specs.Units.{bounds, units_in_runs}
use Rattle.bidi_explicit.specs.Joining.{JoinedRuns, characters_of}
use Rattle.bidi_explicit.specs.declared.prepare.sequence.IsolatingRunSequence.{IsolatingRunSequence}
use Rattle.bidi_explicit.specs.declared.prepare.borrowed.BorrowedSequence.{BorrowedSequence}
use Rattle.bidi_explicit.specs.declared.prepare.sequence.ForwardsFrom.{ForwardsFrom}
use Rattle.bidi_explicit.specs.declared.prepare.sequence.BackwardsFrom.{BackwardsFrom}

-- its level runs
abbrev pub runs : IsolatingRunSequence → List (Range ℕ)
runs s = s.runs.items

-- its level runs, as pairs of their ends
abbrev pub run_bounds : IsolatingRunSequence → List (ℕ × ℕ)
run_bounds s = map bounds s.runs.items

-- the classes before its first character and after its last
abbrev pub sos : IsolatingRunSequence → BidiClass
sos s = s.sos

abbrev pub eos : IsolatingRunSequence → BidiClass
eos s = s.eos

-- the same for a sequence that borrows its runs
abbrev pub borrowed_runs : BorrowedSequence → List (Range ℕ)
borrowed_runs s = s.runs.now

abbrev pub borrowed_sos : BorrowedSequence → BidiClass
borrowed_sos s = s.sos

abbrev pub borrowed_eos : BorrowedSequence → BidiClass
borrowed_eos s = s.eos

abbrev pub borrowed_joined : BorrowedSequence → JoinedRuns
borrowed_joined s = record { runs = map bounds s.runs.now; sos = s.sos; eos = s.eos }

-- a sequence's runs, with the classes at both ends
abbrev pub joined : IsolatingRunSequence → JoinedRuns
joined s = record { runs = run_bounds s; sos = s.sos; eos = s.eos }

-- the sequence of the characters that X9 keeps in its runs
abbrev pub sequence_in : (ℕ → ℕ) → List ℕ → List BidiClass → IsolatingRunSequence → RunSequence
sequence_in len_of chars classes s = characters_of len_of chars classes (joined s)

-- the same for some sequences, without those that have no such character
abbrev pub sequences_in : (ℕ → ℕ) → List ℕ → List BidiClass → List IsolatingRunSequence → List RunSequence
sequences_in len_of chars classes out = filter has_places (map (sequence_in len_of chars classes) out)

-- the code units that an iterator has not returned yet
abbrev pub forwards_left : ForwardsFrom → List ℕ
forwards_left w = between w.at w.end ++ units_in_runs (map bounds w.later.now)

abbrev pub backwards_left : BackwardsFrom → List ℕ
backwards_left w = reverse (units_in_runs (map bounds w.earlier.now) ++ between w.start w.at)
