-- What contracts see of readers and writers that are watched, and of the ends over them.
use Rattle.std.specs.Prelude.{ℕ, Bool}
use Rattle.bidi_show_run.specs.declared.streams.StreamIn.{StreamIn}
use Rattle.bidi_show_run.specs.declared.streams.StreamOut.{StreamOut}
use Rattle.bidi_show_run.specs.declared.streams.WatchedReader.{WatchedReader}
use Rattle.bidi_show_run.specs.declared.streams.WatchedWriter.{WatchedWriter}

-- ---- a watched reader

-- the reader
abbrev pub reader_of : {R : Type 0} → WatchedReader R → R
reader_of w = w.reader

-- a read has failed
abbrev pub has_read_failed : {R : Type 0} → WatchedReader R → Bool
has_read_failed w = w.has_failed

-- a read has come to the end: it gave no byte for a buffer with room
abbrev pub has_read_ended : {R : Type 0} → WatchedReader R → Bool
has_read_ended w = w.has_ended

-- ---- a watched writer

-- the writer
abbrev pub writer_of : {W : Type 0} → WatchedWriter W → W
writer_of w = w.writer

-- a write has failed
abbrev pub has_write_failed : {W : Type 0} → WatchedWriter W → Bool
has_write_failed w = w.has_failed

-- ---- an end over a reader

-- the reader
abbrev pub read_end : {R F E : Type 0} → StreamIn R F E → WatchedReader R
read_end s = s.watched

-- how many reads have failed
abbrev pub failed_reads_of : {R F E : Type 0} → StreamIn R F E → ℕ
failed_reads_of s = s.failed

-- how many reads have come to the end
abbrev pub ended_reads_of : {R F E : Type 0} → StreamIn R F E → ℕ
ended_reads_of s = s.ended

-- ---- an end over a writer

-- the writer
abbrev pub written_end : {W L : Type 0} → StreamOut W L → WatchedWriter W
written_end s = s.watched

-- how many writes have failed
abbrev pub failed_writes_of : {W L : Type 0} → StreamOut W L → ℕ
failed_writes_of s = s.failed
