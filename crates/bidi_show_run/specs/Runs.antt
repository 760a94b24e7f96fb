-- What a run of the program reads and writes.
use Rattle.std.specs.Prelude.{◌≡◌, ◌≢◌, ◌↔◌, ℕ, Bool, true, false, IsTrue, ◌||◌, List, Option, Result, Ok, Err, OnOk, IfErr, IfSome, IsNone, IsErrOf}
use Rattle.std.specs.Io.KnownBytes.{IsAtEnd}
use Rattle.std.specs.Str.{IsUtf8}
use Rattle.bidi_show_run.specs.Commands.{command_of, reads_input}
use Rattle.bidi_show_run.specs.Texts.{WritesAnswer}
use Rattle.bidi_show_run.specs.Streams.{reader_of, has_read_failed, has_read_ended, writer_of, has_write_failed}
use Rattle.bidi_show_run.specs.declared.fault.ShowFault.{ShowFault}
use Rattle.bidi_show_run.specs.declared.fault.ShowFault.TheVariants.{Usage, NotUtf8, Memory, Device}
use Rattle.bidi_show_run.specs.declared.runs.Finished.{Finished}

-- where a run with this result leaves its reader: if it reads the input and succeeds, or returns NotUtf8, the reader is
-- at its end
abbrev pub LeavesAtEnd : {A : Type 0} → Bool → Result A ShowFault → Bool → Option (List ℕ) → Type 0
LeavesAtEnd reads (Ok answer) ended left = reads ≡ true → (ended ≡ true) × IsAtEnd left
LeavesAtEnd reads (Err NotUtf8) ended left = (reads ≡ true) × (ended ≡ true) × IsAtEnd left
LeavesAtEnd reads (Err Usage) ended left = ended ≡ false
LeavesAtEnd reads (Err Memory) ended left = Unit
LeavesAtEnd reads (Err Device) ended left = Unit

-- a run with these arguments has ended; `remaining` and `contents` are the bytes of its reader and of its writer, if
-- known
pub record IsRunOf {R W : Type 0} (remaining : R → Option (List ℕ)) (contents : W → Option (List ℕ))
    (words : List (List ℕ)) (reader : R) (writer : W) (finished : Finished R W) : Type 0 where
  -- the error is `Usage` exactly if the arguments are no command
  pub usage : IsErrOf finished.outcome Usage ↔ IsNone (command_of words)
  -- the error is `Device` exactly if a read or a write failed. No clause of a reader or a writer says when its own
  -- calls fail, so no clause says more here. Tests make reads and writes fail
  pub device : IsErrOf finished.outcome Device
      ↔ IsTrue (has_read_failed finished.reader || has_write_failed finished.writer)
  -- the error is `NotUtf8` exactly if reading came to the end and the bytes, if these are known, are not UTF-8
  pub not_utf8 : IfSome (remaining reader) (λ bytes.
      IsErrOf finished.outcome NotUtf8 ↔ IsTrue (has_read_ended finished.reader) × ¬ (IsUtf8 bytes))
  -- a command that reads the input and succeeds, or returns `NotUtf8`, has read to the end
  pub ended : LeavesAtEnd (reads_input (command_of words)) finished.outcome (has_read_ended finished.reader)
      (remaining (reader_of finished.reader))
  -- a run that succeeds has written the text of its command
  pub written : OnOk finished.outcome (IfSome (command_of words) (λ command.
      WritesAnswer command (remaining reader) (remaining (reader_of finished.reader)) (contents writer)
      (contents (writer_of finished.writer))))
  -- after a fault other than `Device`, or a failed read, the writer is unchanged; after a command that reads nothing,
  -- the reader is
  pub unchanged : IfErr finished.outcome (λ fault. fault ≢ Device → writer_of finished.writer ≡ writer)
  pub unchanged_if_read_fails : IsTrue (has_read_failed finished.reader) → writer_of finished.writer ≡ writer
  pub unread : reads_input (command_of words) ≡ false → reader_of finished.reader ≡ reader
