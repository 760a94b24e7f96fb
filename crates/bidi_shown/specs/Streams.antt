-- A text that comes in pieces: what is shown with each, and what is kept.
use Rattle.std.specs.Prelude.{◌≡◌, ℕ, ◌+◌, ◌==◌, nat_lt, if◌then◌else◌, List, [], ◌∷◌, ◌++◌, length, string_bytes, take, drop}
use Rattle.std.specs.Str.{chars, IsUtf8}
use Rattle.std.specs.declared.string.String.{String}
use Rattle.bidi_unicode.specs.Unicode.{unicode_source}
use Rattle.bidi_shown.specs.Displayed.{shown_text}
use Rattle.bidi_shown.specs.declared.view.View.{View}
use Rattle.bidi_shown.specs.Faults.{ReportsBytesAfter, index_after}
use Rattle.bidi_shown.specs.declared.stream.Stream.{Stream}
use Rattle.bidi_shown.specs.declared.stream.StreamFault.{StreamFault}

-- the number of bytes up to the last line feed, this included; 0 if there is none
abbrev pub whole_lines : List ℕ → ℕ
whole_lines [] = 0
whole_lines (b ∷ bs) = if nat_lt 0 (whole_lines bs) then whole_lines bs + 1 else (if b == 0x0A then 1 else 0)

-- the bytes that have come and are not shown yet
abbrev pub pending : Stream → List ℕ
pending s = s.pending.items

-- how many bytes were shown, or the maximum `usize` if that is less
abbrev pub shown_len : Stream → ℕ
shown_len s = s.before

-- what is shown of a text as these bytes
abbrev pub shown_bytes : View → List ℕ → List ℕ
shown_bytes view bytes = shown_text unicode_source view (chars bytes)

-- a string grew by what is shown of the bytes that a stream keeps
abbrev pub ShowsPending : {A : Type 0} → View → Stream → String A → String A → Type 0
ShowsPending view stream old new = string_bytes new ≡ string_bytes old ++ shown_bytes view (pending stream)

-- a stream keeps no bytes any more, and counts those that it kept as shown
pub record HasShownPending (old new : Stream) : Type 0 where
  pub none_kept : pending new ≡ []
  pub counted : shown_len new ≡ index_after (shown_len old) (length (pending old))

-- if the fault is `NotUtf8`, it has the index in the text at which the bytes that a stream keeps stop being UTF-8
abbrev pub ReportsPending : Stream → StreamFault → Type 0
ReportsPending stream = ReportsBytesAfter (shown_len stream) (pending stream)

-- the bytes that a stream shows when a piece comes: none, if the piece has no line feed
abbrev pub lines_with : Stream → List ℕ → List ℕ
lines_with stream piece = if whole_lines piece == 0 then [] else pending stream ++ take (whole_lines piece) piece

-- how many bytes were shown after a piece has come
abbrev pub shown_len_after : Stream → List ℕ → ℕ
shown_len_after stream piece =
    if whole_lines piece == 0 then shown_len stream else index_after (shown_len stream) (length (lines_with stream piece))

-- what is shown when a piece comes after bytes that are kept: the lines up to its last line feed, if it has one
abbrev pub shown_now : View → List ℕ → List ℕ → List ℕ
shown_now view held piece =
    if whole_lines piece == 0 then [] else shown_bytes view (held ++ take (whole_lines piece) piece)

-- what is kept then
abbrev pub pending_after : List ℕ → List ℕ → List ℕ
pending_after held piece = if whole_lines piece == 0 then held ++ piece else drop (whole_lines piece) piece

-- The bytes `came`, those of `held` last; the others were shown, as `shown`. For any bytes `rest` after them: if `held`
-- and `rest` together are UTF-8, then so are all bytes, and what all bytes show is `shown` and then what `held` and
-- `rest` show.
abbrev pub IsShownTo : View → List ℕ → List ℕ → List ℕ → Type 0
IsShownTo view held came shown =
    (rest : List ℕ) → IsUtf8 (held ++ rest) → IsUtf8 (came ++ rest)
    × (shown ++ shown_bytes view (held ++ rest) ≡ shown_bytes view (came ++ rest))
