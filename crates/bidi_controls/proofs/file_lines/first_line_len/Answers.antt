use Rattle.bidi_controls.proofs.FileLinesLemmas.{first-at, none-before, decoded-whole}
use Rattle.bidi_base.proofs.Common.{List, ℕ, length, take, drop, take_all, arith, drop_all, ◌≡◌, ◌<◌, ◌∷◌, None, sym}
use Rattle.bidi_controls.proofs.CutLemmas.{HasNoBreak}
use Rattle.bidi_controls.specs.FileLines.{file_lines_of}
use Rattle.bidi_controls.specs.Decoded.{utf8_decoded}
use Rattle.bidi_controls.proofs.LossyLemmas.{utf8_decoded-nil}
use Rattle.memchr.specs.Find.{IsFirstByte, is_byte2}
use Rattle.bidi_controls.proofs.file_lines.first_line_len.Goals as goal

none-at_all : (bytes : List ℕ) → IsFirstByte (is_byte2 0x0A 0x0D) bytes None → HasNoBreak bytes
none-at_all bytes none = rw (sym (take_all (length bytes) bytes (omega arith))) (none-before bytes (length bytes) none)

-- bytes without the end of a line are one
first-whole : (bytes : List ℕ) → 0 < length bytes → HasNoBreak bytes
    → file_lines_of (utf8_decoded bytes) ≡ utf8_decoded (take (length bytes) bytes) ∷ file_lines_of (utf8_decoded (drop (length bytes) bytes))
first-whole bytes some h =
    rw (take_all (length bytes) bytes (omega arith), drop_all (length bytes) bytes (omega arith), utf8_decoded-nil) (decoded-whole bytes h some)

pub returns-in-Some-clause-first : goal.returns-in-Some-clause-first
returns-in-Some-clause-first c =
    let bytes = c.args.bytes.now in let at = c.in-Some.at in let found = c.in-Some.ensures in
    rw c.break_end.ensures.end (first-at bytes at found.0.high found.1 (none-before bytes at found.0.before))

pub returns-in-None-clause-first : goal.returns-in-None-clause-first
returns-in-None-clause-first c = first-whole c.args.bytes.now c.requires (none-at_all c.args.bytes.now c.in-None.ensures)
