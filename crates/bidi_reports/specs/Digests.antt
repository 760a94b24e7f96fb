-- The digest of a line, by which a report knows it again when other lines move it.
use Rattle.std.specs.Prelude.{ℕ, List, [], flat_map, take, encode_utf8}
use Rattle.hex.specs.Hex.{encode_lower}
use Rattle.sha2.specs.Sha256.{sha256}
use Rattle.bidi_reports.specs.Text.{without_end}
use Rattle.bidi_reports.specs.declared.form.Form.{Form}
use Rattle.bidi_reports.specs.declared.form.Form.TheVariants.{Quiet, Text, Json, Sarif}

-- the first 32 hexadecimal digits of SHA-256 over the line in UTF-8, without the characters that end it
unfoldable pub line_digest : List ℕ → List ℕ
line_digest line = encode_lower (take 16 (sha256 (flat_map encode_utf8 (without_end line))))

-- the digest that a report of this form has of a line
abbrev pub digest_for : Form → List ℕ → List ℕ
digest_for Quiet line = []
digest_for (Text excerpts colors notes) line = []
digest_for Json line = []
digest_for Sarif line = line_digest line
