use Rattle.std.proofs.Common.{◌≡◌, encode_utf8, flat_map, string_bytes, take}
use Rattle.bidi_reports.proofs.allow_index.digest_key.Given as goal

abbrev pub invariant-loop-byte : goal.invariant-loop-byte
invariant-loop-byte l = string_bytes l.key ≡ flat_map encode_utf8 (take l.byte-index l.digest)
