use Rattle.bidi_base.proofs.Common.{◌≡◌, take, flat_map, encode_utf8, string_bytes}
use Rattle.bidi_reports.proofs.json_text.text_of.Given as goal

abbrev pub invariant-loop-c : goal.invariant-loop-c
invariant-loop-c l = string_bytes l.text ≡ flat_map encode_utf8 (take l.c-index l.chars)
