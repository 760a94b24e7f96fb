use Rattle.bidi_base.proofs.Common.{◌≡◌, ◌++◌, reverse, flat_map, rev_source, chars_rest, encode_utf8, string_bytes, unwrap_or}
use Rattle.std.specs.Prelude.{encode_utf8_all}
use Rattle.bidi_unicode.specs.Unicode.{mirrored_of}
use Rattle.bidi_vectors_examples.proofs.callers.push_mirrored.Given as goal

-- the characters come from the end of the run
abbrev pub invariant-loop-c : goal.invariant-loop-c
invariant-loop-c l = record {
  rest : chars_rest (rev_source l.c-iterator) ++ encode_utf8_all (reverse l.yielded) ≡ l.fn.run;
  written : string_bytes l.out ≡ string_bytes l.fn.out ++ flat_map (λ c. encode_utf8 (unwrap_or (mirrored_of c) c)) l.yielded;
}
