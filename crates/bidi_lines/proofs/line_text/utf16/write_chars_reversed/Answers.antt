use Rattle.bidi_base.proofs.Common.{◌≡◌, ℕ, ◌+◌, ◌≤◌, ◌<◌, List, [], ◌∷◌, ◌++◌, length, take, flat_map, reverse, arith, common_steps, reverse-append, reverse-reverse, sum_by-cons, take_all}
use Rattle.bidi_base.proofs.Common.{nat_tests, text_len, utf16_text, utf16_len, encode_utf16, sum_by-append}
use Rattle.bidi_text.proofs.Utf16Lemmas.{text_len-utf16}
use Rattle.bidi_lines.proofs.WrittenRuns.{written_part}
use Rattle.bidi_lines.proofs.line_text.utf16.write_chars_reversed.Goals as goal

-- at the end all have come
all_taken : (text rest xs : List ℕ) → rest ++ reverse xs ≡ text → rest ≡ [] → xs ≡ reverse text
all_taken text rest xs h e = grind (arith, reverse-reverse)

-- and their units are the whole text
all_written : (units rest xs out : List ℕ) (at : ℕ) → rest ++ reverse xs ≡ utf16_text units → rest ≡ []
    → at ≡ text_len utf16_len (reverse xs) → length out ≡ length units → take at out ≡ flat_map encode_utf16 xs → out ≡ flat_map encode_utf16 (reverse (utf16_text units))
all_written units rest xs out at h e so_far same written = grind (arith, all_taken, text_len-utf16 units, take_all)

-- one more character
more : (xs : List ℕ) (c : ℕ) → text_len utf16_len (reverse (xs ++ c ∷ [])) ≡ text_len utf16_len (reverse xs) + utf16_len c
more xs c = grind (arith, reverse-append xs (c ∷ []), sum_by-cons utf16_len c (reverse xs))

-- has room
fits : (units before after xs : List ℕ) (c : ℕ) → before ≡ after ++ c ∷ [] → before ++ reverse xs ≡ utf16_text units → text_len utf16_len (reverse xs) + utf16_len c ≤ length units
fits units before after xs c e h = grind (arith, text_len-utf16 units, sum_by-append utf16_len, sum_by-cons utf16_len c [])

length-encode : (c : ℕ) → length (encode_utf16 c) ≡ utf16_len c
length-encode c = grind (arith, nat_tests)

long : (c len : ℕ) → (c < 0x1_0000 → len ≡ 1) → (0x1_0000 ≤ c → len ≡ 2) → len ≡ utf16_len c
long c len one two = grind (arith, nat_tests)

pub overflow_add-end : goal.overflow_add-end
overflow_add-end c =
    omega (arith, fits c.args.units.now _ _ c.loop-c.yielded c.in-Some.c c.in-Some.ensures.steps c.loop-c.invariant.rest, long c.in-Some.c c.len_utf16.result c.len_utf16.ensures.bmp c.len_utf16.ensures.surrogate_pair)

pub offset_bounds-out-at : goal.offset_bounds-out-at
offset_bounds-out-at c =
    omega (arith, fits c.args.units.now _ _ c.loop-c.yielded c.in-Some.c c.in-Some.ensures.steps c.loop-c.invariant.rest)

pub slice_bounds-copy_from_slice-end : goal.slice_bounds-copy_from_slice-end
slice_bounds-copy_from_slice-end c =
    let room = fits c.args.units.now _ _ c.loop-c.yielded c.in-Some.c c.in-Some.ensures.steps c.loop-c.invariant.rest in
    let len = long c.in-Some.c c.len_utf16.result c.len_utf16.ensures.bmp c.len_utf16.ensures.surrogate_pair in
    grind arith

pub loop-c-preserved : goal.loop-c-preserved
loop-c-preserved c =
    record {
      rest = grind (arith, common_steps);
      so_far = grind (arith, more);
      written = grind (arith, common_steps, written_part, length-encode);
    }

pub returns : goal.returns
returns c = grind (arith, all_written)
