use Rattle.bidi_base.proofs.Common.{◌≡◌, ◌∙◌, ◌-◌, ◌++◌, ℕ, List, length, length-append, refl, arith, len_utf8, IsCharBoundary, chars_rest, length-encode}
use Rattle.std.specs.Char.{encode_utf8}
use Rattle.bidi_text.proofs.StrLemmas.{char_at-inside, char_at-read, is_boundary-from_str, text_len-chars}
use Rattle.bidi_text.proofs.text.str_text.StrTextTextSource.char_at.Goals as goal

pub returns-then-not-is_char_boundary : goal.returns-then-not-is_char_boundary
returns-then-not-is_char_boundary c = grind (arith, char_at-inside)

-- a character is as long as the bytes that it takes away
long : (bytes read rest left : List ℕ) (c : ℕ) → read ≡ bytes → read ≡ encode_utf8 c ++ rest → left ≡ rest → length bytes - length left ≡ len_utf8 c
long bytes read rest left c whole cut is = grind (arith, length-append, length-encode)

pub returns-in-Some : goal.returns-in-Some
returns-in-Some c =
    let b : IsCharBoundary c.as_str-text.result.now c.args.index = c.if-not-is_char_boundary.ensures.test.0 refl in
    let h = c.in-Some.ensures.steps in
    rw (← c.as_str-text.ensures, long c.range_from-rest.result.now (chars_rest c.chars-chars.result) (chars_rest c.next.new.self) c.as_str.result.now c.in-Some.c c.chars-chars.ensures.rest h.0 c.as_str.ensures)
    (char_at-read c.as_str-text.result.now _ c.args.index _ c.as_str-text.utf8 b (c.chars-chars.ensures.rest ∙ c.range_from-rest.ensures.value) h.2)

pub returns-in-None : goal.returns-in-None
returns-in-None c =
    let b : IsCharBoundary c.as_str-text.result.now c.args.index = c.if-not-is_char_boundary.ensures.test.0 refl in
    rw (← c.as_str-text.ensures)
    (char_at-read c.as_str-text.result.now _ c.args.index _ c.as_str-text.utf8 b (c.chars-chars.ensures.rest ∙ c.range_from-rest.ensures.value) c.in-None.ensures.steps.2)

pub next_at-requires-clause-begins : goal.next_at-requires-clause-begins
next_at-requires-clause-begins c =
    let b : IsCharBoundary c.as_str-text.result.now c.args.index = c.if-not-is_char_boundary.ensures.test.0 refl in
    rw (← c.as_str-text.ensures) (is_boundary-from_str c.as_str-text.result.now c.args.index c.as_str-text.utf8 b)

pub next_at-requires-clause-before_last : goal.next_at-requires-clause-before_last
next_at-requires-clause-before_last c = grind (arith, text_len-chars)
