use Rattle.bidi_base.proofs.Common.{arith, cases_lt, inl, inr, get_or}
use Rattle.bidi_text.proofs.StrLemmas.{text_len-chars, char_at-short, char_at-three, char_at-four}
use Rattle.bidi_text.proofs.text.str_text.StrTextTextSource.next_at.Goals as goal

pub bounds-bytes-index : goal.bounds-bytes-index
bounds-bytes-index c = grind (arith, text_len-chars)

pub overflow_add-second : goal.overflow_add-second
overflow_add-second c = grind (arith, text_len-chars)

pub bounds-bytes-index-2 : goal.bounds-bytes-index-2
bounds-bytes-index-2 c = grind (arith, text_len-chars)

pub returns-then-first-lt192 : goal.returns-then-first-lt192
returns-then-first-lt192 c = grind (arith, text_len-chars, char_at-short)

pub returns-then-first-lt224 : goal.returns-then-first-lt224
returns-then-first-lt224 c = grind (arith, text_len-chars, char_at-short)

-- three bytes stand there, or four
pub bounds-bytes-index-3 : goal.bounds-bytes-index-3
bounds-bytes-index-3 c = elim (cases_lt (get_or c.as_bytes-bytes.result.now c.args.index 0) 240) [
  | inl low ↦ omega (arith, (char_at-three c.as_bytes-bytes.result.now c.args.index c.as_bytes-bytes.ensures.utf8 (cc (c.as_bytes-bytes.ensures.value, c.as_str.ensures, c.requires.begins)) (grind (arith, text_len-chars)) (grind arith) low).long)
  | inr high ↦ omega (arith, (char_at-four c.as_bytes-bytes.result.now c.args.index c.as_bytes-bytes.ensures.utf8 (cc (c.as_bytes-bytes.ensures.value, c.as_str.ensures, c.requires.begins)) (grind (arith, text_len-chars)) high).long)
]

pub char_of_three-requires : goal.char_of_three-requires
char_of_three-requires c =
    let w = char_at-three c.as_bytes-bytes.result.now c.args.index c.as_bytes-bytes.ensures.utf8 (cc (c.as_bytes-bytes.ensures.value, c.as_str.ensures, c.requires.begins)) (grind (arith, text_len-chars)) (grind arith) (grind arith) in
    cc w.valid

pub returns-then-first-lt240 : goal.returns-then-first-lt240
returns-then-first-lt240 c =
    let w = char_at-three c.as_bytes-bytes.result.now c.args.index c.as_bytes-bytes.ensures.utf8 (cc (c.as_bytes-bytes.ensures.value, c.as_str.ensures, c.requires.begins)) (grind (arith, text_len-chars)) (grind arith) (grind arith) in
    cc (w.found, c.char_of_three.ensures, c.as_bytes-bytes.ensures.value, c.as_str.ensures)

pub bounds-bytes-index-4 : goal.bounds-bytes-index-4
bounds-bytes-index-4 c =
    let w = char_at-four c.as_bytes-bytes.result.now c.args.index c.as_bytes-bytes.ensures.utf8 (cc (c.as_bytes-bytes.ensures.value, c.as_str.ensures, c.requires.begins)) (grind (arith, text_len-chars)) (grind arith) in
    omega (arith, w.long)

pub char_of_four-requires : goal.char_of_four-requires
char_of_four-requires c =
    let w = char_at-four c.as_bytes-bytes.result.now c.args.index c.as_bytes-bytes.ensures.utf8 (cc (c.as_bytes-bytes.ensures.value, c.as_str.ensures, c.requires.begins)) (grind (arith, text_len-chars)) (grind arith) in
    cc w.valid

pub returns : goal.returns
returns c =
    let w = char_at-four c.as_bytes-bytes.result.now c.args.index c.as_bytes-bytes.ensures.utf8 (cc (c.as_bytes-bytes.ensures.value, c.as_str.ensures, c.requires.begins)) (grind (arith, text_len-chars)) (grind arith) in
    cc (w.found, c.char_of_four.ensures, c.as_bytes-bytes.ensures.value, c.as_str.ensures)
