use Rattle.bidi_base.proofs.Common.{◌≡◌, ◌∙◌, ◌+◌, ◌-◌, ℕ, Some, length, length-append, ap, arith, len_utf8, CharIndices, common_steps, chars-nil, []}
use Rattle.bidi_base.proofs.Common.{char_indices_rest, char_indices_offset, char_indices_steps, IsUtf8-past_char, length-encode}
use Rattle.bidi_text.specs.declared.text.str_text.Utf8IndexLenIter.{Utf8IndexLenIter}
use Rattle.std.specs.Char.{encode_utf8}
use Rattle.bidi_text.proofs.StrLemmas.{lengths_left, lengths_step}
use Rattle.bidi_base.proofs.GivesLemmas.{progress}
use Rattle.bidi_text.proofs.text.str_text.Utf8IndexLenIterIterator.next.Goals as goal

lengths_end : (s : CharIndices) → length (char_indices_rest s) ≡ 0 → lengths_left s ≡ []
lengths_end s e = grind (arith, common_steps, chars-nil)

-- the place after a character is as far on as the character is long
long : (s t : CharIndices) (at : ℕ) (c : ℕ) → char_indices_steps s (Some (at, c)) t → char_indices_offset t - at ≡ len_utf8 c
long s t at c h = omega (arith, h.0, h.2, length-encode c)

pub overflow_sub-len : goal.overflow_sub-len
overflow_sub-len c = omega (arith, c.offset.ensures, c.in-Some.ensures.steps.0, c.in-Some.ensures.steps.2)

pub returns-in-Some-clause-steps : goal.returns-in-Some-clause-steps
returns-in-Some-clause-steps c =
    let h = c.in-Some.ensures.steps in
    rw (c.offset.ensures, long c.args.self.now.iter c.next.new.self c.in-Some.at c.in-Some._c h) (lengths_step c.args.self.now.iter c.next.new.self (c.in-Some.at, c.in-Some._c) c.requires.0 h)

pub returns-in-Some-clause-goes : goal.returns-in-Some-clause-goes
returns-in-Some-clause-goes c =
    let s = c.args.self.now.iter in
    let t = c.next.new.self in
    let h = c.in-Some.ensures.steps in
    let shorter : length (char_indices_rest s) ≡ length (encode_utf8 c.in-Some._c) + length (char_indices_rest t) = ap length h.1 ∙ length-append (encode_utf8 c.in-Some._c) (char_indices_rest t) in
    progress _ (λ (x : Utf8IndexLenIter). lengths_left x.iter) c.args.self.now _ _
    (rw (c.offset.ensures, long s t c.in-Some.at c.in-Some._c h) (lengths_step s t (c.in-Some.at, c.in-Some._c) c.requires.0 h))
    (IsUtf8-past_char (char_indices_rest s) (char_indices_rest t) c.in-Some._c c.requires.0 h.1, omega (arith, h.2, shorter))

pub returns-in-None-clause-steps : goal.returns-in-None-clause-steps
returns-in-None-clause-steps c = grind (arith, lengths_end)
