use Rattle.bidi_base.proofs.Common.{◌≡◌, ℕ, suc, ◌+◌, ◌-◌, ◌<◌, List, length, get_or, set, ◌∙◌, arith, inl, inr, cases_lt, get_or-set_other, get_or-set_same}
use Rattle.bidi_lines.specs.ReversedUtf8.{reversed_byte_at, behind_two}
use Rattle.bidi_lines.proofs.line_text.reversed_utf8.reverse_middle.Goals as goal

-- the byte at a place has two before it
behind : (bytes : List ℕ) (k m : ℕ) → k ≡ m + 2 → get_or (behind_two bytes) k 0 ≡ get_or bytes m 0
behind bytes k m e = let two : k ≡ suc (suc m) = omega arith in simp two

pub loop-at-preserved : goal.loop-at-preserved
loop-at-preserved c =
    let inv = c.loop-at.invariant in
    let bytes = c.args.bytes.now in
    let len = length c.args.out.now in
    let at = c.loop-at.at in
    let out = c.loop-at.out in
    let inside : at + 2 < length bytes = omega (arith, c.loop-at-test.true, c.requires.long) in
    let w : ℕ = length bytes - 1 - at in
    let own : get_or (set out w c.reversed_byte.result) (len - 1 - at) 0 ≡ c.reversed_byte.result =
    let e : len - 1 - at ≡ w = omega (arith, c.requires.same_len) in simp e (get_or-set_same out w c.reversed_byte.result 0 (omega (arith, inside, c.requires.same_len, c.loop-at.auto.out))) in
    let read : c.reversed_byte.result ≡ reversed_byte_at (behind_two bytes) at =
    simp (c.reversed_byte.ensures, behind bytes at (at - 2) (omega (arith, inv.begun)), behind bytes (at + 1) (at - 1) (omega (arith, inv.begun)), behind bytes (at + 2) at (omega arith), behind bytes (at + 3) (at + 1) (omega arith), behind bytes (at + 4) (at + 2) (omega arith)) in
    record {
      begun = omega (arith, inv.begun);
      reversed = λ j low high. elim (cases_lt j at) [
        | inl below ↦ get_or-set_other out w (len - 1 - j) c.reversed_byte.result 0 (λ e. absurd (omega (arith, inside, c.requires.same_len))) ∙ inv.reversed j low below
        | inr past ↦ let e : j ≡ at = omega arith in rw e (own ∙ read)
      ];
    }
