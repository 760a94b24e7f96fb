use Rattle.bidi_base.proofs.Common.{◌≡◌, ◌≢◌, ℕ, suc, ◌+◌, ◌-◌, ◌<◌, List, length, get_or, set, ◌∙◌, arith, inl, inr, cases_lt, get_or_default, get_or-set_other, get_or-set_same}
use Rattle.bidi_lines.specs.ReversedUtf8.{reversed_byte_at, behind_two}
use Rattle.bidi_lines.proofs.line_text.reversed_utf8.reverse_ends.Goals as goal

-- the byte at a place has two before it
here : (bytes : List ℕ) (at d : ℕ) → at < length bytes → get_or (behind_two bytes) (at + 2) 0 ≡ get_or bytes at d
here bytes at d fits = let e : at + 2 ≡ suc (suc at) = omega arith in simp (e, get_or_default bytes at d 0 fits)

pub loop-at-preserved : goal.loop-at-preserved
loop-at-preserved c =
    let inv = c.loop-at.invariant in
    let len = length c.args.out.now in
    let at = c.loop-at.at in
    let out = c.loop-at.out in
    let inside : at < length c.args.bytes.now = omega (arith, c.loop-at-test.true, c.requires.ends) in
    let w : ℕ = length c.args.bytes.now - 1 - at in
    let other : (j : ℕ) → j < len → j ≢ at → get_or (set out w c.reversed_byte.result) (len - 1 - j) 0 ≡ get_or out (len - 1 - j) 0 =
    λ j fits ne. get_or-set_other out w (len - 1 - j) c.reversed_byte.result 0 (λ e. ne (omega (arith, inside, c.requires.same_len, fits, e))) in
    let own : get_or (set out w c.reversed_byte.result) (len - 1 - at) 0 ≡ c.reversed_byte.result =
    let e : len - 1 - at ≡ w = omega (arith, c.requires.same_len) in simp e (get_or-set_same out w c.reversed_byte.result 0 (omega (arith, inside, c.requires.same_len, c.loop-at.auto.out))) in
    let two : at + 2 - 2 ≡ at = omega arith in
    let one : at + 2 - 1 ≡ at + 1 = omega arith in
    let three : at + 2 + 1 ≡ at + 3 = omega arith in
    let four : at + 2 + 2 ≡ at + 4 = omega arith in
    let read : c.reversed_byte.result ≡ reversed_byte_at (behind_two c.args.bytes.now) at =
    simp (c.reversed_byte.ensures, c.byte_before.ensures, c.byte_before-in-loop-at.ensures, c.byte_after.ensures, c.byte_after-in-loop-at.ensures, two, one, three, four, here c.args.bytes.now at 0 inside) in
    record {
      reversed = λ j low high. elim (cases_lt j at) [
        | inl below ↦ other j (omega (arith, inside, c.requires.same_len)) (λ e. absurd (omega arith)) ∙ inv.reversed j low below
        | inr past ↦ let e : j ≡ at = omega arith in rw e (own ∙ read)
      ];
      before = λ j below fits. other j fits (λ e. absurd (omega (arith, c.loop-at.auto.at))) ∙ inv.before j below fits;
      after = λ j past fits. other j fits (λ e. absurd (omega arith)) ∙ inv.after j (omega arith) fits;
    }

pub returns-clause-outside_after : goal.returns-clause-outside_after
returns-clause-outside_after c = λ j past fits. c.loop-at.invariant.after j (omega (arith, c.loop-at.auto.at-end, c.requires.ordered)) fits
