use Rattle.bidi_base.proofs.Common.{◌≡◌, ◌++◌, List, ℕ, append_assoc, length}
use Rattle.bidi_explain.proofs.BlocksLemmas.{indexes-within}
use Rattle.bidi_explain.proofs.page.push_section.Goals as goal

-- three texts, each written after the last
all_written : (out a b c : List ℕ) {p q r : List ℕ} → p ≡ out ++ a → q ≡ p ++ b → r ≡ q ++ c → r ≡ out ++ (a ++ (b ++ c))
all_written out a b c first second third = simp (third, second, first, append_assoc)

pub push_blocks-requires-clause-within : goal.push_blocks-requires-clause-within
push_blocks-requires-clause-within c = rw (c.as_slice-3.ensures.value, c.in_ok-indexes.ensures) (indexes-within (length c.args.chars.now))

pub returns : goal.returns
returns c =
    all_written _ _ _ _ (rw (c.as_slice.ensures.value, c.from-level.ensures, c.number.ensures.number) at c.in_ok-push_summary.ensures)
    (rw (c.as_slice-2.ensures.value, c.in_ok-rows.ensures, c.as_slice-3.ensures.value, c.in_ok-indexes.ensures, c.as_slice-4.ensures.value, c.in_ok-blocks.ensures.blocks) at c.in_ok-push_blocks.ensures)
    c.in_ok-push_str.ensures.bytes
