use Rattle.bidi_base.proofs.Common.{◌≡◌, sym, ap, ◌∙◌, arith, length, slice_get, ℕ, range_with_len, None, length-range_with_len, ◌≤◌}
use Rattle.unicode_bidi.proofs.StoredOrder.{range-found, entries-none}
use Rattle.std.proofs.lemmas.Option.{slice_get_past}
use Rattle.unicode_bidi.proofs.layout.entry_at.Goals as goal

range-past : (len k : ℕ) → len ≤ k → slice_get (range_with_len 0 len) k ≡ None
range-past len k past = slice_get_past (range_with_len 0 len) k (omega (arith, length-range_with_len 0 len))

pub returns-then-index-len : goal.returns-then-index-len
returns-then-index-len c =
    let none : length c.args.list.now ≡ 0 = grind arith in
    sym (ap (λ xs. slice_get xs c.args.index) (entries-none c.args.list.now c.args.len none) ∙ range-found c.args.len c.args.index c.if-index-len.true)

pub returns-else-index-len : goal.returns-else-index-len
returns-else-index-len c =
    let none : length c.args.list.now ≡ 0 = grind arith in
    sym (ap (λ xs. slice_get xs c.args.index) (entries-none c.args.list.now c.args.len none) ∙ range-past c.args.len c.args.index (omega (arith, c.if-index-len.false)))
