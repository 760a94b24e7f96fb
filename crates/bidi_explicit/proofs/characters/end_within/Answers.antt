use Rattle.bidi_base.proofs.Common.{◌≡◌, ℕ, Option, Some, None, option_map, sym, ◌∙◌, arith}
use Rattle.bidi_explicit.proofs.CharEnds.{end-at, end-last, end-within}
use Rattle.bidi_explicit.proofs.characters.end_within.Goals as goal

-- what is found, by its length
found-by : (found : Option (ℕ × ℕ)) (len : ℕ) → Some len ≡ option_map (λ read. read.1) found → (c : ℕ) × (found ≡ Some (c, len))
found-by None len e = absurd (cc e)
found-by (Some (c, n)) len e = (c, cc e)

pub returns-then-start-len : goal.returns-then-start-len
returns-then-start-len g c = λ k within there.
    sym c.if-start-len.true ∙ end-last (g.T.TextSource.text c.args.text) c.args.start k (c.if-start-len.true ∙ c.requires.same_len) within there

pub overflow_add-result : goal.overflow_add-result
overflow_add-result g c =
    let within = end-within (g.T.TextSource.text c.args.text) c.args.start _ _ (found-by _ _ c.len_at.ensures).1 c.requires.begins (omega (arith, c.requires.inside, c.requires.same_len)) in
    omega (arith, within, c.requires.same_len, c.ranges.len.fits)

pub returns : goal.returns
returns g c = λ k within there.
    end-at (g.T.TextSource.text c.args.text) c.args.start _ _ k (found-by _ _ c.len_at.ensures).1 within there
