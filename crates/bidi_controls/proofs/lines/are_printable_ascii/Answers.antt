use Rattle.bidi_base.proofs.Common.{◌≡◌, ℕ, ◌+◌, ◌<◌, ◌&&◌, ◌∷◌, ◌++◌, [], ◌∙◌, true, Bool, List, All, All-push, get_or, length, take, take_all, take_more, and_parts, ap, arith, subst, sym}
use Rattle.bidi_controls.specs.Lines.{is_printable_ascii}
use Rattle.bidi_controls.proofs.lines.are_printable_ascii.Goals as goal

-- one character more
one_more : (chars : List ℕ) (n c : ℕ) (before here : Bool) → n < length chars → c ≡ get_or chars n c → here ≡ is_printable_ascii c
    → (before ≡ true → All (λ c. is_printable_ascii c ≡ true) (take n chars))
    → before && here ≡ true → All (λ c. is_printable_ascii c ≡ true) (take (n + 1) chars)
one_more chars n c before here fits is here_is h set =
    let parts = and_parts before here set in
    let same : take (n + 1) chars ≡ take n chars ++ c ∷ [] = take_more chars n c fits ∙ ap (λ x. take n chars ++ x ∷ []) (sym is) in
    subst (All (λ c. is_printable_ascii c ≡ true)) (sym same) (All-push (λ c. is_printable_ascii c ≡ true) (take n chars) c (h parts.0) (sym here_is ∙ parts.1))

pub loop-c-preserved : goal.loop-c-preserved
loop-c-preserved c =
    one_more c.args.chars.now c.loop-c.c-index c.c-item.result c.loop-c.are_printable c.is_printable_ascii-are_printable.result c.loop-c-test.true c.c-item.is c.is_printable_ascii-are_printable.ensures
    c.loop-c.invariant

pub returns : goal.returns
returns c = grind (arith, take_all)
