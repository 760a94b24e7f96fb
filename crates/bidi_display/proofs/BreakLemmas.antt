-- Where lines may end.
use Rattle.bidi_base.proofs.Common.{◌≡◌, ◌-◌, ◌<◌, List, [], ◌∷◌, length, get_or, slice_get, Some, suc, refl, sym, ap, ◌∙◌, arith, slice_get_within, get_or_from_slice_get}
use Rattle.bidi_display.specs.LineBreaks.{given_break, given_break_after, simple_break, simple_break_after}
use Rattle.bidi_display.specs.declared.line_breaks.Break.{Break}
use Rattle.bidi_display.specs.declared.line_char.LineChar.{LineChar}

simple_break_after-at : (cs : List LineChar) (d : LineChar) → 0 < length cs → simple_break_after cs ≡ simple_break (get_or cs (length cs - 1) d)
simple_break_after-at [] d some = absurd (omega arith)
simple_break_after-at (c ∷ []) d some = refl
simple_break_after-at (c ∷ b ∷ cs) d some =
    let last : length (c ∷ b ∷ cs) - 1 ≡ suc (length (b ∷ cs) - 1) = omega arith in
    simple_break_after-at (b ∷ cs) d (omega arith) ∙ ap (λ k. simple_break (get_or (c ∷ b ∷ cs) k d)) (sym last)

-- the simple rule reads the last character
pub simple_break_after-last : (cs : List LineChar) (c : LineChar) → slice_get cs (length cs - 1) ≡ Some c → simple_break_after cs ≡ simple_break c
simple_break_after-last cs c is =
    simple_break_after-at cs c (omega (arith, slice_get_within cs (length cs - 1) c is)) ∙ ap simple_break (get_or_from_slice_get cs (length cs - 1) c c is)

given_break_after-at : (after : List Break) (cs : List LineChar) (d : LineChar) → 0 < length cs → given_break_after after cs ≡ given_break after (get_or cs (length cs - 1) d)
given_break_after-at after [] d some = absurd (omega arith)
given_break_after-at after (c ∷ []) d some = refl
given_break_after-at after (c ∷ b ∷ cs) d some =
    let last : length (c ∷ b ∷ cs) - 1 ≡ suc (length (b ∷ cs) - 1) = omega arith in
    given_break_after-at after (b ∷ cs) d (omega arith) ∙ ap (λ k. given_break after (get_or (c ∷ b ∷ cs) k d)) (sym last)

-- the given breaks are looked up by the last character
pub given_break_after-last : (after : List Break) (cs : List LineChar) (c : LineChar) → slice_get cs (length cs - 1) ≡ Some c → given_break_after after cs ≡ given_break after c
given_break_after-last after cs c is =
    given_break_after-at after cs c (omega (arith, slice_get_within cs (length cs - 1) c is)) ∙ ap (given_break after) (get_or_from_slice_get cs (length cs - 1) c c is)
