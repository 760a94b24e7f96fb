use Rattle.bidi_base.proofs.Common.{true, refl, sym, ◌∙◌}
use Rattle.bidi_calls.proofs.AgreementText.{per_char-utf16, agree-plain}
use Rattle.bidi_calls.proofs.per_char.is_per_char_utf16.Goals as goal

pub returns-then-are_characters : goal.returns-then-are_characters
returns-then-are_characters c =
    let us = c.args.units.now in
    let ns = c.args.classes.now in
    let ls = c.args.levels.now in
    per_char-utf16 us ns ls true c.requires.classes_same_len c.requires.levels_same_len c.requires.numbers (
      (λ _. agree-plain us ns ls (sym c.are_characters.ensures ∙ c.if-are_characters.true)),
      (λ _. refl),
    )

pub returns : goal.returns
returns c =
    per_char-utf16 c.args.units.now c.args.classes.now c.args.levels.now c.is_per_char_by_units.result c.requires.classes_same_len c.requires.levels_same_len c.requires.numbers c.is_per_char_by_units.ensures
