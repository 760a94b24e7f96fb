-- There is a class and a level for each code unit.
use Rattle.bidi_base.proofs.Common.{◌∙◌}
use Rattle.bidi_base.proofs.UnitsLemmas.{length-from_is_per_char}
use Rattle.bidi_text.proofs.PerCharTests.{class_eq, class_test}
use Rattle.bidi_text.proofs.StrLemmas.{has_units}
use Rattle.std.specs.Char.{len_utf8}
use Rattle.bidi_vectors_rules.proofs.neutrals.Neutrals.resolve_up_to_n1.Goals as goal

pub invariant_of-leveled : goal.invariant_of-leveled
invariant_of-leveled c =
    let can = c.in_ok-check.ensures in
    let long = length-from_is_per_char class_eq class_test len_utf8 has_units _ _ can.per_char in
    record { class_each = can.original ∙ long; level_each = can.levels ∙ long }
