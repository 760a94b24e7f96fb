use Rattle.bidi_base.proofs.Common.{◌≡◌, ◌≤◌, drop, map}
use Rattle.bidi_numbers.specs.Numbers.{class_numbered}
use Rattle.unicode_bidi.proofs.SearchLemmas.{search_in}
use Rattle.bidi_calls.proofs.characters.base_direction_of_classes.Given as goal

abbrev pub invariant-loop-class : goal.invariant-loop-class
invariant-loop-class l =
    (l.depth ≤ l.class-index)
    × (search_in l.full 0 (map class_numbered l.classes) ≡ search_in l.full l.depth (map class_numbered (drop l.class-index l.classes)))
