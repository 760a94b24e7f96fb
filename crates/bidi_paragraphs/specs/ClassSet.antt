-- Sets of classes.
use Rattle.std.specs.Prelude.{◌^◌, bit_and, bit_or, Bool, ◌==◌, ◌&&◌, List, [], ◌∷◌}
use Rattle.std.specs.Int.{bit_at}
use Rattle.std.specs.List.{list_any}
use Rattle.bidi_base.specs.declared.char_data.BidiClass.{BidiClass}
use Rattle.bidi_base.specs.declared.char_data.BidiClass.TheVariants.{L, R, AL, EN, ES, ET, AN, CS, NSM, BN, B, S, WS, ON, LRE, LRO, RLE, RLO, PDF, LRI, RLI, FSI, PDI}
use Rattle.bidi_base.specs.Classes.{class_number}
use Rattle.bidi_paragraphs.specs.declared.class_set.ClassSet.{ClassSet}

-- the class is in the set
abbrev pub has : ClassSet → BidiClass → Bool
has set c = bit_at set.bits (class_number c) == 1

-- the set with one more class
abbrev pub with : ClassSet → BidiClass → ClassSet
with set c = record { bits = bit_or set.bits (2 ^ class_number c) }

-- the classes that are in one of the sets, and those that are in both
abbrev pub either : ClassSet → ClassSet → ClassSet
either a b = record { bits = bit_or a.bits b.bits }

abbrev pub both : ClassSet → ClassSet → ClassSet
both a b = record { bits = bit_and a.bits b.bits }

abbrev pub every_class : List BidiClass
every_class =
    L ∷ R ∷ AL ∷ EN ∷ ES ∷ ET ∷ AN ∷ CS ∷ NSM ∷ BN ∷ B ∷ S ∷ WS ∷ ON ∷ LRE ∷ LRO ∷ RLE ∷ RLO ∷ PDF ∷ LRI ∷ RLI ∷ FSI ∷ PDI ∷ []

-- some class of the set passes the test
unfoldable pub any_of : ClassSet → (BidiClass → Bool) → Bool
any_of set test = list_any (λ c. has set c && test c) every_class
