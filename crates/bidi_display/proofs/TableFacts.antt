-- Facts of Unicode's data that spare a pass most searches in it. Each is a computation over the tables.
use Rattle.bidi_base.proofs.Common.{◌≡◌, ℕ, ◌<◌, Bool, true, false, not, ◌&&◌, ◌||◌, List, [], ◌∷◌, refl, arith, nat_tests}
use Rattle.ucd_table.specs.Rows.{in_ranges}
use Rattle.ucd_table.proofs.Computing.{tables}
use Rattle.ucd_table.proofs.Facts.{Stepped-everywhere}
use Rattle.ucd_table.proofs.Stepped.{Stepped, of_ranges, zip_stepped}
use Rattle.ucd_breaks.specs.GraphemeClusterBreak.{grapheme_cluster_break, grapheme_cluster_break_eq}
use Rattle.ucd_breaks.specs.declared.GraphemeClusterBreak.{GraphemeClusterBreak}
use Rattle.ucd_breaks.specs.declared.GraphemeClusterBreak.TheVariants.{Control, Cr, Lf, Other}
use Rattle.ucd_breaks.proofs.GraphemeClusterBreakLemmas.{grapheme_cluster_break_stepped}
use Rattle.ucd_derived.specs.IndicConjunctBreak.{indic_conjunct_break}
use Rattle.ucd_derived.specs.declared.IndicConjunctBreak.{IndicConjunctBreak}
use Rattle.ucd_derived.specs.declared.IndicConjunctBreak.TheVariants.{Extend, Linker}
use Rattle.ucd_derived.proofs.IndicConjunctBreakLemmas.{indic_conjunct_break_stepped}
use Rattle.ucd_emoji.specs.Binary.{is_extended_pictographic}
use Rattle.ucd_emoji.proofs.BinaryLemmas.{is_extended_pictographic_stepped}
use Rattle.unicode_segmentation.specs.Grapheme.{is_consonant, is_extend, is_zwj}
use Rattle.bidi_display.specs.ClusterState.{is_plain}

-- a linker, or a character that extends one
abbrev pub is_in_conjunct : IndicConjunctBreak → Bool
is_in_conjunct Linker = true
is_in_conjunct Extend = true
is_in_conjunct _ = false

extends_or_is_pictograph : (c : ℕ) → not (is_extend (grapheme_cluster_break c) && is_extended_pictographic c) ≡ true
unfolding tables grapheme_cluster_break_stepped is_extended_pictographic_stepped
extends_or_is_pictograph =
    Stepped-everywhere _ (zip_stepped (λ value p. not (is_extend value && p)) grapheme_cluster_break is_extended_pictographic grapheme_cluster_break_stepped is_extended_pictographic_stepped) refl

-- no character with the value Extend is a pictograph
pub no_pictograph : (c : ℕ) → is_extend (grapheme_cluster_break c) ≡ true → is_extended_pictographic c ≡ false
no_pictograph c e = grind (arith, extends_or_is_pictograph c, e)

-- the characters that are searched for anyway
abbrev late_ranges : List (ℕ × ℕ)
late_ranges = (0x1CF5, 0x10_FFFF) ∷ []

late_stepped : Stepped (in_ranges late_ranges)
unfolding tables
late_stepped = of_ranges late_ranges refl

-- a character that is no linker and extends none, or that has the value Extend or ZWJ
abbrev is_spared : IndicConjunctBreak → GraphemeClusterBreak → Bool
is_spared v value = not (is_in_conjunct v) || (is_extend value || is_zwj value)

late_or_spared : (c : ℕ) → (in_ranges late_ranges c || is_spared (indic_conjunct_break c) (grapheme_cluster_break c)) ≡ true
unfolding tables grapheme_cluster_break_stepped indic_conjunct_break_stepped late_stepped
late_or_spared =
    Stepped-everywhere _ (zip_stepped ◌||◌ (in_ranges late_ranges) (λ c. is_spared (indic_conjunct_break c) (grapheme_cluster_break c)) late_stepped
    (zip_stepped is_spared indic_conjunct_break grapheme_cluster_break indic_conjunct_break_stepped grapheme_cluster_break_stepped)) refl

not_late : (c : ℕ) → c < 0x1CF5 → in_ranges late_ranges c ≡ false
unfolding in_ranges
not_late c h = grind (arith, nat_tests)

-- below U+1CF5, a character without the values Extend and ZWJ is no linker, and extends none
pub outside_conjunct : (c : ℕ) → c < 0x1CF5 → is_extend (grapheme_cluster_break c) ≡ false → is_zwj (grapheme_cluster_break c) ≡ false → is_in_conjunct (indic_conjunct_break c) ≡ false
outside_conjunct c h e z = grind (arith, late_or_spared c, not_late c h, e, z)

-- U+0000 is no pictograph
pub zero_is_no_pictograph : is_extended_pictographic 0 ≡ false
unfolding tables is_extended_pictographic_stepped is_extended_pictographic
zero_is_no_pictograph = refl

-- a character after which a cluster always begins
abbrev pub is_control : GraphemeClusterBreak → Bool
is_control Control = true
is_control Cr = true
is_control Lf = true
is_control _ = false

-- it is no pictograph, and no part of a conjunct
abbrev is_apart : Bool → IndicConjunctBreak → GraphemeClusterBreak → Bool
is_apart pictograph v value = not (is_control value) || (not pictograph && not (is_in_conjunct v))

control_or_apart : (c : ℕ) → is_apart (is_extended_pictographic c) (indic_conjunct_break c) (grapheme_cluster_break c) ≡ true
unfolding tables grapheme_cluster_break_stepped indic_conjunct_break_stepped is_extended_pictographic_stepped
control_or_apart =
    Stepped-everywhere _ (zip_stepped (λ (p : Bool) (k : IndicConjunctBreak × GraphemeClusterBreak). is_apart p k.0 k.1) is_extended_pictographic (λ c. (indic_conjunct_break c, grapheme_cluster_break c)) is_extended_pictographic_stepped
    (zip_stepped (λ (v : IndicConjunctBreak) (value : GraphemeClusterBreak). (v, value)) indic_conjunct_break grapheme_cluster_break indic_conjunct_break_stepped grapheme_cluster_break_stepped)) refl

pub control-no_pictograph : (c : ℕ) → is_control (grapheme_cluster_break c) ≡ true → is_extended_pictographic c ≡ false
control-no_pictograph c e = grind (arith, control_or_apart c, e)

pub control-outside_conjunct : (c : ℕ) → is_control (grapheme_cluster_break c) ≡ true → is_in_conjunct (indic_conjunct_break c) ≡ false
control-outside_conjunct c e = grind (arith, control_or_apart c, e)

-- a character that extends a linker
abbrev pub extends_linker : IndicConjunctBreak → Bool
extends_linker Extend = true
extends_linker _ = false

extends_or_joins : (c : ℕ) → (not (extends_linker (indic_conjunct_break c)) || (is_extend (grapheme_cluster_break c) || is_zwj (grapheme_cluster_break c))) ≡ true
unfolding tables grapheme_cluster_break_stepped indic_conjunct_break_stepped
extends_or_joins =
    Stepped-everywhere _ (zip_stepped (λ (v : IndicConjunctBreak) (value : GraphemeClusterBreak). not (extends_linker v) || (is_extend value || is_zwj value)) indic_conjunct_break grapheme_cluster_break indic_conjunct_break_stepped grapheme_cluster_break_stepped) refl

-- it has the value Extend or ZWJ
pub extends_linker-joins : (c : ℕ) → extends_linker (indic_conjunct_break c) ≡ true → (is_extend (grapheme_cluster_break c) || is_zwj (grapheme_cluster_break c)) ≡ true
extends_linker-joins c e = grind (arith, extends_or_joins c, e)

-- ---- plain characters

abbrev plain_ranges : List (ℕ × ℕ)
plain_ranges = (0x20, 0x7E) ∷ (0xC0, 0x2FF) ∷ (0x370, 0x482) ∷ (0x5D0, 0x5EA) ∷ (0x620, 0x64A) ∷ (0x4E00, 0x9FFF) ∷ []

plain_stepped : Stepped (in_ranges plain_ranges)
unfolding tables
plain_stepped = of_ranges plain_ranges refl

plain-in_ranges : (c : ℕ) → is_plain c ≡ true → in_ranges plain_ranges c ≡ true
unfolding in_ranges
plain-in_ranges c e = grind (arith, nat_tests, e)

-- a plain character has the value Other, is no part of a conjunct, and no pictograph
abbrev is_other : Bool → Bool → IndicConjunctBreak → GraphemeClusterBreak → Bool
is_other ranged pictograph v value =
    not ranged || (grapheme_cluster_break_eq value Other && (not (is_in_conjunct v || is_consonant v) && not pictograph))

plain_or_other : (c : ℕ) → is_other (in_ranges plain_ranges c) (is_extended_pictographic c) (indic_conjunct_break c) (grapheme_cluster_break c) ≡ true
unfolding tables grapheme_cluster_break_stepped indic_conjunct_break_stepped is_extended_pictographic_stepped plain_stepped
plain_or_other =
    Stepped-everywhere _ (zip_stepped (λ (r : Bool) (k : Bool × (IndicConjunctBreak × GraphemeClusterBreak)). is_other r k.0 k.1.0 k.1.1) (in_ranges plain_ranges) (λ c. (is_extended_pictographic c, (indic_conjunct_break c, grapheme_cluster_break c))) plain_stepped
    (zip_stepped (λ (p : Bool) (k : IndicConjunctBreak × GraphemeClusterBreak). (p, k)) is_extended_pictographic (λ c. (indic_conjunct_break c, grapheme_cluster_break c)) is_extended_pictographic_stepped
    (zip_stepped (λ (v : IndicConjunctBreak) (value : GraphemeClusterBreak). (v, value)) indic_conjunct_break grapheme_cluster_break indic_conjunct_break_stepped grapheme_cluster_break_stepped))) refl

pub plain-outside_conjunct : (c : ℕ) → is_plain c ≡ true → is_in_conjunct (indic_conjunct_break c) ≡ false
plain-outside_conjunct c e = grind (arith, plain_or_other c, plain-in_ranges c e)

pub plain-no_consonant : (c : ℕ) → is_plain c ≡ true → is_consonant (indic_conjunct_break c) ≡ false
plain-no_consonant c e = grind (arith, plain_or_other c, plain-in_ranges c e)

pub plain-no_pictograph : (c : ℕ) → is_plain c ≡ true → is_extended_pictographic c ≡ false
plain-no_pictograph c e = grind (arith, plain_or_other c, plain-in_ranges c e)

other_eq : (value : GraphemeClusterBreak) → grapheme_cluster_break_eq value Other ≡ true → value ≡ Other
other_eq value e = grind (arith, nat_tests, e)

pub plain-other : (c : ℕ) → is_plain c ≡ true → grapheme_cluster_break c ≡ Other
plain-other c e =
    let eq : grapheme_cluster_break_eq (grapheme_cluster_break c) Other ≡ true = grind (arith, plain_or_other c, plain-in_ranges c e) in
    other_eq (grapheme_cluster_break c) eq
