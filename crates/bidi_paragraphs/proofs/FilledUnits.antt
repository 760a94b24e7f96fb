-- The levels of a paragraph's units: of what X9 removed, and of a paragraph that keeps to its level throughout.
use Rattle.bidi_base.proofs.Common.{◌≡◌, ℕ, zero, suc, ◌+◌, ◌-◌, ◌<◌, ◌≤◌, Bool, true, false, List, [], ◌∷◌, length, get_or, Option, refl, sym, map, ap, ◌∙◌, arith, inl, inr, All, list_any}
use Rattle.bidi_base.proofs.Common.{cases_Bool, cases_lt, both_ways, not-true, ext_get_or, replicate-append-replicate, get_or_default, get_or-map, length-map, list_any_at, list_any_none}
use Rattle.bidi_base.proofs.Common.{sum_by-cons, IsPermutation-refl, IsTrue, is_isolate_initiator, is_removed, hidden, class_at, resolved_fsi, stored_classes, explicit_levels, explicit_classes}
use Rattle.bidi_base.proofs.Common.{is_kept_at, level_at, sequences, AreResolved, levels_in, text_len, unit_index, is_per_char, per_unit, per_char, replicate, keeps_to}
use Rattle.std.proofs.Common.{add-zero}
use Rattle.bidi_base.specs.declared.char_data.BidiClass.{BidiClass}
use Rattle.bidi_base.specs.declared.char_data.BidiClass.TheVariants.{L, FSI}
use Rattle.bidi_base.specs.declared.data_source.BidiMatchedOpeningBracket.{BidiMatchedOpeningBracket}
use Rattle.bidi_base.specs.Updated.{IsUpdated}
use Rattle.bidi_laws.proofs.LevelLaws.{All-per_unit}
use Rattle.bidi_text.proofs.PerCharTests.{class_eq, class_test, level_eq, level_test}
use Rattle.bidi_base.proofs.PerUnit.{length-per_char, length-per_unit, get_or-per_char, get_or-per_unit}
use Rattle.bidi_base.proofs.UnitIndexLemmas.{unit_index-zero, unit_index-more, unit_index-more-le, unit_of}
use Rattle.bidi_laws.proofs.StoredSteps.{length-stored_classes}
use Rattle.bidi_base.proofs.TextLemmas.{HasUnits}
use Rattle.bidi_base.proofs.UnitsLemmas.{is_per_char-per_unit, per_unit-from_is_per_char}
use Rattle.bidi_laws.proofs.LevelsInLemmas.{levels_in-written}
use Rattle.bidi_laws.proofs.KeepsToLemmas.{levels_in-keeps_to}
use Rattle.bidi_laws.proofs.StoredLemmas.{class_at-stored_classes}

-- the stored classes of one paragraph are equal within each character
pub stored-is_per_char : (len_of : ℕ → ℕ) (chars : List ℕ) (class_of : ℕ → BidiClass) (classes : List BidiClass) → classes ≡ per_unit len_of chars (stored_classes (map class_of chars))
    → IsTrue (is_per_char class_eq len_of chars classes)
stored-is_per_char len_of chars class_of classes e = grind (arith, is_per_char-per_unit, class_test, length-stored_classes, length-map)

-- there is one for each unit
pub stored-long : (len_of : ℕ → ℕ) (chars : List ℕ) (class_of : ℕ → BidiClass) (classes : List BidiClass) → classes ≡ per_unit len_of chars (stored_classes (map class_of chars))
    → length classes ≡ text_len len_of chars
stored-long len_of chars class_of classes e =
    let long = length-stored_classes (map class_of chars) ∙ length-map chars class_of in
    ap length e ∙ length-per_unit len_of chars (stored_classes (map class_of chars)) long

-- ---- what X9 removed

-- of the first i units those of removed characters have their levels
pub record AreFilled (para_level : ℕ) (classes : List BidiClass) (old : List ℕ) (i : ℕ) (new : List ℕ) : Type 0 where
  pub kept : (p : ℕ) → p < i → is_kept_at classes p ≡ true → get_or new p 0 ≡ get_or old p 0
  pub rest : (p : ℕ) → i ≤ p → get_or new p 0 ≡ get_or old p 0
  pub front : 0 < i → is_kept_at classes 0 ≡ false → get_or new 0 0 ≡ para_level
  pub removed : (p : ℕ) → p + 1 < i → is_kept_at classes (p + 1) ≡ false → get_or new (p + 1) 0 ≡ get_or new p 0

module _ (para_level : ℕ) (classes : List BidiClass) (old : List ℕ) (i : ℕ) (now : List ℕ) (h : AreFilled para_level classes old i now) where
  -- a stretch that X9 removes takes the level before it
  module _ (before to : ℕ) (new : List ℕ) (order : i ≤ to) (gone : (u : ℕ) → i ≤ u → u < to → is_kept_at classes u ≡ false) (w : IsUpdated 0 (λ u. true) (λ level. before) i to now new)
      (at_front : i ≡ 0 → before ≡ para_level) (inside : (p : ℕ) → p + 1 ≡ i → before ≡ get_or now p 0) where
    pub AreFilled-removed : AreFilled para_level classes old to new
    AreFilled-removed = record {
      kept = λ p below stays. elim (cases_lt p i) [
        | inl under ↦ w.below p under ∙ h.kept p under stays
        | inr past ↦ absurd (both_ways _ (gone p past below) stays)
      ];
      rest = λ p past. w.above p past ∙ h.rest p (omega arith);
      front = λ some removed. elim (cases_lt 0 i) [
        | inl under ↦ w.below 0 under ∙ h.front under removed
        | inr none ↦ w.inside 0 (omega arith) some refl ∙ at_front (omega arith)
      ];
      removed = λ p below removed. elim (cases_lt (p + 1) i) [
        | inl under ↦ w.below (p + 1) under ∙ h.removed p under removed ∙ sym (w.below p (omega arith))
        | inr past ↦ w.inside (p + 1) past below refl ∙ level_of p past below
      ];
    }
      where
        -- the level that stands before the unit p + 1
        level_of : (p : ℕ) → i ≤ p + 1 → p + 1 < to → before ≡ get_or new p 0
        level_of p past below = elim (cases_lt p i) [
          | inl under ↦ inside p (omega arith) ∙ sym (w.below p under)
          | inr later ↦ sym (w.inside p later (omega arith) refl)
        ]

module _ (len_of : ℕ → ℕ) (h : HasUnits len_of) (chars : List ℕ) (stored : List BidiClass) (para_level : ℕ) (classes : List BidiClass) (old new : List ℕ)
    (stored_long : length stored ≡ length chars) (is : classes ≡ per_unit len_of chars stored) (old_even : is_per_char level_eq len_of chars old ≡ true) (long : length new ≡ length classes)
    (kept : (u : ℕ) → u < length classes → is_kept_at classes u ≡ true → get_or new u 0 ≡ get_or old u 0)
    (front : 0 < length classes → is_kept_at classes 0 ≡ false → get_or new 0 0 ≡ para_level)
    (removed : (u : ℕ) → u + 1 < length classes → is_kept_at classes (u + 1) ≡ false → get_or new (u + 1) 0 ≡ get_or new u 0) where
  abbrev values : List ℕ
  values = per_char 0 len_of chars old

  -- the levels of the characters
  abbrev pub filled : List ℕ
  filled = per_char 0 len_of chars new

  classes_long : length classes ≡ text_len len_of chars
  classes_long = ap length is ∙ length-per_unit len_of chars stored stored_long

  unit_within : (k j : ℕ) → k < length chars → j < len_of (get_or chars k 0) → unit_index len_of chars k + j < length classes
  unit_within k j fits below = omega (arith, unit_index-more-le len_of chars k 0 fits, classes_long)

  unit_class : (k j : ℕ) → k < length chars → j < len_of (get_or chars k 0) → is_kept_at classes (unit_index len_of chars k + j) ≡ is_kept_at stored k
  unit_class k j fits below = grind (arith, get_or-per_unit)

  kept_unit : (k j : ℕ) → k < length chars → j < len_of (get_or chars k 0) → is_kept_at stored k ≡ true → get_or new (unit_index len_of chars k + j) 0 ≡ get_or values k 0
  kept_unit k j fits below stays =
      let own = kept (unit_index len_of chars k + j) (unit_within k j fits below) (unit_class k j fits below ∙ stays) in
      grind (arith, per_unit-from_is_per_char level_eq level_test 0 len_of h chars old old_even, get_or-per_unit len_of chars values k j 0 0, length-per_char 0 len_of chars old, own)

  first_unit : (k : ℕ) → k < length chars → get_or new (unit_index len_of chars k + 0) 0 ≡ level_at filled k
  first_unit k fits = simp (add-zero, get_or-per_char 0 len_of chars new k 0 fits)

  removed_unit : (k j : ℕ) → k < length chars → j < len_of (get_or chars k 0) → is_kept_at stored k ≡ false → get_or new (unit_index len_of chars k + j) 0 ≡ level_at filled k
  removed_unit k zero fits below gone = first_unit k fits
  removed_unit k (suc j) fits below gone =
      let next : unit_index len_of chars k + suc j ≡ unit_index len_of chars k + j + 1 = omega arith in
      simp (next, removed (unit_index len_of chars k + j) (omega (arith, unit_within k (suc j) fits below)) (simp next at (unit_class k (suc j) fits below ∙ gone)), removed_unit k j fits (omega arith) gone)

  -- the units of a character have its level
  own_level : (k j : ℕ) → k < length chars → j < len_of (get_or chars k 0) → get_or new (unit_index len_of chars k + j) 0 ≡ level_at filled k
  own_level k j fits below = elim (cases_Bool (is_kept_at stored k)) [
    | inl stays ↦ cc (kept_unit k j fits below stays, kept_unit k 0 fits (h (get_or chars k 0)) stays, first_unit k fits)
    | inr gone ↦ removed_unit k j fits below gone
  ]

  pub filled-units : new ≡ per_unit len_of chars filled
  filled-units =
      ext_get_or 0 new (per_unit len_of chars filled) (omega (arith, long, classes_long, length-per_unit len_of chars filled (length-per_char 0 len_of chars new)))
      (λ u within.
      let w = unit_of len_of chars u (omega (arith, within, long, classes_long)) in
      grind (arith, own_level w.index w.offset, get_or-per_unit len_of chars filled w.index w.offset 0 0, length-per_char))

  filled-kept : (p : ℕ) → p < length stored → is_kept_at stored p ≡ true → level_at filled p ≡ level_at values p
  filled-kept p within stays = grind (arith, first_unit p, kept_unit p 0, h (get_or chars p 0))

  filled-front : 0 < length stored → is_kept_at stored 0 ≡ false → level_at filled 0 ≡ para_level
  filled-front some gone = grind (arith, unit_index-zero, unit_class 0 0, h (get_or chars 0 0), first_unit 0, unit_within 0 0)

  filled-removed : (p : ℕ) → p + 1 < length stored → is_kept_at stored (p + 1) ≡ false → level_at filled (p + 1) ≡ level_at filled p
  filled-removed p within gone =
      let j : ℕ = len_of (get_or chars p 0) - 1 in
      let before : unit_index len_of chars (p + 1) + 0 ≡ unit_index len_of chars p + j + 1 = omega (
        arith,
        unit_index-more len_of chars p 0 (omega (arith, within, stored_long)),
        h (get_or chars p 0),
      ) in
      grind (
        arith,
        before,
        unit_within (p + 1) 0,
        h (get_or chars p 0),
        h (get_or chars (p + 1) 0),
        removed (unit_index len_of chars p + j),
        unit_class (p + 1) 0,
        first_unit (p + 1),
        own_level p j,
      )

  -- so the levels are those of the rules, if those of the kept characters are
  pub filled-levels_in : (source_classes : List BidiClass) (brackets : List (Option BidiMatchedOpeningBracket)) → stored ≡ stored_classes source_classes
      → AreResolved source_classes brackets (explicit_levels para_level stored) (explicit_classes para_level stored) values (sequences para_level stored (explicit_levels para_level stored)) → new ≡ per_unit len_of chars (levels_in para_level source_classes brackets)
  filled-levels_in source_classes brackets stored_is resolved =
      filled-units
      ∙ ap (per_unit len_of chars) (levels_in-written para_level source_classes brackets stored (explicit_levels para_level stored) (explicit_classes para_level stored) (sequences para_level stored (explicit_levels para_level stored)) values filled stored_is refl refl
      (IsPermutation-refl _) resolved (omega (arith, length-per_char 0 len_of chars new, stored_long)) filled-kept filled-front filled-removed)

-- ---- a paragraph that keeps to its level throughout

pub per_unit-replicate : {X : Type 0} (len_of : ℕ → ℕ) (chars : List ℕ) (x : X) → per_unit len_of chars (replicate (length chars) x) ≡ replicate (text_len len_of chars) x
per_unit-replicate len_of [] x = refl
per_unit-replicate len_of (c ∷ chars) x = simp (per_unit-replicate len_of chars x, replicate-append-replicate, sum_by-cons)

pub kept_to_levels : (len_of : ℕ → ℕ) (chars : List ℕ) (source_classes : List BidiClass) (brackets : List (Option BidiMatchedOpeningBracket)) (para_level : ℕ) (old new : List ℕ)
    → length source_classes ≡ length chars → length old ≡ text_len len_of chars
    → keeps_to para_level source_classes ≡ true → new ≡ replicate (length old) para_level → new ≡ per_unit len_of chars (levels_in para_level source_classes brackets)
kept_to_levels len_of chars source_classes brackets para_level old new fits long keeps is = grind (arith, per_unit-replicate, levels_in-keeps_to)

-- ---- a class of a group among the stored classes is one among the source classes

module _ (test : BidiClass → Bool) (of_stored : (o : Option BidiClass) → test (resolved_fsi o) ≡ test FSI) where
  any-stored : (len_of : ℕ → ℕ) (chars : List ℕ) (source_classes classes : List BidiClass) → classes ≡ per_unit len_of chars (stored_classes source_classes) → list_any test classes ≡ true → list_any test source_classes ≡ true
  any-stored len_of chars source_classes classes is e = elim (cases_Bool (list_any test source_classes)) [
    | inl some ↦ some
    | inr none ↦
        let each : All (λ c. test c ≡ false) (stored_classes source_classes) = λ k d within. grind (
          arith,
          length-stored_classes,
          list_any_at test source_classes k L,
          class_at-stored_classes source_classes k,
          get_or_default (stored_classes source_classes) k L d,
        ) in
        absurd (both_ways _ (list_any_none test classes (rw is (All-per_unit (λ c. test c ≡ false) len_of chars (stored_classes source_classes) each))) e)
  ]

module _ (len_of : ℕ → ℕ) (chars : List ℕ) (source_classes classes : List BidiClass) (is : classes ≡ per_unit len_of chars (stored_classes source_classes)) where
  pub initiators-stored : list_any is_isolate_initiator classes ≡ true → list_any is_isolate_initiator source_classes ≡ true
  initiators-stored = grind (arith, any-stored)

  -- where X9 removes nothing, each unit is kept
  pub all_kept : list_any is_removed source_classes ≡ false → (u : ℕ) → u < length classes → is_kept_at classes u ≡ true
  all_kept none u within = grind (arith, any-stored is_removed, list_any_at is_removed classes u L)

  -- so the passes begin with the same classes
  pub none_hidden : list_any is_removed source_classes ≡ false → map hidden classes ≡ classes
  none_hidden none =
      ext_get_or L (map hidden classes) classes (length-map classes hidden)
      (λ u within. grind (arith, length-map, get_or-map hidden classes u L L, not-true (is_removed (class_at classes u)), all_kept none u))
