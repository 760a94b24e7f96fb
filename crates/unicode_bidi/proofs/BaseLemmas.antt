-- Base levels of paragraphs: what each base gives, and that an optional base level is a base.
use Rattle.bidi_base.proofs.Common.{◌≡◌, ◌∙◌, ℕ, ◌≤◌, Bool, true, false, not, ◌==◌, List, [], ◌∷◌, map, flat_map, Option, Some, None, IfSome, refl, ap, arith, cases_Bool, sym, get_or, All}
use Rattle.bidi_base.proofs.Common.{deciding_class, paragraph_level, Source, levels_in, stored_levels, text_levels, paragraph_levels}
use Rattle.std.specs.Prelude.{is_some}
use Rattle.bidi_base.specs.declared.char_data.BidiClass.{BidiClass}
use Rattle.bidi_laws.proofs.LevelLaws.{paragraph_level-few}
use Rattle.bidi_lines.proofs.CharRuns.{map-same_on}
use Rattle.bidi_paragraphs.specs.declared.paragraph_info.ParagraphInfo.{ParagraphInfo}
use Rattle.bidi_paragraphs.specs.ParagraphInfo.{level_of, levels_of}
use Rattle.unicode_bidi.specs.Base.{base_level_of, base_of, fixed_level, level_in_text, level_with, stored_levels_with, HasLevelBy, HasLowLevel}
use Rattle.unicode_bidi.specs.declared.base.Base.{Base}
use Rattle.unicode_bidi.specs.declared.base.Base.TheVariants.{Level, Auto, AutoOr}

-- ---- the level that a base gives

-- it is at most 125 if the level that the base names is
base_level_of-few : (base : Base) (classes : List BidiClass) → HasLowLevel base → IfSome (base_level_of base classes) (λ level. level ≤ 125)
base_level_of-few (Level level) classes low = low
base_level_of-few Auto classes low = tt
base_level_of-few (AutoOr level) classes low = grind (arith, cases_Bool (is_some (deciding_class classes)))

pub level_with-few : (source : Source) (base : Base) → HasLowLevel base → (piece : List ℕ) → level_with source base piece ≤ 125
level_with-few source base low piece =
    let classes = map source.class_of piece in
    paragraph_level-few (base_level_of base classes) classes (base_level_of-few base classes low)

-- the fallback, where no character decides
pub level_with-undecided : (source : Source) (level : ℕ) (piece : List ℕ) → not (is_some (deciding_class (map source.class_of piece))) ≡ true → level_with source (AutoOr level) piece ≡ level
unfolding paragraph_level
level_with-undecided source level piece none = grind (arith, cases_Bool (is_some (deciding_class (map source.class_of piece))))

-- the level of the characters, where one decides
pub level_with-decided : (source : Source) (level : ℕ) (piece : List ℕ) → not (is_some (deciding_class (map source.class_of piece))) ≡ false
    → level_with source (AutoOr level) piece ≡ paragraph_level None (map source.class_of piece)
level_with-decided source level piece some = grind (arith, cases_Bool (is_some (deciding_class (map source.class_of piece))))

-- where the characters give another level than 0, one decides
decided-above : (classes : List BidiClass) (deciding : Option BidiClass) → deciding_class classes ≡ deciding → (paragraph_level None classes ≡ 0 → ⊥) → not (is_some (deciding_class classes)) ≡ false
unfolding paragraph_level
decided-above classes None is above = absurd (above (rw is refl))
decided-above classes (Some c) is above = rw is refl

pub decided : (classes : List BidiClass) → (paragraph_level None classes ≡ 0 → ⊥) → not (is_some (deciding_class classes)) ≡ false
decided classes above = decided-above classes (deciding_class classes) refl above

-- so a test of the level can tell that one decides
pub undecided_at_zero : (classes : List BidiClass) (level : ℕ) (test : Bool) → level ≡ paragraph_level None classes → test ≡ (level == 0) → test ≡ false → test ≡ not (is_some (deciding_class classes))
undecided_at_zero classes level test own is failed =
    failed ∙ sym (decided classes (λ zero. let passed : test ≡ true = is ∙ ap (λ n. n == 0) (own ∙ zero) in cc (passed, failed)))

-- its stored levels are those of that level
pub stored_levels_with-level : (source : Source) (base : Base) (pieces : List (List ℕ))
    → flat_map (λ piece. levels_in (level_with source base piece) (map source.class_of piece) (map source.bracket_of piece)) pieces ≡ flat_map (stored_levels_with source base) pieces
unfolding stored_levels
stored_levels_with-level source base pieces = refl

-- without a fallback, a paragraph that was found has its level
fixed-level_in_text : (source : Source) (base : Base) → ((level : ℕ) → base ≡ AutoOr level → ⊥) → (len_of : ℕ → ℕ) (chars : List ℕ) (p : ParagraphInfo)
    → HasLevelBy source (fixed_level base) len_of chars p → p.level ≡ level_in_text source base len_of chars p
fixed-level_in_text source (Level level) no_fallback len_of chars p own = own
fixed-level_in_text source Auto no_fallback len_of chars p own = own
fixed-level_in_text source (AutoOr level) no_fallback len_of chars p own = absurd (no_fallback level refl)

pub fixed-levels : (source : Source) (base : Base) → ((level : ℕ) → base ≡ AutoOr level → ⊥) → (len_of : ℕ → ℕ) (chars : List ℕ) (ps : List ParagraphInfo)
    → All (HasLevelBy source (fixed_level base) len_of chars) ps → levels_of ps ≡ map (level_in_text source base len_of chars) ps
fixed-levels source base no_fallback len_of chars ps own =
    map-same_on level_of (level_in_text source base len_of chars) ps (λ k d within. fixed-level_in_text source base no_fallback len_of chars (get_or ps k d) (own k d within))

-- ---- a base without a fallback

-- `Level` and `Auto` are an optional base level
pub level_with-base_of : (source : Source) (base_level : Option ℕ) (pieces : List (List ℕ)) → map (level_with source (base_of base_level)) pieces ≡ paragraph_levels source base_level pieces
unfolding paragraph_levels
level_with-base_of source (Some level) pieces = refl
level_with-base_of source None pieces = refl

pub stored_levels_with-base_of : (source : Source) (base_level : Option ℕ) (pieces : List (List ℕ)) → flat_map (stored_levels_with source (base_of base_level)) pieces ≡ text_levels source base_level pieces
unfolding text_levels
stored_levels_with-base_of source (Some level) pieces = refl
stored_levels_with-base_of source None pieces = refl

pub stored_levels_with-one : (source : Source) (base_level : Option ℕ) (piece : List ℕ) → stored_levels_with source (base_of base_level) piece ≡ stored_levels source base_level piece
stored_levels_with-one source (Some level) piece = refl
stored_levels_with-one source None piece = refl

pub HasLowLevel-base_of : (base_level : Option ℕ) → IfSome base_level (λ level. level ≤ 125) → HasLowLevel (base_of base_level)
HasLowLevel-base_of (Some level) low = low
HasLowLevel-base_of None low = tt

-- ---- the fallback 0 changes nothing

or_zero : (classes : List BidiClass) (deciding : Option BidiClass) → deciding_class classes ≡ deciding → paragraph_level (base_level_of (AutoOr 0) classes) classes ≡ paragraph_level None classes
unfolding paragraph_level
or_zero classes None is = rw is refl
or_zero classes (Some c) is = rw is refl

level_with-or_zero : (source : Source) (piece : List ℕ) → level_with source (AutoOr 0) piece ≡ level_with source Auto piece
level_with-or_zero source piece = or_zero (map source.class_of piece) (deciding_class (map source.class_of piece)) refl

pub levels-or_zero : (source : Source) (pieces : List (List ℕ)) → map (level_with source (AutoOr 0)) pieces ≡ map (level_with source Auto) pieces
levels-or_zero source [] = refl
levels-or_zero source (piece ∷ pieces) = rw (level_with-or_zero source piece, levels-or_zero source pieces) refl

pub stored-or_zero : (source : Source) (piece : List ℕ) → stored_levels_with source (AutoOr 0) piece ≡ stored_levels_with source Auto piece
unfolding stored_levels
stored-or_zero source piece = ap (λ level. levels_in level (map source.class_of piece) (map source.bracket_of piece)) (level_with-or_zero source piece)

pub stored_levels-or_zero : (source : Source) (pieces : List (List ℕ)) → flat_map (stored_levels_with source (AutoOr 0)) pieces ≡ flat_map (stored_levels_with source Auto) pieces
stored_levels-or_zero source [] = refl
stored_levels-or_zero source (piece ∷ pieces) = rw (stored-or_zero source piece, stored_levels-or_zero source pieces) refl
