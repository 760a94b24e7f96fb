-- The rules of grapheme clusters, by the state after the characters before a place.
use Rattle.bidi_base.proofs.Common.{◌≡◌, ℕ, Bool, true, false, cond, not, ◌&&◌, ◌||◌, List, [], ◌∷◌, map, Option, unwrap_or, inl, inr, refl, sym, ap, ap₂, ◌∙◌, arith, cases_Bool}
use Rattle.std.specs.Prelude.{Some, None}
use Rattle.ucd_breaks.specs.GraphemeClusterBreak.{grapheme_cluster_break}
use Rattle.ucd_breaks.specs.declared.GraphemeClusterBreak.{GraphemeClusterBreak}
use Rattle.ucd_breaks.specs.declared.GraphemeClusterBreak.TheVariants as GCB
use Rattle.ucd_derived.specs.IndicConjunctBreak.{indic_conjunct_break}
use Rattle.ucd_derived.specs.declared.IndicConjunctBreak.{IndicConjunctBreak}
use Rattle.ucd_derived.specs.declared.IndicConjunctBreak.TheVariants as InCb
use Rattle.ucd_emoji.specs.Binary.{is_extended_pictographic}
use Rattle.unicode_segmentation.specs.Grapheme.{break_by_pair, ends_in_half_flag, ends_in_linker, ends_in_pictograph, is_extend, is_grapheme_break, is_regional, is_zwj, joins_conjunct, joins_emoji, joins_flag}
use Rattle.bidi_display.specs.ClusterState.{last_value, base_of, is_plain, state_after}
use Rattle.bidi_display.specs.declared.cluster_state.ClusterState.{ClusterState}
use Rattle.bidi_display.proofs.TableFacts.{is_in_conjunct, no_pictograph, plain-no_consonant, plain-no_pictograph, plain-other, plain-outside_conjunct, zero_is_no_pictograph}

-- GB11 looks back to the last character that does not have the value Extend
pub ends_in_pictograph-base_of : (before : List ℕ) → ends_in_pictograph before ≡ is_extended_pictographic (base_of before)
unfolding ends_in_pictograph
ends_in_pictograph-base_of [] = sym zero_is_no_pictograph
ends_in_pictograph-base_of (c ∷ before) = elim (cases_Bool (is_extend (grapheme_cluster_break c))) [
  | inl e ↦ grind (arith, e, no_pictograph c e, ends_in_pictograph-base_of before)
  | inr e ↦ grind (arith, e)
]

-- whether a cluster begins at a character, by the value of the one before it
pub is_grapheme_break-last_value : (before : List ℕ) (next : ℕ) (after : List ℕ) → is_grapheme_break true before (next ∷ after)
    ≡ unwrap_or (break_by_pair true (last_value before) (grapheme_cluster_break next))
    (not (joins_conjunct before next || joins_emoji before next || joins_flag before next))
unfolding is_grapheme_break
is_grapheme_break-last_value [] next after = refl
is_grapheme_break-last_value (last ∷ before) next after = refl

-- and at the end of a text one ends
pub is_grapheme_break-end : (before : List ℕ) → is_grapheme_break true before [] ≡ true
unfolding is_grapheme_break
is_grapheme_break-end [] = refl
is_grapheme_break-end (last ∷ before) = refl

-- after a character that is no linker and extends none, no linker comes last
pub ends_in_linker-outside : (v : IndicConjunctBreak) (before : List IndicConjunctBreak) → is_in_conjunct v ≡ false → ends_in_linker (v ∷ before) ≡ false
unfolding ends_in_linker
ends_in_linker-outside InCb.Consonant before e = refl
ends_in_linker-outside InCb.Extend before e = absurd (cc e)
ends_in_linker-outside InCb.Linker before e = absurd (cc e)
ends_in_linker-outside InCb.None before e = refl

-- ---- the code

-- whether a cluster begins at a character, if a rule that reads only two characters says so
pub begins_by_pair : (before : List ℕ) (next : ℕ) (after : List ℕ) (last value : GraphemeClusterBreak) (begins : Bool)
    → last ≡ last_value before → value ≡ grapheme_cluster_break next → Some begins ≡ break_by_pair true last value → begins ≡ is_grapheme_break true before (next ∷ after)
begins_by_pair before next after last value begins l v pair =
    let joins = joins_conjunct before next || joins_emoji before next || joins_flag before next in
    ap (λ (o : Option Bool). unwrap_or o (not joins)) (pair ∙ ap₂ (break_by_pair true) l v) ∙ sym (is_grapheme_break-last_value before next after)

-- and if none of them does
pub begins_by_context : (before : List ℕ) (next : ℕ) (after : List ℕ) (last value : GraphemeClusterBreak) (joins : Bool)
    → last ≡ last_value before → value ≡ grapheme_cluster_break next → None ≡ break_by_pair true last value
    → joins ≡ (joins_conjunct before next || joins_emoji before next || joins_flag before next) → not joins ≡ is_grapheme_break true before (next ∷ after)
begins_by_context before next after last value joins l v pair j =
    ap not j ∙ ap (λ (o : Option Bool). unwrap_or o (not (joins_conjunct before next || joins_emoji before next || joins_flag before next))) (pair ∙ ap₂ (break_by_pair true) l v)
    ∙ sym (is_grapheme_break-last_value before next after)

-- the state after one more character, field by field
pub state_after-cons : (state : ClusterState) (before : List ℕ) (c : ℕ) (value : GraphemeClusterBreak) (base : ℕ) (linker zwj flag : Bool) → state ≡ state_after before
    → value ≡ grapheme_cluster_break c → base ≡ cond (is_extend (grapheme_cluster_break c)) state.base c
    → linker ≡ ends_in_linker (map indic_conjunct_break (c ∷ before)) → zwj ≡ (is_zwj (grapheme_cluster_break c) && is_extended_pictographic state.base)
    → flag ≡ (is_regional (grapheme_cluster_break c) && not state.after_half_flag)
    → ◌≡◌ {A = ClusterState} (record { last = value; base = base; after_linker = linker; after_pictograph_zwj = zwj; after_half_flag = flag }) (state_after (c ∷ before))
unfolding ends_in_half_flag
state_after-cons state before c value base linker zwj flag e v b l z f =
    let old_base : state.base ≡ base_of before = ap (λ (s : ClusterState). s.base) e in
    let old_flag : state.after_half_flag ≡ ends_in_half_flag before = ap (λ (s : ClusterState). s.after_half_flag) e in
    let new_base = b ∙ ap (λ (x : ℕ). cond (is_extend (grapheme_cluster_break c)) x c) old_base in
    let new_zwj = z ∙ ap (λ (x : ℕ). is_zwj (grapheme_cluster_break c) && is_extended_pictographic x) old_base ∙ ap (λ (x : Bool). is_zwj (grapheme_cluster_break c) && x) (sym (ends_in_pictograph-base_of before)) in
    let new_flag = f ∙ ap (λ (x : Bool). is_regional (grapheme_cluster_break c) && not x) old_flag in
    λ i. record { last = v i; base = new_base i; after_linker = l i; after_pictograph_zwj = new_zwj i; after_half_flag = new_flag i }

-- ---- a plain character

abbrev pub is_prepend : GraphemeClusterBreak → Bool
is_prepend GCB.Prepend = true
is_prepend _ = false

-- of the rules that read two characters, the one on prepended marks alone joins one with the value Other
pair-other : (last : GraphemeClusterBreak) → unwrap_or (break_by_pair true last GCB.Other) true ≡ not (is_prepend last)
pair-other GCB.Control = refl
pair-other GCB.Cr = refl
pair-other GCB.Extend = refl
pair-other GCB.L = refl
pair-other GCB.Lf = refl
pair-other GCB.Lv = refl
pair-other GCB.Lvt = refl
pair-other GCB.Prepend = refl
pair-other GCB.RegionalIndicator = refl
pair-other GCB.SpacingMark = refl
pair-other GCB.T = refl
pair-other GCB.V = refl
pair-other GCB.Other = refl
pair-other GCB.Zwj = refl

joins_emoji-plain : (before : List ℕ) (c : ℕ) → is_plain c ≡ true → joins_emoji before c ≡ false
joins_emoji-plain [] c p = refl
joins_emoji-plain (b ∷ before) c p = grind (arith, plain-no_pictograph c p)

-- no other rule does
joins-plain : (before : List ℕ) (c : ℕ) → is_plain c ≡ true → (joins_conjunct before c || joins_emoji before c || joins_flag before c) ≡ false
joins-plain before c p = grind (arith, plain-no_consonant c p, joins_emoji-plain before c p, plain-other c p)

-- a cluster begins at a plain character, but after a prepended mark
pub is_grapheme_break-plain : (before after : List ℕ) (c : ℕ) → is_plain c ≡ true → is_grapheme_break true before (c ∷ after) ≡ not (is_prepend (last_value before))
is_grapheme_break-plain before after c p =
    is_grapheme_break-last_value before c after
    ∙ ap₂ (λ (value : GraphemeClusterBreak) (joins : Bool). unwrap_or (break_by_pair true (last_value before) value) (not joins)) (plain-other c p) (joins-plain before c p)
    ∙ pair-other (last_value before)

-- and at one that follows another
pub is_grapheme_break-plains : (before after : List ℕ) (b c : ℕ) → is_plain b ≡ true → is_plain c ≡ true → is_grapheme_break true (b ∷ before) (c ∷ after) ≡ true
is_grapheme_break-plains before after b c p q = is_grapheme_break-plain (b ∷ before) after c q ∙ ap (λ value. not (is_prepend value)) (plain-other b p)

-- the state after it is the same after all characters
pub state_after-plain : (before : List ℕ) (c : ℕ) (start : ClusterState) → is_plain c ≡ true → start ≡ state_after []
    → ◌≡◌ {A = ClusterState} (record start { last = GCB.Other; base = c }) (state_after (c ∷ before))
unfolding ends_in_half_flag ends_in_linker
state_after-plain before c start p e =
    let value : GCB.Other ≡ grapheme_cluster_break c = sym (plain-other c p) in
    let base : c ≡ base_of (c ∷ before) = ap (λ (v : GraphemeClusterBreak). cond (is_extend v) (base_of before) c) value in
    let linker : start.after_linker ≡ ends_in_linker (map indic_conjunct_break (c ∷ before)) =
    ap (λ (s : ClusterState). s.after_linker) e ∙ sym (ends_in_linker-outside (indic_conjunct_break c) (map indic_conjunct_break before) (plain-outside_conjunct c p)) in
    let zwj : start.after_pictograph_zwj ≡ (is_zwj (grapheme_cluster_break c) && ends_in_pictograph before) =
    ap (λ (s : ClusterState). s.after_pictograph_zwj) e ∙ ap (λ v. is_zwj v && ends_in_pictograph before) value in
    let flag : start.after_half_flag ≡ (is_regional (grapheme_cluster_break c) && not (ends_in_half_flag before)) =
    ap (λ (s : ClusterState). s.after_half_flag) e ∙ ap (λ v. is_regional v && not (ends_in_half_flag before)) value in
    λ i. record { last = value i; base = base i; after_linker = linker i; after_pictograph_zwj = zwj i; after_half_flag = flag i }
