-- A text that is cut at the start of a cluster: its clusters are those of both parts.
use Rattle.bidi_base.proofs.Common.{◌≡◌, ℕ, zero, suc, ◌+◌, ◌<◌, ◌≤◌, ◌-◌, Bool, true, false, not, ◌&&◌, ◌||◌, List, [], ◌∷◌, ◌++◌, length, map, take, drop, reverse, slice_range, inl, inr, refl, sym, ap, ◌∙◌, arith, cases_Bool, append-nil, append_assoc, reverse-append, take-add, take-append-drop, or_left, or_right, unwrap_or, cond}
use Rattle.ucd_breaks.specs.GraphemeClusterBreak.{grapheme_cluster_break}
use Rattle.ucd_breaks.specs.declared.GraphemeClusterBreak.{GraphemeClusterBreak}
use Rattle.ucd_breaks.specs.declared.GraphemeClusterBreak.TheVariants.{Control, Cr, Extend, Lf, RegionalIndicator, Zwj}
use Rattle.ucd_derived.specs.IndicConjunctBreak.{indic_conjunct_break}
use Rattle.ucd_derived.specs.declared.IndicConjunctBreak.{IndicConjunctBreak}
use Rattle.ucd_derived.specs.declared.IndicConjunctBreak.TheVariants as InCb
use Rattle.ucd_emoji.specs.Binary.{is_extended_pictographic}
use Rattle.unicode_segmentation.specs.Grapheme.{break_by_pair, ends_in_half_flag, ends_in_linker, ends_in_pictograph, is_extend, is_grapheme_break, is_regional, is_zwj, joins_conjunct, joins_emoji}
use Rattle.unicode_segmentation.specs.Segments.{Rule, cut, prepend}
use Rattle.bidi_display.specs.ClusterState.{ends_in_pictograph_zwj, last_value}
use Rattle.bidi_display.specs.Clusters.{clusters, is_cluster_boundary}
use Rattle.bidi_display.proofs.StateLemmas.{ends_in_linker-outside, is_grapheme_break-end, is_grapheme_break-last_value}
use Rattle.bidi_display.proofs.TableFacts.{control-no_pictograph, control-outside_conjunct, extends_linker, extends_linker-joins, is_control}

-- ---- characters before a place that no rule distinguishes

record IsSame (xs ys : List ℕ) : Type 0 where
  last : last_value xs ≡ last_value ys
  linker : ends_in_linker (map indic_conjunct_break xs) ≡ ends_in_linker (map indic_conjunct_break ys)
  pictograph : ends_in_pictograph xs ≡ ends_in_pictograph ys
  zwj : ends_in_pictograph_zwj xs ≡ ends_in_pictograph_zwj ys
  flag : ends_in_half_flag xs ≡ ends_in_half_flag ys

joins_emoji-zwj : (before : List ℕ) (next : ℕ) → joins_emoji before next ≡ (ends_in_pictograph_zwj before && is_extended_pictographic next)
joins_emoji-zwj [] next = refl
joins_emoji-zwj (c ∷ before) next = grind arith

breaks-same : (xs ys rest : List ℕ) → IsSame xs ys → is_grapheme_break true xs rest ≡ is_grapheme_break true ys rest
breaks-same xs ys [] s = is_grapheme_break-end xs ∙ sym (is_grapheme_break-end ys)
breaks-same xs ys (next ∷ rest) s =
    rw (is_grapheme_break-last_value xs next rest, is_grapheme_break-last_value ys next rest, joins_emoji-zwj xs next, joins_emoji-zwj ys next, s.last, s.linker, s.zwj, s.flag) refl

linker-cons : (v : IndicConjunctBreak) (xs ys : List IndicConjunctBreak) → ends_in_linker xs ≡ ends_in_linker ys → ends_in_linker (v ∷ xs) ≡ ends_in_linker (v ∷ ys)
unfolding ends_in_linker
linker-cons InCb.Consonant xs ys e = refl
linker-cons InCb.Extend xs ys e = e
linker-cons InCb.Linker xs ys e = refl
linker-cons InCb.None xs ys e = refl

IsSame-cons : (c : ℕ) (xs ys : List ℕ) → IsSame xs ys → IsSame (c ∷ xs) (c ∷ ys)
unfolding ends_in_pictograph ends_in_half_flag
IsSame-cons c xs ys s = record {
  last = refl;
  linker = linker-cons (indic_conjunct_break c) (map indic_conjunct_break xs) (map indic_conjunct_break ys) s.linker;
  pictograph = ap (λ (b : Bool). is_extended_pictographic c || (is_extend (grapheme_cluster_break c) && b)) s.pictograph;
  zwj = ap (λ (b : Bool). is_zwj (grapheme_cluster_break c) && b) s.pictograph;
  flag = ap (λ (b : Bool). is_regional (grapheme_cluster_break c) && not b) s.flag;
}

-- ---- the first character of a cluster

-- a cluster begins at a character with the value Extend or ZWJ only after a control
after_control : (last value : GraphemeClusterBreak) (joins : Bool) → (is_extend value || is_zwj value) ≡ true → unwrap_or (break_by_pair true last value) joins ≡ true → is_control last ≡ true
after_control Control value joins e h = refl
after_control Cr value joins e h = refl
after_control Lf value joins e h = refl
after_control last Extend joins e h = absurd (cc h)
after_control last Zwj joins e h = absurd (cc h)
after_control last value joins e h = absurd (cc e)

regional-is : (value : GraphemeClusterBreak) → is_regional value ≡ true → value ≡ RegionalIndicator
regional-is RegionalIndicator e = refl
regional-is value e = absurd (cc e)

none_joins : (a b f : Bool) → not (a || b || f && true) ≡ true → f ≡ false
none_joins a b false h = refl
none_joins true b true h = absurd (cc h)
none_joins false true true h = absurd (cc h)
none_joins false false true h = absurd (cc h)

control-not_extend : (value : GraphemeClusterBreak) → is_control value ≡ true → is_extend value ≡ false
control-not_extend Extend e = absurd (cc e)
control-not_extend value e = refl

module _ (b : ℕ) (before : List ℕ) (c : ℕ) (rest : List ℕ) (begins : is_grapheme_break true (b ∷ before) (c ∷ rest) ≡ true) where
  control_before : (is_extend (grapheme_cluster_break c) || is_zwj (grapheme_cluster_break c)) ≡ true → is_control (grapheme_cluster_break b) ≡ true
  control_before e = after_control (grapheme_cluster_break b) (grapheme_cluster_break c) _ e (sym (is_grapheme_break-last_value (b ∷ before) c rest) ∙ begins)

  no_pictograph_before : (is_extend (grapheme_cluster_break c) || is_zwj (grapheme_cluster_break c)) ≡ true → ends_in_pictograph (b ∷ before) ≡ false
  unfolding ends_in_pictograph
  no_pictograph_before e = rw (control-no_pictograph b (control_before e), control-not_extend (grapheme_cluster_break b) (control_before e)) refl

  no_linker_before : extends_linker (indic_conjunct_break c) ≡ true → ends_in_linker (map indic_conjunct_break (b ∷ before)) ≡ false
  no_linker_before e = ends_in_linker-outside (indic_conjunct_break b) (map indic_conjunct_break before) (control-outside_conjunct b (control_before (extends_linker-joins c e)))

  no_half_flag_before : is_regional (grapheme_cluster_break c) ≡ true → ends_in_half_flag (b ∷ before) ≡ false
  unfolding ends_in_half_flag
  no_half_flag_before e = elim (cases_Bool (is_regional (grapheme_cluster_break b))) [
    | inl r ↦ rw r (none_joins (joins_conjunct (b ∷ before) c) false _ (rw (regional-is (grapheme_cluster_break b) r, regional-is (grapheme_cluster_break c) e) at (sym (is_grapheme_break-last_value (b ∷ before) c rest) ∙ begins)))
    | inr r ↦ rw r refl
  ]

linker-first : (v : IndicConjunctBreak) (xs : List IndicConjunctBreak) → (extends_linker v ≡ true → ends_in_linker xs ≡ false) → ends_in_linker (v ∷ xs) ≡ ends_in_linker (v ∷ [])
unfolding ends_in_linker
linker-first InCb.Consonant xs h = refl
linker-first InCb.Extend xs h = h refl
linker-first InCb.Linker xs h = refl
linker-first InCb.None xs h = refl

and_false : (a b : Bool) → (a ≡ true → b ≡ false) → (a && b) ≡ (a && false)
and_false true b h = h refl
and_false false b h = refl

and_not_false : (a b : Bool) → (a ≡ true → b ≡ false) → (a && not b) ≡ (a && true)
and_not_false true b h = ap not (h refl)
and_not_false false b h = refl

-- it makes what comes before it the same as nothing
starts-same : (before : List ℕ) (c : ℕ) (rest : List ℕ) → is_grapheme_break true before (c ∷ rest) ≡ true → IsSame (c ∷ before) (c ∷ [])
unfolding ends_in_pictograph ends_in_half_flag
starts-same [] c rest begins = record { last = refl; linker = refl; pictograph = refl; zwj = refl; flag = refl }
starts-same (b ∷ before) c rest begins = record {
  last = refl;
  linker = linker-first (indic_conjunct_break c) (map indic_conjunct_break (b ∷ before)) (no_linker_before b before c rest begins);
  pictograph = ap (λ (x : Bool). is_extended_pictographic c || x) (and_false (is_extend (grapheme_cluster_break c)) _ (λ x. no_pictograph_before b before c rest begins (or_left _ _ x)));
  zwj = and_false (is_zwj (grapheme_cluster_break c)) _ (λ x. no_pictograph_before b before c rest begins (or_right _ _ x));
  flag = and_not_false (is_regional (grapheme_cluster_break c)) _ (no_half_flag_before b before c rest begins);
}

-- ---- cuts

cut-same : (xs ys cs after : List ℕ) → IsSame xs ys → cut (is_grapheme_break true) xs cs after ≡ cut (is_grapheme_break true) ys cs after
unfolding cut
cut-same xs ys [] after s = refl
cut-same xs ys (c ∷ cs) after s =
    let more = IsSame-cons c xs ys s in
    rw (breaks-same (c ∷ xs) (c ∷ ys) (cs ++ after) more, cut-same (c ∷ xs) (c ∷ ys) cs after more) refl

-- the characters before the start of a cluster change nothing
cut-start : (before cs after : List ℕ) → is_grapheme_break true before (cs ++ after) ≡ true → cut (is_grapheme_break true) before cs after ≡ cut (is_grapheme_break true) [] cs after
unfolding cut
cut-start before [] after begins = refl
cut-start before (c ∷ cs) after begins =
    let same = starts-same before c (cs ++ after) begins in
    rw (breaks-same (c ∷ before) (c ∷ []) (cs ++ after) same, cut-same (c ∷ before) (c ∷ []) cs after same) refl

-- nor do those after the end of a cluster
pub breaks-first : (before : List ℕ) (next : ℕ) (xs ys : List ℕ) → is_grapheme_break true before (next ∷ xs) ≡ is_grapheme_break true before (next ∷ ys)
breaks-first before next xs ys = is_grapheme_break-last_value before next xs ∙ sym (is_grapheme_break-last_value before next ys)

breaks-within : (c : ℕ) (before cs after : List ℕ) → is_grapheme_break true (reverse cs ++ c ∷ before) after ≡ true
    → is_grapheme_break true (c ∷ before) (cs ++ after) ≡ is_grapheme_break true (c ∷ before) (cs ++ [])
breaks-within c before [] after ends = ends ∙ sym (is_grapheme_break-end (c ∷ before))
breaks-within c before (d ∷ cs) after ends = breaks-first (c ∷ before) d (cs ++ after) (cs ++ [])

reverse-onto : (c : ℕ) (cs before : List ℕ) → reverse (c ∷ cs) ++ before ≡ reverse cs ++ c ∷ before
reverse-onto c cs before = ap (λ (r : List ℕ). r ++ before) (reverse-append (c ∷ []) cs) ∙ append_assoc (reverse cs) (c ∷ []) before

cut-end : (before cs after : List ℕ) → is_grapheme_break true (reverse cs ++ before) after ≡ true → cut (is_grapheme_break true) before cs after ≡ cut (is_grapheme_break true) before cs []
unfolding cut
cut-end before [] after ends = refl
cut-end before (c ∷ cs) after ends =
    let here = rw (reverse-onto c cs before) at ends in
    rw (breaks-within c before cs after here, cut-end (c ∷ before) cs after here) refl

cut-some : (rule : Rule) (before : List ℕ) (c : ℕ) (cs after : List ℕ) → 0 < length (cut rule before (c ∷ cs) after)
unfolding cut
cut-some rule before c cs after = elim (cases_Bool (rule (c ∷ before) (cs ++ after))) [
  | inl e ↦ rw e (omega arith)
  | inr e ↦ rw e (some (cut rule (c ∷ before) cs after))
]
  where
    some : (pieces : List (List ℕ)) → 0 < length (prepend (c ∷ []) pieces)
    some [] = omega arith
    some (p ∷ ps) = omega arith

-- a part before pieces, as one of its own or as the front of the first
abbrev pub attach : Bool → List ℕ → List (List ℕ) → List (List ℕ)
attach begins part pieces = cond begins (part ∷ pieces) (prepend part pieces)

attach-append : (begins : Bool) (part : List ℕ) (xs ys : List (List ℕ)) → 0 < length xs → attach begins part (xs ++ ys) ≡ attach begins part xs ++ ys
attach-append true part xs ys some = refl
attach-append false part [] ys some = absurd (omega arith)
attach-append false part (x ∷ xs) ys some = refl

pub cut-next : (rule : Rule) (before : List ℕ) (c : ℕ) (cs after : List ℕ) → cut rule before (c ∷ cs) after ≡ attach (rule (c ∷ before) (cs ++ after)) (c ∷ []) (cut rule (c ∷ before) cs after)
unfolding cut
cut-next rule before c cs after = refl

pub cut-nil : (rule : Rule) (before after : List ℕ) → cut rule before [] after ≡ []
unfolding cut
cut-nil rule before after = refl

-- a text that is cut at a boundary is cut as its two parts
cut-append : (rule : Rule) (before xs ys after : List ℕ) → rule (reverse xs ++ before) (ys ++ after) ≡ true
    → cut rule before (xs ++ ys) after ≡ cut rule before xs (ys ++ after) ++ cut rule (reverse xs ++ before) ys after
cut-append rule before [] ys after begins = ap (λ ps. ps ++ cut rule before ys after) (sym (cut-nil rule before (ys ++ after)))
cut-append rule before (x ∷ []) ys after begins =
    rw (cut-next rule before x ys after, cut-next rule before x [] (ys ++ after), cut-nil rule (x ∷ before) (ys ++ after), begins) refl
cut-append rule before (x ∷ y ∷ xs) ys after begins =
    let rest = cut-append rule (x ∷ before) (y ∷ xs) ys after (rw (reverse-onto x (y ∷ xs) before) at begins) in
    let begins_next = rule (x ∷ before) ((y ∷ xs) ++ (ys ++ after)) in
    let front = cut rule (x ∷ before) (y ∷ xs) (ys ++ after) in
    let back = cut rule (reverse (y ∷ xs) ++ x ∷ before) ys after in
    cut-next rule before x ((y ∷ xs) ++ ys) after
    ∙ ap (λ (cs : List ℕ). attach (rule (x ∷ before) cs) (x ∷ []) (cut rule (x ∷ before) ((y ∷ xs) ++ ys) after)) (append_assoc (y ∷ xs) ys after)
    ∙ ap (attach begins_next (x ∷ [])) rest
    ∙ attach-append begins_next (x ∷ []) front back (cut-some rule (x ∷ before) y xs (ys ++ after))
    ∙ ap (λ (ps : List (List ℕ)). ps ++ back) (sym (cut-next rule before x (y ∷ xs) (ys ++ after)))
    ∙ ap (λ (r : List ℕ). cut rule before (x ∷ y ∷ xs) (ys ++ after) ++ cut rule r ys after) (sym (reverse-onto x (y ∷ xs) before))

-- ---- the clusters of a text

-- of a text that is cut at the start of a cluster, the clusters are those of both parts
clusters-append : (front back : List ℕ) → is_grapheme_break true (reverse front) back ≡ true → clusters (front ++ back) ≡ clusters front ++ clusters back
unfolding clusters
clusters-append front back begins =
    let rule = is_grapheme_break true in
    let all = append-nil back in
    let begins_back : rule (reverse front ++ []) (back ++ []) ≡ true = rw (append-nil (reverse front), all) begins in
    cut-append rule [] front back [] begins_back
    ∙ ap (λ (ps : List (List ℕ)). ps ++ cut rule (reverse front ++ []) back []) (cut-end [] front (back ++ []) begins_back)
    ∙ ap (λ (ps : List (List ℕ)). cut rule [] front [] ++ ps) (cut-start (reverse front ++ []) back [] begins_back)

-- where a cluster begins, one begins also if the text ends earlier
breaks-front : (before : List ℕ) (m : ℕ) (rest : List ℕ) → is_grapheme_break true before rest ≡ true → is_grapheme_break true before (take m rest) ≡ true
breaks-front before zero rest begins = is_grapheme_break-end before
breaks-front before (suc m) [] begins = begins
breaks-front before (suc m) (c ∷ rest) begins = breaks-first before c (take m rest) rest ∙ begins

-- of a text that is cut at the starts of two clusters, the clusters are those of the three parts
pub clusters-parts : (chars : List ℕ) (i j : ℕ) → i ≤ j → is_cluster_boundary chars i ≡ true → is_cluster_boundary chars j ≡ true
    → clusters chars ≡ (clusters (take i chars) ++ clusters (slice_range chars i j)) ++ clusters (drop j chars)
clusters-parts chars i j order begins ends =
    let part = slice_range chars i j in
    let upto : take j chars ≡ take i chars ++ part =
    ap (λ (n : ℕ). take n chars) (let e : j ≡ i + (j - i) = omega arith in e) ∙ take-add i (j - i) chars in
    ap clusters (sym (take-append-drop j chars)) ∙ clusters-append (take j chars) (drop j chars) ends
    ∙ ap (λ (cs : List ℕ). clusters cs ++ clusters (drop j chars)) upto
    ∙ ap (λ (ps : List (List ℕ)). ps ++ clusters (drop j chars)) (clusters-append (take i chars) part (breaks-front (reverse (take i chars)) (j - i) (drop i chars) begins))
