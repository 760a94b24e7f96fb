-- A walk over paragraphs that changes the level of some.
use Rattle.bidi_base.proofs.Common.{◌≡◌, ◌∙◌, ap, ℕ, ◌+◌, ◌<◌, List, [], ◌∷◌, ◌++◌, length, get_or, set, take, drop, map, arith, take_more, drop_more, map-append, Range}
use Rattle.std.proofs.lemmas.List.{take_more_set, drop-set-lt}
use Rattle.bidi_paragraphs.specs.declared.paragraph_info.ParagraphInfo.{ParagraphInfo}
use Rattle.bidi_paragraphs.specs.ParagraphInfo.{range_of, level_of, ends_of, ranges_of, levels_of}

map-take_more : {Y : Type 0} (f : ParagraphInfo → Y) (ps : List ParagraphInfo) (k : ℕ) (d : ParagraphInfo) → k < length ps → map f (take (k + 1) ps) ≡ map f (take k ps) ++ f (get_or ps k d) ∷ []
map-take_more f ps k d within = ap (map f) (take_more ps k d within) ∙ map-append f (take k ps) (get_or ps k d ∷ [])

map-take_set : {Y : Type 0} (f : ParagraphInfo → Y) (ps : List ParagraphInfo) (k : ℕ) (p : ParagraphInfo) → k < length ps → map f (take (k + 1) (set ps k p)) ≡ map f (take k ps) ++ f p ∷ []
map-take_set f ps k p within = ap (map f) (take_more_set ps k p within) ∙ map-append f (take k ps) (p ∷ [])

ends-range : (p q : ParagraphInfo) → range_of p ≡ range_of q → ends_of p ≡ ends_of q
ends-range p q e = ap (λ (r : Range ℕ). (r.start, r.end)) e

-- of the paragraphs `start`, the first k have the level that `own` gives, and all have their ranges
pub record AreChanged (own : ParagraphInfo → ℕ) (start : List ParagraphInfo) (k : ℕ) (now : List ParagraphInfo) : Type 0 where
  pub ranges : ranges_of (take k now) ≡ ranges_of (take k start)
  pub levels : levels_of (take k now) ≡ map own (take k start)
  pub rest : drop k now ≡ drop k start

module _ (own : ParagraphInfo → ℕ) (start : List ParagraphInfo) (k : ℕ) (now : List ParagraphInfo) (h : AreChanged own start k now)
    (within : k < length now) (same : length now ≡ length start) (d : ParagraphInfo) where
  -- the paragraph that comes
  pub unchanged : get_or now k d ≡ get_or start k d
  unchanged =
      let still : k < length start = omega arith in
      cc (drop_more now k d within, drop_more start k d still, h.rest)

  rest_on : drop (k + 1) now ≡ drop (k + 1) start
  rest_on =
      let still : k < length start = omega arith in
      cc (drop_more now k d within, drop_more start k d still, h.rest)

  -- it keeps its range, and gets its level
  pub AreChanged-set : (p : ParagraphInfo) → range_of p ≡ range_of (get_or start k d) → level_of p ≡ own (get_or start k d) → AreChanged own start (k + 1) (set now k p)
  AreChanged-set p range level =
      let still : k < length start = omega arith in
      let later : k < k + 1 = omega arith in
      record {
        ranges = cc (map-take_set ends_of now k p within, map-take_more ends_of start k d still, ends-range p (get_or start k d) range, h.ranges);
        levels = cc (map-take_set level_of now k p within, map-take_more own start k d still, h.levels, level);
        rest = drop-set-lt (k + 1) now k p later ∙ rest_on;
      }
