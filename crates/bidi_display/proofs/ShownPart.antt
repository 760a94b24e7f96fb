-- The part of a line before the white space and the separators at its end.
use Rattle.bidi_base.proofs.Common.{◌≡◌, ℕ, suc, ◌+◌, ◌-◌, ◌<◌, ◌≤◌, true, false, cond, eqb, ne_eqb, ◌&&◌, All, List, [], ◌∷◌, ◌++◌, length, take, get_or, AnalysedText, IsLine, is_boundary}
use Rattle.bidi_base.proofs.Common.{subst, sym, ap, ◌∙◌, arith, take_more, length-take, get_or-map}
use Rattle.bidi_display.specs.DisplayedLine.{AreClustersFrom}
use Rattle.bidi_display.specs.LineBreaks.{are_white_space, chars_of, hangs, shown_length}
use Rattle.bidi_display.specs.Shown.{CutsNoChar}
use Rattle.bidi_display.specs.declared.line_char.LineChar.{LineChar}
use Rattle.bidi_display.specs.declared.line_cluster.LineCluster.{LineCluster}
use Rattle.bidi_display.proofs.ColumnLemmas.{starts-rise}

-- k is the last one of the first n clusters
pub record IsLastOf (ks : List LineCluster) (n : ℕ) (k : LineCluster) : Type 0 where
  pub within : n - 1 < length ks
  pub place : k ≡ get_or ks (n - 1) k
  pub before : take n ks ≡ take (n - 1) ks ++ k ∷ []

pub is_last_of : (ks found : List LineCluster) (n : ℕ) (k : LineCluster) → 0 < n → n ≤ length ks → found ≡ ks → k ≡ get_or found (n - 1) k → IsLastOf ks n k
is_last_of ks found n k some fits same is =
    let within : n - 1 < length ks = omega arith in
    let place : k ≡ get_or ks (n - 1) k = is ∙ ap (λ xs. get_or xs (n - 1) k) same in
    let next : n ≡ n - 1 + 1 = omega arith in
    record {
      within = within;
      place = place;
      before = ap (λ i. take i ks) next ∙ take_more ks (n - 1) k within ∙ ap (λ x. take (n - 1) ks ++ x ∷ []) (sym place);
    }

module _ (chars : List LineChar) where
  -- one more cluster that is white space
  shown_length-white : (ks : List LineCluster) (k : LineCluster) → hangs chars k ≡ true → shown_length chars (ks ++ k ∷ []) ≡ shown_length chars ks
  shown_length-white [] k white = ap (λ b. cond b 0 1) white
  shown_length-white (x ∷ xs) k white = ap (λ n. cond (eqb n 0 && hangs chars x) 0 (suc n)) (shown_length-white xs k white)

  -- or that is not
  shown_length-other : (ks : List LineCluster) (k : LineCluster) → hangs chars k ≡ false → shown_length chars (ks ++ k ∷ []) ≡ length ks + 1
  shown_length-other [] k other = ap (λ b. cond b 0 1) other
  shown_length-other (x ∷ xs) k other =
      let n = shown_length chars (xs ++ k ∷ []) in
      let more : n ≡ length xs + 1 = shown_length-other xs k other in
      let some : eqb n 0 ≡ false = ne_eqb n 0 (λ e. omega arith) in
      ap (λ b. cond (b && hangs chars x) 0 (suc n)) some ∙ omega arith

  -- the last one of the first n, by its characters
  module _ (ks : List LineCluster) (n : ℕ) (k : LineCluster) (cluster : List LineChar) (last : IsLastOf ks n k) (at : cluster ≡ chars_of chars k) where
    pub shown_length-less : are_white_space cluster ≡ true → shown_length chars (take (n - 1) ks) ≡ shown_length chars (take n ks)
    shown_length-less white =
        sym (ap (shown_length chars) last.before ∙ shown_length-white (take (n - 1) ks) k (sym (ap are_white_space at) ∙ white))

    pub shown_length-all : 0 < n → are_white_space cluster ≡ false → shown_length chars (take n ks) ≡ n
    shown_length-all some other =
        ap (shown_length chars) last.before ∙ shown_length-other (take (n - 1) ks) k (sym (ap are_white_space at) ∙ other)
        ∙ omega (arith, last.within, length-take (n - 1) ks)

-- from the start of the line up to the end of one of its clusters
pub cut-at_end : (a : AnalysedText) (start end : ℕ) (ks : List LineCluster) (i from to : ℕ) (d : LineCluster)
    → AreClustersFrom start end ks → is_boundary a.len_of a.chars start ≡ true → All (CutsNoChar a) ks → i < length ks → from ≡ start → to ≡ (get_or ks i d).end
    → IsLine a.len_of a.chars from to
cut-at_end a start end ks i from to d whole begins cut within is_from is_to =
    let here : CutsNoChar a (get_or ks i d) = cut i d within in
    let first = whole.first (omega arith) in
    let after = starts-rise start end ks whole 0 i i (omega arith) within in
    let starts = get_or-map (λ (k : LineCluster). k.start) ks i d 0 within in
    record {
      ordered = omega (arith, here.ordered, first, after, starts, is_from, is_to);
      begins = subst (λ u. is_boundary a.len_of a.chars u ≡ true) (sym is_from) begins;
      ends = subst (λ u. is_boundary a.len_of a.chars u ≡ true) (sym is_to) here.ends;
    }
