-- A pass over a text that finds its clusters: what one more character does.
use Rattle.bidi_base.proofs.Common.{◌≡◌, ℕ, ◌+◌, ◌-◌, ◌<◌, ◌≤◌, Bool, true, false, List, [], ◌∷◌, ◌++◌, length, take, drop, get_or, reverse, slice_range, Option, Some, None, unwrap_or, inl, inr, refl, sym, ap, ◌∙◌, subst}
use Rattle.bidi_base.proofs.Common.{arith, cases_lt, append-nil, append_assoc, drop-cons, drop-drop, reverse-append, drop_all, take-add}
use Rattle.bidi_base.proofs.TextLemmas.{char_at-end}
use Rattle.bidi_base.proofs.TextUnitIndexes.{unit_index-zero, unit_index-more, unit_index-more-le, unit_index-end, is_boundary-unit_index, char_index-unit_index, unit_index-char_index, char_at-unit_index}
use Rattle.bidi_base.proofs.UnitIndexLemmas.{unit_index-sum}
use Rattle.bidi_base.specs.Text as list
use Rattle.bidi_base.specs.Paragraphs.{ranges_from}
use Rattle.bidi_base.specs.Texts.{Encoding, Text, text_len, unit_index, char_at, char_index, is_boundary}
use Rattle.unicode_segmentation.specs.Grapheme.{is_grapheme_break}
use Rattle.unicode_segmentation.specs.Segments.{Rule, cut, prepend}
use Rattle.bidi_display.specs.ClusterState.{state_after}
use Rattle.bidi_display.specs.Clusters.{clusters, clusters_from, cluster_ranges, cluster_ranges_from, is_cluster_boundary}
use Rattle.bidi_display.specs.ClusterWalk.{IsBegun, IsReadTo}
use Rattle.bidi_display.specs.declared.cluster_state.ClusterState.{ClusterState}
use Rattle.bidi_display.proofs.ClusterCuts.{attach, cut-next}
use Rattle.bidi_display.proofs.StateLemmas.{is_grapheme_break-end}

prepend-attach : (x y : List ℕ) (b : Bool) (ps : List (List ℕ)) → prepend x (attach b y ps) ≡ attach b (x ++ y) ps
prepend-attach x y true ps = refl
prepend-attach x y false [] = refl
prepend-attach x y false (p ∷ ps) = ap (λ t. t ∷ ps) (sym (append_assoc x y p))

cut-cons : (rule : Rule) (before : List ℕ) (c : ℕ) (cs : List ℕ) → cut rule before (c ∷ cs) [] ≡ attach (rule (c ∷ before) cs) (c ∷ []) (cut rule (c ∷ before) cs [])
cut-cons rule before c cs = cut-next rule before c cs [] ∙ ap (λ ds. attach (rule (c ∷ before) ds) (c ∷ []) (cut rule (c ∷ before) cs [])) (append-nil cs)

-- ---- characters

-- the characters before the (k + 1)-th, nearest first
pub reverse-take-more : (chars : List ℕ) (k c : ℕ) → drop k chars ≡ c ∷ drop (k + 1) chars → reverse (take (k + 1) chars) ≡ c ∷ reverse (take k chars)
reverse-take-more chars k c next =
    let more : take (k + 1) chars ≡ take k chars ++ c ∷ [] = take-add k 1 chars ∙ ap (λ t. take k chars ++ take 1 t) next in
    ap reverse more ∙ reverse-append (take k chars) (c ∷ [])

pub slice_range-first : {A : Type 0} (chars : List A) (k : ℕ) (c : A) → drop k chars ≡ c ∷ drop (k + 1) chars → slice_range chars k (k + 1) ≡ c ∷ []
slice_range-first chars k c next =
    let one : (k + 1) - k ≡ 1 = omega arith in
    ap (λ n. take n (drop k chars)) one ∙ ap (take 1) next

pub slice_range-more : {A : Type 0} (chars : List A) (k m : ℕ) (c : A) → k ≤ m → drop m chars ≡ c ∷ drop (m + 1) chars → slice_range chars k (m + 1) ≡ slice_range chars k m ++ c ∷ []
slice_range-more chars k m c le next =
    let more : (m + 1) - k ≡ (m - k) + 1 = omega arith in
    let there : k + (m - k) ≡ m = omega arith in
    ap (λ n. take n (drop k chars)) more ∙ take-add (m - k) 1 (drop k chars)
    ∙ ap (λ t. slice_range chars k m ++ take 1 t) (drop-drop (m - k) k chars ∙ ap (λ n. drop n chars) there ∙ next)

-- the clusters from the k-th character on, if it is c
clusters_from-next : (chars : List ℕ) (k c : ℕ) → drop k chars ≡ c ∷ drop (k + 1) chars → clusters_from chars k ≡ attach (is_cluster_boundary chars (k + 1)) (c ∷ []) (clusters_from chars (k + 1))
unfolding clusters_from
clusters_from-next chars k c next =
    rw (next, cut-cons (is_grapheme_break true) (reverse (take k chars)) c (drop (k + 1) chars), ← reverse-take-more chars k c next) refl

clusters_from-end : (chars : List ℕ) (k : ℕ) → length chars ≤ k → clusters_from chars k ≡ []
unfolding clusters_from cut
clusters_from-end chars k past = rw (drop_all k chars past) refl

pub is_cluster_boundary-end : (chars : List ℕ) (k : ℕ) → length chars ≤ k → is_cluster_boundary chars k ≡ true
is_cluster_boundary-end chars k past = rw (drop_all k chars past) (is_grapheme_break-end (reverse (take k chars)))

-- ---- the start of a cluster

IsBegun-first : (chars : List ℕ) (k c : ℕ) → k < length chars → drop k chars ≡ c ∷ drop (k + 1) chars → IsBegun chars k (k + 1)
IsBegun-first chars k c within next = record {
  some = omega arith;
  within = omega arith;
  joined = clusters_from-next chars k c next ∙ ap (λ s. attach (is_cluster_boundary chars (k + 1)) s (clusters_from chars (k + 1))) (sym (slice_range-first chars k c next));
}

IsBegun-more : (chars : List ℕ) (k m c : ℕ) → IsBegun chars k m → m < length chars → drop m chars ≡ c ∷ drop (m + 1) chars → is_cluster_boundary chars m ≡ false → IsBegun chars k (m + 1)
IsBegun-more chars k m c begun within next joins =
    let le : k ≤ m = omega (arith, begun.some) in
    record {
      some = omega (arith, begun.some);
      within = omega arith;
      joined = begun.joined ∙ ap (λ b. attach b (slice_range chars k m) (clusters_from chars m)) joins
          ∙ ap (prepend (slice_range chars k m)) (clusters_from-next chars m c next)
          ∙ prepend-attach (slice_range chars k m) (c ∷ []) (is_cluster_boundary chars (m + 1)) (clusters_from chars (m + 1))
          ∙ ap (λ s. attach (is_cluster_boundary chars (m + 1)) s (clusters_from chars (m + 1))) (sym (slice_range-more chars k m c le next));
    }

IsBegun-done : (chars : List ℕ) (k m : ℕ) → IsBegun chars k m → is_cluster_boundary chars m ≡ true → clusters_from chars k ≡ slice_range chars k m ∷ clusters_from chars m
IsBegun-done chars k m begun done = begun.joined ∙ ap (λ b. attach b (slice_range chars k m) (clusters_from chars m)) done

-- ---- code units

-- the character c begins at the index u, and is `len` code units long
pub record IsCharAt {e : Encoding} (text : Text e) (u c len : ℕ) : Type 0 where
  pub within : char_index text u < length text.chars
  pub next : drop (char_index text u) text.chars ≡ c ∷ drop (char_index text u + 1) text.chars
  pub boundary : is_boundary text (u + len) ≡ true
  pub index : char_index text (u + len) ≡ char_index text u + 1
  pub fits : u + len ≤ text_len text
  pub grows : 1 ≤ len

module _ {e : Encoding} (text : Text e) where
  char_index-within : (u c len : ℕ) → is_boundary text u ≡ true → Some (c, len) ≡ char_at text u → char_index text u < length text.chars
  char_index-within u c len at read = elim (cases_lt (char_index text u) (length text.chars)) [
    | inl lt ↦ lt
    | inr past ↦
        let end : text_len text ≤ u = omega (arith, unit_index-end text (char_index text u) past, unit_index-char_index text u at) in
        absurd (cc (read, char_at-end e.len_of e.positive text.chars u end))
  ]

  pub is_char_at : (u c len : ℕ) → is_boundary text u ≡ true → Some (c, len) ≡ char_at text u → IsCharAt text u c len
  is_char_at u c len at read =
      let k = char_index text u in
      let d = get_or text.chars k 0 in
      let within = char_index-within u c len at read in
      let here = unit_index-char_index text u at in
      let found = read ∙ ap (char_at text) (sym here) ∙ char_at-unit_index text k 0 within in
      let is_char : c ≡ d = ap (λ (o : Option (ℕ × ℕ)). (unwrap_or o (c, len)).0) found in
      let is_len : len ≡ e.len_of d = ap (λ (o : Option (ℕ × ℕ)). (unwrap_or o (c, len)).1) found in
      let after : u + len ≡ unit_index text (k + 1) = omega (arith, here, is_len, unit_index-more text k 0 within) in
      record {
        within = within;
        next = grind (arith, drop-cons text.chars k 0 within, is_char);
        boundary = ap (is_boundary text) after ∙ is_boundary-unit_index text (k + 1);
        index = ap (char_index text) after ∙ char_index-unit_index text (k + 1) (omega (arith, within));
        fits = omega (arith, here, is_len, unit_index-more-le text k 0 within);
        grows = omega (arith, is_len, e.positive d);
      }

  -- where no character begins, all characters were read
  pub char_index-end : (u : ℕ) → is_boundary text u ≡ true → None ≡ char_at text u → length text.chars ≤ char_index text u
  char_index-end u at read = elim (cases_lt (char_index text u) (length text.chars)) [
    | inl lt ↦ absurd (cc (read, ap (char_at text) (sym (unit_index-char_index text u at)), char_at-unit_index text (char_index text u) 0 lt))
    | inr past ↦ past
  ]

  -- and the index is the text's length
  pub text_len-end : (u : ℕ) → is_boundary text u ≡ true → None ≡ char_at text u → u ≡ text_len text
  text_len-end u at read = sym (unit_index-char_index text u at) ∙ unit_index-end text (char_index text u) (char_index-end u at read)

  char_index-text_len : char_index text (text_len text) ≡ length text.chars
  char_index-text_len =
      let n = length text.chars in
      ap (char_index text) (sym (unit_index-end text n (omega arith))) ∙ char_index-unit_index text n (omega arith)

  -- at the start
  pub boundary_zero : is_boundary text 0 ≡ true
  boundary_zero = ap (is_boundary text) (sym (unit_index-zero text)) ∙ is_boundary-unit_index text 0

  pub char_index-zero : char_index text 0 ≡ 0
  char_index-zero = ap (char_index text) (sym (unit_index-zero text)) ∙ char_index-unit_index text 0 (omega arith)

  pub cluster_ranges_from-zero : cluster_ranges_from text 0 ≡ cluster_ranges text
  unfolding clusters_from clusters
  cluster_ranges_from-zero = ap (λ k. ranges_from e.len_of 0 (clusters_from text.chars k)) char_index-zero

  -- ---- a pass

  -- the characters before an index, nearest first
  abbrev before : ℕ → List ℕ
  before u = reverse (take (char_index text u) text.chars)

  state_past : (u c len : ℕ) (state : ClusterState) → IsCharAt text u c len → state ≡ state_after (c ∷ before u) → state ≡ state_after (before (u + len))
  state_past u c len state w is =
      is ∙ ap state_after (sym (reverse-take-more text.chars (char_index text u) c w.next)) ∙ ap (λ m. state_after (reverse (take m text.chars))) (sym w.index)

  -- the first character of a cluster was read
  pub IsReadTo-first : (u c len at : ℕ) (new state : ClusterState) → is_boundary text u ≡ true → IsCharAt text u c len → new ≡ state_after (c ∷ before u)
      → at ≡ u + len → state ≡ new → IsReadTo text u at state
  IsReadTo-first u c len at new state begins w is place same = record {
    begins = begins;
    ends = ap (is_boundary text) place ∙ w.boundary;
    begun = subst (λ m. IsBegun text.chars (char_index text u) m) (sym (ap (char_index text) place ∙ w.index)) (IsBegun-first text.chars (char_index text u) c w.within w.next);
    reads = same ∙ state_past u c len new w is ∙ ap (λ v. state_after (before v)) (sym place);
  }

  pub IsReadTo-start : (c len at : ℕ) (new state : ClusterState) → Some (c, len) ≡ char_at text 0 → new ≡ state_after (c ∷ []) → at ≡ len → state ≡ new → IsReadTo text 0 at state
  IsReadTo-start c len at new state read is place same =
      let none : before 0 ≡ [] = ap (λ k. reverse (take k text.chars)) char_index-zero in
      IsReadTo-first 0 c len at new state boundary_zero (is_char_at 0 c len boundary_zero read) (is ∙ ap (λ xs. state_after (c ∷ xs)) (sym none)) (omega arith) same

  pub IsReadTo-more : (start u c len : ℕ) (old state : ClusterState) → IsReadTo text start u old → IsCharAt text u c len → is_cluster_boundary text.chars (char_index text u) ≡ false
      → state ≡ state_after (c ∷ before u) → IsReadTo text start (u + len) state
  IsReadTo-more start u c len old state h w joins is = record {
    begins = h.begins;
    ends = w.boundary;
    begun = subst (λ m. IsBegun text.chars (char_index text start) m) (sym w.index)
        (IsBegun-more text.chars (char_index text start) (char_index text u) c h.begun w.within w.next joins);
    reads = state_past u c len state w is;
  }

  -- what `read` returns says whether a cluster begins
  pub boundary_read : (u c len : ℕ) (old : ClusterState) (begins : Bool) → IsCharAt text u c len → old ≡ state_after (before u)
      → ((xs ys : List ℕ) → old ≡ state_after xs → begins ≡ is_grapheme_break true xs (c ∷ ys)) → is_cluster_boundary text.chars (char_index text u) ≡ begins
  boundary_read u c len old begins w is reads =
      ap (is_grapheme_break true (before u)) w.next ∙ sym (reads (before u) (drop (char_index text u + 1) text.chars) is)

  pub cluster_ranges_from-next : (start u : ℕ) (state : ClusterState) → IsReadTo text start u state → is_cluster_boundary text.chars (char_index text u) ≡ true
      → cluster_ranges_from text start ≡ (start, u) ∷ cluster_ranges_from text u
  cluster_ranges_from-next start u state h done =
      let k = char_index text start in
      let m = char_index text u in
      let long : start + list.text_len e.len_of (slice_range text.chars k m) ≡ u =
      omega (arith, unit_index-char_index text start h.begins, unit_index-char_index text u h.ends, unit_index-sum e.len_of text.chars k m (omega (arith, h.begun.some)) (omega (arith, h.begun.some, h.begun.within))) in
      ap (ranges_from e.len_of start) (IsBegun-done text.chars k m h.begun done) ∙ ap (λ v. (start, v) ∷ ranges_from e.len_of v (clusters_from text.chars m)) long

  -- at the end of the text no cluster is left
  pub cluster_ranges_from-end : (u : ℕ) → u ≡ text_len text → cluster_ranges_from text u ≡ []
  cluster_ranges_from-end u end =
      let k : char_index text u ≡ length text.chars = ap (char_index text) end ∙ char_index-text_len in
      ap (ranges_from e.len_of u) (clusters_from-end text.chars (char_index text u) (omega arith))
