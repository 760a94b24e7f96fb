-- A pass over the characters of a line that finds its clusters: what one more character does.
use Rattle.bidi_base.proofs.Common.{◌≡◌, ℕ, ◌+◌, ◌-◌, ◌<◌, ◌≤◌, Bool, true, false, cond, not, ◌==◌, List, [], ◌∷◌, ◌++◌, length, map, drop, get_or, slice_range, subst, take_all, suc, inl, inr, refl, sym, ap, ◌∙◌, arith, nat_tests, cases_Bool, cases_lt, append-nil, append_assoc, drop-drop, drop_all, length-take, length-drop, onto_first}
use Rattle.unicode_segmentation.specs.Grapheme.{is_grapheme_break}
use Rattle.bidi_base.specs.Classes.{is_removed}
use Rattle.bidi_display.specs.DisplayedLine.{add_columns, cluster_end, cluster_of, cluster_start, cluster_width, clusters_from, clusters_of, tab_columns, width_at}
use Rattle.bidi_display.specs.Grouping.{IsFoundPast, IsFoundTo, IsReadTo, prepend}
use Rattle.bidi_display.specs.ClusterState.{is_plain}
use Rattle.bidi_display.specs.Joining.{IsCluster, begins_simple, is_simple, joining_after}
use Rattle.bidi_display.specs.LineClusters.{begins_cluster, cluster_level, clusters_after, displayed_chars, is_direction_control, is_dropped, joins, line_clusters}
use Rattle.bidi_display.specs.declared.grouping.Joining.{Joining}
use Rattle.bidi_display.specs.declared.line_char.LineChar.{LineChar}
use Rattle.bidi_display.specs.declared.line_cluster.LineCluster.{LineCluster}
use Rattle.bidi_display.specs.declared.options.DisplayOptions.{DisplayOptions}
use Rattle.bidi_display.specs.declared.options.Moves.{Moves}
use Rattle.bidi_display.specs.declared.options.Moves.TheVariants.{Characters, Marks, Clusters}
use Rattle.bidi_display.specs.declared.options.Dropped.{Dropped}
use Rattle.bidi_display.specs.declared.options.Dropped.TheVariants.{Nothing, Controls, ControlsAndBoundaryNeutrals}
use Rattle.bidi_display.proofs.GroupingLemmas.{cluster_level-found, cluster_level-none, drop-item, level_char-kept, level_char-removed}
use Rattle.bidi_display.proofs.StateLemmas.{is_grapheme_break-plains}
use Rattle.bidi_display.proofs.ClusterWalk.{slice_range-first, slice_range-more}

-- ---- lists

-- a part before the clusters, as a cluster of its own or as the front of the first
abbrev attach : Bool → List LineChar → List (List LineChar) → List (List LineChar)
attach begins part clusters = cond begins (part ∷ clusters) (prepend part clusters)

prepend-one : (c : LineChar) (ks : List (List LineChar)) → onto_first c ks ≡ prepend (c ∷ []) ks
prepend-one c [] = refl
prepend-one c (k ∷ ks) = refl

prepend-onto_first : (part : List LineChar) (c : LineChar) (ks : List (List LineChar)) → prepend part (onto_first c ks) ≡ prepend (part ++ c ∷ []) ks
prepend-onto_first part c [] = refl
prepend-onto_first part c (k ∷ ks) = ap (λ t. t ∷ ks) (sym (append_assoc part (c ∷ []) k))

prepend-next : (part : List LineChar) (c : LineChar) (b : Bool) (ks : List (List LineChar)) → prepend part (cond b ((c ∷ []) ∷ ks) (onto_first c ks)) ≡ attach b (part ++ c ∷ []) ks
prepend-next part c true ks = refl
prepend-next part c false ks = prepend-onto_first part c ks

-- what follows a character
pub drop-next : (chars : List LineChar) (k : ℕ) (c : LineChar) (rest : List LineChar) → drop k chars ≡ c ∷ rest → drop k chars ≡ c ∷ drop (k + 1) chars
drop-next chars k c rest e = e ∙ ap (λ r. c ∷ r) (sym (ap (drop 1) e) ∙ drop-drop 1 k chars)

-- the i-th of the characters from the k-th on
pub drop-item-past : (chars : List LineChar) (k i : ℕ) (c : LineChar) → i < length (slice_range chars k (length chars)) → c ≡ get_or (slice_range chars k (length chars)) i c
    → drop (k + i) chars ≡ c ∷ drop (k + i + 1) chars
drop-item-past chars k i c within is =
    let rest : slice_range chars k (length chars) ≡ drop k chars = take_all (length chars - k) (drop k chars) (omega (arith, length-drop k chars)) in
    let item = drop-item (drop k chars) i c (subst (λ cs. i < length cs) rest within) (subst (λ cs. c ≡ get_or cs i c) rest is) in
    drop-next chars (k + i) c (drop (i + 1) (drop k chars)) (sym (drop-drop i k chars) ∙ item)

pub slice_range-end : (chars : List LineChar) (k m : ℕ) → k ≤ m → m ≤ length chars → k + length (slice_range chars k m) ≡ m
slice_range-end chars k m le within = omega (arith, length-take (m - k) (drop k chars), length-drop k chars)

-- ---- the start of a line

joins-start : (moves : Moves) (c : LineChar) → joins moves [] c ≡ false
unfolding is_grapheme_break
joins-start Characters c = refl
joins-start Marks c = refl
joins-start Clusters c = refl

-- lists that are equal begin with the same
first-of : (c d : LineChar) (rest : List LineChar) → c ∷ rest ≡ d ∷ rest → c ≡ d
first-of c d rest e = ap (λ cs. get_or cs 0 c) e

-- ---- simple characters

-- the character at an index, whatever stands for one past the end
pub simple-item : (chars : List LineChar) (k : ℕ) (c d : LineChar) → k < length chars → c ≡ get_or chars k c → d ≡ get_or chars k d → is_simple c ≡ true → is_simple d ≡ true
simple-item chars k c d within is_c is_d simple =
    let same : c ≡ d = first-of c d (drop (k + 1) chars) (sym (drop-item chars k c within is_c) ∙ drop-item chars k d within is_d) in
    sym (ap is_simple same) ∙ simple

simple-plain : (c : LineChar) → is_simple c ≡ true → is_plain c.char ≡ true
simple-plain c e = grind (arith, e)

-- one is displayed
plain-no_control : (c : ℕ) → is_plain c ≡ true → is_direction_control c ≡ false
plain-no_control c e = grind (arith, nat_tests, e)

simple-shown : (dropped : Dropped) (c : LineChar) → is_simple c ≡ true → is_dropped dropped c ≡ false
simple-shown Nothing c e = refl
simple-shown Controls c e = plain-no_control c.char (simple-plain c e)
simple-shown ControlsAndBoundaryNeutrals c e = grind (arith, plain-no_control c.char (simple-plain c e), e)

-- two do not join
simple-apart : (moves : Moves) (before : List LineChar) (c d : LineChar) → is_simple c ≡ true → is_simple d ≡ true → joins moves (c ∷ before) d ≡ false
simple-apart Characters before c d p q = refl
simple-apart Marks before c d p q = grind (arith, q)
simple-apart Clusters before c d p q = ap not (is_grapheme_break-plains (map (λ b. b.char) before) [] c.char d.char (simple-plain c p) (simple-plain d q))

module _ (options : DisplayOptions) where
  -- ---- one character

  begins_cluster-shown : (before cs : List LineChar) (c : LineChar) → is_dropped options.dropped c ≡ false → begins_cluster options before (c ∷ cs) ≡ not (joins options.moves before c)
  begins_cluster-shown before cs c shown = ap (λ b. cond b (begins_cluster options before cs) (not (joins options.moves before c))) shown

  begins_cluster-hidden : (before cs : List LineChar) (c : LineChar) → is_dropped options.dropped c ≡ true → begins_cluster options before (c ∷ cs) ≡ begins_cluster options before cs
  begins_cluster-hidden before cs c hidden = ap (λ b. cond b (begins_cluster options before cs) (not (joins options.moves before c))) hidden

  -- the clusters from a character on, after these displayed characters are read
  abbrev with_first : List LineChar → List LineChar → LineChar → List (List LineChar)
  with_first read cs c = cond (begins_cluster options read cs) ((c ∷ []) ∷ clusters_after options read cs) (onto_first c (clusters_after options read cs))

  clusters_after-shown : (before cs : List LineChar) (c : LineChar) → is_dropped options.dropped c ≡ false → clusters_after options before (c ∷ cs) ≡ with_first (c ∷ before) cs c
  clusters_after-shown before cs c shown = ap (λ b. with_first (cond b before (c ∷ before)) cs c) shown

  clusters_after-hidden : (before cs : List LineChar) (c : LineChar) → is_dropped options.dropped c ≡ true → clusters_after options before (c ∷ cs) ≡ with_first before cs c
  clusters_after-hidden before cs c hidden = ap (λ b. with_first (cond b before (c ∷ before)) cs c) hidden

  with_first-part : (read cs : List LineChar) (c : LineChar) → with_first read cs c ≡ attach (begins_cluster options read cs) (c ∷ []) (clusters_after options read cs)
  with_first-part read cs c = ap (λ ks. cond (begins_cluster options read cs) ((c ∷ []) ∷ clusters_after options read cs) ks) (prepend-one c (clusters_after options read cs))

  begins_cluster-start : (chars : List LineChar) → begins_cluster options [] chars ≡ true
  begins_cluster-start [] = refl
  begins_cluster-start (c ∷ cs) = elim (cases_Bool (is_dropped options.dropped c)) [
    | inl hidden ↦ begins_cluster-hidden [] cs c hidden ∙ begins_cluster-start cs
    | inr shown ↦ begins_cluster-shown [] cs c shown ∙ ap not (joins-start options.moves c)
  ]

  -- ---- a cluster

  module _ (chars : List LineChar) (from : ℕ) (before : List LineChar) where
    -- where the clusters were found up to a displayed character, as `IsReadTo` has it
    read_to : (read : List LineChar) (at : ℕ) (joining : Joining) → joining ≡ joining_after options.moves read
        → clusters_after options before (drop from chars) ≡ attach (begins_cluster options read (drop at chars)) (slice_range chars from at) (clusters_after options read (drop at chars))
        → IsReadTo options chars from before at at joining
    read_to read at joining reads joined = record {
      read = read;
      reads = reads;
      same = refl;
      ends = λ b. joined ∙ ap (λ x. attach x (slice_range chars from at) (clusters_after options read (drop at chars))) b;
      goes_on = λ b. joined ∙ ap (λ x. attach x (slice_range chars from at) (clusters_after options read (drop at chars))) b;
    }

    -- the first character was read
    pub IsReadTo-first : (c : LineChar) (joining : Joining) → drop from chars ≡ c ∷ drop (from + 1) chars → is_dropped options.dropped c ≡ false
        → joining ≡ joining_after options.moves (c ∷ before) → IsReadTo options chars from before (from + 1) (from + 1) joining
    IsReadTo-first c joining next shown reads =
        let rest = drop (from + 1) chars in
        let read = c ∷ before in
        read_to read (from + 1) joining reads
        (ap (clusters_after options before) next ∙ clusters_after-shown before rest c shown ∙ with_first-part read rest c
        ∙ ap (λ s. attach (begins_cluster options read rest) s (clusters_after options read rest)) (sym (slice_range-first chars from c next)))

    -- the next character is dropped
    pub IsReadTo-hidden : (end at : ℕ) (c : LineChar) (joining : Joining) → IsReadTo options chars from before end at joining → from ≤ at → drop at chars ≡ c ∷ drop (at + 1) chars
        → is_dropped options.dropped c ≡ true → IsReadTo options chars from before end (at + 1) joining
    IsReadTo-hidden end at c joining h le next hidden =
        let rest = drop (at + 1) chars in
        let part = slice_range chars from at in
        let step : begins_cluster options h.read (drop at chars) ≡ begins_cluster options h.read rest = ap (begins_cluster options h.read) next ∙ begins_cluster-hidden h.read rest c hidden in
        record {
          read = h.read;
          reads = h.reads;
          same = h.same ∙ step;
          ends = λ b. h.ends (step ∙ b);
          goes_on = λ b. h.goes_on (step ∙ b) ∙ ap (λ cs. prepend part (clusters_after options h.read cs)) next
              ∙ ap (prepend part) (clusters_after-hidden h.read rest c hidden) ∙ prepend-next part c (begins_cluster options h.read rest) (clusters_after options h.read rest)
              ∙ ap (λ x. attach x (part ++ c ∷ []) (clusters_after options h.read rest)) b
              ∙ ap (λ s. prepend s (clusters_after options h.read rest)) (sym (slice_range-more chars from at c le next));
        }

    begins_at : (end at : ℕ) (c : LineChar) (joining : Joining) (h : IsReadTo options chars from before end at joining) (b : Bool) → drop at chars ≡ c ∷ drop (at + 1) chars
        → is_dropped options.dropped c ≡ false → joins options.moves h.read c ≡ b → begins_cluster options h.read (drop at chars) ≡ not b
    begins_at end at c joining h b next shown is = ap (begins_cluster options h.read) next ∙ begins_cluster-shown h.read (drop (at + 1) chars) c shown ∙ ap not is

    -- it is displayed, and joins
    pub IsReadTo-joined : (end at : ℕ) (c : LineChar) (joining new : Joining) (h : IsReadTo options chars from before end at joining) → from ≤ at → drop at chars ≡ c ∷ drop (at + 1) chars
        → is_dropped options.dropped c ≡ false → joins options.moves h.read c ≡ true → new ≡ joining_after options.moves (c ∷ h.read) → IsReadTo options chars from before (at + 1) (at + 1) new
    IsReadTo-joined end at c joining new h le next shown joined reads =
        let rest = drop (at + 1) chars in
        let part = slice_range chars from at in
        let read = c ∷ h.read in
        read_to read (at + 1) new reads
        (h.goes_on (begins_at end at c joining h true next shown joined) ∙ ap (λ cs. prepend part (clusters_after options h.read cs)) next
        ∙ ap (prepend part) (clusters_after-shown h.read rest c shown) ∙ prepend-next part c (begins_cluster options read rest) (clusters_after options read rest)
        ∙ ap (λ s. attach (begins_cluster options read rest) s (clusters_after options read rest)) (sym (slice_range-more chars from at c le next)))

    pub IsReadTo-same : (end end' at at' : ℕ) (joining joining' : Joining) → end' ≡ end → at' ≡ at → joining' ≡ joining → IsReadTo options chars from before end at joining
        → IsReadTo options chars from before end' at' joining'
    IsReadTo-same end end' at at' joining joining' e a j h =
        subst (λ m. IsReadTo options chars from before m at' joining') (sym e)
        (subst (λ m. IsReadTo options chars from before end m joining') (sym a) (subst (λ s. IsReadTo options chars from before end at s) (sym j) h))

    is_cluster : (end at : ℕ) (joining : Joining) (h : IsReadTo options chars from before end at joining) → begins_cluster options h.read (drop at chars) ≡ true → IsCluster options chars from before end joining
    is_cluster end at joining h b = record { read = h.read; cluster = h.ends b; begins = h.same ∙ b; reads = h.reads }

    -- it is displayed, and does not join
    pub IsCluster-done : (end at : ℕ) (c : LineChar) (joining : Joining) (h : IsReadTo options chars from before end at joining) → drop at chars ≡ c ∷ drop (at + 1) chars
        → is_dropped options.dropped c ≡ false → joins options.moves h.read c ≡ false → IsCluster options chars from before end joining
    IsCluster-done end at c joining h next shown apart = is_cluster end at joining h (begins_at end at c joining h false next shown apart)

    -- there is none
    pub IsCluster-end : (end at : ℕ) (joining : Joining) → IsReadTo options chars from before end at joining → length chars ≤ at → IsCluster options chars from before end joining
    IsCluster-end end at joining h past = is_cluster end at joining h (ap (begins_cluster options h.read) (drop_all at chars past))

    -- a dropped character that begins a cluster is a cluster
    pub IsCluster-hidden : (c : LineChar) (joining : Joining) → drop from chars ≡ c ∷ drop (from + 1) chars → is_dropped options.dropped c ≡ true
        → joining ≡ joining_after options.moves before → begins_cluster options before (drop from chars) ≡ true → IsCluster options chars from before (from + 1) joining
    IsCluster-hidden c joining next hidden reads begins =
        let rest = drop (from + 1) chars in
        let b : begins_cluster options before rest ≡ true = sym (ap (begins_cluster options before) next ∙ begins_cluster-hidden before rest c hidden) ∙ begins in
        record {
          read = before;
          cluster = ap (clusters_after options before) next ∙ clusters_after-hidden before rest c hidden
              ∙ ap (λ x. cond x ((c ∷ []) ∷ clusters_after options before rest) (onto_first c (clusters_after options before rest))) b
              ∙ ap (λ s. s ∷ clusters_after options before rest) (sym (slice_range-first chars from c next));
          begins = b;
          reads = reads;
        }

    begins_cluster-simple : (c : LineChar) (rest : List LineChar) → is_simple c ≡ true → begins_simple rest ≡ true → begins_cluster options (c ∷ before) rest ≡ true
    begins_cluster-simple c [] simple follows = refl
    begins_cluster-simple c (d ∷ rest) simple follows =
        begins_cluster-shown (c ∷ before) rest d (simple-shown options.dropped d follows) ∙ ap not (simple-apart options.moves before c d simple follows)

    -- a simple character before another is a cluster
    pub IsCluster-simple : (c : LineChar) → drop from chars ≡ c ∷ drop (from + 1) chars → is_simple c ≡ true → begins_simple (drop (from + 1) chars) ≡ true
        → IsCluster options chars from before (from + 1) (joining_after options.moves (c ∷ before))
    IsCluster-simple c next simple follows =
        let rest = drop (from + 1) chars in
        let read = c ∷ before in
        let b = begins_cluster-simple c rest simple follows in
        record {
          read = read;
          cluster = ap (clusters_after options before) next ∙ clusters_after-shown before rest c (simple-shown options.dropped c simple)
              ∙ ap (λ x. cond x ((c ∷ []) ∷ clusters_after options read rest) (onto_first c (clusters_after options read rest))) b
              ∙ ap (λ s. s ∷ clusters_after options read rest) (sym (slice_range-first chars from c next));
          begins = b;
          reads = refl;
        }

  -- ---- the clusters

  module _ (width_of : List ℕ → ℕ) where
    simple-level : (c : LineChar) → is_simple c ≡ true → c.level ≡ cluster_level options (c ∷ [])
    simple-level c e =
        let shown = simple-shown options.dropped c e in
        elim (cases_Bool (is_removed c.class)) [
          | inl removed ↦ cluster_level-none options (c ∷ []) c (omega arith) (level_char-removed options [] c shown removed)
          | inr kept ↦ cluster_level-found options (c ∷ []) c (level_char-kept options [] c shown kept)
        ]

    simple-displayed : (c : LineChar) → is_simple c ≡ true → displayed_chars options (c ∷ []) ≡ c ∷ []
    simple-displayed c e = ap (λ b. cond (not b) (c ∷ []) []) (simple-shown options.dropped c e)

    width_at-plain : (column c : ℕ) → is_plain c ≡ true → width_at options width_of column (c ∷ []) ≡ width_of (c ∷ [])
    width_at-plain column c e = let no_tab : (c == 0x09) ≡ false = grind (arith, nat_tests, e) in ap (λ b. cond b (cond (options.tab == 0) (width_of (c ∷ [])) (tab_columns options.tab column)) (width_of (c ∷ []))) no_tab

    -- the cluster of a simple character
    pub is_cluster_of-simple : (at column : ℕ) (c : LineChar) (width : ℕ) → is_simple c ≡ true → width ≡ width_of (c.char ∷ [])
        → ◌≡◌ {A = LineCluster} (record { start = c.start; end = c.end; chars_start = at; chars_end = at + 1; level = c.level; width = width }) (cluster_of options width_of at column (c ∷ []))
    is_cluster_of-simple at column c width e is =
        let level = simple-level c e in
        let wide : width ≡ cluster_width options width_of column (c ∷ []) =
        is ∙ sym (width_at-plain column c.char (simple-plain c e)) ∙ ap (λ cs. width_at options width_of column (map (λ d. d.char) cs)) (sym (simple-displayed c e)) in
        λ i. record { start = c.start; end = c.end; chars_start = at; chars_end = at + 1; level = level i; width = wide i }

    cluster_start-first : (cluster : List LineChar) (d : LineChar) → 0 < length cluster → (get_or cluster 0 d).start ≡ cluster_start options width_of cluster
    cluster_start-first [] d some = absurd (omega arith)
    cluster_start-first (c ∷ cs) d some = refl

    cluster_end-last : (cluster : List LineChar) (d : LineChar) → 0 < length cluster → (get_or cluster (length cluster - 1) d).end ≡ cluster_end options width_of cluster
    cluster_end-last [] d some = absurd (omega arith)
    cluster_end-last (c ∷ []) d some = refl
    cluster_end-last (c ∷ b ∷ cs) d some =
        let last : length (c ∷ b ∷ cs) - 1 ≡ suc (length (b ∷ cs) - 1) = omega arith in
        ap (λ k. (get_or (c ∷ b ∷ cs) k d).end) last ∙ cluster_end-last (b ∷ cs) d (omega arith)

    -- the cluster of these characters, by its parts
    pub is_cluster_of : (at end column : ℕ) (chars : List LineChar) (d e : LineChar) (level width : ℕ) (displayed : List ℕ) → at < end → end ≤ length chars → level ≡ cluster_level options (slice_range chars at end)
        → displayed ≡ map (λ c. c.char) (displayed_chars options (slice_range chars at end)) → width ≡ width_at options width_of column displayed
        → ◌≡◌ {A = LineCluster} (record {
          start = (get_or (slice_range chars at end) 0 d).start;
          end = (get_or (slice_range chars at end) (length (slice_range chars at end) - 1) e).end;
          chars_start = at;
          chars_end = end;
          level = level;
          width = width;
        }) (cluster_of options width_of at column (slice_range chars at end))
    is_cluster_of at end column chars d e level width displayed some within of_level of_text of_width =
        let cluster = slice_range chars at end in
        let long : at + length cluster ≡ end = slice_range-end chars at end (omega arith) within in
        let not_empty : 0 < length cluster = omega arith in
        let first = cluster_start-first cluster d not_empty in
        let last = cluster_end-last cluster e not_empty in
        let wide : width ≡ cluster_width options width_of column cluster = of_width ∙ ap (width_at options width_of column) of_text in
        λ i. record { start = first i; end = last i; chars_start = at; chars_end = sym long i; level = of_level i; width = wide i }

  module _ (width_of : List ℕ → ℕ) (chars : List LineChar) where
    pub IsFoundTo-start : (joining : Joining) (found : List LineCluster) → joining ≡ joining_after options.moves [] → found ≡ [] → IsFoundTo options width_of chars 0 0 joining found
    unfolding clusters_of line_clusters
    IsFoundTo-start joining found reads none = record {
      read = [];
      reads = reads;
      begins = begins_cluster-start chars;
      all = ap (λ ks. ks ++ clusters_from options width_of 0 0 (clusters_after options [] chars)) none;
    }

    -- one more cluster
    pub IsFoundTo-more : (from end column after : ℕ) (joining new : Joining) (found more : List LineCluster) (k : LineCluster) (h : IsFoundTo options width_of chars from column joining found)
        → IsCluster options chars from h.read end new → from ≤ end → end ≤ length chars → k ≡ cluster_of options width_of from column (slice_range chars from end)
        → after ≡ add_columns column k.width → more ≡ found ++ k ∷ [] → IsFoundTo options width_of chars end after new more
    IsFoundTo-more from end column after joining new found more k h w le within is at is_more =
        let cluster = slice_range chars from end in
        let rest = clusters_after options w.read (drop end chars) in
        let here : clusters_from options width_of from column (clusters_after options h.read (drop from chars)) ≡ k ∷ clusters_from options width_of end after rest =
        ap (clusters_from options width_of from column) w.cluster
        ∙ ap (λ m. cluster_of options width_of from column cluster ∷ clusters_from options width_of m (add_columns column (cluster_width options width_of column cluster)) rest) (slice_range-end chars from end le within)
        ∙ ap (λ (x : LineCluster). x ∷ clusters_from options width_of end (add_columns column x.width) rest) (sym is)
        ∙ ap (λ n. k ∷ clusters_from options width_of end n rest) (sym at) in
        record {
          read = w.read;
          reads = w.reads;
          begins = w.begins;
          all = ap (λ ks. ks ++ clusters_from options width_of end after rest) is_more ∙ append_assoc found (k ∷ []) (clusters_from options width_of end after rest)
              ∙ ap (λ ks. found ++ ks) (sym here) ∙ h.all;
        }

    pub IsFoundPast-none : (from column : ℕ) (joining : Joining) (found : List LineCluster) → IsFoundTo options width_of chars from column joining found → IsFoundPast options width_of chars from from column joining found
    IsFoundPast-none from column joining found start = record { none = λ _. start; some = λ some. absurd (omega (arith, some)) }

    -- one more simple character
    pub IsFoundPast-more : (from at column after : ℕ) (joining : Joining) (found more : List LineCluster) (k : LineCluster) (c : LineChar) → IsFoundPast options width_of chars from at column joining found
        → from ≤ at → at < length chars → drop at chars ≡ c ∷ drop (at + 1) chars → is_simple c ≡ true → begins_simple (drop (at + 1) chars) ≡ true → k ≡ cluster_of options width_of at column (c ∷ [])
        → after ≡ add_columns column k.width → more ≡ found ++ k ∷ [] → IsFoundPast options width_of chars from (at + 1) after joining more
    IsFoundPast-more from at column after joining found more k c h le within next simple follows is sum is_more =
        let one : (j : Joining) (start : IsFoundTo options width_of chars at column j found) → IsFoundTo options width_of chars (at + 1) after (joining_after options.moves (c ∷ start.read)) more =
        λ j start. IsFoundTo-more at (at + 1) column after j (joining_after options.moves (c ∷ start.read)) found more k start (IsCluster-simple chars at start.read c next simple follows) (omega arith) (omega arith)
        (is ∙ ap (cluster_of options width_of at column) (sym (slice_range-first chars at c next))) sum is_more in
        let here : drop (at + 1 - 1) chars ≡ c ∷ drop (at + 1) chars = let e : at + 1 - 1 ≡ at = omega arith in ap (λ n. drop n chars) e ∙ next in
        record {
          none = λ e. absurd (omega (arith, e));
          some = λ _. elim (cases_lt from at) [
            | inl some ↦ let s = h.some some in (c, s.4.read, here, simple, one _ s.4)
            | inr none ↦
                let e : at ≡ from = omega (arith, none) in
                let start = subst (λ n. IsFoundTo options width_of chars n column joining found) (sym e) (h.none e) in (c, start.read, here, simple, one _ start)
          ];
        }

    -- the last one is read
    pub IsFoundPast-read : (from end column : ℕ) (joining new : Joining) (found : List LineCluster) (c : LineChar) → IsFoundPast options width_of chars from end column joining found → from < end
        → drop (end - 1) chars ≡ c ∷ drop end chars → ((before : List LineChar) → new ≡ joining_after options.moves (c ∷ before)) → IsFoundTo options width_of chars end column new found
    IsFoundPast-read from end column joining new found c h some next reads =
        let s = h.some some in
        let same : s.0 ≡ c = first-of s.0 c (drop end chars) (sym s.2 ∙ next) in
        subst (λ (j : Joining). IsFoundTo options width_of chars end column j found) (ap (λ (x : LineChar). joining_after options.moves (x ∷ s.1)) same ∙ sym (reads s.1)) s.4

    pub IsFoundPast-simple : (from end column : ℕ) (joining : Joining) (found : List LineCluster) (c : LineChar) → IsFoundPast options width_of chars from end column joining found → from < end
        → drop (end - 1) chars ≡ c ∷ drop end chars → is_simple c ≡ true
    IsFoundPast-simple from end column joining found c h some next =
        let s = h.some some in
        let same : s.0 ≡ c = first-of s.0 c (drop end chars) (sym s.2 ∙ next) in
        sym (ap is_simple same) ∙ s.3

    pub IsFoundTo-end : (from column : ℕ) (joining : Joining) (found : List LineCluster) → IsFoundTo options width_of chars from column joining found → length chars ≤ from → found ≡ clusters_of options width_of chars
    IsFoundTo-end from column joining found h past =
        sym (append-nil found) ∙ sym (ap (λ cs. found ++ clusters_from options width_of from column (clusters_after options h.read cs)) (drop_all from chars past)) ∙ h.all
