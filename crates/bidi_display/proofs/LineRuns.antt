-- The lines of clusters, one after another.
use Rattle.bidi_base.proofs.Common.{◌≡◌, ℕ, ◌+◌, ◌-◌, ◌<◌, ◌≤◌, zero, suc, eqb, List, [], ◌∷◌, ◌++◌, length, map, drop, get_or, slice_index, subst, refl, sym, ap, ◌∙◌, Range, run_of, Run, IsPartition}
use Rattle.bidi_base.proofs.Common.{arith, cases_Bool, inl, inr, length-drop, length-map, get_or-drop, get_or-map, drop-drop, drop-map, drop-append_seam, append-nil, append_assoc, map-append}
use Rattle.bidi_display.specs.DisplayedLine.{AreClustersFrom, add_columns}
use Rattle.bidi_display.specs.LineBreaks.{chars_of, first_line_length, hangs, is_forced, last_end, line_length_from, lines_of, lines_up_to, overflows, width_in_line}
use Rattle.bidi_display.specs.declared.line_breaks.Break.{Break}
use Rattle.bidi_display.specs.declared.line_char.LineChar.{LineChar}
use Rattle.bidi_display.specs.declared.line_cluster.LineCluster.{LineCluster}
use Rattle.bidi_display.specs.declared.options.DisplayOptions.{DisplayOptions}
use Rattle.bidi_display.proofs.LineLengths.{last_end-le}

-- ---- the ranges of clusters

abbrev cluster_runs : List LineCluster → List Run
cluster_runs ks = map (λ k. (k.start, k.end)) ks

abbrev ends : List LineCluster → List ℕ
ends ks = map (λ k. k.end) ks

pub AreClustersFrom-rest : (start end : ℕ) (k : LineCluster) (ks : List LineCluster) → AreClustersFrom start end (k ∷ ks) → AreClustersFrom k.end end ks
AreClustersFrom-rest start end k ks h = record {
  none = λ e. h.last 0 (omega arith);
  not_empty = λ j lt. h.not_empty (suc j) (omega arith);
  first = λ some. sym (h.adjacent 0 (omega arith));
  adjacent = λ j lt.
      let next : suc j + 1 ≡ suc (j + 1) = omega arith in
      h.adjacent (suc j) (omega arith) ∙ ap (slice_index (map (λ x. x.start) (k ∷ ks))) next;
  last = λ j e. h.last (suc j) (omega arith);
}

cluster_runs-IsPartition : (start end : ℕ) (ks : List LineCluster) → AreClustersFrom start end ks → IsPartition start end (cluster_runs ks)
cluster_runs-IsPartition start end [] h = h.none refl
cluster_runs-IsPartition start end (k ∷ ks) h =
    (h.first (omega arith), h.not_empty 0 (omega arith), cluster_runs-IsPartition k.end end ks (AreClustersFrom-rest start end k ks h))

-- the first clusters, up to the m-th, and the rest
record IsCutAfter (start end at : ℕ) (rest : List LineCluster) : Type 0 where
  grows : start < at
  partition : IsPartition at end (cluster_runs rest)

is_cut_after : (m start end d : ℕ) (ks : List LineCluster) → m < length ks → IsPartition start end (cluster_runs ks) → IsCutAfter start end (get_or (ends ks) m d) (drop (suc m) ks)
is_cut_after m start end d [] within h = absurd (omega arith)
is_cut_after zero start end d (k ∷ ks) within h = record { grows = omega (arith, h.0, h.1); partition = h.2 }
is_cut_after (suc m) start end d (k ∷ ks) within h =
    let cut = is_cut_after m k.end end d ks (omega arith) h.2 in
    record { grows = omega (arith, cut.grows, h.0, h.1); partition = cut.partition }

-- the end of the m-th cluster from the from-th on
pub end-past : (ks : List LineCluster) (from n d : ℕ) (k : LineCluster) → 1 ≤ n → from + n ≤ length ks → k ≡ get_or ks (from + n - 1) k → k.end ≡ get_or (ends (drop from ks)) (n - 1) d
end-past ks from n d k some within is =
    let short : n - 1 < length (drop from ks) = omega (arith, length-drop from ks) in
    let place : from + (n - 1) ≡ from + n - 1 = omega arith in
    sym (get_or-map (λ x. x.end) (drop from ks) (n - 1) k d short ∙ ap (λ x. x.end) (get_or-drop from ks (n - 1) k ∙ ap (λ i. get_or ks i k) place ∙ sym is))

module _ (options : DisplayOptions) (break_after : List LineChar → Break) (limit : ℕ) (chars : List LineChar) where
  abbrev length_from : ℕ → ℕ → ℕ → List LineCluster → ℕ
  length_from index column last ks = line_length_from options break_after limit chars index column last ks

  -- ---- the length of a line

  length_from-some : (index column last : ℕ) (ks : List LineCluster) → 0 < index → 0 < length_from index column last ks
  length_from-some index column last [] some = some
  length_from-some index column last (k ∷ ks) some =
      let width = width_in_line options chars column k in
      let end = add_columns column width in
      let after = break_after (chars_of chars k) in
      elim (cases_Bool (overflows limit column (hangs chars k) width end)) [
        | inl over ↦ rw over (elim (cases_Bool (eqb last 0)) [ inl none ↦ rw none some | inr place ↦ grind arith ])
        | inr fits ↦ rw fits (elim (cases_Bool (is_forced after)) [
          | inl forced ↦ rw forced (omega arith)
          | inr goes_on ↦ rw goes_on (length_from-some (index + 1) end (last_end after (hangs chars k) index last) ks (omega arith))
        ])
      ]

  length_from-within : (index column last : ℕ) (ks : List LineCluster) → last ≤ index → length_from index column last ks ≤ index + length ks
  length_from-within index column last [] le = omega arith
  length_from-within index column last (k ∷ ks) le =
      let width = width_in_line options chars column k in
      let end = add_columns column width in
      let after = break_after (chars_of chars k) in
      elim (cases_Bool (overflows limit column (hangs chars k) width end)) [
        | inl over ↦ rw over (elim (cases_Bool (eqb last 0)) [ inl none ↦ rw none (omega arith) | inr place ↦ rw place (omega arith) ])
        | inr fits ↦ rw fits (elim (cases_Bool (is_forced after)) [
          | inl forced ↦ rw forced (omega arith)
          | inr goes_on ↦
              let le' = last_end-le after (hangs chars k) index last le in
              let more = length_from-within (index + 1) end (last_end after (hangs chars k) index last) ks le' in
              rw goes_on (omega arith)
        ])
      ]

  abbrev first_length : List LineCluster → ℕ
  first_length ks = first_line_length options break_after limit chars ks

  first_length-some : (ks : List LineCluster) → 0 < length ks → 0 < first_length ks
  first_length-some [] some = absurd (omega arith)
  first_length-some (k ∷ ks) some =
      let width = width_in_line options chars 0 k in
      let after = break_after (chars_of chars k) in
      elim (cases_Bool (is_forced after)) [
        | inl forced ↦ rw forced (omega arith)
        | inr goes_on ↦ rw goes_on (length_from-some 1 (add_columns 0 width) (last_end after (hangs chars k) 0 0) ks (omega arith))
      ]

  first_length-within : (ks : List LineCluster) → first_length ks ≤ length ks
  first_length-within ks = omega (arith, length_from-within 0 0 0 ks (omega arith))

  -- ---- the lines

  abbrev lines_within : ℕ → ℕ → List LineCluster → List Run
  lines_within n start ks = lines_up_to options break_after limit chars n start ks

  -- where the first line ends
  abbrev first_end : ℕ → List LineCluster → ℕ
  first_end start ks = get_or (ends ks) (first_length ks - 1) start

  -- more than enough lines are enough
  lines_within-enough : (n m start : ℕ) (ks : List LineCluster) → length ks ≤ n → length ks ≤ m → lines_within n start ks ≡ lines_within m start ks
  lines_within-enough zero zero start ks few many = refl
  lines_within-enough zero (suc m) start [] few many = refl
  lines_within-enough (suc n) zero start [] few many = refl
  lines_within-enough (suc n) (suc m) start [] few many = refl
  lines_within-enough (suc n) (suc m) start (k ∷ ks) few many =
      let count = first_length (k ∷ ks) in
      let rest : List LineCluster = drop count (k ∷ ks) in
      let short : length rest < length (k ∷ ks) = omega (arith, first_length-some (k ∷ ks) (omega arith), length-drop count (k ∷ ks)) in
      ap (λ ls. (start, first_end start (k ∷ ks)) ∷ ls) (lines_within-enough n m (first_end start (k ∷ ks)) rest (omega arith) (omega arith))
  lines_within-enough _ _ start (k ∷ ks) few many = absurd (omega arith)

  lines_within-IsPartition : (n start end : ℕ) (ks : List LineCluster) → length ks ≤ n → IsPartition start end (cluster_runs ks) → IsPartition start end (lines_within n start ks)
  lines_within-IsPartition zero start end [] few h = h
  lines_within-IsPartition (suc n) start end [] few h = h
  lines_within-IsPartition zero start end (k ∷ ks) few h = absurd (omega arith)
  lines_within-IsPartition (suc n) start end (k ∷ ks) few h =
      let count = first_length (k ∷ ks) in
      let some = first_length-some (k ∷ ks) (omega arith) in
      let within = first_length-within (k ∷ ks) in
      let cut = is_cut_after (count - 1) start end start (k ∷ ks) (omega (arith, some, within)) h in
      let one : suc (count - 1) ≡ count = omega (arith, some) in
      let rest = subst (λ i. IsPartition (first_end start (k ∷ ks)) end (cluster_runs (drop i (k ∷ ks)))) one cut.partition in
      (refl, cut.grows, lines_within-IsPartition n (first_end start (k ∷ ks)) end (drop count (k ∷ ks)) (omega (arith, some, length-drop count (k ∷ ks))) rest)

  abbrev lines : ℕ → List LineCluster → List Run
  lines start ks = lines_of options break_after limit chars start ks

  pub lines_of-none : (start : ℕ) (ks : List LineCluster) → length ks ≡ 0 → lines start ks ≡ []
  unfolding lines_of
  lines_of-none start [] none = refl
  lines_of-none start (k ∷ ks) none = absurd (omega arith)

  -- the first line, and those of the rest
  pub lines_of-more : (start : ℕ) (ks : List LineCluster) → 0 < length ks → lines start ks ≡ (start, first_end start ks) ∷ lines (first_end start ks) (drop (first_length ks) ks)
  unfolding lines_of
  lines_of-more start [] some = absurd (omega arith)
  lines_of-more start (k ∷ ks) some =
      let rest : List LineCluster = drop (first_length (k ∷ ks)) (k ∷ ks) in
      let short : length rest < length (k ∷ ks) = omega (arith, first_length-some (k ∷ ks) some, length-drop (first_length (k ∷ ks)) (k ∷ ks)) in
      ap (λ ls. (start, first_end start (k ∷ ks)) ∷ ls) (lines_within-enough (length ks) (length rest) (first_end start (k ∷ ks)) rest (omega arith) (omega arith))

  -- the lines are not empty, and together they cover the code units of the clusters
  pub lines_of-IsPartition : (start end : ℕ) (ks : List LineCluster) → AreClustersFrom start end ks → IsPartition start end (lines start ks)
  unfolding lines_of
  lines_of-IsPartition start end ks h = lines_within-IsPartition (length ks) start end ks (omega arith) (cluster_runs-IsPartition start end ks h)

  -- one more line was appended: the clusters from the from-th on have its first one
  pub lines-push : (ks : List LineCluster) (from n start stop : ℕ) (k : LineCluster) (old new : List (Range ℕ)) (all : List Run) → from < length ks → n ≡ first_length (drop from ks) → 1 ≤ n → from + n ≤ length ks
      → k ≡ get_or ks (from + n - 1) k → stop ≡ k.end → new ≡ old ++ record { start = start; end = stop } ∷ [] → map run_of old ++ lines start (drop from ks) ≡ all
      → map run_of new ++ lines stop (drop (from + n) ks) ≡ all
  lines-push ks from n start stop k old new all inside is some within at stops pushed before =
      let rest : List LineCluster = drop from ks in
      let not_empty : 0 < length rest = omega (arith, length-drop from ks) in
      let end : stop ≡ first_end start rest = stops ∙ end-past ks from n start k some within at ∙ ap (λ m. get_or (ends rest) (m - 1) start) is in
      let after : drop (from + n) ks ≡ drop (first_length rest) rest = sym (drop-drop n from ks) ∙ ap (λ m. drop m rest) is in
      let more : (start, stop) ∷ lines stop (drop (from + n) ks) ≡ lines start rest =
      ap (λ e. (start, e) ∷ lines e (drop (from + n) ks)) end ∙ ap (λ xs. (start, first_end start rest) ∷ lines (first_end start rest) xs) after ∙ sym (lines_of-more start rest not_empty) in
      ap (λ xs. map run_of xs ++ lines stop (drop (from + n) ks)) pushed
      ∙ ap (λ xs. xs ++ lines stop (drop (from + n) ks)) (map-append run_of old (record { start = start; end = stop } ∷ []))
      ∙ append_assoc (map run_of old) ((start, stop) ∷ []) (lines stop (drop (from + n) ks))
      ∙ ap (λ xs. map run_of old ++ xs) more ∙ before

  -- all lines were appended
  pub lines-end : (ks : List LineCluster) (from start : ℕ) (old : List (Range ℕ)) (all : List Run) → length ks ≤ from → map run_of old ++ lines start (drop from ks) ≡ all → map run_of old ≡ all
  lines-end ks from start old all past is =
      let none = lines_of-none start (drop from ks) (omega (arith, length-drop from ks)) in
      sym (append-nil (map run_of old)) ∙ ap (λ xs. map run_of old ++ xs) (sym none) ∙ is

-- those that were appended to a list
pub runs-appended : (old new : List (Range ℕ)) (runs : List Run) → map run_of new ≡ map run_of old ++ runs → map run_of (drop (length old) new) ≡ runs
runs-appended old new runs is =
    sym (drop-map run_of (length old) new) ∙ ap (drop (length old)) is ∙ ap (λ n. drop n (map run_of old ++ runs)) (sym (length-map old run_of)) ∙ drop-append_seam (map run_of old) runs

pub IsPartition-appended : (start end : ℕ) (old new : List (Range ℕ)) (runs : List Run) → map run_of new ≡ map run_of old ++ runs → IsPartition start end runs → IsPartition start end (map run_of (drop (length old) new))
IsPartition-appended start end old new runs is h = subst (λ xs. IsPartition start end xs) (sym (runs-appended old new runs is)) h
