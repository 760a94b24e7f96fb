-- How many clusters a line has, as its clusters are read.
use Rattle.bidi_base.proofs.Common.{◌≡◌, ℕ, ◌+◌, ◌-◌, ◌<◌, ◌≤◌, Bool, true, false, cond, eqb, min, List, ◌∷◌, length, drop, get_or, slice_range, sym, ap, ◌∙◌, arith}
use Rattle.bidi_base.proofs.Common.{cases_Bool, inl, inr, le_refl, nat_lt, eq-eqb, ne_eqb, ◌&&◌, ◌||◌, drop_more, get_or-drop, length-drop, take_all}
use Rattle.bidi_display.specs.DisplayedLine.{add_columns, max_columns}
use Rattle.bidi_display.specs.LineBreaks.{are_white_space, chars_of, hangs, is_allowed, is_forced, last_end, line_length_from, overflows, width_in_line}
use Rattle.bidi_display.specs.declared.line_breaks.Break.{Break}
use Rattle.bidi_display.specs.declared.line_char.LineChar.{LineChar}
use Rattle.bidi_display.specs.declared.line_cluster.LineCluster.{LineCluster}
use Rattle.bidi_display.specs.declared.options.DisplayOptions.{DisplayOptions}

-- k is the i-th of the clusters from the from-th on
pub record IsClusterPast (ks : List LineCluster) (from i : ℕ) (k : LineCluster) : Type 0 where
  pub within : from + i < length ks
  pub next : drop i (drop from ks) ≡ k ∷ drop (i + 1) (drop from ks)
  pub place : k ≡ get_or ks (from + i) k

pub is_cluster_past : (ks : List LineCluster) (from i : ℕ) (k : LineCluster) → i < length (slice_range ks from (length ks)) → k ≡ get_or (slice_range ks from (length ks)) i k → IsClusterPast ks from i k
is_cluster_past ks from i k lt is =
    let rest : slice_range ks from (length ks) ≡ drop from ks = take_all (length ks - from) (drop from ks) (omega (arith, length-drop from ks)) in
    let short : i < length (drop from ks) = omega (arith, ap length rest) in
    let here : k ≡ get_or (drop from ks) i k = is ∙ ap (λ xs. get_or xs i k) rest in
    record {
      within = omega (arith, length-drop from ks);
      next = drop_more (drop from ks) i k short ∙ ap (λ x. x ∷ drop (i + 1) (drop from ks)) (sym here);
      place = here ∙ get_or-drop from ks i k;
    }

-- the place where a line may last end is among the clusters that are read
pub last_end-le : (after : Break) (white : Bool) (index last : ℕ) → last ≤ index → last_end after white index last ≤ index + 1
last_end-le after white index last le = elim (cases_Bool (is_allowed after || nat_lt 0 index && eqb last index && white)) [
  | inl more ↦ rw more (le_refl (index + 1))
  | inr same ↦ rw same (omega arith)
]

-- a cluster was read after the first `index` of these: whether it is white space, its width, and the column after it
pub record IsRead (options : DisplayOptions) (chars : List LineChar) (ks : List LineCluster) (index column : ℕ) (white : Bool) (width end : ℕ) (k : LineCluster) : Type 0 where
  pub next : drop index ks ≡ k ∷ drop (index + 1) ks
  pub is_white : white ≡ hangs chars k
  pub has_width : width ≡ width_in_line options chars column k
  pub ends_at : end ≡ add_columns column width

pub is_read : (options : DisplayOptions) (chars : List LineChar) (ks : List LineCluster) (from index column : ℕ) (white : Bool) (width end : ℕ) (k : LineCluster) (cluster : List LineChar)
    → IsClusterPast ks from index k → cluster ≡ chars_of chars k → white ≡ are_white_space cluster → width ≡ width_in_line options chars column k → end ≡ min (column + width) max_columns
    → IsRead options chars (drop from ks) index column white width end k
is_read options chars ks from index column white width end k cluster at is_cluster is_white has_width ends_at = record {
  next = at.next;
  is_white = is_white ∙ ap are_white_space is_cluster;
  has_width = has_width;
  ends_at = omega (arith, ends_at);
}

module _ (options : DisplayOptions) (break_after : List LineChar → Break) (limit : ℕ) (chars : List LineChar) where
  -- the length of the line, if `index` of these clusters are read
  abbrev length_at : List LineCluster → ℕ → ℕ → ℕ → ℕ
  length_at ks index column last = line_length_from options break_after limit chars index column last (drop index ks)

  module _ {ks : List LineCluster} {index column : ℕ} {white : Bool} {width end : ℕ} {k : LineCluster} (last total : ℕ) (read : IsRead options chars ks index column white width end k)
      (is : length_at ks index column last ≡ total) where
    -- by what was read of the next one
    abbrev by_parts : Bool → ℕ → ℕ → Break → ℕ
    by_parts w n e a =
        cond (overflows limit column w n e) (cond (eqb last 0) index last)
        (cond (is_forced a) (index + 1) (length_at ks (index + 1) e (last_end a w index last)))

    total-by_parts : by_parts white width end (break_after (chars_of chars k)) ≡ total
    total-by_parts =
        let w = hangs chars k in
        let n = width_in_line options chars column k in
        let after = break_after (chars_of chars k) in
        let ends : end ≡ add_columns column n = read.ends_at ∙ ap (add_columns column) read.has_width in
        ap (λ x. by_parts x width end after) read.is_white ∙ ap (λ x. by_parts w x end after) read.has_width ∙ ap (λ x. by_parts w n x after) ends
        ∙ sym (ap (line_length_from options break_after limit chars index column last) read.next) ∙ is

    -- it does not fit
    total-overflows : (over : Bool) → over ≡ overflows limit column white width end → over ≡ true → cond (eqb last 0) index last ≡ total
    total-overflows over test holds =
        let rest = cond (is_forced (break_after (chars_of chars k))) (index + 1) (length_at ks (index + 1) end (last_end (break_after (chars_of chars k)) white index last)) in
        sym (ap (λ b. cond b (cond (eqb last 0) index last) rest) (sym test ∙ holds)) ∙ total-by_parts

    -- and the line may not end before
    pub total-unbroken : (over : Bool) → over ≡ overflows limit column white width end → over ≡ true → last ≡ 0 → index ≡ total
    total-unbroken over test holds none = sym (ap (λ b. cond b index last) (eq-eqb last 0 none)) ∙ total-overflows over test holds

    -- or it may
    pub total-broken : (over : Bool) → over ≡ overflows limit column white width end → over ≡ true → (last ≡ 0 → ⊥) → last ≡ total
    total-broken over test holds some = sym (ap (λ b. cond b index last) (ne_eqb last 0 some)) ∙ total-overflows over test holds

    -- it fits: whether the line may end after it, by its characters, and whether it must
    module _ (cluster : List LineChar) (after : Break) (over forced : Bool) (is_cluster : cluster ≡ chars_of chars k) (breaks : after ≡ break_after cluster)
        (test : over ≡ overflows limit column white width end) (fits : over ≡ false) (asked : forced ≡ is_forced after) where
      abbrev rest_by : Bool → ℕ
      rest_by b = cond b (index + 1) (length_at ks (index + 1) end (last_end after white index last))

      total-fits : (b : Bool) → forced ≡ b → rest_by b ≡ total
      total-fits b is_b =
          ap rest_by (sym is_b ∙ asked) ∙ sym (ap (λ x. cond x (cond (eqb last 0) index last) (rest_by (is_forced after))) (sym test ∙ fits))
          ∙ ap (by_parts white width end) (breaks ∙ ap break_after is_cluster) ∙ total-by_parts

      -- the line must end after it
      pub total-forced : forced ≡ true → index + 1 ≡ total
      total-forced must = total-fits true must

      -- or it goes on
      pub total-more : (new : ℕ) → new ≡ last_end after white index last → forced ≡ false → length_at ks (index + 1) end new ≡ total
      total-more new is_new goes_on = ap (length_at ks (index + 1) end) is_new ∙ total-fits false goes_on
