-- Paragraphs (P1): a text that is cut while it is read, and what the pieces and their ranges are.
use Rattle.bidi_base.proofs.Common.{◌≡◌, ℕ, ◌+◌, ◌<◌, Bool, true, false, List, [], ◌∷◌, ◌++◌, length, flat_map, refl, sym, ap, subst, ◌∙◌, append_assoc, arith, length-append, All, IsTrue, Option, ⊤}
use Rattle.bidi_base.proofs.Common.{onto_first, length-map, All-nil, All-cons, All-head, All-tail, sum_by-append, is_paragraph_separator, Source, text_classes, text_len, subrange, IsLine}
use Rattle.bidi_base.proofs.Common.{SplitTest, cut_after, each_separator, paragraphs_of, pieces_by, ranges_from, IsPartition, ends_with_separator, append-nil}
use Rattle.bidi_base.specs.declared.split_rule.SplitRule.{SplitRule}
use Rattle.bidi_base.specs.Paragraphs.{AllButLast, has_inner_end}
use Rattle.bidi_base.proofs.TextLemmas.{HasUnits, subrange-middle, is_boundary-append, length-le-text_len}
use Rattle.bidi_laws.proofs.StoredSteps.{length-stored_classes}

-- ---- a text that is read from the front and cut where a test passes

-- all that some pieces hold
abbrev pub joined : List (List ℕ) → List ℕ
joined pieces = flat_map (λ piece. piece) pieces

pub length-text_classes : (source : Source) (pieces : List (List ℕ)) → length (text_classes source pieces) ≡ length (joined pieces)
unfolding text_classes
length-text_classes source [] = refl
length-text_classes source (p ∷ pieces) = grind (arith, length-append, length-text_classes source pieces, length-stored_classes, length-map)

-- what holds of pieces holds still once a character stands before the first
pub All-onto_first : (Q : List ℕ → Type 0) (c : ℕ) (ps : List (List ℕ)) → Q (c ∷ []) → ((p : List ℕ) → Q p → Q (c ∷ p)) → All Q ps → All Q (onto_first c ps)
All-onto_first Q c [] one longer h = All-cons Q (c ∷ []) [] one (All-nil Q)
All-onto_first Q c (p ∷ ps) one longer h = All-cons Q (c ∷ p) ps (longer p (All-head Q p ps h)) (All-tail Q p ps h)

module _ (ends : SplitTest) where
  -- no piece ends among these characters, before `rest`
  abbrev pub GoesOn : List ℕ → List ℕ → Type 0
  GoesOn [] rest = ⊤
  GoesOn (c ∷ cs) rest = (ends c (cs ++ rest) ≡ false) × GoesOn cs rest

  GoesOn-push : (cs : List ℕ) (c : ℕ) (rest : List ℕ) → GoesOn cs (c ∷ rest) → ends c rest ≡ false → GoesOn (cs ++ c ∷ []) rest
  GoesOn-push [] c rest h on = (on, tt)
  GoesOn-push (x ∷ cs) c rest h on = (ap (ends x) (append_assoc cs (c ∷ []) rest) ∙ h.0, GoesOn-push cs c rest h.1 on)

  -- a piece ends where the test first passes
  cut_after-stop : (cs : List ℕ) (c : ℕ) (rest : List ℕ) → GoesOn cs (c ∷ rest) → ends c rest ≡ true → cut_after ends (cs ++ c ∷ rest) ≡ (cs ++ c ∷ []) ∷ cut_after ends rest
  cut_after-stop [] c rest h stop = rw stop refl
  cut_after-stop (x ∷ cs) c rest h stop = grind (arith, cut_after-stop cs c rest)

  -- what is left is a piece, if it is not empty
  cut_after-end : (x : ℕ) (cs : List ℕ) → GoesOn (x ∷ cs) [] → cut_after ends (x ∷ cs) ≡ (x ∷ cs) ∷ []
  cut_after-end x [] h = rw h.0 refl
  cut_after-end x (y ∷ cs) h = grind (arith, append-nil, cut_after-end y cs h.1)

  -- of the characters read, `done` are the pieces that have ended, and `current` is the one that has not; `rest` is
  -- still to come
  pub record IsCut (chars : List ℕ) (done : List (List ℕ)) (current rest : List ℕ) : Type 0 where
    pub cut : cut_after ends chars ≡ done ++ cut_after ends (current ++ rest)
    pub goes_on : GoesOn current rest

  pub IsCut-start : (chars : List ℕ) → IsCut chars [] [] chars
  IsCut-start chars = record { cut = refl; goes_on = tt }

  -- one more character of the same piece
  pub IsCut-more : (chars : List ℕ) (done : List (List ℕ)) (current : List ℕ) (c : ℕ) (rest : List ℕ) → ends c rest ≡ false
      → IsCut chars done current (c ∷ rest) → IsCut chars done (current ++ c ∷ []) rest
  IsCut-more chars done current c rest on h = grind (arith, append_assoc current (c ∷ []) rest, GoesOn-push current c rest h.goes_on on, h.cut)

  -- one that ends it
  pub IsCut-stop : (chars : List ℕ) (done : List (List ℕ)) (current : List ℕ) (c : ℕ) (rest : List ℕ) → ends c rest ≡ true
      → IsCut chars done current (c ∷ rest) → IsCut chars (done ++ (current ++ c ∷ []) ∷ []) [] rest
  IsCut-stop chars done current c rest stop h = grind (arith, cut_after-stop, append_assoc)

  -- at the end the last piece is the one that has not ended, if it is not empty
  pub IsCut-last : (chars : List ℕ) (done : List (List ℕ)) (current : List ℕ) → 0 < length current → IsCut chars done current [] → cut_after ends chars ≡ done ++ current ∷ []
  IsCut-last chars done [] some h = absurd (omega arith)
  IsCut-last chars done (x ∷ cs) some h = grind (arith, append-nil, cut_after-end)

  pub IsCut-none : (chars : List ℕ) (done : List (List ℕ)) → IsCut chars done [] [] → cut_after ends chars ≡ done
  IsCut-none chars done h = h.cut ∙ append-nil done

  -- ---- what the pieces are

  pub cut_after-joined : (chars : List ℕ) → joined (cut_after ends chars) ≡ chars
  cut_after-joined [] = refl
  cut_after-joined (c ∷ cs) = grind (arith, cut_after-joined cs)

  pub cut_after-some : (chars : List ℕ) → All (λ (p : List ℕ). 0 < length p) (cut_after ends chars)
  cut_after-some [] = All-nil (λ (p : List ℕ). 0 < length p)
  cut_after-some (c ∷ cs) = grind (arith, All-cons (λ (p : List ℕ). 0 < length p), All-onto_first (λ (p : List ℕ). 0 < length p) c, cut_after-some cs)

-- ---- where separators stand

module _ (source : Source) where
  abbrev pub is_stop : ℕ → Bool
  is_stop c = is_paragraph_separator (source.class_of c)

  abbrev pub Ends : List ℕ → Type 0
  Ends p = IsTrue (ends_with_separator source p)

  -- pieces that end at separators alone
  pub cut_after-ended : (ends : SplitTest) → ((c : ℕ) (after : List ℕ) → ends c after ≡ true → is_stop c ≡ true) → (chars : List ℕ) → AllButLast Ends (cut_after ends chars)
  cut_after-ended ends stops [] = tt
  cut_after-ended ends stops (c ∷ cs) = grind (arith, cut_after-ended ends stops cs)

  abbrev pub Holds : List ℕ → Type 0
  Holds p = has_inner_end (each_separator source) p ≡ false

  pub paragraphs-undivided : (chars : List ℕ) → All Holds (cut_after (each_separator source) chars)
  paragraphs-undivided [] = All-nil Holds
  paragraphs-undivided (c ∷ cs) = grind (arith, All-cons Holds, All-onto_first Holds c, paragraphs-undivided cs)

-- ---- the ranges of pieces

module _ (len_of : ℕ → ℕ) where
  pub ranges_from-push : (from : ℕ) (ps : List (List ℕ)) (p : List ℕ)
      → ranges_from len_of from (ps ++ p ∷ []) ≡ ranges_from len_of from ps ++ (from + text_len len_of (joined ps), from + text_len len_of (joined ps) + text_len len_of p) ∷ []
  ranges_from-push from [] p = grind arith
  ranges_from-push from (q ∷ ps) p = grind (arith, sum_by-append, ranges_from-push (from + text_len len_of q) ps p)

  module _ (units : HasUnits len_of) where
    pub ranges_from-IsPartition : (from : ℕ) (ps : List (List ℕ)) → All (λ (p : List ℕ). 0 < length p) ps → IsPartition from (from + text_len len_of (joined ps)) (ranges_from len_of from ps)
    ranges_from-IsPartition from [] some = omega arith
    ranges_from-IsPartition from (p ∷ ps) some =
        grind (arith, ranges_from-IsPartition (from + text_len len_of p) ps, sum_by-append len_of p (joined ps), length-le-text_len len_of units p, All-head (λ (p : List ℕ). 0 < length p) p ps, All-tail (λ (p : List ℕ). 0 < length p) p ps)

    shifted : (front p : List ℕ) (ps : List (List ℕ)) (Q : List ℕ → List (ℕ × ℕ) → Type 0)
        → Q ((front ++ p) ++ joined ps) (ranges_from len_of (text_len len_of (front ++ p)) ps)
        → Q (front ++ (p ++ joined ps)) (ranges_from len_of (text_len len_of front + text_len len_of p) ps)
    shifted front p ps Q h = grind (arith, append_assoc, sum_by-append)

    module _ (P : List ℕ → Type 0) where
      -- the characters of the first range are the first piece
      first_range : (front p rest : List ℕ) → P p → P (subrange len_of (front ++ (p ++ rest)) (text_len len_of front) (text_len len_of front + text_len len_of p))
      first_range front p rest h = subst P (sym (subrange-middle len_of units front p rest)) h

      ranges-All : (front : List ℕ) (ps : List (List ℕ)) → All P ps → All (λ (r : ℕ × ℕ). P (subrange len_of (front ++ joined ps) r.0 r.1)) (ranges_from len_of (text_len len_of front) ps)
      ranges-All front [] h = All-nil (λ (r : ℕ × ℕ). P (subrange len_of (front ++ []) r.0 r.1))
      ranges-All front (p ∷ ps) h =
          All-cons (λ (r : ℕ × ℕ). P (subrange len_of (front ++ (p ++ joined ps)) r.0 r.1)) _ _ (first_range front p (joined ps) (All-head P p ps h))
          (shifted front p ps (λ (cs : List ℕ) (rs : List (ℕ × ℕ)). All (λ (r : ℕ × ℕ). P (subrange len_of cs r.0 r.1)) rs) (ranges-All (front ++ p) ps (All-tail P p ps h)))

      ranges-AllButLast : (front : List ℕ) (ps : List (List ℕ)) → AllButLast P ps
          → AllButLast (λ (r : ℕ × ℕ). P (subrange len_of (front ++ joined ps) r.0 r.1)) (ranges_from len_of (text_len len_of front) ps)
      ranges-AllButLast front [] h = tt
      ranges-AllButLast front (p ∷ []) h = tt
      ranges-AllButLast front (p ∷ q ∷ ps) h = (
        first_range front p (joined (q ∷ ps)) h.0,
        shifted front p (q ∷ ps) (λ (cs : List ℕ) (rs : List (ℕ × ℕ)). AllButLast (λ (r : ℕ × ℕ). P (subrange len_of cs r.0 r.1)) rs)
            (ranges-AllButLast (front ++ p) (q ∷ ps) h.1),
      )

    pub ranges-lines : (front : List ℕ) (ps : List (List ℕ)) → All (λ (r : ℕ × ℕ). IsLine len_of (front ++ joined ps) r.0 r.1) (ranges_from len_of (text_len len_of front) ps)
    ranges-lines front [] = All-nil (λ (r : ℕ × ℕ). IsLine len_of (front ++ []) r.0 r.1)
    ranges-lines front (p ∷ ps) =
        All-cons (λ (r : ℕ × ℕ). IsLine len_of (front ++ (p ++ joined ps)) r.0 r.1) _ _
        (grind (
          arith,
          is_boundary-append len_of front (p ++ joined ps),
          is_boundary-append len_of (front ++ p) (joined ps),
          append_assoc,
          sum_by-append,
        ))
        (shifted front p ps (λ (cs : List ℕ) (rs : List (ℕ × ℕ)). All (λ (r : ℕ × ℕ). IsLine len_of cs r.0 r.1) rs) (ranges-lines (front ++ p) ps))

-- the ranges of the pieces of a text
module _ (ends : SplitTest) (len_of : ℕ → ℕ) (units : HasUnits len_of) (chars : List ℕ) where
  abbrev pieces : List (List ℕ)
  pieces = cut_after ends chars

  pub cut_after-partition : IsPartition 0 (text_len len_of chars) (ranges_from len_of 0 pieces)
  cut_after-partition = grind (arith, cut_after-joined ends chars, ranges_from-IsPartition len_of units 0 pieces (cut_after-some ends chars), cut_after-some ends chars)

  pub cut_after-lines : All (λ r. IsLine len_of chars r.0 r.1) (ranges_from len_of 0 pieces)
  cut_after-lines = grind (arith, cut_after-joined ends chars, ranges-lines len_of units [] pieces)

  pub cut_after-AllButLast : (P : List ℕ → Type 0) → AllButLast P pieces → AllButLast (λ r. P (subrange len_of chars r.0 r.1)) (ranges_from len_of 0 pieces)
  cut_after-AllButLast P h = rw (cut_after-joined ends chars) at (ranges-AllButLast len_of units P [] pieces h)

  pub cut_after-All : (P : List ℕ → Type 0) → All P pieces → All (λ r. P (subrange len_of chars r.0 r.1)) (ranges_from len_of 0 pieces)
  cut_after-All P h = rw (cut_after-joined ends chars) at (ranges-All len_of units P [] pieces h)

pub paragraphs-joined : (source : Source) (chars : List ℕ) → joined (paragraphs_of (each_separator source) chars) ≡ chars
paragraphs-joined source chars = cut_after-joined (each_separator source) chars

pub pieces_by-joined : (rule : Option SplitRule) (source : Source) (chars : List ℕ) → joined (pieces_by rule source chars) ≡ chars
pieces_by-joined rule source chars = grind (arith, append-nil, cut_after-joined)
