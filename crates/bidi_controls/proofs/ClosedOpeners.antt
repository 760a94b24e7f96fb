-- The opener that a character closes, by the openers that are open before it. The character is its match (BD9, BD11).
use Rattle.bidi_base.proofs.Common.{◌≡◌, ℕ, suc, ◌+◌, ◌-◌, ◌<◌, Bool, true, false, cond, List, [], ◌∷◌, length, drop, find, Option, Some, None, refl, sym, ap, subst}
use Rattle.bidi_base.proofs.Common.{◌∙◌, arith, filter, and_parts, and_from, false_from_ne_true, is_embedding_initiator, is_opener, is_pdf, class_at, is_isolate_initiator_at}
use Rattle.bidi_base.proofs.Common.{is_pdi_at, matching_pdi, is_inside, is_level_with, is_embedding_level_with, is_pdf_level_with, closing_pdf}
use Rattle.bidi_base.specs.declared.char_data.BidiClass.{BidiClass}
use Rattle.bidi_base.proofs.PlacesLemmas.{IsLeast}
use Rattle.bidi_laws.proofs.MatchingLemmas.{match_of-IsLeast, match_of-closes}
use Rattle.bidi_laws.proofs.IsolatesLemmas.{initiators_apart, matching_pdi-IsLeast}
use Rattle.bidi_laws.proofs.EmbeddingsLemmas.{is_level_with-each, is_level_with-same, is_level_with-refl}
use Rattle.bidi_laws.proofs.ReadStack.{read_closed, IsReadStack}
use Rattle.bidi_laws.proofs.OpenMatches.{IsReadStack-match, IsReadStack-matched}
use Rattle.bidi_laws.proofs.OpenersStack.{Leaves, leaves_at, IsPushed, openers_read-IsPushed, pdf_apart, initiators-IsReadStack, is_inside-parts}
use Rattle.bidi_laws.proofs.OpenersStack.{is_inside-sooner, same_inside, level-Leaves, level-IsReadStack, openers_read, closed_by, left_at}
use Rattle.bidi_controls.specs.Matches.{closer_of}

-- the innermost opener, if that is an embedding or an override
abbrev pub top_embedding : List BidiClass → List ℕ → Option ℕ
top_embedding classes [] = None
top_embedding classes (q ∷ stack) = cond (is_isolate_initiator_at classes q) None (Some q)

-- the opener that p closes
unfoldable pub closed_opener : List BidiClass → ℕ → List ℕ → Option ℕ
closed_opener classes p stack =
    cond (is_pdi_at classes p) (find (is_isolate_initiator_at classes) stack) (cond (is_pdf (class_at classes p)) (top_embedding classes stack) None)

-- what is found first is the first that a filter keeps
found_first : (test : ℕ → Bool) (xs : List ℕ) (x : ℕ) → find test xs ≡ Some x → filter test xs ≡ x ∷ drop 1 (filter test xs)
found_first test [] x e = absurd (cc e)
found_first test (y ∷ ys) x e = grind (arith, found_first test ys x)

first_found : (test : ℕ → Bool) (xs : List ℕ) (x : ℕ) (rest : List ℕ) → filter test xs ≡ x ∷ rest → find test xs ≡ Some x
first_found test [] x rest e = absurd (cc e)
first_found test (y ∷ ys) x rest e = grind (arith, first_found test ys x rest)

not_longer : (q : ℕ) (rest : List ℕ) → q ∷ rest ≡ rest → ⊥
not_longer q rest e = let long : suc (length rest) ≡ length rest = ap length e in omega arith

module _ (classes : List BidiClass) where
  -- q is an opener, and p closes it
  pub record IsCloser (p q : ℕ) : Type 0 where
    pub before : q < p
    pub opener : is_opener (class_at classes q) ≡ true
    pub closes : closer_of classes q ≡ Some p

  levels_apart : (q k : ℕ) → is_embedding_level_with classes q k ≡ true → is_pdf_level_with classes q k ≡ false
  levels_apart q k e = grind arith

  -- the embeddings level with q that are open before p, if q and p are inside the same isolates
  level_stack : (p q : ℕ) → q < p → p < length classes → ((r : ℕ) → r < length classes → is_inside classes r q ≡ is_inside classes r p)
      → IsReadStack (is_embedding_level_with classes q) (is_pdf_level_with classes q) p (filter (is_embedding_level_with classes q) (openers_read classes p))
  level_stack p q order fits same =
      let n : ℕ = p - 1 in
      let next : suc n ≡ p = omega arith in
      simp next at (level-IsReadStack classes q n (omega arith) (λ r inside.
      let early : r < q = (is_inside-parts classes r q inside).1 in is_inside-sooner classes r n p (sym (same r (omega arith)) ∙ inside) (omega arith) (omega arith)))

  -- ---- what p closes has p as its match

  closed_isolate : (p q : ℕ) → p < length classes → is_pdi_at classes p ≡ true → find (is_isolate_initiator_at classes) (openers_read classes p) ≡ Some q → IsCloser p q
  unfolding matching_pdi
  closed_isolate p q fits pdi e =
      let stack = filter (is_isolate_initiator_at classes) (openers_read classes p) in
      let h = rw (found_first (is_isolate_initiator_at classes) (openers_read classes p) q e) at (initiators-IsReadStack classes p) in
      grind (arith, h.are_open, IsReadStack-match (is_isolate_initiator_at classes) (is_pdi_at classes) (initiators_apart classes) (length classes) p q (drop 1 stack) h pdi fits)

  closed_embedding : (p q : ℕ) (below : List ℕ) → p < length classes → is_pdi_at classes p ≡ false → is_pdf (class_at classes p) ≡ true
      → openers_read classes p ≡ q ∷ below → is_isolate_initiator_at classes q ≡ false → IsCloser p q
  unfolding closed_by closing_pdf
  closed_embedding p q below fits pdi pdf top other =
      let pushed = subst (IsPushed classes p) top (openers_read-IsPushed classes p) in
      let same : (r : ℕ) → is_inside classes r q ≡ is_inside classes r p = same_inside classes q p (omega (arith, pushed.0)) fits (simp (← pushed.2, pdi, pdf, top, other)) in
      let level : is_level_with classes q p ≡ true = is_level_with-same classes q p q (λ r. sym (same r)) ∙ is_level_with-refl classes q in
      let itself : is_embedding_level_with classes q q ≡ true = and_from _ _ (simp other at pushed.1) (is_level_with-refl classes q) in
      let stack : filter (is_embedding_level_with classes q) (openers_read classes p) ≡ q ∷ filter (is_embedding_level_with classes q) below = simp (top, itself) in
      let h = simp stack at (level_stack p q pushed.0 fits (λ r within. same r)) in
      let last = filter (is_embedding_level_with classes q) below in
      grind (arith, pushed, IsReadStack-match (is_embedding_level_with classes q) (is_pdf_level_with classes q) (levels_apart q) (length classes) p q last h (and_from _ _ pdf level) fits)

  closed_top : (p q : ℕ) (stack : List ℕ) → p < length classes → openers_read classes p ≡ stack → is_pdi_at classes p ≡ false → is_pdf (class_at classes p) ≡ true
      → top_embedding classes stack ≡ Some q → IsCloser p q
  closed_top p q [] fits top pdi pdf e = absurd (cc e)
  closed_top p q (x ∷ below) fits top pdi pdf e = grind (arith, closed_embedding)

  pub closed_opener-IsCloser : (p q : ℕ) → p < length classes → closed_opener classes p (openers_read classes p) ≡ Some q → IsCloser p q
  unfolding closed_opener
  closed_opener-IsCloser p q fits e = grind (arith, closed_isolate p q fits, closed_top p q (openers_read classes p) fits refl)

  -- ---- and what has p as its match is what p closes

  matched_isolate : (p q : ℕ) → is_isolate_initiator_at classes q ≡ true → matching_pdi classes q ≡ Some p → closed_opener classes p (openers_read classes p) ≡ Some q
  unfolding closed_opener matching_pdi
  matched_isolate p q opens e =
      let on_top = IsReadStack-matched (is_isolate_initiator_at classes) (is_pdi_at classes) (initiators_apart classes) (length classes) p q _ (initiators-IsReadStack classes p) opens e in
      simp (match_of-closes (is_isolate_initiator_at classes) (is_pdi_at classes) (length classes) q p e, first_found (is_isolate_initiator_at classes) (openers_read classes p) q on_top.0 on_top.1)

  top_from : (p q : ℕ) (stack left rest : List ℕ) → is_pdf (class_at classes p) ≡ true → Leaves classes p stack left
      → filter (is_embedding_level_with classes q) stack ≡ q ∷ rest → filter (is_embedding_level_with classes q) left ≡ rest → top_embedding classes stack ≡ Some q
  top_from p q stack left rest pdf h0 e f = grind (arith, not_longer)

  matched_embedding : (p q : ℕ) → is_embedding_initiator (class_at classes q) ≡ true → closing_pdf classes q ≡ Some p → closed_opener classes p (openers_read classes p) ≡ Some q
  unfolding closed_opener closing_pdf
  matched_embedding p q embedding e =
      let least : IsLeast _ (q + 1) (length classes) p = match_of-IsLeast (is_embedding_level_with classes q) (is_pdf_level_with classes q) (length classes) q p e in
      let level_pdf : is_pdf_level_with classes q p ≡ true = match_of-closes (is_embedding_level_with classes q) (is_pdf_level_with classes q) (length classes) q p e in
      let parts = and_parts (is_pdf (class_at classes p)) (is_level_with classes q p) level_pdf in
      let same : (r : ℕ) → r < length classes → is_inside classes r q ≡ is_inside classes r p = is_level_with-each classes q p parts.1 in
      let itself : is_embedding_level_with classes q q ≡ true = and_from _ _ embedding (is_level_with-refl classes q) in
      let on_top = IsReadStack-matched (is_embedding_level_with classes q) (is_pdf_level_with classes q) (levels_apart q) (length classes) p q _ (level_stack p q (omega (arith, least.from)) least.below same) itself e in
      let left = level-Leaves classes q p (openers_read classes p) (left_at classes p) least.below (openers_read-IsPushed classes p) refl
      (λ r early inside. sym (same r (omega (arith, least.below))) ∙ inside) (leaves_at classes p) in
      let other : is_pdi_at classes p ≡ false = false_from_ne_true (is_pdi_at classes p) (λ pdi. absurd (pdf_apart _ parts.0 pdi)) in
      simp (other, parts.0) (top_from p q (openers_read classes p) (left_at classes p) on_top.0 parts.0 (leaves_at classes p) on_top.1 (left ∙ rw level_pdf (ap (read_closed true) on_top.1)))

  pub IsCloser-closed_opener : (p q : ℕ) → is_opener (class_at classes q) ≡ true → closer_of classes q ≡ Some p → closed_opener classes p (openers_read classes p) ≡ Some q
  IsCloser-closed_opener p q opener e = grind (arith, matched_isolate, matched_embedding)

  -- a match is after what it closes, in the line
  pub closer_of-within : (q m : ℕ) → closer_of classes q ≡ Some m → (q < m) × (m < length classes)
  unfolding closing_pdf
  closer_of-within q m e =
      grind (arith, matching_pdi-IsLeast classes q m, match_of-IsLeast (is_embedding_level_with classes q) (is_pdf_level_with classes q) (length classes) q m)
