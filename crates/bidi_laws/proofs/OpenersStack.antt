-- The openers that are open, as one stack of indexes: an opener is pushed, a PDI takes away the innermost isolate and
-- all inside it, a PDF the innermost embedding if no isolate is inside that. It holds exactly what `open_at` counts.
--
-- Of that stack the initiators are what a stack of isolates alone holds, and so they are the isolates round a place.
-- The embeddings level with a place c are what a stack of those alone holds, as long as no isolate round c has ended.
use Rattle.bidi_base.proofs.Common.{◌≡◌, ℕ, zero, suc, ◌+◌, ◌-◌, ◌<◌, ◌≤◌, Bool, true, false, not, ◌||◌, cond, List, [], ◌∷◌, length, reverse, rules, refl, sym, ap, subst, ◌∙◌, arith}
use Rattle.bidi_base.proofs.Common.{◌⊎◌, inl, inr, add-one, ⊤, filter, range_with_len, cases_Bool, both_ways, and_from, and_right, or_left, false_from_ne_true, reverse-append}
use Rattle.bidi_base.proofs.Common.{filter-append, is_isolate_initiator, is_embedding_initiator, is_opener, is_pdi, is_pdf, class_at, match_of, is_before, is_isolate_initiator_at, is_pdi_at, matching_pdi}
use Rattle.bidi_base.proofs.Common.{is_inside, is_level_with, is_embedding_level_with, is_pdf_level_with, closing_pdf, shares_isolates, is_embedded, is_open_at, open_at}
use Rattle.bidi_base.specs.declared.char_data.BidiClass.{BidiClass}
use Rattle.bidi_base.proofs.ChainLemmas.{range_with_len-append, filter_range-none}
use Rattle.bidi_laws.proofs.IsolatesLemmas.{initiators_apart}
use Rattle.bidi_laws.proofs.EmbeddingsLemmas.{same_if, list_all-range_with_len, list_all-from_each, is_level_with-each, is_level_with-same, is_level_with-refl}
use Rattle.bidi_laws.proofs.ReadStack.{Member, read_closed, IsReadStack, IsReadStack-start, IsReadStack-more, IsReadStack-open, IsReadStack-complete}

-- what is below the innermost isolate initiator of a stack, or `whole` where there is none
abbrev pub below_isolate : List BidiClass → List ℕ → List ℕ → List ℕ
below_isolate classes whole [] = whole
below_isolate classes whole (q ∷ stack) = cond (is_isolate_initiator_at classes q) stack (below_isolate classes whole stack)

-- the stack without its innermost opener, where that is an embedding
abbrev pub below_embedding : List BidiClass → List ℕ → List ℕ
below_embedding classes [] = []
below_embedding classes (q ∷ stack) = cond (is_isolate_initiator_at classes q) (q ∷ stack) stack

-- what p leaves open of what was open before it
unfoldable pub closed_by : List BidiClass → ℕ → List ℕ → List ℕ
closed_by classes p stack =
    cond (is_pdi_at classes p) (below_isolate classes stack stack) (cond (is_pdf (class_at classes p)) (below_embedding classes stack) stack)

-- p is pushed, if it opens
unfoldable pub opened_by : List BidiClass → ℕ → List ℕ → List ℕ
opened_by classes p stack = cond (is_opener (class_at classes p)) (p ∷ stack) stack

-- what is open once p characters were read, innermost first
unfoldable pub openers_read : List BidiClass → ℕ → List ℕ
openers_read classes zero = []
openers_read classes (suc p) = opened_by classes p (closed_by classes p (openers_read classes p))

-- an embedding initiator is nothing else, nor is a PDI
pub embedding_apart : (c : BidiClass) → is_embedding_initiator c ≡ true → (is_isolate_initiator c ≡ false) × (is_pdf c ≡ false)
embedding_apart c e = grind arith

pub pdf_apart : (c : BidiClass) → is_pdf c ≡ true → is_pdi c ≡ true → ⊥
pdf_apart c e f = grind arith

Member-filter : (test : ℕ → Bool) (q : ℕ) (xs : List ℕ) → Member q (filter test xs) → Member q xs × (test q ≡ true)
Member-filter test q [] member = absurd member
Member-filter test q (x ∷ xs) member = grind (arith, Member-filter test q xs)

filter-Member : (test : ℕ → Bool) (q : ℕ) (xs : List ℕ) → test q ≡ true → Member q xs → Member q (filter test xs)
filter-Member test q [] passes member = absurd member
filter-Member test q (x ∷ xs) passes member = grind (arith, filter-Member test q xs passes)

module _ (classes : List BidiClass) where
  -- what is open at p: what p leaves open of what was open before it
  abbrev pub left_at : ℕ → List ℕ
  left_at p = closed_by classes p (openers_read classes p)

  -- each opener of a stack stands on what it left open itself, so the stack goes down from p
  abbrev pub IsPushed : ℕ → List ℕ → Type 0
  IsPushed p [] = ⊤
  IsPushed p (q ∷ stack) = (q < p) × (is_opener (class_at classes q) ≡ true) × (stack ≡ left_at q) × IsPushed q stack

  IsPushed-later : (p m : ℕ) (stack : List ℕ) → p ≤ m → IsPushed p stack → IsPushed m stack
  IsPushed-later p m [] order h = tt
  IsPushed-later p m (q ∷ stack) order h = (omega (arith, h.0), h.1, h.2, h.3)

  -- of an opener in a stack, all that it left open is in the stack
  IsPushed-member : (p q : ℕ) (stack : List ℕ) → IsPushed p stack → Member q stack
      → (q < p) × (is_opener (class_at classes q) ≡ true) × IsPushed q (left_at q) × ((r : ℕ) → Member r (left_at q) → Member r stack)
  IsPushed-member p q [] h member = absurd member
  IsPushed-member p q (x ∷ stack) h member = grind (arith, IsPushed-member x q stack h.3)

  -- ---- what a character leaves of a stack

  abbrev pub initiators : List ℕ → List ℕ
  initiators stack = filter (is_isolate_initiator_at classes) stack

  -- a PDI finds no isolate, or leaves what the innermost one left open
  below_isolate-initiators : (p : ℕ) (whole stack : List ℕ) → IsPushed p stack → ((initiators stack ≡ []) × (below_isolate classes whole stack ≡ whole))
      ⊎ ((x : ℕ) × (initiators stack ≡ x ∷ initiators (left_at x)) × (below_isolate classes whole stack ≡ left_at x))
  below_isolate-initiators p whole [] h = inl (refl, refl)
  below_isolate-initiators p whole (q ∷ stack) h = grind (arith, below_isolate-initiators q whole stack)

  first_initiator : (x : ℕ) (stack rest : List ℕ) → initiators stack ≡ x ∷ rest → Member x stack × (is_isolate_initiator_at classes x ≡ true)
  first_initiator x stack rest e = Member-filter (is_isolate_initiator_at classes) x stack (subst (Member x) (sym e) (inl refl))

  abbrev pub HasNoEmbeddingOnTop : List ℕ → Type 0
  HasNoEmbeddingOnTop [] = ⊤
  HasNoEmbeddingOnTop (q ∷ stack) = is_isolate_initiator_at classes q ≡ true

  -- of a stack p leaves what is below its innermost isolate, what is below an embedding on top, or the whole
  pub data Leaves (p : ℕ) : List ℕ → List ℕ → Type 0 where
    closes_isolate : (stack : List ℕ) (x : ℕ) → is_pdi_at classes p ≡ true → initiators stack ≡ x ∷ initiators (left_at x) → Leaves p stack (left_at x)
    closes_embedding : (q : ℕ) (stack : List ℕ) → is_pdf (class_at classes p) ≡ true → is_isolate_initiator_at classes q ≡ false → Leaves p (q ∷ stack) stack
    closes_nothing : (stack : List ℕ) → (is_pdi_at classes p ≡ true → initiators stack ≡ [])
        → (is_pdf (class_at classes p) ≡ true → HasNoEmbeddingOnTop stack) → Leaves p stack stack

  leaves_by_pdf : (p : ℕ) (stack : List ℕ) → is_pdf (class_at classes p) ≡ true → Leaves p stack (below_embedding classes stack)
  leaves_by_pdf p [] pdf = closes_nothing [] (λ e. refl) (λ e. tt)
  leaves_by_pdf p (q ∷ stack) pdf = elim (cases_Bool (is_isolate_initiator_at classes q)) [
    | inl opens ↦ simp opens (closes_nothing (q ∷ stack) (λ pdi. absurd (pdf_apart _ pdf pdi)) (λ e. opens))
    | inr other ↦ simp other (closes_embedding q stack pdf other)
  ]

  leaves : (p : ℕ) (stack : List ℕ) → IsPushed p stack → Leaves p stack (closed_by classes p stack)
  unfolding closed_by
  leaves p stack h = by_tests (is_pdi_at classes p) (is_pdf (class_at classes p)) refl refl
    where
      by_tests : (a b : Bool) → is_pdi_at classes p ≡ a → is_pdf (class_at classes p) ≡ b → Leaves p stack (cond a (below_isolate classes stack stack) (cond b (below_embedding classes stack) stack))
      by_tests true b pdi e = elim (below_isolate-initiators p stack stack h) [
        | inl flat ↦ rw flat.1 (closes_nothing stack (λ e. flat.0) (λ pdf. absurd (pdf_apart _ pdf pdi)))
        | inr (x, first, below) ↦ rw below (closes_isolate stack x pdi first)
      ]
      by_tests false true pdi pdf = leaves_by_pdf p stack pdf
      by_tests false false pdi pdf = closes_nothing stack (λ e. absurd (both_ways (is_pdi_at classes p) pdi e)) (λ e. absurd (both_ways (is_pdf (class_at classes p)) pdf e))

  Leaves-IsPushed : (p m : ℕ) (stack left : List ℕ) → Leaves p stack left → IsPushed m stack → IsPushed m left
  Leaves-IsPushed p m stack left (closes_isolate _ x pdi first) h =
      grind (arith, IsPushed-member m x stack, first_initiator x stack, IsPushed-later x m)
  Leaves-IsPushed p m stack left (closes_embedding q below pdf other) h = grind (arith, IsPushed-later q m below)
  Leaves-IsPushed p m stack left (closes_nothing _ flat top) h = h

  pub openers_read-IsPushed : (p : ℕ) → IsPushed p (openers_read classes p)
  unfolding openers_read opened_by
  openers_read-IsPushed zero = tt
  openers_read-IsPushed (suc p) = grind (
    arith,
    openers_read-IsPushed p,
    Leaves-IsPushed p p (openers_read classes p) (left_at p) (leaves p (openers_read classes p)
        (openers_read-IsPushed p)) (openers_read-IsPushed p),
    IsPushed-later p (suc p) (left_at p),
  )

  pub leaves_at : (p : ℕ) → Leaves p (openers_read classes p) (left_at p)
  leaves_at p = leaves p (openers_read classes p) (openers_read-IsPushed p)

  pub left_at-IsPushed : (p : ℕ) → IsPushed p (left_at p)
  left_at-IsPushed p = Leaves-IsPushed p p (openers_read classes p) (left_at p) (leaves_at p) (openers_read-IsPushed p)

  -- where the openers that pass a test are closed as a stack of their own, they are that stack
  filter-IsReadStack : (test closes : ℕ → Bool) (p : ℕ) → ((k : ℕ) → test k ≡ true → (is_opener (class_at classes k) ≡ true) × (closes k ≡ false))
      → ((k : ℕ) → k < p → filter test (left_at k) ≡ read_closed (closes k) (filter test (openers_read classes k))) → IsReadStack test closes p (filter test (openers_read classes p))
  unfolding openers_read opened_by
  filter-IsReadStack test closes zero kinds closed = IsReadStack-start test closes
  filter-IsReadStack test closes (suc p) kinds closed = grind (
    arith,
    add-one p,
    kinds p,
    closed p,
    filter-IsReadStack test closes p kinds,
    IsReadStack-more test closes p (test p) (closes p),
  )

  -- so what p leaves of them is what has its match later, by counting
  counted-left : (test closes : ℕ → Bool) (p q : ℕ) → p < length classes → IsReadStack test closes (suc p) (filter test (openers_read classes (suc p)))
      → test q ≡ true → q < p → is_before p (match_of test closes (length classes) q) ≡ true → Member q (left_at p)
  unfolding openers_read opened_by
  counted-left test closes p q fits h passes order before = grind (arith, IsReadStack-complete, Member-filter)

  left-counted : (test closes : ℕ → Bool) (p q : ℕ) → IsReadStack test closes (suc p) (filter test (openers_read classes (suc p)))
      → test q ≡ true → Member q (left_at p) → is_before p (match_of test closes (length classes) q) ≡ true
  unfolding openers_read opened_by
  left-counted test closes p q h passes member = grind (arith, IsReadStack-open, filter-Member)

  -- ---- the isolates

  initiators-Leaves : (p : ℕ) (stack left : List ℕ) → Leaves p stack left → initiators left ≡ read_closed (is_pdi_at classes p) (initiators stack)
  initiators-Leaves p stack left h0 = grind arith

  -- the initiators of the stack are the isolates that are open
  pub initiators-IsReadStack : (p : ℕ) → IsReadStack (is_isolate_initiator_at classes) (is_pdi_at classes) p (initiators (openers_read classes p))
  initiators-IsReadStack p = search (rules, filter-IsReadStack, or_left, initiators_apart, initiators-Leaves, leaves_at)

  pub is_inside-parts : (q p : ℕ) → is_inside classes q p ≡ true → (is_isolate_initiator_at classes q ≡ true) × (q < p) × (is_before p (matching_pdi classes q) ≡ true)
  unfolding is_inside
  is_inside-parts q p e = grind arith

  -- p stands inside the isolates that it leaves open
  inside-left : (r p : ℕ) → p < length classes → is_inside classes r p ≡ true → Member r (left_at p)
  unfolding matching_pdi
  inside-left r p fits inside = grind (
    arith,
    is_inside-parts,
    counted-left (is_isolate_initiator_at classes) (is_pdi_at classes) p r,
    initiators-IsReadStack (suc p),
  )

  pub left-inside : (r p : ℕ) → is_isolate_initiator_at classes r ≡ true → Member r (left_at p) → is_inside classes r p ≡ true
  unfolding is_inside matching_pdi
  left-inside r p opens member = grind (
    arith,
    IsPushed-member p r (left_at p),
    left_at-IsPushed,
    left-counted (is_isolate_initiator_at classes) (is_pdi_at classes) p r,
    initiators-IsReadStack (suc p),
  )

  -- an isolate that goes on to p holds what is before p
  pub is_inside-sooner : (r k p : ℕ) → is_inside classes r p ≡ true → r < k → k ≤ p → is_inside classes r k ≡ true
  unfolding is_inside
  is_inside-sooner r k p inside from to = grind arith

  pub same_inside : (p q : ℕ) → p < length classes → q < length classes → left_at p ≡ left_at q → (r : ℕ) → is_inside classes r p ≡ is_inside classes r q
  same_inside p q fits_p fits_q e r = same_if (is_inside classes r p) (is_inside classes r q)
      (λ inside. left-inside r q (is_inside-parts r p inside).0 (subst (Member r) e (inside-left r p fits_p inside)))
      (λ inside. left-inside r p (is_inside-parts r q inside).0 (subst (Member r) (sym e) (inside-left r q fits_q inside)))

  -- ---- the embeddings that are level with c, while no isolate round c has ended

  module _ (c : ℕ) where
    abbrev level : List ℕ → List ℕ
    level stack = filter (is_embedding_level_with classes c) stack

    -- what is in an isolate x, and c not, or c and not it, is not level with c
    apart_level : (x q : ℕ) → x < length classes → (is_inside classes x c ≡ is_inside classes x q → ⊥) → is_embedding_level_with classes c q ≡ false
    apart_level x q within differ = and_right _ _ (false_from_ne_true (is_level_with classes c q) (λ e. absurd (differ (is_level_with-each classes c q e x within))))

    -- nothing inside an isolate x of the stack is level with c, if c stands outside
    closed_isolate : (p x : ℕ) (stack : List ℕ) → p ≤ length classes → IsPushed p stack → Member x stack → is_isolate_initiator_at classes x ≡ true → is_inside classes x c ≡ false
        → level stack ≡ level (left_at x)
    closed_isolate p x [] fits h member opens outside = absurd member
    closed_isolate p x (q ∷ stack) fits h (inl same) opens outside =
        let no_embedding : is_embedding_initiator (class_at classes q) ≡ false =
        grind (arith, embedding_apart) in simp (no_embedding, same, h.2)
    closed_isolate p x (q ∷ stack) fits h (inr there) opens outside =
        let inside : is_inside classes x q ≡ true = left-inside x q opens (simp h.2 at there) in
        let apart = apart_level x q (omega (arith, h.0, fits, (is_inside-parts x q inside).1)) (λ e. both_ways (is_inside classes x c) outside (e ∙ inside)) in
        simp (apart, closed_isolate q x stack (omega (arith, h.0)) h.3 there opens outside)

    -- up to an isolate q round c nothing is level with c
    none_level : (p q : ℕ) (stack : List ℕ) → q < length classes → is_inside classes q c ≡ true → p ≤ q + 1 → IsPushed p stack → level stack ≡ []
    none_level p q [] within inside order h = refl
    none_level p q (x ∷ stack) within inside order h =
        grind (arith, apart_level q x, is_inside-parts q x, none_level x q stack within inside)

    -- a PDI closes none of them, and a PDF the innermost, if it is level with c
    pub level-Leaves : (p : ℕ) (stack left : List ℕ) → p < length classes → IsPushed p stack → left_at p ≡ left
        → ((r : ℕ) → r < p → is_inside classes r c ≡ true → is_inside classes r p ≡ true)
        → Leaves p stack left → level left ≡ read_closed (is_pdf_level_with classes c p) (level stack)
    level-Leaves p stack left fits h is lasts (closes_isolate _ x pdi first) =
        grind (
          arith,
          closed_isolate p x stack,
          first_initiator x stack _ first,
          pdf_apart,
          inside-left x p,
          lasts x,
          IsPushed-member p x stack h,
          IsPushed-member x x (left_at x) (left_at-IsPushed x),
        )
    level-Leaves p stack left fits h is lasts (closes_embedding q below pdf other) =
        grind (arith, is_level_with-same classes c q p (same_inside q p (omega (arith, h.0)) fits (sym (is ∙ h.2))))
    level-Leaves p [] left fits h is lasts (closes_nothing _ flat top) = grind arith
    level-Leaves p (q ∷ xs) left fits h is lasts (closes_nothing _ flat top) =
        grind (arith, left-inside q p, is_level_with-each classes c p, none_level (q + 1) q (q ∷ xs))

    -- those of the stack are the ones that are open by counting
    pub level-IsReadStack : (p : ℕ) → p < length classes → ((r : ℕ) → is_inside classes r c ≡ true → is_inside classes r p ≡ true)
        → IsReadStack (is_embedding_level_with classes c) (is_pdf_level_with classes c) (suc p) (level (openers_read classes (suc p)))
    level-IsReadStack p fits lasts = filter-IsReadStack (is_embedding_level_with classes c) (is_pdf_level_with classes c) (suc p) (λ k e. grind (arith, embedding_apart))
        (λ k order. grind (
          arith,
          level-Leaves k (openers_read classes k) (left_at k),
          openers_read-IsPushed,
          is_inside-sooner,
          lasts,
          leaves_at,
        ))

  -- ---- what the definitions count as open

  module _ (p q : ℕ) (fits : p < length classes) (embedding : is_embedding_initiator (class_at classes q) ≡ true) where
    level_itself : is_embedding_level_with classes q q ≡ true
    level_itself = and_from _ _ embedding (is_level_with-refl classes q)

    left-embedded : Member q (left_at p) → is_embedded classes q p ≡ true
    unfolding is_embedded closing_pdf shares_isolates
    left-embedded member =
        let m = IsPushed-member p q (left_at p) (left_at-IsPushed p) member in
        let shares : (r : ℕ) → is_inside classes r q ≡ true → is_inside classes r p ≡ true = λ r inside.
        grind (arith, left-inside r p, is_inside-parts r q, m.3 r, inside-left r q) in
        grind (
          arith,
          m.0,
          left-counted (is_embedding_level_with classes q)
              (is_pdf_level_with classes q) p q (level-IsReadStack q p fits shares) level_itself member,
          list_all-from_each (λ r. not (is_inside classes r q) || is_inside classes r p) 0 (length classes)
              (λ r from below. grind (arith, shares r)),
        )

    embedded-left : is_embedded classes q p ≡ true → Member q (left_at p)
    unfolding is_embedded closing_pdf shares_isolates
    embedded-left embedded =
        let parts : (q < p) × (is_before p (closing_pdf classes q) ≡ true) × (shares_isolates classes q p ≡ true) = grind arith in
        counted-left (is_embedding_level_with classes q) (is_pdf_level_with classes q) p q fits
        (level-IsReadStack q p fits (λ r inside. grind (
          arith,
          is_inside-parts r q inside,
          list_all-range_with_len (λ x. not (is_inside classes x q) || is_inside classes x p) 0 (length classes) parts.2 r,
        )))
        level_itself parts.0 parts.1

  left-open : (p q : ℕ) → p < length classes → Member q (left_at p) → is_open_at classes q p ≡ true
  unfolding is_open_at
  left-open p q fits member = grind (arith, IsPushed-member, left_at-IsPushed p, left-inside q p, left-embedded p q fits)

  open-left : (p q : ℕ) → p < length classes → is_open_at classes q p ≡ true → Member q (left_at p)
  unfolding is_open_at is_embedded
  open-left p q fits e = grind (arith, inside-left, embedded-left)

  -- a stack that goes down and has just what passes a test is the list of what passes it
  filter-IsPushed : (test : ℕ → Bool) (p : ℕ) (stack : List ℕ) → IsPushed p stack → ((q : ℕ) → q < p → test q ≡ true → Member q stack) → ((q : ℕ) → Member q stack → test q ≡ true)
      → filter test (range_with_len 0 p) ≡ reverse stack
  filter-IsPushed test p [] h all passes = filter_range-none test 0 p (λ k from below. grind (arith, all k))
  filter-IsPushed test p (q ∷ stack) h all passes =
      let whole : p ≡ q + suc (p - (q + 1)) = omega (arith, h.0) in
      ap (λ (k : ℕ). filter test (range_with_len 0 k)) whole
      ∙ grind (
        arith,
        range_with_len-append 0 q,
        filter-append,
        passes q,
        filter_range-none test (q + 1) (p - (q + 1))
            (λ k from below. grind (arith, all k, IsPushed-member q k stack h.3)),
        filter-IsPushed test q stack h.3,
        all,
        passes,
        reverse-append (q ∷ []) stack,
      )

  pub open_at-closed_by : (p : ℕ) → p < length classes → open_at classes p ≡ reverse (closed_by classes p (openers_read classes p))
  unfolding open_at
  open_at-closed_by p fits = grind (arith, filter-IsPushed, left_at-IsPushed, open-left, left-open)
