-- A sequence's runs, as the links lead to them one after another.
use Rattle.bidi_base.proofs.Common.{◌≡◌, ℕ, zero, suc, ◌+◌, ◌-◌, ◌<◌, ◌≤◌, List, [], ◌∷◌, ◌++◌, length, map, get_or, Option, Some, None, refl, sym, ap, ◌∙◌, arith, append-nil, append_assoc}
use Rattle.bidi_base.proofs.Common.{drop-cons, take, drop, take-append-le, drop-append-le, get_or-take, subst, is_some, unwrap_or, IsTrue, get_or_default, Range, map-append, get_or-map, last_or}
use Rattle.bidi_base.proofs.Common.{chain, bounds, is_run_sequence}
use Rattle.bidi_base.proofs.ChainLemmas.{chain-None}
use Rattle.bidi_base.proofs.Lists.{last_or-append}
use Rattle.bidi_base.specs.declared.char_data.BidiClass.{BidiClass}
use Rattle.bidi_base.specs.declared.char_data.BidiClass.TheVariants.{L}
use Rattle.bidi_explicit.specs.Joining.{JoinedRuns}
use Rattle.bidi_explicit.specs.Links.{next_run, run_chain, sides_at, sequence_at, AreLinked}
use Rattle.bidi_explicit.proofs.WalkLemmas.{no_range}
use Rattle.bidi_explicit.specs.declared.prepare.links.RunLinks.{RunLinks}

chain-some : (next : ℕ → Option ℕ) (k q : ℕ) → 0 < k → chain next k (Some q) ≡ q ∷ chain next (k - 1) (next q)
chain-some next zero q some = absurd (omega arith)
chain-some next (suc k) q some = ap {B = List ℕ} (λ m. q ∷ chain next m (next q)) (let e : k ≡ suc k - 1 = omega arith in e)

-- the runs from the first up to `last` came
pub record IsGathered (links : RunLinks) (runs : List (ℕ × ℕ)) (first last : ℕ) (came : List (Range ℕ)) : Type 0 where
  pub taken : List ℕ
  pub left : ℕ
  pub is : run_chain links first ≡ taken ++ chain (next_run links.next.items) left (next_run links.next.items last)
  pub same : map bounds came ≡ map (λ r. get_or runs r (0, 0)) taken
  pub final : last ≡ last_or first taken
  pub reaches : length runs ≤ left + last + 1
  pub within : last < length runs

module _ (links : RunLinks) (runs : List (Range ℕ)) (linked : AreLinked links (map bounds runs)) (first : ℕ) (long : length (map bounds runs) ≡ length runs) where
  range_is : (k : ℕ) (r : Range ℕ) → k < length runs → r ≡ get_or runs k r → bounds r ≡ get_or (map bounds runs) k (0, 0)
  range_is k r within is = ap bounds is ∙ sym (get_or-map bounds runs k r (0, 0) within)

  pub IsGathered-start : (r : Range ℕ) → first < length runs → r ≡ get_or runs first r → IsGathered links (map bounds runs) first first (r ∷ [])
  IsGathered-start r within is = record {
    taken = first ∷ [];
    left = length links.next.items - 1;
    is = chain-some (next_run links.next.items) (length links.next.items) first (omega (arith, linked.all_next, long));
    same = ap {B = List (ℕ × ℕ)} (λ b. b ∷ []) (range_is first r within is);
    final = refl;
    reaches = omega (arith, linked.all_next, long);
    within = omega (arith, long);
  }

  pub IsGathered-more : (last next : ℕ) (came : List (Range ℕ)) (r : Range ℕ) → IsGathered links (map bounds runs) first last came
      → next_run links.next.items last ≡ Some next → r ≡ get_or runs next r → IsGathered links (map bounds runs) first next (came ++ r ∷ [])
  IsGathered-more last next came r h e is =
      let order = linked.later last next e in
      let more : chain (next_run links.next.items) h.left (next_run links.next.items last) ≡ next ∷ chain (next_run links.next.items) (h.left - 1) (next_run links.next.items next) =
      ap (chain (next_run links.next.items) h.left) e ∙ chain-some (next_run links.next.items) h.left next (omega (arith, order.0, order.1, h.reaches)) in
      record {
        taken = h.taken ++ next ∷ [];
        left = h.left - 1;
        is = h.is ∙ ap {B = List ℕ} (λ xs. h.taken ++ xs) more ∙ sym (append_assoc h.taken (next ∷ []) (chain (next_run links.next.items) (h.left - 1) (next_run links.next.items next)));
        same = map-append bounds came (r ∷ []) ∙ ap {B = List (ℕ × ℕ)} (λ bs. bs ++ bounds r ∷ []) h.same ∙ ap {B = List (ℕ × ℕ)} (λ b. map (λ r. get_or (map bounds runs) r (0, 0)) h.taken ++ b ∷ []) (range_is next r (omega (arith, order.1, long)) is)
            ∙ sym (map-append (λ r. get_or (map bounds runs) r (0, 0)) h.taken (next ∷ []));
        final = sym (last_or-append first h.taken next);
        reaches = omega (arith, h.reaches, order.0, order.1);
        within = order.1;
      }

  -- the runs that were linked stand before those that are copied
  module _ (list : List (Range ℕ)) (n : ℕ) (is : n ≡ length links.next.items) (kept : take n list ≡ runs) (room : n ≤ length list) where
    pub copied-kept : (r : Range ℕ) → take n (list ++ r ∷ []) ≡ runs
    copied-kept r = take-append-le n list (r ∷ []) room ∙ kept

    pub copied-more : (r : Range ℕ) → drop n (list ++ r ∷ []) ≡ drop n list ++ r ∷ []
    copied-more r = drop-append-le n list (r ∷ []) room

    pub copied-is : (k : ℕ) (d : Range ℕ) → k < n → get_or list k d ≡ get_or runs k d
    copied-is k d within = sym (get_or-take n list k d within) ∙ ap (λ (l : List (Range ℕ)). get_or l k d) kept

    -- a run by itself
    pub copied-one : (k : ℕ) → k < n → n ≡ length runs → take (k + 1 - k) (drop k list) ≡ take (k + 1 - k) (drop k runs)
    copied-one k within all =
        let width : k + 1 - k ≡ 1 = omega arith in
        rw (width, drop-cons list k no_range (omega (arith, within, room)), drop-cons runs k no_range (omega (arith, within, all)), copied-is k no_range within) refl

  pub record IsWholeChain (last : ℕ) (came : List (Range ℕ)) : Type 0 where
    pub runs_are : map bounds came ≡ map (λ r. get_or (map bounds runs) r (0, 0)) (run_chain links first)
    pub final : last ≡ last_or first (run_chain links first)
    pub within : last < length runs

  pub IsGathered-end : (last : ℕ) (came : List (Range ℕ)) → IsGathered links (map bounds runs) first last came → next_run links.next.items last ≡ None → IsWholeChain last came
  IsGathered-end last came h e =
      let all : run_chain links first ≡ h.taken = h.is ∙ ap {B = List ℕ} (λ xs. h.taken ++ xs) (ap (chain (next_run links.next.items) h.left) e ∙ chain-None (next_run links.next.items) h.left) ∙ append-nil h.taken in
      record {
        runs_are = h.same ∙ ap (map (λ r. get_or (map bounds runs) r (0, 0))) (sym all);
        final = h.final ∙ ap (last_or first) (sym all);
        within = omega (arith, h.within, long);
      }

  -- a run from which no link leads is a chain by itself
  pub run_chain-one : first < length runs → next_run links.next.items first ≡ None → run_chain links first ≡ first ∷ []
  run_chain-one within e =
      chain-some (next_run links.next.items) (length links.next.items) first (omega (arith, linked.all_next, long))
      ∙ ap {B = List ℕ} (λ xs. first ∷ xs) (ap (chain (next_run links.next.items) (length links.next.items - 1)) e ∙ chain-None (next_run links.next.items) (length links.next.items - 1))

  -- the sequence that begins with the run, by its runs and the classes at its ends
  module _ (within : first < length runs) (sos eos : BidiClass) (sos_is : (sides_at links.sides.items first).sos ≡ Some sos) where
    pub sequence_at-chain : (last : ℕ) (came : List (Range ℕ)) → IsWholeChain last came → (sides_at links.sides.items last).eos ≡ eos → record { runs = map bounds came; sos = sos; eos = eos } ≡ sequence_at links (map bounds runs) first
    sequence_at-chain last came h eos_is = λ i. record {
      runs = h.runs_are i;
      sos = (sym (ap (λ (o : Option BidiClass). unwrap_or o L) sos_is)) i;
      eos = (sym eos_is ∙ ap (λ (k : ℕ). (sides_at links.sides.items k).eos) h.final) i;
    }

    pub sequence_at-one : (came : List (Range ℕ)) → came ≡ take (first + 1 - first) (drop first runs) → next_run links.next.items first ≡ None → (sides_at links.sides.items first).eos ≡ eos → record { runs = map bounds came; sos = sos; eos = eos } ≡ sequence_at links (map bounds runs) first
    sequence_at-one came part e eos_is =
        let r : Range ℕ = get_or runs first no_range in
        let chain_is = run_chain-one within e in
        let one : take (first + 1 - first) (drop first runs) ≡ r ∷ [] = rw (let width : first + 1 - first ≡ 1 = omega arith in width) (rw (drop-cons runs first no_range within) refl) in
        sequence_at-chain first came
        (record {
          runs_are = ap (map bounds) (part ∙ one) ∙ ap {B = List (ℕ × ℕ)} (λ b. b ∷ []) (range_is first r within (get_or_default runs first no_range r within)) ∙ sym (ap (map (λ k. get_or (map bounds runs) k (0, 0))) chain_is);
          final = sym (ap (last_or first) chain_is);
          within = within;
        }) eos_is

    pub sequence_at-well_formed : (came : List (Range ℕ)) → record { runs = map bounds came; sos = sos; eos = eos } ≡ sequence_at links (map bounds runs) first → IsTrue (is_run_sequence (map bounds came) sos eos)
    sequence_at-well_formed came is =
        subst (λ (j : JoinedRuns). IsTrue (is_run_sequence j.runs j.sos j.eos)) (sym is) (linked.well_formed first (omega (arith, long, within)) (ap is_some sos_is))
