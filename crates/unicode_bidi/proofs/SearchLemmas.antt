-- The search for a base direction, step by step, finds what the walk over a whole text finds.
use Rattle.bidi_base.proofs.Common.{◌≡◌, ◌∙◌, ap, sym, ℕ, zero, suc, ◌+◌, ◌≤◌, replicate, Bool, true, false, not, ◌&&◌, ◌||◌, ◌==◌, if◌then◌else◌, List, [], ◌∷◌, ◌++◌, length, map, list_any, refl}
use Rattle.bidi_base.proofs.Common.{◌<◌, append-nil, Some, direction_by, arith, cases_Bool, is_strong, is_isolate_initiator, is_pdi, is_paragraph_separator, ne_eqb, base_direction, paragraphs_of}
use Rattle.bidi_base.proofs.Common.{each_separator, Source, full_base_direction}
use Rattle.bidi_base.specs.declared.char_data.BidiClass.{BidiClass}
use Rattle.bidi_base.specs.declared.char_data.BidiClass.TheVariants.{R, L, LRI, PDI}
use Rattle.bidi_base.specs.declared.char_data.Direction.{Direction}
use Rattle.bidi_base.specs.declared.char_data.Direction.TheVariants.{Mixed}
use Rattle.bidi_laws.proofs.DirectionWalk.{direction_from, direction_from-classes, direction_from-is}
use Rattle.bidi_laws.proofs.IsolateWalk.{is_zero, depth_by, kind_of, initiator-kind, pdi-kind}
use Rattle.bidi_paragraphs.specs.FirstPass.{depth_after}
use Rattle.unicode_bidi.specs.DirectionSearch.{direction_after, direction_with, IsSearched, direction_found}
use Rattle.unicode_bidi.specs.declared.direction_search.DirectionSearch.{DirectionSearch}
use Rattle.unicode_bidi.specs.declared.direction_search.DirectionSearch.TheVariants.{Found, Open}

-- a strong character outside isolates decides; a separator ends the search, or with `full` every open isolate
abbrev pub search_step : Bool → ℕ → BidiClass → DirectionSearch
search_step full depth c =
    if is_strong c && depth == 0 then Found (direction_by (Some c))
    else if is_paragraph_separator c then (if full then Open 0 else Found Mixed)
    else Open (depth_after c depth)

-- a search that is not over goes on
abbrev pub search_on : (ℕ → DirectionSearch) → DirectionSearch → DirectionSearch
search_on more (Found direction) = Found direction
search_on more (Open depth) = more depth

-- how far the search comes, step by step
abbrev pub search_in : Bool → ℕ → List BidiClass → DirectionSearch
search_in full depth [] = Open depth
search_in full depth (c ∷ cs) = search_on (λ now. search_in full now cs) (search_step full depth c)

-- the search is over
abbrev pub is_over : DirectionSearch → Bool
is_over (Found direction) = true
is_over (Open depth) = false

abbrev pub is_mixed : Direction → Bool
is_mixed Mixed = true
is_mixed _ = false

pub zero_test : (d : ℕ) → (d == 0) ≡ is_zero d
zero_test zero = refl
zero_test (suc d) = ne_eqb (suc d) 0 (omega arith)

pub counted : (d : ℕ) (c : BidiClass) → depth_after c d ≡ depth_by (kind_of c) d
counted d c = grind (arith, initiator-kind c, pdi-kind c)

-- ---- the direction after open isolates

opened : (full : Bool) (d n : ℕ) (cs : List BidiClass) → direction_from full n (replicate d LRI ++ cs) ≡ direction_from full (d + n) cs
unfolding kind_of
opened full zero n cs = ap (λ m. direction_from full m cs) (omega arith)
opened full (suc d) n cs = opened full d (suc n) cs ∙ ap (λ m. direction_from full m cs) (omega arith)

-- it is what the walk finds
pub direction_after-from : (full : Bool) (d : ℕ) (cs : List BidiClass) → direction_after full d cs ≡ direction_from full d cs
direction_after-from full d cs = sym (direction_from-classes full (replicate d LRI ++ cs)) ∙ opened full d 0 cs ∙ ap (λ m. direction_from full m cs) (omega arith)

-- ---- the search step by step

-- what it leaves of the walk
from_with : Bool → DirectionSearch → List BidiClass → Direction
from_with full (Found direction) more = direction
from_with full (Open depth) more = direction_from full depth more

direction_with-from : (full : Bool) (found : DirectionSearch) (more : List BidiClass) → direction_with full found more ≡ from_with full found more
unfolding from_with
direction_with-from full (Found direction) more = refl
direction_with-from full (Open depth) more = direction_after-from full depth more

step-from : (full : Bool) (d : ℕ) (c : BidiClass) (cs : List BidiClass) → direction_from full d (c ∷ cs) ≡ from_with full (search_step full d c) cs
unfolding from_with
step-from full d c cs = grind (arith, zero_test d, counted d c, cases_Bool full, cases_Bool (is_strong c), cases_Bool (is_zero d), cases_Bool (is_paragraph_separator c))

on_from : (full : Bool) (cs more : List BidiClass) → ((e : ℕ) → direction_from full e (cs ++ more) ≡ from_with full (search_in full e cs) more)
    → (step : DirectionSearch) → from_with full step (cs ++ more) ≡ from_with full (search_on (λ now. search_in full now cs) step) more
unfolding from_with
on_from full cs more rest (Found direction) = refl
on_from full cs more rest (Open depth) = rest depth

search_in-from : (full : Bool) (d : ℕ) (cs more : List BidiClass) → direction_from full d (cs ++ more) ≡ from_with full (search_in full d cs) more
unfolding from_with
search_in-from full d [] more = refl
search_in-from full d (c ∷ cs) more = step-from full d c (cs ++ more) ∙ on_from full cs more (λ e. search_in-from full e cs more) (search_step full d c)

pub search_in-searched : (full : Bool) (d : ℕ) (cs : List BidiClass) → IsSearched full d cs (search_in full d cs)
search_in-searched full d cs = λ more. direction_after-from full d (cs ++ more) ∙ search_in-from full d cs more ∙ sym (direction_with-from full (search_in full d cs) more)

-- so many PDIs close the isolates that are open, and then R or L decides
closed : (full : Bool) (n d : ℕ) (c : BidiClass) → is_strong c ≡ true → d ≤ n → direction_from full d (replicate n PDI ++ c ∷ []) ≡ direction_by (Some c)
unfolding kind_of
closed full zero d c strong enough = grind arith
closed full (suc n) zero c strong enough = closed full n 0 c strong (omega arith)
closed full (suc n) (suc d) c strong enough = closed full n d c strong (omega arith)

-- fewer do not
unclosed : (full : Bool) (n d : ℕ) → n < d → direction_from full d (replicate n PDI ++ R ∷ []) ≡ Mixed
unfolding kind_of
unclosed full n zero fewer = absurd (omega arith)
unclosed full zero (suc d) fewer = refl
unclosed full (suc n) (suc d) fewer = unclosed full n d (omega arith)

no_fewer : (full : Bool) (d e : ℕ) → ((more : List BidiClass) → direction_from full d more ≡ direction_from full e more) → d < e → ⊥
no_fewer full d e same fewer =
    let reported = sym (closed full d d R refl (omega arith)) ∙ same (replicate d PDI ++ R ∷ []) ∙ unclosed full d e fewer in cc reported

not_open : (full : Bool) (direction : Direction) (d : ℕ) → ((more : List BidiClass) → direction ≡ direction_from full d more) → ⊥
not_open full direction d same =
    let left = same (replicate d PDI ++ L ∷ []) ∙ closed full d d L refl (omega arith) in
    let right = same (replicate d PDI ++ R ∷ []) ∙ closed full d d R refl (omega arith) in
    cc (left, right)

same_search : (full : Bool) (r s : DirectionSearch) → ((more : List BidiClass) → from_with full r more ≡ from_with full s more) → r ≡ s
unfolding from_with
same_search full (Found x) (Found y) same = ap Found (same [])
same_search full (Found x) (Open e) same = absurd (not_open full x e same)
same_search full (Open d) (Found y) same = absurd (not_open full y d (λ more. sym (same more)))
same_search full (Open d) (Open e) same = ap Open (omega (arith, no_fewer full d e same, no_fewer full e d (λ more. sym (same more))))

-- no other state is right
pub searched-in : (full : Bool) (d : ℕ) (cs : List BidiClass) (found : DirectionSearch) → IsSearched full d cs found → found ≡ search_in full d cs
searched-in full d cs found is =
    same_search full found (search_in full d cs) (λ more. sym (direction_with-from full found more) ∙ sym (is more) ∙ search_in-searched full d cs more ∙ direction_with-from full (search_in full d cs) more)

-- one character
pub step-searched : (full : Bool) (d : ℕ) (c : BidiClass) (found : DirectionSearch) → found ≡ search_step full d c → IsSearched full d (c ∷ []) found
step-searched full d c found is = λ more. direction_after-from full d (c ∷ more) ∙ step-from full d c more ∙ ap (λ s. from_with full s more) (sym is) ∙ sym (direction_with-from full found more)

pub searched-step : (full : Bool) (d : ℕ) (c : BidiClass) (found : DirectionSearch) → IsSearched full d (c ∷ []) found → found ≡ search_step full d c
searched-step full d c found is = same_search full found (search_step full d c) (λ more. sym (direction_with-from full found more) ∙ sym (is more) ∙ direction_after-from full d (c ∷ more) ∙ step-from full d c more)

-- what follows does not change a direction that was found
pub over_with : (full : Bool) (found : DirectionSearch) → ((depth : ℕ) → found ≡ Open depth → ⊥) → (before after : List BidiClass) → direction_with full found before ≡ direction_with full found after
over_with full (Found direction) over before after = refl
over_with full (Open depth) over before after = absurd (over depth refl)

-- at the front of a text
direction_found-from : (full : Bool) (found : DirectionSearch) → direction_found found ≡ from_with full found []
unfolding from_with
direction_found-from full (Found direction) = refl
direction_found-from full (Open depth) = refl

-- a search in one piece after another
search_on-later : (full : Bool) (xs ys : List BidiClass) → ((d : ℕ) → search_in full d (xs ++ ys) ≡ search_on (λ now. search_in full now ys) (search_in full d xs)) → (step : DirectionSearch)
    → search_on (λ now. search_in full now (xs ++ ys)) step ≡ search_on (λ now. search_in full now ys) (search_on (λ now. search_in full now xs) step)
search_on-later full xs ys rest (Found direction) = refl
search_on-later full xs ys rest (Open depth) = rest depth

pub search_in-append : (full : Bool) (d : ℕ) (xs ys : List BidiClass) → search_in full d (xs ++ ys) ≡ search_on (λ now. search_in full now ys) (search_in full d xs)
search_in-append full d [] ys = refl
search_in-append full d (x ∷ xs) ys = search_on-later full xs ys (λ now. search_in-append full now xs ys) (search_step full d x)

decided : (c : BidiClass) → is_strong c ≡ true → (ended : Bool) → true ≡ not (is_mixed (direction_by (Some c))) || ended
decided c strong ended = grind arith

-- the search is over once a direction is found, or without `full` the first paragraph has ended
pub search_in-over : (full : Bool) (d : ℕ) (cs : List BidiClass) → is_over (search_in full d cs) ≡ not (is_mixed (direction_from full d cs)) || (not full && list_any is_paragraph_separator cs)
search_in-over true d [] = refl
search_in-over false d [] = refl
search_in-over full d (c ∷ cs) =
    grind (arith, zero_test d, counted d c, decided c, cases_Bool full, cases_Bool (is_strong c), cases_Bool (is_zero d), cases_Bool (is_paragraph_separator c), search_in-over full 0 cs, search_in-over full (depth_by (kind_of c) d) cs)

-- no more isolates are open than characters were read
pub depth_after-le : (d : ℕ) (c : BidiClass) → depth_after c d ≤ d + 1
depth_after-le d c = grind (arith, cases_Bool (is_isolate_initiator c), cases_Bool (is_pdi c))

pub step-le : (full : Bool) (d : ℕ) (c : BidiClass) (e : ℕ) → search_step full d c ≡ Open e → e ≤ d + 1
step-le full d c e is = grind (arith, depth_after-le d c)

list_any-map : (f : ℕ → BidiClass) (chars : List ℕ) → list_any is_paragraph_separator (map f chars) ≡ list_any (λ c. is_paragraph_separator (f c)) chars
list_any-map f [] = refl
list_any-map f (c ∷ cs) = ap (λ b. is_paragraph_separator (f c) || b) (list_any-map f cs)

module _ (source : Source) (full : Bool) (chars : List ℕ) where
  -- the base direction of some characters
  abbrev pub direction_of : Direction
  direction_of = if full then full_base_direction (map (map source.class_of) (paragraphs_of (each_separator source) chars)) else base_direction (map (map source.class_of) (paragraphs_of (each_separator source) chars))

  -- a search from the front on finds it
  pub search_in-is : direction_found (search_in full 0 (map source.class_of chars)) ≡ direction_of
  search_in-is =
      let classes = map source.class_of chars in
      direction_found-from full (search_in full 0 classes) ∙ sym (search_in-from full 0 classes []) ∙ ap (direction_from full 0) (append-nil classes) ∙ direction_from-is source chars full

  pub searched-front : (depth : ℕ) (found : DirectionSearch) → IsSearched full depth (map source.class_of chars) found → depth ≡ 0 → direction_found found ≡ direction_of
  searched-front depth found is front =
      let classes = map source.class_of chars in
      ap direction_found (searched-in full depth classes found is ∙ ap (λ d. search_in full d classes) front) ∙ search_in-is

  -- and is over where it is not mixed, or the first paragraph has ended
  pub is_over-is : is_over (search_in full 0 (map source.class_of chars)) ≡ not (is_mixed direction_of) || (not full && list_any (λ c. is_paragraph_separator (source.class_of c)) chars)
  is_over-is = rw (← direction_from-is source chars full, ← list_any-map source.class_of chars) (search_in-over full 0 (map source.class_of chars))

-- after some characters no more isolates are open than were read
search_on-le : (more : ℕ → DirectionSearch) (n d : ℕ) → ((now e : ℕ) → more now ≡ Open e → e ≤ now + n) → (step : DirectionSearch) → ((now : ℕ) → step ≡ Open now → now ≤ d + 1)
    → (e : ℕ) → search_on more step ≡ Open e → e ≤ d + (n + 1)
search_on-le more n d rest (Found direction) first e is = absurd (cc is)
search_on-le more n d rest (Open depth) first e is = omega (arith, first depth refl, rest depth e is)

pub search_in-le : (full : Bool) (d : ℕ) (cs : List BidiClass) (e : ℕ) → search_in full d cs ≡ Open e → e ≤ d + length cs
search_in-le full d [] e is = grind arith
search_in-le full d (c ∷ cs) e is =
    let few = search_on-le (λ now. search_in full now cs) (length cs) d (λ now f. search_in-le full now cs f) (search_step full d c) (λ now. step-le full d c now) e is in omega (arith, few)
