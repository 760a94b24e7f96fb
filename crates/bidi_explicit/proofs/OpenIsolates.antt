-- The open isolates, of which those alike are counted.
use Rattle.bidi_base.proofs.Common.{◌≡◌, ℕ, suc, ◌+◌, ◌-◌, ◌<◌, List, [], ◌∷◌, ◌++◌, length, get_or, take, Option, Some, None, sym, ap, ◌∙◌, arith, append-nil, append_assoc, flat_map-append}
use Rattle.bidi_base.proofs.Common.{length-append, take-append_seam, slice_get, slice_set, replicate, replicate-append-replicate, last_or}
use Rattle.bidi_base.proofs.Lists.{last_or-append}
use Rattle.bidi_explicit.specs.Waiting.{open_isolates}
use Rattle.bidi_explicit.specs.declared.prepare.waiting.Alike.{Alike}

-- one more of a kind
pub open-more : (rows : List Alike) (w : Option ℕ) (n : ℕ) → open_isolates (rows ++ record { wait = w; times = suc n } ∷ []) ≡ open_isolates (rows ++ record { wait = w; times = n } ∷ []) ++ w ∷ []
open-more rows w n = grind (arith, flat_map-append, append_assoc, append-nil, replicate-append-replicate n 1 w)

-- and one less
pub take-pushed : (waits : List (Option ℕ)) (w : Option ℕ) → take (length (waits ++ w ∷ []) - 1) (waits ++ w ∷ []) ≡ waits
take-pushed waits w =
    let long : length (waits ++ w ∷ []) - 1 ≡ length waits = omega (arith, length-append waits (w ∷ [])) in
    ap (λ n. take n (waits ++ w ∷ [])) long ∙ take-append_seam waits (w ∷ [])

-- the last of a list ends it
ends_with : (rows : List Alike) (r : Alike) → slice_get rows (length rows - 1) ≡ Some r → rows ≡ take (length rows - 1) rows ++ r ∷ []
ends_with [] r e = absurd (cc e)
ends_with (q ∷ []) r e = cc e
ends_with (q ∷ p ∷ rows) r e = grind (arith, ends_with (p ∷ rows) r)

-- what waits for the innermost
pub open-last : (rows : List Alike) (r : Alike) → 0 < r.times → slice_get rows (length rows - 1) ≡ Some r → last_or None (open_isolates rows) ≡ r.wait
open-last rows r some e = by_times (r.times - 1) (omega arith)
  where
    before : List Alike
    before = take (length rows - 1) rows

    by_times : (n : ℕ) → suc n ≡ r.times → last_or None (open_isolates rows) ≡ r.wait
    by_times n is =
        let same : open_isolates rows ≡ open_isolates (before ++ record { wait = r.wait; times = n } ∷ []) ++ r.wait ∷ [] = ap open_isolates (ends_with rows r e) ∙ rw (← is) (open-more before r.wait n) in
        ap (last_or None) same ∙ last_or-append None (open_isolates (before ++ record { wait = r.wait; times = n } ∷ [])) r.wait

-- the last of a list, by its index
ends_at : (rows : List Alike) (r : Alike) → 0 < length rows → r ≡ get_or rows (length rows - 1) r → rows ≡ take (length rows - 1) rows ++ r ∷ []
ends_at [] r some e = absurd (omega arith)
ends_at (q ∷ []) r some e = cc e
ends_at (q ∷ p ∷ rows) r some e = grind (arith, ends_at (p ∷ rows) r)

-- another in its place
last-set : (rows : List Alike) (r : Alike) → 0 < length rows → slice_set rows (length rows - 1) r ≡ take (length rows - 1) rows ++ r ∷ []
last-set [] r some = absurd (omega arith)
last-set (q ∷ []) r some = cc
last-set (q ∷ p ∷ rows) r some = grind (arith, last-set (p ∷ rows) r)

-- more of the last
pub last-grown : (rows : List Alike) (r : Alike) (n : ℕ) → 0 < length rows → r ≡ get_or rows (length rows - 1) r
    → open_isolates (slice_set rows (length rows - 1) record { wait = r.wait; times = r.times + n }) ≡ open_isolates rows ++ replicate n r.wait
last-grown rows r n some e =
    grind (arith, ends_at rows r, last-set rows record { wait = r.wait; times = r.times + n }, flat_map-append, append_assoc, append-nil, replicate-append-replicate r.times n r.wait)

-- one of the last less
pub last-shrunk : (rows : List Alike) (r : Alike) (n : ℕ) → suc n ≡ r.times → 0 < length rows → r ≡ get_or rows (length rows - 1) r
    → open_isolates (slice_set rows (length rows - 1) record { wait = r.wait; times = n }) ≡ take (length (open_isolates rows) - 1) (open_isolates rows)
last-shrunk rows r n one some e =
    let fewer : Alike = record { wait = r.wait; times = n } in
    let before : List Alike = take (length rows - 1) rows in
    let was : open_isolates rows ≡ open_isolates (before ++ fewer ∷ []) ++ r.wait ∷ [] = ap open_isolates (ends_at rows r some e) ∙ rw (← one) (open-more before r.wait n) in
    rw (was, last-set rows fewer some) (sym (take-pushed (open_isolates (before ++ fewer ∷ [])) r.wait))
