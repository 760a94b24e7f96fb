-- The numbers of a text's characters, one after another, and the search for the direction of classes.
use Rattle.bidi_base.proofs.Common.{◌≡◌, ◌∙◌, ℕ, ◌+◌, ◌<◌, ◌≤◌, Bool, List, [], ◌∷◌, ◌++◌, length, take, drop, get_or, map, replicate, sym, ap, arith, add-one, drop-cons}
use Rattle.bidi_base.proofs.Common.{take_more, map-append, length-map, length-replicate}
use borrow.Rule.Slice.PartMut.{put_mid}
use Rattle.std.proofs.lemmas.Slice.{take-put_mid}
use Rattle.bidi_base.proofs.PerUnit.{per_unit-push}
use Rattle.bidi_base.proofs.UnitIndexLemmas.{CharTurn}
use Rattle.bidi_numbers.specs.Numbers.{class_numbered, direction_number, direction_in}
use Rattle.bidi_calls.specs.Characters.{numbers_of, numbered_source}
use Rattle.unicode_bidi.specs.DirectionSearch.{direction_found}
use Rattle.unicode_bidi.proofs.SearchLemmas.{search_in, search_on, search_step, search_in-is}

module _ {N : Type 0} (number : ℕ → N) (len_of : ℕ → ℕ) where
  numbers-push : (front : List ℕ) (c : ℕ) → numbers_of number len_of (front ++ c ∷ []) ≡ numbers_of number len_of front ++ replicate (len_of c) (number c)
  numbers-push front c = rw (map-append number front (c ∷ [])) (per_unit-push len_of front (map number front) c (number c) (length-map front number))

  -- the numbers of one character more
  numbers-more : (chars : List ℕ) (n at c : ℕ) → CharTurn len_of chars n at c
      → numbers_of number len_of (take (n + 1) chars) ≡ numbers_of number len_of (take n chars) ++ replicate (len_of c) (number c)
  numbers-more chars n at c turn =
      rw (take_more chars n 0 turn.within, turn.is_char) (numbers-push (take n chars) c)

  -- they are written after those of the characters before it
  pub written_more : (chars : List ℕ) (n at c : ℕ) → CharTurn len_of chars n at c → (out part : List N) (k end : ℕ) → at ≤ length out → end ≡ at + len_of c
      → part ≡ replicate (len_of c) (number c) → take at out ≡ numbers_of number len_of (take n chars)
      → take end (put_mid at k out part) ≡ numbers_of number len_of (take (n + 1) chars)
  written_more chars n at c turn out part k end fits ends same before =
      let long : end ≡ at + length part = omega (arith, ends, ap length same, length-replicate (len_of c) (number c)) in
      take-put_mid at k out part end long fits ∙ rw (before, same) (sym (numbers-more chars n at c turn))

-- the search from a class on
pub class_step : (full : Bool) (depth i : ℕ) (ns : List ℕ) → i < length ns
    → search_in full depth (map class_numbered (drop i ns))
    ≡ search_on (λ now. search_in full now (map class_numbered (drop (i + 1) ns))) (search_step full depth (class_numbered (get_or ns i 0)))
class_step full depth i ns within =
    let next : drop i ns ≡ get_or ns i 0 ∷ drop (i + 1) ns = rw add-one (drop-cons ns i 0 within) in
    ap (λ ms. search_in full depth (map class_numbered ms)) next

-- where it ends
pub class_direction : (full : Bool) (ns : List ℕ) → direction_number (direction_found (search_in full 0 (map class_numbered ns))) ≡ direction_in numbered_source full ns
unfolding direction_in
class_direction full ns = ap direction_number (search_in-is numbered_source full ns)
