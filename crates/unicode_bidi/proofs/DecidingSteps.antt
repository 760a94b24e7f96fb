-- The search for a character that decides (P2), character by character.
use Rattle.bidi_base.proofs.Common.{◌≡◌, ℕ, ◌+◌, true, false, ◌&&◌, ◌==◌, List, ◌∷◌, drop, map, arith, cases_Bool, is_strong}
use Rattle.std.specs.Prelude.{is_some}
use Rattle.bidi_base.specs.declared.char_data.BidiClass.{BidiClass}
use Rattle.bidi_laws.proofs.IsolateWalk.{deciding_from, is_zero}
use Rattle.bidi_paragraphs.specs.FirstPass.{depth_after}
use Rattle.unicode_bidi.proofs.SearchLemmas.{zero_test, counted}

module _ (f : ℕ → BidiClass) (cs : List ℕ) (n c : ℕ) (next : drop n cs ≡ c ∷ drop (n + 1) cs) (class : BidiClass) (same : class ≡ f c) (depth : ℕ) where
  -- the character that comes decides
  pub decides-found : (is_strong class && depth == 0) ≡ true → is_some (deciding_from depth (map f (drop n cs))) ≡ true
  decides-found here = rw (next, ← same) (grind (arith, zero_test depth, cases_Bool (is_strong class), cases_Bool (is_zero depth)))

  -- it does not
  pub decides-passed : (is_strong class && depth == 0) ≡ false → deciding_from depth (map f (drop n cs)) ≡ deciding_from (depth_after class depth) (map f (drop (n + 1) cs))
  decides-passed not_here = rw (next, ← same) (grind (arith, zero_test depth, counted depth class, cases_Bool (is_strong class), cases_Bool (is_zero depth)))
