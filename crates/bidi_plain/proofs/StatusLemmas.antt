-- The status inside openers, one by one, as the code goes through them.
use Rattle.bidi_base.proofs.Common.{◌≡◌, ℕ, ◌-◌, ◌<◌, ◌≤◌, List, length, get_or, take, drop, Option, arith, common_steps, Status, override_of, next_level, status_inside}
use Rattle.bidi_base.specs.declared.char_data.BidiClass.{BidiClass}
use Rattle.bidi_base.specs.declared.char_data.BidiClass.TheVariants.{L}
use Rattle.bidi_laws.proofs.ExplicitLemmas.{status_inside-taken, status_inside-refused}

pub status_inside-none : (status : Status) (openers : List BidiClass) → length openers < 1 → status ≡ status_inside status openers
unfolding status_inside
status_inside-none status openers few = grind (arith, common_steps)

abbrev pub status_of : ℕ → Option BidiClass → Status
status_of level override = record { level = level; override = override }

module _ (status : Status) (level : ℕ) (override : Option BidiClass) (is : status_of level override ≡ status) where
  pub status_inside-first : (openers : List BidiClass) (x : ℕ) (y : Option BidiClass) → 1 ≤ length openers
      → next_level (get_or openers 0 L) level ≤ 125 → x ≡ next_level (get_or openers 0 L) level → y ≡ override_of (get_or openers 0 L)
      → status_inside (status_of x y) (take (length openers - 1) (drop 1 openers)) ≡ status_inside status openers
  status_inside-first openers x y some fits x_is y_is = grind (arith, common_steps, status_inside-taken)

  pub status_inside-stops : (openers : List BidiClass) → 1 ≤ length openers → (next_level (get_or openers 0 L) level ≤ 125 → ⊥) → status ≡ status_inside status openers
  status_inside-stops openers some high = grind (arith, common_steps, status_inside-refused)
