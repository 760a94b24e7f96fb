-- What a search finds.
use Rattle.std.specs.Prelude.{◌≡◌, ℕ, ◌+◌, ◌<◌, ◌≤◌, Bool, true, false, List}
use Rattle.bidi_base.specs.declared.char_data.BidiClass.{BidiClass}
use Rattle.bidi_base.specs.Indexes.{class_at}

-- the first index from `from` on and below `to` that passes the test, or else `to`
pub record IsFirst (test : ℕ → Bool) (from to i : ℕ) : Type 0 where
  pub begins : from ≤ i
  pub ends : i ≤ to
  pub before : (k : ℕ) → from ≤ k → k < i → test k ≡ false
  pub at : i < to → test i ≡ true

-- the index after the last one from `from` on and below `to` that passes the test, or else `from`
pub record IsEndOfLast (test : ℕ → Bool) (from to i : ℕ) : Type 0 where
  pub begins : from ≤ i
  pub ends : i ≤ to
  pub after : (k : ℕ) → i ≤ k → k < to → test k ≡ false
  pub before : (k : ℕ) → from ≤ k → k + 1 ≡ i → test k ≡ true

-- the class at an index passes the test
abbrev pub passing : (BidiClass → Bool) → List BidiClass → ℕ → Bool
passing test classes k = test (class_at classes k)
