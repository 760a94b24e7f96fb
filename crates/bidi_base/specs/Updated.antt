-- A list in which a pass has changed some entries.
use Rattle.std.specs.Prelude.{◌≡◌, ℕ, ◌<◌, ◌≤◌, Bool, true, false, List, length, get_or}

-- the entries from `from` up to `to` that pass the test became what `update` makes of them, and all others are
-- unchanged; past the end each entry is `none`
pub record IsUpdated {X : Type 0} (none : X) (test : ℕ → Bool) (update : X → X) (from to : ℕ) (old new : List X) : Type 0 where
  pub inside : (k : ℕ) → from ≤ k → k < to → test k ≡ true → get_or new k none ≡ update (get_or old k none)
  pub failing : (k : ℕ) → test k ≡ false → get_or new k none ≡ get_or old k none
  pub below : (k : ℕ) → k < from → get_or new k none ≡ get_or old k none
  pub above : (k : ℕ) → to ≤ k → get_or new k none ≡ get_or old k none
  pub same_len : length new ≡ length old
