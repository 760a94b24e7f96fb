-- What follows the last slash of a path.
use Rattle.std.proofs.Common.{◌≡◌, ℕ, Bool, true, false, List, [], ◌∷◌, if◌then◌else◌, refl}
use Rattle.bidi_reports.specs.Patterns.{has_separator, last_part}

-- a path without a slash is its own last part
pub last-whole : (path : List ℕ) → has_separator path ≡ false → last_part path ≡ path
last-whole [] none = refl
last-whole (c ∷ path) none = rw none refl

pub last-init : (path : List ℕ) (has : Bool) → has_separator path ≡ has → last_part path ≡ (if has then last_part path else path)
last-init path true e = refl
last-init path false e = last-whole path e
