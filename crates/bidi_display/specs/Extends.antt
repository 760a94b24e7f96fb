-- What a call that appends to a list leaves of it, also after a failed allocation.
use Rattle.std.specs.Prelude.{◌≡◌, List, length, take}

-- a list begins with what it was before
abbrev pub Extends : {T : Type 0} → List T → List T → Type 0
Extends before after = take (length before) after ≡ before
