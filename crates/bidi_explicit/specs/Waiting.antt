-- The open isolates while level runs are linked.
use Rattle.std.specs.Prelude.{ℕ, List, flat_map, replicate, Option}
use Rattle.bidi_explicit.specs.declared.prepare.waiting.Alike.{Alike}

-- what waits for the PDI of each, the innermost last
abbrev pub open_isolates : List Alike → List (Option ℕ)
open_isolates rows = flat_map (λ r. replicate r.times r.wait) rows
