use Rattle.bidi_base.proofs.Common.{◌≡◌, ◌++◌, decimal, take, flat_map, string_bytes, codes}
use Rattle.bidi_explain.proofs.table.push_places.Given as goal

abbrev pub invariant-loop-place : goal.invariant-loop-place
invariant-loop-place l = string_bytes l.out ≡ string_bytes l.fn.out ++ flat_map (λ p. codes " " ++ decimal p) (take l.place-index l.places)
