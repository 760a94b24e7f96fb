use Rattle.std.proofs.Common.{◌≡◌, ℕ, List, [], filter, map, string_bytes, take}
use Rattle.std.specs.Option.{option_map_or}
use Rattle.std.specs.BTreeMap.{get_by_text}
use Rattle.std.specs.Str.{bytes_eq}
use Rattle.bidi_reports.proofs.allow_index.index_of_keys.Given as goal

abbrev pub invariant-loop-key : goal.invariant-loop-key
invariant-loop-key l = (key : List ℕ) → option_map_or (λ list. list.items) (get_by_text l.index key) [] ≡ map (λ p. p.1) (filter (λ p. bytes_eq key (string_bytes p.0)) (take l.key-index l.pairs))
