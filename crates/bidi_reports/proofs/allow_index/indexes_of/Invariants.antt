use Rattle.std.proofs.Common.{◌≡◌, [], flat_map, map, string_bytes, take}
use Rattle.std.specs.BTreeMap.{get_by_text}
use Rattle.std.specs.Option.{option_map_or}
use Rattle.bidi_reports.proofs.allow_index.indexes_of.Given as goal

abbrev pub invariant-loop-key : goal.invariant-loop-key
invariant-loop-key l = l.indexes.items ≡ flat_map (λ key. option_map_or (λ list. list.items) (get_by_text l.index key) []) (map string_bytes (take l.key-index l.keys))
