-- The two lists of a `LineMap`.
use Rattle.std.specs.Prelude.{ℕ, List}
use Rattle.unicode_bidi.specs.StoredOrder.{entries}
use Rattle.unicode_bidi.specs.declared.layout.LineMap.{LineMap}

-- the character at each visual index
abbrev pub order : LineMap → List ℕ
order m = entries m.order.items m.len

-- the visual index of each character
abbrev pub places : LineMap → List ℕ
places m = entries m.places.items m.len
