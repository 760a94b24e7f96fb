use Rattle.std.proofs.Common.{◌≡◌, ◌<◌, ◌||◌, ◌&&◌, ℕ, false, get_or, length, nat_eq, take}
use Rattle.std.specs.List.{list_any}
use Rattle.bidi_reports.specs.AllowIndex.{allows_at}
use Rattle.bidi_reports.proofs.allow_index.note_allowing.Given as goal

abbrev pub invariant-loop-index : goal.invariant-loop-index
invariant-loop-index l = record {
  allows : l.allows ≡ list_any (allows_at l.query l.entries) (take l.index-index l.indexes);
  used : (k : ℕ) → k < length l.entries → get_or l.used k false
      ≡ (get_or l.fn.used k false || (list_any (nat_eq k) (take l.index-index l.indexes) && allows_at l.query l.entries k));
}
