use Rattle.bidi_base.proofs.Common.{◌≡◌, ◌++◌, take, flat_map, string_bytes}
use Rattle.bidi_explain.specs.Pages.{link_from}
use Rattle.bidi_explain.proofs.page.push_links.Given as goal

abbrev pub invariant-loop-at : goal.invariant-loop-at
invariant-loop-at l = string_bytes l.out ≡ string_bytes l.fn.out ++ flat_map (link_from l.block l.places) (take l.at-index l.indexes)
