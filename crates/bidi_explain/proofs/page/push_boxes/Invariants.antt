use Rattle.bidi_base.proofs.Common.{◌≡◌, ◌++◌, take, flat_map, string_bytes}
use Rattle.bidi_explain.specs.Pages.{box_at}
use Rattle.bidi_explain.proofs.page.push_boxes.Given as goal

abbrev pub invariant-loop-at : goal.invariant-loop-at
invariant-loop-at l = string_bytes l.out ≡ string_bytes l.fn.out ++ flat_map (box_at l.tag l.chars l.stages) (take l.at-index l.indexes)
