use Rattle.bidi_base.proofs.Common.{arith, Option, List, map, refl, ◌≡◌, [], ◌∷◌}
use Rattle.std.specs.List.{filter_map}
use Rattle.bidi_show_run.proofs.number.LevelWords.levels.Goals as goal

filter_map-map : {A B C : Type 0} (keep : B → Option C) (f : A → B) (items : List A) → filter_map keep (map f items) ≡ filter_map (λ item. keep (f item)) items
filter_map-map keep f [] = refl
filter_map-map keep f (item ∷ items) = rw (filter_map-map keep f items) refl

pub returns : goal.returns
returns c = grind (arith, filter_map-map)
