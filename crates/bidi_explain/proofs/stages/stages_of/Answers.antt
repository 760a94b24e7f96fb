use Rattle.bidi_base.proofs.Common.{◌≡◌, ◌∙◌, List, length, map, refl, ap, sym, arith, rules, length-map, explicit_levels, explicit_classes, stored_classes, levels_of_line, sequences}
use Rattle.bidi_base.specs.declared.char_data.BidiClass.{BidiClass}
use Rattle.bidi_laws.proofs.ExplicitLemmas.{length-explicit_classes}
use Rattle.bidi_laws.proofs.LayoutLemmas.{own_indexes, visual_indexes-inverse}
use Rattle.bidi_laws.proofs.StoredSteps.{length-stored_classes}
use Rattle.bidi_explain.proofs.SequencesLemmas.{can_resolve}
use Rattle.bidi_explain.proofs.stages.stages_of.Given.{Over}
use Rattle.bidi_explain.proofs.stages.stages_of.Goals as goal
use Rattle.bidi_explain.proofs.stages.stages_of.Goals.{After-as_slice-3}

-- what the sequences are found in
classes_are : (g : Over) (c : After-as_slice-3 g) → c.as_slice.result.now ≡ map (g.D.BidiDataSource.source c.args.data_source.now).class_of c.args.chars.now
classes_are g c = c.as_slice.ensures.value ∙ c.in_ok-classes.ensures

brackets_are : (g : Over) (c : After-as_slice-3 g) → c.as_slice-2.result.now ≡ map (g.D.BidiDataSource.source c.args.data_source.now).bracket_of c.args.chars.now
brackets_are g c = c.as_slice-2.ensures.value ∙ c.in_ok-brackets.ensures

explicit_classes_are : (g : Over) (c : After-as_slice-3 g)
    → c.classes.result.now ≡ explicit_classes c.args.level (stored_classes (map (g.D.BidiDataSource.source c.args.data_source.now).class_of c.args.chars.now))
explicit_classes_are g c = grind arith

explicit_levels_are : (g : Over) (c : After-as_slice-3 g)
    → c.levels-2.result.now ≡ explicit_levels c.args.level (stored_classes (map (g.D.BidiDataSource.source c.args.data_source.now).class_of c.args.chars.now))
explicit_levels_are g c = grind arith

sequences_are : (g : Over) (c : After-as_slice-3 g) → c.as_slice-3.result.now
    ≡ sequences c.args.level (stored_classes (map (g.D.BidiDataSource.source c.args.data_source.now).class_of c.args.chars.now)) (explicit_levels c.args.level (stored_classes (map (g.D.BidiDataSource.source c.args.data_source.now).class_of c.args.chars.now)))
sequences_are g c = grind arith

pub resolve-requires : goal.resolve-requires
resolve-requires g c = search (rules, length-map, can_resolve, sequences_are, explicit_levels_are, explicit_classes_are, brackets_are, classes_are)

pub levels_of_line-requires-clause-same_len : goal.levels_of_line-requires-clause-same_len
levels_of_line-requires-clause-same_len g c = grind (arith, length-stored_classes, length-map)

pub inverse-requires : goal.inverse-requires
inverse-requires g c = grind (arith, own_indexes)

pub returns : goal.returns
returns g c =
    let at : After-as_slice-3 g = (goal.at.returns g c).After-as_slice-3 in
    let own : List BidiClass = map (g.D.BidiDataSource.source c.args.data_source.now).class_of c.args.chars.now in
    let many : length c.classes.result.now ≡ length c.args.chars.now = simp (explicit_classes_are g at, length-explicit_classes, length-stored_classes, length-map) in
    let lines : c.in_ok-line_levels.line_levels.items ≡ levels_of_line c.args.level (stored_classes own) c.args.levels.now 0 (length c.args.chars.now) = simp (c.in_ok-line_levels.ensures, c.requires.stored) in
    record {
      level = refl;
      classes = c.in_ok-classes.ensures;
      explicit_levels = ap (λ e. e.levels) c.explicit.view_is ∙ c.in_ok-explicit.ensures.levels ∙ ap (explicit_levels c.args.level) c.requires.stored;
      explicit_classes = ap (λ e. e.classes) c.explicit.view_is ∙ c.in_ok-explicit.ensures.classes ∙ ap (explicit_classes c.args.level) c.requires.stored;
      sequences = sym c.as_slice-3.ensures.value ∙ sequences_are g at;
      weak = rw (many, sequences_are g at, explicit_classes_are g at) at c.in_ok-resolved.ensures.weak;
      neutral = rw (many, sequences_are g at, explicit_levels_are g at, explicit_classes_are g at, classes_are g at, brackets_are g at) at c.in_ok-resolved.ensures.neutral;
      levels = c.in_ok-from_slice.ensures.items;
      line_levels = lines;
      order = rw (c.as_slice-4.ensures.value, lines) at c.in_ok-order.ensures.order;
      places = visual_indexes-inverse c.as_slice-4.result.now c.in_ok-order.order.items c.in_ok-order.ensures.visual c.in_ok-places.places.items (simp (← c.as_slice-5.ensures.value) c.in_ok-places.ensures)
          ∙ simp (c.as_slice-4.ensures.value, lines);
    }
