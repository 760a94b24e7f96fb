-- The passes over the one run.
use Rattle.bidi_base.proofs.Common.{◌≡◌, ◌∙◌, List, [], ℕ, length, map, refl, arith, length-map, explicit_levels, explicit_classes, stored_classes, Source, text_len, AreLines}
use Rattle.bidi_base.specs.declared.char_data.BidiClass.{BidiClass}
use Rattle.bidi_laws.proofs.NeutralLemmas.{direction_of-l_or_r}
use Rattle.bidi_base.proofs.PerUnit.{length-per_unit}
use Rattle.bidi_laws.proofs.StoredSteps.{length-stored_classes}
use Rattle.bidi_explicit.specs.Joining.{JoinedRuns, characters_of}
use Rattle.bidi_explicit.specs.RunSequence.{borrowed_joined}
use Rattle.bidi_paragraphs.proofs.FilledUnits.{stored-long}
use Rattle.bidi_paragraphs.proofs.FlatPasses.{whole, borrowed-whole, joined-AreLines, joined-IsNext, joined-sequences, levels-whole, whole-AreResolvedTo}
use Rattle.bidi_paragraphs.proofs.LevelPasses.{AreLevels, AreResolvedTo, AreResolvedTo-per_char, AreResolvedTo-long, AreWeakTo-from, AreWeakTo-resolved, AreResolvedTo-more, AreLevels-all}
use Rattle.bidi_paragraphs.proofs.SequencesInPlace.{IsNext}
use Rattle.bidi_paragraphs.proofs.paragraph_levels.LevelResolver.resolve_flat.Given.{Over}
use Rattle.bidi_paragraphs.proofs.paragraph_levels.LevelResolver.resolve_flat.Goals as goal
use Rattle.bidi_paragraphs.proofs.paragraph_levels.LevelResolver.resolve_flat.Goals.{After-new-sequence}

pub new-sequence-requires : goal.new-sequence-requires
new-sequence-requires g c = grind (arith, length-map, length-per_unit, length-stored_classes, direction_of-l_or_r)

module _ (g : Over) (c : After-new-sequence g) where
  abbrev chars : List ℕ
  chars = (g.T.TextSource.text c.args.paragraph.now.text).chars

  abbrev given : Source
  given = g.D.BidiDataSource.source c.args.paragraph.now.data_source.now

  abbrev source : List BidiClass
  source = map given.class_of chars

  abbrev paragraph : ℕ
  paragraph = c.args.paragraph.now.level

  abbrev j : JoinedRuns
  j = borrowed_joined c.new-sequence.result

  fits : length source ≡ length chars
  fits = length-map chars given.class_of

  -- the passes begin with the hidden classes
  begun : AreResolvedTo g.T.TextSource.encoding.len_of g.T.TextSource.encoding.positive chars source given.bracket_of paragraph [] c.as_mut_slice-classes.result.now
  begun = whole-AreResolvedTo _ _ _ _ _ _ fits c.requires.flat _ _ c.args.paragraph.now.stored (c.as_mut_slice-classes.ensures.value ∙ c.in_ok-copy_flat.ensures)

  long : length c.as_mut_slice-classes.result.now ≡ text_len g.T.TextSource.encoding.len_of chars
  long = AreResolvedTo-long _ _ _ _ _ _ [] _ fits begun

  -- the sequence has the one run
  same : j ≡ whole g.T.TextSource.encoding.len_of g.T.TextSource.encoding.positive chars source given.bracket_of paragraph fits c.requires.flat
  same =
      borrowed-whole _ g.T.TextSource.encoding.positive _ source given.bracket_of _ fits c.requires.flat c.new-sequence.result _ _ c.new-sequence.ensures.runs refl long
      (c.new-sequence.ensures.sos ∙ c.bidi_class-side.ensures) (c.new-sequence.ensures.eos ∙ c.bidi_class-side.ensures)

  lines : AreLines g.T.TextSource.encoding.len_of chars j.runs
  lines = joined-AreLines _ g.T.TextSource.encoding.positive _ source given.bracket_of _ fits c.requires.flat j same

  next : IsNext source (map given.bracket_of chars) (stored_classes source) (explicit_levels paragraph (stored_classes source)) (explicit_classes paragraph (stored_classes source)) []
      (characters_of g.T.TextSource.encoding.len_of chars (stored_classes source) j)
  next = joined-IsNext _ g.T.TextSource.encoding.positive _ _ given.bracket_of _ fits c.requires.flat j same

pub resolve_weak_borrowed_counted-requires : goal.resolve_weak_borrowed_counted-requires
resolve_weak_borrowed_counted-requires g c =
    let n = (goal.at.resolve_weak_borrowed_counted-requires g c).After-new-sequence in
    record { per_char = AreResolvedTo-per_char _ _ _ _ _ _ [] _ (fits g n) (begun g n); are_lines = lines g n }

pub invariant_of-leveled : goal.invariant_of-leveled
invariant_of-leveled g c =
    let p = c.args.paragraph.now in
    record {
      class_each = stored-long _ _ (g.D.BidiDataSource.source p.data_source.now).class_of p.original_classes.now p.stored;
      level_each = omega (arith, c.requires.same_len, c.fill.auto.self);
    }

pub resolve_up_to_n1-requires : goal.resolve_up_to_n1-requires
resolve_up_to_n1-requires g c =
    let n = (goal.at.resolve_up_to_n1-requires g c).After-new-sequence in
    let weak =
    AreWeakTo-from _ _ _ _ _ _ (fits g n) [] _ (lines g n) (next g n) _ _ (begun g n)
    c.resolve_weak_borrowed_counted.ensures.resolved.kept c.resolve_weak_borrowed_counted.ensures.resolved.in_place in
    record {
      per_char = c.resolve_weak_borrowed_counted.ensures.resolved.in_place.per_char;
      are_lines = lines g n;
      levels = omega (arith, c.requires.same_len, c.fill.auto.self, c.resolve_weak_borrowed_counted.auto.processing_classes, long g n);
      original = grind (arith, length-map);
      resolved = AreWeakTo-resolved _ _ _ _ _ _ (fits g n) [] _ (lines g n) (next g n) _ weak;
    }

pub resolve_levels-requires-clause-same_len : goal.resolve_levels-requires-clause-same_len
resolve_levels-requires-clause-same_len g c =
    let units_long = long g (goal.at.resolve_levels-requires-clause-same_len g c).After-new-sequence in
    omega (arith, c.requires.same_len, c.fill.auto.self, c.resolve_weak_borrowed_counted.auto.processing_classes, c.resolve_up_to_n1.auto.processing_classes, units_long)

-- the levels are those of the rules
answered : (g : Over) (c : _) → let n = (goal.at.returns g c).After-new-sequence in
    AreLevels g.T.TextSource.encoding.len_of g.T.TextSource.encoding.positive (chars g n) (source g n) (given g n).bracket_of (paragraph g n) c.resolve_levels.new.levels
answered g c =
    let n = (goal.at.returns g c).After-new-sequence in
    let weak =
    AreWeakTo-from _ _ _ _ _ _ (fits g n) [] _ (lines g n) (next g n) _ _ (begun g n)
    c.resolve_weak_borrowed_counted.ensures.resolved.kept c.resolve_weak_borrowed_counted.ensures.resolved.in_place in
    let levels_are =
    levels-whole _ g.T.TextSource.encoding.positive _ (source g n) (given g n).bracket_of _ (fits g n) c.requires.flat c.args.levels.now c.fill.new.self c.requires.same_len (c.fill.ensures.after (λ y e. e)) in
    AreLevels-all _ _ _ _ _ _ _ c.resolve_up_to_n1.new.processing_classes c.fill.new.self c.resolve_levels.new.levels (fits g n) levels_are
    (joined-sequences _ g.T.TextSource.encoding.positive _ (source g n) (given g n).bracket_of _ (fits g n) c.requires.flat _ (same g n))
    (AreResolvedTo-more _ _ _ _ _ _ (fits g n) [] _ (lines g n) (next g n) _ c.resolve_up_to_n1.new.processing_classes c.args.paragraph.now.original_classes.now c.fill.new.self
    c.args.paragraph.now.stored levels_are weak c.in_ok-resolve_up_to_n1.ensures.resolved.kept c.in_ok-resolve_up_to_n1.ensures.resolved.in_place)
    c.resolve_levels.ensures.levels

pub returns : goal.returns
returns g c =
    let levels = answered g c in
    record { per_char = grind (arith, levels); resolved = grind (arith, levels) }
