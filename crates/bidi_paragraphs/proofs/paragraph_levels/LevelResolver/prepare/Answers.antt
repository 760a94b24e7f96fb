use Rattle.bidi_base.proofs.Common.{◌≡◌, ◌∙◌, List, ℕ, subst, length, map, ap, arith, explicit_levels, per_char, bounds, AreExplicitLevels}
use Rattle.bidi_base.specs.declared.char_data.BidiClass.{BidiClass}
use Rattle.bidi_base.specs.declared.char_data.BidiClass.TheVariants.{L}
use Rattle.bidi_laws.proofs.ExplicitLemmas.{length-explicit_levels}
use Rattle.bidi_base.proofs.PerUnit.{length-per_char, length-per_unit, per_char-per_unit}
use Rattle.bidi_base.proofs.UnitsLemmas.{is_per_char-per_unit}
use Rattle.bidi_explicit.specs.Links.{linked_runs}
use Rattle.bidi_paragraphs.proofs.LevelPasses.{linked_runs-all}
use Rattle.bidi_paragraphs.proofs.FlagsLemmas.{has_isolates-flags}
use Rattle.bidi_paragraphs.proofs.FilledUnits.{initiators-stored, stored-is_per_char, stored-long}
use Rattle.bidi_paragraphs.proofs.paragraph_levels.LevelResolver.prepare.Given.{Over}
use Rattle.bidi_paragraphs.proofs.paragraph_levels.LevelResolver.prepare.Goals as goal
use Rattle.bidi_paragraphs.proofs.paragraph_levels.LevelResolver.prepare.Goals.{In_ok-find_levels_counted, In_ok-link}

pub new-stored-requires-clause-per_char : goal.new-stored-requires-clause-per_char
new-stored-requires-clause-per_char g c = grind (arith, stored-is_per_char)

-- what was found in the paragraph that was made is found in this one
found : (g : Over) (c : In_ok-find_levels_counted g) → AreExplicitLevels g.T.TextSource.encoding.len_of (g.T.TextSource.text c.args.paragraph.now.text).chars c.args.paragraph.now.level
    c.args.paragraph.now.original_classes.now c.find_levels_counted.new.levels c.find_levels_counted.new.classes (map bounds c.find_levels_counted.new.runs.items)
found g c =
    let len_of = g.T.TextSource.encoding.len_of in
    let made = c.new-stored.result in
    let p = c.args.paragraph.now in
    let levels : List ℕ = c.find_levels_counted.new.levels in
    let classes : List BidiClass = c.find_levels_counted.new.classes in
    let runs : List (ℕ × ℕ) = map bounds c.find_levels_counted.new.runs.items in
    subst (λ t. AreExplicitLevels len_of (g.T.TextSource.text t).chars p.level p.original_classes.now levels classes runs) c.new-stored.ensures.text
    (subst (λ (l : ℕ). AreExplicitLevels len_of (g.T.TextSource.text made.text).chars l p.original_classes.now levels classes runs) c.new-stored.ensures.level
    (subst (λ (s : List BidiClass). AreExplicitLevels len_of (g.T.TextSource.text made.text).chars made.level s levels classes runs) c.new-stored.ensures.classes
    c.in_ok-find_levels_counted.ensures.found))

-- the levels, read by characters
read : (g : Over) (c : In_ok-find_levels_counted g) → let cs = (g.T.TextSource.text c.args.paragraph.now.text).chars in
    per_char 0 g.T.TextSource.encoding.len_of cs c.find_levels_counted.new.levels ≡ explicit_levels c.args.paragraph.now.level (per_char L g.T.TextSource.encoding.len_of cs c.args.paragraph.now.original_classes.now)
read g c =
    let len_of = g.T.TextSource.encoding.len_of in
    let cs : List ℕ = (g.T.TextSource.text c.args.paragraph.now.text).chars in
    let stored : List BidiClass = per_char L len_of cs c.args.paragraph.now.original_classes.now in
    let levels : List ℕ = explicit_levels c.args.paragraph.now.level stored in
    ap (per_char 0 len_of cs) (found g c).levels
    ∙ per_char-per_unit len_of g.T.TextSource.encoding.positive 0 cs levels (length-explicit_levels c.args.paragraph.now.level stored ∙ length-per_char L len_of cs c.args.paragraph.now.original_classes.now)

pub invariant_of-leveled : goal.invariant_of-leveled
invariant_of-leveled g c =
    let p = c.args.paragraph.now in
    let len_of = g.T.TextSource.encoding.len_of in
    let cs : List ℕ = (g.T.TextSource.text p.text).chars in
    let stored : List BidiClass = per_char L len_of cs p.original_classes.now in
    let long = length-explicit_levels p.level stored ∙ length-per_char L len_of cs p.original_classes.now in
    record {
      class_each = stored-long len_of cs (g.D.BidiDataSource.source p.data_source.now).class_of p.original_classes.now p.stored;
      level_each = ap length (found g (goal.at.invariant_of-leveled g c).In_ok-find_levels_counted).levels ∙ length-per_unit len_of cs (explicit_levels p.level stored) long;
    }

pub link-requires : goal.link-requires
link-requires g c =
    let class_of = (g.D.BidiDataSource.source c.args.paragraph.now.data_source.now).class_of in
    let cs : List ℕ = (g.T.TextSource.text c.args.paragraph.now.text).chars in
    record {
      leveled = record {
        original = grind (arith, stored-is_per_char);
        levels = grind (arith, is_per_char-per_unit, length-explicit_levels, length-per_char);
      };
      runs = rw (read g (goal.at.link-requires g c).In_ok-find_levels_counted) (ap (map bounds) c.as_slice.ensures.value ∙ (found g (goal.at.link-requires g c).In_ok-find_levels_counted).runs);
      isolates = λ some.
          c.has_isolates.ensures ∙ has_isolates-flags c.args.paragraph.now.flags (map class_of cs) c.args.paragraph.now.own_flags ∙ initiators-stored g.T.TextSource.encoding.len_of cs (map class_of cs) c.args.paragraph.now.original_classes.now c.args.paragraph.now.stored some;
    }

-- the runs that were linked are all
all_linked : (g : Over) (c : In_ok-link g) → linked_runs c.link.new.self c.find_levels_counted.new.runs.items ≡ map bounds c.find_levels_counted.new.runs.items
all_linked g c = linked_runs-all c.link.new.self c.find_levels_counted.new.runs.items (rw c.as_slice.ensures.value at c.in_ok-link.ensures.linked)

pub returns-clause-sequences : goal.returns-clause-sequences
returns-clause-sequences g c =
    rw (all_linked g (goal.at.returns-clause-sequences g c).In_ok-link) (rw (c.as_slice.ensures.value, read g (goal.at.returns-clause-sequences g c).In_ok-find_levels_counted) at c.in_ok-link.ensures.sequences)

pub returns-clause-are_lines : goal.returns-clause-are_lines
returns-clause-are_lines g c = rw (all_linked g (goal.at.returns-clause-are_lines g c).In_ok-link) (rw c.as_slice.ensures.value at c.in_ok-link.ensures.are_lines)

pub returns-clause-linked : goal.returns-clause-linked
returns-clause-linked g c = rw (all_linked g (goal.at.returns-clause-linked g c).In_ok-link) (rw c.as_slice.ensures.value at c.in_ok-link.ensures.linked)
