use Rattle.bidi_base.proofs.Common.{arith, with_items_is}
use Rattle.unicode_bidi.proofs.initial_info.InitialInfo.of_text.Goals as goal

pub invariant_of-result : goal.invariant_of-result
invariant_of-result g c = grind (arith, with_items_is, c.in_ok-found.ensures.paragraphs.per_char)

pub returns-clause-paragraphs : goal.returns-clause-paragraphs
returns-clause-paragraphs g c =
    let found = c.in_ok-found.ensures.paragraphs in
    record {
      classes = grind (arith, with_items_is, found.classes);
      ranges = found.ranges;
      para_levels = found.para_levels;
      partition = found.partition;
      whole = found.whole;
      by_characters = grind (arith, with_items_is, found.by_characters);
      per_char = grind (arith, with_items_is, found.per_char);
    }
