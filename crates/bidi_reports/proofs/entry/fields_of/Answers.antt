use Rattle.bidi_base.proofs.Common.{rules, ◌==◌, map_from_collect, YieldsList-from_slice_split}
use borrow.Author.Tests.{tests}
use Rattle.bidi_reports.proofs.entry.fields_of.Goals as goal

pub returns : goal.returns
returns c =
    map_from_collect _ c.collect.ensures.ran
    (YieldsList-from_slice_split _ (λ byte. byte == c.args.separator) c.args.text.now c.split.ensures.rest c.split.ensures.done c.split.ensures.closure
    (λ x b q k. search (rules, tests)))
