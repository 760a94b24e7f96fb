use Rattle.bidi_base.proofs.Common.{rules, ◌==◌, map_from_collect, YieldsList-at, YieldsList-from_filter, YieldsList-from_slice_split}
use borrow.Author.Tests.{tests}
use Rattle.bidi_arguments.specs.Entries.{is_searched}
use Rattle.bidi_arguments.proofs.entries.searched_names.Goals as goal

pub returns : goal.returns
returns c =
    map_from_collect _ c.collect.ensures.ran
    (YieldsList-from_filter _ (is_searched c.args.hidden)
    (YieldsList-at c.filter.ensures.source
    (YieldsList-from_slice_split _ (λ byte. byte == 0) c.args.listing.now c.split.ensures.rest c.split.ensures.done c.split.ensures.closure
    (λ x b q k. search (rules, tests))))
    c.filter.ensures.closure (λ x b q k. search (rules, tests)))
