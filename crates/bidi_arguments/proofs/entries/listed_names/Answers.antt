use Rattle.bidi_base.proofs.Common.{rules, ◌==◌, not, length, map_from_collect, YieldsList-at, YieldsList-from_filter, YieldsList-from_slice_split}
use borrow.Author.Tests.{tests}
use Rattle.bidi_arguments.specs.Entries.{separator_of}
use Rattle.bidi_arguments.proofs.entries.listed_names.Goals as goal

pub returns : goal.returns
returns c =
    map_from_collect _ c.collect.ensures.ran
    (YieldsList-from_filter _ (λ name. not (length name == 0))
    (YieldsList-at c.filter.ensures.source
    (YieldsList-from_slice_split _ (λ byte. byte == separator_of c.args.bytes.now) c.args.bytes.now c.split.ensures.rest c.split.ensures.done c.split.ensures.closure
    (λ x b q k. search (rules, tests))))
    c.filter.ensures.closure (λ x b q k. search (rules, tests)))
