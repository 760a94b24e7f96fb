use Rattle.bidi_base.proofs.SearchLanes.{last_from_reversed}
use Rattle.bidi_base.proofs.search.end_of_last_passing_counted.Goals as goal

pub returns-clause-last : goal.returns-clause-last
returns-clause-last g c =
    last_from_reversed (g.T.Tested.passes c.args.tested) (g.T.Tested.count c.args.tested) c.len-len.result c.args.from c.args.to c.first_passing_counted.result
    c.len-len.ensures c.requires.ordered c.requires.within c.first_passing_counted.ensures.first
