use Rattle.bidi_base.proofs.Common.{rules, arith}
use Rattle.std.proofs.lemmas.List.Sorted.{answers_always}
use Rattle.bidi_unicode.proofs.RowsLemmas.{searched}
use Rattle.bidi_unicode.proofs.rows.index_of.Goals as goal

-- the closure gives a row's character
pub returns : goal.returns
returns g c =
    let by_key = c.binary_search_by_key.ensures.position (λ row. row.0) (answers_always _ _ _ (λ f a r g called. search rules)) in
    grind (arith, searched c.args.rows.now c.args.c c.binary_search_by_key.result c.requires c.binary_search_by_key.ensures.bound by_key)
