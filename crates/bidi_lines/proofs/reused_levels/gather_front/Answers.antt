use Rattle.bidi_base.proofs.Common.{◌≡◌, ◌≤◌, ◌++◌, ℕ, List, take, length, ◌∙◌, arith, take-append-le, length-take-le}
use Rattle.bidi_base.proofs.TextLemmas.{length-le-text_len}
use Rattle.bidi_lines.proofs.reused_levels.gather_front.Goals as goal

pub returns-clause-within : goal.returns-clause-within
returns-clause-within g c = grind (arith, length-le-text_len _ g.T.TextSource.encoding.positive (g.T.TextSource.text c.args.text).chars, c.gather.ensures.count, c.requires.same_len)

-- the front of a list whose own front was rewritten
front_of : {X : Type 0} (front new rest : List X) (count len : ℕ) → length new ≡ length front → length front ≡ len → count ≤ len → take count (new ++ rest) ≡ take count new
front_of front new rest count len same long within = take-append-le count new rest (omega arith)

pub returns-clause-gathered : goal.returns-clause-gathered
returns-clause-gathered g c =
    front_of _ c.gather.new.levels _ c.gather.result c.args.len c.gather.auto.levels (length-take-le c.args.len c.args.levels.now c.requires.within) (returns-clause-within g c) ∙ c.gather.ensures.gathered
