use Rattle.bidi_base.proofs.Common.{◌≡◌, ℕ, ◌&&◌, ◌==◌, drop, arith, is_paragraph_separator, begins_with_line_feed}
use Rattle.bidi_base.specs.Text.{unit_index}
use Rattle.bidi_paragraphs.proofs.TextRead.{next-at}
use Rattle.bidi_paragraphs.proofs.first_pass.goes_on_with_line_feed.Goals as goal
use Rattle.bidi_paragraphs.proofs.first_pass.goes_on_with_line_feed.Goals.{In-Some}
use Rattle.bidi_paragraphs.proofs.first_pass.goes_on_with_line_feed.Given.{Over}

-- the character that begins there is the first of those that follow
stop : (g : Over) (c : In-Some g) (n : ℕ) → c.args.place ≡ unit_index g.T.TextSource.encoding.len_of (g.T.TextSource.text c.args.text).chars n
    → begins_with_line_feed (g.D.BidiDataSource.source c.args.data_source.now) (drop n (g.T.TextSource.text c.args.text).chars) ≡ (c.in-Some.c == 0x0A && is_paragraph_separator ((g.D.BidiDataSource.source c.args.data_source.now).class_of c.in-Some.c))
stop g c n here = grind (arith, next-at)

pub returns-then-c-eq10 : goal.returns-then-c-eq10
returns-then-c-eq10 g c = grind (arith, stop)

pub returns-else-c-eq10 : goal.returns-else-c-eq10
returns-else-c-eq10 g c = grind (arith, stop)

pub returns-in-None : goal.returns-in-None
returns-in-None g c = grind (arith, next-at)
