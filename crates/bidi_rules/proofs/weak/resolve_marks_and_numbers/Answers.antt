-- Where neither a mark nor a number stands, nothing is written.
use Rattle.bidi_base.proofs.Common.{map, arith, or_parts, bounds, carried}
use Rattle.bidi_rules.specs.WeakPass.{is_mark_or_number}
use Rattle.bidi_rules.specs.WeakWalk.{len_at}
use Rattle.bidi_rules.proofs.WeakMarks.{is_any_in_blocks-none, IsMarked-none}
use Rattle.bidi_rules.proofs.WeakText.{lines-within, marked-IsPerChar}
use Rattle.bidi_rules.proofs.WeakWalkLemmas.{IsWalked-none}
use Rattle.bidi_rules.proofs.weak.resolve_marks_and_numbers.Goals as goal

pub resolve_marks-requires-clause-within : goal.resolve_marks-requires-clause-within
resolve_marks-requires-clause-within g c =
    lines-within g.T.TextSource.encoding.len_of g.T.TextSource.encoding.positive (g.T.TextSource.text c.args.text).chars (map bounds c.args.runs.now) c.requires.are_lines c.requires.ordered c.args.sos c.args.classes.now c.requires.per_char

pub resolve_numbers-requires-clause-per_char : goal.resolve_numbers-requires-clause-per_char
resolve_numbers-requires-clause-per_char g c =
    marked-IsPerChar g.T.TextSource.encoding.len_of g.T.TextSource.encoding.positive (g.T.TextSource.text c.args.text).chars (map bounds c.args.runs.now) c.requires.are_lines c.requires.ordered c.args.sos c.args.classes.now c.requires.per_char
    c.resolve_marks.new.classes c.resolve_marks.ensures.marked

pub returns-then-has_marks_or_numbers-clause-walked : goal.returns-then-has_marks_or_numbers-clause-walked
returns-then-has_marks_or_numbers-clause-walked g c = grind arith steps 400000

pub returns-else-has_marks_or_numbers-clause-walked : goal.returns-else-has_marks_or_numbers-clause-walked
returns-else-has_marks_or_numbers-clause-walked g c =
    grind (
      arith,
      lines-within g.T.TextSource.encoding.len_of g.T.TextSource.encoding.positive (g.T.TextSource.text c.args.text).chars (map bounds c.args.runs.now) c.requires.are_lines c.requires.ordered c.args.sos c.args.classes.now c.requires.per_char,
      is_any_in_blocks-none is_mark_or_number c.args.runs.now c.args.classes.now,
      or_parts,
      IsMarked-none c.args.runs.now (carried c.args.sos) c.args.classes.now,
      IsWalked-none (len_at g.T.TextSource.encoding.len_of (g.T.TextSource.text c.args.text).chars) c.args.runs.now c.args.sos c.args.classes.now,
    )
