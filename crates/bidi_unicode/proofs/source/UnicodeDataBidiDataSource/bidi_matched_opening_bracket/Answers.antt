use Rattle.bidi_base.proofs.Common.{option_map, sym, ap, ◌∙◌}
use Rattle.bidi_unicode.specs.Unicode.{is_opening, is_closing, other_bracket}
use Rattle.bidi_unicode.proofs.TableLaws.{is_opening-bracket_of, is_closing-bracket_of, bracket_of-mirrored_of}
use Rattle.bidi_unicode.proofs.source.UnicodeDataBidiDataSource.bidi_matched_opening_bracket.Goals as goal

pub returns-clause-opening : goal.returns-clause-opening
returns-clause-opening c = ap is_opening c.bracket_of.ensures ∙ is_opening-bracket_of c.args.c

pub returns-clause-closing : goal.returns-clause-closing
returns-clause-closing c = ap is_closing c.bracket_of.ensures ∙ is_closing-bracket_of c.args.c

pub returns-clause-pair : goal.returns-clause-pair
returns-clause-pair c = bracket_of-mirrored_of c.args.c ∙ ap (option_map other_bracket) (sym c.bracket_of.ensures)
