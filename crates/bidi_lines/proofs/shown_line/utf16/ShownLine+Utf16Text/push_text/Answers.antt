use Rattle.bidi_base.proofs.Common.{sym, encode_utf16}
use Rattle.bidi_text.proofs.Utf16Lemmas.{has_units, text_len-utf16}
use Rattle.bidi_lines.proofs.ShownLines.{on_ok, appends_shown}
use Rattle.bidi_lines.proofs.shown_line.utf16.ShownLine+Utf16Text.push_text.Goals as goal

pub returns-clause-text : goal.returns-clause-text
returns-clause-text c a level line shows =
    let s = c.args.self.now in
    on_ok c.push_units.result (appends_shown s has_units a level line shows encode_utf16 s.text.units.now _ _ (sym (text_len-utf16 s.text.units.now))) c.push_units.ensures.text
