use Rattle.bidi_base.proofs.Common.{sym, arith}
use Rattle.bidi_text.proofs.Utf16Lemmas.{has_units, text_len-utf16, is_boundary-within}
use Rattle.bidi_lines.proofs.StoredLine.{of_text, still}
use Rattle.bidi_lines.proofs.line_text.utf16.Analysed+Utf16Text.reorder_line.Goals as goal

pub offset_bounds-text-line : goal.offset_bounds-text-line
offset_bounds-text-line c = grind (arith, is_boundary-within)

pub slice_bounds-result-end : goal.slice_bounds-result-end
slice_bounds-result-end c = grind (arith, is_boundary-within)

pub returns-in-Some-clause-text : goal.returns-in-Some-clause-text
returns-in-Some-clause-text c =
    let a = c.args.self.now in
    of_text _ has_units _ _ _ _ c.args.line a.classes_per_char a.levels_per_char c.requires _ _ _ (sym (text_len-utf16 a.text.units.now)) (grind arith)

pub returns-in-None-clause-text : goal.returns-in-None-clause-text
returns-in-None-clause-text c =
    let a = c.args.self.now in
    still _ has_units _ _ _ _ c.args.line a.classes_per_char a.levels_per_char c.requires _ _ _ (sym (text_len-utf16 a.text.units.now)) (grind arith) (grind arith)
