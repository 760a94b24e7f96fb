use Rattle.bidi_base.proofs.Common.{◌≡◌, sym, ap, subst, ◌∙◌, arith, IsUtf8, chars, encode_utf8, len_utf8}
use Rattle.bidi_text.proofs.StrLemmas.{has_units, text_len-chars, IsCharBoundary-from_is_boundary}
use Rattle.bidi_lines.specs.Analysed.{analysed}
use Rattle.bidi_lines.specs.LineUnits.{line_units}
use Rattle.bidi_lines.proofs.LineUtf8.{line_utf8}
use Rattle.bidi_lines.proofs.StoredLine.{classes_IsPerChar, levels_IsPerChar, of_text, still}
use Rattle.bidi_lines.proofs.line_text.utf8.Analysed+StrText.reorder_line.Goals as goal

pub range-requires-clause-start_boundary : goal.range-requires-clause-start_boundary
range-requires-clause-start_boundary c = λ _. IsCharBoundary-from_is_boundary c.as_str-text.result.now c.args.line.start c.as_str-text.utf8 (rw (c.as_str-text.ensures, c.text.ensures) c.requires.begins)

pub range-requires-clause-end_boundary : goal.range-requires-clause-end_boundary
range-requires-clause-end_boundary c = IsCharBoundary-from_is_boundary c.as_str-text.result.now c.args.line.end c.as_str-text.utf8 (rw (c.as_str-text.ensures, c.text.ensures) c.requires.ends)

pub from_utf8_unchecked-requires : goal.from_utf8_unchecked-requires
from_utf8_unchecked-requires c =
    let a = c.args.self.now in
    let u : IsUtf8 a.text.text.now = subst IsUtf8 (c.as_str-text.ensures ∙ ap (λ t. t.text.now) c.text.ensures) c.as_str-text.utf8 in
    let is : c.in-Some.reversed.items ≡ line_units encode_utf8 a.text.text.now (analysed a) c.args.para_level c.args.line = grind arith in
    subst IsUtf8 (sym is) (line_utf8 a.text.text.now u c.args.para_level a.original_classes.items a.levels.items c.args.line
    (classes_IsPerChar len_utf8 has_units (chars a.text.text.now) _ a.classes_per_char) (levels_IsPerChar len_utf8 has_units (chars a.text.text.now) _ a.levels_per_char) c.requires)

pub returns-in-Some-clause-text : goal.returns-in-Some-clause-text
returns-in-Some-clause-text c =
    let a = c.args.self.now in
    let u : IsUtf8 a.text.text.now = subst IsUtf8 (c.as_str-text.ensures ∙ ap (λ t. t.text.now) c.text.ensures) c.as_str-text.utf8 in
    of_text _ has_units _ _ _ _ c.args.line a.classes_per_char a.levels_per_char c.requires _ _ _ (sym (text_len-chars a.text.text.now u)) (grind arith)

pub returns-in-None-clause-text : goal.returns-in-None-clause-text
returns-in-None-clause-text c =
    let a = c.args.self.now in
    let u : IsUtf8 a.text.text.now = subst IsUtf8 (c.as_str-text.ensures ∙ ap (λ t. t.text.now) c.text.ensures) c.as_str-text.utf8 in
    still _ has_units _ _ _ _ c.args.line a.classes_per_char a.levels_per_char c.requires _ _ _ (sym (text_len-chars a.text.text.now u)) (grind arith) (grind arith)
