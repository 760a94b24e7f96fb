use Rattle.bidi_base.proofs.Common.{◌≡◌, ℕ, List, None, map, length-map, ap, ◌∙◌, IfOk-weaker, length, per_unit, per_char, chars, len_utf8, encode_utf8, line_text, stored_classes, stored_levels}
use Rattle.bidi_base.proofs.Common.{paragraph_level, Source, arith, IsUtf8, IsLine, IsCharBoundary-start}
use Rattle.bidi_base.proofs.PerUnit.{per_char-per_unit}
use Rattle.bidi_base.specs.declared.char_data.BidiClass.{BidiClass}
use Rattle.bidi_base.specs.declared.char_data.BidiClass.TheVariants.{L}
use Rattle.bidi_laws.proofs.LevelLaws.{length-stored_levels}
use Rattle.bidi_laws.proofs.OneParagraph.{classes-one, levels-one, para_level-one}
use Rattle.bidi_laws.proofs.StoredSteps.{length-stored_classes}
use Rattle.bidi_text.proofs.StrLemmas.{has_units, is_boundary-from_str}
use Rattle.std.proofs.lemmas.Str.{IsCharBoundary-end}
use Rattle.bidi_unicode.specs.Unicode.{unicode_source}
use Rattle.bidi_vectors_examples.specs.Runs.{shown_paragraph}
use Rattle.bidi_vectors_examples.proofs.callers.shown_line.Goals as goal

-- a whole text is a line
whole : (text : List ℕ) → IsUtf8 text → IsLine len_utf8 (chars text) 0 (length text)
whole text u = record {
  ordered = omega arith;
  begins = is_boundary-from_str text 0 u (IsCharBoundary-start text u);
  ends = is_boundary-from_str text (length text) u (IsCharBoundary-end text);
}

pub reorder_line-requires : goal.reorder_line-requires
reorder_line-requires c = rw c.in_ok-info.ensures.constructs.text (whole c.args.line.now c.utf8.line)

-- what the line shows, from the classes and the levels of its characters
shown-is : (source : Source) (own text shown : List ℕ) (classes : List BidiClass) (levels : List ℕ) (level : ℕ) → own ≡ text
    → classes ≡ per_unit len_utf8 (chars own) (stored_classes (map source.class_of (chars own))) → levels ≡ per_unit len_utf8 (chars own) (stored_levels source None (chars own))
    → level ≡ paragraph_level None (map source.class_of (chars own))
    → shown ≡ line_text len_utf8 encode_utf8 (chars own) own level (per_char L len_utf8 (chars own) classes) (per_char 0 len_utf8 (chars own) levels) 0 (length text)
    → shown ≡ shown_paragraph source text
shown-is source own text shown classes levels level same of_classes of_levels of_level is =
    let cs : List ℕ = chars own in
    let own_classes : per_char L len_utf8 cs classes ≡ stored_classes (map source.class_of cs) =
    ap (λ (classes : List BidiClass). per_char L len_utf8 cs classes) of_classes ∙ per_char-per_unit len_utf8 has_units L cs _ (length-stored_classes _ ∙ length-map cs source.class_of) in
    let own_levels : per_char 0 len_utf8 cs levels ≡ stored_levels source None cs =
    ap (λ (units : List ℕ). per_char 0 len_utf8 cs units) of_levels ∙ per_char-per_unit len_utf8 has_units 0 cs _ (length-stored_levels source None cs) in
    cc (is, own_classes, own_levels, of_level, same)

pub returns : goal.returns
returns c =
    let is = c.in_ok-info.ensures.constructs.analysis in
    IfOk-weaker c.reorder_line.result _ _
    (λ shown of_line. shown-is unicode_source _ c.args.line.now _ _ _ _ c.in_ok-info.ensures.constructs.text (classes-one _ _ _ _ _ is) (levels-one _ _ _ _ _ is) (cc (para_level-one _ _ _ _ _ is)) of_line.text) c.reorder_line.ensures.text
