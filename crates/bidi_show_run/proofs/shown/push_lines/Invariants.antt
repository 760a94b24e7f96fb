use Rattle.bidi_base.proofs.Common.{◌≡◌, ◌++◌, take, map, string_bytes, run_of}
use Rattle.bidi_show_run.specs.Printed.{layout_text}
use Rattle.bidi_show_run.proofs.shown.push_lines.Given as goal
use Rattle.unicode_bidi.specs.BidiInfo.{text as text_of, original_classes, levels as levels_of_info}
use Rattle.unicode_bidi.specs.ParagraphInfo.{level_of}

abbrev pub invariant-loop-line : goal.invariant-loop-line
invariant-loop-line l = string_bytes l.out
    ≡ string_bytes l.fn.out ++ layout_text (text_of l.info) (level_of l.paragraph) (original_classes l.info) (levels_of_info l.info) (map run_of (take l.line-index l.lines))
