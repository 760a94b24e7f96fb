use Rattle.bidi_base.proofs.Common.{◌≡◌, ◌++◌, take, flat_map, string_bytes}
use Rattle.bidi_show_run.specs.Printed.{printed_in}
use Rattle.bidi_show_run.proofs.shown.push_paragraphs.Given as goal
use Rattle.unicode_bidi.specs.BidiInfo.{text as text_of, original_classes, levels as levels_of_info}

abbrev pub invariant-loop-paragraph : goal.invariant-loop-paragraph
invariant-loop-paragraph g l = string_bytes l.out
    ≡ string_bytes l.fn.out ++ flat_map (printed_in l.view (g.D.BidiDataSource.source l.data_source) (text_of l.info) (original_classes l.info) (levels_of_info l.info)) (take l.paragraph-index l.paragraphs)
