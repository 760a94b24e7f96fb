use Rattle.bidi_base.proofs.Common.{◌≡◌, ◌++◌, flat_map, encode_utf8, take}
use Rattle.std.proofs.Common.{string_bytes}
use Rattle.bidi_lines.specs.Analysed.{with_lists}
use Rattle.bidi_display.specs.Shown.{options as options_of}
use Rattle.bidi_display.specs.TextDisplay.{displayed_paragraphs}
use Rattle.bidi_display.proofs.text_display.push_paragraphs.Given as goal

abbrev pub invariant-loop-paragraph : goal.invariant-loop-paragraph
invariant-loop-paragraph g l =
    let a = with_lists (g.T.TextSource.text l.fn.text) l.classes l.levels in
    record {
      options : options_of l.line ≡ options_of l.fn.line;
      text : string_bytes l.out ≡ string_bytes l.fn.out
          ++ flat_map encode_utf8 (displayed_paragraphs (options_of l.fn.line) (g.M.MirroredCharacters.mirrored_of l.mirrors) a (take l.paragraph-index l.paragraphs));
    }
