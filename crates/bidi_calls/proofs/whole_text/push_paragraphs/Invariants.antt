use Rattle.bidi_base.proofs.Common.{◌≡◌, ◌++◌, ℕ, flat_map, map, take, drop, char_index, text_len}
use Rattle.bidi_lines.specs.Analysed.{with_lists}
use Rattle.bidi_display.specs.Shown.{options as options_of}
use Rattle.unicode_bidi.specs.Engine.{Follow}
use Rattle.bidi_calls.specs.WholeText.{of_info, paragraph_order, paragraph_text}
use Rattle.bidi_calls.proofs.whole_text.push_paragraphs.Given as goal

abbrev pub invariant-loop-paragraph : goal.invariant-loop-paragraph
invariant-loop-paragraph g l =
    let a = with_lists (g.T.TextSource.text l.shown.text) l.shown.classes.now l.shown.levels.now in
    record {
      options : options_of l.line ≡ options_of l.fn.line;
      follow : (at : ℕ) × (l.first ≡ char_index a.len_of a.chars at) × Follow at (text_len a.len_of a.chars) (drop l.paragraph-index l.paragraphs);
      order : l.out.order.items ≡ l.fn.out.order.items ++ flat_map (paragraph_order (options_of l.fn.line) a) (map of_info (take l.paragraph-index l.paragraphs));
      text : l.out.text.items ≡ l.fn.out.text.items
          ++ flat_map g.T.LineText.encode (flat_map (paragraph_text (options_of l.fn.line) (g.M.MirroredCharacters.mirrored_of l.mirrors) a) (map of_info (take l.paragraph-index l.paragraphs)));
    }
