use Rattle.bidi_base.proofs.Common.{[], ◌∷◌, sym, arith}
use Rattle.bidi_base.proofs.UnitIndexLemmas.{text_len-one_unit}
use Rattle.bidi_lines.proofs.ShownLines.{on_ok, appends_shown}
use Rattle.bidi_lines.proofs.shown_line.chars.ShownLine+CharsText.push_text.Goals as goal

pub returns-clause-text : goal.returns-clause-text
returns-clause-text c a level line shows =
    let s = c.args.self.now in
    on_ok c.push_units.result (appends_shown s (λ x. omega arith) a level line shows (λ x. x ∷ []) s.text.list.now _ _ (sym (text_len-one_unit s.text.list.now))) c.push_units.ensures.text
