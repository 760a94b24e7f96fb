use Rattle.bidi_base.proofs.Common.{◌≡◌, Some, sym, ◌∙◌, arith}
use Rattle.bidi_base.specs.Texts.{char_at}
use Rattle.bidi_text.proofs.IndexedLemmas.{is_char_at}
use Rattle.bidi_text.proofs.text.indexed_text.Reader.read.Goals as goal

pub overflow_add-self : goal.overflow_add-self
overflow_add-self g c =
    let text = g.T.IndexedText.text c.args.self.now.text in
    let read : Some (c.in_ok-c.c, c.in_ok-c.len) ≡ char_at text c.args.self.now.at = sym c.in_ok-c.was ∙ c.char_at.ensures in
    omega (arith, (is_char_at text c.args.self.now.at c.in_ok-c.c c.in_ok-c.len c.requires read).fits)

pub returns-clause-can_read : goal.returns-clause-can_read
returns-clause-can_read g c =
    let text = g.T.IndexedText.text c.args.self.now.text in
    let read : Some (c.in_ok-c.c, c.in_ok-c.len) ≡ char_at text c.args.self.now.at = sym c.in_ok-c.was ∙ c.char_at.ensures in
    (is_char_at text c.args.self.now.at c.in_ok-c.c c.in_ok-c.len c.requires read).on
