use Rattle.bidi_base.proofs.Common.{◌∙◌, ◌++◌, sym, append_assoc, string_bytes}
use Rattle.bidi_shown.specs.Streams.{pending, shown_bytes}
use Rattle.bidi_shown.proofs.PiecesLemmas.{IsShownTo-end}
use Rattle.bidi_shown.proofs.stream.Stream.finish.Goals as goal

pub returns-clause-whole : goal.returns-clause-whole
returns-clause-whole c = λ came before was.
    let all = IsShownTo-end c.args.view (pending c.args.self.now) came (before ++ string_bytes c.args.out.now) c.in_ok-show_pending.ensures.utf8 was in
    (all.0, rw c.in_ok-show_pending.ensures.shown (sym (append_assoc before (string_bytes c.args.out.now) (shown_bytes c.args.view (pending c.args.self.now))) ∙ all.1))
