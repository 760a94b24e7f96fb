use Rattle.bidi_base.proofs.Common.{◌+◌, ◌++◌, ◌∙◌, sym, ap, arith, append-nil, map}
use Rattle.bidi_controls.specs.FileSearch.{line_of}
use Rattle.bidi_controls.proofs.FoundLemmas.{found_from-nothing}
use Rattle.bidi_controls.proofs.file_search.FileSearch.push_last.Goals as goal

pub returns-clause-found : goal.returns-clause-found
returns-clause-found c =
    let none = found_from-nothing c.args.self.now.sought (c.args.self.now.lines + 1) c.args.bytes.now (grind arith) in
    sym (append-nil (map line_of c.args.found.now.items)) ∙ ap (λ t. map line_of c.args.found.now.items ++ t) (sym none)
