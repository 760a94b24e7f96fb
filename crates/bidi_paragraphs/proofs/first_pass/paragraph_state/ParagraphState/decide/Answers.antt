use Rattle.bidi_base.proofs.Common.{◌≤◌, length, sym}
use Rattle.bidi_laws.proofs.ReadingLemmas.{innermost-All}
use Rattle.bidi_paragraphs.specs.declared.first_pass.paragraph_state.Undecided.{Undecided}
use Rattle.bidi_paragraphs.proofs.Undecided.{waiting-innermost}
use Rattle.bidi_paragraphs.proofs.first_pass.paragraph_state.ParagraphState.decide.Goals as goal

pub resolve-requires : goal.resolve-requires
resolve-requires c =
    let is = waiting-innermost c.args.self.now.depth c.args.self.now.undecided.items c.in-Some.initiator (sym c.in-Some.ensures.taken) in
    let w = innermost-All (λ (u : Undecided). (u.units.start ≤ u.units.end) × (u.units.end ≤ length c.args.classes.now)) _ c.in-Some.initiator c.requires.within is in
    record { begins = w.0; ends = w.1 }
