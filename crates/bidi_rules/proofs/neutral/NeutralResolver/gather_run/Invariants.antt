-- The brackets of the units that came are read.
use Rattle.bidi_base.proofs.Common.{◌≡◌, ◌-◌, ◌<◌, ◌≤◌, ◌++◌, List, true, HasRead, same_class, class_at}
use Rattle.bidi_base.specs.declared.brackets.Bracket.{Bracket}
use Rattle.bidi_base.specs.declared.char_data.BidiClass.TheVariants.{ON}
use Rattle.bidi_rules.specs.NeutralPass.{unit_brackets}
use Rattle.bidi_rules.proofs.neutral.NeutralResolver.gather_run.Given as goal

abbrev pub invariant-loop-at : goal.invariant-loop-at
invariant-loop-at g l =
    let len_of = g.T.TextSource.encoding.len_of in
    let chars = (g.T.TextSource.text l.fn.text).chars in
    let source = g.D.BidiDataSource.source l.data_source in
    record {
      begins : l.run.start ≤ l.at;
      ends : l.at ≤ l.end;
      here : l.at < l.end → same_class ON (class_at l.classes l.at) ≡ true;
      held : (before : List Bracket) → HasRead l.fn.self.search before → HasRead l.self.search (before ++ unit_brackets len_of chars source l.classes l.run.start l.at);
    }

abbrev pub decreases-loop-at : goal.decreases-loop-at
decreases-loop-at g l = l.end - l.at
