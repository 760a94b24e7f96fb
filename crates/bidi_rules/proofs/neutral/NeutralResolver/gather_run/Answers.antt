use Rattle.bidi_base.proofs.Common.{◌≡◌, ℕ, List, [], ◌∷◌, ◌++◌, Option, sym, ap, ◌∙◌, arith, append-nil, append_assoc, true}
use Rattle.bidi_base.proofs.Common.{option_map_or, counted_bracket, same_class, brackets_from, HasRead, class_at, Source}
use Rattle.bidi_base.specs.declared.brackets.Bracket.{Bracket}
use Rattle.bidi_base.specs.declared.char_data.BidiClass.{BidiClass}
use Rattle.bidi_base.specs.declared.char_data.BidiClass.TheVariants.{ON}
use Rattle.bidi_base.specs.declared.data_source.BidiMatchedOpeningBracket.{BidiMatchedOpeningBracket}
use Rattle.bidi_base.proofs.TextLemmas.{is_boundary-le}
use Rattle.bidi_rules.specs.NeutralPass.{unit_bracket, unit_brackets}
use Rattle.bidi_rules.proofs.UnitBrackets.{unit_brackets-none, unit_brackets-more, unit_brackets-line}
use Rattle.bidi_rules.proofs.neutral.NeutralResolver.gather_run.Goals as goal
use Rattle.bidi_rules.proofs.neutral.NeutralResolver.gather_run.Goals.{in-Some+in_ok-push, in_default}

pub first_passing-at-requires-clause-within : goal.first_passing-at-requires-clause-within
first_passing-at-requires-clause-within g c = grind (arith, is_boundary-le)

pub first_passing-at-requires-in-loop-at-clause-within : goal.first_passing-at-requires-in-loop-at-clause-within
first_passing-at-requires-in-loop-at-clause-within g c = grind (arith, is_boundary-le)

pub loop-at-init : goal.loop-at-init
loop-at-init g c = grind (arith, unit_brackets-none, append-nil)

pub push-requires : goal.push-requires
push-requires g c = (_, c.loop-at.invariant.held c.requires.read.0 c.requires.read.1)

-- a character of class ON
counted : (c : BidiClass) (o : Option BidiMatchedOpeningBracket) (u : ℕ) → same_class ON c ≡ true → brackets_from u (o ∷ []) ≡ brackets_from u (counted_bracket c o ∷ [])
counted c o u is = grind arith

pub loop-at-preserved : goal.loop-at-preserved
loop-at-preserved g c =
    let len_of = g.T.TextSource.encoding.len_of in
    let chars : List ℕ = (g.T.TextSource.text c.args.text).chars in
    let source : Source = g.D.BidiDataSource.source c.args.data_source.now in
    let units = c.args.classes.now in
    let at = c.loop-at.at in
    let i = c.loop-at.invariant in
    let f = c.first_passing-at-in-loop-at.ensures in
    let more = unit_brackets-more len_of chars source units c.args.run.now.start at c.first_passing-at-in-loop-at.result i.begins (omega (arith, f.begins)) f.before in
    let so_far = unit_brackets len_of chars source units c.args.run.now.start at in
    let own = unit_bracket len_of chars source units at in
    let from : Option (ℕ × ℕ) → List Bracket = λ o. option_map_or (λ e. brackets_from at (counted_bracket (class_at units at) (source.bracket_of e.0) ∷ [])) o [] in
    let gathered : (before : List Bracket) → HasRead c.loop-at.self.search before → HasRead c.match-char_at.self.search (before ++ own) =
    λ before h. elim c.match-char_at.branch [
      | in-Some+in_ok-push w ↦
          let is : _ = counted (class_at units at) (source.bracket_of w.in-Some.c) at (i.here c.loop-at-test.true) ∙ ap from (sym w.in-Some.is ∙ c.char_at.ensures) in
          rw w.self-is (rw is at (w.in_ok-push.ensures before h))
      | in_default w ↦ grind (arith, append-nil)
    ] in
    record {
      begins = omega (arith, f.begins, i.begins);
      ends = f.ends;
      here = f.at;
      held = λ before h. simp (more, ← append_assoc before so_far own) (gathered (before ++ so_far) (i.held before h));
    }

pub returns : goal.returns
returns g c =
    let len_of = g.T.TextSource.encoding.len_of in
    let h-units = g.T.TextSource.encoding.positive in
    let chars : List ℕ = (g.T.TextSource.text c.args.text).chars in
    let source : Source = g.D.BidiDataSource.source c.args.data_source.now in
    let run = c.args.run.now in
    let i = c.loop-at.invariant in
    let end : c.loop-at.at ≡ run.end = omega (arith, i.ends, c.loop-at-test.false) in
    λ before h. simp (end, unit_brackets-line len_of chars source c.args.classes.now h-units run.start run.end c.requires.is_line) at (i.held before h)
