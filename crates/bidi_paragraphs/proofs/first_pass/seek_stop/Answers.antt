use Rattle.bidi_base.proofs.Common.{◌∙◌, ◌+◌, refl, sym, arith}
use Rattle.bidi_paragraphs.specs.ClassSet.{has}
use Rattle.bidi_paragraphs.specs.FirstPass.{ahead, IsSkimmed}
use Rattle.bidi_paragraphs.specs.ParagraphFlags.{with_class}
use Rattle.bidi_paragraphs.proofs.Skimmed.{IsSkimmed-start, is_boundary-skimmed, within-skimmed, IsSkimmed-on, IsStop-on, IsSkimmed-stop}
use Rattle.bidi_paragraphs.proofs.first_pass.seek_stop.Given.{Over}
use Rattle.bidi_paragraphs.proofs.first_pass.seek_stop.Goals as goal
use Rattle.bidi_paragraphs.proofs.first_pass.seek_stop.Goals.{Else-has}

pub loop-progress-init : goal.loop-progress-init
loop-progress-init g c = IsSkimmed-start _ _ _ _ _ _ _

pub read_some-requires : goal.read_some-requires
read_some-requires g c = record {
  sized = grind arith;
  begins = is_boundary-skimmed _ _ _ _ _ _ _ _ _ _ c.loop-progress.invariant g.T.TextSource.encoding.positive (g.T.TextSource.text c.args.text).chars c.requires.begins refl;
}

pub returns-then-has-clause-stop : goal.returns-then-has-clause-stop
returns-then-has-clause-stop g c =
    IsStop-on _ _ _ _ _ _ _ _ _ _ c.loop-progress.invariant g.T.TextSource.encoding.positive (g.T.TextSource.text c.args.text).chars c.requires.begins refl c.in-Some.stop c.read_some.new.classes _ c.in-Some.ensures.stop

-- a character that changes only the flags is read too
passed : (g : Over) (c : Else-has g)
    → IsSkimmed (g.D.BidiDataSource.source c.args.data_source.now) g.T.TextSource.encoding.len_of (has c.args.stop_classes) (ahead g.T.TextSource.encoding.len_of (g.T.TextSource.text c.args.text).chars c.args.progress.now.at) c.args.progress.now.at (c.in-Some.stop.start + c.in-Some.stop.len) c.args.classes.now c.read_some.new.classes
    c.args.progress.now.flags (with_class c.read_some.new.progress.flags c.in-Some.stop.class)
passed g c =
    let stop = IsStop-on _ _ _ _ _ _ _ _ _ _ c.loop-progress.invariant g.T.TextSource.encoding.positive (g.T.TextSource.text c.args.text).chars c.requires.begins refl c.in-Some.stop c.read_some.new.classes _ c.in-Some.ensures.stop in
    IsSkimmed-stop _ _ (has c.args.stop_classes) _ _ c.in-Some.stop _ _ _ _ stop (sym c.has.ensures ∙ c.if-has.false)

pub overflow_add-progress : goal.overflow_add-progress
overflow_add-progress g c =
    let within = within-skimmed _ _ _ _ _ _ _ _ _ _ (passed g (goal.at.overflow_add-progress g c).Else-has) g.T.TextSource.encoding.positive (g.T.TextSource.text c.args.text).chars c.requires.begins refl in
    omega (arith, within, c.well_formed, c.requires.sized)

pub loop-progress-preserved-in-Some : goal.loop-progress-preserved-in-Some
loop-progress-preserved-in-Some g c = rw c.with-progress.ensures (passed g (goal.at.loop-progress-preserved-in-Some g c).Else-has)

pub loop-progress-preserved : goal.loop-progress-preserved
loop-progress-preserved g c =
    IsSkimmed-on _ _ _ _ _ _ _ _ _ _ c.loop-progress.invariant g.T.TextSource.encoding.positive (g.T.TextSource.text c.args.text).chars c.requires.begins refl _ _ _ c.in_default.ensures.stop

pub returns-clause-end : goal.returns-clause-end
returns-clause-end g c none =
    let within = within-skimmed _ _ _ _ _ _ _ _ _ _ c.loop-progress.invariant g.T.TextSource.encoding.positive (g.T.TextSource.text c.args.text).chars c.requires.begins refl in
    omega (arith, within, c.loop-progress-test.false, c.loop-progress.auto.classes, c.requires.sized)
