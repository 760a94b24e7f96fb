use Rattle.bidi_base.proofs.Common.{◌≡◌, map}
use Rattle.unicode_bidi.specs.VisualRun.{HaveTexts, run_of_text}
use Rattle.unicode_bidi.proofs.visual_run.run_texts.Given as goal

-- the runs so far
abbrev pub invariant-loop-run : goal.invariant-loop-run
invariant-loop-run g l = record {
  runs : map run_of_text l.found.items ≡ l.yielded;
  texts : HaveTexts (g.T.TextSource.text l.text) g.T.TextSource.text l.found.items;
}
