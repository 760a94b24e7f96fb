use Rattle.bidi_base.proofs.Common.{◌++◌, ◌∷◌, [], ◌≡◌, ◌∙◌, ap, map, map_push, All-push}
use Rattle.bidi_base.specs.Texts.{subrange}
use Rattle.unicode_bidi.specs.VisualRun.{run_of_text}
use Rattle.unicode_bidi.proofs.visual_run.run_texts.Goals as goal

pub loop-run-preserved : goal.loop-run-preserved
loop-run-preserved g c = record {
  runs = ap (map run_of_text) c.in_ok-push.ensures.items ∙ map_push run_of_text _ _ ∙ ap (λ xs. xs ++ c.in-Some.run' ∷ []) c.loop-run.invariant.runs;
  texts = rw c.in_ok-push.ensures.items (All-push
      (λ r. g.T.TextSource.text r.text ≡ subrange (g.T.TextSource.text c.text-text.result) r.run.range.start r.run.range.end)
      c.loop-run.found.items _ c.loop-run.invariant.texts c.subrange-text.ensures);
}
