use Rattle.bidi_base.proofs.Common.{◌≡◌, None, length, zip, take, flat_map, replicate}
use Rattle.bidi_explain.specs.Stages.{written, weak_in, neutral_in}
use Rattle.bidi_explain.proofs.stages.resolve.Given as goal

abbrev pub invariant-loop-sequence : goal.invariant-loop-sequence
invariant-loop-sequence l = record {
  weak_long : length l.weak_row.items ≡ length l.paragraph.classes.now;
  neutral_long : length l.neutral_row.items ≡ length l.paragraph.classes.now;
  weak : l.weak_row.items ≡ written (replicate (length l.paragraph.classes.now) None) (flat_map (λ s. zip s.places (weak_in l.paragraph.classes.now s)) (take l.sequence-index l.sequences));
  neutral : l.neutral_row.items ≡ written (replicate (length l.paragraph.classes.now) None)
      (flat_map (λ s. zip s.places (neutral_in l.paragraph.source.now l.paragraph.brackets.now l.paragraph.levels.now l.paragraph.classes.now s)) (take l.sequence-index l.sequences));
}
