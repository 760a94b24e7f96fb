use Rattle.bidi_base.proofs.Common.{append-nil, rules, arith, found_brackets}
use Rattle.bidi_base.specs.declared.char_data.BidiClass.TheVariants.{L}
use Rattle.bidi_laws.proofs.FoundBracketsLemmas.{found_brackets-more}
use Rattle.bidi_plain.proofs.plain.bracket_pairs.counted_brackets.Goals as goal
use Rattle.bidi_plain.proofs.plain.bracket_pairs.counted_brackets.Goals.{in-Some+in_ok-push, in_default}

pub loop-index-init : goal.loop-index-init
unfolding found_brackets
loop-index-init c = search rules

pub loop-index-preserved : goal.loop-index-preserved
loop-index-preserved c = grind (arith, append-nil, found_brackets-more c.args.classes.now c.args.brackets.now c.loop-index.index L)
