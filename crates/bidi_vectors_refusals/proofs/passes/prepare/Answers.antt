-- What `compute` leaves is what `isolating_run_sequences` requires.
use Rattle.bidi_base.proofs.Common.{ℕ, List, sym, ap, ◌∙◌, len_utf8, chars, per_char, level_run_ranges}
use Rattle.bidi_base.specs.declared.char_data.BidiClass.{BidiClass}
use Rattle.bidi_base.specs.declared.char_data.BidiClass.TheVariants.{L}
use Rattle.bidi_base.proofs.PerUnit.{length-per_char}
use Rattle.bidi_text.proofs.StrLemmas.{has_units}
use Rattle.bidi_explicit.proofs.ExplicitUnits.{is_per_char-explicit_levels, per_char-explicit_levels}
use Rattle.bidi_vectors_refusals.proofs.passes.prepare.Goals as goal

pub isolating_run_sequences-requires-clause-levels : goal.isolating_run_sequences-requires-clause-levels
isolating_run_sequences-requires-clause-levels c =
    let text : List ℕ = chars c.args.paragraph.text.text.now in
    let stored : List BidiClass = per_char L len_utf8 text c.args.paragraph.classes.now in
    is_per_char-explicit_levels len_utf8 text c.args.para_level stored c.compute.new.levels (length-per_char L len_utf8 text c.args.paragraph.classes.now) c.in_ok-compute.ensures.levels

pub isolating_run_sequences-requires-clause-runs : goal.isolating_run_sequences-requires-clause-runs
isolating_run_sequences-requires-clause-runs c =
    let text : List ℕ = chars c.args.paragraph.text.text.now in
    let stored : List BidiClass = per_char L len_utf8 text c.args.paragraph.classes.now in
    c.in_ok-compute.ensures.runs
    ∙ ap (level_run_ranges len_utf8 text stored) (sym (per_char-explicit_levels len_utf8 has_units text c.args.para_level stored c.compute.new.levels (length-per_char L len_utf8 text c.args.paragraph.classes.now) c.in_ok-compute.ensures.levels))
