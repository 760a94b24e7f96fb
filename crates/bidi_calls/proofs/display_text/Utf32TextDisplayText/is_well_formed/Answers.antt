use Rattle.bidi_base.proofs.Common.{sym, ◌∙◌, map-id}
use Rattle.std.proofs.lemmas.List.Concat.{flat_map_single}
use Rattle.bidi_calls.proofs.display_text.Utf32TextDisplayText.is_well_formed.Goals as goal

pub returns : goal.returns
returns c = λ _. sym (flat_map_single (λ x. x) c.args.self.numbers.now ∙ map-id c.args.self.numbers.now)
