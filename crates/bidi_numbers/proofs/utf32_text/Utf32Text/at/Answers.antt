use Rattle.std.proofs.lemmas.List.Sums.{AllPass-from_list_all}
use Rattle.bidi_numbers.specs.Texts.{is_scalar}
use Rattle.bidi_numbers.proofs.utf32_text.Utf32Text.at.Goals as goal

pub char_of-requires : goal.char_of-requires
char_of-requires c = AllPass-from_list_all is_scalar c.args.self.numbers.now c.args.self.scalars c.args.index 0 c.requires
