-- What the pass counts: characters, or code units.
use Rattle.std.specs.Prelude.{ℕ}
use Rattle.bidi_base.specs.Texts.{Encoding, Text, char_index}
use Rattle.bidi_explicit.specs.declared.explicit.StepUnit.{StepUnit}
use Rattle.bidi_explicit.specs.declared.explicit.StepUnit.TheVariants.{Character, CodeUnit}

-- how many of them are before an index of a text
abbrev pub count_to : {encoding : Encoding} → StepUnit → Text encoding → ℕ → ℕ
count_to Character text u = char_index text u
count_to CodeUnit text u = u

-- how many of them a text with this many code units and characters has
abbrev pub count_of : StepUnit → ℕ → ℕ → ℕ
count_of Character units chars = chars
count_of CodeUnit units chars = units

-- the minimum of steps for this many characters: one for each; or none if the pass goes by code units, because a search
-- tests many of them in one step
abbrev pub least_of : StepUnit → ℕ → ℕ
least_of Character chars = chars
least_of CodeUnit chars = 0
