use Rattle.bidi_base.proofs.Common.{◌/◌, ◌%◌, ◌≡◌, ◌*◌, map, sym, arith, common_steps, length-map, get_or-map}
use Rattle.bidi_text.specs.WideText.{char_of_number}
use Rattle.bidi_text.proofs.WideLemmas.{char_at-wide, char_at-past, char_at-inside}
use Rattle.bidi_text.proofs.tests.WideTextIndexedText.char_at.Goals as goal

pub returns-then-index-ne0 : goal.returns-then-index-ne0
returns-then-index-ne0 c =
    sym (char_at-inside (map char_of_number c.args.self.now.numbers.now) c.args.index (c.args.index / 4) (c.args.index % 4) (omega arith) (omega arith) (omega arith))

pub returns-in_err-number : goal.returns-in_err-number
returns-in_err-number c =
    let u = c.args.index in
    let is : u ≡ 4 * (u / 4) = omega arith in
    grind (arith, common_steps, is, char_at-past (map char_of_number c.args.self.now.numbers.now) (u / 4), length-map c.args.self.now.numbers.now char_of_number)

pub returns : goal.returns
returns c =
    let u = c.args.index in
    let is : u ≡ 4 * (u / 4) = omega arith in
    grind (arith, common_steps, is, char_at-wide (map char_of_number c.args.self.now.numbers.now) (u / 4) 0, length-map c.args.self.now.numbers.now char_of_number, get_or-map)
