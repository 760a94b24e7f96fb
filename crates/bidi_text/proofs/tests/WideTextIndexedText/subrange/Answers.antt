use Rattle.bidi_base.proofs.Common.{map, sym, ap, arith, length-map}
use Rattle.bidi_text.specs.WideText.{char_of_number}
use Rattle.bidi_text.proofs.WideLemmas.{end-within, subrange-wide}
use Rattle.bidi_text.proofs.tests.WideTextIndexedText.subrange.Goals as goal

pub slice_bounds-result-end : goal.slice_bounds-result-end
slice_bounds-result-end c =
    let numbers = c.args.self.numbers.now in
    omega (arith, end-within (map char_of_number numbers) c.args.range.end c.requires.ends, length-map numbers char_of_number)

pub returns : goal.returns
returns c = ap (λ cs. record { chars = cs }) (sym (subrange-wide char_of_number c.args.self.numbers.now c.args.range.start c.args.range.end c.requires))
