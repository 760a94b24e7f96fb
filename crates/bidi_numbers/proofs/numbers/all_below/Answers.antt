use Rattle.bidi_base.proofs.Common.{nat_lt, length, inl, inr, arith, nat_tests, cases_lt, get_or_default, list_all_at}
use Rattle.std.proofs.lemmas.List.Sums.{list_all-from_AllPass}
use Rattle.bidi_numbers.proofs.numbers.all_below.Goals as goal

pub returns : goal.returns
returns c =
    let f = c.first_passing.ensures in
    elim (cases_lt c.first_passing.result (length c.args.numbers.now)) [
      | inl found ↦ let fails = f.at found in grind (arith, nat_tests, list_all_at (λ n. nat_lt n c.args.limit) c.args.numbers.now c.first_passing.result 0 found)
      | inr none ↦
          let all = list_all-from_AllPass (λ n. nat_lt n c.args.limit) c.args.numbers.now (λ k d below. grind (arith, f.before k, get_or_default c.args.numbers.now k d 0)) in
          grind (arith, nat_tests)
    ]
