use Rattle.bidi_base.proofs.Common.{subst, map, List, ℕ, IsPermutation, IsPermutation-map}
use Rattle.std.proofs.Common.{Bor}
use Rattle.bidi_arguments.proofs.entries.names_in_order.Goals as goal

pub returns-clause-names : goal.returns-clause-names
returns-clause-names c =
    let now : Bor (List ℕ) → List ℕ = λ name. name.now in
    subst (λ l. IsPermutation l (map now c.sort_unstable.new.self.items)) c.in_ok-names.ensures (IsPermutation-map now _ _ c.sort_unstable.ensures.permutation)
