use Rattle.bidi_base.proofs.Common.{◌≡◌, ◌∙◌, ℕ, ◌++◌, ◌∷◌, [], List, between, append-nil, append_assoc, sym, ap, arith}
use Rattle.bidi_calls.proofs.WholeTextLemmas.{between-none, between-next}
use Rattle.bidi_calls.proofs.whole_text.push_between.Goals as goal

pub loop-index-init : goal.loop-index-init
loop-index-init c = record {
  from = omega arith;
  to = omega (arith, c.requires);
  items = sym (ap (λ (ks : List ℕ). c.args.out.now.items ++ ks) (between-none c.args.first) ∙ append-nil c.args.out.now.items);
}

pub loop-index-preserved : goal.loop-index-preserved
loop-index-preserved c = record {
  from = omega (arith, c.loop-index.invariant.from);
  to = omega (arith, c.loop-index-test.true);
  items = c.in_ok-push.ensures.items
      ∙ ap (λ (ks : List ℕ). ks ++ c.loop-index.index ∷ []) c.loop-index.invariant.items
      ∙ append_assoc c.args.out.now.items (between c.args.first c.loop-index.index) (c.loop-index.index ∷ [])
      ∙ ap (λ (ks : List ℕ). c.args.out.now.items ++ ks) (sym (between-next c.args.first c.loop-index.index c.loop-index.invariant.from));
}

pub returns : goal.returns
returns c =
    let last : c.loop-index.index ≡ c.args.end = omega (arith, c.loop-index.invariant.to, c.loop-index-test.false) in
    c.loop-index.invariant.items ∙ ap (λ (n : ℕ). c.args.out.now.items ++ between c.args.first n) last
