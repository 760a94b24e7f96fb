use Rattle.bidi_base.proofs.Common.{◌∙◌, ℕ, ◌+◌, List, [], ◌∷◌, ◌++◌, length-take-le, take, append-nil, append_assoc, sym, ap, arith}
use Rattle.bidi_calls.specs.ShownOrder.{shown_from}
use Rattle.bidi_calls.proofs.ShownLemmas.{shown_from-more, shown_from-same}
use Rattle.bidi_calls.proofs.shown.push_indexes.Goals.{then-not-drops+in_ok-push, else-not-drops}
use Rattle.bidi_calls.proofs.shown.push_indexes.Goals as goal

pub loop-k-init : goal.loop-k-init
loop-k-init c = sym (append-nil c.args.out.now.items)

pub loop-k-preserved : goal.loop-k-preserved
loop-k-preserved c =
    let old : List ℕ = c.args.out.now.items in
    let read : List ℕ = shown_from c.args.options c.args.first (take c.loop-k.k c.args.chars.now) in
    elim c.if-not-drops.branch [
      | then-not-drops+in_ok-push w ↦
          let more = shown_from-more c.args.options c.args.first c.args.chars.now c.loop-k.k c.index-chars-k.result c.loop-k-test.true c.index-chars-k.is
          (length-take-le c.loop-k.k c.args.chars.now (omega (arith, c.loop-k-test.true))) (sym c.drops.ensures ∙ w.if-not-drops.true) in
          ap (λ v. v.items) w.out-is ∙ w.in_ok-push.ensures.items
          ∙ ap (λ (ks : List ℕ). ks ++ (c.args.first + c.loop-k.k) ∷ []) c.loop-k.invariant
          ∙ append_assoc old read ((c.args.first + c.loop-k.k) ∷ [])
          ∙ ap (λ (ks : List ℕ). old ++ ks) (sym more)
      | else-not-drops w ↦
          let same = shown_from-same c.args.options c.args.first c.args.chars.now c.loop-k.k c.index-chars-k.result c.loop-k-test.true c.index-chars-k.is
          (sym c.drops.ensures ∙ w.if-not-drops.false) in
          ap (λ v. v.items) w.out-is ∙ c.loop-k.invariant ∙ ap (λ (ks : List ℕ). old ++ ks) (sym same)
    ]
