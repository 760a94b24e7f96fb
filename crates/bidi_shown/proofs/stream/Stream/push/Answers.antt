use Rattle.bidi_base.proofs.Common.{◌≡◌, ◌∙◌, ◌==◌, ◌++◌, true, false, List, ℕ, take, drop, subst, sym, ap, arith, nat_tests, append-nil, string_bytes, IsUtf8}
use Rattle.bidi_shown.specs.Streams.{pending, whole_lines, shown_bytes, shown_now, pending_after, lines_with}
use Rattle.bidi_shown.specs.declared.stream.Stream.{Stream}
use Rattle.bidi_shown.proofs.PiecesLemmas.{IsShownTo-pushed}
use Rattle.bidi_shown.proofs.stream.Stream.push.Goals as goal

pub returns-then-count-eq0-clause-whole : goal.returns-then-count-eq0-clause-whole
returns-then-count-eq0-clause-whole c = λ came before was.
    let held = pending c.args.self.now in
    let piece : List ℕ = c.args.piece.now in
    let out = string_bytes c.args.out.now in
    let none : (whole_lines piece == 0) ≡ true = grind (arith, nat_tests, c.whole_lines-count.ensures.count) in
    let out_is : out ≡ out ++ shown_now c.args.view held piece = simp none (sym (append-nil out)) in
    let held_is : c.extend_from_slice.new.self.items ≡ pending_after held piece = simp none c.in_ok-extend_from_slice.ensures.items in
    IsShownTo-pushed c.args.view held piece came before out out c.extend_from_slice.new.self.items (λ some. absurd (grind (arith, nat_tests, none, some))) out_is held_is was

pub returns-clause-whole : goal.returns-clause-whole
returns-clause-whole c = λ came before was.
    let held = pending c.args.self.now in
    let piece : List ℕ = c.args.piece.now in
    let out = string_bytes c.args.out.now in
    let count = c.whole_lines-count.ensures.count in
    let some : (whole_lines piece == 0) ≡ false = grind (arith, nat_tests, count) in
    let lines_is : c.extend_from_slice-2.new.self.items ≡ held ++ take (whole_lines piece) piece =
    c.in_ok-extend_from_slice-2.ensures.items ∙ ap (λ (l : List ℕ). held ++ l) (c.split_at.ensures.front ∙ ap (λ (n : ℕ). take n piece) count) in
    let out_is : string_bytes c.show_pending.new.out ≡ out ++ shown_now c.args.view held piece =
    simp some (c.in_ok-show_pending.ensures.shown ∙ ap (λ (l : List ℕ). out ++ shown_bytes c.args.view l) lines_is) in
    let held_is : c.extend_from_slice-3.new.self.items ≡ pending_after held piece =
    simp some (c.in_ok-extend_from_slice-3.ensures.items ∙ ap (λ (l : List ℕ). l ++ c.split_at.result.1.now) c.in_ok-show_pending.ensures.ended.none_kept ∙ c.split_at.ensures.back ∙ ap (λ (n : ℕ). drop n piece) count) in
    IsShownTo-pushed c.args.view held piece came before out (string_bytes c.show_pending.new.out) c.extend_from_slice-3.new.self.items (λ some. subst IsUtf8 lines_is c.in_ok-show_pending.ensures.utf8) out_is held_is was

lines-are : (stream : Stream) (piece : List ℕ) → (whole_lines piece == 0) ≡ false → lines_with stream piece ≡ pending stream ++ take (whole_lines piece) piece
lines-are stream piece some = simp some

pub returns-clause-utf8 : goal.returns-clause-utf8
returns-clause-utf8 c =
    let piece : List ℕ = c.args.piece.now in
    let count = c.whole_lines-count.ensures.count in
    let lines_is : c.extend_from_slice-2.new.self.items ≡ pending c.args.self.now ++ take (whole_lines piece) piece =
    c.in_ok-extend_from_slice-2.ensures.items ∙ ap (λ (l : List ℕ). pending c.args.self.now ++ l) (c.split_at.ensures.front ∙ ap (λ (n : ℕ). take n piece) count) in
    subst IsUtf8 (lines_is ∙ sym (lines-are c.args.self.now piece (grind (arith, nat_tests, count)))) c.in_ok-show_pending.ensures.utf8
