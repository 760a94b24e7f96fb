use Rattle.std.proofs.Common.{◌≡◌, take, append_assoc, slice_range, List, ℕ, [], refl, map, flat_map, encode_utf8, string_bytes, ◌++◌, ◌<◌, ◌≤◌, length, get_or, sym, ap, ◌∙◌, arith}
use Rattle.bidi_display.specs.Shown.{chars, cluster_text, clusters, displayed_part, displayed_text, options}
use Rattle.bidi_display.specs.DisplayedLine.{cluster_order}
use Rattle.bidi_base.specs.Indexes.{at_indexes}
use Rattle.std.proofs.lemmas.List.{take_all}
use Rattle.bidi_display.proofs.ColumnLemmas.{length-cluster_order, cluster_order-below}
use Rattle.bidi_base.proofs.Common.{rules, IsUtf8-string_bytes}
use Rattle.bidi_display.proofs.Extending.{cut_back, Extends-appended, Extends-trans, ok_from_is_err}
use Rattle.bidi_display.proofs.TextLemmas.{chars-ordered, chars-within, written-more}
use Rattle.bidi_display.proofs.displayed_line.DisplayedLine.push_text.Goals as goal

pub offset_bounds-clusters-index : goal.offset_bounds-clusters-index
offset_bounds-clusters-index g c =
    let within : get_or c.order-index-items.result.now c.loop-index.index-index 0 < length c.clusters.result.now =
    rw (c.clusters.ensures, c.order-index-items.ensures) (cluster_order-below (clusters c.args.self.now) c.loop-index.index-index (rw (c.order-index-items.ensures, length-cluster_order) at c.loop-index-test.true)) in
    omega arith

pub bounds-clusters-index : goal.bounds-clusters-index
bounds-clusters-index g c =
    rw (c.clusters.ensures, c.order-index-items.ensures) (cluster_order-below (clusters c.args.self.now) c.loop-index.index-index (rw (c.order-index-items.ensures, length-cluster_order) at c.loop-index-test.true))

pub chars_of-chars-requires-clause-start : goal.chars_of-chars-requires-clause-start
chars_of-chars-requires-clause-start g c =
    let fits = cluster_order-below (clusters c.args.self.now) c.loop-index.index-index (rw (c.order-index-items.ensures, length-cluster_order) at c.loop-index-test.true) in
    let read = rw (c.clusters.ensures, c.order-index-items.ensures) at c.index-clusters-index.is in
    chars-ordered (chars c.args.self.now) (clusters c.args.self.now) _ c.index-clusters-index.result fits read c.args.self.now.chars_within

pub chars_of-chars-requires-clause-end : goal.chars_of-chars-requires-clause-end
chars_of-chars-requires-clause-end g c =
    let fits = cluster_order-below (clusters c.args.self.now) c.loop-index.index-index (rw (c.order-index-items.ensures, length-cluster_order) at c.loop-index-test.true) in
    let read = rw (c.clusters.ensures, c.order-index-items.ensures) at c.index-clusters-index.is in
    chars-within (chars c.args.self.now) (clusters c.args.self.now) _ c.index-clusters-index.result fits read c.args.self.now.chars_within

pub truncate-requires : goal.truncate-requires
truncate-requires g c =
    let old = c.args.out.now in
    let new = c.push_displayed.new.out in
    let extends = Extends-trans _ _ _ (Extends-appended _ _ _ c.loop-index.invariant) c.push_displayed.ensures.extends in
    let len : c.len-len.result ≡ length (string_bytes old) = search rules in
    λ _. rw len (cut_back (string_bytes old) (string_bytes new) extends (IsUtf8-string_bytes old) (IsUtf8-string_bytes new))

pub returns-then-is_err-clause-unchanged : goal.returns-then-is_err-clause-unchanged
returns-then-is_err-clause-unchanged g c =
    let extends = Extends-trans _ _ _ (Extends-appended _ _ _ c.loop-index.invariant) c.push_displayed.ensures.extends in
    let len : c.len-len.result ≡ length (string_bytes c.args.out.now) = search rules in
    c.truncate.ensures.bytes ∙ ap (λ n. take n (string_bytes c.push_displayed.new.out)) len ∙ extends

pub loop-index-preserved : goal.loop-index-preserved
loop-index-preserved g c =
    let fits = cluster_order-below (clusters c.args.self.now) c.loop-index.index-index (rw (c.order-index-items.ensures, length-cluster_order) at c.loop-index-test.true) in
    let read = rw (c.clusters.ensures, c.order-index-items.ensures) at c.index-clusters-index.is in
    let inside : c.loop-index.index-index < length (cluster_order (clusters c.args.self.now)) = rw c.order-index-items.ensures at c.loop-index-test.true in
    let step = written-more (chars c.args.self.now) (clusters c.args.self.now) _ c.index-clusters-index.result fits read (options c.args.self.now)
    (g.M.MirroredCharacters.mirrored_of c.args.mirrors.now) (cluster_order (clusters c.args.self.now)) c.loop-index.index-index inside refl in
    let part = flat_map encode_utf8 (displayed_part (options c.args.self.now) (g.M.MirroredCharacters.mirrored_of c.args.mirrors.now)
    (slice_range (chars c.args.self.now) c.index-clusters-index.result.chars_start c.index-clusters-index.result.chars_end)) in
    (rw (c.options.ensures, c.chars_of-chars.ensures) at (ok_from_is_err c.push_displayed.result (sym c.is_err.ensures.value ∙ c.if-is_err.false) c.push_displayed.ensures.text))
    ∙ ap (λ (bytes : List ℕ). bytes ++ part) c.loop-index.invariant
    ∙ append_assoc (string_bytes c.args.out.now) _ part
    ∙ ap (λ (bytes : List ℕ). string_bytes c.args.out.now ++ bytes) (sym step)

pub returns-clause-text : goal.returns-clause-text
unfolding displayed_text
returns-clause-text g c =
    let order = cluster_order (clusters c.args.self.now) in
    let all : length order ≤ c.loop-index.index-index = rw c.order-index-items.ensures at c.loop-index-test.false in
    let texts = map (cluster_text (options c.args.self.now) (g.M.MirroredCharacters.mirrored_of c.args.mirrors.now) (chars c.args.self.now)) (clusters c.args.self.now) in
    c.loop-index.invariant
    ∙ ap (λ (ps : List ℕ). string_bytes c.args.out.now ++ flat_map encode_utf8 (flat_map (λ (text : List ℕ). text) (at_indexes [] texts ps))) (take_all c.loop-index.index-index order all)
