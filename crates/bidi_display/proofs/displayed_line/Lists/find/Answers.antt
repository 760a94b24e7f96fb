use Rattle.bidi_base.proofs.Common.{◌≡◌, ◌∙◌, ℕ, List, length, drop, AreInverse, ap, sym, subst, arith, All, Ok, Err, Result, OnOk, indexes, IsPermutation, levels_of_line, per_char, subrange, line_levels_per_char, slice_range}
use Rattle.bidi_base.specs.declared.char_data.BidiClass.TheVariants.{L}
use Rattle.bidi_base.proofs.PerUnit.{length-per_char}
use Rattle.bidi_laws.proofs.LayoutLemmas.{own_indexes}
use Rattle.bidi_lines.proofs.Ordered.{visual_order-is}
use Rattle.bidi_lines.proofs.StoredLine.{same_len, within}
use Rattle.bidi_lines.specs.Analysed.{with_lists}
use Rattle.bidi_lines.specs.LineLevels.{levels as levels_in}
use Rattle.bidi_display.specs.DisplayedLine.{clusters_of, cluster_order, edges, levels_of, AreClustersFrom}
use Rattle.bidi_display.specs.LineChars.{line_chars, line_chars_by}
use Rattle.bidi_display.specs.Shown.{CutsNoChar}
use Rattle.bidi_display.proofs.LineCharsLemmas.{length-levels, levels-per_char}
use Rattle.bidi_display.proofs.ClusterRanges.{HaveCharsWithin-found}
use Rattle.bidi_display.proofs.LineCuts.{clusters_of-cut}
use Rattle.bidi_display.proofs.WholeLine.{clusters_of-whole}
use Rattle.bidi_display.proofs.displayed_line.Lists.find.Given.{Over}
use Rattle.bidi_display.proofs.displayed_line.Lists.find.Goals as goal
use Rattle.bidi_display.proofs.displayed_line.Lists.find.Goals.{In_ok-show}

-- what holds if a call succeeds follows from what it returns
on_ok : {A E P Q : Type 0} (result : Result A E) → (P → Q) → OnOk result P → OnOk result Q
on_ok (Ok x) step given = step given
on_ok (Err e) step given = tt

pub slice_bounds-show-end : goal.slice_bounds-show-end
slice_bounds-show-end g c = grind (arith, same_len, within)

pub slice_bounds-show-end-2 : goal.slice_bounds-show-end-2
slice_bounds-show-end-2 g c = grind (arith, within)

-- the levels after L1
is : (g : Over) (c : In_ok-show g) → levels_in c.show.new.self ≡ levels_of_line c.args.para_level c.args.classes.now c.args.levels.now c.args.line.start c.args.line.end
is g c = c.in_ok-show.ensures.levels

pub keep_first_units-requires : goal.keep_first_units-requires
keep_first_units-requires g c =
    let len = g.T.TextSource.encoding.len_of in
    let text : List ℕ = (g.T.TextSource.text c.args.text).chars in
    rw c.subrange.ensures
    (length-levels len g.T.TextSource.encoding.positive text c.args.para_level c.args.classes.now c.args.levels.now c.args.line c.requires.is_line c.requires.classes c.requires.levels
    (levels_in c.show.new.self) (is g (goal.at.keep_first_units-requires g c).In_ok-show))

pub read_chars-requires-clause-levels : goal.read_chars-requires-clause-levels
read_chars-requires-clause-levels g c =
    let len = g.T.TextSource.encoding.len_of in
    let text : List ℕ = (g.T.TextSource.text c.args.text).chars in
    ap length (c.as_slice.ensures ∙ c.keep_first_units.ensures ∙ ap (λ t. per_char 0 len t.chars (levels_in c.show.new.self)) c.subrange.ensures)
    ∙ length-per_char 0 len (subrange len text c.args.line.start c.args.line.end) (levels_in c.show.new.self)

pub find_places-requires : goal.find_places-requires
find_places-requires g c =
    let clusters = c.as_slice-clusters.result.now in
    let order : c.as_slice-3.result.now ≡ cluster_order clusters = c.as_slice-3.ensures.value ∙ c.in_ok-find_order.ensures in
    subst (λ (o : List ℕ). IsPermutation (indexes o) o) (sym order) (own_indexes (levels_of clusters) (cluster_order clusters) (visual_order-is (levels_of clusters)))

pub returns : goal.returns
unfolding line_chars
returns g c =
    let len = g.T.TextSource.encoding.len_of in
    let some = g.T.TextSource.encoding.positive in
    let text : List ℕ = (g.T.TextSource.text c.args.text).chars in
    let a = with_lists (g.T.TextSource.text c.args.text) c.args.classes.now c.args.levels.now in
    let level = c.args.para_level in
    let line = c.args.line in
    let part : List ℕ = subrange len text line.start line.end in
    let levels : c.as_slice.result.now ≡ line_levels_per_char a level line =
    c.as_slice.ensures ∙ c.keep_first_units.ensures ∙ ap (λ t. per_char 0 len t.chars (levels_in c.show.new.self)) c.subrange.ensures
    ∙ levels-per_char len some text level c.args.classes.now c.args.levels.now line c.requires.is_line c.requires.classes c.requires.levels (levels_in c.show.new.self) (is g (goal.at.returns g c).In_ok-show) in
    let chars : c.read_chars.new.out.items ≡ line_chars a level line =
    c.in_ok-read_chars.ensures ∙ ap (line_chars_by len line.start part (per_char L len part (slice_range c.args.classes.now line.start line.end))) levels in
    let width_of = g.W.ClusterWidth.width_of c.args.widths.now in
    let clusters : c.find_clusters.new.out.items ≡ clusters_of c.args.options width_of (line_chars a level line) =
    c.in_ok-find_clusters.ensures ∙ ap (clusters_of c.args.options width_of) (c.as_slice-2.ensures.value ∙ chars) in
    let same = c.as_slice-clusters.ensures.value in
    on_ok c.find_right_edges.result
    (λ right. record {
      chars = chars;
      clusters = clusters;
      is_line = c.requires.is_line;
      cut_no_char = subst (All (CutsNoChar a)) (sym clusters) (clusters_of-cut a some c.args.options width_of level line c.requires.is_line);
      whole = subst (AreClustersFrom line.start line.end) (sym clusters) (clusters_of-whole c.args.options width_of a some level line c.requires.is_line);
      chars_within = HaveCharsWithin-found c.args.options width_of (line_chars a level line) c.read_chars.new.out.items c.find_clusters.new.out.items chars clusters;
      order = c.in_ok-find_order.ensures ∙ ap cluster_order same;
      places = subst (λ (o : List ℕ). AreInverse o c.find_places.new.places.items) c.as_slice-3.ensures.value c.in_ok-find_places.ensures;
      right_edges = right ∙ ap (λ ks. drop 1 (edges ks)) same;
    }) c.find_right_edges.ensures
