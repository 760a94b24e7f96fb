use Rattle.bidi_base.proofs.Common.{rules, ◌≡◌, List, ◌++◌, None, ℕ, take, drop, take-append_seam, length, sym, ap, ap₂, ◌∙◌, flat_map, arith, visual_runs, visual_order, subst, per_char, IsPerChar}
use Rattle.bidi_lines.proofs.WrittenRuns.{ranges_at_boundaries}
use Rattle.bidi_lines.specs.LineUnits.{run_units}
use Rattle.bidi_calls.proofs.CallerText.{caller-runs, caller-per_char, caller-text, length-shown}
use Rattle.bidi_calls.proofs.PartsLemmas.{reported-room}
use Rattle.bidi_calls.proofs.PartsOfLine.{length-order}
use Rattle.bidi_calls.proofs.PlacesLemmas.{length-places}
use Rattle.bidi_calls.proofs.PlainParts.{plain-parts}
use Rattle.bidi_calls.specs.Buffers.{written_if_room}
use Rattle.bidi_calls.specs.DisplayParts.{found_parts, room_fault}
use Rattle.bidi_numbers.specs.Faults.{FaultsAs}
use Rattle.bidi_calls.specs.LineText.{order_of_line, reordered}
use Rattle.bidi_calls.specs.ShownOrder.{places_of}
use Rattle.bidi_calls.proofs.display_line.display_runs.Goals as goal

pub returns-in_err-check-clause-fault : goal.returns-in_err-check-clause-fault
returns-in_err-check-clause-fault g c =
    let len = g.T.TextSource.encoding.len_of in
    let cs : List ℕ = (g.T.TextSource.text c.args.text).chars in
    let l = c.args.line.now in
    let levels = c.as_slice-units.ensures ∙ c.in_ok-after_l1.ensures.levels in
    let text = reordered len g.T.LineText.encode cs (g.T.LineText.units_of c.args.text) l in
    let order : List ℕ = order_of_line len cs l in
    let count : ℕ = c.count_characters-len.result in
    let long = length-shown len g.T.TextSource.encoding.positive cs l c.requires.valid c.requires.per_char c.requires.units_same_len g.T.LineText.encode (g.T.LineText.units_of c.args.text) c.requires.same_len g.met.T.CountedText.encoded in
    let parts = ap (λ (n : ℕ). found_parts text order n) c.count_characters-len.ensures
    ∙ plain-parts len g.T.LineText.encode g.met.T.CountedText.encoded g.T.TextSource.encoding.positive cs l c.requires.valid c.requires.per_char c.requires.units_same_len (g.T.LineText.units_of c.args.text) c.requires.well_formed in
    subst (λ p. FaultsAs c.from_residual-in_err-check.result (room_fault p c.args.out.now)) parts
    (rw (reported-room text order count (length c.as_slice-units.result.now) count c.args.out.now c.have_room-fits.result
    (long ∙ ap length (sym levels)) (length-order len cs l ∙ sym c.count_characters-len.ensures) c.have_room-fits.ensures)
    (grind arith))

pub put_text-requires-clause-are_lines : goal.put_text-requires-clause-are_lines
put_text-requires-clause-are_lines g c =
    let len = g.T.TextSource.encoding.len_of in
    let cs : List ℕ = (g.T.TextSource.text c.args.text).chars in
    let l = c.args.line.now in
    let runs = c.as_slice-3.ensures ∙ c.in_ok-find.ensures.runs ∙ ap (visual_runs 0) (c.as_slice.ensures ∙ c.in_ok-after_l1.ensures.levels) in
    ranges_at_boundaries len cs c.as_slice-3.result.now _ runs (caller-runs len g.T.TextSource.encoding.positive cs l c.requires.valid c.requires.per_char c.requires.units_same_len)

pub write_order-requires-clause-per_char : goal.write_order-requires-clause-per_char
write_order-requires-clause-per_char g c =
    let len = g.T.TextSource.encoding.len_of in
    let cs : List ℕ = (g.T.TextSource.text c.args.text).chars in
    subst (IsPerChar len cs) (sym c.in_ok-after_l1.ensures.levels) (caller-per_char len g.T.TextSource.encoding.positive cs c.args.line.now c.requires.valid c.requires.per_char c.requires.units_same_len)

pub returns-clause-fault : goal.returns-clause-fault
returns-clause-fault g c =
    let len = g.T.TextSource.encoding.len_of in
    let cs : List ℕ = (g.T.TextSource.text c.args.text).chars in
    let l = c.args.line.now in
    let levels = c.as_slice-units.ensures ∙ c.in_ok-after_l1.ensures.levels in
    let text = reordered len g.T.LineText.encode cs (g.T.LineText.units_of c.args.text) l in
    let order : List ℕ = order_of_line len cs l in
    let count : ℕ = c.count_characters-len.result in
    let long = length-shown len g.T.TextSource.encoding.positive cs l c.requires.valid c.requires.per_char c.requires.units_same_len g.T.LineText.encode (g.T.LineText.units_of c.args.text) c.requires.same_len g.met.T.CountedText.encoded in
    let parts = ap (λ (n : ℕ). found_parts text order n) c.count_characters-len.ensures
    ∙ plain-parts len g.T.LineText.encode g.met.T.CountedText.encoded g.T.TextSource.encoding.positive cs l c.requires.valid c.requires.per_char c.requires.units_same_len (g.T.LineText.units_of c.args.text) c.requires.well_formed in
    subst (λ p. room_fault p c.args.out.now ≡ None) parts
    (rw (reported-room text order count (length c.as_slice-units.result.now) count c.args.out.now c.have_room-fits.result
    (long ∙ ap length (sym levels)) (length-order len cs l ∙ sym c.count_characters-len.ensures) c.have_room-fits.ensures)
    (grind arith))

pub returns-clause-writes : goal.returns-clause-writes
unfolding order_of_line
returns-clause-writes g c =
    let len = g.T.TextSource.encoding.len_of in
    let cs : List ℕ = (g.T.TextSource.text c.args.text).chars in
    let l = c.args.line.now in
    let before = c.args.out.now in
    let text = reordered len g.T.LineText.encode cs (g.T.LineText.units_of c.args.text) l in
    let order : List ℕ = order_of_line len cs l in
    let count : ℕ = c.count_characters-len.result in
    let levels = c.as_slice-units.ensures ∙ c.in_ok-after_l1.ensures.levels in
    let long = length-shown len g.T.TextSource.encoding.positive cs l c.requires.valid c.requires.per_char c.requires.units_same_len g.T.LineText.encode (g.T.LineText.units_of c.args.text) c.requires.same_len g.met.T.CountedText.encoded in
    let parts = ap (λ (n : ℕ). found_parts text order n) c.count_characters-len.ensures
    ∙ plain-parts len g.T.LineText.encode g.met.T.CountedText.encoded g.T.TextSource.encoding.positive cs l c.requires.valid c.requires.per_char c.requires.units_same_len (g.T.LineText.units_of c.args.text) c.requires.well_formed in
    let runs = c.as_slice-3.ensures ∙ c.in_ok-find.ensures.runs ∙ ap (visual_runs 0) (c.as_slice.ensures ∙ c.in_ok-after_l1.ensures.levels) in
    let after_l1 = c.in_ok-after_l1.ensures.levels in
    let out : List ℕ = c.write_order.new.out in
    let written : out ≡ order = c.write_order.ensures ∙ ap (λ ls. visual_order (per_char 0 len cs ls)) after_l1 in
    let counted : count ≡ length order = c.count_characters-len.ensures ∙ sym (length-order len cs l) in
    let size : c.resize.new.self.len ≡ length out = omega (arith, c.in_ok-resize.ensures.len, ap length written, counted) in
    let kept : take c.resize.new.self.len (out ++ drop (length out) c.resize.new.self.items) ≡ out =
    ap (λ n. take n (out ++ drop (length out) c.resize.new.self.items)) size ∙ take-append_seam out (drop (length out) c.resize.new.self.items) in
    rw (← parts) (record {
      unchanged = search rules;
      written = record {
        text = c.put_text.ensures
            ∙ ap₂ (λ xs rs. written_if_room (flat_map (run_units len g.T.LineText.encode cs (g.T.LineText.units_of c.args.text) 0 xs) rs) before.text.now) (c.as_slice-2.ensures ∙ after_l1) runs
            ∙ ap (λ xs. written_if_room xs before.text.now) (caller-text len g.T.TextSource.encoding.positive cs l c.requires.valid c.requires.per_char c.requires.units_same_len g.T.LineText.encode (g.T.LineText.units_of c.args.text));
        order = c.put.ensures ∙ ap (λ xs. written_if_room xs before.order.now) (c.as_slice-5.ensures.value ∙ kept ∙ written);
        places = c.put_places.ensures ∙ ap (λ xs. written_if_room (places_of xs count) before.places.now) (c.as_slice-6.ensures.value ∙ kept ∙ written);
        shown = counted;
        characters = sym (length-places order count);
      };
      count = sym (long ∙ ap length (sym levels));
      buffers = search rules;
    })
