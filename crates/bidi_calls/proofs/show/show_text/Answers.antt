use Rattle.bidi_base.proofs.Common.{rules, ◌≡◌, List, ℕ, map, length, sym, ap, ap₂, ◌∙◌, flat_map, length-map, arith, run_of, visual_runs, visual_order, subst, per_char, IsPerChar}
use Rattle.bidi_lines.proofs.WrittenRuns.{ranges_at_boundaries}
use Rattle.bidi_lines.specs.LineUnits.{run_units}
use Rattle.bidi_calls.proofs.CallerText.{caller-runs, caller-per_char, caller-text, length-shown}
use Rattle.bidi_calls.proofs.PartsOfLine.{length-order, reported-room}
use Rattle.bidi_calls.proofs.RunStructs.{length-structs}
use Rattle.bidi_calls.specs.Buffers.{written_if_room}
use Rattle.bidi_calls.specs.CallerLine.{caller_line_levels}
use Rattle.bidi_calls.specs.LineText.{order_of_line, reordered}
use Rattle.bidi_numbers.specs.Structs.{run_struct}
use Rattle.bidi_calls.proofs.show.show_text.Goals as goal

pub returns-in_err-check-clause-fault : goal.returns-in_err-check-clause-fault
returns-in_err-check-clause-fault g c =
    let len = g.T.TextSource.encoding.len_of in
    let cs : List ℕ = (g.T.TextSource.text c.args.text).chars in
    let l = c.args.line.now in
    let levels = c.as_slice-units.ensures ∙ c.in_ok-after_l1.ensures.levels in
    let runs = c.as_slice-count.ensures ∙ c.in_ok-find.ensures.runs ∙ ap (visual_runs 0) (c.as_slice.ensures ∙ c.in_ok-after_l1.ensures.levels) in
    let count = length-structs l.start (caller_line_levels l) c.as_slice-count.result.now runs in
    let text = reordered len g.T.LineText.encode cs (g.T.LineText.units_of c.args.text) l in
    let long = length-shown len g.T.TextSource.encoding.positive cs l c.requires.valid c.requires.per_char c.requires.units_same_len g.T.LineText.encode (g.T.LineText.units_of c.args.text) c.requires.same_len g.met.T.CountedText.encoded in
    rw (reported-room len cs l text c.args.out.now (length c.as_slice-units.result.now) (length c.as_slice-count.result.now) c.count_characters-len.result c.have_room-fits.result
    (ap length (sym levels)) count (long ∙ ap length (sym levels)) c.count_characters-len.ensures c.have_room-fits.ensures)
    (grind arith)

pub put_runs-requires-clause-room : goal.put_runs-requires-clause-room
put_runs-requires-clause-room g c =
    let same = c.as_slice-4.ensures ∙ sym c.as_slice-count.ensures in
    let long : length c.as_slice-4.result.now ≡ length c.as_slice-count.result.now = sym (length-map c.as_slice-4.result.now run_of) ∙ ap length same ∙ length-map c.as_slice-count.result.now run_of in
    rw long (grind arith)

pub put_text-requires-clause-are_lines : goal.put_text-requires-clause-are_lines
put_text-requires-clause-are_lines g c =
    let len = g.T.TextSource.encoding.len_of in
    let cs : List ℕ = (g.T.TextSource.text c.args.text).chars in
    let l = c.args.line.now in
    let runs = c.as_slice-6.ensures ∙ c.in_ok-find.ensures.runs ∙ ap (visual_runs 0) (c.as_slice.ensures ∙ c.in_ok-after_l1.ensures.levels) in
    ranges_at_boundaries len cs c.as_slice-6.result.now _ runs (caller-runs len g.T.TextSource.encoding.positive cs l c.requires.valid c.requires.per_char c.requires.units_same_len)

pub put_order_of-requires-clause-per_char : goal.put_order_of-requires-clause-per_char
put_order_of-requires-clause-per_char g c =
    let len = g.T.TextSource.encoding.len_of in
    let cs : List ℕ = (g.T.TextSource.text c.args.text).chars in
    subst (IsPerChar len cs) (sym c.in_ok-after_l1.ensures.levels) (caller-per_char len g.T.TextSource.encoding.positive cs c.args.line.now c.requires.valid c.requires.per_char c.requires.units_same_len)

pub returns-clause-fault : goal.returns-clause-fault
returns-clause-fault g c =
    let len = g.T.TextSource.encoding.len_of in
    let cs : List ℕ = (g.T.TextSource.text c.args.text).chars in
    let l = c.args.line.now in
    let levels = c.as_slice-units.ensures ∙ c.in_ok-after_l1.ensures.levels in
    let runs = c.as_slice-count.ensures ∙ c.in_ok-find.ensures.runs ∙ ap (visual_runs 0) (c.as_slice.ensures ∙ c.in_ok-after_l1.ensures.levels) in
    let count = length-structs l.start (caller_line_levels l) c.as_slice-count.result.now runs in
    let text = reordered len g.T.LineText.encode cs (g.T.LineText.units_of c.args.text) l in
    let long = length-shown len g.T.TextSource.encoding.positive cs l c.requires.valid c.requires.per_char c.requires.units_same_len g.T.LineText.encode (g.T.LineText.units_of c.args.text) c.requires.same_len g.met.T.CountedText.encoded in
    rw (reported-room len cs l text c.args.out.now (length c.as_slice-units.result.now) (length c.as_slice-count.result.now) c.count_characters-len.result c.have_room-fits.result
    (ap length (sym levels)) count (long ∙ ap length (sym levels)) c.count_characters-len.ensures c.have_room-fits.ensures)
    (grind arith)

pub returns-clause-writes : goal.returns-clause-writes
unfolding order_of_line
returns-clause-writes g c =
    let len = g.T.TextSource.encoding.len_of in
    let cs : List ℕ = (g.T.TextSource.text c.args.text).chars in
    let l = c.args.line.now in
    let order = ap (per_char 0 len cs) c.in_ok-after_l1.ensures.levels in
    let runs = c.as_slice-6.ensures ∙ c.in_ok-find.ensures.runs ∙ ap (visual_runs 0) (c.as_slice.ensures ∙ c.in_ok-after_l1.ensures.levels) in
    let after_l1 = c.in_ok-after_l1.ensures.levels in
    let found = c.as_slice-count.ensures ∙ c.in_ok-find.ensures.runs ∙ ap (visual_runs 0) (c.as_slice.ensures ∙ after_l1) in
    record {
      unchanged = search rules;
      parts = record {
        levels = c.put_levels.ensures ∙ ap (λ xs. written_if_room xs c.args.out.now.levels.now) (c.as_slice-2.ensures ∙ after_l1);
        runs = c.put_runs.ensures ∙ ap (λ xs. written_if_room (map (run_struct l.start xs) (visual_runs l.start xs)) c.args.out.now.runs.now) (c.as_slice-3.ensures ∙ after_l1);
        order = c.put_order_of.ensures ∙ ap (λ xs. written_if_room (visual_order xs) c.args.out.now.order.now) order;
        text = c.put_text.ensures
            ∙ ap₂ (λ xs rs. written_if_room (flat_map (run_units len g.T.LineText.encode cs (g.T.LineText.units_of c.args.text) 0 xs) rs) c.args.out.now.text.now) (c.as_slice-5.ensures ∙ after_l1) runs
            ∙ ap (λ xs. written_if_room xs c.args.out.now.text.now) (caller-text len g.T.TextSource.encoding.positive cs l c.requires.valid c.requires.per_char c.requires.units_same_len g.T.LineText.encode (g.T.LineText.units_of c.args.text));
        characters = c.count_characters-len.ensures ∙ sym (length-order len cs l);
      };
      count = sym (length-structs l.start (caller_line_levels l) c.as_slice-count.result.now found);
      buffers = search rules;
    }
