use Rattle.bidi_base.proofs.Common.{◌∙◌, length, rules, sym, ap, arith}
use Rattle.bidi_calls.specs.Buffers.{written_if_room}
use Rattle.bidi_calls.proofs.PartsLemmas.{reported-room}
use Rattle.bidi_calls.proofs.PlacesLemmas.{length-places}
use Rattle.bidi_calls.specs.ShownOrder.{places_of}
use Rattle.bidi_calls.proofs.display_line.write_parts.Goals as goal

pub returns-in_err-check-clause-fault : goal.returns-in_err-check-clause-fault
returns-in_err-check-clause-fault g c =
    let shown = c.args.shown.now in
    rw (reported-room shown.text.items shown.order.items c.args.characters (length c.as_slice-text.result.now) (length c.as_slice-order.result.now) c.args.out.now c.have_room-fits.result
    (ap length (sym c.as_slice-text.ensures.value)) (ap length (sym c.as_slice-order.ensures.value)) c.have_room-fits.ensures)
    (grind arith)

pub returns-clause-writes : goal.returns-clause-writes
returns-clause-writes g c =
    let text = c.as_slice-text.ensures.value in
    let order = c.as_slice-order.ensures.value in
    record {
      unchanged = search rules;
      written = record {
        text = c.put.ensures ∙ ap (λ xs. written_if_room xs c.args.out.now.text.now) text;
        order = c.put-2.ensures ∙ ap (λ xs. written_if_room xs c.args.out.now.order.now) order;
        places = c.put_places.ensures ∙ ap (λ xs. written_if_room (places_of xs c.args.characters) c.args.out.now.places.now) order;
        shown = ap length order;
        characters = sym (length-places c.args.shown.now.order.items c.args.characters);
      };
      count = ap length text;
      buffers = search rules;
    }
