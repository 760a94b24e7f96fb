use Rattle.bidi_base.proofs.Common.{◌≡◌, ◌∙◌, ◌+◌, ◌≤◌, ◌<◌, ◌⊎◌, length, drop, map, chars, length-map, length-drop, take_rest, common_steps, sym, arith, List, ℕ, IsUtf8, ap, encodes-chars}
use Rattle.bidi_text.proofs.StrLemmas.{text_len-chars}
use Rattle.unicode_bidi.proofs.SearchLemmas.{search_in-le, searched-in}
use Rattle.bidi_calls.proofs.FirstDirectionLemmas.{utf8_from-start, utf8_from-end, utf8-valid, utf8-decided, piece-found, piece-open, piece-none, piece_within}
use Rattle.std.proofs.lemmas.Str.{length-le-encodes}
use Rattle.bidi_calls.proofs.first_direction.first_direction_utf8.Goals as goal

-- there are at least as many bytes as characters
length-chars : (bs : List ℕ) → IsUtf8 bs → length (chars bs) ≤ length bs
length-chars bs u = omega (arith, length-le-encodes (chars bs), ap length (encodes-chars bs u))

pub returns-then-is_empty-clause-direction : goal.returns-then-is_empty-clause-direction
returns-then-is_empty-clause-direction g c =
    let source = g.D.BidiDataSource.source c.args.data_source.now in
    let rest = c.loop-rest.rest.now in
    let front = c.text_front-front.result.now in
    let some : 0 < length rest = grind (arith, common_steps) in
    let long : 4 ≤ c.min.result ⊎ length rest ≤ c.min.result = grind (arith, common_steps) in
    let none : length front ≡ 0 = grind (arith, common_steps) in
    piece-none source c.args.full c.loop-rest.depth rest c.min.result front c.text_front-front.ensures some long none
    ∙ sym c.loop-rest.invariant.1 ∙ sym (utf8_from-start source c.args.full c.args.text.now)

pub search_direction-requires : goal.search_direction-requires
search_direction-requires g c =
    let source = g.D.BidiDataSource.source c.args.data_source.now in
    let rest = c.loop-rest.rest.now in
    let front = c.text_front-front.result.now in
    let within = piece_within source c.args.full c.loop-rest.depth rest c.min.result front c.text_front-front.ensures in
    grind (arith, c.loop-rest.invariant.0, within, text_len-chars front c.text_front-front.utf8)

pub returns-in-Found-clause-direction : goal.returns-in-Found-clause-direction
returns-in-Found-clause-direction g c =
    let source = g.D.BidiDataSource.source c.args.data_source.now in
    let rest = c.loop-rest.rest.now in
    let front = c.text_front-front.result.now in
    let searched = simp c.new.ensures at (sym (searched-in c.args.full c.loop-rest.depth _ c.search_direction.result c.search_direction.ensures.search) ∙ c.in-Found.is) in
    rw c.number_of_direction.ensures
    (piece-found source c.args.full c.loop-rest.depth rest c.min.result front c.text_front-front.ensures c.in-Found.direction searched
    ∙ sym c.loop-rest.invariant.1 ∙ sym (utf8_from-start source c.args.full c.args.text.now))

pub loop-rest-preserved : goal.loop-rest-preserved
loop-rest-preserved g c =
    let source = g.D.BidiDataSource.source c.args.data_source.now in
    let rest = c.loop-rest.rest.now in
    let front = c.text_front-front.result.now in
    let searched = simp c.new.ensures at (sym (searched-in c.args.full c.loop-rest.depth _ c.search_direction.result c.search_direction.ensures.search) ∙ c.in-Open.is) in
    let few = search_in-le c.args.full c.loop-rest.depth (map source.class_of (chars front)) c.in-Open.now searched in
    let within = piece_within source c.args.full c.loop-rest.depth rest c.min.result front c.text_front-front.ensures in
    let shorter : c.in-Open.now + length (drop (length front) rest) ≤ length c.args.text.now =
    omega (arith, few, within, length-map (chars front) source.class_of, length-chars front c.text_front-front.utf8, length-drop (length front) rest, c.loop-rest.invariant.0) in
    rw take_rest (
      shorter,
      c.loop-rest.invariant.1 ∙ piece-open source c.args.full c.loop-rest.depth rest c.min.result front c.text_front-front.ensures c.in-Open.now searched,
    )

pub returns-clause-direction : goal.returns-clause-direction
returns-clause-direction g c =
    let source = g.D.BidiDataSource.source c.args.data_source.now in
    let rest = c.loop-rest.rest.now in
    let none : length rest ≡ 0 = grind (arith, common_steps) in
    rw c.number_of_direction-2.ensures
    (utf8_from-end source c.args.full c.loop-rest.depth rest none ∙ sym c.loop-rest.invariant.1 ∙ sym (utf8_from-start source c.args.full c.args.text.now))

pub returns-then-is_empty-clause-valid : goal.returns-then-is_empty-clause-valid
returns-then-is_empty-clause-valid g c =
    λ valid. returns-then-is_empty-clause-direction g c ∙ utf8-valid (g.D.BidiDataSource.source c.args.data_source.now) c.args.full c.args.text.now valid

pub returns-in-Found-clause-valid : goal.returns-in-Found-clause-valid
returns-in-Found-clause-valid g c =
    λ valid. returns-in-Found-clause-direction g c ∙ utf8-valid (g.D.BidiDataSource.source c.args.data_source.now) c.args.full c.args.text.now valid

pub returns-clause-valid : goal.returns-clause-valid
returns-clause-valid g c =
    λ valid. returns-clause-direction g c ∙ utf8-valid (g.D.BidiDataSource.source c.args.data_source.now) c.args.full c.args.text.now valid

pub returns-in-Found-clause-decided : goal.returns-in-Found-clause-decided
returns-in-Found-clause-decided g c =
    λ n within front over. returns-in-Found-clause-direction g c ∙ utf8-decided (g.D.BidiDataSource.source c.args.data_source.now) c.args.full c.args.text.now n within front over

pub returns-clause-decided : goal.returns-clause-decided
returns-clause-decided g c =
    λ n within front over. returns-clause-direction g c ∙ utf8-decided (g.D.BidiDataSource.source c.args.data_source.now) c.args.full c.args.text.now n within front over

pub returns-then-is_empty-clause-decided : goal.returns-then-is_empty-clause-decided
returns-then-is_empty-clause-decided g c =
    λ n within front over. returns-then-is_empty-clause-direction g c ∙ utf8-decided (g.D.BidiDataSource.source c.args.data_source.now) c.args.full c.args.text.now n within front over
