-- Worked examples: what the definitions compute, one for each stage of the algorithm, each by computation alone.
use Rattle.bidi_base.proofs.Common.{◌≡◌, ℕ, [], ◌∷◌, refl, L, R, EN, ET, ES, CS, AN, NSM, BN, WS, ON, LRE, RLE, RLO, PDF, LRI, FSI, PDI, Ltr, Mixed, BidiMatchedOpeningBracket, match_of}
use Rattle.bidi_base.proofs.Common.{matching_pdi, is_inside, is_isolated, deciding_class, paragraph_level, isolated_classes, stored_classes, is_level_with, closing_pdf, shares_isolates}
use Rattle.bidi_base.proofs.Common.{is_embedded, is_open_at, open_at, status_inside, status_at, explicit_level, explicit_class, explicit_levels, explicit_classes, kept_indexes, next_kept}
use Rattle.bidi_base.proofs.Common.{kept_before, resumed_at, successor, is_first, start_class, end_class, sequence_from, sequences, weak_classes, available, partner, with_closing, closed_pairs}
use Rattle.bidi_base.proofs.Common.{bracket_limit, pairs_of, bracket_pairs, pair_direction, is_mark_after, goes_with_pair, with_pair, n0_pair, n0, neutral_classes, implicit_levels}
use Rattle.bidi_base.proofs.Common.{resolved_levels, sequence_levels, filled_levels, levels_in, line_levels_after, line_levels, least_between, stands_left, visual_index, index_at_visual}
use Rattle.bidi_base.proofs.Common.{visual_order, order_by_reversals, visual_runs, reordered_text, base_direction, direction_of_levels, Option, Some, None, true, false}

-- opens every definition that an example computes
opened : ℕ
unfolding match_of matching_pdi is_inside is_isolated deciding_class paragraph_level isolated_classes stored_classes is_level_with closing_pdf shares_isolates is_embedded is_open_at open_at status_inside status_at explicit_level explicit_class explicit_levels explicit_classes kept_indexes next_kept kept_before resumed_at successor is_first start_class end_class sequence_from sequences weak_classes available partner with_closing closed_pairs bracket_limit pairs_of bracket_pairs pair_direction is_mark_after goes_with_pair with_pair n0_pair n0 neutral_classes resolved_levels sequence_levels filled_levels levels_in line_levels_after line_levels least_between stands_left visual_index index_at_visual visual_order order_by_reversals visual_runs reordered_text base_direction direction_of_levels
opened = 0

abbrev opening : ℕ → Option BidiMatchedOpeningBracket
opening c = Some (record { opening = c; is_open = true })

abbrev closing : ℕ → Option BidiMatchedOpeningBracket
closing c = Some (record { opening = c; is_open = false })

-- an isolate in an override has its own level, and the override does not reach into it (X4, X5b, X6a)
isolate_in_override : explicit_levels 0 (RLO ∷ L ∷ LRI ∷ L ∷ PDI ∷ L ∷ PDF ∷ []) ≡ 0 ∷ 1 ∷ 1 ∷ 2 ∷ 1 ∷ 1 ∷ 0 ∷ []
unfolding opened
isolate_in_override = refl

classes_in_override : explicit_classes 0 (RLO ∷ L ∷ LRI ∷ L ∷ PDI ∷ L ∷ PDF ∷ []) ≡ RLO ∷ R ∷ R ∷ L ∷ R ∷ R ∷ PDF ∷ []
unfolding opened
classes_in_override = refl

-- past the greatest depth openers change nothing, and their PDFs close nothing else (X1)
past_the_greatest_depth : explicit_levels 124 (LRE ∷ RLE ∷ L ∷ PDF ∷ L ∷ PDF ∷ L ∷ []) ≡ 124 ∷ 124 ∷ 124 ∷ 124 ∷ 124 ∷ 124 ∷ 124 ∷ []
unfolding opened
past_the_greatest_depth = refl

-- an FSI takes the direction of the first strong character that stands in it and in no isolate inside it (X5c)
first_strong_isolate : stored_classes (FSI ∷ LRI ∷ R ∷ PDI ∷ L ∷ PDI ∷ []) ≡ LRI ∷ LRI ∷ R ∷ PDI ∷ L ∷ PDI ∷ []
unfolding opened
first_strong_isolate = refl

-- the paragraph level looks past isolates (P2, P3)
level_past_isolates : paragraph_level None (LRI ∷ L ∷ PDI ∷ R ∷ []) ≡ 1
unfolding opened
level_past_isolates = refl

direction_past_isolates : base_direction ((LRI ∷ R ∷ PDI ∷ L ∷ []) ∷ []) ≡ Ltr
unfolding opened
direction_past_isolates = refl

-- a sequence goes on after an isolate, whose content is a sequence of its own (BD13, X10)
sequences_round_an_isolate : sequences 0 (L ∷ R ∷ LRI ∷ L ∷ PDI ∷ ON ∷ R ∷ ON ∷ []) (0 ∷ 0 ∷ 0 ∷ 2 ∷ 0 ∷ 0 ∷ 0 ∷ 0 ∷ [])
    ≡ record { places = 0 ∷ 1 ∷ 2 ∷ 4 ∷ 5 ∷ 6 ∷ 7 ∷ []; sos = L; eos = L } ∷ record { places = 3 ∷ []; sos = L; eos = L } ∷ []
unfolding opened
sequences_round_an_isolate = refl

-- W4 joins numbers before W5 joins terminators to them
weak_types_in_order : weak_classes R (R ∷ ET ∷ EN ∷ ES ∷ EN ∷ ET ∷ CS ∷ EN ∷ []) ≡ R ∷ EN ∷ EN ∷ EN ∷ EN ∷ EN ∷ ON ∷ EN ∷ []
unfolding opened
weak_types_in_order = refl

-- a closing bracket passes over openings that it does not fit, and takes them with it (BD16)
crossed_brackets : bracket_pairs (ON ∷ ON ∷ ON ∷ ON ∷ []) (opening 40 ∷ opening 91 ∷ closing 40 ∷ closing 91 ∷ []) ≡ (0, 2) ∷ []
unfolding opened
crossed_brackets = refl

-- brackets round R after R become R, and a mark after the closing one with them (N0)
brackets_and_a_mark : neutral_classes 0 L L (R ∷ ON ∷ R ∷ ON ∷ NSM ∷ []) (None ∷ opening 40 ∷ None ∷ closing 40 ∷ None ∷ []) (R ∷ ON ∷ R ∷ ON ∷ ON ∷ []) ≡ R ∷ R ∷ R ∷ R ∷ R ∷ []
unfolding opened
brackets_and_a_mark = refl

-- implicit levels at the greatest explicit one (I2)
implicit_at_the_greatest : implicit_levels 125 (L ∷ R ∷ AN ∷ EN ∷ []) ≡ 126 ∷ 125 ∷ 126 ∷ 126 ∷ []
unfolding opened
implicit_at_the_greatest = refl

-- a mark after a removed character belongs to the letter before both, and the removed one has the letter's level (X9,
-- W1)
mark_behind_a_removed_one : levels_in 0 (R ∷ BN ∷ NSM ∷ L ∷ []) (None ∷ None ∷ None ∷ None ∷ []) ≡ 1 ∷ 1 ∷ 1 ∷ 0 ∷ []
unfolding opened
mark_behind_a_removed_one = refl

-- white space at the end of a line has the paragraph level (L1)
white_space_at_the_end : line_levels 1 (L ∷ WS ∷ []) (2 ∷ 2 ∷ []) ≡ 2 ∷ 1 ∷ []
unfolding opened
white_space_at_the_end = refl

-- numbers in right-to-left text go to the right (L2), which the reversals of the annex give as well
numbers_in_hebrew : visual_order (0 ∷ 0 ∷ 0 ∷ 1 ∷ 1 ∷ 1 ∷ 2 ∷ 2 ∷ []) ≡ 0 ∷ 1 ∷ 2 ∷ 6 ∷ 7 ∷ 5 ∷ 4 ∷ 3 ∷ []
unfolding opened
numbers_in_hebrew = refl

numbers_by_reversals : order_by_reversals (0 ∷ 0 ∷ 0 ∷ 1 ∷ 1 ∷ 1 ∷ 2 ∷ 2 ∷ []) ≡ 0 ∷ 1 ∷ 2 ∷ 6 ∷ 7 ∷ 5 ∷ 4 ∷ 3 ∷ []
unfolding opened
numbers_by_reversals = refl

-- Latin after Hebrew: two runs, the Latin one first, of a line that starts at the unit 0
latin_behind_hebrew : visual_runs 0 (1 ∷ 1 ∷ 1 ∷ 1 ∷ 1 ∷ 1 ∷ 2 ∷ 2 ∷ 2 ∷ []) ≡ (6, 9) ∷ (0, 6) ∷ []
unfolding opened
latin_behind_hebrew = refl

-- levels of both directions
both_directions : direction_of_levels (1 ∷ 1 ∷ 2 ∷ []) ≡ Mixed
unfolding opened
both_directions = refl
