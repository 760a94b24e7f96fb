-- The words that proofs cite in more than one file, passed on from one place: the kit's, and those of the definitions.
-- Declares nothing.
pub use Rattle.std.proofs.Common.{ℕ, ◌%◌, ◌&&◌, ◌*◌, ◌++◌, ◌+◌, ◌-◌, ◌/◌, ◌<◌, ◌==◌, ◌^◌, ◌||◌, ◌↔◌, ◌∙◌, ◌∷◌, ◌≡◌, ◌≢◌, ◌≤◌, ◌⊎◌, AllPairs, Bool, Contains, Err, List, None, Ok, OnOk, Option}
pub use Rattle.std.proofs.Common.{Result, Some, [], add-one, ap, append-nil, append_assoc, ap₂, arith, bit_or, cond, count_by, decimal, drop, drop-cons, encode_utf8, eq-eqb, eqb, eqb-true, false}
pub use Rattle.std.proofs.Common.{filter_map, find, flat_map, fold, get_or, get_or-drop, get_or-set_other, get_or-set_same, get_or-take, if◌then◌else◌, inl, inr, is_ok, is_some, le-ltb, le_refl}
pub use Rattle.std.proofs.Common.{leb, leb-true, length, length-append, length-drop, length-take, lt-ltb, ltb, map, max, min, nat_le, nat_lt, ne_eqb, not, option_and_then, option_map, refl}
pub use Rattle.std.proofs.Common.{replicate, reverse, rules, set, slice_get, slice_index, string_bytes, subst, suc, sym, take, true, unwrap_or, vec_len, w8, zero, zero-add, zip, MatchOption}
pub use Rattle.std.proofs.Common.{OnErr, bit_and, ⊎_elim}
pub use Rattle.std.proofs.Math.Bool.{and-true, or-false, or_assoc}
pub use Rattle.std.proofs.Math.ListN.{get_or-append}
pub use Rattle.std.proofs.Math.Nat.{add-zero, suc-add, sub-zero}
pub use Rattle.std.proofs.Math.Seq.{drop-append-add, drop-append_seam, get_or-append_seam, take-append-add, take-append_seam, take-add}
pub use Rattle.std.proofs.lemmas.Bool.{and_from, and_left, and_parts, and_right, both_ways, cases_Bool, cases_eq, cases_lt, cases_order, cond-false, cond-true, cond_both, eqb-false}
pub use Rattle.std.proofs.lemmas.Bool.{false_from_ne_true, le-leb, not-true, or_cases, or_left, or_parts, or_right, ltb-true}
pub use Rattle.std.proofs.lemmas.Bool.Decides.{nat_tests}
pub use Rattle.std.proofs.lemmas.Grind.{common_steps, flat_map-append, same_number_lists}
pub use Rattle.std.proofs.lemmas.Iterator.{YieldsList, YieldsList-from_chars}
pub use Rattle.std.proofs.lemmas.Iterator.Adapters.{YieldsList-from_vec}
pub use Rattle.std.proofs.lemmas.Iterator.Consumers.{YieldsList-end, YieldsList-from_first, YieldsList-turn, YieldsList-at, YieldsList-from_filter, map_from_collect}
pub use Rattle.std.proofs.lemmas.Iterator.Splits.{YieldsList-from_slice_split}
pub use Rattle.std.proofs.lemmas.List.{at_drop_all, drop-append-le, drop-drop, drop-take, drop_all, drop_more, ext_get_or, flat_map_more, get_or-append-add, get_or-append_right, get_or-map}
pub use Rattle.std.proofs.lemmas.List.{get_or-replicate, get_or-reverse, get_or_append_left, get_or_default, get_or_past, get_or_push, length-map, length-replicate, length-reverse, length-set}
pub use Rattle.std.proofs.lemmas.List.{length-take-le, length_push, map-append, map-id, map-set, map_push, nil_from_length, replicate-append-replicate, reverse-append, reverse-reverse, same_lists}
pub use Rattle.std.proofs.lemmas.List.{take-append-drop, take-append-le, take-map, take-take, take_all, take_more, take_more_set, take_rest, drop-map, set-get_or, take-set-le, with_items_is}
pub use Rattle.std.proofs.lemmas.List.Edits.{map_over_more}
pub use Rattle.std.proofs.lemmas.List.Elements.{All-append, All-cons, All-filter, All-from_recursion, All-get_or, All-head, All-map, All-nil, All-push, All-tail, All-take, All-weaker}
pub use Rattle.std.proofs.lemmas.List.Elements.{filter-append, filter_agree, filter_map-append, filter_passes, All-drop}
pub use Rattle.std.proofs.lemmas.List.Folds.{find-append, flat_map-map, list_all-map, list_all_at, list_any-append, list_any_at, list_any_none, list_all-append}
pub use Rattle.std.proofs.lemmas.List.FromFn.{fill_by_all, get_or-map-range_with_len, get_or-range_with_len, length-map-range_with_len, length-range_with_len}
pub use Rattle.std.proofs.lemmas.List.Kept.{AllPairs-cons}
pub use Rattle.std.proofs.lemmas.List.Sorted.{All-permutation, Contains-permutation, IsPermutation-append_comm, IsPermutation-append_left, IsPermutation-append_right, IsPermutation-cons}
pub use Rattle.std.proofs.lemmas.List.Sorted.{IsPermutation-middle, IsPermutation-refl, IsPermutation-reverse, IsPermutation-sym, IsPermutation-trans, length_permutation, sum_by-IsPermutation}
pub use Rattle.std.proofs.lemmas.List.Sorted.{IsPermutation-map}
pub use Rattle.std.proofs.lemmas.List.Sums.{count_by-le-length, fold_push, prefix_len-le-length, sum_by-append, sum_by-cons, sum_by_more, sum_by_more_le, take_while-cons}
pub use Rattle.std.proofs.lemmas.Nat.Bits.{bit_at-lt, bit_at-pow_other, bit_at-zero, bit_at_and, bit_at_or, same_from_bits}
pub use Rattle.std.proofs.lemmas.Option.{slice_get-get_or, get_or_from_slice_get, slice_get_within}
pub use Rattle.std.proofs.lemmas.Result.{IfOk-weaker}
pub use Rattle.std.proofs.lemmas.Simd.{bitmask_splat, map-map, mask_l-mod, tops_compared, zip2_splat_left}
pub use Rattle.std.proofs.lemmas.Slice.Zip.{get_or-zip, length-zip}
pub use Rattle.std.proofs.lemmas.Str.{IsUtf8-past_char, chars-nil, chars_from_encodes, encodes-append, encodes-chars, length-encode, IsCharBoundary-after_ascii, IsCharBoundary-before_ascii}
pub use Rattle.std.proofs.lemmas.Str.{IsCharBoundary-from_take, IsCharBoundary-start, IsUtf8-append, IsUtf8-between, IsUtf8-drop, IsUtf8-encode, IsUtf8-nil, IsUtf8-string_bytes, IsUtf8-take}
pub use Rattle.std.proofs.lemmas.Str.{byte_from_char, chars-append, chars_past_char, encode_ascii, is_utf8-from_IsUtf8, len_utf8_bounds, scalars-chars, utf8_valid_len-IsUtf8, utf8_valid_len_le}
pub use Rattle.std.proofs.lemmas.Str.Parse.{IsNumeralModel, digits_value_short, numerals_by_value}
pub use Rattle.std.specs.Bool.{beq, then_some}
pub use Rattle.std.specs.Char.{len_utf8, is_ascii_digit}
pub use Rattle.std.specs.Char.Escape.{encode_utf16}
pub use Rattle.std.specs.Int.{bit_at}
pub use Rattle.std.specs.Iterator.{Count, MakesProgress, Yields, item_count}
pub use Rattle.std.specs.Iterator.Adapters.{rev_source}
pub use Rattle.std.specs.List.{AllByRecursion, join_with_byte, list_all, list_any, onto_first, prefix_len, range_with_len, sum_by}
pub use Rattle.std.specs.List.Sorted.{IsPermutation}
pub use Rattle.std.specs.Option.{is_none, option_map_or, option_or, option_to_list}
pub use Rattle.std.specs.Prelude.{⊤, All, IfSome, IsTrue, codes, filter, slice_range, slice_set}
pub use Rattle.std.specs.Result.{result_ok}
pub use Rattle.std.specs.Str.{IsCharBoundary, IsUtf8, chars, encode_utf8_all, all_scalars, is_utf8}
pub use Rattle.std.specs.Str.Iter.{char_indices_offset, char_indices_rest, char_indices_steps, chars_rest}
pub use Rattle.std.specs.Str.Lossy.{utf8_valid_len}
pub use Rattle.std.specs.Str.Parse.{digits_value}
pub use Rattle.std.specs.declared.ops.Range.{Range}
pub use Rattle.std.specs.declared.str.CharIndices.{CharIndices}
pub use Rattle.bidi_base.specs.AnalysedText.{AnalysedText, AreParagraphs, IsAnalysis, IsPerCharText, line_levels_per_char, AreLevelsOfLine, AreRunsOfLine, IsTextOfLine, StaysInOrder}
unfoldable pub use Rattle.bidi_base.specs.Brackets.{available, bracket_limit, bracket_pairs, closed_pairs, pairs_of, partner, with_closing}
pub use Rattle.bidi_base.specs.Brackets.{AreNestedPairs, IsBehindOrWithin, bracket_at, counted_bracket, counted_brackets, is_available, is_closing, is_opening, is_same_bracket, is_taken}
pub use Rattle.bidi_base.specs.Brackets.{max_open_brackets}
pub use Rattle.bidi_base.specs.Classes.{as_direction, class_count, class_number, has_direction, is_al, is_embedding_initiator, is_en, is_et, is_isolate_initiator, is_kept, is_kept_in_place, is_l, is_l_or_r, is_ni, is_nsm}
pub use Rattle.bidi_base.specs.Classes.{is_opener, is_paragraph_separator, is_pdf, is_pdi, is_removed, is_strong, is_weak_resolved, same_class, stands_for, is_separator}
unfoldable pub use Rattle.bidi_base.specs.Direction.{base_direction, direction_of_levels, full_base_direction}
pub use Rattle.bidi_base.specs.Direction.{direction_by, is_pure_ltr, may_turn}
unfoldable pub use Rattle.bidi_base.specs.Display.{line_text, reordered_text, visual_runs, written_runs}
pub use Rattle.bidi_base.specs.Display.{AreVisualRuns, IsLevelRun, Run, level_runs, level_runs_from, run_level, run_of, run_text_in, written_run, run_text}
unfoldable pub use Rattle.bidi_base.specs.Embeddings.{closing_pdf, is_embedded, is_level_with, is_open_at, open_at, shares_isolates}
pub use Rattle.bidi_base.specs.Embeddings.{is_embedding_level_with, is_pdf_level_with}
unfoldable pub use Rattle.bidi_base.specs.Explicit.{explicit_class, explicit_classes, explicit_level, explicit_levels, processing_class, processing_classes, status_at, status_inside}
pub use Rattle.bidi_base.specs.Explicit.{Status, next_level, override_of}
pub use Rattle.bidi_base.specs.WithoutOpeners.{hidden, is_flat, kept_of, may_leave, run_levels, keeps_to}
unfoldable pub use Rattle.bidi_base.specs.FoundBrackets.{found_brackets}
pub use Rattle.bidi_base.specs.FoundBrackets.{ArePairsOf, brackets_from}
pub use Rattle.bidi_base.specs.Implicit.{implicit_level, implicit_levels}
pub use Rattle.bidi_base.specs.InPlace.{AreExplicitLevels, AreNeutralsResolved, AreWeakTypesResolved}
unfoldable pub use Rattle.bidi_base.specs.Isolates.{deciding_class, is_inside, is_isolated, isolated_classes, matching_pdi, paragraph_level, stored_classes}
pub use Rattle.bidi_base.specs.Isolates.{is_isolate_initiator_at, is_pdi_at, level_by, resolved_fsi, stored_class}
pub use Rattle.bidi_base.specs.Laws.{AreLevelsFrom, HasOwnUnits}
unfoldable pub use Rattle.bidi_base.specs.Layout.{lines_of, visual_indexes}
pub use Rattle.bidi_base.specs.Layout.{line_ranges, AreInverse}
pub use Rattle.bidi_base.specs.Levels.{direction_of, has_rtl, is_even, is_odd}
unfoldable pub use Rattle.bidi_base.specs.Line.{levels_with_line, line_levels, line_levels_after}
pub use Rattle.bidi_base.specs.Line.{char_levels_of_line, char_levels_with_line, is_reset, levels_of_line, is_blank}
unfoldable pub use Rattle.bidi_base.specs.Matching.{match_of}
pub use Rattle.bidi_base.specs.Matching.{is_before, is_closed_at}
unfoldable pub use Rattle.bidi_base.specs.Neutral.{goes_with_pair, is_mark_after, n0, n0_pair, neutral_classes, pair_direction, with_pair}
pub use Rattle.bidi_base.specs.Neutral.{n1_n2, n1_rule, n2_rule, nearest_direction}
pub use Rattle.bidi_base.specs.Openers.{left_open, outside_isolate}
unfoldable pub use Rattle.bidi_base.specs.Order.{index_at_visual, least_between, order_by_reversals, stands_left, visual_order, visual_index}
pub use Rattle.bidi_base.specs.Order.{IsVisualOrder, least}
pub use Rattle.bidi_base.specs.PairSearch.{AreWithin, HasRead, IsAt, IsUnderWay, closed_before}
pub use Rattle.bidi_base.specs.Paragraphs.{IsPartition, SplitTest, begins_with_line_feed, cr_lf_together, cut_after, each_separator, ends_with_separator, ends_by, paragraphs_of, pieces_by, ranges_from}
pub use Rattle.bidi_base.specs.Indexes.{at_indexes, between, chain, class_at, count_between, find_last, first_or, holds_number, in_context, indexes, last_or, nearest, nearest_is}
pub use Rattle.bidi_base.specs.OpenIsolates.{decided_by, filled, innermost, is_fsi, met_units, opened_by, outer}
pub use Rattle.bidi_base.specs.Search.{IsFirst, passing}
pub use Rattle.bidi_base.specs.SequencePass.{index_of, read_class, waiting_for, with_entry}
unfoldable pub use Rattle.bidi_base.specs.Sequences.{begins_run, end_class, is_first, kept_before, kept_indexes, next_kept, resumed_at, run_starts, sequence_from, sequences, start_class, successor}
pub use Rattle.bidi_base.specs.Sequences.{RunSequence, has_places, have_one_level, is_kept_at, level_at, level_or, with_ends}
pub use Rattle.bidi_base.specs.Source.{Source, fault_at, is_member, range_at, table_class}
unfoldable pub use Rattle.bidi_base.specs.StatusMachine.{close_embedding, close_isolate, closed, entered, opened, state_at}
pub use Rattle.bidi_base.specs.StatusMachine.{Entry, IsPoppable, IsWithinDepth, State, counted, drop_isolate, entry_of, fits_in, refused, start, step, taken, answer_class, answer_level}
unfoldable pub use Rattle.bidi_base.specs.Stored.{filled_levels, levels_in, paragraph_levels, resolved_levels, sequence_levels, stored_levels, text_classes, text_levels}
pub use Rattle.bidi_base.specs.Stored.{AreResolved, level_in}
pub use Rattle.bidi_base.specs.Text.{Gives, IsLine, IsPerChar, ascii_at, ascii_of, char_at, char_index, char_indices, char_indices_from, indices_lengths_from, is_boundary, is_per_char, one_unit}
pub use Rattle.bidi_base.specs.Text.{per_char, per_unit, unit_index, subrange, text_len}
unfoldable pub use Rattle.bidi_base.specs.Units.{chars_in_runs, kept_in_place, kept_in_runs, level_run_ranges}
pub use Rattle.bidi_base.specs.Units.{AreLines, are_ordered, are_ordered_from, bounds, in_runs, ranges_between, units_in_runs, is_run_sequence}
pub use Rattle.bidi_base.specs.Utf16.{lone_char, pair_char, splits_pair, utf16_len, utf16_text, is_character, is_pair}
unfoldable pub use Rattle.bidi_base.specs.Weak.{weak_classes}
pub use Rattle.bidi_base.specs.Weak.{carried, w1, w1_rule, w2, w2_rule, w3, w3_rule, w4, w4_rule, w5, w5_rule, w6, w6_rule, w7_rule}
pub use Rattle.bidi_base.specs.declared.brackets.Bracket.{Bracket}
pub use Rattle.bidi_base.specs.declared.brackets.Waiting.{Waiting}
pub use Rattle.bidi_base.specs.declared.char_data.BidiClass.{BidiClass}
pub use Rattle.bidi_base.specs.declared.char_data.BidiClass.TheVariants.{AL, AN, B, BN, CS, EN, ES, ET, FSI, L, LRE, LRI, LRO, NSM, ON, PDF, PDI, R, RLE, RLI, RLO, S, WS}
pub use Rattle.bidi_base.specs.declared.char_data.Direction.TheVariants.{Ltr, Mixed, Rtl}
pub use Rattle.bidi_base.specs.declared.data_source.BidiMatchedOpeningBracket.{BidiMatchedOpeningBracket}
