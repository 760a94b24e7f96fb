-- The findings in a paragraph: those that are wanted, and those at one more character.
use Rattle.bidi_base.proofs.Common.{◌≡◌, ◌∙◌, ℕ, ◌+◌, ◌<◌, Bool, List, ◌++◌, Option, Some, None, length, get_or, map, refl, ap, arith, append_assoc, range_with_len, append-nil, flat_map}
use Rattle.bidi_base.proofs.Common.{cases_Bool, inl, inr, option_map, option_to_list, get_or-map, flat_map-append, Source}
use Rattle.std.specs.Prelude.{filter}
use Rattle.std.proofs.lemmas.List.Elements.{filter-append}
use Rattle.bidi_controls.proofs.IndexLemmas.{next_index}
use Rattle.bidi_base.specs.declared.char_data.BidiClass.{BidiClass}
use Rattle.bidi_controls.specs.Findings.{wants, is_wanted, finding_of, finding_at, character_findings, line_finding, if_wanted, differing_of, wanted_differing, findings_in_paragraph}
use Rattle.bidi_controls.specs.Matches.{is_unmatched}
use Rattle.bidi_controls.specs.declared.differing.Differing.{Differing}
use Rattle.bidi_controls.specs.declared.finding.Finding.{Finding}
use Rattle.bidi_controls.specs.declared.finding.Wanted.{Wanted}

flat_map-range : {Y : Type 0} (f : ℕ → List Y) (p : ℕ) → flat_map f (range_with_len 0 (p + 1)) ≡ flat_map f (range_with_len 0 p) ++ f p
flat_map-range f p = grind (arith, next_index, flat_map-append, append-nil)

-- the finding of the paragraph as a whole, if it is wanted
wanted_finding : (source : Source) (wanted : Wanted) (number from : ℕ) (chars : List ℕ) (differing : Option Differing)
    → filter (is_wanted wanted) (option_to_list (option_map (line_finding source number from chars) differing)) ≡ option_to_list (option_map (line_finding source number from chars) (if_wanted wanted differing))
wanted_finding source wanted number from chars None = refl
wanted_finding source wanted number from chars (Some differing) = elim (cases_Bool (wants wanted differing.trouble)) [ inl yes_wanted ↦ simp yes_wanted refl | inr unwanted ↦ simp unwanted refl ]

-- what is wanted of all that is found
pub findings-parts : (source : Source) (wanted : Wanted) (number from : ℕ) (chars : List ℕ)
    → findings_in_paragraph source wanted number from chars
    ≡ option_to_list (option_map (line_finding source number from chars) (wanted_differing source wanted chars)) ++ filter (is_wanted wanted) (character_findings number from (map source.class_of chars) chars)
findings-parts source wanted number from chars =
    filter-append (is_wanted wanted) (option_to_list (option_map (line_finding source number from chars) (differing_of source chars))) (character_findings number from (map source.class_of chars) chars)
    ∙ ap (λ t. t ++ filter (is_wanted wanted) (character_findings number from (map source.class_of chars) chars)) (wanted_finding source wanted number from chars (differing_of source chars))

-- what is found at one more index
pub more_findings : (class_of : ℕ → BidiClass) (wanted : Wanted) (number from : ℕ) (line : List ℕ) (p : ℕ) (flag : Bool) (before old new : List Finding)
    → p < length line → flag ≡ is_unmatched (map class_of line) p
    → old ≡ before ++ filter (is_wanted wanted) (flat_map (λ k. option_to_list (finding_at number from (map class_of line) line k)) (range_with_len 0 p))
    → new ≡ old ++ filter (is_wanted wanted) (option_to_list (finding_of number (from + p) flag (class_of (get_or line p 0)) (get_or line p 0)))
    → new ≡ before ++ filter (is_wanted wanted) (flat_map (λ k. option_to_list (finding_at number from (map class_of line) line k)) (range_with_len 0 (p + 1)))
more_findings class_of wanted number from line p flag before old new fits flag_is old_is new_is =
    let here : finding_of number (from + p) flag (class_of (get_or line p 0)) (get_or line p 0) ≡ finding_at number from (map class_of line) line p = grind (arith, get_or-map, flag_is) in
    grind (arith, here, append_assoc, flat_map-range, filter-append)
