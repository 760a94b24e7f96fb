-- What a device shows of a line: in the order of the text if no level is odd, and with the base level of P2 and P3.
use Rattle.bidi_base.proofs.Common.{◌≡◌, ◌∙◌, ℕ, false, not, ◌&&◌, List, Some, None, length, get_or, refl, sym, ap, arith, cases_lt, inl, inr, fill_by_all, get_or_past, has_rtl, is_odd, Source}
use Rattle.bidi_base.proofs.Common.{paragraph_level, stored_levels}
use Rattle.bidi_lines.proofs.Ordered.{none_odd, visual_order-still}
use Rattle.bidi_controls.specs.Displayed.{displayed_levels, shown_char, shown_in_order, shown_ascii, visible_ascii, are_same, is_as_read, is_as_plain, plain_line, differs_with_base, own_level}
use Rattle.bidi_controls.proofs.LineLevels.{length-displayed_levels}

module _ (levels chars : List ℕ) (even : has_rtl levels ≡ false) (long : length levels ≡ length chars) where
  even_at : (k : ℕ) → is_odd (get_or levels k 0) ≡ false
  even_at k = elim (cases_lt k (length levels)) [
    | inl inside ↦ grind (arith, none_odd levels even k inside)
    | inr past ↦ simp (get_or_past levels k 0 past) refl
  ]

  pub shown_even : shown_in_order levels chars ≡ chars
  unfolding shown_in_order
  shown_even =
      simp (visual_order-still levels (none_odd levels even), long)
      (sym (fill_by_all (shown_char levels chars) chars (length chars) 0 refl (λ k fits. simp (even_at k) refl)))

module _ (source : Source) where
  levels-own : (chars : List ℕ) → displayed_levels source None chars ≡ displayed_levels source (Some (own_level source chars)) chars
  unfolding displayed_levels stored_levels paragraph_level
  levels-own chars = refl

  pub shown_own : (chars : List ℕ) → shown_ascii source None chars ≡ shown_ascii source (Some (own_level source chars)) chars
  unfolding shown_ascii
  shown_own chars = ap (λ levels. visible_ascii (shown_in_order levels chars)) (levels-own chars)

  pub read_own : (chars : List ℕ) → is_as_read source None chars ≡ is_as_read source (Some (own_level source chars)) chars
  read_own chars = ap (λ shown. are_same shown (visible_ascii chars)) (shown_own chars)

  pub differs_own : (chars : List ℕ) → differs_with_base source None chars
      ≡ (not (is_as_read source (Some (own_level source chars)) chars)
      && not (are_same (shown_ascii source (Some (own_level source chars)) chars) (shown_ascii source (Some (own_level source (plain_line source chars))) (plain_line source chars))))
  unfolding differs_with_base
  differs_own chars =
      ap (λ same. not same && not (is_as_plain source None chars)) (read_own chars)
      ∙ ap (λ shown. not (is_as_read source (Some (own_level source chars)) chars) && not (are_same shown (shown_ascii source None (plain_line source chars)))) (shown_own chars)
      ∙ ap (λ shown. not (is_as_read source (Some (own_level source chars)) chars) && not (are_same (shown_ascii source (Some (own_level source chars)) chars) shown)) (shown_own (plain_line source chars))

pub levels_long : (source : Source) (level : ℕ) (chars levels : List ℕ) → levels ≡ displayed_levels source (Some level) chars → length levels ≡ length chars
levels_long source level chars levels is = ap length is ∙ length-displayed_levels source (Some level) chars
