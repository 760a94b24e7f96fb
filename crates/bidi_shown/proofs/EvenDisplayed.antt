-- A line that has no odd level and no tab, and of which nothing is dropped, is displayed unchanged.
use Rattle.bidi_base.proofs.Common.{◌≡◌, ◌∙◌, ℕ, ◌==◌, false, List, [], ◌∷◌, ◌++◌, length, map, flat_map, flat_map-map, get_or, list_any, list_any-append, or_parts, indexes, range_with_len, is_odd, length-map, refl, sym, ap}
use Rattle.bidi_display.specs.DisplayedLine.{cluster_order}
use Rattle.bidi_display.specs.LineClusters.{is_dropped}
use Rattle.bidi_display.specs.Shown.{cluster_text, displayed_part}
use Rattle.bidi_display.specs.declared.line_char.LineChar.{LineChar}
use Rattle.bidi_display.specs.declared.line_cluster.LineCluster.{LineCluster}
use Rattle.bidi_display.proofs.EvenLineLemmas.{cluster_order-still, clusters-even, displayed_part-plain, elements-all, texts-joined}
use Rattle.bidi_shown.specs.Displayed.{clusters_in, spaced, spaced_cluster, spaced_text}
use Rattle.bidi_shown.specs.Views.{columns_in, mirrored_in, options_in}
use Rattle.bidi_shown.specs.declared.view.View.{View}

spaced-none : (width : ℕ) (text : List ℕ) → list_any (λ c. c == 0x09) text ≡ false → flat_map (spaced width) text ≡ text
spaced-none width [] none = refl
spaced-none width (c ∷ text) none =
    let parts = or_parts (c == 0x09) (list_any (λ c. c == 0x09) text) none in
    simp (parts.0, spaced-none width text parts.1)

module _ (view : View) (chars : List LineChar) where
  abbrev own_text : LineCluster → List ℕ
  own_text k = cluster_text (options_in view) (mirrored_in view) chars k

  abbrev joined : List (List ℕ) → List ℕ
  joined texts = flat_map (λ (text : List ℕ). text) texts

  unspaced : (ks : List LineCluster) → list_any (λ c. c == 0x09) (joined (map own_text ks)) ≡ false → joined (map (spaced_cluster view chars) ks) ≡ joined (map own_text ks)
  unspaced [] none = refl
  unspaced (k ∷ ks) none =
      let parts = or_parts (list_any (λ c. c == 0x09) (own_text k)) (list_any (λ c. c == 0x09) (joined (map own_text ks)))
      (sym (list_any-append (λ c. c == 0x09) (own_text k) (joined (map own_text ks))) ∙ none) in
      ap (λ (t : List ℕ). t ++ joined (map (spaced_cluster view chars) ks)) (spaced-none k.width (own_text k) parts.0)
      ∙ ap (λ (t : List ℕ). own_text k ++ t) (unspaced ks parts.1)

  pub spaced_text-even : list_any (λ (c : LineChar). is_odd c.level) chars ≡ false → list_any (is_dropped (options_in view).dropped) chars ≡ false
      → list_any (λ c. c == 0x09) (map (λ (c : LineChar). c.char) chars) ≡ false → spaced_text view chars (clusters_in view chars) ≡ map (λ (c : LineChar). c.char) chars
  unfolding spaced_text
  spaced_text-even even shown none =
      let ks : List LineCluster = clusters_in view chars in
      let texts : List (List ℕ) = map (spaced_cluster view chars) ks in
      let order : cluster_order ks ≡ indexes texts =
      cluster_order-still ks (clusters-even (options_in view) (columns_in view) chars even) ∙ ap (range_with_len 0) (sym (length-map ks (spaced_cluster view chars))) in
      let own : joined (map own_text ks) ≡ map (λ (c : LineChar). c.char) chars =
      texts-joined (options_in view) (mirrored_in view) (columns_in view) chars ∙ displayed_part-plain (options_in view) (mirrored_in view) chars even shown in
      ap (flat_map (λ i. get_or texts i [])) order
      ∙ sym (flat_map-map (λ (text : List ℕ). text) (λ i. get_or texts i []) (indexes texts))
      ∙ ap joined (elements-all [] texts)
      ∙ unspaced ks (ap (list_any (λ c. c == 0x09)) own ∙ none)
      ∙ own
