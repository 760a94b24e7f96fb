-- N2 over the units of a sequence, once N0 and N1 are done.
use Rattle.bidi_base.proofs.Common.{◌≡◌, ℕ, true, List, [], ◌∷◌, length, map, find, None, refl, ◌∙◌, arith, All, Range, All-head, All-tail, is_kept_in_place}
use Rattle.bidi_base.proofs.Common.{direction_of, n2_rule, neutral_classes, at_indexes, class_at, first_or, level_at, Source, unit_index, is_per_char, bounds, in_runs, kept_in_place}
use Rattle.bidi_base.proofs.Common.{units_in_runs, AreNeutralsResolved}
use Rattle.bidi_base.specs.declared.char_data.BidiClass.{BidiClass}
use Rattle.bidi_base.specs.declared.char_data.BidiClass.TheVariants.{L}
use Rattle.bidi_base.specs.Updated.{IsUpdated}
use Rattle.bidi_base.proofs.UpdatedLemmas.{IsUpdated-passing}
use Rattle.bidi_text.proofs.PerCharTests.{class_eq}
use Rattle.bidi_base.proofs.TextLemmas.{HasUnits}
use Rattle.bidi_rules.specs.NeutralPass.{IsReady}
use Rattle.bidi_rules.proofs.NeutralSteps.{IsUpToN1, IsUpToN1-none, none-read}
use Rattle.bidi_rules.proofs.OneDirection.{at_read}
use Rattle.bidi_explicit.proofs.PassOverText.{IsInPlace-updated}

-- the classes after all steps, over the units
abbrev pub IsResolved : (ℕ → ℕ) → List ℕ → Source → List ℕ → List BidiClass → List BidiClass → List BidiClass → List (Range ℕ) → BidiClass → BidiClass → Type 0
IsResolved len_of chars source levels original_classes old new runs sos eos = AreNeutralsResolved len_of chars source (map bounds runs) sos eos levels original_classes old new

-- under other names of the runs and of the classes at both ends
pub IsResolved-alike : (len_of : ℕ → ℕ) (chars : List ℕ) (source : Source) (levels : List ℕ) (original_classes old new : List BidiClass) (runs other : List (Range ℕ)) (sos before eos behind : BidiClass)
    → runs ≡ other → sos ≡ before → eos ≡ behind → IsResolved len_of chars source levels original_classes old new runs sos eos → IsResolved len_of chars source levels original_classes old new other before behind
IsResolved-alike len_of chars source levels original_classes old new runs other sos before eos behind runs_are sos_is eos_is h = rw (runs_are, sos_is, eos_is) at h

at_each : (f : BidiClass → BidiClass) (now new : List BidiClass) (ps : List ℕ) → All (λ u. class_at new u ≡ f (class_at now u)) ps → at_indexes L new ps ≡ map f (at_indexes L now ps)
at_each f now new [] a = refl
at_each f now new (p ∷ ps) a = simp (
  All-head (λ u. class_at new u ≡ f (class_at now u)) p ps a,
  at_each f now new ps (All-tail (λ u. class_at new u ≡ f (class_at now u)) p ps a),
)

-- without a character that is read nothing is to be done
kept-none : (len_of : ℕ → ℕ) (h : HasUnits len_of) (chars : List ℕ) (source : Source) (levels : List ℕ) (original_classes old : List BidiClass) (runs : List (Range ℕ)) (sos eos : BidiClass)
    → IsReady len_of chars runs sos old
    → None ≡ find (λ u. is_kept_in_place (class_at old u)) (units_in_runs (map bounds runs))
    → (let read = kept_in_place len_of chars old (map bounds runs) in let places = map (unit_index len_of chars) read in
    at_indexes L old places
    ≡ neutral_classes (level_at levels (first_or 0 places)) sos eos (at_indexes L original_classes places) (map source.bracket_of (at_indexes 0 chars read)) (at_indexes L old places))
kept-none len_of h chars source levels original_classes old runs sos eos ready found =
    grind (
      arith,
      none-read len_of h chars runs sos old ready found,
      (IsUpToN1-none len_of h chars source levels original_classes old runs sos eos ready found).kept,
    )

pub resolved-none : (len_of : ℕ → ℕ) (h : HasUnits len_of) (chars : List ℕ) (source : Source) (levels : List ℕ) (original_classes old : List BidiClass) (runs : List (Range ℕ)) (sos eos : BidiClass)
    → is_per_char class_eq len_of chars old ≡ true → IsReady len_of chars runs sos old
    → None ≡ find (λ u. is_kept_in_place (class_at old u)) (units_in_runs (map bounds runs)) → IsResolved len_of chars source levels original_classes old old runs sos eos
resolved-none len_of h chars source levels original_classes old runs sos eos per ready found = record {
  kept = kept-none len_of h chars source levels original_classes old runs sos eos ready found;
  in_place = record { removed = λ u gone. gone; outside = λ u out. refl; per_char = per };
}

module _ (len_of : ℕ → ℕ) (h : HasUnits len_of) (chars : List ℕ) (runs : List (Range ℕ)) (sos eos : BidiClass) (source : Source) (levels : List ℕ)
    (original_classes old : List BidiClass) (ready : IsReady len_of chars runs sos old)
    (now new : List BidiClass) (up : IsUpToN1 len_of chars source levels original_classes old now runs sos eos) where
  abbrev rs : List (ℕ × ℕ)
  rs = map bounds runs

  abbrev places : List ℕ
  places = map (unit_index len_of chars) (kept_in_place len_of chars old rs)

  pub IsResolved-decided : (e : BidiClass) → e ≡ direction_of (level_at levels (first_or 0 places)) → IsUpdated L (in_runs rs) (n2_rule e) 0 (length now) now new
      → IsResolved len_of chars source levels original_classes old new runs sos eos
  IsResolved-decided e is w =
      let place = IsInPlace-updated len_of h chars rs ready.are_lines (n2_rule e) refl refl now new up.in_place.per_char w in
      record {
        kept = simp is at (at_each (n2_rule e) now new places (at_read len_of h chars runs sos old ready (λ u. class_at new u ≡ n2_rule e (class_at now u)) (λ u inside reads. IsUpdated-passing L (in_runs rs) (n2_rule e) now new refl w u inside))) ∙ up.kept;
        in_place = record {
          removed = λ u gone. place.removed u (up.in_place.removed u gone);
          outside = λ u out. place.outside u out ∙ up.in_place.outside u out;
          per_char = place.per_char;
        };
      }
