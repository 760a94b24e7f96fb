-- Classes and levels that are equal along each character of a text are those that are equal within each.
use Rattle.bidi_base.proofs.Common.{◌≡◌, ◌==◌, ℕ, zero, suc, ◌+◌, ◌-◌, ◌<◌, ◌≤◌, Bool, true, false, not, ◌&&◌, ◌↔◌, IsTrue, nat_tests, List, length, get_or, take, drop, map, refl, sym, ap, ◌∙◌}
use Rattle.bidi_base.proofs.Common.{subst, inl, inr, arith, cases_Bool, cases_lt, eqb-true, list_all, length-map, length-take-le, get_or-map, get_or-range_with_len, range_with_len}
use Rattle.bidi_base.proofs.Common.{text_len, is_per_char, is_boundary, class_count, class_number, zero-add, len_utf8, chars, IsUtf8, utf16_text, utf16_len, splits_pair}
use Rattle.bidi_base.proofs.Common.{is_character, one_unit, unit_index}
use Rattle.bidi_base.proofs.UnitIndexLemmas.{unit_index-one_unit, text_len-one_unit, is_boundary-unit_index}
use Rattle.std.proofs.lemmas.List.Sums.{AllPass-from_list_all}
use Rattle.bidi_base.specs.declared.char_data.BidiClass.{BidiClass}
use Rattle.bidi_base.specs.declared.char_data.BidiClass.TheVariants.{L}
use Rattle.bidi_base.proofs.TextLemmas.{HasUnits, is_boundary-append}
use Rattle.bidi_text.proofs.PerCharTests.{class_eq, class_test, level_eq, level_test}
use Rattle.bidi_text.proofs.StrLemmas.{has_units as utf8_has_units, text_len-chars, is_boundary-from_str, IsCharBoundary-from_is_boundary}
use Rattle.bidi_text.proofs.Utf16Lemmas.{has_units as utf16_has_units, text_len-utf16, utf16_text-cut, is_boundary-inside, pair_at, NoPairAt-from_splits_pair}
use Rattle.bidi_numbers.specs.Numbers.{class_numbered, is_class}
use Rattle.bidi_numbers.specs.Texts.{goes_on}
use Rattle.bidi_base.specs.Search.{IsFirst}
use Rattle.bidi_calls.specs.PerChar.{differs_at, AgreeBetween}
use Rattle.bidi_calls.proofs.EqualInside.{equal_inside_from_test, test_from_equal_inside, boundary_zero}

-- ---- numbers of classes tell classes apart

numbered : (a : ℕ) → a < class_count → class_number (class_numbered a) ≡ a
unfolding class_numbered
numbered a below =
    let at : get_or (range_with_len 0 class_count) a 0 ≡ a = get_or-range_with_len 0 class_count a 0 below ∙ zero-add a in
    eqb-true _ _ (subst (λ n. (class_number (class_numbered n) == n) ≡ true) at (AllPass-from_list_all (λ n. class_number (class_numbered n) == n) (range_with_len 0 class_count) refl a 0 below))

same_number : (a b : ℕ) → a < class_count → b < class_count → class_numbered a ≡ class_numbered b → a ≡ b
same_number a b low high e = sym (numbered a low) ∙ ap class_number e ∙ numbered b high

class_below : (ns : List ℕ) (k : ℕ) → k < length ns → list_all is_class ns ≡ true → get_or ns k 0 < class_count
class_below ns k within all = let e = AllPass-from_list_all is_class ns all k 0 within in grind (arith, nat_tests)

-- ---- any encoding

same_test : (r a b : Bool) → (r ≡ true → (a ≡ true) × (b ≡ true)) → (a ≡ true → b ≡ true → r ≡ true) → r ≡ (a && b)
same_test true a b forth back = let w = forth refl in let p = w.0 in let q = w.1 in grind arith
same_test false true true forth back = back refl refl
same_test false true false forth back = refl
same_test false false b forth back = refl

module _ (len_of : ℕ → ℕ) (h : HasUnits len_of) (cs ns ls : List ℕ) (on : ℕ → Bool) (n : ℕ) (long : text_len len_of cs ≡ n)
    (classes : length ns ≡ n) (levels : length ls ≡ n) (below : list_all is_class ns ≡ true)
    (inner : (k : ℕ) → k < n → on k ≡ not (is_boundary len_of cs k)) where
  first : BidiClass
  first = class_numbered 0

  on_inside : (k : ℕ) → k < n → is_boundary len_of cs k ≡ false → (0 < k) × (on k ≡ true)
  on_inside zero within inside = absurd (cc (inside, boundary_zero len_of cs))
  on_inside (suc k) within inside = (omega arith, inner (suc k) within ∙ ap not inside)

  inside_on : (k : ℕ) → k < n → on k ≡ true → is_boundary len_of cs k ≡ false
  inside_on k within goes = let e = inner k within in elim (cases_Bool (is_boundary len_of cs k)) [
    | inl begins ↦ absurd (cc (e, goes, ap not begins))
    | inr inside ↦ inside
  ]

  class_at_unit : (k : ℕ) → k < n → get_or (map class_numbered ns) k L ≡ class_numbered (get_or ns k 0)
  class_at_unit k within = get_or-map class_numbered ns k 0 L (omega arith)

  tests_from_agreement : AgreeBetween on ns ls 1 n → (is_per_char class_eq len_of cs (map class_numbered ns) ≡ true) × (is_per_char level_eq len_of cs ls ≡ true)
  tests_from_agreement agree =
      let size : length (map class_numbered ns) ≡ n = length-map ns class_numbered ∙ classes in (
        test_from_equal_inside L len_of h class_eq class_test cs (map class_numbered ns) (size ∙ sym long) (λ k within inside.
            let fits : k < n = omega arith in
            let w = on_inside k fits inside in
            class_at_unit k fits ∙ ap class_numbered (agree k w.0 fits w.1).0 ∙ sym (class_at_unit (k - 1) (omega arith))),
        test_from_equal_inside 0 len_of h level_eq level_test cs ls (levels ∙ sym long) (λ k within inside.
            let fits : k < n = omega arith in
            let w = on_inside k fits inside in
            (agree k w.0 fits w.1).1),
      )

  agreement_from_tests : is_per_char class_eq len_of cs (map class_numbered ns) ≡ true → is_per_char level_eq len_of cs ls ≡ true → AgreeBetween on ns ls 1 n
  agreement_from_tests p q k from to goes =
      let size : length (map class_numbered ns) ≡ n = length-map ns class_numbered ∙ classes in
      let inside = inside_on k to goes in
      let same = equal_inside_from_test L len_of h class_eq class_test cs (map class_numbered ns) p k (omega (arith, size)) inside in (
        same_number (get_or ns k 0) (get_or ns (k - 1) 0) (class_below ns k (omega arith) below) (class_below ns (k - 1) (omega arith) below)
            (sym (class_at_unit k to) ∙ same ∙ class_at_unit (k - 1) (omega arith)),
        equal_inside_from_test 0 len_of h level_eq level_test cs ls q k (omega arith) inside,
      )

  pub per_char_result : (r : Bool) → (IsTrue r ↔ AgreeBetween on ns ls 1 n) → r ≡ (is_per_char class_eq len_of cs (map class_numbered ns) && is_per_char level_eq len_of cs ls)
  per_char_result r e = same_test r _ _ (λ is. tests_from_agreement (e.0 is)) (λ p q. e.1 (agreement_from_tests p q))

-- ---- UTF-8

pub inner-utf8 : (bs : List ℕ) → IsUtf8 bs → (k : ℕ) → k < length bs → goes_on bs k ≡ not (is_boundary len_utf8 (chars bs) k)
inner-utf8 bs u k within = elim (cases_Bool (is_boundary len_utf8 (chars bs) k)) [
  | inl begins ↦
      let b = IsCharBoundary-from_is_boundary bs k u begins in
      let high = b.1 within in
      grind (arith, nat_tests)
  | inr inside ↦ elim (cases_Bool (goes_on bs k)) [
    | inl goes ↦ grind arith
    | inr stays ↦ absurd (cc (inside, is_boundary-from_str bs k u (omega arith, λ _ high. grind (arith, nat_tests))))
  ]
]

-- the bytes agree with those before them if a search finds none that differs
agree-found : (bs ns ls : List ℕ) (i n : ℕ) → n ≡ length bs - 1 → IsFirst (λ k. differs_at (goes_on bs (k + 1)) ns ls (k + 1)) 0 n i → IsTrue (i == n) ↔ AgreeBetween (goes_on bs) ns ls 1 (length bs)
agree-found bs ns ls i n size f = (
  (λ none k from to on.
      let back : k - 1 + 1 ≡ k = omega arith in
      let agree = rw back at (f.before (k - 1) (omega arith) (grind (arith, nat_tests))) in
      grind (arith, nat_tests)),
  (λ agree. elim (cases_lt i n) [
    | inl found ↦ let differing = f.at found in let same = agree (i + 1) (omega arith) (omega arith) in absurd (grind (arith, nat_tests))
    | inr none ↦ let ends = f.ends in grind (arith, nat_tests)
  ]),
)

pub per_char-utf8 : (text bs ns ls : List ℕ) (i n : ℕ) → IsUtf8 text → bs ≡ text → length ns ≡ length text → length ls ≡ length text → IsTrue (list_all is_class ns)
    → n ≡ length bs - 1 → IsFirst (λ k. differs_at (goes_on bs (k + 1)) ns ls (k + 1)) 0 n i
    → (i == n) ≡ (is_per_char class_eq len_utf8 (chars text) (map class_numbered ns) && is_per_char level_eq len_utf8 (chars text) ls)
per_char-utf8 text bs ns ls i n u same classes levels below size f =
    per_char_result len_utf8 utf8_has_units (chars text) ns ls (goes_on text) (length text) (text_len-chars text u) classes levels below (inner-utf8 text u) _ (rw same at (agree-found bs ns ls i n size f))

-- ---- UTF-16

begins-utf16 : (us : List ℕ) (k : ℕ) → k ≤ length us → splits_pair us k ≡ false → is_boundary utf16_len (utf16_text us) k ≡ true
begins-utf16 us k within apart =
    let cut = utf16_text-cut us k (NoPairAt-from_splits_pair us k apart) in
    let size : text_len utf16_len (utf16_text (take k us)) ≡ k = text_len-utf16 (take k us) ∙ length-take-le k us within in
    grind (arith, cut, size, is_boundary-append utf16_len (utf16_text (take k us)) (utf16_text (drop k us)))

pub inner-utf16 : (us : List ℕ) (k : ℕ) → k < length us → splits_pair us k ≡ not (is_boundary utf16_len (utf16_text us) k)
inner-utf16 us k within = elim (cases_Bool (splits_pair us k)) [
  | inl pair ↦
      let w = pair_at us k pair in
      let inside : is_boundary utf16_len (utf16_text us) k ≡ false = grind (arith, w.second, w.pair, is_boundary-inside us w.first) in
      grind arith
  | inr apart ↦ let begins = begins-utf16 us k (omega arith) apart in grind arith
]

pub per_char-utf16 : (us ns ls : List ℕ) (r : Bool) → length ns ≡ length us → length ls ≡ length us → IsTrue (list_all is_class ns) → (IsTrue r ↔ AgreeBetween (splits_pair us) ns ls 1 (length us))
    → r ≡ (is_per_char class_eq utf16_len (utf16_text us) (map class_numbered ns) && is_per_char level_eq utf16_len (utf16_text us) ls)
per_char-utf16 us ns ls r classes levels below e =
    per_char_result utf16_len utf16_has_units (utf16_text us) ns ls (splits_pair us) (length us) (text_len-utf16 us) classes levels below (inner-utf16 us) r e

-- in a text without surrogates no code unit continues a character
pub agree-plain : (us ns ls : List ℕ) → list_all is_character us ≡ true → AgreeBetween (splits_pair us) ns ls 1 (length us)
agree-plain us ns ls plain k from to pair = let here = AllPass-from_list_all is_character us plain k 0 to in absurd (grind (arith, nat_tests))

-- ---- UTF-32

-- in a list of characters none does either
pub per_char-utf32 : (cs ns ls : List ℕ) → length ns ≡ text_len one_unit cs → length ls ≡ text_len one_unit cs → IsTrue (list_all is_class ns)
    → true ≡ (is_per_char class_eq one_unit cs (map class_numbered ns) && is_per_char level_eq one_unit cs ls)
per_char-utf32 cs ns ls classes levels below =
    let some : HasUnits one_unit = λ c. omega arith in
    let inner : (k : ℕ) → k < text_len one_unit cs → false ≡ not (is_boundary one_unit cs k) = λ k within.
    let at : unit_index one_unit cs k ≡ k = unit_index-one_unit cs k (omega (arith, text_len-one_unit cs)) in
    let begins : is_boundary one_unit cs k ≡ true = ap (is_boundary one_unit cs) (sym at) ∙ is_boundary-unit_index one_unit cs k in
    ap not (sym begins) in
    per_char_result one_unit some cs ns ls (λ _. false) (text_len one_unit cs) refl classes levels below inner true ((λ _ k from to goes. absurd (cc goes)), λ _. refl)
