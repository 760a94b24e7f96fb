-- The width of a character, by itself and as a cluster.
use Rattle.bidi_base.proofs.Common.{◌≡◌, ◌≢◌, ℕ, ◌<◌, ◌==◌, Bool, true, false, not, ◌||◌, List, [], ◌∷◌, refl, sym, subst, arith, nat_tests, cases_Bool, cases_lt, inl, inr}
use Rattle.ucd_table.specs.Rows.{in_ranges}
use Rattle.ucd_table.proofs.Computing.{tables}
use Rattle.ucd_table.proofs.Facts.{Stepped-everywhere}
use Rattle.ucd_table.proofs.Stepped.{Stepped, of_ranges, zip_stepped}
use Rattle.unicode_width.specs.Kind.{kind}
use Rattle.unicode_width.specs.declared.kind.Kind.{Kind}
use Rattle.unicode_width.specs.declared.kind.Kind.TheVariants.{Zero, Narrow, Wide, Ambiguous, Alef, KhmerLetter, TifinaghConsonant, LisuTone, RegionalIndicator, EmojiModifier, Emoji, Single}
use Rattle.unicode_width.specs.Width.{alone, char_width, of_kind, past_emoji, step, str_width}
use Rattle.unicode_width.proofs.Computing.{unicode_width}
use Rattle.unicode_width.proofs.KindLemmas.{kind_stepped}
use Rattle.bidi_display.specs.Widths.{columns, columns_of_cluster, is_narrow}

-- NO-BREAK SPACE is the last character that takes a column by its number alone
no_break_space : (wide : Bool) → (alone wide 0xA0).0 ≡ 1
unfolding unicode_width
no_break_space true = refl
no_break_space false = refl

-- the columns of a character by itself are those of its cluster
pub columns-cluster : (wide : Bool) (c : ℕ) → columns wide c ≡ columns_of_cluster wide (c ∷ [])
unfolding char_width str_width step past_emoji
columns-cluster true c = grind (arith, nat_tests, no_break_space true)
columns-cluster false c = grind (arith, nat_tests, no_break_space false)

-- ---- frequent characters

-- the letters but LAMED, which can end a ligature
abbrev narrow_ranges : List (ℕ × ℕ)
narrow_ranges = (0x5D0, 0x5DB) ∷ (0x5DD, 0x5EA) ∷ (0x620, 0x64A) ∷ []

narrow_stepped : Stepped (in_ranges narrow_ranges)
unfolding tables
narrow_stepped = of_ranges narrow_ranges refl

abbrev takes_one : Kind → Bool
takes_one Narrow = true
takes_one Alef = true
takes_one _ = false

letters_take_one : (c : ℕ) → (not (in_ranges narrow_ranges c) || takes_one (kind c)) ≡ true
unfolding tables kind_stepped narrow_stepped
letters_take_one = Stepped-everywhere _ (zip_stepped (λ (r : Bool) (k : Kind). not r || takes_one k) (in_ranges narrow_ranges) kind narrow_stepped kind_stepped) refl

one_of_kind : (wide : Bool) (c : ℕ) (k : Kind) → takes_one k ≡ true → (of_kind wide c k).0 ≡ 1
one_of_kind wide c Narrow e = refl
one_of_kind wide c Alef e = refl
one_of_kind wide c Zero e = absurd (cc e)
one_of_kind wide c Wide e = absurd (cc e)
one_of_kind wide c Ambiguous e = absurd (cc e)
one_of_kind wide c KhmerLetter e = absurd (cc e)
one_of_kind wide c TifinaghConsonant e = absurd (cc e)
one_of_kind wide c LisuTone e = absurd (cc e)
one_of_kind wide c RegionalIndicator e = absurd (cc e)
one_of_kind wide c EmojiModifier e = absurd (cc e)
one_of_kind wide c Emoji e = absurd (cc e)
one_of_kind wide c Single e = absurd (cc e)

letter_columns : (wide : Bool) (c : ℕ) → in_ranges narrow_ranges c ≡ true → (alone wide c).0 ≡ 1
unfolding alone
letter_columns wide c e =
    let one : takes_one (kind c) ≡ true = grind (arith, letters_take_one c, e) in
    one_of_kind wide c (kind c) one

lamed_columns : (wide : Bool) → (alone wide 0x5DC).0 ≡ 1
unfolding unicode_width
lamed_columns true = refl
lamed_columns false = refl

narrow-letter : (c : ℕ) → is_narrow c ≡ true → 0x7E < c → c ≢ 0x5DC → in_ranges narrow_ranges c ≡ true
unfolding in_ranges
narrow-letter c e late other = grind (arith, nat_tests, e)

-- one takes one column
pub narrow-columns : (wide : Bool) (c : ℕ) → is_narrow c ≡ true → columns wide c ≡ 1
unfolding char_width
narrow-columns wide c e = elim (cases_lt 0x7E c) [
  | inl late ↦ elim (cases_Bool (c == 0x5DC)) [
    | inl is ↦ let at : c ≡ 0x5DC = grind (arith, nat_tests, is) in subst (λ x. columns wide x ≡ 1) (sym at) (lamed_columns wide)
    | inr other ↦
        let no : c ≢ 0x5DC = grind (arith, nat_tests, other) in
        let letter = letter_columns wide c (narrow-letter c e late no) in
        grind (arith, nat_tests, letter, e, late)
  ]
  | inr early ↦ grind (arith, nat_tests, e, early)
]
