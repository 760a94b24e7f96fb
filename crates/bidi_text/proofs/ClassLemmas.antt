-- Texts of classes and brackets alone.
use Rattle.bidi_base.proofs.Common.{zero, suc, ◌≡◌, ◌==◌, ◌&&◌, ◌||◌, ℕ, ◌+◌, ◌-◌, ◌%◌, ◌<◌, ◌≤◌, Bool, true, false, not, cond, List, [], ◌∷◌, length, take, drop, get_or, map, min, Some, None}
use Rattle.bidi_base.proofs.Common.{inl, inr, refl, sym, ap, ap₂, ◌∙◌, arith, common_steps, nat_tests, nat_le, nat_lt, cases_Bool, add-zero, slice_range, length-drop, drop_all, take_all, same_class, class_number}
use Rattle.bidi_base.specs.declared.char_data.BidiClass.{BidiClass}
use Rattle.bidi_base.specs.declared.char_data.BidiClass.TheVariants.{L, ON}
use Rattle.std.specs.List.{position}
use Rattle.std.proofs.Math.Utf8.{scalar}
use Rattle.bidi_text.specs.ClassText.{opens, opening_chars, is_bracket_code, bracket_codes_fault, counts, bracket_of_code, class_brackets, bracket_char, class_char, class_chars, class_numbered, char_bracket}

-- ---- lists

pub length-class_chars : (classes : List BidiClass) (codes : List ℕ) → length (class_chars classes codes) ≡ length classes
length-class_chars [] codes = refl
length-class_chars (k ∷ ks) [] = ap suc (length-class_chars ks [])
length-class_chars (k ∷ ks) (b ∷ bs) = ap suc (length-class_chars ks bs)

pub get_or-class_chars : (classes : List BidiClass) (codes : List ℕ) (i : ℕ) (d : BidiClass) → i < length classes
    → get_or (class_chars classes codes) i 0 ≡ class_char (get_or classes i d) (get_or codes i 0)
get_or-class_chars [] codes i d within = absurd (omega arith)
get_or-class_chars (k ∷ ks) [] zero d within = refl
get_or-class_chars (k ∷ ks) [] (suc i) d within = grind (arith, get_or-class_chars ks [] i d)
get_or-class_chars (k ∷ ks) (b ∷ bs) zero d within = refl
get_or-class_chars (k ∷ ks) (b ∷ bs) (suc i) d within = get_or-class_chars ks bs i d (omega arith)

take-nil : (n : ℕ) → take {A = ℕ} n [] ≡ []
take-nil zero = refl
take-nil (suc n) = refl

drop-nil : (n : ℕ) → drop {A = ℕ} n [] ≡ []
drop-nil zero = refl
drop-nil (suc n) = refl

take-class_chars : (n : ℕ) (classes : List BidiClass) (codes : List ℕ) → take n (class_chars classes codes) ≡ class_chars (take n classes) (take n codes)
take-class_chars zero classes codes = refl
take-class_chars (suc n) [] codes = refl
take-class_chars (suc n) (k ∷ ks) [] = ap (λ cs. class_char k 0 ∷ cs) (take-class_chars n ks [] ∙ ap (class_chars (take n ks)) (take-nil n))
take-class_chars (suc n) (k ∷ ks) (b ∷ bs) = ap (λ cs. class_char k b ∷ cs) (take-class_chars n ks bs)

drop-class_chars : (n : ℕ) (classes : List BidiClass) (codes : List ℕ) → drop n (class_chars classes codes) ≡ class_chars (drop n classes) (drop n codes)
drop-class_chars zero classes codes = refl
drop-class_chars (suc n) [] codes = refl
drop-class_chars (suc n) (k ∷ ks) [] = drop-class_chars n ks [] ∙ ap (class_chars (drop n ks)) (drop-nil n)
drop-class_chars (suc n) (k ∷ ks) (b ∷ bs) = drop-class_chars n ks bs

-- a range of a list, with its ends moved into the list
slice_range-min : (bs : List ℕ) (i j : ℕ) → i ≤ j → slice_range bs (min i (length bs)) (min j (length bs)) ≡ slice_range bs i j
slice_range-min bs i j order = grind (arith, common_steps, take_all, drop_all, length-drop)

pub slice_range-class_chars : (classes : List BidiClass) (codes : List ℕ) (i j : ℕ) → i ≤ j
    → slice_range (class_chars classes codes) i j ≡ class_chars (slice_range classes i j) (slice_range codes (min i (length codes)) (min j (length codes)))
slice_range-class_chars ks bs i j order =
    ap (take (j - i)) (drop-class_chars i ks bs) ∙ take-class_chars (j - i) (drop i ks) (drop i bs)
    ∙ ap (class_chars (slice_range ks i j)) (sym (slice_range-min bs i j order))

-- ---- one character

numbered_number : (class : BidiClass) → class_numbered (class_number class) ≡ class
unfolding class_numbered
numbered_number L = refl
numbered_number _ = refl

number-low : (class : BidiClass) → class_number class < 23
number-low L = omega arith
number-low _ = omega arith

numbered-past : (n : ℕ) → 23 ≤ n → class_numbered n ≡ ON
unfolding class_numbered
numbered-past n past = grind (arith, common_steps)

same_class-ON : (class : BidiClass) → same_class class ON ≡ true → class ≡ ON
same_class-ON ON same = refl
same_class-ON _ same = cc same

-- the code of a bracket, and the character that stands for it
record IsBracket (code c : ℕ) : Type 0 where
  pub low : 32 ≤ code % opens
  pub high : code % opens < opening_chars
  pub is_char : scalar (code % opens) ≡ true
  pub past : 32 ≤ c
  pub rest : c % opening_chars ≡ code % opens
  pub same : nat_le opening_chars c ≡ nat_le opens code

-- what the test of a code says of the opening bracket
code_parts : (none : Bool) (o : ℕ) → (none || (nat_le 32 o && nat_lt o opening_chars && scalar o)) ≡ true → none ≡ false
    → (32 ≤ o) × (o < opening_chars) × (scalar o ≡ true)
code_parts true o is some = absurd (cc some)
code_parts false o is some = grind (arith, nat_tests)

scalar-opening : (o : ℕ) → o < opening_chars → scalar (o + opening_chars) ≡ true
scalar-opening o high = grind (arith, nat_tests)

-- the character for the opening bracket o, as `bracket_char` has it
abbrev placed : ℕ → Bool → ℕ
placed o up = let c = o + cond up opening_chars 0 in cond (scalar c) c 0xFFFD

placed-up : (o : ℕ) → o < opening_chars → placed o true ≡ o + opening_chars
placed-up o high = ap (λ b. cond b (o + opening_chars) 0xFFFD) (scalar-opening o high)

placed-down : (o : ℕ) → scalar o ≡ true → placed o false ≡ o
placed-down o ok = ap (λ c. cond (scalar c) c 0xFFFD) (add-zero o) ∙ ap (λ b. cond b o 0xFFFD) ok

is_bracket_by : (code : ℕ) (up : Bool) → nat_le opens code ≡ up → (32 ≤ code % opens) × (code % opens < opening_chars) × (scalar (code % opens) ≡ true)
    → IsBracket code (placed (code % opens) up)
is_bracket_by code true is w =
    let c = placed-up (code % opens) w.1 in
    let same : nat_le opening_chars (code % opens + opening_chars) ≡ true = grind (arith, nat_tests) in
    record { low = w.0; high = w.1; is_char = w.2; past = omega (arith, c, w.0); rest = omega (arith, c, w.1); same = ap (nat_le opening_chars) c ∙ same ∙ sym is }
is_bracket_by code false is w =
    let c = placed-down (code % opens) w.2 in
    let same : nat_le opening_chars (code % opens) ≡ false = grind (arith, nat_tests) in
    record { low = w.0; high = w.1; is_char = w.2; past = omega (arith, c, w.0); rest = omega (arith, c, w.1); same = ap (nat_le opening_chars) c ∙ same ∙ sym is }

is_bracket : (code : ℕ) → is_bracket_code code ≡ true → (code == 0) ≡ false → IsBracket code (bracket_char code)
is_bracket code is some = is_bracket_by code (nat_le opens code) refl (code_parts (code == 0) (code % opens) is some)

-- where the bracket counts, and where it does not

counted : (same none : Bool) → (same && not none) ≡ true → (same ≡ true) × (none ≡ false)
counted true false e = (refl, refl)
counted true true e = absurd (cc e)
counted false none e = absurd (cc e)

class_by : (class : BidiClass) (code : ℕ) (some : Bool) → counts class code ≡ some → is_bracket_code code ≡ true
    → class_numbered (cond some (bracket_char code) (class_number class)) ≡ class
class_by class code false none is = numbered_number class
class_by class code true some is =
    let w = counted (same_class class ON) (code == 0) some in
    let past = (is_bracket code is w.1).past in
    numbered-past (bracket_char code) (omega arith) ∙ sym (same_class-ON class w.0)

counts-none : (class : BidiClass) → counts class 0 ≡ false
counts-none class = elim (cases_Bool (same_class class ON)) [ inl e ↦ ap (λ b. b && false) e | inr e ↦ ap (λ b. b && false) e ]

char_bracket-low : (n : ℕ) → n < 32 → char_bracket n ≡ None
unfolding char_bracket
char_bracket-low n low = grind (arith, nat_tests)

char_bracket-is : (code c : ℕ) → IsBracket code c → char_bracket c ≡ Some (bracket_of_code code)
unfolding char_bracket
char_bracket-is code c w =
    let past : nat_lt c 32 ≡ false = grind (arith, nat_tests, w.past) in
    rw (past, w.rest, w.is_char, w.same) refl

bracket_by : (class : BidiClass) (code : ℕ) (some : Bool) → counts class code ≡ some → is_bracket_code code ≡ true
    → char_bracket (cond some (bracket_char code) (class_number class)) ≡ cond some (Some (bracket_of_code code)) None
bracket_by class code false none is = char_bracket-low (class_number class) (omega (arith, number-low class))
bracket_by class code true some is =
    let w = counted (same_class class ON) (code == 0) some in
    char_bracket-is code (bracket_char code) (is_bracket code is w.1)

-- ---- all characters

position-cons : {A : Type 0} (p : A → Bool) (x : A) (xs : List A) → position p (x ∷ xs) ≡ None → (p x ≡ false) × (position p xs ≡ None)
position-cons p x xs none = grind (arith, nat_tests)

codes-cons : (code : ℕ) (codes : List ℕ) → bracket_codes_fault (code ∷ codes) ≡ None → (is_bracket_code code ≡ true) × (bracket_codes_fault codes ≡ None)
codes-cons code codes none =
    let w = position-cons (λ n. not (is_bracket_code n)) code codes none in
    (grind arith, w.1)

pub classes_back : (classes : List BidiClass) (codes : List ℕ) → bracket_codes_fault codes ≡ None → map class_numbered (class_chars classes codes) ≡ classes
classes_back [] codes none = refl
classes_back (k ∷ ks) [] none = ap₂ (λ c cs. c ∷ cs) (class_by k 0 (counts k 0) refl refl) (classes_back ks [] refl)
classes_back (k ∷ ks) (b ∷ bs) none =
    let w = codes-cons b bs none in
    ap₂ (λ c cs. c ∷ cs) (class_by k b (counts k b) refl w.0) (classes_back ks bs w.1)

pub brackets_back : (classes : List BidiClass) (codes : List ℕ) → bracket_codes_fault codes ≡ None → map char_bracket (class_chars classes codes) ≡ class_brackets classes codes
brackets_back [] codes none = refl
brackets_back (k ∷ ks) [] none =
    ap₂ (λ c cs. c ∷ cs) (bracket_by k 0 (counts k 0) refl refl ∙ ap (λ b. cond b (Some (bracket_of_code 0)) None) (counts-none k)) (brackets_back ks [] refl)
brackets_back (k ∷ ks) (b ∷ bs) none =
    let w = codes-cons b bs none in
    ap₂ (λ c cs. c ∷ cs) (bracket_by k b (counts k b) refl w.0) (brackets_back ks bs w.1)
