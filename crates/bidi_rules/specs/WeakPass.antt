-- The weak types in passes from the start: W1, and then W2 to W7 in one pass, in which some characters wait for the
-- next one; first over characters, then over code units.
use Rattle.std.specs.Prelude.{ℕ, zero, suc, ◌-◌, Bool, true, false, ◌||◌, if◌then◌else◌, List, [], ◌∷◌, ◌++◌, replicate}
use Rattle.bidi_base.specs.declared.char_data.BidiClass.{BidiClass}
use Rattle.bidi_base.specs.declared.char_data.BidiClass.TheVariants.{L, R, AL, EN, ES, ET, AN, CS, NSM, ON}
use Rattle.bidi_base.specs.Classes.{is_strong, is_al, is_l, is_nsm}
use Rattle.bidi_base.specs.Weak.{carried}
use Rattle.bidi_rules.specs.declared.weak.before.Before.{Before}
use Rattle.bidi_rules.specs.declared.weak.before.Before.TheVariants.{Other, European, EuropeanTerminators, Arabic, Terminators, EuropeanSeparator, ArabicSeparator}

-- a class after W1, if a mark takes m
abbrev pub marked : BidiClass → BidiClass → BidiClass
marked m NSM = m
marked m c = c

-- the classes after W1, if a mark at the start takes m
abbrev pub after_w1 : BidiClass → List BidiClass → List BidiClass
after_w1 m [] = []
after_w1 m (x ∷ xs) = marked m x ∷ after_w1 (carried (marked m x)) xs

-- a class after W2 and W3, if `strong` is the nearest strong class before it
abbrev pub strengthened : BidiClass → BidiClass → BidiClass
strengthened strong EN = if is_al strong then AN else EN
strengthened strong AL = R
strengthened strong c = c

-- the nearest strong class up to and including this one
abbrev pub strong_up_to : BidiClass → BidiClass → BidiClass
strong_up_to strong c = if is_strong c then c else strong

-- the classes after W3, from those after W1
abbrev pub after_w3 : BidiClass → List BidiClass → List BidiClass
after_w3 strong [] = []
after_w3 strong (x ∷ xs) = strengthened strong x ∷ after_w3 (strong_up_to strong x) xs

-- what is before the next character waits for it
abbrev pub waits : Before → Bool
waits Terminators = true
waits EuropeanSeparator = true
waits ArabicSeparator = true
waits _ = false

-- nothing that matters to numbers, separators and terminators
abbrev pub is_other : Before → Bool
is_other Other = true
is_other _ = false

-- it is a separator that waits
abbrev pub is_separator : Before → Bool
is_separator EuropeanSeparator = true
is_separator ArabicSeparator = true
is_separator _ = false

-- a terminator here is next to a European number, or follows terminators that are
abbrev pub is_beside_european : Before → Bool
is_beside_european European = true
is_beside_european EuropeanTerminators = true
is_beside_european _ = false

abbrev pub after_separator : Before → Before
after_separator European = EuropeanSeparator
after_separator _ = Other

abbrev pub after_common_separator : Before → Before
after_common_separator European = EuropeanSeparator
after_common_separator Arabic = ArabicSeparator
after_common_separator _ = Other

-- what is before the character after this one
abbrev pub next_before : BidiClass → Before → Before
next_before EN before = European
next_before AN before = Arabic
next_before ET before = if is_beside_european before then EuropeanTerminators else Terminators
next_before ES before = after_separator before
next_before CS before = after_common_separator before
next_before c before = Other

-- a terminator joins those that wait
abbrev pub is_terminators : Before → Bool
is_terminators Terminators = true
is_terminators _ = false

abbrev pub joins : BidiClass → Before → Bool
joins ET before = is_terminators before
joins c before = false

-- the class that the characters that wait get, by the class that follows them
abbrev pub by_european : Before → BidiClass
by_european Terminators = EN
by_european EuropeanSeparator = EN
by_european _ = ON

abbrev pub by_arabic : Before → BidiClass
by_arabic ArabicSeparator = AN
by_arabic _ = ON

abbrev pub waiting_becomes : BidiClass → Before → BidiClass
waiting_becomes EN before = by_european before
waiting_becomes AN before = by_arabic before
waiting_becomes c before = ON

-- the class after W4 to W6 of a character that need not wait
abbrev pub resolved : BidiClass → Before → BidiClass
resolved ET before = if is_beside_european before then EN else ON
resolved ES before = ON
resolved CS before = ON
resolved c before = c

-- a class after W7: `after_l` says whether the nearest L or R before it is L
abbrev pub w7_by : Bool → BidiClass → BidiClass
w7_by after_l EN = if after_l then L else EN
w7_by after_l c = c

-- the nearest L or R up to and including this one is L
abbrev pub is_after_l : Bool → BidiClass → Bool
is_after_l after_l L = true
is_after_l after_l R = false
is_after_l after_l c = after_l

-- the classes after W7, from those after W3, if n characters before them wait
abbrev pub after_w7 : Bool → Before → ℕ → List BidiClass → List BidiClass
after_w7 after_l before n [] = replicate n ON
after_w7 after_l before n (c ∷ classes) =
    if joins c before then after_w7 (is_after_l after_l c) (next_before c before) (suc n) classes
    else replicate n (w7_by after_l (waiting_becomes c before))
    ++ (if waits (next_before c before)
    then after_w7 (is_after_l after_l c) (next_before c before) 1 classes
    else w7_by after_l (resolved c before) ∷ after_w7 (is_after_l after_l c) (next_before c before) 0 classes)

-- a class after W3 and W6
abbrev pub left_over : BidiClass → BidiClass
left_over AL = R
left_over ES = ON
left_over ET = ON
left_over CS = ON
left_over c = c

-- a European or Arabic number
abbrev pub is_number : BidiClass → Bool
is_number EN = true
is_number AN = true
is_number _ = false

-- a nonspacing mark, or a number
abbrev pub is_mark_or_number : BidiClass → Bool
is_mark_or_number c = is_nsm c || is_number c

-- a number or a European terminator: the classes that can change, or can change others, if nothing that matters is
-- before them
abbrev pub is_number_or_terminator : BidiClass → Bool
is_number_or_terminator EN = true
is_number_or_terminator AN = true
is_number_or_terminator ET = true
is_number_or_terminator _ = false

-- how many of the n code units of a separator come after its first one, if it waits
abbrev pub still_to_come : Before → ℕ → ℕ
still_to_come EuropeanSeparator n = n - 1
still_to_come ArabicSeparator n = n - 1
still_to_come _ n = 0

-- the classes after W7 of a list of code units, from their classes after W1: n code units before the list wait, and its
-- first `left` ones belong to the separator that waits; `len` is the length of the character that begins at a code unit
abbrev pub walked : (ℕ → BidiClass) → (ℕ → ℕ) → BidiClass → Before → ℕ → ℕ → List ℕ → List BidiClass
walked class len strong before left n [] = replicate n ON
walked class len strong before (suc left) n (u ∷ us) = walked class len strong before left (suc n) us
walked class len strong before zero n (u ∷ us) =
    let z = strengthened strong (class u) in
    let next = next_before z before in
    let now = strong_up_to strong (class u) in
    if joins z before then walked class len now next 0 (suc n) us
    else replicate n (w7_by (is_l strong) (waiting_becomes z before))
    ++ (if waits next then walked class len now next (still_to_come next (len u)) 1 us
    else w7_by (is_l strong) (resolved z before) ∷ walked class len now next 0 0 us)
