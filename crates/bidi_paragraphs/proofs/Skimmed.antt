-- Characters on which nothing but the flags depends, read one after another.
use Rattle.bidi_base.proofs.Common.{Bool, None, Option, inl, inr, cases_lt, class_at, take_more, get_or, subst, zero, suc, ◌≡◌, ℕ, ◌+◌, ◌-◌, ◌<◌, ◌≤◌, true, false, List, [], ◌∷◌, ◌++◌, length}
use Rattle.bidi_base.proofs.Common.{take, drop, map, Some, set, refl, sym, ap, ◌∙◌, arith, add-one, append_assoc, length-take, length-drop, drop-append_seam, take-append-add, map-append}
use Rattle.bidi_base.proofs.Common.{length-map, take-append-le, take-append-drop, nat_tests, All-nil, All-append, All-push, sum_by-append, sum_by-cons, Source, text_len, char_at, ascii_of}
use Rattle.bidi_base.proofs.Common.{ascii_at, char_index, is_boundary, subrange, IsLine, replicate, MatchOption, append-nil}
use Rattle.std.proofs.Math.Nat.{add_assoc}
use Rattle.std.proofs.Math.Seq.{take-suc-set}
use Rattle.bidi_base.specs.declared.char_data.BidiClass.{BidiClass}
use Rattle.bidi_base.specs.declared.char_data.BidiClass.TheVariants.{L}
use Rattle.bidi_base.proofs.UnitIndexLemmas.{text_len-subrange}
use Rattle.bidi_base.proofs.PerUnit.{per_unit-push, per_unit-append}
use Rattle.bidi_base.proofs.TextLemmas.{cut_at, HasUnits, char_at-append, char_at-end, char_index-append, is_boundary-append, is_boundary-le}
use Rattle.bidi_paragraphs.specs.declared.first_pass.stop.Stop.{Stop}
use Rattle.bidi_paragraphs.specs.declared.paragraph_flags.ParagraphFlags.{ParagraphFlags}
use Rattle.bidi_paragraphs.specs.FirstPass.{ahead, AreWritten, IsSkimmed, IsStop}
use Rattle.bidi_paragraphs.specs.ParagraphFlags.{with_class, with_classes}
use Rattle.bidi_paragraphs.proofs.FlagsLemmas.{with_classes-push, with_classes-append, flags_to}

-- ---- what is ahead of a boundary

module _ (len_of : ℕ → ℕ) (units : HasUnits len_of) where
  pub ahead-append : (xs ys : List ℕ) → ahead len_of (xs ++ ys) (text_len len_of xs) ≡ ys
  ahead-append xs ys = grind (arith, char_index-append, drop-append_seam)

pub is_boundary-end : (len_of : ℕ → ℕ) (chars : List ℕ) → is_boundary len_of chars (text_len len_of chars) ≡ true
is_boundary-end len_of chars = ap (λ cs. is_boundary len_of cs (text_len len_of chars)) (sym (append-nil chars)) ∙ is_boundary-append len_of chars []

-- what is no boundary is not the end
pub inside-lt : (len_of : ℕ → ℕ) (chars : List ℕ) (u : ℕ) → is_boundary len_of chars u ≡ false → u ≤ text_len len_of chars → u < text_len len_of chars
inside-lt len_of chars u inside le = grind (arith, is_boundary-end len_of chars)

-- an ASCII character is inside
pub ascii-inside : (len_of : ℕ → ℕ) (units : HasUnits len_of) (chars : List ℕ) (u c : ℕ) → Some c ≡ ascii_at len_of chars u → u < text_len len_of chars
ascii-inside len_of units chars u c is = elim (cases_lt u (text_len len_of chars)) [
  | inl inside ↦ inside
  | inr past ↦ absurd (cc (is, char_at-end len_of units chars u past))
]

-- and so is any character
pub char-inside : (len_of : ℕ → ℕ) (units : HasUnits len_of) (chars : List ℕ) (u c n : ℕ) → Some (c, n) ≡ char_at len_of chars u → u < text_len len_of chars
char-inside len_of units chars u c n is = elim (cases_lt u (text_len len_of chars)) [
  | inl inside ↦ inside
  | inr past ↦ absurd (cc (is, char_at-end len_of units chars u past))
]

-- and an ASCII one is one unit long
char-from_ascii : (found : Option (ℕ × ℕ)) (c : ℕ) → Some c ≡ ascii_of found → Some (c, 1) ≡ found
char-from_ascii None c is = absurd (cc is)
char-from_ascii (Some p) c is = grind (arith, nat_tests)

-- a character, n units long, begins what comes
record CharNext (len_of : ℕ → ℕ) (coming : List ℕ) (c n : ℕ) : Type 0 where
  pub tail : List ℕ
  pub next : coming ≡ c ∷ tail
  pub long : n ≡ len_of c

char_next : (len_of : ℕ → ℕ) (coming : List ℕ) (c n : ℕ) → char_at len_of coming 0 ≡ Some (c, n) → CharNext len_of coming c n
char_next len_of [] c n e = absurd (cc e)
char_next len_of (d ∷ ds) c n e =
    let same : ◌≡◌ {A = ℕ × ℕ} (d, len_of d) (c, n) = cc e in
    let first : d ≡ c = ap (λ (p : ℕ × ℕ). p.0) same in
    record { tail = ds; next = ap (λ x. x ∷ ds) first; long = sym (ap (λ (p : ℕ × ℕ). p.1) same) ∙ ap len_of first }

-- its units, in the text
pub record CharRoom (len_of : ℕ → ℕ) (chars : List ℕ) (at c n : ℕ) : Type 0 where
  pub long : n ≡ len_of c
  pub some : 1 ≤ n
  pub fits : at + n ≤ text_len len_of chars

-- an ASCII character, one unit long, begins what comes
pub record AsciiNext (len_of : ℕ → ℕ) (coming : List ℕ) (c : ℕ) : Type 0 where
  pub tail : List ℕ
  pub next : coming ≡ c ∷ tail
  pub one : len_of c ≡ 1

ascii_next : (len_of : ℕ → ℕ) (coming : List ℕ) (c : ℕ) → ascii_of (char_at len_of coming 0) ≡ Some c → AsciiNext len_of coming c
ascii_next len_of [] c e = absurd (cc e)
ascii_next len_of (d ∷ ds) c e = record { tail = ds; next = grind (arith, nat_tests); one = grind (arith, nat_tests) }

-- ---- what was read while there were more stop classes

pub fewer : (source : Source) (len_of : ℕ → ℕ) (more stop_classes : BidiClass → Bool) → ((c : BidiClass) → more c ≡ false → stop_classes c ≡ false)
    → (coming : List ℕ) (from to : ℕ) (old new : List BidiClass) (was is : ParagraphFlags) (r : Option Stop)
    → MatchOption r (IsSkimmed source len_of more coming from to old new was is) (λ stop. IsStop source len_of more coming from stop old new was is)
    → MatchOption r (IsSkimmed source len_of stop_classes coming from to old new was is) (λ stop. IsStop source len_of stop_classes coming from stop old new was is)
fewer source len_of more stop_classes less coming from to old new was is None h =
    record { read = h.read; rest = h.rest; joined = h.joined; idle = λ i d within. less _ (h.idle i d within); written = h.written; own_flags = h.own_flags }
fewer source len_of more stop_classes less coming from to old new was is (Some stop) h =
    record { read = h.read; rest = h.rest; joined = h.joined; idle = λ i d within. less _ (h.idle i d within); begins = h.begins; long = h.long; class = h.class; written = h.written; own_flags = h.own_flags }

module _ (source : Source) (len_of : ℕ → ℕ) (stop_classes : BidiClass → Bool) where
  -- ---- one character, and some characters, more

  pub AreWritten-push : (read : List ℕ) (from at c : ℕ) (old new after : List BidiClass) → AreWritten source len_of read from at old new
      → take (at + len_of c) after ≡ take at new ++ replicate (len_of c) (source.class_of c) → AreWritten source len_of (read ++ c ∷ []) from (at + len_of c) old after
  AreWritten-push read from at c old new after h is = grind (arith, sum_by-append, append_assoc, per_unit-push, length-map, map-append)

  AreWritten-join : (xs ys : List ℕ) (from at to : ℕ) (old new after : List BidiClass) → AreWritten source len_of xs from at old new
      → AreWritten source len_of ys at to new after → AreWritten source len_of (xs ++ ys) from to old after
  AreWritten-join xs ys from at to old new after h k = grind (arith, sum_by-append, append_assoc, per_unit-append, length-map, map-append)

  -- where the units from `at` on were handed on
  AreWritten-part : (read : List ℕ) (at to : ℕ) (old part new tail : List BidiClass) → at ≤ length old → to ≤ length new
      → AreWritten source len_of read 0 to part new → AreWritten source len_of read at (at + to) old (take at old ++ (new ++ tail))
  AreWritten-part read at to old part new tail inside room h =
      grind (arith, length-take at old, take-append-add (take at old) (new ++ tail) to, take-append-le to new tail room)

  -- it begins in what came
  pub IsStop-within : (coming : List ℕ) (from : ℕ) (stop : Stop) (old new : List BidiClass) (was is : ParagraphFlags)
      → IsStop source len_of stop_classes coming from stop old new was is → stop.start ≤ from + text_len len_of coming
  IsStop-within coming from stop old new was is h = grind (arith, sum_by-append)

  -- the flags with those of the characters that were read, of one more, and of some more
  pub own_flags-push : (was now : ParagraphFlags) (read : List ℕ) (c : ℕ) → now ≡ with_classes was (map source.class_of read)
      → with_class now (source.class_of c) ≡ with_classes was (map source.class_of (read ++ c ∷ []))
  own_flags-push was now read c is =
      ap (λ flags. with_class flags (source.class_of c)) is ∙ sym (ap (with_classes was) (map-append source.class_of read (c ∷ [])) ∙ with_classes-push was (map source.class_of read) (source.class_of c))

  pub own_flags-join : (was now later : ParagraphFlags) (xs ys : List ℕ) → now ≡ with_classes was (map source.class_of xs)
      → later ≡ with_classes now (map source.class_of ys) → later ≡ with_classes was (map source.class_of (xs ++ ys))
  own_flags-join was now later xs ys is more =
      more ∙ ap (λ flags. with_classes flags (map source.class_of ys)) is ∙ sym (ap (with_classes was) (map-append source.class_of xs ys) ∙ with_classes-append was (map source.class_of xs) (map source.class_of ys))

  -- a stop whose class is no stop class is read too
  pub IsSkimmed-stop : (coming : List ℕ) (from : ℕ) (stop : Stop) (old new : List BidiClass) (was is : ParagraphFlags)
      → IsStop source len_of stop_classes coming from stop old new was is → stop_classes stop.class ≡ false
      → IsSkimmed source len_of stop_classes coming from (stop.start + stop.len) old new was (with_class is stop.class)
  IsSkimmed-stop coming from stop old new was is h idle = record {
    read = h.read ++ stop.c ∷ [];
    rest = h.rest;
    joined = h.joined ∙ sym (append_assoc h.read (stop.c ∷ []) h.rest);
    idle = All-push (λ c. stop_classes (source.class_of c) ≡ false) h.read stop.c h.idle (rw h.class at idle);
    written = rw (sym h.long) at h.written;
    own_flags = ap (with_class is) h.class ∙ own_flags-push was is h.read stop.c h.own_flags;
  }

  unfoldable pub IsSkimmed-start : (coming : List ℕ) (at : ℕ) (classes : List BidiClass) (flags : ParagraphFlags) → IsSkimmed source len_of stop_classes coming at at classes classes flags flags
  IsSkimmed-start coming at classes flags =
      let written : AreWritten source len_of [] at at classes classes = record { long = omega arith; classes = sym (append-nil (take at classes)) } in
      record { read = []; rest = coming; joined = refl; idle = All-nil (λ c. stop_classes (source.class_of c) ≡ false); written = written; own_flags = refl }

  module _ (coming : List ℕ) (from at : ℕ) (old new : List BidiClass) (was now : ParagraphFlags) (h : IsSkimmed source len_of stop_classes coming from at old new was now) where
    unfoldable pub IsSkimmed-more : (c : ℕ) (rest : List ℕ) (to : ℕ) (after : List BidiClass) (later : ParagraphFlags) → h.rest ≡ c ∷ rest → stop_classes (source.class_of c) ≡ false → to ≡ at + len_of c
        → take to after ≡ take at new ++ replicate (len_of c) (source.class_of c) → with_class now (source.class_of c) ≡ later → IsSkimmed source len_of stop_classes coming from to old after was later
    IsSkimmed-more c rest to after later next idle end is more =
        let joined = h.joined ∙ ap (λ cs. h.read ++ cs) next ∙ sym (append_assoc h.read (c ∷ []) rest) in
        let idle = All-push (λ c. stop_classes (source.class_of c) ≡ false) h.read c h.idle idle in
        let written = AreWritten-push h.read from at c old new after h.written (rw end at is) in
        record { read = h.read ++ c ∷ []; rest = rest; joined = joined; idle = idle; written = rw end written; own_flags = sym more ∙ own_flags-push was now h.read c h.own_flags }

    pub IsStop-next : (stop : Stop) (rest : List ℕ) (after : List BidiClass) → h.rest ≡ stop.c ∷ rest → stop.start ≡ at → stop.class ≡ source.class_of stop.c → stop.len ≡ len_of stop.c
        → take (stop.start + len_of stop.c) after ≡ take stop.start new ++ replicate (len_of stop.c) stop.class → IsStop source len_of stop_classes coming from stop old after was now
    IsStop-next stop rest after next start class long is =
        let joined = h.joined ∙ ap (λ cs. h.read ++ cs) next in
        let written = AreWritten-push h.read from at stop.c old new after h.written (simp (start, class) at is) in
        record { read = h.read; rest = rest; joined = joined; idle = h.idle; begins = cc start; long = long; class = class; written = rw start written; own_flags = h.own_flags }

    -- what is from there on does not count
    pub IsSkimmed-kept : (after : List BidiClass) → take at after ≡ take at new → IsSkimmed source len_of stop_classes coming from at old after was now
    IsSkimmed-kept after kept =
        let written : AreWritten source len_of h.read from at old after = record { long = h.written.long; classes = kept ∙ h.written.classes } in
        record { read = h.read; rest = h.rest; joined = h.joined; idle = h.idle; written = written; own_flags = h.own_flags }

    pub IsSkimmed-join : (to : ℕ) (after : List BidiClass) (later : ParagraphFlags)
        → IsSkimmed source len_of stop_classes h.rest at to new after now later → IsSkimmed source len_of stop_classes coming from to old after was later
    IsSkimmed-join to after later k =
        let joined = h.joined ∙ ap (λ cs. h.read ++ cs) k.joined ∙ sym (append_assoc h.read k.read k.rest) in
        let idle = All-append (λ c. stop_classes (source.class_of c) ≡ false) h.read k.read h.idle k.idle in
        let written = AreWritten-join h.read k.read from at to old new after h.written k.written in
        record { read = h.read ++ k.read; rest = k.rest; joined = joined; idle = idle; written = written; own_flags = own_flags-join was now later h.read k.read h.own_flags k.own_flags }

    pub IsStop-join : (stop : Stop) (after : List BidiClass) (later : ParagraphFlags)
        → IsStop source len_of stop_classes h.rest at stop new after now later → IsStop source len_of stop_classes coming from stop old after was later
    IsStop-join stop after later k =
        let joined = h.joined ∙ ap (λ cs. h.read ++ cs) k.joined ∙ sym (append_assoc h.read k.read (stop.c ∷ k.rest)) in
        let idle = All-append (λ c. stop_classes (source.class_of c) ≡ false) h.read k.read h.idle k.idle in
        let begins : stop.start ≡ from + text_len len_of (h.read ++ k.read) = omega (
          arith,
          k.begins,
          h.written.long,
          sum_by-append len_of h.read k.read,
        ) in
        let written = AreWritten-join h.read (k.read ++ stop.c ∷ []) from at (stop.start + len_of stop.c) old new after h.written k.written in
        record { read = h.read ++ k.read; rest = k.rest; joined = joined; idle = idle; begins = begins; long = k.long; class = k.class; written = rw append_assoc written; own_flags = own_flags-join was now later h.read k.read h.own_flags k.own_flags }

    -- what has not come yet is ahead
    module _ (units : HasUnits len_of) (chars : List ℕ) (begins : is_boundary len_of chars from ≡ true) (is_ahead : coming ≡ ahead len_of chars from) where
      passed : List ℕ
      passed = (cut_at len_of chars from begins).front ++ h.read

      split : chars ≡ passed ++ h.rest
      unfolding passed
      split =
          let w = cut_at len_of chars from begins in
          let joined : chars ≡ w.front ++ ahead len_of chars from = cc (w.joined, w.long, ahead-append len_of units w.front w.back) in
          grind (arith, append_assoc)

      passed_long : text_len len_of passed ≡ at
      unfolding passed
      passed_long = grind (arith, sum_by-append, (cut_at len_of chars from begins).long)

      pub is_boundary-skimmed : is_boundary len_of chars at ≡ true
      is_boundary-skimmed = ap (λ cs. is_boundary len_of cs at) split ∙ ap (is_boundary len_of (passed ++ h.rest)) (sym passed_long) ∙ is_boundary-append len_of passed h.rest

      pub ahead-skimmed : ahead len_of chars at ≡ h.rest
      ahead-skimmed = ap (λ cs. ahead len_of cs at) split ∙ ap (ahead len_of (passed ++ h.rest)) (sym passed_long) ∙ ahead-append len_of units passed h.rest

      pub IsStop-on : (stop : Stop) (after : List BidiClass) (later : ParagraphFlags)
          → IsStop source len_of stop_classes (ahead len_of chars at) at stop new after now later
          → IsStop source len_of stop_classes coming from stop old after was later
      IsStop-on stop after later k = IsStop-join stop after later (rw ahead-skimmed at k)

      pub IsSkimmed-on : (to : ℕ) (after : List BidiClass) (later : ParagraphFlags)
          → IsSkimmed source len_of stop_classes (ahead len_of chars at) at to new after now later
          → IsSkimmed source len_of stop_classes coming from to old after was later
      IsSkimmed-on to after later k = IsSkimmed-join to after later (rw ahead-skimmed at k)

      pub stop-on : (r : Option Stop) (to : ℕ) (after : List BidiClass) (later : ParagraphFlags)
          → MatchOption r (IsSkimmed source len_of stop_classes (ahead len_of chars at) at to new after now later) (λ stop. IsStop source len_of stop_classes (ahead len_of chars at) at stop new after now later)
          → MatchOption r (IsSkimmed source len_of stop_classes coming from to old after was later) (λ stop. IsStop source len_of stop_classes coming from stop old after was later)
      stop-on None to after later k = IsSkimmed-on to after later k
      stop-on (Some stop) to after later k = IsStop-on stop after later k

      -- and there were more stop classes for what has not come yet
      pub stop-on-fewer : (more : BidiClass → Bool) → ((c : BidiClass) → more c ≡ false → stop_classes c ≡ false) → (r : Option Stop) (to : ℕ) (after : List BidiClass) (later : ParagraphFlags)
          → MatchOption r (IsSkimmed source len_of more (ahead len_of chars at) at to new after now later) (λ stop. IsStop source len_of more (ahead len_of chars at) at stop new after now later)
          → MatchOption r (IsSkimmed source len_of stop_classes coming from to old after was later) (λ stop. IsStop source len_of stop_classes coming from stop old after was later)
      stop-on-fewer more less r to after later k = stop-on r to after later (fewer source len_of more stop_classes less (ahead len_of chars at) at to new after now later r k)

      pub fits-skimmed : at + text_len len_of h.rest ≡ text_len len_of chars
      fits-skimmed = omega (arith, ap (text_len len_of) split, sum_by-append len_of passed h.rest, passed_long)

      -- an ASCII character that comes
      pub ascii-skimmed : (c : ℕ) → Some c ≡ ascii_at len_of chars at → AsciiNext len_of h.rest c
      ascii-skimmed c e = ascii_next len_of h.rest c (cc (char_at-append len_of units passed h.rest, split, passed_long, e))

      module _ (c : ℕ) (is : Some c ≡ ascii_at len_of chars at) (class : BidiClass) (is_class : class ≡ source.class_of c) (long : length new ≡ text_len len_of chars) where
        one_more : take (at + 1) (set new at class) ≡ take at new ++ class ∷ []
        one_more = rw add-one (take-suc-set new at class (omega (arith, ascii-inside len_of units chars at c is, long)))

        pub IsSkimmed-ascii : (later : ParagraphFlags) → stop_classes class ≡ false → with_class now class ≡ later → IsSkimmed source len_of stop_classes coming from (at + 1) old (set new at class) was later
        IsSkimmed-ascii later idle more =
            let w = ascii-skimmed c is in
            IsSkimmed-more c w.tail (at + 1) (set new at class) later w.next (cc (is_class, idle)) (cc w.one) (simp (w.one, ← is_class) one_more) (rw is_class at more)

        pub IsStop-ascii : IsStop source len_of stop_classes coming from (record { start = at; c = c; len = 1; class = class }) old (set new at class) was now
        IsStop-ascii =
            let w = ascii-skimmed c is in
            IsStop-next (record { start = at; c = c; len = 1; class = class }) w.tail (set new at class) w.next refl is_class (sym w.one) (simp w.one one_more)

      -- any character that comes
      module _ (c n : ℕ) (is : Some (c, n) ≡ char_at len_of chars at) where
        char-skimmed : CharNext len_of h.rest c n
        char-skimmed = char_next len_of h.rest c n (cc (char_at-append len_of units passed h.rest, split, passed_long, is))

        pub char-room : CharRoom len_of chars at c n
        char-room = record {
          long = char-skimmed.long;
          some = omega (arith, units c, char-skimmed.long);
          fits = omega (arith, fits-skimmed, ap (text_len len_of) char-skimmed.next, sum_by-cons len_of c char-skimmed.tail, char-skimmed.long);
        }

        module _ (class : BidiClass) (is_class : class ≡ source.class_of c) (after : List BidiClass) (written : take (at + len_of c) after ≡ take at new ++ replicate (len_of c) class) where
          pub IsSkimmed-char : (later : ParagraphFlags) → stop_classes class ≡ false → with_class now class ≡ later → IsSkimmed source len_of stop_classes coming from (at + n) old after was later
          IsSkimmed-char later idle more =
              let w = char-skimmed in
              IsSkimmed-more c w.tail (at + n) after later w.next (cc (is_class, idle)) (omega (arith, w.long)) (simp (w.long, ← is_class) written) (rw is_class at more)

          pub IsStop-char : IsStop source len_of stop_classes coming from (record { start = at; c = c; len = n; class = class }) old after was now
          IsStop-char = IsStop-next (record { start = at; c = c; len = n; class = class }) char-skimmed.tail after char-skimmed.next refl is_class char-skimmed.long written

        -- one unit long, and its class is there already
        pub IsSkimmed-char_there : (later : ParagraphFlags) → n ≡ 1 → at < length new → class_at new at ≡ source.class_of c
            → stop_classes (class_at new at) ≡ false → with_class now (source.class_of c) ≡ later
            → IsSkimmed source len_of stop_classes coming from (at + 1) old new was later
        IsSkimmed-char_there later one within is_class idle more =
            let w = char-skimmed in
            let long : len_of c ≡ 1 = omega (arith, w.long, one) in
            IsSkimmed-more c w.tail (at + 1) new later w.next (rw is_class at idle) (omega (arith, long)) (simp (long, ← is_class) (take_more new at L within)) more

        pub IsStop-char_there : n ≡ 1 → at < length new → class_at new at ≡ source.class_of c
            → IsStop source len_of stop_classes coming from (record { start = at; c = c; len = 1; class = class_at new at }) old new was now
        IsStop-char_there one within is_class =
            let w = char-skimmed in
            let long : len_of c ≡ 1 = omega (arith, w.long, one) in
            IsStop-next (record { start = at; c = c; len = 1; class = class_at new at }) w.tail new w.next refl is_class (sym long) (simp long (take_more new at L within))

      pub within-skimmed : at ≤ text_len len_of chars
      within-skimmed = omega (arith, fits-skimmed)

-- ---- a block of characters one unit long whose classes are there already

module _ (source : Source) (len_of : ℕ → ℕ) (stop_classes : BidiClass → Bool) (units : HasUnits len_of) (chars : List ℕ) (from at : ℕ)
    (begins : is_boundary len_of chars from ≡ true) (old new : List BidiClass)
    (was now : ParagraphFlags) (h : IsSkimmed source len_of stop_classes (ahead len_of chars from) from at old new was now) (block : List ℕ) (fits : at + 16 ≤ length new)
    (there : (k : ℕ) → k < 16 → Some (get_or block k 0, 1) ≡ char_at len_of chars (at + k)) where
  pub IsSkimmed-part : (n : ℕ) → n ≤ 16 → ((k : ℕ) → k < 16 → k ≤ n → class_at new (at + k) ≡ source.class_of (get_or block k 0)) → ((k : ℕ) → k < n → stop_classes (class_at new (at + k)) ≡ false)
      → IsSkimmed source len_of stop_classes (ahead len_of chars from) from (at + n) old new was (flags_to source block now n)
  IsSkimmed-part zero le classes idle = subst (λ to. IsSkimmed source len_of stop_classes (ahead len_of chars from) from to old new was now) (omega arith) h
  IsSkimmed-part (suc n) le classes idle =
      let before = IsSkimmed-part n (omega (arith, le)) (λ k within below. classes k within (omega (arith, below))) (λ k below. idle k (omega (arith, below))) in
      let here : n < 16 = omega (arith, le) in
      let later = flags_to source block now (suc n) in
      let one = IsSkimmed-char_there source len_of stop_classes _ from (at + n) old new was _ before units chars begins refl (get_or block n 0) 1 (there n here) later refl (omega (arith, fits, here)) (classes n here (omega arith)) (idle n (omega arith)) refl in
      subst (λ to. IsSkimmed source len_of stop_classes (ahead len_of chars from) from to old new was later) (omega arith) one

  pub IsStop-part : (n : ℕ) → n < 16 → ((k : ℕ) → k < 16 → k ≤ n → class_at new (at + k) ≡ source.class_of (get_or block k 0)) → ((k : ℕ) → k < n → stop_classes (class_at new (at + k)) ≡ false)
      → IsStop source len_of stop_classes (ahead len_of chars from) from (record { start = at + n; c = get_or block n 0; len = 1; class = class_at new (at + n) }) old new was (flags_to source block now n)
  IsStop-part n here classes idle =
      let before = IsSkimmed-part n (omega (arith, here)) classes idle in
      IsStop-char_there source len_of stop_classes _ from (at + n) old new was _ before units chars begins refl (get_or block n 0) 1 (there n here) refl (omega (arith, fits, here)) (classes n here (omega arith))

-- ---- the same of ASCII characters, none of them of a stop class

module _ (source : Source) (len_of : ℕ → ℕ) (stop_classes : BidiClass → Bool) (units : HasUnits len_of) (chars : List ℕ) (from at : ℕ)
    (begins : is_boundary len_of chars from ≡ true) (old new : List BidiClass)
    (was now : ParagraphFlags) (h : IsSkimmed source len_of stop_classes (ahead len_of chars from) from at old new was now) (block : List ℕ) (fits : at + 16 ≤ length new)
    (ascii : (k : ℕ) → k < 16 → Some (get_or block k 0) ≡ ascii_at len_of chars (at + k)) (classes : (k : ℕ) → k < 16 → class_at new (at + k) ≡ source.class_of (get_or block k 0))
    (idle : (k : ℕ) → k < 16 → stop_classes (class_at new (at + k)) ≡ false) where
  pub IsSkimmed-ascii_block : (later : ParagraphFlags) → flags_to source block now 16 ≡ later → IsSkimmed source len_of stop_classes (ahead len_of chars from) from (at + 16) old new was later
  IsSkimmed-ascii_block later more =
      rw more at (IsSkimmed-part source len_of stop_classes units chars from at begins old new was now h block fits (λ k below. char-from_ascii (char_at len_of chars (at + k)) (get_or block k 0) (ascii k below)) 16 (omega arith) (λ k below le. classes k below) idle)

-- ---- a block that is handed on by itself

module _ (len_of : ℕ → ℕ) (units : HasUnits len_of) (chars : List ℕ) (start end : ℕ) (begins : is_boundary len_of chars start ≡ true)
    (order : start ≤ end) (boundary : is_boundary len_of chars end ≡ true) where
  pub block-line : IsLine len_of chars start end
  block-line = record { ordered = order; begins = begins; ends = boundary }

  module _ (block : List ℕ) (is_block : block ≡ subrange len_of chars start end) where
    pub block-long : start + text_len len_of block ≡ end
    block-long = omega (arith, ap (text_len len_of) is_block, text_len-subrange len_of units chars start end block-line, order)

    module _ (classes : List BidiClass) (long : length classes ≡ text_len len_of chars) where
      pub block-room : text_len len_of block ≤ length (take (length classes - start) (drop start classes))
      block-room = omega (arith, block-long, is_boundary-le len_of chars end boundary, long, length-take (length classes - start) (drop start classes), length-drop start classes)

      inside : start ≤ length classes
      inside = omega (arith, long, is_boundary-le len_of chars start begins)

      -- its classes are written to the units from there on
      behind : List ℕ
      behind = drop (char_index len_of chars end - char_index len_of chars start) (ahead len_of chars start)

      block_first : ahead len_of chars start ≡ block ++ behind
      unfolding behind
      block_first = cc (is_block, take-append-drop (char_index len_of chars end - char_index len_of chars start) (ahead len_of chars start))

      module _ (source : Source) (stop_classes : BidiClass → Bool) (part written tail : List BidiClass) (was is : ParagraphFlags) (room : text_len len_of block ≤ length written) where
        pub IsSkimmed-block : IsSkimmed source len_of stop_classes block 0 (text_len len_of block) part written was is
            → IsSkimmed source len_of stop_classes (ahead len_of chars start) start end classes (take start classes ++ (written ++ tail)) was is
        IsSkimmed-block k = record {
          read = k.read;
          rest = k.rest ++ behind;
          joined = cc (block_first, append_assoc k.read k.rest behind, k.joined);
          idle = k.idle;
          written = rw (← block-long) (AreWritten-part source len_of stop_classes k.read start (text_len len_of block) classes part written tail inside room k.written);
          own_flags = k.own_flags;
        }

        pub IsStop-block : (stop : Stop) → IsStop source len_of stop_classes block 0 stop part written was is
            → IsStop source len_of stop_classes (ahead len_of chars start) start (record { start = start + stop.start; c = stop.c; len = stop.len; class = stop.class }) classes (take start classes ++ (written ++ tail)) was is
        IsStop-block stop k =
            let fits : stop.start + len_of stop.c ≤ length written = grind (
              arith,
              k.written.long,
              k.joined,
              sum_by-append,
              sum_by-cons,
              room,
            ) in
            record {
              read = k.read;
              rest = k.rest ++ behind;
              joined = cc (block_first, append_assoc k.read (stop.c ∷ k.rest) behind, k.joined);
              idle = k.idle;
              begins = omega (arith, k.begins);
              long = k.long;
              class = k.class;
              written = rw (add_assoc start stop.start (len_of stop.c)) (AreWritten-part source len_of stop_classes (k.read ++ stop.c ∷ []) start (stop.start + len_of stop.c) classes part written tail inside fits k.written);
              own_flags = k.own_flags;
            }
