-- What a shown line gives of each line that it shows.
use Rattle.bidi_base.proofs.Common.{◌≡◌, ℕ, ◌+◌, ◌-◌, ◌++◌, false, List, length, take, drop, refl, sym, ap, subst, ◌∙◌, arith, Range, text_len, subrange, per_char, IsLine, visual_runs}
use Rattle.bidi_base.proofs.Common.{AnalysedText, line_levels_per_char, if◌then◌else◌, is_ok, Ok, Err, Result, OnOk, OnErr, slice_range, length-take-le, IsTrue, ◌↔◌, not, take-append_seam}
use Rattle.bidi_base.proofs.Common.{drop-append_seam, AreRunsOfLine, IsTextOfLine, StaysInOrder}
use Rattle.bidi_base.proofs.TextLemmas.{HasUnits}
use Rattle.bidi_lines.specs.declared.shown_line.ShownLine.{ShownLine}
use Rattle.bidi_lines.specs.ShownLine.{text_of, levels, runs, Shows, AppendsTextOfLine}
use Rattle.bidi_lines.specs.LineUnits.{visual_units}
use Rattle.bidi_lines.specs.LineLevels.{levels as levels_in}
use Rattle.bidi_lines.proofs.StillLine.{visual_units-still}
use Rattle.bidi_lines.proofs.StoredLine.{per_char-shown}
use Rattle.bidi_lines.proofs.LineByLevels.{shown-runs, shown-stays, shown-text}

-- what holds where a call went well follows from what it gives
pub on_ok : {A E P Q : Type 0} (result : Result A E) → (P → Q) → OnOk result P → OnOk result Q
on_ok (Ok x) step given = step given
on_ok (Err e) step given = tt

-- what holds at any rate holds where a call failed
pub on_err : {A E P : Type 0} (result : Result A E) → P → OnErr result P
on_err (Ok x) p = tt
on_err (Err e) p = p

-- a list to which a call appended, or which it left
pub pushed_ok : {A E P : Type 0} (result : Result A E) (new xs ys : List ℕ) → new ≡ (if is_ok result then xs else ys) → (new ≡ xs → P) → OnOk result P
pushed_ok (Ok x) new xs ys e step = step e
pushed_ok (Err e) new xs ys f step = tt

pub pushed_either : {A E : Type 0} (P : List ℕ → Type 0) (result : Result A E) (new xs ys : List ℕ) → OnOk result (new ≡ xs) → OnErr result (new ≡ ys) → P xs → P ys → P new
pushed_either P (Ok x) new xs ys ok err p q = subst P (sym ok) p
pushed_either P (Err e) new xs ys ok err p q = subst P (sym err) q

-- the levels of the characters, whatever the text and its parts are called
same_chars : (len len' : ℕ → ℕ) (chars chars' : List ℕ) (start start' end end' : ℕ) (shown of_chars : List ℕ) → len ≡ len' → chars ≡ chars' → start' ≡ start → end' ≡ end
    → per_char 0 len (subrange len chars start end) shown ≡ of_chars → per_char 0 len' (subrange len' chars' start' end') shown ≡ of_chars
same_chars len len' chars chars' start start' end end' shown of_chars e f g h is = rw (← e, ← f, g, h) is

-- a line that stays in order is its units
pub still_shown : {T C I L : Type 0} {t : _} {c : _} {i : _} {l : _} (s : ShownLine T C I L t c i l) {X : Type 0} (encode : ℕ → List X) (units : List X) → s.has_rtl ≡ false
    → visual_units t.encoding.len_of encode (t.text (text_of s)).chars units s.start (levels s) ≡ slice_range units s.start s.end
still_shown {t = t} s encode units even =
    let end : s.start + length (levels s) ≡ s.end = omega (arith, s.is_line.ordered, s.one_per_unit, length-take-le (s.end - s.start) (levels_in s.levels) s.one_per_unit) in
    visual_units-still s.start (levels s) (sym s.of_levels ∙ even) t.encoding.len_of encode (t.text (text_of s)).chars units ∙ ap (slice_range units s.start) end

module _ {T C I L : Type 0} {t : _} {c : _} {i : _} {l : _} (s : ShownLine T C I L t c i l) (some : HasUnits t.encoding.len_of)
    (a : AnalysedText) (level : ℕ) (line : Range ℕ) (shows : Shows s a level line) where
  pub some_of : HasUnits a.len_of
  some_of = subst HasUnits (sym shows.len_of) some

  pub is_line_of : IsLine a.len_of a.chars line.start line.end
  is_line_of = rw (shows.len_of, shows.chars, ← shows.start, ← shows.end) s.is_line

  pub runs_of_shown : AreRunsOfLine a level line (runs s)
  runs_of_shown =
      shown-runs a some_of level line is_line_of (levels s) shows.levels (runs s) (s.runs_of_levels ∙ ap (λ start. visual_runs start (levels s)) shows.start)
      (rw (shows.len_of, shows.chars, ← shows.start) s.runs_of_chars)

  pub stays_of_shown : IsTrue (not s.has_rtl) ↔ StaysInOrder a level line
  stays_of_shown = shown-stays a some_of level line is_line_of (levels s) shows.levels s.has_rtl s.of_levels

  -- its levels, one for each character
  pub chars_of_shown : per_char 0 t.encoding.len_of (subrange t.encoding.len_of (t.text (text_of s)).chars s.start s.end) (levels s) ≡ line_levels_per_char a level line
  chars_of_shown = same_chars _ _ _ _ _ _ _ _ _ _ shows.len_of shows.chars shows.start shows.end (per_char-shown a some_of level line is_line_of (levels s) shows.levels)

  -- what is after a list to which the units of the line were appended
  pub appends_shown : (encode : ℕ → List ℕ) (units old new : List ℕ) → length units ≡ text_len t.encoding.len_of (t.text (text_of s)).chars
      → new ≡ old ++ visual_units t.encoding.len_of encode (t.text (text_of s)).chars units s.start (levels s)
      → AppendsTextOfLine encode units a level line old new
  appends_shown encode units old new same e =
      let text = shown-text a some_of level line is_line_of (levels s) shows.levels encode units (rw (shows.len_of, shows.chars) same) in
      record {
        kept = ap (take (length old)) e ∙ take-append_seam old _;
        text = subst (IsTextOfLine encode units a level line)
            (sym (ap (drop (length old)) e ∙ drop-append_seam old _ ∙ rw (shows.len_of, shows.chars, ← shows.start) refl)) text;
      }
