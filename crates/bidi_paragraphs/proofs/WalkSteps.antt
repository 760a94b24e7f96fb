-- The walk over a text from one character to the next on which more than the flags depends.
use Rattle.bidi_base.proofs.Common.{◌≡◌, ℕ, ◌+◌, ◌≤◌, false, List, [], ◌∷◌, ◌++◌, length, take, drop, map, refl, sym, ap, subst, ◌∙◌, arith, append_assoc, length-append, length-drop, length-take}
use Rattle.bidi_base.proofs.Common.{Option, All, Range, add-zero, take-append_seam, drop-append_seam, map-append, length-map, take-take, drop-drop, All-tail, sum_by-append, sum_by-cons, Source}
use Rattle.bidi_base.proofs.Common.{text_len, unit_index, per_unit, replicate, append-nil}
use Rattle.bidi_base.specs.declared.char_data.BidiClass.{BidiClass}
use Rattle.bidi_laws.proofs.ReadingLemmas.{char_units}
use Rattle.bidi_base.proofs.TextLemmas.{HasUnits}
use Rattle.bidi_base.proofs.PerUnit.{per_unit-append, length-per_unit}
use Rattle.bidi_base.proofs.UnitIndexLemmas.{char_turn_of, CharTurn, char_index-unit_index, unit_index-le, unit_index-le-back, unit_index-end}
use Rattle.bidi_paragraphs.specs.declared.first_pass.stop.Stop.{Stop}
use Rattle.bidi_paragraphs.specs.declared.first_pass.paragraph_state.ParagraphState.{ParagraphState}
use Rattle.bidi_paragraphs.specs.declared.paragraph_flags.ParagraphFlags.{ParagraphFlags}
use Rattle.bidi_base.specs.declared.split_rule.SplitRule.{SplitRule}
use Rattle.bidi_paragraphs.specs.ParagraphFlags.{with_class, with_classes}
use Rattle.bidi_paragraphs.specs.FirstPass.{stops_at, with_flags, ahead, HaveNoStopClass, AreWritten, IsSkimmed, IsStop}
use Rattle.bidi_paragraphs.proofs.IdleClasses.{idle-separator}
use Rattle.bidi_paragraphs.proofs.TextRead.{Seen, IsRead, IsRead-on, IsTextRead-idle, drawn-is, ends_after-other, undecided-none}

-- the same, but other classes are written
abbrev pub with_units : List BidiClass → Seen → Seen
with_units classes found = record { units = classes; paragraphs = found.paragraphs; flags = found.flags }

module _ (source : Source) (len_of : ℕ → ℕ) where
  -- ---- characters that were written, in two parts

  module _ (xs ys : List ℕ) (from to : ℕ) (old new : List BidiClass) (inside : from ≤ length old) (h : AreWritten source len_of (xs ++ ys) from to old new) where
    abbrev front : List BidiClass
    front = take from old ++ per_unit len_of xs (map source.class_of xs)

    abbrev back : List BidiClass
    back = per_unit len_of ys (map source.class_of ys)

    both : take to new ≡ front ++ back
    both = grind (arith, map-append, per_unit-append, length-map, append_assoc)

    front_is : take (from + text_len len_of xs) new ≡ front
    front_is = grind (
      arith,
      take-take,
      h.long,
      sum_by-append len_of xs ys,
      both,
      take-append_seam front back,
      length-append,
      length-take,
      length-per_unit,
      length-map,
    )

    pub AreWritten-front : AreWritten source len_of xs from (from + text_len len_of xs) old new
    AreWritten-front = record { long = refl; classes = front_is }

    pub AreWritten-back : AreWritten source len_of ys (from + text_len len_of xs) to new new
    AreWritten-back = record { long = omega (arith, h.long, sum_by-append len_of xs ys); classes = both ∙ ap (λ us. us ++ back) (sym front_is) }

  AreWritten-one : (c from to : ℕ) (old new : List BidiClass) → AreWritten source len_of (c ∷ []) from to old new
      → take (from + len_of c) new ≡ take from old ++ replicate (len_of c) (source.class_of c)
  AreWritten-one c from to old new h = grind (arith, append-nil)

  -- ---- where the walk is

  module _ (chars : List ℕ) (rule : Option SplitRule) (base_level : Option ℕ) where
    -- the walk has come to a unit
    pub record IsWalked (at : ℕ) (found : Seen) (state : ParagraphState) : Type 0 where
      pub index : ℕ
      pub within : index ≤ length chars
      pub here : at ≡ unit_index len_of chars index
      pub read : IsRead source len_of chars rule base_level index found state

    -- and to a character, whose class is written
    pub record IsAt (stop : Stop) (found : Seen) (state : ParagraphState) : Type 0 where
      pub index : ℕ
      pub read : IsRead source len_of chars rule base_level index found state
      pub turn : CharTurn len_of chars index stop.start stop.c
      pub class : stop.class ≡ source.class_of stop.c
      pub written : take (stop.start + len_of stop.c) found.units ≡ take stop.start found.units ++ replicate (len_of stop.c) stop.class

  module _ (chars : List ℕ) (units : HasUnits len_of) (rule : Option SplitRule) (base_level : Option ℕ) where
    -- ---- one character on which nothing depends but the flags

    pub turn_at : (n c : ℕ) (rest : List ℕ) → drop n chars ≡ c ∷ rest → CharTurn len_of chars n (unit_index len_of chars n) c
    turn_at n c rest next = char_turn_of len_of chars n (unit_index len_of chars n) c refl (cc (next, drop-drop 1 n chars))

    IsRead-idle : (n c : ℕ) (rest : List ℕ) (found : Seen) (state : ParagraphState) (drawn : List BidiClass)
        → IsRead source len_of chars rule base_level n found state → drop n chars ≡ c ∷ rest → stops_at state (source.class_of c) ≡ false
        → length drawn ≡ length found.units → take (unit_index len_of chars n + len_of c) drawn ≡ take (unit_index len_of chars n) found.units ++ replicate (len_of c) (source.class_of c)
        → IsRead source len_of chars rule base_level (n + 1) (with_units drawn found) (with_flags state (with_class state.flags (source.class_of c)))
    IsRead-idle n c rest found state drawn h next idle long written =
        let w = turn_at n c rest next in
        let class : BidiClass = source.class_of c in
        let drawn_is = drawn-is source len_of chars units base_level n h.done h.current found state w.within h.read c w.is_char class refl drawn (unit_index len_of chars n) refl written in
        let range : Range ℕ = char_units len_of chars n in
        let empty = undecided-none source len_of chars units base_level n h.done h.current found state w.within h.read in
        let read = IsTextRead-idle source len_of chars units base_level n h.done h.current found state w.within h.read c w.is_char class refl drawn drawn_is long (with_units drawn found) idle refl refl refl in
        IsRead-on source len_of chars rule base_level n c found state (with_units drawn found) (with_flags state (with_class state.flags class)) h w.next read
        (ends_after-other rule source c (drop (n + 1) chars) (idle-separator state class range idle empty))

    -- ---- characters on which nothing depends but the flags

    IsRead-idles : (read rest : List ℕ) (n to : ℕ) (found : Seen) (state : ParagraphState) (drawn : List BidiClass) → IsRead source len_of chars rule base_level n found state → drop n chars ≡ read ++ rest
        → All (λ c. stops_at state (source.class_of c) ≡ false) read → length drawn ≡ length found.units → AreWritten source len_of read (unit_index len_of chars n) to found.units drawn
        → IsRead source len_of chars rule base_level (n + length read) (with_units drawn found) (with_flags state (with_classes state.flags (map source.class_of read))) × (unit_index len_of chars (n + length read) ≡ to)
    -- (what was written after the characters that were read does not count)
    IsRead-idles [] rest n to found state drawn h next idle long written = grind (arith, add-zero, append-nil)
    IsRead-idles (c ∷ read) rest n to found state drawn h next idle long written =
        let inside : unit_index len_of chars n ≤ length found.units = omega (arith, h.read.sized, unit_index-le len_of chars n) in
        let w = turn_at n c (read ++ rest) next in
        let noted = with_flags state (with_class state.flags (source.class_of c)) in
        let first = AreWritten-front (c ∷ []) read (unit_index len_of chars n) to found.units drawn inside written in
        let others = AreWritten-back (c ∷ []) read (unit_index len_of chars n) to found.units drawn inside written in
        let one = IsRead-idle n c (read ++ rest) found state drawn h next (idle 0 c (omega arith)) long (grind (arith, first.classes, append-nil)) in
        let later = IsRead-idles read rest (n + 1) to (with_units drawn found) noted drawn one (cc next) (All-tail (λ c. stops_at state (source.class_of c) ≡ false) c read idle) refl in
        grind (arith, later, others, w.after, sum_by-cons len_of c [])

    -- ---- up to the next character on which something may depend, or up to the end

    module _ (at : ℕ) (found : Seen) (state : ParagraphState) (drawn : List BidiClass) (h : IsWalked chars rule base_level at found state)
        (long : length drawn ≡ length found.units) where
      ahead_is : ahead len_of chars at ≡ drop h.index chars
      ahead_is = simp (h.here, char_index-unit_index len_of chars units h.index h.within)

      inside : at ≤ length found.units
      inside = omega (arith, h.here, h.read.read.sized, unit_index-le len_of chars h.index)

      on : (read rest : List ℕ) (to : ℕ) → ahead len_of chars at ≡ read ++ rest → HaveNoStopClass source (stops_at state) read → AreWritten source len_of read at to found.units drawn
          → IsRead source len_of chars rule base_level (h.index + length read) (with_units drawn found) (with_flags state (with_classes state.flags (map source.class_of read))) × (unit_index len_of chars (h.index + length read) ≡ to)
      on read rest to joined idle written =
          IsRead-idles read rest h.index to found state drawn h.read (sym ahead_is ∙ joined) idle long (rw h.here at written)

      -- the state with the flags of the characters that were read
      pub IsAt-stop : (stop : Stop) (flags : ParagraphFlags)
          → IsStop source len_of (stops_at state) (ahead len_of chars at) at stop found.units drawn state.flags flags
          → IsAt chars rule base_level stop (with_units drawn found) (with_flags state flags)
      IsAt-stop stop flags k =
          let to : ℕ = at + text_len len_of k.read in
          let w = on k.read (stop.c ∷ k.rest) to k.joined k.idle (AreWritten-front k.read (stop.c ∷ []) at (stop.start + len_of stop.c) found.units drawn inside k.written) in
          record {
            index = h.index + length k.read;
            read = subst (λ flags. IsRead source len_of chars rule base_level (h.index + length k.read) (with_units drawn found) (with_flags state flags)) (sym k.own_flags) w.0;
            turn = rw (w.1 ∙ sym k.begins) at (turn_at (h.index + length k.read) stop.c k.rest (cc (drop-drop (length k.read) h.index chars, ahead_is, k.joined, drop-append_seam k.read (stop.c ∷ k.rest))));
            class = k.class;
            written = simp (k.begins, k.class) (AreWritten-one stop.c to (stop.start + len_of stop.c) drawn drawn (AreWritten-back k.read (stop.c ∷ []) at _ found.units drawn inside k.written));
          }

      pub IsRead-end : (flags : ParagraphFlags) → IsSkimmed source len_of (stops_at state) (ahead len_of chars at) at (text_len len_of chars) found.units drawn state.flags flags
          → IsRead source len_of chars rule base_level (length chars) (with_units drawn found) (with_flags state flags)
      IsRead-end flags k =
          let w = on k.read k.rest (text_len len_of chars) k.joined k.idle k.written in
          let all = unit_index-le-back len_of chars units (length chars) (h.index + length k.read) (omega arith) (omega (arith, w.1, unit_index-end len_of chars (length chars) (omega arith))) in
          let whole : h.index + length k.read ≡ length chars = omega (arith, all, h.within, length-drop h.index chars, ap length (sym ahead_is ∙ k.joined), length-append k.read k.rest) in
          subst (λ flags. IsRead source len_of chars rule base_level (length chars) (with_units drawn found) (with_flags state flags)) (sym k.own_flags) (rw whole at w.0)
