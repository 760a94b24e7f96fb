use Rattle.bidi_base.proofs.Common.{◌≡◌, ℕ, ◌+◌, ◌≤◌, ◌&&◌, List, length, map, drop, refl, sym, subst, ap, arith, common_steps, All, and_from, is_kept_in_place, class_at, unit_index, text_len, bounds}
use Rattle.bidi_base.proofs.Common.{in_runs, AreLines, All-drop}
use Rattle.bidi_base.specs.declared.char_data.BidiClass.{BidiClass}
use Rattle.bidi_base.specs.declared.char_data.BidiClass.TheVariants.{L}
use Rattle.bidi_base.proofs.UnitIndexLemmas.{is_boundary-unit_index, unit_index-mono}
use Rattle.bidi_base.proofs.TextLemmas.{is_boundary-le}
use Rattle.bidi_explicit.proofs.CharEnds.{begins_at}
use Rattle.bidi_base.proofs.UpdatedLemmas.{IsUpdated-same_test}
use Rattle.bidi_explicit.specs.SequenceUnits.{is_seen, IsWrittenOver}
use Rattle.bidi_rules.specs.PairPass.{IsMarksEnd, IsUnmarked}
use Rattle.bidi_rules.specs.declared.neutral.pairs.Place.{Place}
use Rattle.bidi_explicit.proofs.WalkLemmas.{forwards-in_order, part_after}
use Rattle.bidi_rules.proofs.neutral.pairs.set_direction.Goals as goal

-- what is found and written from a bracket on needs no run that ends before it
IsSet-later : (len_of : ℕ → ℕ) (chars : List ℕ) (later runs : List (ℕ × ℕ)) (original_classes : List BidiClass) (d : BidiClass) (bracket inside end : ℕ) (old new : List BidiClass)
    → ((k : ℕ) → bracket ≤ k → in_runs later k ≡ in_runs runs k) → bracket ≤ inside
    → IsMarksEnd len_of chars later original_classes old inside end → IsWrittenOver (is_seen later old) d bracket end old new → IsMarksEnd len_of chars runs original_classes old inside end × IsWrittenOver (is_seen runs old) d bracket end old new
IsSet-later len_of chars later runs original_classes d bracket inside end old new same order m w =
    let alike : (k : ℕ) → bracket ≤ k → is_seen later old k ≡ is_seen runs old k = λ k from. ap
    (λ b. b && is_kept_in_place (class_at old k)) (same k from) in
    grind (arith, alike, IsUpdated-same_test L (is_seen later old) (λ c. d) bracket old (is_seen runs old) end new)

-- without marks after it, a bracket is all that is written
IsSet-unmarked : (len_of : ℕ → ℕ) (chars : List ℕ) (runs : List (ℕ × ℕ)) (original_classes : List BidiClass) (d : BidiClass) (bracket : Place) (k : ℕ) (old new : List BidiClass)
    → bracket.end ≡ unit_index len_of chars k → bracket.unit ≤ bracket.end → IsUnmarked runs original_classes old bracket
    → IsWrittenOver (λ u. is_kept_in_place (class_at old u)) d bracket.unit bracket.end old new → IsMarksEnd len_of chars runs original_classes old (unit_index len_of chars k) bracket.end × IsWrittenOver (is_seen runs old) d bracket.unit bracket.end old new
IsSet-unmarked len_of chars runs original_classes d bracket k old new ends order u w = (
  record {
    marks = λ q from below seen. absurd (omega (arith, ends));
    stops = λ less. (k, ends, omega (arith, ends), and_from _ _ (u.seen bracket.end order (omega arith)) u.kept, u.plain);
    within = omega (arith, u.inside);
  },
  IsUpdated-same_test L (λ u. is_kept_in_place (class_at old u)) (λ c. d) bracket.unit old (is_seen runs old) bracket.end new
      (λ q from below. sym (ap (λ b. b && is_kept_in_place (class_at old q)) (u.seen q from (omega arith)))) w,
)

ends-within : (len_of : ℕ → ℕ) (chars : List ℕ) (runs : List (ℕ × ℕ)) (n : ℕ) → n ≡ text_len len_of chars → AreLines len_of chars runs → All (λ (r : ℕ × ℕ). r.1 ≤ n) runs
ends-within len_of chars runs n long lines = grind (arith, is_boundary-le)

pub no_mark_follows-requires-clause-inside : goal.no_mark_follows-requires-clause-inside
no_mark_follows-requires-clause-inside g c =
    let a = c.args in
    subst (λ (rs : List (ℕ × ℕ)). All (λ (r : ℕ × ℕ). r.1 ≤ length a.classes.now) rs) (sym (part_after a.sequence.runs.now a.sequence.runs.now a.bracket.run refl))
    (All-drop (λ (r : ℕ × ℕ). r.1 ≤ length a.classes.now) a.bracket.run (map bounds a.sequence.runs.now) (ends-within g.T.TextSource.encoding.len_of (g.T.TextSource.text a.text).chars (map bounds a.sequence.runs.now) (length a.classes.now) c.requires.long c.requires.lines))

pub write_bracket-requires : goal.write_bracket-requires
write_bracket-requires g c = omega (arith, (c.no_mark_follows.ensures c.if-no_mark_follows.true).inside)

pub returns-then-no_mark_follows : goal.returns-then-no_mark_follows
returns-then-no_mark_follows g c = λ k within there.
    let len_of = g.T.TextSource.encoding.len_of in
    let chars : List ℕ = (g.T.TextSource.text c.args.text).chars in
    let rs = map bounds c.args.sequence.runs.now in
    let same = part_after c.args.sequence.runs.now c.args.sequence.runs.now c.args.bracket.run refl in
    let p = c.requires.place in
    let ends = p.ends k within there in
    let order : c.args.bracket.unit ≤ c.args.bracket.end = omega (arith, there, ends, unit_index-mono len_of chars k (k + 1) (omega arith)) in
    let set = IsSet-unmarked len_of chars (drop c.args.bracket.run rs) _ _ c.args.bracket (k + 1) _ _ ends order (simp same at (c.no_mark_follows.ensures c.if-no_mark_follows.true)) c.write_bracket.ensures in
    IsSet-later _ _ (drop c.args.bracket.run rs) rs _ _ c.args.bracket.unit _ _ _ _ p.run.later (omega (arith, order, ends)) set.0 set.1

pub set_with_marks-requires-clause-are_lines : goal.set_with_marks-requires-clause-are_lines
set_with_marks-requires-clause-are_lines g c = grind (arith, common_steps, part_after)

pub set_with_marks-requires-clause-ordered : goal.set_with_marks-requires-clause-ordered
set_with_marks-requires-clause-ordered g c = grind (arith, forwards-in_order) steps 400000

pub set_with_marks-requires-clause-ends : goal.set_with_marks-requires-clause-ends
set_with_marks-requires-clause-ends g c =
    let len_of = g.T.TextSource.encoding.len_of in
    let chars : List ℕ = (g.T.TextSource.text c.args.text).chars in
    let b = begins_at (g.T.TextSource.text c.args.text) c.args.bracket.unit c.requires.begins c.requires.inside in
    grind (arith, c.requires.place.ends b.index b.within b.there, is_boundary-unit_index len_of chars (b.index + 1))

pub returns : goal.returns
returns g c = λ k within there.
    let rs = map bounds c.args.sequence.runs.now in
    let same = part_after c.args.sequence.runs.now c.args.sequence.runs.now c.args.bracket.run refl in
    let p = c.requires.place in
    let inside = p.ends k within there in
    IsSet-later _ _ (drop c.args.bracket.run rs) rs _ _ c.args.bracket.unit _ _ _ _ p.run.later (omega (arith, there, unit_index-mono g.T.TextSource.encoding.len_of (g.T.TextSource.text c.args.text).chars k (k + 1) (omega arith)))
    (simp (inside, same) at c.set_with_marks.ensures.marks) (simp same at c.set_with_marks.ensures.written)
