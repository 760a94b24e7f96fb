use Rattle.bidi_base.proofs.Common.{◌≡◌, ◌<◌, ◌≤◌, ℕ, List, map, get_or, length, arith, get_or-set_same, get_or-set_other, ext_get_or, get_or-map}
use Rattle.bidi_base.proofs.Common.{get_or_default, length-map, take_more_set, fold_push, get_or-zip, length-zip, implicit_level, class_at}
use Rattle.std.specs.List.{zip}
use Rattle.bidi_base.specs.declared.char_data.BidiClass.{BidiClass}
use Rattle.bidi_base.specs.declared.char_data.BidiClass.TheVariants.{L}
use Rattle.bidi_rules.proofs.implicit.levels.resolve_levels.Goals as goal

-- the level that is read is the one before the pass
read_is : (old now : List ℕ) (i level : ℕ) → i < length old → length now ≡ length old → ((k : ℕ) → i ≤ k → get_or now k 0 ≡ get_or old k 0) → level ≡ get_or now i level → level ≡ get_or old i 0
read_is old now i level fits long rest is = grind (arith, get_or_default)

all_are : (old : List ℕ) (classes : List BidiClass) (now : List ℕ) → length old ≡ length classes → length now ≡ length old
    → ((k : ℕ) → k < length old → get_or now k 0 ≡ implicit_level (get_or old k 0) (class_at classes k))
    → now ≡ map (λ (e : ℕ × BidiClass). implicit_level e.0 e.1) (zip old classes)
all_are old classes now same long each =
    let pairs : length (zip old classes) ≡ length old = omega (arith, length-zip old classes) in
    ext_get_or 0 now (map (λ (e : ℕ × BidiClass). implicit_level e.0 e.1) (zip old classes)) (omega (arith, length-map (zip old classes) (λ (e : ℕ × BidiClass). implicit_level e.0 e.1)))
    (λ k below. simp (each k (omega arith), get_or-map (λ (e : ℕ × BidiClass). implicit_level e.0 e.1) (zip old classes) k (0, L) 0 (omega arith), get_or-zip old classes k (0, L) (omega arith) (omega arith)))

pub implicit_level-level-requires : goal.implicit_level-level-requires
implicit_level-level-requires c = grind (arith, read_is)

pub loop-unit-preserved : goal.loop-unit-preserved
loop-unit-preserved c = grind (arith, read_is, get_or-set_other, get_or-set_same, fold_push, take_more_set)

pub returns-clause-levels : goal.returns-clause-levels
returns-clause-levels c =
    all_are c.args.levels.now c.args.processing_classes.now c.loop-unit.levels c.requires.same_len c.loop-unit.auto.levels
    (λ k fits. c.loop-unit.invariant.written k (omega arith))
