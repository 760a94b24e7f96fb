-- The passes one after another.
use Rattle.bidi_base.proofs.Common.{◌≡◌, ◌∙◌, ◌<◌, List, ℕ, nat_lt, Bool, true, false, ◌&&◌, is_some, length, map, ap, sym, arith, rules, length-map, are_ordered, is_l_or_r, refl}
use Rattle.bidi_base.proofs.PerUnit.{length-per_unit}
use Rattle.bidi_laws.proofs.StoredSteps.{length-stored_classes}
use Rattle.bidi_explicit.specs.Gathered.{gathered_in}
use Rattle.bidi_explicit.specs.Links.{begins, sequence_at, linked_runs, linked_sequences}
use Rattle.bidi_explicit.specs.declared.prepare.borrowed.BorrowedSequence.{BorrowedSequence}
use Rattle.bidi_explicit.specs.declared.prepare.links.RunLinks.{RunLinks}
use Rattle.bidi_explicit.specs.RunSequence.{borrowed_joined}
use Rattle.bidi_paragraphs.proofs.FilledUnits.{stored-long}
use Rattle.bidi_paragraphs.proofs.LevelPasses.{ArePrepared, AreResolvedTo-same, AreResolvedTo-start, AreResolvedTo-per_char, AreResolvedTo-long, AreWeakTo-from, AreWeakTo-resolved, AreResolvedTo-more, AreResolvedTo-known, AreResolvedTo-written, kept_of_units}
use Rattle.bidi_paragraphs.proofs.LevelPasses.{prepared, prepared-next, prepared-lines, prepared-more, prepared-same, prepared-long, prepared-low, AreLevels-from}
use Rattle.bidi_paragraphs.proofs.KnownSequenceLevels.{lines-within, numbers-give, known_levels-keeps, written-in_place, written-kept}
use Rattle.bidi_paragraphs.proofs.paragraph_levels.LevelResolver.resolve_nested.Given.{Over}
use Rattle.bidi_paragraphs.proofs.paragraph_levels.LevelResolver.resolve_nested.Goals as goal
use Rattle.bidi_paragraphs.proofs.paragraph_levels.LevelResolver.resolve_nested.Goals.{In_ok-prepare, After-borrowed-sequence, then-has_known_levels-via-then-has_known_levels, then-has_known_levels-via-else-has_known_levels+then-write_l_over_numbers, in-Some+else-has_known_levels+else-write_l_over_numbers+in_ok-resolve_up_to_n1, in_default}

pub prepare-requires : goal.prepare-requires
prepare-requires g c = grind (arith, length-per_unit, length-stored_classes, length-map)

pub loop-first-init : goal.loop-first-init
loop-first-init g c =
    record {
      kept = refl;
      resolved = AreResolvedTo-start _ g.T.TextSource.encoding.positive _ _ _ c.args.paragraph.now.level c.args.paragraph.now.original_classes.now _ (length-map (g.T.TextSource.text c.args.paragraph.now.text).chars _) c.args.paragraph.now.stored
          (c.as_mut_slice-classes.ensures.value ∙ c.in_ok-prepare.ensures.classes);
    }

-- the sequences are those of the paragraph
ready : (g : Over) (c : In_ok-prepare g)
    → ArePrepared g.T.TextSource.encoding.len_of g.T.TextSource.encoding.positive (g.T.TextSource.text c.args.paragraph.now.text).chars
    (map (g.D.BidiDataSource.source c.args.paragraph.now.data_source.now).class_of (g.T.TextSource.text c.args.paragraph.now.text).chars)
    (g.D.BidiDataSource.source c.args.paragraph.now.data_source.now).bracket_of c.args.paragraph.now.level c.args.paragraph.now.original_classes.now c.prepare.new.levels
    (linked_sequences c.prepare.new.self.links (linked_runs c.prepare.new.self.links c.prepare.new.self.runs.items))
ready g c =
    let len = g.T.TextSource.encoding.len_of in
    let cs : List ℕ = (g.T.TextSource.text c.args.paragraph.now.text).chars in
    let given = g.D.BidiDataSource.source c.args.paragraph.now.data_source.now in
    prepared len _ cs _ given.bracket_of _ c.args.paragraph.now.original_classes.now _ _ (length-map cs given.class_of) c.args.paragraph.now.stored c.in_ok-prepare.ensures.levels c.in_ok-prepare.ensures.sequences c.in_ok-prepare.ensures.are_lines

-- the sequence at hand: it begins with the run at hand, and it is the one that the links lead to
record IsAtHand (links : RunLinks) (runs : List (ℕ × ℕ)) (first : ℕ) (s : BorrowedSequence) : Type 0 where
  within : first < length runs
  here : begins links first ≡ true
  is : borrowed_joined s ≡ sequence_at links runs first

at_hand : (g : Over) (c : After-borrowed-sequence g) → IsAtHand c.prepare.new.self.links (linked_runs c.prepare.new.self.links c.prepare.new.self.runs.items) c.loop-first.first c.borrowed-sequence.result
at_hand g c =
    let links = c.prepare.new.self.links in
    let found = rw c.in-Some.is at c.in_ok-found.ensures.sequence in record {
      within = grind (arith, c.in_ok-prepare.ensures.linked.all_next);
      here = sym c.in_ok-found.ensures.begins ∙ ap is_some c.in-Some.is;
      is = c.borrowed-sequence.ensures ∙ ap (gathered_in c.in-Some.found) c.as_slice.ensures.value ∙ found.is ∙ ap (λ (rs : List (ℕ × ℕ)). sequence_at links rs c.loop-first.first) c.loop-first.invariant.kept;
    }

-- it has L or R before it
third : (a b c d : Bool) → a && (b && (c && d)) ≡ true → c ≡ true
third a b c d all = grind arith

side : (s : BorrowedSequence) → is_l_or_r (borrowed_joined s).sos ≡ true
side s =
    let j = borrowed_joined s in
    third (nat_lt 0 (length j.runs)) (are_ordered j.runs) (is_l_or_r j.sos) (is_l_or_r j.eos) s.well_formed

pub has_known_levels-requires-clause-inside : goal.has_known_levels-requires-clause-inside
has_known_levels-requires-clause-inside g c =
    let at = goal.at.has_known_levels-requires-clause-inside g c in
    let hand = at_hand g at.After-borrowed-sequence in
    lines-within g.T.TextSource.encoding.len_of (g.T.TextSource.text c.args.paragraph.now.text).chars c.loop-first.classes (borrowed_joined c.borrowed-sequence.result).runs
    (AreResolvedTo-long _ _ _ _ _ _ _ _ (length-map (g.T.TextSource.text c.args.paragraph.now.text).chars _) c.loop-first.invariant.resolved)
    (prepared-lines _ _ _ _ _ _ _ _ _ _ (ready g at.In_ok-prepare) c.loop-first.first (borrowed_joined c.borrowed-sequence.result) hand.within hand.here hand.is)

pub has_known_levels-requires-clause-same_len : goal.has_known_levels-requires-clause-same_len
has_known_levels-requires-clause-same_len g c =
    let is_ready = ready g (goal.at.has_known_levels-requires-clause-same_len g c).In_ok-prepare in
    omega (arith, prepared-long _ _ _ _ _ _ _ _ _ _ is_ready, AreResolvedTo-long _ _ _ _ _ _ _ _ is_ready.fits c.loop-first.invariant.resolved)

pub write_l_over_numbers-requires-clause-inside : goal.write_l_over_numbers-requires-clause-inside
write_l_over_numbers-requires-clause-inside g c =
    let at = goal.at.write_l_over_numbers-requires-clause-inside g c in
    let hand = at_hand g at.After-borrowed-sequence in
    lines-within g.T.TextSource.encoding.len_of (g.T.TextSource.text c.args.paragraph.now.text).chars c.loop-first.classes (borrowed_joined c.borrowed-sequence.result).runs
    (AreResolvedTo-long _ _ _ _ _ _ _ _ (length-map (g.T.TextSource.text c.args.paragraph.now.text).chars _) c.loop-first.invariant.resolved)
    (prepared-lines _ _ _ _ _ _ _ _ _ _ (ready g at.In_ok-prepare) c.loop-first.first (borrowed_joined c.borrowed-sequence.result) hand.within hand.here hand.is)

pub write_l_over_numbers-requires-clause-same_len : goal.write_l_over_numbers-requires-clause-same_len
write_l_over_numbers-requires-clause-same_len g c =
    let is_ready = ready g (goal.at.write_l_over_numbers-requires-clause-same_len g c).In_ok-prepare in
    omega (arith, prepared-long _ _ _ _ _ _ _ _ _ _ is_ready, AreResolvedTo-long _ _ _ _ _ _ _ _ is_ready.fits c.loop-first.invariant.resolved)

pub loop-first-preserved-then-has_known_levels : goal.loop-first-preserved-then-has_known_levels
loop-first-preserved-then-has_known_levels g c =
    let at = goal.at.loop-first-preserved-then-has_known_levels g c in
    let is_ready = ready g at.In_ok-prepare in
    let hand = at_hand g at.After-borrowed-sequence in
    let s = borrowed_joined c.borrowed-sequence.result in
    let chars : List ℕ = (g.T.TextSource.text c.args.paragraph.now.text).chars in
    let next = prepared-next _ _ _ _ _ _ _ _ _ _ is_ready c.loop-first.first s hand.within hand.here hand.is (side c.borrowed-sequence.result) in
    let line = prepared-lines _ _ _ _ _ _ _ _ _ _ is_ready c.loop-first.first s hand.within hand.here hand.is in
    let per = AreResolvedTo-per_char _ _ _ _ _ _ _ _ (length-map chars _) c.loop-first.invariant.resolved in
    let len = g.T.TextSource.encoding.len_of in
    let units = g.T.TextSource.encoding.positive in
    let kept = kept_of_units len units chars _ _ _ is_ready.fits _ s line next c.loop-first.classes c.loop-first.invariant.resolved in
    let h = c.loop-first.invariant.resolved in
    let more = prepared-more _ _ _ _ _ _ _ _ _ _ is_ready c.loop-first.first s hand.within hand.here hand.is in
    record {
      kept = c.in_ok-found.ensures.outside ∙ c.loop-first.invariant.kept;
      resolved = elim c.then-has_known_levels.branch [
        | then-has_known_levels-via-then-has_known_levels w ↦
            let keeps = known_levels-keeps len units chars c.borrowed-sequence.result c.prepare.new.levels c.loop-first.classes line per _ _ (c.has_known_levels.ensures w.if-has_known_levels.true) kept in
            rw (w.classes-is, more) (AreResolvedTo-known len units chars _ _ _ is_ready.fits _ s line next c.loop-first.classes h _ is_ready.levels_is keeps)
        | then-has_known_levels-via-else-has_known_levels+then-write_l_over_numbers w ↦
            let new = w.write_l_over_numbers.new.classes in
            let numbers = w.write_l_over_numbers.ensures.numbers w.if-write_l_over_numbers.true in
            let written = w.write_l_over_numbers.ensures.written w.if-write_l_over_numbers.true in
            let of = c.borrowed-sequence.result in
            let levels = c.prepare.new.levels in
            let old = c.loop-first.classes in
            rw (w.classes-is, more) (AreResolvedTo-written len units chars _ _ _ is_ready.fits _ s line next old new _ h is_ready.levels_is
            (written-kept len units chars of levels old line per new numbers written) (numbers-give len units chars of levels old line per new numbers written _ _ kept)
            (written-in_place len units chars of levels old line per new numbers written))
      ];
    }

pub resolve_weak_borrowed_counted-requires : goal.resolve_weak_borrowed_counted-requires
resolve_weak_borrowed_counted-requires g c =
    let at = goal.at.resolve_weak_borrowed_counted-requires g c in
    let hand = at_hand g at.After-borrowed-sequence in record {
      per_char = rw (c.write_l_over_numbers.ensures.unchanged c.if-write_l_over_numbers.false) (AreResolvedTo-per_char _ _ _ _ _ _ _ _ (length-map (g.T.TextSource.text c.args.paragraph.now.text).chars _) c.loop-first.invariant.resolved);
      are_lines = prepared-lines _ _ _ _ _ _ _ _ _ _ (ready g at.In_ok-prepare) c.loop-first.first (borrowed_joined c.borrowed-sequence.result) hand.within hand.here hand.is;
    }

pub invariant_of-leveled : goal.invariant_of-leveled
invariant_of-leveled g c =
    let p = c.args.paragraph.now in
    record {
      class_each = stored-long _ _ (g.D.BidiDataSource.source p.data_source.now).class_of p.original_classes.now p.stored;
      level_each = omega (arith, prepared-long _ _ _ _ _ _ _ _ _ _ (ready g (goal.at.invariant_of-leveled g c).In_ok-prepare));
    }

pub resolve_up_to_n1-requires : goal.resolve_up_to_n1-requires
resolve_up_to_n1-requires g c =
    let at = goal.at.resolve_up_to_n1-requires g c in
    let is_ready = ready g at.In_ok-prepare in
    let hand = at_hand g at.After-borrowed-sequence in
    let s = borrowed_joined c.borrowed-sequence.result in
    let next = prepared-next _ _ _ _ _ _ _ _ _ _ is_ready c.loop-first.first s hand.within hand.here hand.is (side c.borrowed-sequence.result) in
    let line = prepared-lines _ _ _ _ _ _ _ _ _ _ is_ready c.loop-first.first s hand.within hand.here hand.is in
    let weak =
    AreWeakTo-from _ _ _ _ _ _ is_ready.fits _ s line next c.write_l_over_numbers.new.classes c.resolve_weak_borrowed_counted.new.processing_classes (AreResolvedTo-same _ _ _ _ _ _ _ _ _ (c.write_l_over_numbers.ensures.unchanged c.if-write_l_over_numbers.false) c.loop-first.invariant.resolved)
    c.resolve_weak_borrowed_counted.ensures.resolved.kept c.resolve_weak_borrowed_counted.ensures.resolved.in_place in
    record {
      per_char = first_of (search rules, grind arith);
      are_lines = line;
      levels = omega (arith, prepared-long _ _ _ _ _ _ _ _ _ _ is_ready, AreResolvedTo-long _ _ _ _ _ _ _ _ is_ready.fits c.loop-first.invariant.resolved, c.write_l_over_numbers.auto.classes, c.resolve_weak_borrowed_counted.auto.processing_classes);
      original = grind (arith, length-map, length-per_unit, length-stored_classes);
      resolved = AreWeakTo-resolved _ _ _ _ _ _ is_ready.fits _ s line next _ weak;
    }

pub loop-first-preserved : goal.loop-first-preserved
loop-first-preserved g c =
    let at = goal.at.loop-first-preserved g c in
    let is_ready = ready g at.In_ok-prepare in
    let links = c.prepare.new.self.links in
    let runs = linked_runs links c.prepare.new.self.runs.items in
    let h = c.loop-first.invariant in
    let kept = c.in_ok-found.ensures.outside ∙ h.kept in
    elim c.match-branch-3.branch [
      | in-Some+else-has_known_levels+else-write_l_over_numbers+in_ok-resolve_up_to_n1 w ↦
          let found = rw w.in-Some.is at c.in_ok-found.ensures.sequence in
          let s = borrowed_joined w.borrowed-sequence.result in
          let within : c.loop-first.first < length runs = grind (arith, c.in_ok-prepare.ensures.linked.all_next) in
          let here : begins links c.loop-first.first ≡ true = sym c.in_ok-found.ensures.begins ∙ ap is_some w.in-Some.is in
          let is : s ≡ sequence_at links runs c.loop-first.first =
          w.borrowed-sequence.ensures ∙ ap (gathered_in w.in-Some.found) w.as_slice.ensures.value ∙ found.is ∙ ap (λ (rs : List (ℕ × ℕ)). sequence_at links rs c.loop-first.first) h.kept in
          let next = prepared-next _ _ _ _ _ _ _ _ _ _ is_ready c.loop-first.first s within here is (side w.borrowed-sequence.result) in
          let line = prepared-lines _ _ _ _ _ _ _ _ _ _ is_ready c.loop-first.first s within here is in
          let weak =
          AreWeakTo-from _ _ _ _ _ _ is_ready.fits _ s line next w.write_l_over_numbers.new.classes w.resolve_weak_borrowed_counted.new.processing_classes (AreResolvedTo-same _ _ _ _ _ _ _ _ _ (w.write_l_over_numbers.ensures.unchanged w.if-write_l_over_numbers.false) h.resolved)
          w.resolve_weak_borrowed_counted.ensures.resolved.kept w.resolve_weak_borrowed_counted.ensures.resolved.in_place in
          record {
            kept = kept;
            resolved = rw (w.classes-is, prepared-more _ _ _ _ _ _ _ _ _ _ is_ready c.loop-first.first s within here is)
                (AreResolvedTo-more _ _ _ _ _ _ is_ready.fits _ s line next _ w.resolve_up_to_n1.new.processing_classes c.args.paragraph.now.original_classes.now _
                c.args.paragraph.now.stored is_ready.levels_is weak w.in_ok-resolve_up_to_n1.ensures.resolved.kept w.in_ok-resolve_up_to_n1.ensures.resolved.in_place);
          }
      | in_default w ↦
          let other : begins links c.loop-first.first ≡ false = sym c.in_ok-found.ensures.begins ∙ ap is_some w.in_default.is in
          record { kept = kept; resolved = rw (w.classes-is, prepared-same _ _ _ _ _ _ _ _ _ _ is_ready c.loop-first.first other) h.resolved }
    ]

pub resolve_levels-requires : goal.resolve_levels-requires
resolve_levels-requires g c =
    let is_ready = ready g (goal.at.resolve_levels-requires g c).In_ok-prepare in record {
      same_len = omega (arith, prepared-long _ _ _ _ _ _ _ _ _ _ is_ready, AreResolvedTo-long _ _ _ _ _ _ _ _ is_ready.fits c.loop-first.invariant.resolved);
      explicit = prepared-low _ _ _ _ _ _ _ _ _ _ is_ready c.args.paragraph.now.low;
    }

pub returns : goal.returns
returns g c =
    let runs = linked_runs c.prepare.new.self.links c.prepare.new.self.runs.items in
    let all : c.loop-first.first ≡ length runs = grind (arith, c.in_ok-prepare.ensures.linked.all_next) in
    let levels = AreLevels-from _ _ _ _ _ _ _ _ _ _ (ready g (goal.at.returns g c).In_ok-prepare) _ _ _ all c.loop-first.invariant.resolved c.resolve_levels.ensures.levels in
    record { per_char = levels.even; resolved = levels.resolved }
