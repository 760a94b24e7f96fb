-- Each sequence is copied.
use Rattle.bidi_base.proofs.Common.{◌≡◌, ◌∙◌, true, false, is_some, List, ℕ, Range, length, map, length-map, sym, ap, arith, bounds}
use Rattle.bidi_base.proofs.UnitsLemmas.{length-from_is_per_char}
use Rattle.bidi_text.proofs.PerCharTests.{class_eq, class_test, level_eq, level_test}
use Rattle.bidi_explicit.specs.Gathered.{gathered_in}
use Rattle.bidi_explicit.specs.Links.{begins, sequence_at, linked_sequences}
use Rattle.bidi_explicit.specs.RunSequence.{joined, borrowed_joined}
use Rattle.bidi_explicit.proofs.JoinedSequences.{copied-more, copied-all, sequences_in-joined, run_bounds-joined, AreLines-joined}
use Rattle.bidi_explicit.proofs.LinkedSequences.{sequences_before-same}
use Rattle.bidi_explicit.proofs.prepare.joining.isolating_run_sequences.Goals as goal
use Rattle.bidi_explicit.proofs.prepare.joining.isolating_run_sequences.Goals.{in-Some+in_ok-copied+in_ok-push, in_default}

pub invariant_of-leveled : goal.invariant_of-leveled
invariant_of-leveled g c =
    let e = g.T.TextSource.encoding in
    record {
      class_each = length-from_is_per_char class_eq class_test e.len_of e.positive _ _ c.requires.original;
      level_each = length-from_is_per_char level_eq level_test e.len_of e.positive _ _ c.requires.levels;
    }

pub loop-first-preserved : goal.loop-first-preserved
loop-first-preserved g c =
    let links = c.link.new.self in
    let runs = map bounds c.args.runs.items in
    let first = c.loop-first.first in
    let h = c.loop-first.invariant in
    let kept = c.in_ok-sequence.ensures.outside ∙ h.kept in
    elim c.match-branch-3.branch [
      | in-Some+in_ok-copied+in_ok-push w ↦
          let here : begins links first ≡ true = sym c.in_ok-sequence.ensures.begins ∙ ap is_some w.in-Some.is in
          let found = rw w.in-Some.is at c.in_ok-sequence.ensures.sequence in
          let is : borrowed_joined w.borrowed-borrowed.result ≡ sequence_at links runs first =
          w.borrowed-borrowed.ensures ∙ ap (gathered_in w.in-Some.sequence) w.as_slice-in-Some.ensures.value ∙ found.is ∙ ap (λ (rs : List (ℕ × ℕ)). sequence_at links rs first) h.kept in
          record {
            kept = kept;
            copied = rw (w.out-is, w.in_ok-push.ensures.items) (copied-more links runs first c.loop-first.out.items _ h.copied here (w.in_ok-copied.ensures ∙ is));
          }
      | in_default w ↦
          let other : begins links first ≡ false = sym c.in_ok-sequence.ensures.begins ∙ ap is_some w.in_default.is in
          record { kept = kept; copied = rw w.out-is (h.copied ∙ sym (sequences_before-same links runs first other)) }
    ]

pub returns : goal.returns
returns g c =
    let len = g.T.TextSource.encoding.len_of in
    let cs = (g.T.TextSource.text c.args.text).chars in
    let links = c.link.new.self in
    let runs : List (Range ℕ) = c.args.runs.items in
    let out = c.loop-first.out.items in
    let same_runs = c.as_slice.ensures.value in
    let linked = rw same_runs at c.in_ok-link.ensures.linked in
    let end : c.loop-first.first ≡ length runs = grind (arith, length-map runs bounds, linked.all_next) in
    let all : map joined out ≡ linked_sequences links (map bounds runs) = copied-all links runs c.loop-first.first out c.loop-first.invariant.copied end in
    let same = sequences_in-joined out (linked_sequences links (map bounds runs)) all len cs _ in
    record {
      sequences = same ∙ (rw same_runs at c.in_ok-link.ensures.sequences);
      explicit = λ levels. same ∙ (rw same_runs at c.in_ok-link.ensures.explicit) levels;
      runs = rw (run_bounds-joined out (linked_sequences links (map bounds runs)) all) (rw same_runs at c.in_ok-link.ensures.runs);
      are_lines = AreLines-joined out (linked_sequences links (map bounds runs)) all len cs (rw same_runs at c.in_ok-link.ensures.are_lines);
    }
