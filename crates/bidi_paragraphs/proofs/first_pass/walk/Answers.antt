use Rattle.bidi_base.proofs.Common.{not, ◌≡◌, ◌∙◌, ◌+◌, ℕ, ◌<◌, List, ◌⊎◌, inl, inr, length, true, refl, sym, ap, subst, arith, common_steps, is_none, cases_Bool, unit_index, with_items_is}
use Rattle.bidi_base.proofs.UnitIndexLemmas.{is_boundary-unit_index, unit_index-end}
use Rattle.bidi_paragraphs.specs.declared.first_pass.paragraph_state.ParagraphState.{ParagraphState}
use Rattle.bidi_paragraphs.proofs.TextRead.{seen, same_range, open_within, depth-le, drawn-is, IsTextRead-more, IsTextRead-stop_counting, IsTextDone-close, IsRead}
use Rattle.bidi_paragraphs.proofs.TextRead.{IsRead-start, IsRead-on, IsRead-stop, IsRead-last, IsRead-none, IsTextDone-none, IsAnswer, IsTextDone-answer}
use Rattle.bidi_paragraphs.proofs.ParagraphLaws.{AreParagraphs-found}
use Rattle.bidi_paragraphs.proofs.WalkSteps.{IsAt, IsAt-stop, IsRead-end}
use Rattle.bidi_paragraphs.proofs.first_pass.walk.Goals as goal
use Rattle.bidi_paragraphs.proofs.first_pass.walk.Goals.{In-Some, then-is_none+in_ok-close, then-is_none-via-then-is_none, then-is_none-via-else-is_none+then-walk-end, else-is_none+else-walk-end}
use Rattle.bidi_paragraphs.proofs.first_pass.walk.Given.{Over}

pub loop-stop-init : goal.loop-stop-init
loop-stop-init g c = (
  record {
    index = 0;
    within = omega arith;
    here = refl;
    read = IsRead-start _ _ _ c.args.rule c.args.base_level _ c.new-walk.result.state c.requires c.new-walk.ensures.paragraphs c.new-walk.ensures.flags c.new-walk.ensures.state;
  },
  c.new-walk.ensures.base,
)

pub next_stop-requires : goal.next_stop-requires
next_stop-requires g c = record {
  sized = grind arith;
  begins = grind (arith, is_boundary-unit_index);
}

-- the character at which the search stopped
met_at : (g : Over) (c : In-Some g)
    → IsAt (g.D.BidiDataSource.source c.args.data_source.now) g.T.TextSource.encoding.len_of (g.T.TextSource.text c.args.text).chars c.args.rule c.args.base_level c.in-Some.stop (seen c.next_stop.new.classes c.loop-stop.walk) c.next_stop.new.state
met_at g c =
    subst (λ (r : ParagraphState). IsAt (g.D.BidiDataSource.source c.args.data_source.now) g.T.TextSource.encoding.len_of (g.T.TextSource.text c.args.text).chars c.args.rule c.args.base_level c.in-Some.stop (seen c.next_stop.new.classes c.loop-stop.walk) r) (sym c.next_stop.ensures.outside)
    (IsAt-stop _ _ _ g.T.TextSource.encoding.positive _ _ _ _ _ _ c.loop-stop.invariant.0 c.next_stop.auto.classes c.in-Some.stop c.next_stop.new.state.flags c.in-Some.ensures.stop)

pub overflow_add-at : goal.overflow_add-at
overflow_add-at g c = omega (arith, (met_at g (goal.at.overflow_add-at g c).In-Some).turn.fits, c.well_formed, c.requires, c.in-Some.ensures.stop.long)

pub read_stop-requires : goal.read_stop-requires
read_stop-requires g c =
    let units = g.T.TextSource.encoding.positive in
    let m = met_at g (goal.at.read_stop-requires g c).In-Some in
    record {
      within = open_within _ _ _ units _ _ _ _ _ _ m.turn.within m.read.read;
      few = omega (arith, depth-le _ _ _ units _ _ _ _ _ _ m.turn.within m.read.read, m.turn.fits, c.well_formed, c.requires, m.turn.at_place, units c.in-Some.stop.c);
      follows = grind (arith, common_steps);
    }

pub loop-stop-smaller : goal.loop-stop-smaller
loop-stop-smaller g c =
    let w = (met_at g (goal.at.loop-stop-smaller g c).In-Some).turn in
    omega (arith, w.fits, g.T.TextSource.encoding.positive c.in-Some.stop.c, c.in-Some.ensures.stop.long, c.in-Some.ensures.stop.begins, c.loop-stop.invariant.0.read.read.sized, c.loop-stop.auto.classes)

pub loop-stop-preserved : goal.loop-stop-preserved
loop-stop-preserved g c =
    let m = met_at g (goal.at.loop-stop-preserved g c).In-Some in
    let w = m.turn in
    let n : ℕ = m.index in
    let start = c.in-Some.stop.start in
    let to : ℕ = start + c.in-Some.stop.len in
    let end : to ≡ unit_index g.T.TextSource.encoding.len_of (g.T.TextSource.text c.args.text).chars (n + 1) = omega (arith, w.after, c.in-Some.ensures.stop.long) in
    let drawn = drawn-is _ _ _ g.T.TextSource.encoding.positive _ n _ _ _ _ w.within m.read.read _ w.is_char _ m.class _ start w.at_place m.written in
    let more = IsTextRead-more _ _ _ g.T.TextSource.encoding.positive _ n _ _ _ _ w.within m.read.read _ w.is_char _ m.class _ drawn refl (record { start = start; end = to }) in
    let range_is = same_range start _ to _ w.at_place end in
    let ends_is = c.ends_paragraph-ends.ensures (n + 1) end in
    let longer = seen c.read_stop.new.classes c.loop-stop.walk in
    let new = seen c.read_stop.new.classes c.read_stop.new.self in
    let read : IsRead _ _ _ c.args.rule c.args.base_level (n + 1) new c.read_stop.new.self.state = elim (cases_Bool c.ends_paragraph-ends.result) [
      | inl stop ↦
          let ended = c.in_ok-read_stop.ensures.ended stop in
          let r = ended.1.0 in
          let done = more longer r range_is c.in_ok-read_stop.ensures.classes c.read_stop.auto.classes refl refl ended.1.1 in
          IsRead-stop _ _ _ _ _ n _ _ _ new _ m.read w.next
          (IsTextDone-close _ _ _ _ (n + 1) _ _ longer r done new to end refl (rw c.loop-stop.invariant.1 at ended.1.2)) (rw end at ended.0) (sym ends_is ∙ stop)
      | inr on ↦
          let kept = c.in_ok-read_stop.ensures.on on in
          let counted = more new kept.0.0 range_is c.in_ok-read_stop.ensures.classes c.read_stop.auto.classes kept.1 kept.2 kept.0.1 in
          IsRead-on _ _ _ _ _ n _ _ _ new _ m.read w.next
          (IsTextRead-stop_counting _ _ _ _ (n + 1) _ _ new kept.0.0 _ counted kept.0.2) (sym ends_is ∙ on)
    ] in (
      record { index = n + 1; within = omega (arith, w.within); here = end; read = read },
      c.read_stop.ensures.base ∙ c.loop-stop.invariant.1,
    )

pub close-requires : goal.close-requires
close-requires g c = grind arith

pub returns : goal.returns
returns g c =
    let rule = c.args.rule in
    let old = seen c.next_stop.new.classes c.loop-stop.walk in
    let cs : List ℕ = (g.T.TextSource.text c.args.text).chars in
    let n : ℕ = length cs in
    let kept = IsRead-end _ _ _ g.T.TextSource.encoding.positive _ _ _ _ _ _ c.loop-stop.invariant.0 c.next_stop.auto.classes c.next_stop.new.state.flags c.in_default.ensures.stop in
    let h = subst (λ (r : ParagraphState). IsRead (g.D.BidiDataSource.source c.args.data_source.now) g.T.TextSource.encoding.len_of cs rule c.args.base_level n old r) (sym c.next_stop.ensures.outside) kept in
    let end : c.len-end.result ≡ unit_index g.T.TextSource.encoding.len_of cs n = c.len-end.ensures ∙ sym (unit_index-end _ cs n (omega arith)) in
    let a : IsAnswer (g.D.BidiDataSource.source c.args.data_source.now) g.T.TextSource.encoding.len_of cs rule c.args.base_level (seen c.next_stop.new.classes c.if-is_none.walk) =
    elim c.if-is_none.branch [
      | then-is_none+in_ok-close w ↦
          let rest : (is_none rule ≡ true) ⊎ (c.next_stop.new.state.start < unit_index g.T.TextSource.encoding.len_of cs n) = elim w.then-is_none.branch [
            | then-is_none-via-then-is_none v ↦ inl (ap not (c.is_none.ensures ∙ ap not v.if-is_none.true))
            | then-is_none-via-else-is_none+then-walk-end v ↦ inr (omega (arith, v.if-walk-end.true, end))
          ] in
          let new = seen c.next_stop.new.classes w.close.new.self in
          rw w.walk-is (IsTextDone-answer _ _ _ rule _ n _ new refl (IsRead-last _ _ _ g.T.TextSource.encoding.positive _ n old _ refl rule h rest)
          (IsTextDone-close _ _ _ _ n _ _ old _ h.read new c.len-end.result end refl (rw c.loop-stop.invariant.1 at w.in_ok-close.ensures.closed)))
      | else-is_none+else-walk-end w ↦
          let none = IsRead-none _ _ _ g.T.TextSource.encoding.positive _ n old _ refl rule h (ap not (c.is_none.ensures ∙ ap not w.if-is_none.false)) (omega (arith, w.if-walk-end.false, end)) in
          rw w.walk-is (IsTextDone-answer _ _ _ rule _ n _ old refl none.1 (IsTextDone-none _ _ _ _ n _ _ old _ none.0 h.read))
    ] in
    record {
      paragraphs = AreParagraphs-found _ c.args.base_level rule _ g.T.TextSource.encoding.positive _ _ _ _ (grind (arith, with_items_is, a)) a.ranges a.levels;
      flags = a.flags;
    }
