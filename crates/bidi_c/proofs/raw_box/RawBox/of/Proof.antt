-- `of` calls `into_raw_with_allocator`, and puts its two results together.
use Rattle.std.proofs.Common.{◌≡◌, List, [], ◌∷◌, ◌++◌, refl, sym, ap, subst}
use mir.Syntax.{a_type, dcons, dnil}
use mir.Val.{Val}
use mir.MapTy.{inst_fn}
use base.Logic.{SProp, ent, id⊢}
use base.Fml.{ftrue, flft}
use prog.Wp.{WpFn}
use types.Kit.{‵, raw, ◌⊛◌, some, later, ◌$◌, ◌∵◌, !, qed, move, drop, split, split3, join, fsplit, fjoin, pick, suffices, use1, await, rewrite, done}
use types.Run.{stop, fld, of_opd, no_more, and_then, returns, enter}
use types.ByLocal.{alloc_all, pass_all, free_all, look_at, get, get_in, sets, lands_as}
use types.Part.{agg, sub, whole}
use contract.Monad.{fact}
use contract.Running.{tables}
use denote.Builtin.{RawPtr}
use denote.Exit.{no}
use denote.RattleType.{RattleType, owns}
use denote.Signature.{types_at, plain}
use denote.RawPtr.{Ptr}
use denote.Steps.{nothing, heard, only}
use denote.Param.{param, layout, bounded}
use denote.Param.Laws.{param_laws}
use denote.Struct.Tuple.{Tuple}
use denote.Triple.Clauses.{Lasts, lasts}
use denote.Triple.Spec.{triple_of}
use denote.Triple.Call.{calls_at}
use denote.Triple.Walked.{Stays, stay_dropped, walk_of, says, ends_at}
use Rattle.core.proofs.alloc.Calls.{Goes-blank}
use Rattle.core.proofs.atomic.Steps.{Ptr-Good, fm}
use Rattle.core.proofs.cell.Inside.{one}
use Rattle.std.proofs.raw_atomic.Walks.{proved_at}
use Rattle.std_alloc.specs.Box.Ownership.{box_owns}
use Rattle.std_alloc.specs.contracts.boxed.Box as box
use Rattle.std_alloc.proofs.boxed.Box.TheLaws as box_laws
use Rattle.std_alloc.specs.contracts.boxed.Box.into_raw_with_allocator as callee
use Rattle.std_alloc.proofs.boxed.Box.into_raw_with_allocator.Met.{met}
use Rattle.bidi_c.specs.contracts.raw_box.RawBox.of as f
use Rattle.bidi_c.proofs.raw_box.RawBox.of.Statement.{statement}
use Rattle.bidi_c.proofs.raw_box.RawBox.of.Code as code
use Rattle.bidi_c.proofs.PointerWords.{pair, pair_good, opens_pair, makes_raw}

pub of_spec : {M : Type 1} → statement M
of_spec 𝓤 𝓛 𝓜 𝓡 wired T A L LA g d t-drop a-drop allocator t-glue a-glue =
    let 𝓣 = tables 𝓤 𝓛.H 𝓜 𝓡 𝓡.env in let R : RattleType = param 0 T in let Z : RattleType = param 1 A in let LR = param_laws 0 T L in let LZ = param_laws 1 A LA in
    let B : RattleType = box.the_row R Z g in let LB = box_laws.the_row_laws R Z g LR LZ in
    let En = f.ended T A g d t-drop a-drop in let c = f.clauses T A g d t-drop a-drop 𝓛 𝓜.mem 𝓡.returns in
    let inst = bounded (a_type ∷ a_type ∷ []) (T, (A, tt)) (dcons d (dcons t-drop (dcons a-drop dnil))) in let fn = inst_fn inst code.function in
    let hs : Stays En.signature.params En.kept = (stay_dropped (plain (λ _. B)) no, tt) in
    let k = triple_of 𝓛 (callee.signature T A g d a-drop t-drop) (callee.spec T A g d a-drop t-drop 𝓛 𝓜.mem 𝓡.returns) in
    proved_at 𝓛 En hs c 𝓜 𝓡 (Goes-blank 𝓛 2 (plain (λ _. B)) no (λ κs x w. tt), tt) (f.Key.name inst) fn (code.unfolded 𝓤 𝓛.H 𝓜 𝓡 wired (T, (A, tt)) d t-drop a-drop) (λ y are.
    let κs = y.0.0 in let qs = y.0.1 in let v = y.0.3.0 in let Run : List Val → SProp 𝓤 = λ ws. WpFn 𝓤 𝓛.H 𝓣.C 𝓣.Λ fn ws ((walk_of 𝓛 En hs c).post y) in
    let toks = ‵ (flft κs.0 qs.0) ⊛ ‵ (flft κs.1.0 qs.1.0) ⊛ ‵ ftrue in let w = one (layout B) y.0.4.0 ((LB.lawful 𝓛).typed v y.0.4.0 are.0) in
    let z : k.Ghost = ((κs, qs, tt, (v, tt), (w.0 ∷ [], tt)), tt) in
    qed 𝓛 ((toks ⊛ ‵ (owns (types_at En.signature.params κs) y.0.3 y.0.4)) ∷ raw ((c κs y.0.3).requires y.1) ∷ []) ∵
    split ! $ move ! (1 ∷ []) $ fsplit ! $ rewrite ! 0 (λ (us : List Val). ‵ (B.own_val v us)) w.1 refl $ fjoin ! $ move ! (1 ∷ 0 ∷ []) $ join ! $ join ! $ use1 𝓛 (raw (k.pre z)) (id⊢ 𝓤 _) $
    suffices ! (Run (w.0 ∷ [])) (subst (λ (us : List Val). ent 𝓤 (Run (w.0 ∷ [])) (Run us)) (sym (λ i. w.1 i ++ [])) (id⊢ 𝓤 (Run (w.0 ∷ [])))) $
    enter ! _ _ _ _ _ $ alloc_all ! (λ l. pass_all ! refl (w.2, tt) $ sets ! (of_opd ! (get ! refl)) refl w.2 $
    calls_at ! (fm 𝓛 𝓜 𝓡) k (met 𝓤 𝓛 𝓜 𝓡 (code.calls-std_alloc::boxed::Box::into_raw_with_allocator 𝓡.env wired) T A L LA g d a-drop t-drop allocator a-glue t-glue) z (and_then ! (get ! refl) (no_more !)) (λ u.
    use1 𝓛 (later (some (λ (r : Ptr × A.Denot). (toks ⊛ ‵ ((Tuple (RawPtr ∷ Z ∷ [])).own_val r (u ∷ []))) ⊛ some (λ (ls : Lasts (callee.ended T A g d a-drop t-drop) κs z.0.3).
    ‵ (lasts (callee.ended T A g d a-drop t-drop) κs z.0.3 ls) ⊛ (raw (fact 𝓤 (r.1 ≡ v.alloc)) ⊛ ‵ (box_owns (g.dealloc_token v.alloc) R r.0 v.value)))))) (id⊢ 𝓤 (k.post z u)) $
    await ! tt $ pick ! (λ r. let p = r.0 in let a = r.1 in split ! $ move ! (1 ∷ []) $ pick ! (λ _. split3 ! $ drop ! $ heard ! (a ≡ v.alloc) (λ same.
    rewrite ! 0 (λ (b : A.Denot). ‵ (box_owns (g.dealloc_token b) R p v.value)) (sym same) refl $ move ! (1 ∷ []) $ split ! $ move ! (1 ∷ []) $
    opens_pair Z LZ ! p a (u ∷ []) (λ h is fits. move ! (2 ∷ []) $ let typed = pair_good (layout Z) p h fits in
    lands_as ! (ap only is) refl typed $
    sets ! (of_opd ! (get_in ! (fld ! refl (stop !)) (sub ! 0 refl (whole !)))) refl (Ptr-Good p) $
    sets ! (of_opd ! (get_in ! (fld ! refl (stop !)) (sub ! 1 refl (whole !)))) refl fits $
    sets ! (of_opd ! (get ! refl)) refl fits $
    sets ! (agg ! (and_then ! (get ! refl) (and_then ! (get ! refl) (no_more !)))) refl typed $
    returns ! (look_at ! 0 refl) $ free_all ! refl $ makes_raw R Z LZ g ! p h a v.value $
    suffices ! _ (ends_at 𝓛 En hs c y (pair p h) (record { at = p; alloc = a; value = v.value }) ((tt, (tt, tt)), tt) (tt, tt)) $ says ! refl $ nothing ! $ nothing ! $ join ! $ move ! (2 ∷ []) $ done !)))))))
