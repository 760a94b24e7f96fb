-- `into_raw_box` tests the pointer.
use Rattle.std.proofs.Common.{List, [], ◌∷◌, ◌++◌, refl, true, ap, subst, sym, ◌∙◌, lit<}
use mir.Val.{Val, vcons, vnil, has_ty}
use base.Logic.{SProp, ent, id⊢}
use prog.Wp.{WpFn}
use types.Kit.{‵, raw, ◌⊛◌, at_ret, ◌$◌, ◌∵◌, !, qed, join, keep, move, fsplit, split, suffices, use0, use1, rewrite, done}
use types.Run.{stop, fld, of_opd, bin, lit, first, branches, exec, no_more, and_then, returns, enter}
use types.ByLocal.{alloc_all, free_all, pass_all, look_at, get, get_in, sets, sets_last, env}
use types.Part.{agg, sub, whole}
use types.Match.{live}
use contract.Running.{tables}
use denote.Exit.{yes}
use denote.RattleType.{owns}
use denote.Param.{layout}
use denote.RawPtr.{Ptr, null_ptr, block_ptr, tests_null}
use denote.Signature.{types_at, type_at, plain}
use denote.Steps.{nothing}
use denote.Triple.Entry.{alive}
use denote.Triple.Walked.{Stays, stay_dropped, Goes-dropped, walk_of, says, ends_at}
use Rattle.core.proofs.alloc.Shapes.{after}
use Rattle.core.proofs.atomic.Steps.{Ptr-Good}
use Rattle.core.proofs.cell.Inside.{one, Good}
use Rattle.core.proofs.option.Made.{Some-of, none_of}
use Rattle.std.specs.declared.option.Option.TheVariants.{None, Some}
use Rattle.std.specs.contracts.alloc.Global as heap
use Rattle.std.specs.contracts.impls.GlobalAllocator.TheImpl.{ghosts}
use Rattle.std.proofs.alloc.Global.TheLaws as heap_laws
use Rattle.std.proofs.raw_atomic.Walks.{proved_at}
use Rattle.bidi_calls.specs.contracts.kept.KeptAnalyser as kept
use Rattle.bidi_c.specs.contracts.analyser_handle.AnalyserHandle as handle
use Rattle.bidi_c.specs.contracts.analyser_handle.AnalyserHandle.into_raw_box as f
use Rattle.bidi_c.proofs.analyser_handle.AnalyserHandle.into_raw_box.Statement.{statement}
use Rattle.bidi_c.proofs.analyser_handle.AnalyserHandle.into_raw_box.Code as code
use Rattle.bidi_c.proofs.PointerWords.{and_true, word, pair, word_good, pair_good, Raw, opens_handle, makes_raw, either_held}

pub into_raw_box_spec : {M : Type 1} → statement M
into_raw_box_spec 𝓤 𝓛 𝓜 𝓡 wired =
    let c = f.clauses 𝓛 𝓜.mem 𝓡.returns in let 𝓣 = tables 𝓤 𝓛.H 𝓜 𝓡 𝓡.env in let H = handle.the_row in let Z = heap.the_row in let LZ = heap_laws.the_row_laws in
    let R = Raw kept.the_row Z LZ ghosts in let hs : Stays f.ended.signature.params f.ended.kept = (stay_dropped (plain (λ _. H)) yes, (stay_dropped (plain (λ _. Z)) yes, tt)) in
    proved_at 𝓛 f.ended hs c 𝓜 𝓡 (Goes-dropped 𝓛 0 (plain (λ _. H)) yes (λ κs x w. refl), (Goes-dropped 𝓛 0 (plain (λ _. Z)) yes (λ κs x w. refl), tt)) f.Key.name code.function (code.unfolded 𝓤 𝓛.H 𝓜 𝓡 wired) (λ y are.
    let h = y.0.3.0 in let a = y.0.3.1.0 in let Post : Val → SProp 𝓤 = (walk_of 𝓛 f.ended hs c).post y in let Run : List Val → SProp 𝓤 = λ ws. WpFn 𝓤 𝓛.H 𝓣.C 𝓣.Λ code.function ws Post in
    let v = one (layout Z) y.0.4.1.0 ((LZ.lawful 𝓛).typed a y.0.4.1.0 are.1.0) in
    qed 𝓛 ((raw (alive 𝓛 f.signature y.0.0 y.0.1) ⊛ ‵ (owns (types_at f.signature.params y.0.0) y.0.3 y.0.4)) ∷ raw ((c y.0.0 y.0.3).requires y.1) ∷ []) ∵
    split ! $ move ! (1 ∷ []) $ fsplit ! $ move ! (1 ∷ []) $ fsplit ! $ move ! (2 ∷ 0 ∷ []) $ opens_handle ! h y.0.4.0 (λ is. keep ! (0 ∷ 1 ∷ []) $
    either_held kept.the_row ! h.at h.value
    (λ null empty. keep ! [] $ let ws = word null_ptr ∷ v.0 ∷ [] in
    suffices ! (Run ws) (subst (λ (us : List Val). ent 𝓤 (Run ws) (Run us)) (sym (λ i. (is ∙ ap (λ (p : Ptr). word p ∷ []) null) i ++ (v.1 i ++ []))) (id⊢ 𝓤 (Run ws))) $
    enter ! _ _ _ _ _ $ alloc_all ! (λ l. pass_all ! refl (word_good null_ptr, (v.2, tt)) $ let E = env code.function.locals l in
    sets ! (of_opd ! (get_in ! (fld ! refl (stop !)) (sub ! 0 refl (whole !)))) refl (Ptr-Good null_ptr) $
    sets ! (bin ! (get ! refl) (lit ! tt) tt) refl (tt, tt) $ first ! $ branches ! (get ! refl) (λ _.
    sets_last ! (agg ! (and_then ! (lit ! tt) (no_more !))) refl (tt, (record { fits = lit< tt }, tt)) $
    exec ! 𝓣.C 𝓣.Λ E (after 3 (code.function).body) (at_ret E Post) $
    sets ! (of_opd ! (get ! refl)) refl (tt, (record { fits = lit< tt }, tt)) $
    returns ! (look_at ! 0 refl) $ free_all ! refl $ use0 𝓛 (‵ ((type_at f.signature.result y.0.0).own_val None (live 0 vnil ∷ []))) (none_of 𝓛 R) $
    suffices ! _ (ends_at 𝓛 f.ended hs c y (live 0 vnil) None (tt, (tt, tt)) (tt, (tt, tt))) $ says ! empty $
    nothing ! $ nothing ! $ join ! $ nothing ! $ join ! $ nothing ! $ done !) (λ wrong. absurd wrong)))
    (λ b o z heap' at_is full test. let p = block_ptr b o in let ws = word p ∷ v.0 ∷ [] in let typed = pair_good (layout Z) p v.0 v.2 in let r = live 1 (vcons (pair p v.0) vnil) in
    let good : Good (layout (type_at f.signature.result y.0.0)) r = (and_true (has_ty (layout R) (pair p v.0)) true typed.0 tt, (record { fits = lit< tt }, (typed.1, tt))) in
    rewrite ! 1 (λ (us : List Val). ‵ (Z.own_val a us)) v.1 refl $
    suffices ! (Run ws) (subst (λ (us : List Val). ent 𝓤 (Run ws) (Run us)) (sym (λ i. (is ∙ ap (λ (q : Ptr). word q ∷ []) at_is) i ++ (v.1 i ++ []))) (id⊢ 𝓤 (Run ws))) $
    enter ! _ _ _ _ _ $ alloc_all ! (λ l. pass_all ! refl (word_good p, (v.2, tt)) $ let E = env code.function.locals l in
    sets ! (of_opd ! (get_in ! (fld ! refl (stop !)) (sub ! 0 refl (whole !)))) refl (tt, tt) $
    sets ! (bin ! (get ! refl) (lit ! tt) (tests_null p test)) refl (tt, tt) $ first ! $ branches ! (get ! refl) (λ wrong. absurd wrong) (λ _.
    sets ! (of_opd ! (get ! refl)) refl (tt, tt) $
    sets ! (agg ! (and_then ! (get ! refl) (and_then ! (get ! refl) (no_more !)))) refl typed $
    sets_last ! (agg ! (and_then ! (lit ! tt) (and_then ! (get ! refl) (no_more !)))) refl good $
    exec ! 𝓣.C 𝓣.Λ E (after 3 (code.function).body) (at_ret E Post) $
    sets ! (of_opd ! (get ! refl)) refl good $
    returns ! (look_at ! 0 refl) $ free_all ! refl $ makes_raw kept.the_row Z LZ ghosts ! p v.0 a z $
    use1 𝓛 (‵ ((type_at f.signature.result y.0.0).own_val (Some (record { at = p; alloc = a; value = z })) (r ∷ []))) (Some-of 𝓛 R (record { at = p; alloc = a; value = z }) (pair p v.0)) $
    suffices ! _ (ends_at 𝓛 f.ended hs c y r (Some (record { at = p; alloc = a; value = z })) (tt, (tt, tt)) (tt, (tt, tt))) $ says ! full $
    nothing ! $ nothing ! $ join ! $ nothing ! $ join ! $ nothing ! $ done !)))))
