-- The machine values of an `AnalyserHandle` and of a `RawBox`, and steps of a proof by hand that make one or take it apart.
-- Assumes `Logic`.
--     word p, pair p h              a struct of the pointer p alone, and of p and an allocator whose machine value is h
--     word_good, pair_good          they have their types
--     makes_handle, opens_handle    from what is held at the pointer to the handle, and back
--     makes_raw, opens_raw          from the value, with the right to free its memory, and the allocator to the raw box, and back
--     opens_pair                    a tuple of a pointer and an allocator is taken apart
--     either_held                   the two cases of what is held: nothing, at null; a value, at an address that may be compared with null
use Rattle.std.proofs.Common.{◌≡◌, ℕ, Bool, true, false, ◌&&◌, List, [], ◌∷◌, ◌++◌, refl, ap, ◌∙◌}
use lib.Dec.{T}
use seplogic.Ra.Ura.{Ura}
use mir.Syntax.{Ty, ty_ptr}
use mir.Raw.{raw as bare}
use mir.Val.{Val, vstruct, vcons, vnil, of_list, has_ty, WT}
use base.Logic.{never, fst∗, guard_i}
use base.Fml.{Fml}
use types.Logic.{Logic, sem}
use types.Kit.{Item, Goal, Seq, Step, step, ‵, given, learn, use1, ◌$◌, rewrite, move, drop, fsplit, fjoin, fpick, fpack, feq_i, feq_l}
use contract.Monad.{fact_use}
use denote.RattleType.{RattleType, Valss}
use denote.Builtin.{RawPtr}
use denote.Param.{param, layout}
use denote.Param.Laws.{Laws, param_laws}
use denote.Memory.{lone}
use denote.RawPtr.{Ptr, null_ptr, block_ptr, ptr_val, in_a_block, Testable}
use denote.Laws.{Is, shows}
use denote.Steps.{nothing, peeks}
use denote.Struct.Struct.{within}
use denote.Struct.Owning.{shape}
use denote.Struct.Tuple.{Tuple}
use Rattle.core.specs.declared.alloc.Allocator.{Ghosts}
use Rattle.core.proofs.atomic.Steps.{Ptr-Good}
use Rattle.core.proofs.cell.Inside.{Good, one}
use Rattle.std.specs.declared.alloc.Global.{Global}
use Rattle.std.specs.declared.option.Option.{Option}
use Rattle.std.specs.declared.option.Option.TheVariants.{None, Some}
use Rattle.std.specs.contracts.impls.GlobalAllocator.TheImpl.{ghosts}
use Rattle.std.proofs.GlobalToken.{dealloc_token-Testable}
use Rattle.std_alloc.specs.Box.Ownership.{box_owns}
use Rattle.bidi_c.specs.Held.{held_at}
use Rattle.bidi_calls.specs.declared.kept.KeptAnalyser.{KeptAnalyser}
use Rattle.bidi_calls.specs.contracts.kept.KeptAnalyser as kept
use Rattle.bidi_c.specs.contracts.analyser_handle.AnalyserHandle as handle
use Rattle.bidi_c.specs.contracts.raw_box.RawBox as raw_box

abbrev pub word : Ptr → Val
word p = vstruct (vcons (ptr_val p) vnil)

abbrev pub pair : Ptr → Val → Val
pair p h = vstruct (vcons (ptr_val p) (vcons h vnil))

pub and_true : (x y : Bool) → T x → T y → T (x && y)
and_true true y a b = b
and_true false y a b = absurd a

pub word_good : (p : Ptr) → T (has_ty ty_ptr (ptr_val p) && true) × WT (word p)
word_good p = let good = Ptr-Good p in (and_true (has_ty ty_ptr (ptr_val p)) true good.0 tt, (good.1, tt))

pub pair_good : (τ : Ty) (p : Ptr) (h : Val) → Good τ h → T (has_ty ty_ptr (ptr_val p) && (has_ty τ h && true)) × WT (pair p h)
pair_good τ p h fits = let good = Ptr-Good p in
    (and_true (has_ty ty_ptr (ptr_val p)) (has_ty τ h && true) good.0 (and_true (has_ty τ h) true fits.0 tt), (good.1, (fits.1, tt)))

module _ {M : Type 1} {𝓤 : Ura M} {𝓛 : Logic 𝓤} {K : Type 0} {Γ : List (Item 𝓤)} {G : Goal 𝓤 𝓛.H} where
  pub makes_handle : K → (p : Ptr) (x : Option KeptAnalyser)
      → Step K 𝓛 (‵ (handle.the_row.own_val (record { at = p; value = x }) (word p ∷ [])) ∷ Γ) G (‵ (held_at kept.the_row p x) ∷ Γ) G
  makes_handle t p x = step (λ s. nothing t $ feq_i t (List Val) (ptr_val p ∷ []) (ptr_val p ∷ []) refl $ fjoin t $ feq_i t (List Val) (word p ∷ []) (word p ∷ []) refl $ fjoin t $
      fpack t (Valss (RawPtr ∷ [])) (within (shape handle.the_type) (p, tt) (word p ∷ [])) (ptr_val p ∷ [], tt) $ fjoin t $ s)

  pub opens_handle : K → (h : handle.the_row.Denot) (vs : List Val) → (vs ≡ word h.at ∷ [] → Seq K 𝓛 (‵ (held_at kept.the_row h.at h.value) ∷ Γ) G)
      → Seq K 𝓛 (‵ (handle.the_row.own_val h vs) ∷ Γ) G
  opens_handle t h vs k = fsplit t $ fpick t (λ vss. fsplit t $ feq_l t (λ e. fsplit t $ feq_l t (λ at_is. drop t $ k (e ∙ ap (λ (ps : List Val). vstruct (of_list (ps ++ [])) ∷ []) at_is))))

module _ (Z : RattleType) (L : Laws Z) {M : Type 1} {𝓤 : Ura M} {𝓛 : Logic 𝓤} {K : Type 0} {Γ : List (Item 𝓤)} {G : Goal 𝓤 𝓛.H} where
  pub opens_pair : K → (p : Ptr) (a : Z.Denot) (vs : List Val) → ((h : Val) → vs ≡ pair p h ∷ [] → Good (layout Z) h → Seq K 𝓛 (‵ (Z.own_val a (h ∷ [])) ∷ Γ) G)
      → Seq K 𝓛 (‵ ((Tuple (RawPtr ∷ Z ∷ [])).own_val (p, a) vs) ∷ Γ) G
  opens_pair t p a vs k = fpick t (λ vss. fsplit t $ feq_l t (λ e. fsplit t $ feq_l t (λ at_is. fsplit t $ move t (1 ∷ []) $ drop t $ peeks t (param 0 Z) (Is (param 0 Z)) (shows 𝓛 (param 0 Z)) a vss.1.0 (λ it.
      let v = one (layout Z) vss.1.0 ((((param_laws 0 Z L).lawful 𝓛).typed a vss.1.0 it)) in rewrite t 0 (λ (us : List Val). ‵ (Z.own_val a us)) v.1 refl $ k v.0 (e ∙ (λ i. vstruct (of_list (at_is i ++ (v.1 i ++ []))) ∷ [])) v.2))))

module _ (R Z : RattleType) (L : Laws Z) (g : Ghosts Z.Denot) where
  abbrev pub Raw : RattleType
  Raw = raw_box.the_row R Z g

  module _ {M : Type 1} {𝓤 : Ura M} {𝓛 : Logic 𝓤} {K : Type 0} {Γ : List (Item 𝓤)} {G : Goal 𝓤 𝓛.H} where
    pub opens_raw : K → (d : Raw.Denot) (vs : List Val)
        → ((h : Val) → vs ≡ pair d.at h ∷ [] → Good (layout Z) h → Seq K 𝓛 (‵ (box_owns (g.dealloc_token d.alloc) R d.at d.value) ∷ ‵ (Z.own_val d.alloc (h ∷ [])) ∷ Γ) G)
        → Seq K 𝓛 (‵ (Raw.own_val d vs) ∷ Γ) G
    opens_raw t d vs k = fsplit t $ opens_pair Z L t d.at d.alloc vs (λ h is fits. move t (1 ∷ 0 ∷ []) $ k h is fits)

    pub makes_raw : K → (p : Ptr) (h : Val) (a : Z.Denot) (x : R.Denot)
        → Step K 𝓛 (‵ (Raw.own_val (record { at = p; alloc = a; value = x }) (pair p h ∷ [])) ∷ Γ) G (‵ (box_owns (g.dealloc_token a) R p x) ∷ ‵ (Z.own_val a (h ∷ [])) ∷ Γ) G
    makes_raw t p h a x = step (λ s. nothing t $ move t (2 ∷ 0 ∷ []) $ fjoin t $ feq_i t (List Val) (ptr_val p ∷ []) (ptr_val p ∷ []) refl $ fjoin t $ feq_i t (List Val) (pair p h ∷ []) (pair p h ∷ []) refl $ fjoin t $
        fpack t (Valss (RawPtr ∷ Z ∷ [])) (within (shape (raw_box.the_type R Z g)) (p, (a, tt)) (pair p h ∷ [])) (ptr_val p ∷ [], (h ∷ [], tt)) $ fjoin t $ s)

module _ (R : RattleType) {M : Type 1} {𝓤 : Ura M} {𝓛 : Logic 𝓤} {K : Type 0} {Γ : List (Item 𝓤)} {G : Goal 𝓤 𝓛.H} where
  pub either_held : K → (p : Ptr) (x : Option R.Denot) → (p ≡ null_ptr → x ≡ None → Seq K 𝓛 Γ G)
      → ((b o : ℕ) (z : R.Denot) (heap : Global) → p ≡ block_ptr b o → x ≡ Some z → Testable (block_ptr b o) → Seq K 𝓛 (‵ (box_owns (ghosts.dealloc_token heap) R (block_ptr b o) z) ∷ Γ) G)
      → Seq K 𝓛 (‵ (held_at R p x) ∷ Γ) G
  either_held t p None none some = fpick t (λ null. drop t $ none null refl)
  either_held t p (Some z) none some = fpick t (λ heap. let token : Ptr → Fml = ghosts.dealloc_token heap (bare (lone R.mir)) in
      in_a_block t p (λ q. box_owns (ghosts.dealloc_token heap) R q z) (fst∗ 𝓤 (never 𝓤) (sem 𝓛 (token null_ptr))) (λ b o e. let q = block_ptr b o in fsplit t $ move t (1 ∷ []) $
      use1 𝓛 (given (Testable q) (‵ (token q))) (fact_use 𝓤 (Testable q) (dealloc_token-Testable 𝓛 heap (bare (lone R.mir)) q) (guard_i 𝓤 (Testable q) (sem 𝓛 (token q)))) $ learn t (λ test.
      move t (1 ∷ 0 ∷ []) $ fjoin t $ some b o z heap e refl test)))
