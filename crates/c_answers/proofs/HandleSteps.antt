-- The machine value of a handle, and the steps by which a walk takes one apart and makes one. Assumes `Logic`.
--     word, word_typed          the machine value of a handle at its pointer, and that it is one
--     handle_out, handle_in     a handle by value is [what it owns; its allocator]
--     either_held               what a handle owns is nothing, at null, or a box, at a block
use Rattle.std.proofs.Common.{◌≡◌, ℕ, List, [], ◌∷◌, ◌++◌, refl, subst, lit<}
use lib.Dec.{T}
use seplogic.Ra.Ura.{Ura}
use mir.Syntax.{impl, tnil, dnil, ty_struct, ty_ptr, tcons, Sym}
use mir.Raw.{raw as bare}
use mir.Val.{Val, vstruct, vcons, vnil, of_list, has_ty, WT}
use base.Logic.{SProp, ent, via, guard, guard_i, never, fst∗, snd∗}
use base.Fml.{Fml, fsep}
use types.Logic.{Logic, sem}
use types.Kit.{Item, Goal, Seq, Step, step, ‵, given, ◌$◌, move, drop, fsplit, fjoin, fpick, fpack, feq_i, feq_l, learn, use1}
use contract.Monad.{fact_use}
use denote.RattleType.{RattleType, Valss}
use denote.Builtin.{RawPtr}
use denote.Memory.{lone}
use denote.RawPtr.{Ptr, block_ptr, null_ptr, ptr_val, in_a_block, Testable, lies_at}
use denote.Steps.{nothing}
use denote.Param.{layout}
use denote.Struct.Struct.{Struct, within}
use base.Fraction.{full_share}
use Rattle.std.proofs.alloc.Calls.{Al, handle_tells, Fits}
use Rattle.std.proofs.GlobalToken.{dealloc_token-Testable}
use Rattle.std.specs.Box.Ownership.{box_owns}
use Rattle.std.specs.contracts.alloc.Global as heap
use Rattle.std.proofs.alloc.Global.TheLaws as heap_laws
use Rattle.std.specs.contracts.impls.GlobalAllocator.TheImpl.{ghosts}
use Rattle.std.specs.declared.alloc.Global.{Global}
use Rattle.std.specs.declared.option.Option.{Option}
use Rattle.std.specs.declared.option.Option.TheVariants.{None, Some}
use Rattle.std_alloc.proofs.ResultValues.{and_tt}
use Rattle.c_answers.specs.Held.{held}

abbrev Z : RattleType
Z = heap.the_row

abbrev pub al : Al
al = record { row = Z; laws = heap_laws.the_row_laws; g = ghosts; d = impl [] tnil dnil; drops = impl [] tnil dnil }

abbrev pub Good : Val → Type 0
Good h = Fits al h

abbrev pub word : Val → Ptr → Val
word h p = vstruct (vcons (ptr_val p) (vcons h vnil))

pub pointer_typed : (p : Ptr) → T (has_ty ty_ptr (ptr_val p)) × WT (ptr_val p)
pointer_typed (block_ptr b o) = (tt, tt)
pointer_typed null_ptr = (tt, record { fits = lit< tt })

pub word_typed : (ν : Sym) (h : Val) (p : Ptr) → Good h → T (has_ty (ty_struct ν (tcons ty_ptr (tcons (layout Z) tnil))) (word h p)) × WT (word h p)
word_typed ν h (block_ptr b o) fits = (and_tt (has_ty (layout Z) h) fits.0, (tt, (fits.1, tt)))
word_typed ν h null_ptr fits = (and_tt (has_ty (layout Z) h) fits.0, (record { fits = lit< tt }, (fits.1, tt)))

abbrev pub Words : RattleType
Words = Struct (record { name = []; args = []; types = []; fields = RawPtr ∷ Z ∷ [] })

module _ {M : Type 1} {𝓤 : Ura M} {𝓛 : Logic 𝓤} {K : Type 0} {Γ : List (Item 𝓤)} {G : Goal 𝓤 𝓛.H} where
  pub handle_out : K → (p : Ptr) (a : Global) (own : Fml) (vs : List Val)
      → ((h : Val) → vs ≡ word h p ∷ [] → Good h → Seq K 𝓛 (‵ own ∷ ‵ (Z.own_val a (h ∷ [])) ∷ Γ) G)
      → Seq K 𝓛 (‵ (fsep (Words.own_val (p, (a, tt)) vs) own) ∷ Γ) G
  handle_out t p a own vs k =
      fsplit t $ fpick t (λ vss. fsplit t $ feq_l t (λ ev. fsplit t $ feq_l t (λ ep. fsplit t $ handle_tells al t a vss.1.0 (λ h ea fits. move t (1 ∷ []) $ drop t $ move t (1 ∷ []) $
      k h (subst (λ (ws : List Val). vs ≡ vstruct (of_list (ptr_val p ∷ (ws ++ []))) ∷ []) ea (subst (λ (ps : List Val). vs ≡ vstruct (of_list (ps ++ (vss.1.0 ++ []))) ∷ []) ep ev)) fits))))

  pub handle_in : K → (p : Ptr) (a : Global) (own : Fml) (h : Val)
      → Step K 𝓛 (‵ (fsep (Words.own_val (p, (a, tt)) (word h p ∷ [])) own) ∷ Γ) G (‵ own ∷ ‵ (Z.own_val a (h ∷ [])) ∷ Γ) G
  handle_in t p a own h = step (λ s.
      nothing t $ move t (2 ∷ 0 ∷ []) $ fjoin t $ feq_i t (List Val) (ptr_val p ∷ []) (ptr_val p ∷ []) refl $ fjoin t $
      feq_i t (List Val) (word h p ∷ []) (word h p ∷ []) refl $ fjoin t $
      fpack t (Valss (RawPtr ∷ Z ∷ [])) (within (record { name = []; args = []; types = []; fields = RawPtr ∷ Z ∷ [] }) (p, (a, tt)) (word h p ∷ [])) (ptr_val p ∷ [], (h ∷ [], tt)) $ fjoin t $ s)

module _ (R : RattleType) (a : Global) where
  abbrev pub boxed : Ptr → R.Denot → Fml
  boxed = box_owns (ghosts.dealloc_token a) R

  module _ {M : Type 1} {𝓤 : Ura M} (𝓛 : Logic 𝓤) where
    pub tested : (p : Ptr) (x : R.Denot) → ent 𝓤 (sem 𝓛 (boxed p x)) (guard 𝓤 (Testable p) (sem 𝓛 (boxed p x)))
    tested p x =
        let B : SProp 𝓤 = sem 𝓛 (boxed p x) in
        fact_use 𝓤 (Testable p) (via 𝓤 _ (snd∗ 𝓤 (sem 𝓛 (lies_at R full_share p x)) (sem 𝓛 (ghosts.dealloc_token a (bare (lone R.mir)) p))) (dealloc_token-Testable 𝓛 a (bare (lone R.mir)) p)) (guard_i 𝓤 (Testable p) B)

  module _ {M : Type 1} {𝓤 : Ura M} {𝓛 : Logic 𝓤} {K : Type 0} {Γ : List (Item 𝓤)} {G : Goal 𝓤 𝓛.H} where
    pub either_held : K → (p : Ptr) (state : Option R.Denot)
        → (state ≡ None → p ≡ null_ptr → Seq K 𝓛 Γ G)
        → ((b o : ℕ) (x : R.Denot) → state ≡ Some x → p ≡ block_ptr b o → Testable (block_ptr b o) → Seq K 𝓛 (‵ (boxed (block_ptr b o) x) ∷ Γ) G)
        → Seq K 𝓛 (‵ (held R a p state) ∷ Γ) G
    either_held t p None none one = fpick t (λ e. drop t $ none refl e)
    either_held t p (Some x) none one =
        in_a_block t p (λ q. boxed q x) (fst∗ 𝓤 (never 𝓤) (sem 𝓛 (ghosts.dealloc_token a (bare (lone R.mir)) null_ptr))) (λ b o e.
        use1 𝓛 (given (Testable (block_ptr b o)) (‵ (boxed (block_ptr b o) x))) (tested 𝓛 (block_ptr b o) x) $ learn t (λ u. one b o x refl e u))
