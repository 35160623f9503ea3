-- `lend` tests the pointer: at null the handle owns nothing, else what it owns is lent, and the handle follows it.
use mathlib.Core.Path.{◌≡◌, refl, sym, ap}
use mathlib.Core.List.{List, [], ◌∷◌}
use lib.Dec.{lit<}
use Prim.Native.Nat.{ℕ}
use seplogic.Ra.Ura.{Ura}
use base.Fraction.{full_share}
use mir.Syntax.{named}
use mir.Raw.{raw as bare}
use mir.Val.{Val, vptr, vcons, vnil}
use base.Logic.{ent, sep, id⊢}
use base.Fml.{Fml, GName, ftrue, fsep, flft, fres}
use types.Logic.{Logic, sem}
use types.Kit.{‵, raw, ◌⊛◌, some, later, at_ret, ◌$◌, ◌∵◌, !, qed, move, keep, use0, use1, split, split3, join, group, pick, await, rewrite, fsplit, fsplit3, fjoin, fpack, suffices, frame, done}
use types.Match.{live}
use types.Part.{whole, sub, look_in, agg}
use types.Run.{enter, stop, fld, load, lit, bin, no_more, and_then, of_opd, addr, first, blocks, branches, skips, exec, returns, returns_within}
use types.ByLocal.{alloc_all, pass_all, free_all, look_at, get, through, sets, sets_last, is, env}
use contract.Running.{tables}
use denote.Exit.{no}
use denote.Follow.{follows, follows_by, Part, lends_Part}
use denote.Memory.{mem, cell_at, part_at, part_of, lone}
use denote.RattleType.{RattleType}
use denote.RawPtr.{Ptr, block_ptr, null_ptr, ptr_val, tests_null}
use denote.Ref.{MutBor, MutRef, mut_vals, mut_Tells}
use denote.Signature.{plain, mut_ref_to}
use denote.Steps.{nothing, opens, closes}
use denote.Triple.Walked.{says, Stays, stay_dropped, walk_of, ends_at, Goes-spent_ref}
use Rattle.std.specs.declared.option.Option.{Option}
use Rattle.std.specs.declared.option.Option.TheVariants.{None, Some}
use Rattle.std.specs.contracts.alloc.Global as heap
use Rattle.std.specs.contracts.impls.GlobalAllocator.TheImpl.{ghosts}
use Rattle.std.specs.contracts.option.Option as Opt
use Rattle.std.proofs.VecSteps.Shapes.{after}
use Rattle.std.proofs.option.Made.{Some-of, none_of}
use Rattle.std.proofs.raw_atomic.Walks.{proved}
use Rattle.c_answers.specs.Held.{held}
use Rattle.c_answers.proofs.HandleSteps.{pointer_typed, word, handle_out, handle_in, either_held, boxed}
use Rattle.etagere_shelves.specs.contracts.atlas.AtlasAllocator as Held
use Rattle.c_answers.specs.contracts.atlas_handle.EtagereAtlas.{the_row as R}
use Rattle.c_answers.specs.contracts.atlas_handle.EtagereAtlas.lend as f
use Rattle.c_answers.proofs.atlas_handle.EtagereAtlas.lend.Statement.{statement}
use Rattle.c_answers.proofs.atlas_handle.EtagereAtlas.lend.Code as code

abbrev T : RattleType
T = Held.the_row

abbrev stayed : Stays f.ended.signature.params f.ended.kept
stayed = (stay_dropped (mut_ref_to (0 ∷ []) tt (plain (λ _. R))) no, tt)

-- the handle with another value in it
abbrev filled : R.Denot → T.Denot → R.Denot
filled me value = record me { state = Some value }

module _ {M : Type 1} {𝓤 : Ura M} (𝓛 : Logic 𝓤) (me : R.Denot) (rb ro b o : ℕ) (h : Val) where
  -- all of the handle but what it holds
  abbrev Rest : Fml
  Rest = fsep (fsep (ghosts.dealloc_token me.alloc (bare (lone T.mir)) (block_ptr b o)) (heap.the_row.own_val me.alloc (h ∷ []))) (cell_at full_share R.mir (word h me.pointer ∷ []) rb ro)

  back : me.pointer ≡ block_ptr b o → (w : T.Denot) → ent 𝓤 (sep 𝓤 (sem 𝓛 ((mem T).own_at w b o)) (sem 𝓛 Rest)) (sem 𝓛 ((mem R).own_at (filled me w) rb ro))
  unfolding part_of
  back at_block w =
      qed 𝓛 (‵ (part_at T full_share w b o) ∷ ‵ Rest ∷ []) ∵ move ! (1 ∷ []) $ fsplit ! $ fsplit ! $ move ! (3 ∷ 0 ∷ []) $ fjoin ! $
      rewrite ! 0 (λ (p : Ptr). ‵ (boxed T me.alloc p w)) (sym at_block) refl $ handle_in ! me.pointer me.alloc (held T me.alloc me.pointer (Some w)) h $
      move ! (1 ∷ 0 ∷ []) $ fjoin ! $ fpack ! (List Val) (λ us. fsep (cell_at full_share R.mir us rb ro) (R.own_val (filled me w) us)) (word h me.pointer ∷ []) $ done !

pub lend_spec : {M : Type 1} → statement M
unfolding follows_by
lend_spec 𝓤 𝓛 𝓜 𝓡 wired =
    let c = f.clauses 𝓛 𝓜.mem 𝓡.returns in let W = walk_of 𝓛 f.ended stayed c in let 𝓣 = tables 𝓤 𝓛.H 𝓜 𝓡 𝓡.env in
    proved 𝓛 f.ended stayed c 𝓜 𝓡 (Goes-spent_ref 𝓛 1 (0 ∷ []) tt (plain (λ _. R)), tt)
    f.Key.name code.function (code.unfolded 𝓤 𝓛.H 𝓜 𝓡 wired)
    (λ κs. (mut_vals, tt)) (λ κs. (mut_Tells (named 0) κs.0 R, tt)) (λ κs qs bounds a _ are.
    let rb = a.0.ref_ptr.0 in let ro = a.0.ref_ptr.1 in let me = a.0.now in let vs = mut_vals a.0 in let γ = a.0.ghost_name in
    let κ = κs.0 in let q = qs.0 in let Lent = MutRef (named 0) κ T in
    let y : W.Ghost = ((κs, qs, bounds, a, (vs, tt)), tt) in
    let Cell = λ (ws : List Val). ‵ (cell_at full_share R.mir ws rb ro) in
    qed 𝓛 (((‵ (flft κ q) ⊛ ‵ ftrue) ⊛ ‵ ((MutRef (named 0) κ R).own_val a.0 vs) ⊛ ‵ ftrue) ∷ ‵ ftrue ∷ []) ∵
    split ! $ split ! $ move ! (2 ∷ []) $ split ! $ keep ! (0 ∷ 2 ∷ []) $
    enter ! _ _ _ _ _ $ alloc_all ! (λ l. pass_all ! refl ((tt, tt), tt) $
    let En = env (code.function).locals l in
    fsplit3 ! $ move ! (1 ∷ 2 ∷ 3 ∷ []) $ opens ! tt R {h = me} rb ro (λ us. move ! (1 ∷ []) $
    handle_out ! me.pointer me.alloc (held T me.alloc me.pointer me.state) us (λ h ws fits. rewrite ! 2 Cell ws refl $
    -- [what the handle owns; the allocator; the cell; the open borrow, in three entries]
    either_held T me.alloc ! me.pointer me.state
    (λ none at_null.
    sets ! (is ! (of_opd ! (load ! (through ! refl (fld ! refl (stop !))) (look_in ! 1 (sub ! 0 refl (whole !))))) (ap ptr_val at_null)) refl (pointer_typed null_ptr) $
    sets ! (bin ! (get ! refl) (lit ! tt) tt) refl (tt, tt) $ first ! $ branches ! (get ! refl)
    (λ _. sets ! (agg ! (and_then ! (lit ! tt) (no_more !))) refl (tt, (record { fits = lit< tt }, tt)) $
    nothing ! $ fpack ! (me.pointer ≡ null_ptr) (λ _. ftrue) at_null $ rewrite ! 0 (λ (s : Option T.Denot). ‵ (held T me.alloc me.pointer s)) (sym none) refl $
    handle_in ! me.pointer me.alloc (held T me.alloc me.pointer me.state) h $ move ! (1 ∷ 0 ∷ []) $ closes ! tt R me (word h me.pointer ∷ []) rb ro $
    use1 𝓛 (‵ (fres γ (R.coded.code me))) (𝓛.names.obs-res γ (R.coded.code me)) $ use0 𝓛 (‵ ((Opt.the_row Lent).own_val None (live 0 vnil ∷ []))) (none_of 𝓛 Lent) $
    returns_within ! (W.post y) refl (look_at ! 0 refl) $ free_all ! refl $ keep ! (0 ∷ 3 ∷ 1 ∷ []) $
    suffices ! _ (ends_at 𝓛 f.ended stayed c y (live 0 vnil) None (tt, tt) (tt, tt)) $
    nothing ! $ nothing ! $ fjoin ! $ join ! $ nothing ! $ move ! (2 ∷ 0 ∷ []) $ join ! $ join ! $ frame ! $ says ! (sym none) $ done !)
    (λ wrong. absurd wrong))
    (λ b o x some_x at_block t. let p : Ptr = block_ptr b o in let v : Val = vptr b o in
    sets ! (is ! (of_opd ! (load ! (through ! refl (fld ! refl (stop !))) (look_in ! 2 (sub ! 0 refl (whole !))))) (ap ptr_val at_block)) refl (tt, tt) $
    sets ! (bin ! (get ! refl) (lit ! tt) (tests_null p t)) refl (tt, tt) $ first ! $ branches ! (get ! refl) (λ wrong. absurd wrong)
    (λ _. skips ! $ exec ! 𝓣.C 𝓣.Λ En (after 3 (code.function).body) (at_ret En (W.post y)) $
    sets ! (is ! (of_opd ! (load ! (through ! refl (fld ! refl (stop !))) (look_in ! 2 (sub ! 0 refl (whole !))))) (ap ptr_val at_block)) refl (tt, tt) $
    sets ! (of_opd ! (get ! refl)) refl (tt, tt) $ first ! $ blocks ! $ sets_last ! (addr ! (through ! refl (stop !))) refl (tt, tt) $
    exec ! 𝓣.C 𝓣.Λ En (after 6 (code.function).body) (at_ret En (W.post y)) $ sets ! (of_opd ! (get ! refl)) refl (tt, tt) $
    sets ! (agg ! (and_then ! (lit ! tt) (and_then ! (get ! refl) (no_more !)))) refl (tt, (record { fits = lit< tt }, (tt, tt))) $
    fsplit ! $ move ! (1 ∷ 2 ∷ []) $ fjoin ! $ move ! (0 ∷ 2 ∷ []) $ fjoin ! $ move ! (2 ∷ 3 ∷ 4 ∷ 1 ∷ 0 ∷ []) $ group ! 5 $
    use1 𝓛 (later (some (λ (δ : GName). raw (Part 𝓛 R T (filled me) (named 0) κ q rb ro b o γ (sem 𝓛 (Rest 𝓛 me rb ro b o h)) (back 𝓛 me rb ro b o h at_block) x δ))))
    (lends_Part 𝓛 R T (filled me) (named 0) κ q rb ro b o γ (sem 𝓛 (Rest 𝓛 me rb ro b o h)) (back 𝓛 me rb ro b o h at_block) (R.coded.code me) (R.coded.code me) x) $ await ! tt $ pick ! (λ δ.
    let r : MutBor T.Denot = record { ref_ptr = (b, o); ghost_name = δ; now = x } in
    use1 𝓛 (‵ (Lent.own_val r (v ∷ [])) ⊛ ‵ (flft κ q) ⊛ ‵ (follows R T γ δ (filled me))) (id⊢ 𝓤 _) $ split3 ! $
    use1 𝓛 (‵ ((Opt.the_row Lent).own_val (Some r) (live 1 (vcons v vnil) ∷ []))) (Some-of 𝓛 Lent r v) $
    returns ! (look_at ! 0 refl) $ free_all ! refl $ keep ! (0 ∷ 1 ∷ 2 ∷ []) $
    suffices ! _ (ends_at 𝓛 f.ended stayed c y (live 1 (vcons v vnil)) (Some r) (tt, tt) (tt, tt)) $
    nothing ! $ nothing ! $ fjoin ! $ join ! $ nothing ! $ move ! (2 ∷ 0 ∷ []) $ join ! $ join ! $ frame ! $ says ! (sym some_x) $ done !)))))))
