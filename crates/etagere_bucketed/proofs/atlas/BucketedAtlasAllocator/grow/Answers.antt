use Rattle.std.proofs.Common.{◌≡◌, ◌+◌, refl, ap, arith, sym, ◌∙◌, subst}
use Rattle.etagere_base.proofs.GrownFrames.{frame-weaken}
use Rattle.etagere_base.specs.declared.frames.Frame.{Frame}
use Rattle.etagere_base.specs.declared.geometry.Size.{Size}
use Rattle.etagere_base.specs.declared.sides.Sides.{Sides}
use Rattle.etagere_base.specs.Growing.{grown_frame}
use Rattle.bucketed_model.specs.Atlas.{Grows, KeepsPromises, NeedsBuckets}
use Rattle.bucketed_model.specs.Frames.{longest_bucketed_side}
use Rattle.bucketed_model.specs.State.{BucketedState}
use Rattle.bucketed_model.proofs.Shelving.GrownFrames.{grow-fits}
use Rattle.bucketed_model.proofs.Promises.{valid-promises}
use Rattle.bucketed_model.proofs.Ledger.KnownBusy.{grows-known}
use Rattle.bucketed_model.proofs.Ledger.TiedGrown.{grows-tied}
use Rattle.bucketed_records.specs.Private.Store.{Stored, stored_state}
use Rattle.bucketed_records.specs.Private.Witnessed.{HasTotals, Witnessed}
use Rattle.bucketed_store.proofs.Emptying.EndTotals.{tells-end}
use Rattle.bucketed_store.proofs.Widening.Grown.{width-grows}
use Rattle.etagere_bucketed.specs.Private.Consistent.{state_in}
use Rattle.etagere_bucketed.proofs.AtlasGrows.{after-grow, atlas-grown, grow-needs, grow-uses}
use Rattle.etagere_bucketed.proofs.atlas.BucketedAtlasAllocator.grow.Goals as goal

-- a frame with what a grow changes
abbrev written : Frame → Frame → Frame
written frame grown =
    record frame {
      width = grown.width;
      height = grown.height;
      column_width = grown.column_width;
      columns = grown.columns;
    }

-- that is the grown one
written-read : (frame grown : Frame) (size : Size) (stored : Stored) (state : BucketedState) → grown ≡ grown_frame frame size → stored_state grown stored ≡ state → stored_state (written frame grown) stored ≡ state
written-read frame grown size stored state is read =
    ap (λ (one : Frame). stored_state one stored) (subst (λ (one : Frame). written frame one ≡ one) (sym is) refl) ∙ read

pub returns-in-Some-clause-promises : goal.returns-in-Some-clause-promises
returns-in-Some-clause-promises c = subst KeepsPromises c.self.view_is (valid-promises (state_in c.self.inside) c.self.invariant.witnessed.valid)

pub grown_frame-frame-requires-clause-frame : goal.grown_frame-frame-requires-clause-frame
grown_frame-frame-requires-clause-frame c =
    frame-weaken longest_bucketed_side 65535 c.self.inside.frame (omega arith) c.self.invariant.witnessed.valid.frame

pub grown_frame-frame-requires-clause-wider : goal.grown_frame-frame-requires-clause-wider
grown_frame-frame-requires-clause-wider c =
    (grow-fits c.self.inside.frame c.args.size (sym c.grow_fault.ensures ∙ c.in_default.is)).no_smaller.wider

pub grown_frame-frame-requires-clause-taller : goal.grown_frame-frame-requires-clause-taller
grown_frame-frame-requires-clause-taller c =
    (grow-fits c.self.inside.frame c.args.size (sym c.grow_fault.ensures ∙ c.in_default.is)).no_smaller.taller

pub overflow_sub-frame : goal.overflow_sub-frame
overflow_sub-frame c =
    rw c.grown_frame-frame.ensures
    (width-grows c.self.inside.frame c.args.size c.self.invariant.witnessed.valid.frame (sym c.grow_fault.ensures ∙ c.in_default.is))

pub widen-requires-clause-shelves : goal.widen-requires-clause-shelves
widen-requires-clause-shelves c = (tells-end c.self.inside.store c.self.invariant.unused (state_in c.self.inside) c.self.invariant.witnessed).few

pub widen-requires-clause-used : goal.widen-requires-clause-used
widen-requires-clause-used c =
    omega (arith, (atlas-grown c.self.inside c.args.size c.self.invariant (sym c.grow_fault.ensures ∙ c.in_default.is)).used, c.self.invariant.totals.in_use)

pub widen-requires-clause-records : goal.widen-requires-clause-records
widen-requires-clause-records c =
    grow-uses c.self.inside c.args.size c.grown_frame-frame.result c.self.invariant (sym c.grow_fault.ensures ∙ c.in_default.is) c.grown_frame-frame.ensures

pub returns-in_default-widen-clause-memory : goal.returns-in_default-widen-clause-memory
returns-in_default-widen-clause-memory c =
    let needs = grow-needs c.self.inside c.args.size c.grown_frame-frame.result c.self.invariant (sym c.grow_fault.ensures ∙ c.in_default.is)
    c.grown_frame-frame.ensures c.in_default-widen.ensures.some in
    λ _. (refl, subst (λ (state : BucketedState). NeedsBuckets state c.args.size) c.self.view_is needs)

pub returns-in_default-widen-clause-promises : goal.returns-in_default-widen-clause-promises
returns-in_default-widen-clause-promises c =
    subst KeepsPromises (ap (stored_state c.self.inside.frame) (sym c.in_default-widen.ensures.err)) (valid-promises (state_in c.self.inside) c.self.invariant.witnessed.valid)

pub end-end-requires-clause-frame : goal.end-end-requires-clause-frame
end-end-requires-clause-frame c =
    (after-grow c.self.inside c.args.size c.grown_frame-frame.result c.widen.new.self c.in-Ok.made c.self.invariant (sym c.grow_fault.ensures ∙ c.in_default.is)
    c.grown_frame-frame.ensures c.in-Ok.ensures.ok c.in-Ok.ensures.made).is_frame

pub end-end-requires-clause-short : goal.end-end-requires-clause-short
end-end-requires-clause-short c =
    (after-grow c.self.inside c.args.size c.grown_frame-frame.result c.widen.new.self c.in-Ok.made c.self.invariant (sym c.grow_fault.ensures ∙ c.in_default.is)
    c.grown_frame-frame.ensures c.in-Ok.ensures.ok c.in-Ok.ensures.made).tells.short

pub invariant_of-self-2 : goal.invariant_of-self-2
invariant_of-self-2 c =
    let a = after-grow c.self.inside c.args.size c.grown_frame-frame.result c.widen.new.self c.in-Ok.made c.self.invariant (sym c.grow_fault.ensures ∙ c.in_default.is)
    c.grown_frame-frame.ensures c.in-Ok.ensures.ok c.in-Ok.ensures.made in
    record {
      unused = a.unused;
      witnessed = subst (Witnessed c.widen.new.self a.unused) (sym (written-read c.self.inside.frame c.grown_frame-frame.result c.args.size c.widen.new.self a.state c.grown_frame-frame.ensures a.tells.read)) a.witnessed;
      totals = subst (HasTotals c.end-end.result.along c.end-end.result.across (c.self.inside.buckets_in_use + c.in-Ok.made) c.self.inside.allocated_space) (sym (written-read c.self.inside.frame c.grown_frame-frame.result c.args.size c.widen.new.self a.state c.grown_frame-frame.ensures a.tells.read))
          (record {
            column = ap (λ (s : Sides). s.along) c.end-end.ensures ∙ a.tells.column;
            height = ap (λ (s : Sides). s.across) c.end-end.ensures ∙ a.tells.height;
            in_use = a.in_use;
            space = a.space;
          });
    }

pub returns-clause-ok : goal.returns-clause-ok
returns-clause-ok c =
    let a = after-grow c.self.inside c.args.size c.grown_frame-frame.result c.widen.new.self c.in-Ok.made c.self.invariant (sym c.grow_fault.ensures ∙ c.in_default.is)
    c.grown_frame-frame.ensures c.in-Ok.ensures.ok c.in-Ok.ensures.made in
    subst (λ (new : BucketedState). Grows c.args.self.now c.args.size new) (sym (written-read c.self.inside.frame c.grown_frame-frame.result c.args.size c.widen.new.self a.state c.grown_frame-frame.ensures a.tells.read))
    (subst (λ (old : BucketedState). Grows old c.args.size a.state) c.self.view_is a.grows)

pub returns-clause-promises : goal.returns-clause-promises
returns-clause-promises c =
    let a = after-grow c.self.inside c.args.size c.grown_frame-frame.result c.widen.new.self c.in-Ok.made c.self.invariant (sym c.grow_fault.ensures ∙ c.in_default.is)
    c.grown_frame-frame.ensures c.in-Ok.ensures.ok c.in-Ok.ensures.made in
    subst KeepsPromises (sym (written-read c.self.inside.frame c.grown_frame-frame.result c.args.size c.widen.new.self a.state c.grown_frame-frame.ensures a.tells.read)) (valid-promises a.state a.witnessed.valid)

pub returns-clause-allocated : goal.returns-clause-allocated
returns-clause-allocated c = λ entries tied. grows-tied entries c.args.self.now c.args.size _ tied (returns-clause-ok c)

pub returns-clause-kept : goal.returns-clause-kept
returns-clause-kept c = grows-known c.args.self.now c.args.size _ (returns-clause-ok c)
