use Rattle.std.proofs.Common.{ℕ, [], subst, sym}
use Rattle.bucketed_model.specs.Atlas.{KeepsPromises}
use Rattle.bucketed_model.specs.Tied.{AreTied}
use Rattle.bucketed_model.proofs.Ledger.TiedTaken.{tied-fresh}
use Rattle.bucketed_records.specs.Private.Store.{Stored, stored_state}
use Rattle.bucketed_records.specs.Private.Witnessed.{HasTotals, Witnessed}
use Rattle.bucketed_records.proofs.Spelling.Fresh.{fresh-totals, fresh-witnessed, no_records}
use Rattle.bucketed_model.proofs.Promises.{valid-promises}
use Rattle.etagere_bucketed.proofs.atlas.BucketedAtlasAllocator.with_options.Goals as goal

pub invariant_of-result : goal.invariant_of-result
invariant_of-result c =
    let frame = c.bucketed_frame-frame.result in
    record {
      unused = [];
      witnessed = subst (λ (stored : Stored). Witnessed stored [] (stored_state frame stored)) (sym c.new.ensures) (fresh-witnessed frame c.bucketed_frame-frame.ensures.frame);
      totals = subst (λ (stored : Stored). HasTotals 0 c.across_side.result 0 0 (stored_state frame stored)) (sym c.new.ensures)
          (subst (λ (height : ℕ). HasTotals 0 height 0 0 (stored_state frame no_records)) (sym c.across_side.ensures) (fresh-totals frame));
    }

pub returns-clause-empty : goal.returns-clause-empty
returns-clause-empty c =
    let frame = c.bucketed_frame-frame.result in
    subst (λ (stored : Stored). AreTied [] (stored_state frame stored)) (sym c.new.ensures) (tied-fresh frame c.bucketed_frame-frame.ensures.frame)

pub returns-clause-promises : goal.returns-clause-promises
returns-clause-promises c =
    let frame = c.bucketed_frame-frame.result in
    subst (λ (stored : Stored). KeepsPromises (stored_state frame stored)) (sym c.new.ensures) (valid-promises (stored_state frame no_records) (fresh-witnessed frame c.bucketed_frame-frame.ensures.frame).valid)
