use Rattle.etagere_base.proofs.Merged.{merged_idempotent}
use Rattle.shelf_model.proofs.Returned.MergedAllocated.{merged_items-allocations_along, merged_shelves-allocated}
use Rattle.shelf_model.proofs.Returned.MergedNear.{items-merge, shelves-merge}
use Rattle.shelf_model.proofs.Returned.MergedStates.{merged-all, merged-allocated, merged-once}
use Rattle.shelf_model.proofs.model_laws.merging_is_a_normal_form.Goals as goal

pub returns-clause-once : goal.returns-clause-once
returns-clause-once c =
    (λ items. merged_idempotent _ _ items-merge items, λ shelves. merged_idempotent _ _ shelves-merge shelves, merged-once)

pub returns-clause-all : goal.returns-clause-all
returns-clause-all c = merged-all

pub returns-clause-allocated : goal.returns-clause-allocated
returns-clause-allocated c = (merged_items-allocations_along, merged_shelves-allocated, merged-allocated)
