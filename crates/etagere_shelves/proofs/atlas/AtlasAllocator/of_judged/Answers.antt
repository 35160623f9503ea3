use Rattle.std.specs.Prelude.{pos}
use Rattle.std.proofs.Common.{◌≡◌, ◌≤◌, ℕ, length, ap, rules, subst, sym, SFits, w32, ◌∙◌}
use Rattle.std.proofs.lemmas.Int.{to_z-of_z}
use Rattle.etagere_base.specs.Sides.{side}
use Rattle.shelf_records.specs.AtlasRecords.{AtlasRecords, state_spelled}
use Rattle.shelf_model.specs.Atlas.{KeepsPromises}
use Rattle.shelf_store.specs.Private.SecondWidths.{AreSeconds}
use Rattle.shelf_store.specs.Private.Settling.{AreByHeightExceptNoted}
use Rattle.shelf_store.proofs.ByHeight.KeptSeconds.{unknown-seconds}
use Rattle.shelf_store.proofs.ByHeight.SplitByHeight.{settled-holds}
use Rattle.shelf_records.specs.Private.Kept.{AreKept}
use Rattle.shelf_model.specs.Space.{space_in}
use Rattle.shelf_model.specs.State.{items_in_use}
use Rattle.shelf_model.proofs.Promises.{promises}
use Rattle.shelf_records.proofs.Spelled.StandsKept.{witnesses}
use Rattle.etagere_shelves.proofs.atlas.AtlasAllocator.of_judged.Goals as goal

pub invariant_of-result : goal.invariant_of-result
invariant_of-result c =
    let same = sym c.atlas.view_is in
    let fits : SFits w32 c.atlas.inside.allocated_space = search rules in
    let sum : ℕ = c.args.items_in_use in
    record {
      kept = subst (λ (atlas : AtlasRecords). AreKept atlas.frame atlas.records) same c.requires.kept;
      by_height = subst (λ (atlas : AtlasRecords). AreByHeightExceptNoted atlas.frame atlas.records c.args.pending.notes c.args.by_height.items) same
          (settled-holds c.args.atlas.frame c.args.atlas.records c.args.pending.notes c.args.by_height.items c.requires.kept c.requires.by_height c.requires.settled);
      room = subst (λ (atlas : AtlasRecords). length atlas.records.shelves ≤ c.args.by_height.capacity) same c.requires.room;
      room_to_note = subst (λ (atlas : AtlasRecords). length atlas.records.shelves ≤ c.args.pending.room) same c.requires.room_to_note;
      seconds = subst (λ (atlas : AtlasRecords). AreSeconds atlas.records c.args.seconds) same (unknown-seconds c.args.atlas.frame c.args.atlas.records c.args.seconds c.requires.kept c.requires.seconds);
      counted = subst (λ (atlas : AtlasRecords). sum ≡ items_in_use (state_spelled atlas).shelves) same c.requires.items;
      space = c.side-allocated_space.ensures.value ∙ ap side (to_z-of_z w32 c.atlas.inside.allocated_space fits)
          ∙ ap side (subst (λ (atlas : AtlasRecords). atlas.allocated_space ≡ pos (space_in (state_spelled atlas).shelves)) same c.requires.space);
    }

pub returns-clause-promises : goal.returns-clause-promises
returns-clause-promises c =
    subst (λ (atlas : AtlasRecords). KeepsPromises (state_spelled atlas)) (sym c.atlas.view_is)
    (promises (state_spelled c.args.atlas) (witnesses c.requires.kept).valid)
