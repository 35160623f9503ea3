-- A restored atlas has as many items in use as walks have met; and records that stand for a state are refused only
-- where memory ran out.
use Rattle.std.proofs.Common.{◌≡◌, List, length, refl, ap, sym, ◌∙◌}
use Rattle.etagere_base.specs.declared.faults.RestoreFault.{RestoreFault}
use Rattle.etagere_base.specs.declared.faults.RestoreFault.TheVariants.{Frame, Counts, Link, Shelves, Runs, Neighbours, FreeList, Sharing, Unused, Space, Memory}
use Rattle.shelf_records.specs.RecordLists.{Entry, item_numbers}
use Rattle.shelf_records.specs.AtlasRecords.{AtlasRecords, state_spelled, walked_entries}
use Rattle.shelf_records.specs.Snapshots.{IsBroken}
use Rattle.shelf_records.specs.StandsFor.{StandsFor}
use Rattle.shelf_model.specs.State.{items_in_use}
use Rattle.shelf_records.proofs.Spelled.SpelledNumbers.{items_in_use-spelled}

module _ (atlas : AtlasRecords) where
  -- the items in use are those that walks have met
  pub walked-count : (entries : List Entry) → entries ≡ walked_entries atlas
      → length (item_numbers entries) ≡ items_in_use (state_spelled atlas).shelves
  walked-count entries met =
      ap (λ (es : List Entry). length (item_numbers es)) met ∙ sym (items_in_use-spelled atlas (walked_entries atlas))

  -- records that stand for what they spell are refused only where memory ran out
  pub stands-whole : StandsFor atlas (state_spelled atlas) → (fault : RestoreFault) → IsBroken atlas fault → fault ≡ Memory
  stands-whole stands Frame broken = absurd (broken (stands.keeps Frame))
  stands-whole stands Counts broken = absurd (broken (stands.keeps Counts))
  stands-whole stands Link broken = absurd (broken (stands.keeps Link))
  stands-whole stands Shelves broken = absurd (broken (stands.keeps Shelves))
  stands-whole stands Runs broken = absurd (broken (stands.keeps Runs))
  stands-whole stands Neighbours broken = absurd (broken (stands.keeps Neighbours))
  stands-whole stands FreeList broken = absurd (broken (stands.keeps FreeList))
  stands-whole stands Sharing broken = absurd (broken (stands.keeps Sharing))
  stands-whole stands Unused broken = absurd (broken (stands.keeps Unused))
  stands-whole stands Space broken = absurd (broken (stands.keeps Space))
  stands-whole stands Memory broken = refl
