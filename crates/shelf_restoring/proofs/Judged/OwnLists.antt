-- Where each shelf's items are those marked that name it, its free list is as it should be just where a pass finds it.
use Rattle.std.proofs.Common.{ℕ, ◌≤◌, Bool, List, [], ◌∷◌, ◌++◌}
use Rattle.std.specs.List.{AllByRecursion}
use Rattle.etagere_base.proofs.EachLemmas.{Each-weaken}
use Rattle.etagere_base.specs.Lists.{times}
use Rattle.etagere_links.specs.Lists.{HasEachOnce}
use Rattle.shelf_records.specs.declared.records.LinkedItem.{LinkedItem}
use Rattle.shelf_records.specs.RecordLists.{Entry, item_numbers, shelf_numbers}
use Rattle.shelf_records.specs.Private.Judging.{AreOwn, AreUsed}
use Rattle.shelf_records.specs.StandsFor.{FreeBack, LinkBack}
use Rattle.shelf_records.proofs.Judged.FreeLists.{lists-length, lists-own, own-lists}
use Rattle.shelf_restoring.specs.Private.Rules.{FreeOwn}
use Rattle.shelf_restoring.proofs.Judged.OwnItems.{NamesItsOwn, own-items}
use Rattle.shelf_restoring.proofs.Judged.UsedMarks.{used-times}

module _ (items : List LinkedItem) (marks : List Bool) where
  -- marked are the items of the shelves, so each shelf's are those marked that name it
  pub own-marked : (count : ℕ) (unused : List ℕ) (entries : List Entry) → ((number : ℕ) → times number (shelf_numbers entries) ≤ 1)
      → HasEachOnce count (item_numbers entries ++ unused) → AreUsed count unused marks → AllByRecursion (LinkBack items) entries → AllByRecursion (AreOwn items marks) entries
  own-marked count unused entries shelves once used linked =
      own-items items marks entries shelves (used-times count (item_numbers entries) unused marks once used)
      (Each-weaken (LinkBack items) (NamesItsOwn items) entries (λ entry back. back.owners) linked)

  -- what a pass finds
  pub own-back : (entries : List Entry) → AllByRecursion (AreOwn items marks) entries → AllByRecursion (λ (entry : Entry). (item : ℕ) → times item entry.free_list ≤ 1) entries
      → AllByRecursion (FreeOwn items marks) entries → AllByRecursion (FreeBack items) entries
  own-back [] own once free = tt
  own-back (entry ∷ entries) own once free = (
    record { items = own-lists items marks entry own.0 once.0 free.0.own free.0.long; back = free.0.back },
    own-back entries own.1 once.1 free.1,
  )

  -- and the other way round
  pub back-own : (entries : List Entry) → AllByRecursion (AreOwn items marks) entries
      → AllByRecursion (FreeBack items) entries → AllByRecursion (FreeOwn items marks) entries
  back-own [] own free = tt
  back-own (entry ∷ entries) own free = (
    record { own = lists-own items marks entry own.0 free.0.items; long = lists-length items marks entry free.0.items; back = free.0.back },
    back-own entries own.1 free.1,
  )
