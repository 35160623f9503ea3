-- Of each shelf in use a width that no more than one of its free items passes, and how it changes: where the item that
-- passes it is taken, it bounds what is left.
use Rattle.std.specs.Prelude.{◌≡◌, ℕ, ◌-◌, ◌<◌, ◌≤◌, ◌&&◌, Bool, false, not, Option, IfSome, is_none, is_some, List, map, max, nat_lt, set, if◌then◌else◌}
use Rattle.etagere_links.specs.Edits.{link_at}
use Rattle.shelf_records.specs.Records.{free_list}
use Rattle.std.specs.Option.{option_map_or}
use Rattle.std.specs.List.{AllByRecursion}
use Rattle.etagere_base.specs.Lists.{total}
use Rattle.shelf_heights.specs.Private.ByHeight.{bound_of, rebounded}
use Rattle.shelf_heights.specs.declared.by_height.BoundedShelf.{BoundedShelf}
use Rattle.shelf_model.specs.Choice.{Placement}
use Rattle.shelf_model.specs.State.{Item, is_free}
use Rattle.shelf_notes.specs.Private.Pending.{Notes, is_noted}
use Rattle.shelf_notes.specs.Private.SecondWidths.{second_at, second_freed}
use Rattle.shelf_records.specs.AtlasRecords.{item_at, shelf_of}
use Rattle.shelf_records.specs.RecordLists.{Entry, Records, walked_lists}
use Rattle.shelf_records.specs.declared.records.LinkedItem.{LinkedItem}
use Rattle.shelf_store.specs.Private.ItemReturned.{is_alone, item_merged, remaining_in}
use Rattle.shelf_store.specs.Private.ReturnedNotes.{freed_width, returned_notes}

-- whether an item is free and wider than this, as a number
abbrev pub wider : ℕ → Item → ℕ
wider width item = if is_free item && nat_lt width item.width then 1 else 0

-- how many free items are wider than this
abbrev pub wider_count : ℕ → List Item → ℕ
wider_count width items = total (wider width) items

-- no more than one free item of a shelf passes the width that is kept of it
abbrev pub IsSecondOf : List LinkedItem → List ℕ → Entry → Type 0
IsSecondOf items seconds entry = wider_count (second_at seconds entry.number) (map (item_at items) entry.items) ≤ 1

-- nor of each of these
abbrev pub AreSecondsOf : List LinkedItem → List Entry → List ℕ → Type 0
AreSecondsOf items entries seconds = AllByRecursion (IsSecondOf items seconds) entries

-- nor of each shelf in use of these records
abbrev pub AreSeconds : Records → List ℕ → Type 0
AreSeconds records seconds = AreSecondsOf records.items (walked_lists records).entries seconds

-- the width of a shelf once an item as wide as this became free; the bound of one that has changed isn't known
abbrev pub second_after : Bool → ℕ → ℕ → ℕ → ℕ
second_after changed width bound second = if changed then max second width else second_freed bound width second

-- all widths then
abbrev pub seconds_after : Bool → ℕ → ℕ → List BoundedShelf → List ℕ → List ℕ
seconds_after changed shelf width by_height seconds =
    set seconds shelf (second_after changed width (bound_of shelf by_height) (second_at seconds shelf))

-- whether the item that remains of one that was returned stands alone in its shelf
abbrev pub stands_alone : ℕ → ℕ → Records → Bool
stands_alone shelf number records = is_alone (item_merged shelf number records).records.items (remaining_in shelf number records)

-- all widths after the item of a number was returned; any is right of a shelf with one free item
abbrev pub returned_seconds : ℕ → Records → Notes → List BoundedShelf → List ℕ → List ℕ
returned_seconds number records notes by_height seconds =
    let shelf = shelf_of records.items number in
    if stands_alone shelf number records
    then seconds
    else seconds_after (is_noted (returned_notes number records notes) shelf) shelf (freed_width records.items number) by_height seconds

-- the item of a placement alone passes the width of its shelf, which has not changed, and this is the least that is not
-- below that width nor below what is left of the item
pub record IsBoundLeft (items : List LinkedItem) (notes : Notes) (seconds : List ℕ) (found : Placement) (bound : ℕ) : Type 0 where
  pub unnoted : is_noted notes found.shelf ≡ false
  pub whole : found.splits_shelf ≡ false
  pub wide : second_at seconds found.shelf < (item_at items found.item).width
  pub second : second_at seconds found.shelf ≤ bound
  pub rest : (item_at items found.item).width - found.width ≤ bound
  pub least : bound ≡ max (second_at seconds found.shelf) ((item_at items found.item).width - found.width)

-- whether an item is the only free one of its shelf
abbrev pub is_only_free : List LinkedItem → ℕ → Bool
is_only_free items number =
    is_none (link_at free_list.previous items number)
    && is_none (link_at free_list.next items number)

-- whether there is such a bound, where another item of the shelf is free
abbrev pub leaves_bound : List LinkedItem → Notes → List ℕ → Placement → Bool
leaves_bound items notes seconds found =
    not (is_only_free items found.item)
    && (nat_lt (second_at seconds found.shelf) (item_at items found.item).width
    && (not found.splits_shelf && not (is_noted notes found.shelf)))

-- the list of shelves by height once a placement was taken: as it was, or with the bound that is left of its shelf
pub record FollowsTaking (items : List LinkedItem) (notes : Notes) (seconds : List ℕ) (found : Placement) (old new : List BoundedShelf) : Type 0 where
  pub left : Option ℕ
  pub due : is_some left ≡ leaves_bound items notes seconds found
  pub bounds : IfSome left (IsBoundLeft items notes seconds found)
  pub list : new ≡ option_map_or (λ (bound : ℕ). rebounded found.shelf bound old) left old
