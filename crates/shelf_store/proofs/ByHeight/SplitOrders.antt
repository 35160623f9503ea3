-- Where shelves begin and how tall they are once a shelf was split and its item given.
use Rattle.std.proofs.Common.{◌≡◌, ◌≢◌, ℕ, ◌+◌, ◌*◌, ◌<◌, ◌≤◌, Bool, true, false, Option, None, Some, List, length, refl, ap, arith, sym, ◌∙◌}
use Rattle.etagere_base.specs.Lists.{times}
use Rattle.etagere_base.specs.declared.frames.Frame.{Frame}
use Rattle.etagere_links.specs.Edits.{changed_by, link_at}
use Rattle.shelf_records.specs.ListEdits.{first_without, linked_between}
use Rattle.shelf_records.specs.RecordLists.{Records, first_free_of, shelf_walk}
use Rattle.shelf_records.specs.RecordMerges.{shelf_split}
use Rattle.shelf_records.specs.RecordUses.{rests_of, rests_used}
use Rattle.shelf_records.specs.Records.{free_list, item_chain, shelf_chain}
use Rattle.shelf_records.specs.declared.records.LinkedItem.{LinkedItem}
use Rattle.shelf_records.specs.declared.records.LinkedShelf.{LinkedShelf}
use Rattle.etagere_links.proofs.FieldChanges.{field_at-kept}
use Rattle.etagere_links.proofs.RecordChanges.{length-changed_by}
use Rattle.shelf_records.proofs.RecordFrames.{length-linked_between, map-linked_between}
use Rattle.shelf_records.specs.AtlasRecords.{across_of, along_of, height_of}
use Rattle.shelf_model.specs.Choice.{Placement}
use Rattle.shelf_heights.specs.Private.ByHeight.{order_of, chain_order}
use Rattle.shelf_records.specs.Private.Kept.{AreKept}
use Rattle.shelf_store.specs.Private.PlacementTaken.{placement_taken, shelf_split_for, with_item_given, with_rest_written}
use Rattle.shelf_heights.proofs.ByHeight.OrdersRise.{LiesWithin, kept-within, orders-rise}
use Rattle.shelf_heights.proofs.ByHeight.RisingNumbers.{rise-same}
use Rattle.shelf_records.proofs.Recorded.Members.{Each-member}
use Rattle.shelf_store.proofs.Spelled.GivenItems.{front-shelves, given-shelves}
use Rattle.shelf_records.proofs.Spelled.RecordValues.{SameShelf, shelf-other, shelf_values, shelves-same, SameShelf-then}
use Rattle.shelf_store.proofs.Spelled.SpelledMerges.{free-first}
use Rattle.shelf_store.proofs.Spelled.SpelledShelves.{shelves-keep_values}
use Rattle.shelf_store.proofs.Spelled.SpelledUses.{same-shelf, shelves-used}

-- a shelf begins where it began, and is as tall
pub record StandsSame (shelves new : List LinkedShelf) (k : ℕ) : Type 0 where
  pub in_chain : chain_order new k ≡ chain_order shelves k
  pub height : height_of new k ≡ height_of shelves k

-- so does one that says the same
pub stands-same : (shelves new : List LinkedShelf) (k : ℕ) → SameShelf shelves new k → StandsSame shelves new k
stands-same shelves new k same = record { in_chain = omega (arith, same.along, same.across); height = same.height }

-- one change after another
pub stands-then : (old middle new : List LinkedShelf) (k : ℕ) → StandsSame old middle k → StandsSame middle new k → StandsSame old new k
stands-then old middle new k one two = record { in_chain = two.in_chain ∙ one.in_chain; height = two.height ∙ one.height }

-- it stands where it stood in the order
pub order-stands : (shelves new : List LinkedShelf) (k : ℕ) → StandsSame shelves new k → order_of new k ≡ order_of shelves k
order-stands shelves new k same = ap (λ (h : ℕ). h * (65536 * 65536) + chain_order new k) same.height ∙ ap (λ (in_chain : ℕ). height_of shelves k * (65536 * 65536) + in_chain) same.in_chain

-- shelves say the same once records were put to use
pub same-used : (of_shelf of_item : Bool) (records : Records) (k : ℕ) → SameShelf records.shelves (rests_used of_shelf of_item records).shelves k
same-used false of_item records k = same-shelf records.shelves k
same-used true of_item records k = shelves-used records.unused_shelves records.shelves k

-- the other shelves say the same once one was split
pub same-split : (records : Records) (number rest rest_item height : ℕ) (rest_shelf : LinkedShelf) (item : LinkedItem) (k : ℕ) → number ≢ k → rest ≢ k
    → SameShelf records.shelves (shelf_split number rest rest_item height rest_shelf item records).shelves k
same-split records number rest rest_item height rest_shelf item k other rest_other =
    let old : List LinkedShelf = records.shelves in
    let one : List LinkedShelf = changed_by (Some rest) (λ _. rest_shelf) old in
    let next : Option ℕ = link_at shelf_chain.next one number in
    let two : List LinkedShelf = linked_between shelf_chain (Some number) next rest one in
    let written : SameShelf old one k = shelf-other old old (λ _. rest_shelf) rest k (λ e. let same : rest ≡ k = cc in rest_other same) (same-shelf old k) in
    let linked : SameShelf one two k = shelves-same one two k (map-linked_between shelf_chain shelf_values shelves-keep_values one (Some number) next rest) in
    shelf-other old two (λ x. record x { height = height }) number k (λ e. let same : number ≡ k = cc in other same) (SameShelf-then old one two k written linked)

-- there are as many then
pub length-split : (records : Records) (number rest rest_item height : ℕ) (rest_shelf : LinkedShelf) (item : LinkedItem)
    → length (shelf_split number rest rest_item height rest_shelf item records).shelves ≡ length records.shelves
length-split records number rest rest_item height rest_shelf item =
    let old : List LinkedShelf = records.shelves in
    let one : List LinkedShelf = changed_by (Some rest) (λ _. rest_shelf) old in
    let next : Option ℕ = link_at shelf_chain.next one number in
    length-changed_by (λ (x : LinkedShelf). record x { height = height }) (linked_between shelf_chain (Some number) next rest one) (Some number)
    ∙ length-linked_between shelf_chain one (Some number) next rest
    ∙ length-changed_by (λ _. rest_shelf) old (Some rest)

-- shelves say the same once an item was given
same-given : (found : Placement) (rest : Option ℕ) (records : Records) (k : ℕ) → SameShelf records.shelves (with_item_given found rest records).shelves k
same-given found None records k =
    shelves-same records.shelves (with_item_given found None records).shelves k
    (free-first found.shelf (first_without (link_at free_list.previous records.items found.item) (link_at free_list.next records.items found.item) (first_free_of records.shelves found.shelf)) records.shelves)
same-given found (Some rest) records k =
    let items : List LinkedItem = (with_rest_written found rest records).items in
    let one : List LinkedItem = linked_between item_chain (Some found.item) (link_at item_chain.next items found.item) rest items in
    let two : List LinkedItem = linked_between free_list (Some found.item) (link_at free_list.next one found.item) rest one in
    shelves-same records.shelves (with_item_given found (Some rest) records).shelves k
    (free-first found.shelf (first_without (link_at free_list.previous two found.item) (link_at free_list.next two found.item) (first_free_of records.shelves found.shelf)) records.shelves)

-- there are as many then
pub length-given : (found : Placement) (rest : Option ℕ) (records : Records) → length (with_item_given found rest records).shelves ≡ length records.shelves
length-given found None records = given-shelves records found.shelf found.item
length-given found (Some rest) records = front-shelves (with_rest_written found rest records) found.shelf found.item rest found.width

-- a shelf begins where it began once its item was given, and it was marked
pub stands-taken : (column_width : ℕ) (found : Placement) (records : Records) (k : ℕ)
    → StandsSame (shelf_split_for column_width found records).shelves (placement_taken column_width found records).shelves k
stands-taken column_width found records k =
    let split : Records = shelf_split_for column_width found records in
    let given : Records = with_item_given found (rests_of found.splits_shelf found.splits_item records).item split in
    let same : SameShelf split.shelves given.shelves k = same-given found (rests_of found.splits_shelf found.splits_item records).item split k in
    let marked : LinkedShelf → LinkedShelf = λ here. record here { is_empty = false } in
    let new : List LinkedShelf = changed_by (Some found.shelf) marked given.shelves in
    stands-then split.shelves given.shelves new k (stands-same split.shelves given.shelves k same)
    (record {
      in_chain = omega (arith, field_at-kept (λ (x : LinkedShelf). x.x) 0 marked given.shelves found.shelf k (λ x. refl), field_at-kept (λ (x : LinkedShelf). x.y) 0 marked given.shelves found.shelf k (λ x. refl));
      height = field_at-kept (λ (x : LinkedShelf). x.height) 0 marked given.shelves found.shelf k (λ x. refl);
    })

-- there are as many then
pub length-taken : (column_width : ℕ) (found : Placement) (records : Records)
    → length (placement_taken column_width found records).shelves ≡ length (shelf_split_for column_width found records).shelves
length-taken column_width found records =
    let split : Records = shelf_split_for column_width found records in
    let rest : Option ℕ = (rests_of found.splits_shelf found.splits_item records).item in
    length-changed_by (λ (here : LinkedShelf). record here { is_empty = false }) (with_item_given found rest split).shelves (Some found.shelf)
    ∙ length-given found rest split

-- two of one order stand at one in the chain, where these are below a bound
one-in_chain : (height in_chain high other : ℕ) → in_chain < 65536 * 65536 → other < 65536 * 65536 → height * (65536 * 65536) + in_chain ≡ high * (65536 * 65536) + other → in_chain ≡ other
one-in_chain height in_chain high other below above same = omega (arith, below, above, same)

-- an order in the chain is below the bound
in_chain-low : (along across : ℕ) → along < 65536 → across < 65536 → along * 65536 + across < 65536 * 65536
in_chain-low along across low short = omega (arith, low, short)

-- no two shelves in use of kept records share a place in the order, also among records that keep the places alone
pub orders-apart : (frame : Frame) (records : Records) (kept_as : List LinkedShelf) (k other : ℕ) → AreKept frame records → 1 ≤ times k (shelf_walk records).met → 1 ≤ times other (shelf_walk records).met
    → chain_order kept_as k ≡ chain_order records.shelves k → chain_order kept_as other ≡ chain_order records.shelves other
    → k ≢ other → order_of kept_as k ≢ order_of kept_as other
orders-apart frame records kept_as k other kept stands other_stands in_chain other_in_chain differ same =
    let here : LiesWithin frame records.shelves k = Each-member (LiesWithin frame records.shelves) (shelf_walk records).met k (kept-within frame records kept) stands in
    let there : LiesWithin frame records.shelves other = Each-member (LiesWithin frame records.shelves) (shelf_walk records).met other (kept-within frame records kept) other_stands in
    let one : chain_order kept_as k ≡ chain_order kept_as other =
    one-in_chain (height_of kept_as k) (chain_order kept_as k) (height_of kept_as other) (chain_order kept_as other)
    (omega (arith, in_chain, in_chain-low (along_of records.shelves k) (across_of records.shelves k) here.along here.across))
    (omega (arith, other_in_chain, in_chain-low (along_of records.shelves other) (across_of records.shelves other) there.along there.across)) same in
    differ (rise-same (chain_order records.shelves) 0 (shelf_walk records).met (orders-rise frame records kept) k other stands other_stands (sym in_chain ∙ one ∙ other_in_chain))
