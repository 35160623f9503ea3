-- The shelf that records spell after an item of it was given is the one of the model.
use Rattle.std.proofs.Common.{◌≡◌, ◌≢◌, ℕ, ◌+◌, ◌-◌, ◌<◌, ◌≤◌, Bool, true, false, None, Some, List, [], ◌∷◌, ◌++◌, length, map, refl, ap, ◌∙◌, sym}
use Rattle.std.proofs.lemmas.List.{map-append}
use Rattle.std.specs.Prelude.{◌/◌, if◌then◌else◌}
use Rattle.etagere_base.specs.Lists.{times, remove_number, replace_number, replaced_at}
use Rattle.shelf_records.proofs.AllLists.LinkedItems.{entry_of}
use Rattle.shelf_records.specs.declared.records.LinkedItem.{LinkedItem}
use Rattle.shelf_records.specs.RecordLists.{Records, Entry}
use Rattle.shelf_records.specs.AtlasRecords.{AtlasRecords, is_allocated_at, item_place_of, along_of, height_of, item_at, spelled_shelf}
use Rattle.shelf_model.specs.Choice.{Placement}
use Rattle.shelf_model.specs.State.{Item, Shelf}
use Rattle.shelf_store.proofs.Spelled.MergedAround.{remove-mapped, replace-mapped}
use Rattle.shelf_records.proofs.Spelled.RecordValues.{map-agrees}
use Rattle.shelf_store.proofs.Spelled.SpelledLists.{with_records}
use Rattle.shelf_store.proofs.Spelled.SpelledSplits.{shelf-parts}

-- the shelf of a placement after it was taken, where this says whether its item is split
abbrev pub taken_from : Bool → Placement → ℕ → Shelf → Shelf
taken_from splits placement id shelf =
    record {
      column = shelf.column;
      height = placement.height;
      items = replaced_at placement.item
          (λ (item : Item). record { width = placement.width; id = Some id }
          ∷ (if splits then record { width = item.width - placement.width; id = None } ∷ [] else [])) shelf.items;
      free_list = if splits then replace_number placement.along (placement.along + placement.width) shelf.free_list else remove_number placement.along shelf.free_list;
    }

-- a member of a list replaced by pieces
replaced-mapped : {X : Type 0} (f : ℕ → X) (pieces : X → List X) (front back : List ℕ) (number : ℕ) → replaced_at (length front) pieces (map f (front ++ number ∷ back)) ≡ map f front ++ (pieces (f number) ++ map f back)
replaced-mapped f pieces [] back number = refl
replaced-mapped f pieces (x ∷ front) back number = ap (λ ys. f x ∷ ys) (replaced-mapped f pieces front back number)

-- a free item where it stands: its shelf, the items around it and the free ones around it
pub record FreeSpot : Type 0 where
  pub shelf : ℕ
  pub number : ℕ
  pub front : List ℕ
  pub back : List ℕ
  pub free_front : List ℕ
  pub free_back : List ℕ

abbrev pub free_spot : ℕ → ℕ → List ℕ → List ℕ → List ℕ → List ℕ → FreeSpot
free_spot shelf number front back free_front free_back =
    record { shelf = shelf; number = number; front = front; back = back; free_front = free_front; free_back = free_back }

-- the lists of its shelf
abbrev pub spot_entry : FreeSpot → Entry
spot_entry spot = entry_of spot.shelf (spot.front ++ spot.number ∷ spot.back) (spot.free_front ++ spot.number ∷ spot.free_back)

-- an item of a shelf as a placement names it: free, among these items and in this free list
pub record IsPlacedAt (items : List LinkedItem) (placement : Placement) (spot : FreeSpot) : Type 0 where
  pub at : placement.item ≡ length spot.front
  pub along : placement.along ≡ item_place_of items spot.number
  pub free : is_allocated_at items spot.number ≡ false
  pub split : placement.splits_item ≡ true → placement.width < (item_at items spot.number).width
  pub whole : placement.splits_item ≡ false → placement.width ≡ (item_at items spot.number).width
  pub apart : (k : ℕ) → 1 ≤ times k (spot.free_front ++ spot.free_back) → item_place_of items k ≢ item_place_of items spot.number

-- the items and places of others are those that they were
pub record KeepsOthers (items new : List LinkedItem) (spot : FreeSpot) : Type 0 where
  pub before : (k : ℕ) → 1 ≤ times k spot.front → item_at new k ≡ item_at items k
  pub after : (k : ℕ) → 1 ≤ times k spot.back → item_at new k ≡ item_at items k
  pub free_before : (k : ℕ) → 1 ≤ times k spot.free_front → item_place_of new k ≡ item_place_of items k
  pub free_after : (k : ℕ) → 1 ≤ times k spot.free_back → item_place_of new k ≡ item_place_of items k

-- the items that are spelled around some
around : (items new : List LinkedItem) (front middle back : List ℕ) → ((k : ℕ) → 1 ≤ times k front → item_at new k ≡ item_at items k) → ((k : ℕ) → 1 ≤ times k back → item_at new k ≡ item_at items k) → map (item_at new) (front ++ (middle ++ back)) ≡ map (item_at items) front ++ (map (item_at new) middle ++ map (item_at items) back)
around items new front middle back same_front same_back =
    map-append (item_at new) front (middle ++ back)
    ∙ ap (λ (is : List Item). is ++ map (item_at new) (middle ++ back)) (map-agrees (item_at new) (item_at items) front same_front)
    ∙ ap (λ (is : List Item). map (item_at items) front ++ is) (map-append (item_at new) middle back)
    ∙ ap (λ (is : List Item). map (item_at items) front ++ (map (item_at new) middle ++ is)) (map-agrees (item_at new) (item_at items) back same_back)

-- the places around some
places-around : (items new : List LinkedItem) (front middle back : List ℕ) → ((k : ℕ) → 1 ≤ times k front → item_place_of new k ≡ item_place_of items k) → ((k : ℕ) → 1 ≤ times k back → item_place_of new k ≡ item_place_of items k) → map (item_place_of new) (front ++ (middle ++ back)) ≡ map (item_place_of items) front ++ (map (item_place_of new) middle ++ map (item_place_of items) back)
places-around items new front middle back same_front same_back =
    map-append (item_place_of new) front (middle ++ back)
    ∙ ap (λ (is : List ℕ). is ++ map (item_place_of new) (middle ++ back)) (map-agrees (item_place_of new) (item_place_of items) front same_front)
    ∙ ap (λ (is : List ℕ). map (item_place_of items) front ++ is) (map-append (item_place_of new) middle back)
    ∙ ap (λ (is : List ℕ). map (item_place_of items) front ++ (map (item_place_of new) middle ++ is)) (map-agrees (item_place_of new) (item_place_of items) back same_back)

-- the shelf after an item was given whole
pub whole-spelled : (atlas : AtlasRecords) (records : Records) (placement : Placement) (spot : FreeSpot) (id : ℕ) → IsPlacedAt atlas.records.items placement spot → KeepsOthers atlas.records.items records.items spot → along_of records.shelves spot.shelf ≡ along_of atlas.records.shelves spot.shelf → height_of records.shelves spot.shelf ≡ placement.height → item_at records.items spot.number ≡ record { width = placement.width; id = Some id } → spelled_shelf (with_records atlas records) (entry_of spot.shelf (spot.front ++ spot.number ∷ spot.back) (spot.free_front ++ spot.free_back)) ≡ taken_from false placement id (spelled_shelf atlas (spot_entry spot))
whole-spelled atlas records placement spot id is keeps along height item =
    let old : List LinkedItem = atlas.records.items in
    let new : List LinkedItem = records.items in
    let cw : ℕ = atlas.frame.column_width in
    let pieces : Item → List Item = λ i. record { width = placement.width; id = Some id } ∷ [] in
    let items : map (item_at new) (spot.front ++ spot.number ∷ spot.back) ≡ replaced_at placement.item pieces (map (item_at old) (spot.front ++ spot.number ∷ spot.back)) =
    around old new spot.front (spot.number ∷ []) spot.back keeps.before keeps.after
    ∙ ap (λ (i : Item). map (item_at old) spot.front ++ i ∷ map (item_at old) spot.back) item
    ∙ sym (replaced-mapped (item_at old) pieces spot.front spot.back spot.number)
    ∙ ap (λ n. replaced_at n pieces (map (item_at old) (spot.front ++ spot.number ∷ spot.back))) (sym is.at) in
    let places : map (item_place_of new) (spot.free_front ++ spot.free_back) ≡ remove_number placement.along (map (item_place_of old) (spot.free_front ++ spot.number ∷ spot.free_back)) =
    places-around old new spot.free_front [] spot.free_back keeps.free_before keeps.free_after
    ∙ sym (map-append (item_place_of old) spot.free_front spot.free_back)
    ∙ sym (remove-mapped (item_place_of old) spot.free_front spot.free_back spot.number is.apart)
    ∙ ap (λ a. remove_number a (map (item_place_of old) (spot.free_front ++ spot.number ∷ spot.free_back))) (sym is.along) in
    shelf-parts (along_of records.shelves spot.shelf / cw) (along_of atlas.records.shelves spot.shelf / cw) (height_of records.shelves spot.shelf) placement.height
    (map (item_at new) (spot.front ++ spot.number ∷ spot.back)) (replaced_at placement.item pieces (map (item_at old) (spot.front ++ spot.number ∷ spot.back)))
    (map (item_place_of new) (spot.free_front ++ spot.free_back)) (remove_number placement.along (map (item_place_of old) (spot.free_front ++ spot.number ∷ spot.free_back)))
    (ap (λ a. a / cw) along) height items places

-- the shelf after the front of an item was given
pub front-spelled : (atlas : AtlasRecords) (records : Records) (placement : Placement) (spot : FreeSpot) (id rest : ℕ) → IsPlacedAt atlas.records.items placement spot → KeepsOthers atlas.records.items records.items spot → along_of records.shelves spot.shelf ≡ along_of atlas.records.shelves spot.shelf → height_of records.shelves spot.shelf ≡ placement.height → item_at records.items spot.number ≡ record { width = placement.width; id = Some id } → item_at records.items rest ≡ record { width = (item_at atlas.records.items spot.number).width - placement.width; id = None } → item_place_of records.items rest ≡ placement.along + placement.width → spelled_shelf (with_records atlas records) (entry_of spot.shelf (spot.front ++ spot.number ∷ rest ∷ spot.back) (spot.free_front ++ rest ∷ spot.free_back)) ≡ taken_from true placement id (spelled_shelf atlas (spot_entry spot))
front-spelled atlas records placement spot id rest is keeps along height item rest_item rest_place =
    let old : List LinkedItem = atlas.records.items in
    let new : List LinkedItem = records.items in
    let cw : ℕ = atlas.frame.column_width in
    let pieces : Item → List Item = λ i. record { width = placement.width; id = Some id } ∷ record { width = i.width - placement.width; id = None } ∷ [] in
    let items : map (item_at new) (spot.front ++ spot.number ∷ rest ∷ spot.back) ≡ replaced_at placement.item pieces (map (item_at old) (spot.front ++ spot.number ∷ spot.back)) =
    around old new spot.front (spot.number ∷ rest ∷ []) spot.back keeps.before keeps.after
    ∙ ap (λ (i : Item). map (item_at old) spot.front ++ i ∷ item_at new rest ∷ map (item_at old) spot.back) item
    ∙ ap (λ (i : Item). map (item_at old) spot.front ++ record { width = placement.width; id = Some id } ∷ i ∷ map (item_at old) spot.back) rest_item
    ∙ sym (replaced-mapped (item_at old) pieces spot.front spot.back spot.number)
    ∙ ap (λ n. replaced_at n pieces (map (item_at old) (spot.front ++ spot.number ∷ spot.back))) (sym is.at) in
    let places : map (item_place_of new) (spot.free_front ++ rest ∷ spot.free_back) ≡ replace_number placement.along (placement.along + placement.width) (map (item_place_of old) (spot.free_front ++ spot.number ∷ spot.free_back)) =
    places-around old new spot.free_front (rest ∷ []) spot.free_back keeps.free_before keeps.free_after
    ∙ ap (λ p. map (item_place_of old) spot.free_front ++ p ∷ map (item_place_of old) spot.free_back) rest_place
    ∙ sym (replace-mapped (item_place_of old) spot.free_front spot.free_back spot.number (placement.along + placement.width) is.apart)
    ∙ ap (λ a. replace_number a (placement.along + placement.width) (map (item_place_of old) (spot.free_front ++ spot.number ∷ spot.free_back))) (sym is.along) in
    shelf-parts (along_of records.shelves spot.shelf / cw) (along_of atlas.records.shelves spot.shelf / cw) (height_of records.shelves spot.shelf) placement.height
    (map (item_at new) (spot.front ++ spot.number ∷ rest ∷ spot.back)) (replaced_at placement.item pieces (map (item_at old) (spot.front ++ spot.number ∷ spot.back)))
    (map (item_place_of new) (spot.free_front ++ rest ∷ spot.free_back)) (replace_number placement.along (placement.along + placement.width) (map (item_place_of old) (spot.free_front ++ spot.number ∷ spot.free_back)))
    (ap (λ a. a / cw) along) height items places
