-- The item of a shelf that is allocated under an id, and the shelf with it returned.
use Rattle.std.proofs.Common.{◌≡◌, ℕ, true, false, Option, None, Some, List, refl, ap, ◌∙◌, zero, suc, [], ◌∷◌, sym}
use Rattle.std.proofs.lemmas.Bool.{eqb-true}
use Rattle.std.specs.Prelude.{slice_get, is_some}
use Rattle.etagere_base.specs.declared.frames.Frame.{Frame}
use Rattle.shelf_model.specs.Merging.{merged_shelf}
use Rattle.shelf_model.specs.Returning.{has_id, number_of, freed_shelf, is_free_at}
use Rattle.shelf_model.specs.State.{Item, Shelf, is_free}
use Rattle.shelf_model.proofs.Allocations.InShelves.{returned_shelf}
use Rattle.etagere_base.proofs.FirstPlace.{first-at}
use Rattle.etagere_base.proofs.ReplacedLists.{IsAt}

-- the item of a shelf that is allocated under an id, and where it stands
pub record AllocatedItem (id : ℕ) (items : List Item) : Type 0 where
  pub number : ℕ
  pub item : Item
  pub found : number_of id items ≡ Some number
  pub at : IsAt items number item
  pub owner : item.id ≡ Some id

-- an item that an id's test finds is allocated by the id
has_id-true : (id : ℕ) (owner : Option ℕ) → has_id id owner ≡ true → owner ≡ Some id
has_id-true id None h = absurd (cc)
has_id-true id (Some owner) h = ap Some (eqb-true owner id h)

-- the item of the number that is found for an id
allocated_item_at : (id : ℕ) (items : List Item) (n : ℕ) → number_of id items ≡ Some n → AllocatedItem id items
allocated_item_at id items n found =
    let split = first-at (λ (item : Item). has_id id item.id) items n found in
    record {
      number = n;
      item = split.first;
      found = found;
      at = split.at;
      owner = has_id-true id split.first.id split.passes;
    }

-- an id that holds an item of some holds the one of its number
pub item_of_owner : (id : ℕ) (items : List Item) → is_some (number_of id items) ≡ true → AllocatedItem id items
item_of_owner id items h = by_number (number_of id items) refl h
  where
    by_number : (o : Option ℕ) → number_of id items ≡ o → is_some o ≡ true → AllocatedItem id items
    by_number None e h = absurd (cc)
    by_number (Some n) e h = allocated_item_at id items n e

-- an allocated item is not free
pub not_free : (id : ℕ) (item : Item) → item.id ≡ Some id → is_free item ≡ false
not_free id item h = rw h refl

-- returning an id to a shelf that holds it frees the item of its number
pub returned_shelf-allocated : (frame : Frame) (id n : ℕ) (shelf : Shelf) → number_of id shelf.items ≡ Some n
    → returned_shelf frame id shelf ≡ merged_shelf (freed_shelf frame n shelf)
returned_shelf-allocated frame id n shelf h = rw h refl

-- returning an id to a shelf changes neither its column nor its height
pub column-returned_shelf : (frame : Frame) (id : ℕ) (shelf : Shelf) → (returned_shelf frame id shelf).column ≡ shelf.column
column-returned_shelf frame id shelf = by_number (number_of id shelf.items) refl
  where
    by_number : (o : Option ℕ) → number_of id shelf.items ≡ o → (returned_shelf frame id shelf).column ≡ shelf.column
    by_number None e = rw e refl
    by_number (Some n) e = rw e refl

-- returning an id to a shelf doesn't change its height
pub height-returned_shelf : (frame : Frame) (id : ℕ) (shelf : Shelf) → (returned_shelf frame id shelf).height ≡ shelf.height
height-returned_shelf frame id shelf = by_number (number_of id shelf.items) refl
  where
    by_number : (o : Option ℕ) → number_of id shelf.items ≡ o → (returned_shelf frame id shelf).height ≡ shelf.height
    by_number None e = rw e refl
    by_number (Some n) e = rw e refl

-- the item of a number is free or not as the item that is read there
pub is_free_at-get : (n : ℕ) (items : List Item) (item : Item) → slice_get items n ≡ Some item → is_free_at n items ≡ is_free item
is_free_at-get n [] item h = absurd (cc)
is_free_at-get zero (first ∷ items) item h = let same : first ≡ item = cc in ap is_free same
is_free_at-get (suc n) (first ∷ items) item h = is_free_at-get n items item h

-- the item under the number of an id is allocated
pub number_of-allocated : (id n : ℕ) (items : List Item) → number_of id items ≡ Some n → is_free_at n items ≡ false
number_of-allocated id n items h =
    let there : is_some (number_of id items) ≡ true = ap is_some h in
    let allocations = item_of_owner id items there in
    let number : allocations.number ≡ n = cc in
    let get : slice_get items n ≡ Some allocations.item = ap (λ m. slice_get items m) (sym number) ∙ allocations.at.get in
    is_free_at-get n items allocations.item get ∙ not_free id allocations.item allocations.owner
