-- What bounds the free items of a shelf bounds them after one of them was taken.
use Rattle.std.proofs.Common.{◌≡◌, ℕ, ◌-◌, Bool, true, false, None, List, [], ◌∷◌, ◌++◌, ap, arith, ◌∙◌, sym, subst}
use Rattle.std.specs.Prelude.{cond, is_none}
use Rattle.etagere_base.proofs.EachLemmas.{Each-append, Each-back, Each-front}
use Rattle.std.specs.List.{AllByRecursion}
use Rattle.etagere_base.specs.Lists.{replaced_at}
use Rattle.etagere_base.specs.declared.frames.Frame.{Frame}
use Rattle.shelf_model.specs.Choice.{Placement}
use Rattle.shelf_heights.specs.Private.ByHeight.{IsBound}
use Rattle.shelf_model.specs.State.{Item, Shelf, is_free}
use Rattle.shelf_model.specs.Taking.{item_pieces, taken_shelf}
use Rattle.shelf_model.proofs.Taken.TakenShelves.{IsTaking}
use Rattle.shelf_store.proofs.ByHeight.FreedBounds.{IsWithin}

-- the pieces of an item are no wider
pieces-low : (widest : ℕ) (placement : Placement) (id : ℕ) (item : Item) → is_free item ≡ true → IsWithin widest item → AllByRecursion (IsWithin widest) (item_pieces placement id item)
pieces-low widest placement id item free low = (λ given. absurd (cc), by_split placement.splits_item)
  where
    by_split : (b : Bool) → AllByRecursion (IsWithin widest) (cond b (record { width = item.width - placement.width; id = None } ∷ []) [])
    by_split true = (λ rest. omega (arith, low free), tt)
    by_split false = tt

-- the bound of a shelf stays one when an item of it is taken
pub bound-taken : (frame : Frame) (widest : ℕ) (placement : Placement) (id : ℕ) (shelf : Shelf) → IsTaking frame placement shelf → IsBound widest shelf → IsBound widest (taken_shelf placement id shelf)
bound-taken frame widest placement id shelf takes bound =
    let front : List Item = takes.found.at.front in
    let back : List Item = takes.found.at.back in
    let item : Item = takes.found.item in
    let split : AllByRecursion (IsWithin widest) (front ++ item ∷ back) = subst (AllByRecursion (IsWithin widest)) takes.found.at.whole bound in
    let tail : AllByRecursion (IsWithin widest) (item ∷ back) = Each-back (IsWithin widest) front (item ∷ back) split in
    let pieces : AllByRecursion (IsWithin widest) (item_pieces placement id item) = pieces-low widest placement id item (ap is_none takes.room.free) tail.0 in
    let is : replaced_at placement.item (item_pieces placement id) shelf.items ≡ front ++ (item_pieces placement id item ++ back) =
    ap (λ n. replaced_at n (item_pieces placement id) shelf.items) takes.item ∙ takes.found.at.split (item_pieces placement id) in
    subst (AllByRecursion (IsWithin widest)) (sym is)
    (Each-append (IsWithin widest) front (item_pieces placement id item ++ back) (Each-front (IsWithin widest) front (item ∷ back) split)
    (Each-append (IsWithin widest) (item_pieces placement id item) back pieces tail.1))
