-- The free item of a place in a shelf.
use Rattle.std.proofs.Common.{◌≡◌, ℕ, suc, ◌+◌, ◌<◌, ◌≤◌, Bool, true, false, cond, None, List, [], ◌∷◌, ◌++◌, refl, ap, ◌∙◌, arith}
use Rattle.std.proofs.lemmas.Bool.{cond-true, cond-false}
use Rattle.std.specs.Prelude.{◌==◌}
use Rattle.etagere_base.specs.declared.frames.Frame.{Frame}
use Rattle.shelf_model.specs.Choice.{number_at, width_at}
use Rattle.std.specs.List.{AllByRecursion}
use Rattle.etagere_base.specs.Lists.{times}
use Rattle.shelf_model.specs.Places.{free_places}
use Rattle.shelf_model.specs.State.{Item, is_free, total_width}
use Rattle.shelf_model.specs.Valid.{IsItem}
use Rattle.etagere_base.proofs.ReplacedLists.{IsAt, at-behind, at-start}
use Rattle.shelf_model.proofs.Places.FreePlaces.{once-other, starts-before, starts-cons}
use Rattle.shelf_model.proofs.Allocations.AllocatedTotals.{no_id}

-- the free item of a place in a row of items, the first one here
pub record IsFreeAt (here : ℕ) (items : List Item) (place : ℕ) : Type 0 where
  pub item : Item
  pub number : ℕ
  pub is : number_at here items place ≡ number
  pub at : IsAt items number item
  pub begins : place ≡ here + total_width at.front
  pub free : item.id ≡ None
  pub width : width_at here items place ≡ item.width

-- where a place is counted that is the first item's, that item is free
counted-free : (here : ℕ) (item : Item) (items : List Item) (place : ℕ) (b : Bool)
    → place < here + item.width → 1 ≤ times place (cond b (here ∷ []) [] ++ free_places (here + item.width) items) → b ≡ true
counted-free here item items place true h k = refl
counted-free here item items place false h k = absurd (omega (arith, starts-before place (here + item.width) items h))

-- a place of a free item has its item
pub free_at : (frame : Frame) (here : ℕ) (items : List Item) (place : ℕ) → AllByRecursion (IsItem frame) items → 1 ≤ times place (free_places here items) → IsFreeAt here items place
free_at frame here [] place each h = absurd (omega arith)
free_at frame here (item ∷ items) place each h = by_test (here == place) refl (free_at frame (here + item.width) items place each.1)
  where
    by_test : (b : Bool) → (here == place) ≡ b → (1 ≤ times place (free_places (here + item.width) items) → IsFreeAt (here + item.width) items place) → IsFreeAt here (item ∷ items) place
    by_test true e later =
        record {
          item = item;
          number = 0;
          is = cond-true (here == place) _ _ e;
          at = at-start item items;
          begins = grind arith;
          free = no_id item (counted-free here item items place (is_free item) (grind arith) h);
          width = cond-true (here == place) _ _ e;
        }
    by_test false e later =
        let found = later (omega (arith, h, starts-cons place here item items, once-other (is_free item) here place e)) in
        record {
          item = found.item;
          number = suc found.number;
          is = cond-false (here == place) _ _ e ∙ ap suc found.is;
          at = at-behind found.item item items found.number found.at;
          begins = omega (arith, found.begins);
          free = found.free;
          width = cond-false (here == place) _ _ e ∙ found.width;
        }
