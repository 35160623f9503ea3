-- An atlas that holds nothing has the shelves of a new one.
use Rattle.std.proofs.Common.{◌≡◌, ℕ, zero, suc, ◌+◌, ◌<◌, ◌≤◌, Bool, true, false, ◌==◌, ◌&&◌, None, List, [], ◌∷◌, map, refl, ap, ◌∙◌, sym, ⊎_elim, arith, ◌≢◌}
use Rattle.std.proofs.lemmas.Bool.{true≢false, cases_lt}
use Rattle.std.specs.Prelude.{nat_lt}
use Rattle.etagere_base.specs.Frames.{across_side}
use Rattle.etagere_base.specs.declared.frames.Frame.{Frame}
use Rattle.shelf_model.specs.Fresh.{empty_columns, fresh, without_peak_items}
use Rattle.shelf_model.specs.Merging.{both_free, both_empty}
use Rattle.std.specs.List.{AllByRecursion}
use Rattle.etagere_base.specs.Lists.{times, NoNeighbours}
use Rattle.shelf_model.specs.Places.{column_place, column_height, free_places, allocations}
use Rattle.shelf_model.specs.State.{Item, Shelf, AtlasState, empty_shelf, is_empty, total_width}
use Rattle.shelf_model.specs.Valid.{IsShelf, IsValid, is_out_of_order}
use Rattle.shelf_model.proofs.Allocations.IdLists.{item_ids, ids}
use Rattle.etagere_base.proofs.EachLemmas.{Each-both, Each-weaken}
use Rattle.etagere_base.proofs.FrameSides.{across-positive}
use Rattle.shelf_model.proofs.Places.Heights.{column_height-alone, column_height-none, column_height-other}
use Rattle.shelf_model.proofs.Allocations.AllocatedIds.{id_of, ids-allocations_after}
use Rattle.shelf_model.proofs.Allocations.ItemIds.{free_first}
use Rattle.etagere_base.proofs.Totals.{nothing-flat_map}
use Rattle.etagere_base.proofs.NoNeighboursLemmas.{NoNeighbours-tail}
use Rattle.etagere_base.proofs.TimesLemmas.{times-one}

-- an item by its fields
item_is : (item : Item) (width : ℕ) → item.width ≡ width → item.id ≡ None → item ≡ record { width = width; id = None }
item_is item width w h = λ i. record { width = w i; id = h i }

-- items that nothing holds, no two side by side, are one free item
one_item : (width : ℕ) (items : List Item) → item_ids items ≡ [] → NoNeighbours both_free items → total_width items ≡ width → 1 ≤ width
    → items ≡ record { width = width; id = None } ∷ []
one_item width [] none apart total wide = absurd (omega arith)
one_item width (item ∷ []) none apart total wide =
    ap (λ (r : Item). r ∷ []) (item_is item width (omega arith) (free_first item [] none).0)
one_item width (item ∷ next ∷ items) none apart total wide =
    let first = free_first item (next ∷ items) none in
    let second = free_first next items first.1 in
    absurd (true≢false (sym (both_free-none item next first.0 second.0) ∙ apart.0))
  where
    both_free-none : (x y : Item) → x.id ≡ None → y.id ≡ None → both_free x y ≡ true
    both_free-none x y h k = rw (h, k) refl

-- the free list and the items of a shelf that nothing holds are those of an empty one
emptied : (frame : Frame) (shelf : Shelf) → 1 ≤ frame.column_width → IsShelf frame shelf → item_ids shelf.items ≡ [] → shelf ≡ empty_shelf frame shelf.column shelf.height
emptied frame shelf wide valid none =
    let items_are = one_item frame.column_width shelf.items none valid.apart valid.width wide in
    let free_list_is : shelf.free_list ≡ column_place frame shelf ∷ [] =
    times-one (column_place frame shelf) shelf.free_list
    (λ n. valid.free_list n ∙ ap (λ (items : List Item). times n (free_places (column_place frame shelf) items)) items_are) in
    λ i. record { column = shelf.column; height = shelf.height; items = items_are i; free_list = free_list_is i }

-- what stands behind a column stands behind each one before that
all_after : (a b : ℕ) (shelves : List Shelf) → a ≤ b → AllByRecursion (λ (s : Shelf). b < s.column) shelves → AllByRecursion (λ (s : Shelf). a < s.column) shelves
all_after a b shelves le later = Each-weaken (λ (s : Shelf). b < s.column) _ shelves (λ (s : Shelf) (h : b < s.column). omega arith) later

-- what stands behind a column stands in others
all_others : (column : ℕ) (shelves : List Shelf) → AllByRecursion (λ (s : Shelf). column < s.column) shelves → AllByRecursion (λ (s : Shelf). s.column ≢ column) shelves
all_others column shelves later = Each-weaken (λ (s : Shelf). column < s.column) _ shelves (λ (s : Shelf) (h : column < s.column) e. omega arith) later

-- shelves stand within columns
abbrev AreWithin : ℕ → ℕ → List Shelf → Type 0
AreWithin column end shelves = AllByRecursion (λ (s : Shelf). (column ≤ s.column) × (s.column < end)) shelves

-- shelves behind the first column stand within the others
narrowed : (column n : ℕ) (shelves : List Shelf) → AllByRecursion (λ (s : Shelf). column < s.column) shelves
    → AreWithin column (column + suc n) shelves → AreWithin (suc column) (suc column + n) shelves
narrowed column n shelves later within =
    Each-weaken (λ (s : Shelf). (column < s.column) × ((column ≤ s.column) × (s.column < column + suc n))) _ shelves
    (λ (s : Shelf) (h : (column < s.column) × ((column ≤ s.column) × (s.column < column + suc n))). (h.0, omega (arith, h.1.1)))
    (Each-both _ _ shelves later within)

-- each shelf stands in one of the columns
all_within : (frame : Frame) (shelves : List Shelf) → AllByRecursion (IsShelf frame) shelves → AreWithin 0 (0 + frame.columns) shelves
all_within frame shelves valid = Each-weaken (IsShelf frame) _ shelves (λ (s : Shelf) (v : IsShelf frame s). (omega arith, omega (arith, v.column))) valid

-- two empty shelves in order, not in one column, rise
rise : (a b : ℕ) (p q : Bool) → nat_lt b a ≡ false → (a == b && (p && q)) ≡ false → p ≡ true → q ≡ true → a < b
rise a b p q ordered apart h k = grind arith

module _ (frame : Frame) where
  -- nothing holds the shelf
  abbrev IsEmptied : Shelf → Type 0
  IsEmptied shelf = shelf ≡ empty_shelf frame shelf.column shelf.height

  -- shelves that nothing holds are empty ones
  all_emptied : 1 ≤ frame.column_width → (shelves : List Shelf) → AllByRecursion (IsShelf frame) shelves → ids shelves ≡ [] → AllByRecursion IsEmptied shelves
  all_emptied wide shelves valid none =
      Each-weaken _ IsEmptied shelves (λ (shelf : Shelf) (h : IsShelf frame shelf × (item_ids shelf.items ≡ [])). emptied frame shelf wide h.0 h.1)
      (Each-both (IsShelf frame) (λ (shelf : Shelf). item_ids shelf.items ≡ []) shelves valid (nothing-flat_map (λ shelf. item_ids shelf.items) shelves none))

  -- empty shelves that are none side by side stand in columns that rise
  all_rise : (x : Shelf) (shelves : List Shelf) → AllByRecursion IsEmptied (x ∷ shelves) → NoNeighbours is_out_of_order (x ∷ shelves) → NoNeighbours both_empty (x ∷ shelves)
      → AllByRecursion (λ (s : Shelf). x.column < s.column) shelves
  all_rise x [] empty ordered apart = tt
  all_rise x (y ∷ ys) empty ordered apart =
      let first = rise x.column y.column (is_empty x) (is_empty y) ordered.0 apart.0 (ap is_empty empty.0) (ap is_empty empty.1.0) in
      (first, all_after x.column y.column ys (omega arith) (all_rise y ys empty.1 ordered.1 apart.1))

  -- the first shelf stands in the first column
  first_column : (column : ℕ) (shelf : Shelf) (shelves : List Shelf) → AllByRecursion (λ (s : Shelf). shelf.column < s.column) shelves
      → column ≤ shelf.column → column_height column (shelf ∷ shelves) ≡ across_side frame → 1 ≤ across_side frame → shelf.column ≡ column
  first_column column shelf shelves later le height tall =
      ⊎_elim
      (λ (lt : column < shelf.column).
      let none = column_height-none column (shelf ∷ shelves) (all_others column (shelf ∷ shelves) (lt, all_after column shelf.column shelves le later)) in
      absurd (omega arith))
      (λ (ge : shelf.column ≤ column). omega arith)
      (cases_lt column shelf.column)

  -- one empty shelf a column, each of the full height
  all_columns : (column n : ℕ) (shelves : List Shelf) → AllByRecursion IsEmptied shelves → NoNeighbours is_out_of_order shelves → NoNeighbours both_empty shelves
      → AreWithin column (column + n) shelves
      → ((c : ℕ) → column ≤ c → c < column + n → column_height c shelves ≡ across_side frame) → 1 ≤ across_side frame
      → shelves ≡ empty_columns frame column n
  all_columns column zero [] empty ordered apart within heights tall = refl
  all_columns column zero (shelf ∷ shelves) empty ordered apart within heights tall = absurd (omega (arith, within.0))
  all_columns column (suc n) [] empty ordered apart within heights tall =
      absurd (omega (arith, heights column (omega arith) (omega arith)))
  all_columns column (suc n) (shelf ∷ shelves) empty ordered apart within heights tall =
      let later = all_rise shelf shelves empty ordered apart in
      let here = first_column column shelf shelves later within.0.0 (heights column (omega arith) (omega arith)) tall in
      let behind = all_after column shelf.column shelves within.0.0 later in
      let height = sym (column_height-alone column shelf shelves here (all_others column shelves behind)) ∙ heights column (omega arith) (omega arith) in
      let first : shelf ≡ empty_shelf frame column (across_side frame) =
      empty.0 ∙ (λ i. empty_shelf frame (here i) (height i)) in
      let rest = all_columns (suc column) n shelves empty.1
      (NoNeighbours-tail is_out_of_order shelf shelves ordered) (NoNeighbours-tail both_empty shelf shelves apart)
      (narrowed column n shelves behind within.1)
      (λ c l h. sym (column_height-other c shelf shelves (λ e. omega arith)) ∙ heights c (omega arith) (omega arith)) tall in
      λ i. first i ∷ rest i

-- an atlas that holds nothing is a new one but for its count of records
pub nothing_allocated-fresh : (state : AtlasState) → IsValid state → allocations state ≡ [] → without_peak_items state ≡ without_peak_items (fresh state.frame)
nothing_allocated-fresh state valid nothing =
    let none : ids state.shelves ≡ [] = sym (ids-allocations_after state.frame [] state.shelves) ∙ ap (map id_of) nothing in
    let empty = all_emptied state.frame valid.frame.column_width state.shelves valid.shelves none in
    let shelves = all_columns state.frame 0 state.frame.columns state.shelves empty valid.ordered valid.apart
    (all_within state.frame state.shelves valid.shelves) (λ c l h. valid.heights c (omega arith)) (across-positive 65535 state.frame valid.frame) in
    λ i. record { frame = state.frame; shelves = shelves i; peak_items = 0 }
