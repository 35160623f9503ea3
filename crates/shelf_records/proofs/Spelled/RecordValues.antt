-- What records say beside their links, and what of it stays when records change.
use Rattle.std.proofs.Common.{◌≡◌, ◌≢◌, ℕ, zero, suc, ◌+◌, ◌≤◌, Bool, false, None, Some, List, [], ◌∷◌, map, refl, ap, arith, sym, ◌∙◌}
use Rattle.std.specs.Prelude.{◌*◌, filter, slice_get, if◌then◌else◌}
use Rattle.std.specs.Option.{option_map_or}
use Rattle.std.specs.List.{AllByRecursion}
use Rattle.etagere_base.specs.Lists.{times}
use Rattle.shelf_records.specs.declared.records.LinkedItem.{LinkedItem}
use Rattle.shelf_records.specs.declared.records.LinkedShelf.{LinkedShelf}
use Rattle.etagere_links.specs.Edits.{field_at, changed_by}
use Rattle.etagere_links.proofs.RecordChanges.{get-changed_by-other}
use Rattle.etagere_links.proofs.ListEnds.{times-here}
use Rattle.shelf_records.specs.AtlasRecords.{is_allocated_at, item_place_of, shelf_of, along_of, across_of, height_of, is_empty_at, item_at, spelled_item}
use Rattle.shelf_records.specs.StandsFor.{LieFrom}

-- what an item record says beside its links
pub record ItemValues : Type 0 where
  pub x : ℕ
  pub width : ℕ
  pub shelf : ℕ
  pub allocated : Bool
  pub generation : ℕ

abbrev pub item_values : LinkedItem → ItemValues
item_values item =
    record { x = item.x; width = item.width; shelf = item.shelf; allocated = item.allocated; generation = item.generation }

-- what a shelf record says beside its links
pub record ShelfValues : Type 0 where
  pub x : ℕ
  pub y : ℕ
  pub height : ℕ
  pub is_empty : Bool

abbrev pub shelf_values : LinkedShelf → ShelfValues
shelf_values shelf = record { x = shelf.x; y = shelf.y; height = shelf.height; is_empty = shelf.is_empty }

-- what is read of a record is read of its values
read-values : {T V X : Type 0} (values : T → V) (read : V → X) (other : X) (xs : List T) (k : ℕ) → field_at (λ (x : T). read (values x)) other xs k ≡ option_map_or read (slice_get (map values xs) k) other
read-values values read other [] k = refl
read-values values read other (x ∷ xs) zero = refl
read-values values read other (x ∷ xs) (suc k) = read-values values read other xs k

-- where all values are the same, what is read is the same
pub values-same : {T V X : Type 0} (values : T → V) (read : V → X) (other : X) (xs ys : List T) (k : ℕ) → map values ys ≡ map values xs → field_at (λ (x : T). read (values x)) other ys k ≡ field_at (λ (x : T). read (values x)) other xs k
values-same {T} {V} values read other xs ys k same =
    read-values values read other ys k ∙ ap (λ (vs : List V). option_map_or read (slice_get vs k) other) same ∙ sym (read-values values read other xs k)

-- the item of a number says the same
pub record SameItem (items new : List LinkedItem) (k : ℕ) : Type 0 where
  pub item : item_at new k ≡ item_at items k
  pub place : item_place_of new k ≡ item_place_of items k
  pub shelf : shelf_of new k ≡ shelf_of items k
  pub allocated : is_allocated_at new k ≡ is_allocated_at items k

-- the shelf of a number says the same
pub record SameShelf (shelves new : List LinkedShelf) (k : ℕ) : Type 0 where
  pub along : along_of new k ≡ along_of shelves k
  pub across : across_of new k ≡ across_of shelves k
  pub height : height_of new k ≡ height_of shelves k
  pub is_empty : is_empty_at new k ≡ is_empty_at shelves k

-- where all values are the same, each item says the same
pub items-same : (items new : List LinkedItem) (k : ℕ) → map item_values new ≡ map item_values items → SameItem items new k
items-same items new k same =
    record {
      item = values-same item_values (λ (v : ItemValues). record { width = v.width; id = if v.allocated then Some (k + 65536 * v.generation) else None }) (record { width = 0; id = None }) items new k same;
      place = values-same item_values (λ (v : ItemValues). v.x) 0 items new k same;
      shelf = values-same item_values (λ (v : ItemValues). v.shelf) 0 items new k same;
      allocated = values-same item_values (λ (v : ItemValues). v.allocated) false items new k same;
    }

-- where all values are the same, each shelf says the same
pub shelves-same : (shelves new : List LinkedShelf) (k : ℕ) → map shelf_values new ≡ map shelf_values shelves → SameShelf shelves new k
shelves-same shelves new k same =
    record {
      along = values-same shelf_values (λ (v : ShelfValues). v.x) 0 shelves new k same;
      across = values-same shelf_values (λ (v : ShelfValues). v.y) 0 shelves new k same;
      height = values-same shelf_values (λ (v : ShelfValues). v.height) 0 shelves new k same;
      is_empty = values-same shelf_values (λ (v : ShelfValues). v.is_empty) false shelves new k same;
    }

-- a record that is the same says the same
pub item-same : (items new : List LinkedItem) (k : ℕ) → slice_get new k ≡ slice_get items k → SameItem items new k
item-same items new k same =
    record {
      item = ap (λ r. option_map_or (spelled_item k) r (record { width = 0; id = None })) same;
      place = ap (λ r. option_map_or (λ (x : LinkedItem). x.x) r 0) same;
      shelf = ap (λ r. option_map_or (λ (x : LinkedItem). x.shelf) r 0) same;
      allocated = ap (λ r. option_map_or (λ (x : LinkedItem). x.allocated) r false) same;
    }

-- saying the same carries over
pub SameItem-then : (items middle new : List LinkedItem) (k : ℕ) → SameItem items middle k → SameItem middle new k → SameItem items new k
SameItem-then items middle new k one two =
    record { item = two.item ∙ one.item; place = two.place ∙ one.place; shelf = two.shelf ∙ one.shelf; allocated = two.allocated ∙ one.allocated }

pub SameShelf-then : (shelves middle new : List LinkedShelf) (k : ℕ) → SameShelf shelves middle k → SameShelf middle new k → SameShelf shelves new k
SameShelf-then shelves middle new k one two =
    record { along = two.along ∙ one.along; across = two.across ∙ one.across; height = two.height ∙ one.height; is_empty = two.is_empty ∙ one.is_empty }

-- two functions that agree on the members of a list
pub map-agrees : {X : Type 0} (f g : ℕ → X) (xs : List ℕ) → ((k : ℕ) → 1 ≤ times k xs → f k ≡ g k) → map f xs ≡ map g xs
map-agrees f g [] same = refl
map-agrees f g (x ∷ xs) same =
    ap (λ y. y ∷ map f xs) (same x (omega (arith, times-here x xs)))
    ∙ ap (λ ys. g x ∷ ys) (map-agrees f g xs (λ k stands. same k (omega (arith, stands))))

-- two tests that agree on the members of a list
pub filter-agrees : (f g : ℕ → Bool) (xs : List ℕ) → ((k : ℕ) → 1 ≤ times k xs → f k ≡ g k) → filter f xs ≡ filter g xs
filter-agrees f g [] same = refl
filter-agrees f g (x ∷ xs) same =
    let here : f x ≡ g x = same x (omega (arith, times-here x xs)) in
    let rest : filter f xs ≡ filter g xs = filter-agrees f g xs (λ k stands. same k (omega (arith, stands))) in
    simp (here, rest) refl

-- items that say the same lie as they did
pub LieFrom-same : (items new : List LinkedItem) (here : ℕ) (xs : List ℕ) → ((k : ℕ) → 1 ≤ times k xs → SameItem items new k) → LieFrom items here xs → LieFrom new here xs
LieFrom-same items new here [] same lies = tt
LieFrom-same items new here (x ∷ xs) same lies =
    let own : SameItem items new x = same x (omega (arith, times-here x xs)) in
    let rest : LieFrom new (here + (item_at items x).width) xs = LieFrom-same items new (here + (item_at items x).width) xs (λ k stands. same k (omega (arith, stands))) lies.1 in
    (own.place ∙ lies.0, rw own.item rest)

-- items that say the same have the owners that they had
pub owners-same : (items new : List LinkedItem) (shelf : ℕ) (xs : List ℕ) → ((k : ℕ) → 1 ≤ times k xs → SameItem items new k) → AllByRecursion (λ item. shelf_of items item ≡ shelf) xs → AllByRecursion (λ item. shelf_of new item ≡ shelf) xs
owners-same items new shelf [] same each = tt
owners-same items new shelf (x ∷ xs) same each =
    ((same x (omega (arith, times-here x xs))).shelf ∙ each.0, owners-same items new shelf xs (λ k stands. same k (omega (arith, stands))) each.1)

-- a shelf that was not changed says what it said
pub shelf-other : (shelves middle : List LinkedShelf) (change : LinkedShelf → LinkedShelf) (number k : ℕ) → Some number ≢ Some k → SameShelf shelves middle k → SameShelf shelves (changed_by (Some number) change middle) k
shelf-other shelves middle change number k other same =
    let get : slice_get (changed_by (Some number) change middle) k ≡ slice_get middle k = get-changed_by-other change middle (Some number) k other in
    record {
      along = ap (λ r. option_map_or (λ (x : LinkedShelf). x.x) r 0) get ∙ same.along;
      across = ap (λ r. option_map_or (λ (x : LinkedShelf). x.y) r 0) get ∙ same.across;
      height = ap (λ r. option_map_or (λ (x : LinkedShelf). x.height) r 0) get ∙ same.height;
      is_empty = ap (λ r. option_map_or (λ (x : LinkedShelf). x.is_empty) r false) get ∙ same.is_empty;
    }
