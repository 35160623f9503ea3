-- The places of the free items that records spell.
use Rattle.std.proofs.Common.{◌≡◌, ℕ, ◌+◌, ◌*◌, Bool, true, false, cond, Option, None, Some, List, [], ◌∷◌, ◌++◌, map, filter, not, refl, ap, ◌∙◌, sym}
use Rattle.std.specs.Prelude.{slice_get, if◌then◌else◌, is_none}
use Rattle.std.specs.Option.{option_map_or}
use Rattle.shelf_records.specs.declared.records.LinkedItem.{LinkedItem}
use Rattle.shelf_records.specs.AtlasRecords.{is_allocated_at, item_at, item_place_of, spelled_item}
use Rattle.shelf_model.specs.Places.{free_places}
use Rattle.shelf_records.specs.StandsFor.{LieFrom}
use Rattle.shelf_model.specs.State.{is_free}

-- an item that a record spells is free where it isn't marked allocated
pub free-spelled : (items : List LinkedItem) (number : ℕ) → is_free (item_at items number) ≡ not (is_allocated_at items number)
free-spelled items number = by_record (slice_get items number)
  where
    of_mark : (b : Bool) (id : ℕ) → is_none (if b then Some id else None) ≡ not b
    of_mark true id = refl
    of_mark false id = refl

    by_record : (o : Option LinkedItem)
        → is_free (option_map_or (spelled_item number) o (record { width = 0; id = None }))
        ≡ not (option_map_or (λ (item : LinkedItem). item.allocated) o false)
    by_record None = refl
    by_record (Some item) = of_mark item.allocated (number + 65536 * item.generation)

-- where the free ones begin of items that lie side by side
pub free_places-spelled : (items : List LinkedItem) (here : ℕ) (xs : List ℕ) → LieFrom items here xs
    → free_places here (map (item_at items) xs) ≡ map (item_place_of items) (filter (λ member. not (is_allocated_at items member)) xs)
free_places-spelled items here [] lies = refl
free_places-spelled items here (x ∷ xs) lies =
    let later = free_places-spelled items (here + (item_at items x).width) xs lies.1 in
    ap (λ (b : Bool). cond b (here ∷ []) [] ++ free_places (here + (item_at items x).width) (map (item_at items) xs)) (free-spelled items x)
    ∙ ap (λ ps. cond (not (is_allocated_at items x)) (here ∷ []) [] ++ ps) later
    ∙ by_test (not (is_allocated_at items x)) lies.0
  where
    rest : List ℕ
    rest = filter (λ member. not (is_allocated_at items member)) xs

    by_test : (b : Bool) → item_place_of items x ≡ here
        → cond b (here ∷ []) [] ++ map (item_place_of items) rest ≡ map (item_place_of items) (cond b (x ∷ rest) rest)
    by_test true begins = ap (λ (n : ℕ). n ∷ map (item_place_of items) rest) (sym begins)
    by_test false begins = refl
