-- How many free items of a shelf are wider than a width, before and after an item of it is taken or becomes free.
use Rattle.std.proofs.Common.{◌≡◌, ℕ, ◌+◌, ◌-◌, ◌≤◌, ◌<◌, Bool, true, false, None, Some, List, [], ◌∷◌, ◌++◌, length, map, refl, ap, sym, subst, arith, ◌∙◌}
use Rattle.std.proofs.lemmas.Bool.Decides.{nat_tests}
use Rattle.std.proofs.lemmas.List.{map-append}
use Rattle.std.specs.Prelude.{◌&&◌, cond, if◌then◌else◌, is_none, nat_lt}
use Rattle.std.specs.List.{AllByRecursion}
use Rattle.etagere_base.proofs.EachLemmas.{Each-append}
use Rattle.etagere_base.proofs.Totals.{total-append}
use Rattle.etagere_base.specs.Lists.{NoNeighbours}
use Rattle.etagere_base.specs.MergingAt.{merged_at, merged_before}
use Rattle.etagere_base.specs.declared.frames.Frame.{Frame}
use Rattle.shelf_heights.specs.Private.ByHeight.{IsBound}
use Rattle.shelf_model.proofs.Returned.MergedNear.{merged_items-freed}
use Rattle.shelf_model.proofs.Taken.TakenPieces.{allocated_item}
use Rattle.shelf_model.proofs.Taken.TakenShelves.{IsTaking, taken-items}
use Rattle.shelf_model.specs.Choice.{Placement}
use Rattle.shelf_model.specs.Merging.{both_free, combined_items, merged_items}
use Rattle.shelf_model.specs.Returning.{freed}
use Rattle.shelf_model.specs.State.{Item, Shelf, is_free, is_one_free}
use Rattle.shelf_model.specs.Taking.{item_pieces, taken_shelf}
use Rattle.shelf_records.proofs.AllLists.LinkedItems.{entry_of}
use Rattle.shelf_records.proofs.ListEnds.{last-append}
use Rattle.shelf_records.specs.AtlasRecords.{AtlasRecords, is_allocated_at, item_at, width_of}
use Rattle.shelf_records.specs.ListEnds.{first_or, last_or}
use Rattle.shelf_records.specs.RecordLists.{IsEntry}
use Rattle.shelf_records.specs.declared.records.LinkedItem.{LinkedItem}
use Rattle.shelf_store.proofs.ByHeight.FreedBounds.{IsWithin, freed_width-is, within-more}
use Rattle.shelf_store.proofs.Spelled.ItemsAround.{by_end, free-item, freed-here, next-merged, next-stays, previous-merged, previous-stays}
use Rattle.shelf_store.proofs.Spelled.MergedAround.{free_item}
use Rattle.shelf_store.specs.Private.ItemReturned.{free_named}
use Rattle.shelf_store.specs.Private.ReturnedNotes.{freed_width, named_width}
use Rattle.shelf_store.specs.Private.SecondWidths.{wider, wider_count}

-- the same of lists end to end
pub wider_count-append : (width : ℕ) (front back : List Item) → wider_count width (front ++ back) ≡ wider_count width front + wider_count width back
wider_count-append width front back = total-append (wider width) front back

-- an item that is no wider where it is free counts for nothing
wider-none : (width widest : ℕ) (free : Bool) → (free ≡ true → widest ≤ width) → cond {A = ℕ} (free && nat_lt width widest) 1 0 ≡ 0
wider-none width widest true within = let low = within refl in grind (arith, nat_tests)
wider-none width widest false within = refl

-- and one that counts for nothing is no wider where it is free
none-wider : (width widest : ℕ) (free : Bool) → cond {A = ℕ} (free && nat_lt width widest) 1 0 ≡ 0 → free ≡ true → widest ≤ width
none-wider width widest true none free = grind (arith, nat_tests)
none-wider width widest false none free = absurd (cc)

-- one item is no more than one
pub few-of-one : (width : ℕ) (item : Item) → wider_count width (item ∷ []) ≤ 1
few-of-one width item = by_test (is_free item && nat_lt width item.width)
  where
    by_test : (b : Bool) → cond b 1 0 + 0 ≤ 1
    by_test true = omega arith
    by_test false = omega arith

-- so a shelf of one item has no more
pub few-of-one-free : (width : ℕ) (items : List Item) → is_one_free items ≡ true → wider_count width items ≤ 1
few-of-one-free width [] one = omega arith
few-of-one-free width (item ∷ []) one = few-of-one width item
few-of-one-free width (item ∷ next ∷ items) one = absurd (cc)

-- none is wider where each free item is no wider
pub within-none : (width : ℕ) (items : List Item) → AllByRecursion (IsWithin width) items → wider_count width items ≡ 0
within-none width [] each = refl
within-none width (item ∷ items) each =
    omega (arith, wider-none width item.width (is_free item) each.0, within-none width items each.1)

-- and each free item is no wider where none is wider
pub none-within : (width : ℕ) (items : List Item) → wider_count width items ≡ 0 → AllByRecursion (IsWithin width) items
none-within width [] none = tt
none-within width (item ∷ items) none =
    (none-wider width item.width (is_free item) (omega (arith, none)), none-within width items (omega (arith, none)))

-- a narrower free item counts for no more
wider-narrower : (width narrow wide : ℕ) → narrow ≤ wide → cond (nat_lt width narrow) 1 0 ≤ cond (nat_lt width wide) 1 0
wider-narrower width narrow wide less = grind (arith, nat_tests)

-- an item counts for no more against a greater width
fewer-of-one : (one other widest : ℕ) (free : Bool) → one ≤ other → cond (free && nat_lt other widest) 1 0 ≤ cond (free && nat_lt one widest) 1 0
fewer-of-one one other widest true less = grind (arith, nat_tests)
fewer-of-one one other widest false less = omega arith

-- no more free items are wider than a greater width
pub fewer-wider : (one other : ℕ) (items : List Item) → one ≤ other → wider_count other items ≤ wider_count one items
fewer-wider one other [] less = omega arith
fewer-wider one other (item ∷ items) less =
    omega (arith, fewer-of-one one other item.width (is_free item) less, fewer-wider one other items less)

-- a free item that merged with the free one after it, if any, and what stands after it then
record IsNextCounted (items : List LinkedItem) (front back : List ℕ) (width other : ℕ) : Type 0 where
  rest : List Item
  merged :
      merged_at both_free combined_items (length front) (map (item_at items) front ++ free_item other ∷ map (item_at items) back)
      ≡ map (item_at items) front ++ free_item (other + named_width items (free_named items (first_or None back))) ∷ rest
  fewer : wider_count width rest ≤ wider_count width (map (item_at items) back)

next-is-counted : (items : List LinkedItem) (front back : List ℕ) (width other : ℕ) → IsNextCounted items front back width other
next-is-counted items front [] width other =
    let same : other + 0 ≡ other = omega arith in
    record { rest = []; merged = rw same (next-stays (item_at items) front other [] refl); fewer = omega arith }
next-is-counted items front (next ∷ back) width other = by_mark (is_allocated_at items next) refl
  where
    by_mark : (b : Bool) → is_allocated_at items next ≡ b → IsNextCounted items front (next ∷ back) width other
    by_mark true e =
        let none : free_named items (Some next) ≡ None = simp e refl in
        let same : other + 0 ≡ other = omega arith in
        record {
          rest = map (item_at items) (next ∷ back);
          merged = rw (none, same) (next-stays (item_at items) front other (map (item_at items) (next ∷ back)) (free-item items next true e));
          fewer = omega arith;
        }
    by_mark false e =
        let some : free_named items (Some next) ≡ Some next = simp e refl in
        record {
          rest = map (item_at items) back;
          merged = rw some (next-merged (item_at items) front other (item_at items next) (map (item_at items) back) (free-item items next false e));
          fewer = omega arith;
        }

-- a free item that merged with the free one before it, if any
previous-counted : (items : List LinkedItem) (width other : ℕ) (rest : List Item) (front : List ℕ)
    → wider_count width (merged_before both_free combined_items (length front) (map (item_at items) front ++ free_item other ∷ rest))
    ≤ wider_count width (map (item_at items) front) + wider width (free_item (other + named_width items (free_named items (last_or None front)))) + wider_count width rest
previous-counted items width other rest =
    by_end
    (λ (xs : List ℕ). wider_count width (merged_before both_free combined_items (length xs) (map (item_at items) xs ++ free_item other ∷ rest))
    ≤ wider_count width (map (item_at items) xs) + wider width (free_item (other + named_width items (free_named items (last_or None xs)))) + wider_count width rest)
    (let same : other + 0 ≡ other = omega arith in rw same (omega arith))
    some
  where
    some : (xs : List ℕ) (last : ℕ)
        → wider_count width (merged_before both_free combined_items (length (xs ++ last ∷ [])) (map (item_at items) (xs ++ last ∷ []) ++ free_item other ∷ rest))
        ≤ wider_count width (map (item_at items) (xs ++ last ∷ [])) + wider width (free_item (other + named_width items (free_named items (last_or None (xs ++ last ∷ []))))) + wider_count width rest
    some xs last = by_mark (is_allocated_at items last) refl
      where
        ends : last_or None (xs ++ last ∷ []) ≡ Some last
        ends = last-append xs last None

        parts : wider_count width (map (item_at items) (xs ++ last ∷ [])) ≡ wider_count width (map (item_at items) xs) + wider width (item_at items last)
        parts =
            ap (wider_count width) (map-append (item_at items) xs (last ∷ []))
            ∙ omega (arith, wider_count-append width (map (item_at items) xs) (item_at items last ∷ []))

        by_mark : (b : Bool) → is_allocated_at items last ≡ b
            → wider_count width (merged_before both_free combined_items (length (xs ++ last ∷ [])) (map (item_at items) (xs ++ last ∷ []) ++ free_item other ∷ rest))
            ≤ wider_count width (map (item_at items) (xs ++ last ∷ [])) + wider width (free_item (other + named_width items (free_named items (last_or None (xs ++ last ∷ []))))) + wider_count width rest
        by_mark true e =
            let none : free_named items (Some last) ≡ None = simp e refl in
            let same : other + 0 ≡ other = omega arith in
            rw (previous-stays (item_at items) xs last other rest (free-item items last true e), parts, ends, none, same)
            (omega (arith, wider_count-append width (map (item_at items) xs) (item_at items last ∷ free_item other ∷ rest)))
        by_mark false e =
            let some : free_named items (Some last) ≡ Some last = simp e refl in
            let turned : width_of items last + other ≡ other + width_of items last = omega arith in
            rw (previous-merged (item_at items) xs last other rest (free-item items last false e), parts, ends, some, turned)
            (omega (arith, wider_count-append width (map (item_at items) xs) (free_item (other + width_of items last) ∷ rest)))

-- no more free items of a shelf are wider after one of its items became free, but for the one that it became
pub freed-wider : (atlas : AtlasRecords) (shelf number : ℕ) (front back free : List ℕ) (width : ℕ) → IsEntry atlas.records (entry_of shelf (front ++ number ∷ back) free) → NoNeighbours both_free (map (item_at atlas.records.items) (front ++ number ∷ back)) → wider_count width (merged_items (freed (length front) (map (item_at atlas.records.items) (front ++ number ∷ back)))) ≤ wider_count width (map (item_at atlas.records.items) (front ++ number ∷ back)) + (if nat_lt width (freed_width atlas.records.items number) then 1 else 0)
freed-wider atlas shelf number front back free width is apart =
    let items : List LinkedItem = atlas.records.items in
    let own : ℕ = width_of items number in
    let whole : map (item_at items) (front ++ number ∷ back) ≡ map (item_at items) front ++ item_at items number ∷ map (item_at items) back = map-append (item_at items) front (number ∷ back) in
    let next : IsNextCounted items front back width own = next-is-counted items front back width own in
    let here : freed (length front) (map (item_at items) (front ++ number ∷ back)) ≡ map (item_at items) front ++ free_item own ∷ map (item_at items) back =
    ap (freed (length front)) whole ∙ freed-here (item_at items) front (item_at items number) (map (item_at items) back) in
    let merged : merged_items (freed (length front) (map (item_at items) (front ++ number ∷ back))) ≡ merged_before both_free combined_items (length front) (map (item_at items) front ++ free_item (own + named_width items (free_named items (first_or None back))) ∷ next.rest) =
    merged_items-freed (length front) (map (item_at items) (front ++ number ∷ back)) apart
    ∙ ap (λ (is : List Item). merged_before both_free combined_items (length front) (merged_at both_free combined_items (length front) is)) here
    ∙ ap (merged_before both_free combined_items (length front)) next.merged in
    rw (merged, whole, freed_width-is atlas shelf number front back free is)
    (omega (arith, previous-counted items width (own + named_width items (free_named items (first_or None back))) next.rest front, next.fewer, wider_count-append width (map (item_at items) front) (item_at items number ∷ map (item_at items) back)))

-- so they are at most one more
pub freed-wider-one : (atlas : AtlasRecords) (shelf number : ℕ) (front back free : List ℕ) (width : ℕ) → IsEntry atlas.records (entry_of shelf (front ++ number ∷ back) free) → NoNeighbours both_free (map (item_at atlas.records.items) (front ++ number ∷ back)) → wider_count width (merged_items (freed (length front) (map (item_at atlas.records.items) (front ++ number ∷ back)))) ≤ wider_count width (map (item_at atlas.records.items) (front ++ number ∷ back)) + 1
freed-wider-one atlas shelf number front back free width is apart =
    omega (arith, freed-wider atlas shelf number front back free width is apart, at-most-one (nat_lt width (freed_width atlas.records.items number)))
  where
    at-most-one : (b : Bool) → cond b 1 0 ≤ 1
    at-most-one true = omega arith
    at-most-one false = omega arith

-- and no more where what became free is no wider
pub freed-wider-same : (atlas : AtlasRecords) (shelf number : ℕ) (front back free : List ℕ) (width : ℕ) → IsEntry atlas.records (entry_of shelf (front ++ number ∷ back) free) → NoNeighbours both_free (map (item_at atlas.records.items) (front ++ number ∷ back)) → freed_width atlas.records.items number ≤ width → wider_count width (merged_items (freed (length front) (map (item_at atlas.records.items) (front ++ number ∷ back)))) ≤ wider_count width (map (item_at atlas.records.items) (front ++ number ∷ back))
freed-wider-same atlas shelf number front back free width is apart low =
    omega (arith, freed-wider atlas shelf number front back free width is apart, wider-none width (freed_width atlas.records.items number) true (λ _. low))

-- the pieces of a free item, of which no more are wider
pieces-fewer : (width : ℕ) (placement : Placement) (id : ℕ) (item : Item) → is_free item ≡ true → wider_count width (item_pieces placement id item) ≤ wider width item
pieces-fewer width placement id item free = by_split placement.splits_item
  where
    less : cond (nat_lt width (item.width - placement.width)) 1 0 ≤ wider width item
    less = rw free (wider-narrower width (item.width - placement.width) item.width (omega arith))

    by_split : (b : Bool) → wider_count width (allocated_item placement.width id ∷ cond b (free_item (item.width - placement.width) ∷ []) []) ≤ wider width item
    by_split true = omega (arith, less)
    by_split false = omega arith

-- no more free items of a shelf are wider after one of them was taken
pub wider-taken : (frame : Frame) (width : ℕ) (placement : Placement) (id : ℕ) (shelf : Shelf) → IsTaking frame placement shelf → wider_count width (taken_shelf placement id shelf).items ≤ wider_count width shelf.items
wider-taken frame width placement id shelf takes =
    let front : List Item = takes.found.at.front in
    let back : List Item = takes.found.at.back in
    let item : Item = takes.found.item in
    let pieces : List Item = item_pieces placement id item in
    rw (taken-items frame placement id shelf takes, takes.found.at.whole)
    (omega (arith, pieces-fewer width placement id item (ap is_none takes.found.free), wider_count-append width front (pieces ++ back), wider_count-append width pieces back, wider_count-append width front (item ∷ back)))

-- an item that is free and wider counts
wider-counts : (width : ℕ) (item : Item) → is_free item ≡ true → width < item.width → wider width item ≡ 1
wider-counts width item free less = rw free (grind (arith, nat_tests))

-- the pieces of an item are within a bound on its rest
pieces-within : (bound : ℕ) (placement : Placement) (id : ℕ) (item : Item) → item.width - placement.width ≤ bound → AllByRecursion (IsWithin bound) (item_pieces placement id item)
pieces-within bound placement id item low = (λ given. absurd (cc), by_split placement.splits_item)
  where
    by_split : (b : Bool) → AllByRecursion (IsWithin bound) (cond b (free_item (item.width - placement.width) ∷ []) [])
    by_split true = (λ _. low, tt)
    by_split false = tt

-- where at most one free item is wider and that one is taken, what is left is bounded by that width and by the rest of the item
pub only-wider-taken : (frame : Frame) (width : ℕ) (placement : Placement) (id : ℕ) (shelf : Shelf) → (takes : IsTaking frame placement shelf) → wider_count width shelf.items ≤ 1 → width < takes.found.item.width → (bound : ℕ) → width ≤ bound → takes.found.item.width - placement.width ≤ bound → IsBound bound (taken_shelf placement id shelf)
only-wider-taken frame width placement id shelf takes one less bound low rest =
    let front : List Item = takes.found.at.front in
    let back : List Item = takes.found.at.back in
    let item : Item = takes.found.item in
    let pieces : List Item = item_pieces placement id item in
    let counted : wider_count width shelf.items ≡ wider_count width front + (wider width item + wider_count width back) =
    ap (wider_count width) takes.found.at.whole ∙ wider_count-append width front (item ∷ back) in
    let own : wider width item ≡ 1 = wider-counts width item (ap is_none takes.found.free) less in
    let before : wider_count width front ≡ 0 = omega (arith, counted, own, one) in
    let after : wider_count width back ≡ 0 = omega (arith, counted, own, one) in
    subst (AllByRecursion (IsWithin bound)) (sym (taken-items frame placement id shelf takes))
    (Each-append (IsWithin bound) front (pieces ++ back) (within-more width bound front low (none-within width front before))
    (Each-append (IsWithin bound) pieces back (pieces-within bound placement id item rest) (within-more width bound back low (none-within width back after))))
