-- A shelf with a width added at its end: the last item is wider where it is free, else a free one comes after it.
use Rattle.std.proofs.Common.{◌≡◌, ℕ, ◌+◌, ◌%◌, ◌≤◌, Bool, true, false, cond, ◌&&◌, None, List, [], ◌∷◌, ◌++◌, length, refl, ap, ◌∙◌, sym, arith, subst}
use Rattle.std.proofs.lemmas.Bool.{cond_both, cond-false}
use Rattle.std.specs.Prelude.{not}
use Rattle.etagere_base.specs.declared.frames.Frame.{Frame}
use Rattle.etagere_base.specs.Frames.{alignment_along}
use Rattle.std.specs.List.{AllByRecursion}
use Rattle.etagere_base.specs.Lists.{NoNeighbours, times}
use Rattle.etagere_base.specs.Merging.{merged_onto}
use Rattle.etagere_base.proofs.AlignedPlaces.{sum_aligned}
use Rattle.etagere_base.proofs.EachLemmas.{Each-weaken}
use Rattle.etagere_base.proofs.Merged.{apart-merged}
use Rattle.shelf_model.specs.Growing.{ends_free, widened_shelf}
use Rattle.shelf_model.specs.Merging.{both_free, combined_items, merged_items, merged_shelf}
use Rattle.shelf_model.specs.Places.{column_place, free_places}
use Rattle.shelf_model.specs.State.{Item, Shelf, is_free, is_one_free, total_width}
use Rattle.shelf_model.specs.Valid.{IsItem, IsShelf}
use Rattle.shelf_model.proofs.Places.FreePlaces.{once, starts, starts-cons}
use Rattle.shelf_model.proofs.Returned.MergedNear.{items-merge}

-- a free item of a width
abbrev pub free_item : ℕ → Item
free_item width = record { width = width; id = None }

-- the items with a width added at their end
abbrev pub wider_end : ℕ → List Item → List Item
wider_end width [] = free_item width ∷ []
wider_end width (item ∷ []) = cond (is_free item) (free_item (item.width + width) ∷ []) (item ∷ free_item width ∷ [])
wider_end width (item ∷ next ∷ items) = item ∷ wider_end width (next ∷ items)

-- an item that doesn't touch the first of these doesn't touch the first of them with a width at their end
wider_end-onto : (width : ℕ) (item next : Item) (items : List Item) → both_free item next ≡ false
    → merged_onto both_free combined_items item (wider_end width (next ∷ items)) ≡ item ∷ wider_end width (next ∷ items)
wider_end-onto width item next [] apart = by_test (is_free next) refl
  where
    by_test : (b : Bool) → is_free next ≡ b
        → merged_onto both_free combined_items item (wider_end width (next ∷ [])) ≡ item ∷ wider_end width (next ∷ [])
    by_test true e = rw e (cond-false _ _ _ (ap (λ (b : Bool). is_free item && b) (sym e) ∙ apart))
    by_test false e = rw e (cond-false _ _ _ apart)
wider_end-onto width item next (other ∷ items) apart = cond-false _ _ _ apart

-- merging a free item at the end of items of which no free ones are neighbours
pub merged-end : (width : ℕ) (items : List Item) → NoNeighbours both_free items
    → merged_items (items ++ free_item width ∷ []) ≡ wider_end width items
merged-end width [] apart = refl
merged-end width (item ∷ []) apart = by_test (is_free item) refl
  where
    by_test : (b : Bool) → is_free item ≡ b → merged_items (item ∷ free_item width ∷ []) ≡ wider_end width (item ∷ [])
    by_test true e = rw e refl
    by_test false e = rw e refl
merged-end width (item ∷ next ∷ items) apart =
    ap (merged_onto both_free combined_items item) (merged-end width (next ∷ items) apart.1) ∙ wider_end-onto width item next items apart.0

-- they are as wide as before and that width
total_width-wider_end : (width : ℕ) (items : List Item) → total_width (wider_end width items) ≡ total_width items + width
total_width-wider_end width [] = omega arith
total_width-wider_end width (item ∷ []) = by_test (is_free item) refl
  where
    by_test : (b : Bool) → is_free item ≡ b → total_width (wider_end width (item ∷ [])) ≡ total_width (item ∷ []) + width
    by_test true e = rw e (omega arith)
    by_test false e = rw e (omega arith)
total_width-wider_end width (item ∷ next ∷ items) = omega (arith, total_width-wider_end width (next ∷ items))

-- one more, unless the last was free
pub length-wider_end : (width : ℕ) (items : List Item) → length (wider_end width items) ≡ length items + cond (ends_free items) 0 1
length-wider_end width [] = refl
length-wider_end width (item ∷ []) = by_test (is_free item) refl
  where
    by_test : (b : Bool) → is_free item ≡ b → length (wider_end width (item ∷ [])) ≡ length (item ∷ []) + cond (ends_free (item ∷ [])) 0 1
    by_test true e = rw e refl
    by_test false e = rw e refl
length-wider_end width (item ∷ next ∷ items) = omega (arith, length-wider_end width (next ∷ items))

-- they are one free item where they were
pub is_one_free-wider_end : (width : ℕ) (items : List Item) → 1 ≤ length items → is_one_free (wider_end width items) ≡ is_one_free items
is_one_free-wider_end width [] some = absurd (omega (arith, some))
is_one_free-wider_end width (item ∷ []) some = by_test (is_free item) refl
  where
    by_test : (b : Bool) → is_free item ≡ b → is_one_free (wider_end width (item ∷ [])) ≡ is_one_free (item ∷ [])
    by_test true e = rw e refl
    by_test false e = rw e refl
is_one_free-wider_end width (item ∷ next ∷ []) some = by_test (is_free next) refl
  where
    by_test : (b : Bool) → is_free next ≡ b → is_one_free (wider_end width (item ∷ next ∷ [])) ≡ is_one_free (item ∷ next ∷ [])
    by_test true e = rw e refl
    by_test false e = rw e refl
is_one_free-wider_end width (item ∷ next ∷ other ∷ items) some = refl

-- the place of a free item at the end is a new one, unless the last was free
starts-wider_end : (place here width : ℕ) (items : List Item)
    → starts place here (wider_end width items) ≡ starts place here items + once (not (ends_free items)) (here + total_width items) place
starts-wider_end place here width [] =
    let split = starts-cons place here (free_item width) [] in
    let same : once true (here + 0) place ≡ once true here place = ap (λ (p : ℕ). once true p place) (omega arith) in
    omega arith
starts-wider_end place here width (item ∷ []) = by_test (is_free item) refl
  where
    by_test : (b : Bool) → is_free item ≡ b
        → starts place here (wider_end width (item ∷ []))
        ≡ starts place here (item ∷ []) + once (not (ends_free (item ∷ []))) (here + total_width (item ∷ [])) place
    by_test true e =
        let is : wider_end width (item ∷ []) ≡ free_item (item.width + width) ∷ [] = rw e refl in
        omega (
          arith,
          ap (starts place here) is,
          starts-cons place here (free_item (item.width + width)) [],
          starts-cons place here item [],
          ap (λ (b : Bool). once b here place) e,
          ap (λ (b : Bool). once (not b) (here + total_width (item ∷ [])) place) e,
        )
    by_test false e =
        let is : wider_end width (item ∷ []) ≡ item ∷ free_item width ∷ [] = rw e refl in
        omega (
          arith,
          ap (starts place here) is,
          starts-cons place here item (free_item width ∷ []),
          starts-cons place (here + item.width) (free_item width) [],
          starts-cons place here item [],
          ap (λ (b : Bool). once (not b) (here + total_width (item ∷ [])) place) e,
          ap (λ (p : ℕ). once true p place) (last here item.width),
        )
      where
        last : (a b : ℕ) → a + (b + 0) ≡ a + b
        last a b = omega arith
starts-wider_end place here width (item ∷ next ∷ items) =
    omega (
      arith,
      starts-cons place here item (wider_end width (next ∷ items)),
      starts-cons place here item (next ∷ items),
      starts-wider_end place (here + item.width) width (next ∷ items),
      ap (λ (p : ℕ). once (not (ends_free (next ∷ items))) p place) (further here item.width (total_width (next ∷ items))),
    )
  where
    further : (a b c : ℕ) → a + b + c ≡ a + (b + c)
    further a b c = omega arith

-- each is as an item must be
each-wider_end : (frame : Frame) (width : ℕ) (items : List Item) → 1 ≤ width → width % alignment_along frame ≡ 0
    → AllByRecursion (IsItem frame) items → AllByRecursion (IsItem frame) (wider_end width items)
each-wider_end frame width [] some even each = (record { width = some; aligned = even }, tt)
each-wider_end frame width (item ∷ []) some even each =
    cond_both (is_free item) (free_item (item.width + width) ∷ []) (item ∷ free_item width ∷ []) (AllByRecursion (IsItem frame))
    (λ _. (
      record { width = omega (arith, some); aligned = sum_aligned item.width width (alignment_along frame) each.0.aligned even },
      tt,
    ))
    (λ _. (each.0, (record { width = some; aligned = even }, tt)))
each-wider_end frame width (item ∷ next ∷ items) some even each = (each.0, each-wider_end frame width (next ∷ items) some even each.1)

-- the shelf with a width added at its end
abbrev pub wider_shelf : Frame → ℕ → Shelf → Shelf
wider_shelf frame width shelf =
    record {
      column = shelf.column;
      height = shelf.height;
      items = wider_end width shelf.items;
      free_list = cond (ends_free shelf.items) shelf.free_list ((column_place frame shelf + frame.column_width) ∷ shelf.free_list);
    }

-- that is the widened shelf once it is merged
pub merged-widened : (frame : Frame) (width : ℕ) (shelf : Shelf) → NoNeighbours both_free shelf.items
    → merged_shelf (widened_shelf frame width shelf) ≡ wider_shelf frame width shelf
merged-widened frame width shelf apart =
    ap (λ (items : List Item). record {
      column = shelf.column;
      height = shelf.height;
      items = items;
      free_list = cond (ends_free shelf.items) shelf.free_list ((column_place frame shelf + frame.column_width) ∷ shelf.free_list);
    })
    (merged-end width shelf.items apart)

-- a place in front of a list, where it is due
times-front : (n m : ℕ) (b : Bool) (ns : List ℕ) → times n (cond b ns (m ∷ ns)) ≡ times n ns + once (not b) m n
times-front n m true ns = omega arith
times-front n m false ns = omega arith

-- a wider shelf of the first column is as a shelf must be in the wider frame
pub wider_shelf-valid : (frame grown : Frame) (width : ℕ) (shelf : Shelf) → IsShelf frame shelf → 1 ≤ width
    → alignment_along grown ≡ alignment_along frame → width % alignment_along frame ≡ 0 → shelf.column ≡ 0 → 1 ≤ grown.columns
    → grown.column_width ≡ frame.column_width + width → IsShelf grown (wider_shelf frame width shelf)
wider_shelf-valid frame grown width shelf valid some same even first columns wide = record {
  column = omega (arith, first, columns);
  height = valid.height;
  items = Each-weaken (IsItem frame) (IsItem grown) (wider_end width shelf.items)
      (λ (item : Item) (h : IsItem frame item). let now : IsItem grown item = record { width = h.width; aligned = rw same h.aligned } in now)
      (each-wider_end frame width shelf.items some even valid.items);
  width = omega (arith, total_width-wider_end width shelf.items, valid.width, wide);
  apart = subst (NoNeighbours both_free) (merged-end width shelf.items valid.apart)
      (apart-merged both_free combined_items items-merge (shelf.items ++ free_item width ∷ []));
  free_list = λ place. omega (
    arith,
    times-front place (column_place frame shelf + frame.column_width) (ends_free shelf.items) shelf.free_list,
    valid.free_list place,
    starts-wider_end place (column_place frame shelf) width shelf.items,
    ap (λ (w : ℕ). once (not (ends_free shelf.items)) (column_place frame shelf + w) place) valid.width,
    ap (λ (here : ℕ). times place (free_places here (wider_end width shelf.items))) begins,
  );
}
  where
    begins : column_place grown shelf ≡ column_place frame shelf
    begins = rw first (omega arith)
