-- The free list of a returned shelf has the place of each free item once.
use Rattle.std.proofs.Common.{◌≡◌, ℕ, zero, suc, ◌+◌, ◌≤◌, Bool, true, false, cond, ◌&&◌, Some, List, [], ◌∷◌, take, refl, ap, ◌∙◌, arith}
use Rattle.std.proofs.lemmas.Bool.{cond_both}
use Rattle.std.specs.Prelude.{slice_get}
use Rattle.shelf_model.specs.Merging.{both_free, combined_items, merged_items}
use Rattle.std.specs.List.{AllByRecursion}
use Rattle.etagere_base.specs.Lists.{times, NoNeighbours}
use Rattle.etagere_base.specs.MergingAt.{merged_at, merged_before}
use Rattle.shelf_model.specs.Places.{free_places}
use Rattle.shelf_model.specs.Returning.{is_free_at, is_free_before, place_at, freed, returned_free_list}
use Rattle.shelf_model.specs.State.{Item, is_free, total_width}
use Rattle.etagere_base.specs.Lists.{remove_number}
use Rattle.etagere_base.proofs.ListEdits.{take-merged_at}
use Rattle.shelf_model.proofs.Places.FreePlaces.{once, starts, starts-free, starts-freed, starts-merged_at}
use Rattle.shelf_model.proofs.Places.ItemLemmas.{take-freed}
use Rattle.shelf_model.proofs.Returned.MergedNear.{merged_items-freed}
use Rattle.etagere_base.proofs.TimesLemmas.{times-remove_number}

-- freeing an item leaves the one before it free or allocated
is_free_at-freed_before : (n : ℕ) (items : List Item) → is_free_at n (freed (suc n) items) ≡ is_free_at n items
is_free_at-freed_before n [] = refl
is_free_at-freed_before zero (x ∷ items) = refl
is_free_at-freed_before (suc n) (x ∷ items) = is_free_at-freed_before n items

-- freeing an item leaves the one after it free or allocated
is_free_at-freed_after : (n : ℕ) (items : List Item) → is_free_at (suc n) (freed n items) ≡ is_free_at (suc n) items
is_free_at-freed_after n [] = refl
is_free_at-freed_after zero (x ∷ items) = refl
is_free_at-freed_after (suc n) (x ∷ items) = is_free_at-freed_after n items

-- a freed item is free
is_free_at-freed : (n : ℕ) (items : List Item) (item : Item) → slice_get items n ≡ Some item → is_free_at n (freed n items) ≡ true
is_free_at-freed n [] item h = absurd (cc)
is_free_at-freed zero (x ∷ items) item h = refl
is_free_at-freed (suc n) (x ∷ items) item h = is_free_at-freed n items item h

-- merging an item leaves the one before it free or allocated
is_free_at-merged_before : (n : ℕ) (items : List Item) → is_free_at n (merged_at both_free combined_items (suc n) items) ≡ is_free_at n items
is_free_at-merged_before n [] = refl
is_free_at-merged_before zero (x ∷ items) = refl
is_free_at-merged_before (suc n) (x ∷ items) = is_free_at-merged_before n items

-- a free item is free after it was merged
is_free_at-combined : (n : ℕ) (items : List Item) → is_free_at n items ≡ true → is_free_at n (merged_at both_free combined_items n items) ≡ true
is_free_at-combined n [] h = h
is_free_at-combined zero (x ∷ []) h = h
is_free_at-combined zero (x ∷ y ∷ items) h =
    cond_both (is_free x && is_free y) (combined_items x y ∷ items) (x ∷ y ∷ items) (λ (l : List Item). is_free_at zero l ≡ true) (λ _. refl) (λ _. h)
is_free_at-combined (suc n) (x ∷ items) h = is_free_at-combined n items h

-- freeing an item changes no width of a front
total_width-take-freed : (n m : ℕ) (items : List Item) → total_width (take m (freed n items)) ≡ total_width (take m items)
total_width-take-freed n m [] = refl
total_width-take-freed n zero (x ∷ items) = refl
total_width-take-freed zero (suc m) (x ∷ items) = refl
total_width-take-freed (suc n) (suc m) (x ∷ items) = ap (λ (w : ℕ). x.width + w) (total_width-take-freed n m items)

-- a freed item is merged with the one before where that is free, and then its place goes
starts-merged_before : (place here n : ℕ) (items : List Item) → is_free_at n items ≡ true
    → starts place here (merged_before both_free combined_items n items) + once (is_free_before n items) (place_at here items n) place
    ≡ starts place here items
starts-merged_before place here zero items free = omega arith
starts-merged_before place here (suc n) items free =
    let combine = starts-merged_at place here n items in
    let test : (is_free_at n items && is_free_at (suc n) items) ≡ is_free_at n items = only_first (is_free_at n items) (is_free_at (suc n) items) free in
    let same = ap (λ (b : Bool). once b (place_at here items (suc n)) place) test in
    omega arith
  where
    -- a test that passes leaves the other
    only_first : (a b : Bool) → b ≡ true → (a && b) ≡ a
    only_first a b h = grind arith

-- a chosen list
times-cond : (n : ℕ) (b : Bool) (m : ℕ) (ns : List ℕ) → times n (cond b ns (m ∷ ns)) + once b m n ≡ once true m n + times n ns
times-cond n true m ns = omega arith
times-cond n false m ns = omega arith

-- equal tests and places count alike
once_cong : {b c : Bool} {p q : ℕ} (place : ℕ) → b ≡ c → p ≡ q → once b p place ≡ once c q place
once_cong place e d = cc

-- a test that passes leaves the other
and_true : (a b : Bool) → a ≡ true → (a && b) ≡ b
and_true a b h = grind arith

-- the item before a freed and merged one is free or allocated as it was
is_free_before-combined : (n : ℕ) (items : List Item) → is_free_before n (merged_at both_free combined_items n (freed n items)) ≡ is_free_before n items
is_free_before-combined zero items = refl
is_free_before-combined (suc n) items = is_free_at-merged_before n (freed (suc n) items) ∙ is_free_at-freed_before n items

module _ (here n : ℕ) (items : List Item) (wide : AllByRecursion (λ (item : Item). 1 ≤ item.width) items) (free_list : List ℕ)
    (counts : (place : ℕ) → times place free_list ≡ starts place here items) where
  -- the free list without the place of a free next item
  times-others : (place : ℕ) (b : Bool) → is_free_at (suc n) items ≡ b
      → times place (cond b (remove_number (place_at here items (suc n)) free_list) free_list) + once b (place_at here items (suc n)) place ≡ starts place here items
  times-others place false free = let c = counts place in omega arith
  times-others place true free =
      let c = counts place in
      let next = place_at here items (suc n) in
      let one = starts-free here (suc n) items wide free in
      let counted = counts next in
      let gone = times-remove_number place next free_list (omega arith) in
      omega arith

  -- merging after an allocated item was freed adds its place, takes a free next item's away and, where the item before is free, its own
  starts-merged : (item : Item) → NoNeighbours both_free items → slice_get items n ≡ Some item → is_free item ≡ false → (place : ℕ)
      → starts place here (merged_items (freed n items))
      + once (is_free_before n items) (place_at here items n) place + once (is_free_at (suc n) items) (place_at here items (suc n)) place
      ≡ once true (place_at here items n) place + starts place here items
  starts-merged item apart get allocations place =
      let xs = freed n items in
      let ys = merged_at both_free combined_items n xs in
      let added = starts-freed place here n items item get allocations in
      let free : is_free_at n xs ≡ true = is_free_at-freed n items item get in
      let next_merged = starts-merged_at place here n xs in
      let next : once (is_free_at n xs && is_free_at (suc n) xs) (place_at here xs (suc n)) place
      ≡ once (is_free_at (suc n) items) (place_at here items (suc n)) place =
      once_cong place (and_true (is_free_at n xs) (is_free_at (suc n) xs) free ∙ is_free_at-freed_after n items)
      (ap (λ (w : ℕ). here + w) (total_width-take-freed n (suc n) items)) in
      let before_merged = starts-merged_before place here n ys (is_free_at-combined n xs free) in
      let before : once (is_free_before n ys) (place_at here ys n) place ≡ once (is_free_before n items) (place_at here items n) place =
      once_cong place (is_free_before-combined n items)
      (ap (λ (l : List Item). here + total_width l) (take-merged_at both_free combined_items n xs ∙ take-freed n items)) in
      let merged : starts place here (merged_items xs) ≡ starts place here (merged_before both_free combined_items n ys) =
      ap (starts place here) (merged_items-freed n items apart) in
      omega arith

  -- the free list of a shelf with an item returned has the place of each of its free items once
  pub times-returned_free_list : (item : Item) → NoNeighbours both_free items → slice_get items n ≡ Some item → is_free item ≡ false → (place : ℕ)
      → times place (returned_free_list here items n free_list) ≡ times place (free_places here (merged_items (freed n items)))
  times-returned_free_list item apart get allocations place =
      let others = cond (is_free_at (suc n) items) (remove_number (place_at here items (suc n)) free_list) free_list in
      let without_next = times-others place (is_free_at (suc n) items) refl in
      let with_own = times-cond place (is_free_before n items) (place_at here items n) others in
      let merged = starts-merged item apart get allocations place in
      omega arith
