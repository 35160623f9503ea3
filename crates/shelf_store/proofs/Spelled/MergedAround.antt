-- A list of items after one in its midst became free and merged with its free neighbours.
use Rattle.std.proofs.Common.{◌≡◌, ◌≢◌, ◌≤◌, ℕ, ◌+◌, Bool, true, false, None, List, [], ◌∷◌, ◌++◌, length, refl, ap, arith}
use Rattle.std.specs.Prelude.{map, ◌==◌}
use Rattle.etagere_base.specs.Lists.{times, remove_number, replace_number}
use Rattle.etagere_links.proofs.ListEnds.{times-here}
use Rattle.etagere_base.specs.MergingAt.{merged_at}
use Rattle.shelf_model.specs.Merging.{both_free, combined_items}
use Rattle.shelf_model.specs.Returning.{freed}
use Rattle.shelf_model.specs.State.{Item, is_free}

-- a free item of this width
abbrev pub free_item : ℕ → Item
free_item width = record { width = width; id = None }

-- the first of these items is free
abbrev pub is_first_free : List Item → Bool
is_first_free [] = false
is_first_free (item ∷ items) = is_free item

-- the item after a front became free
pub freed-after : (front back : List Item) (item : Item) → freed (length front) (front ++ item ∷ back) ≡ front ++ free_item item.width ∷ back
freed-after [] back item = refl
freed-after (x ∷ front) back item = ap (λ (is : List Item). x ∷ is) (freed-after front back item)

-- a free item after a front merged with the free one after it
pub merged-next : (front back : List Item) (width : ℕ) (next : Item) → is_free next ≡ true → merged_at both_free combined_items (length front) (front ++ free_item width ∷ next ∷ back) ≡ front ++ free_item (width + next.width) ∷ back
merged-next [] back width next e = simp e refl
merged-next (x ∷ front) back width next e = ap (λ (is : List Item). x ∷ is) (merged-next front back width next e)

-- a free item after a front, where the one after it is not free
pub merged-next-none : (front back : List Item) (width : ℕ) → is_first_free back ≡ false → merged_at both_free combined_items (length front) (front ++ free_item width ∷ back) ≡ front ++ free_item width ∷ back
merged-next-none [] [] width e = refl
merged-next-none [] (next ∷ back) width e = simp e refl
merged-next-none (x ∷ front) back width e = ap (λ (is : List Item). x ∷ is) (merged-next-none front back width e)

-- a free item merged with the free one before it, which is the last of a front
pub merged-previous : (front back : List Item) (previous : Item) (width : ℕ) → is_free previous ≡ true → merged_at both_free combined_items (length front) (front ++ previous ∷ free_item width ∷ back) ≡ front ++ free_item (previous.width + width) ∷ back
merged-previous [] back previous width e = simp e refl
merged-previous (x ∷ front) back previous width e = ap (λ (is : List Item). x ∷ is) (merged-previous front back previous width e)

-- a free item whose previous one is not free
pub merged-previous-none : (front back : List Item) (previous : Item) (width : ℕ) → is_free previous ≡ false → merged_at both_free combined_items (length front) (front ++ previous ∷ free_item width ∷ back) ≡ front ++ previous ∷ free_item width ∷ back
merged-previous-none [] back previous width e = simp e refl
merged-previous-none (x ∷ front) back previous width e = ap (λ (is : List Item). x ∷ is) (merged-previous-none front back previous width e)

-- a list of places in which a place does not stand
remove-none : (place : ℕ → ℕ) (xs : List ℕ) (number : ℕ) → ((k : ℕ) → 1 ≤ times k xs → place k ≢ place number) → remove_number (place number) (map place xs) ≡ map place xs
remove-none place [] number apart = refl
remove-none place (x ∷ xs) number apart =
    let here : place x ≢ place number = apart x (omega (arith, times-here x xs)) in
    let test : (place x == place number) ≡ false = grind arith in
    simp (test, remove-none place xs number (λ k stands. apart k (omega (arith, stands)))) refl

-- the places of a list without one member, whose place is no other's
pub remove-mapped : (place : ℕ → ℕ) (front back : List ℕ) (number : ℕ) → ((k : ℕ) → 1 ≤ times k (front ++ back) → place k ≢ place number) → remove_number (place number) (map place (front ++ number ∷ back)) ≡ map place (front ++ back)
remove-mapped place [] back number apart =
    let own : (place number == place number) ≡ true = grind arith in
    simp own (remove-none place back number apart)
remove-mapped place (x ∷ front) back number apart =
    let here : place x ≢ place number = apart x (omega (arith, times-here x (front ++ back))) in
    let test : (place x == place number) ≡ false = grind arith in
    simp (test, remove-mapped place front back number (λ k stands. apart k (omega (arith, stands)))) refl

-- a list of places in which a place to be replaced does not stand
replace-none : (place : ℕ → ℕ) (xs : List ℕ) (number new : ℕ) → ((k : ℕ) → 1 ≤ times k xs → place k ≢ place number) → replace_number (place number) new (map place xs) ≡ map place xs
replace-none place [] number new apart = refl
replace-none place (x ∷ xs) number new apart =
    let here : place x ≢ place number = apart x (omega (arith, times-here x xs)) in
    let test : (place x == place number) ≡ false = grind arith in
    simp (test, replace-none place xs number new (λ k stands. apart k (omega (arith, stands)))) refl

-- the places of a list with one member's replaced, whose place is no other's
pub replace-mapped : (place : ℕ → ℕ) (front back : List ℕ) (number new : ℕ) → ((k : ℕ) → 1 ≤ times k (front ++ back) → place k ≢ place number) → replace_number (place number) new (map place (front ++ number ∷ back)) ≡ map place front ++ new ∷ map place back
replace-mapped place [] back number new apart =
    let own : (place number == place number) ≡ true = grind arith in
    simp own (ap (λ (ps : List ℕ). new ∷ ps) (replace-none place back number new apart))
replace-mapped place (x ∷ front) back number new apart =
    let here : place x ≢ place number = apart x (omega (arith, times-here x (front ++ back))) in
    let test : (place x == place number) ≡ false = grind arith in
    simp (test, replace-mapped place front back number new (λ k stands. apart k (omega (arith, stands)))) refl
