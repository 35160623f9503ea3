-- Items by their numbers: read, given, freed and merged.
use Rattle.std.proofs.Common.{◌≡◌, ℕ, zero, suc, ◌+◌, List, [], ◌∷◌, ◌++◌, length, get_or, set, take, refl, ap, arith}
use Rattle.std.specs.Prelude.{None}
use Rattle.etagere_base.specs.Lists.{replaced_at}
use Rattle.shelf_model.specs.Returning.{freed}
use Rattle.shelf_model.specs.State.{Item, total_width}
use Rattle.std.proofs.lemmas.List.{length-set, take-set-le}
use Rattle.etagere_base.proofs.Totals.{total-append}

-- the width of an item
abbrev pub width_of_item : Item → ℕ
width_of_item item = item.width

-- freeing an item is setting it
pub freed-set : (n : ℕ) (items : List Item) (d : Item) → freed n items ≡ set items n (record { width = (get_or items n d).width; id = None })
freed-set n [] d = refl
freed-set zero (item ∷ items) d = refl
freed-set (suc n) (item ∷ items) d = ap (λ (rs : List Item). item ∷ rs) (freed-set n items d)

-- freeing an item replaces it by a free one
pub freed-replaced_at : (n : ℕ) (items : List Item) → freed n items ≡ replaced_at n (λ item. record { width = item.width; id = None } ∷ []) items
freed-replaced_at n [] = refl
freed-replaced_at zero (item ∷ items) = refl
freed-replaced_at (suc n) (item ∷ items) = ap (λ (rs : List Item). item ∷ rs) (freed-replaced_at n items)

-- the items before a freed one stay
pub take-freed : (n : ℕ) (items : List Item) → take n (freed n items) ≡ take n items
take-freed n items =
    let none : Item = record { width = 0; id = None } in
    rw (freed-set n items none) (take-set-le n items n _ (omega arith))

-- freeing an item changes no count
pub length-freed : (n : ℕ) (items : List Item) → length (freed n items) ≡ length items
length-freed n items =
    let none : Item = record { width = 0; id = None } in
    rw (freed-set n items none) (length-set items n _)

-- the widths of items, by a front and a back
pub total_width-append : (front back : List Item) → total_width (front ++ back) ≡ total_width front + total_width back
total_width-append front back = total-append width_of_item front back
