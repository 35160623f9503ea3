-- The ids that hold items, of a front and a back.
use Rattle.std.proofs.Common.{◌≡◌, ℕ, ◌+◌, Option, None, Some, List, [], ◌∷◌, ◌++◌, refl, ap, ◌∙◌}
use Rattle.std.proofs.lemmas.List.Concat.{flat_map-append}
use Rattle.etagere_base.specs.Lists.{times}
use Rattle.shelf_model.specs.State.{Item, Shelf}
use Rattle.etagere_base.proofs.TimesLemmas.{times-append}
use Rattle.shelf_model.proofs.Allocations.IdLists.{id_list, item_ids, ids}

-- how often an id holds an item of a front and a back
pub times-item_ids : (k : ℕ) (front back : List Item) → times k (item_ids (front ++ back)) ≡ times k (item_ids front) + times k (item_ids back)
times-item_ids k front back = ap (times k) (flat_map-append (λ item. id_list item.id) front back) ∙ times-append k (item_ids front) (item_ids back)

-- how often an id holds an item of the shelves of a front and a back
pub times-ids : (k : ℕ) (front back : List Shelf) → times k (ids (front ++ back)) ≡ times k (ids front) + times k (ids back)
times-ids k front back = ap (times k) (flat_map-append (λ shelf. item_ids shelf.items) front back) ∙ times-append k (ids front) (ids back)

-- whether an id holds an item, as a count
abbrev pub id_count : ℕ → Item → ℕ
id_count k item = times k (id_list item.id)

-- without an id the first item is free, and so are the others
pub free_first : (item : Item) (items : List Item) → item_ids (item ∷ items) ≡ [] → (item.id ≡ None) × (item_ids items ≡ [])
free_first item items h = of_option item.id h
  where
    of_option : (owner : Option ℕ) → item_ids (record { width = item.width; id = owner } ∷ items) ≡ [] → (owner ≡ None) × (item_ids items ≡ [])
    of_option None h = (refl, h)
    of_option (Some id) h = absurd (cc)
