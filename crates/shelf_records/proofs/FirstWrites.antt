-- Writing a shelf's links to the first of its lists, where the shelf is there, is changing them.
use Rattle.std.proofs.Common.{◌≡◌, ℕ, ◌<◌, Option, None, List, length, get_or, refl, sym, ◌∙◌}
use Rattle.std.proofs.Math.ListN.{set}
use Rattle.shelf_records.specs.declared.records.LinkedShelf.{LinkedShelf}
use Rattle.shelf_records.specs.RecordEdits.{with_first_item, with_first_free}
use Rattle.shelf_records.specs.RecordLists.{first_item_of, first_free_of}
use Rattle.etagere_links.proofs.EditLemmas.{set-changed, changed-twice}
use Rattle.etagere_links.proofs.FieldChanges.{field_at-kept, field_at-within}
use Rattle.shelf_records.proofs.FirstLinks.{to_first_item, to_first_free}

-- the first of the free list of a shelf that is there
pub first_free-within : (shelves : List LinkedShelf) (shelf : ℕ) (d : LinkedShelf) → shelf < length shelves → first_free_of shelves shelf ≡ (get_or shelves shelf d).first_unallocated
first_free-within shelves shelf d within = field_at-within (λ (s : LinkedShelf). s.first_unallocated) None shelves shelf d within

-- a write of the first item
pub first_item-written : (shelves : List LinkedShelf) (shelf : ℕ) (to : Option ℕ → Option ℕ) (here d : LinkedShelf) → shelf < length shelves → here ≡ get_or shelves shelf d → set shelves shelf (to_first_item (to here.first_item) here) ≡ with_first_item shelf (to (first_item_of shelves shelf)) shelves
first_item-written shelves shelf to here d within is =
    rw (is, field_at-within (λ (s : LinkedShelf). s.first_item) None shelves shelf d within)
    (set-changed (to_first_item (to (get_or shelves shelf d).first_item)) shelves shelf d within)

-- a write of both
pub firsts-written : (shelves : List LinkedShelf) (shelf : ℕ) (to to_free : Option ℕ → Option ℕ) (here d : LinkedShelf) → shelf < length shelves → here ≡ get_or shelves shelf d
    → let one : List LinkedShelf = with_first_free shelf (to_free (first_free_of shelves shelf)) shelves in set shelves shelf (to_first_item (to here.first_item) (to_first_free (to_free here.first_unallocated) here)) ≡ with_first_item shelf (to (first_item_of one shelf)) one
firsts-written shelves shelf to to_free here d within is =
    let item : Option ℕ = to (get_or shelves shelf d).first_item in
    let free : Option ℕ = to_free (get_or shelves shelf d).first_unallocated in
    rw (is, first_free-within shelves shelf d within, field_at-kept (λ (s : LinkedShelf). s.first_item) None (to_first_free free) shelves shelf shelf (λ x. refl), field_at-within (λ (s : LinkedShelf). s.first_item) None shelves shelf d within)
    (set-changed (λ (s : LinkedShelf). to_first_item item (to_first_free free s)) shelves shelf d within
    ∙ sym (changed-twice (to_first_item item) (to_first_free free) shelves shelf))

-- a write of the first of the free list
pub first_free-written : (shelves : List LinkedShelf) (shelf : ℕ) (link : Option ℕ) (here d : LinkedShelf) → shelf < length shelves → here ≡ get_or shelves shelf d → set shelves shelf (to_first_free link here) ≡ with_first_free shelf link shelves
first_free-written shelves shelf link here d within is = rw is (set-changed (to_first_free link) shelves shelf d within)

-- a write of the first of the free list that is made of what it was
pub first_free-freed : (shelves : List LinkedShelf) (shelf : ℕ) (to : Option ℕ → Option ℕ) (here d : LinkedShelf) → shelf < length shelves → here ≡ get_or shelves shelf d → set shelves shelf (to_first_free (to here.first_unallocated) here) ≡ with_first_free shelf (to (first_free_of shelves shelf)) shelves
first_free-freed shelves shelf to here d within is =
    rw (is, first_free-within shelves shelf d within)
    (set-changed (to_first_free (to (get_or shelves shelf d).first_unallocated)) shelves shelf d within)
