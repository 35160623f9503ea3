-- The links from a shelf to the first of its lists: what changing one of them changes.
use Rattle.std.proofs.Common.{◌≡◌, ◌≢◌, ℕ, Option, None, Some, List, length, refl}
use Rattle.shelf_records.specs.declared.records.LinkedShelf.{LinkedShelf}
use Rattle.etagere_links.specs.Edits.{changed_by, link_at}
use Rattle.shelf_records.specs.RecordLists.{first_item_of, first_free_of}
use Rattle.shelf_records.specs.Records.{shelf_chain}
use Rattle.etagere_links.proofs.FieldChanges.{field_at-other}
use Rattle.etagere_links.proofs.RecordChanges.{length-changed_by, map-changed_by, link_at-same}

-- the change of a shelf's first item
abbrev pub to_first_item : Option ℕ → LinkedShelf → LinkedShelf
to_first_item link shelf = record shelf { first_item = link }

-- the change of the first of a shelf's free list
abbrev pub to_first_free : Option ℕ → LinkedShelf → LinkedShelf
to_first_free link shelf = record shelf { first_unallocated = link }

-- shelves in the same chain, of which only this one may begin with other items
pub record SameChain (shelves new : List LinkedShelf) (number : ℕ) : Type 0 where
  pub count : length new ≡ length shelves
  pub next : (k : ℕ) → link_at shelf_chain.next new k ≡ link_at shelf_chain.next shelves k
  pub previous : (k : ℕ) → link_at shelf_chain.previous new k ≡ link_at shelf_chain.previous shelves k
  pub firsts : (k : ℕ) → Some number ≢ Some k → (first_item_of new k ≡ first_item_of shelves k) × (first_free_of new k ≡ first_free_of shelves k)

-- shelves stay linked where one begins with other items
pub chain-kept : (change : LinkedShelf → LinkedShelf) (shelves : List LinkedShelf) (number : ℕ) → ((x : LinkedShelf) → (change x).next ≡ x.next) → ((x : LinkedShelf) → (change x).prev ≡ x.prev) → SameChain shelves (changed_by (Some number) change shelves) number
chain-kept change shelves number next previous =
    let new : List LinkedShelf = changed_by (Some number) change shelves in
    record {
      count = length-changed_by change shelves (Some number);
      next = λ k. link_at-same shelf_chain.next shelves new k (map-changed_by shelf_chain.next change shelves (Some number) next);
      previous = λ k. link_at-same shelf_chain.previous shelves new k (map-changed_by shelf_chain.previous change shelves (Some number) previous);
      firsts = λ k other. (
        field_at-other (λ (x : LinkedShelf). x.first_item) None change shelves (Some number) k other,
        field_at-other (λ (x : LinkedShelf). x.first_unallocated) None change shelves (Some number) k other,
      );
    }

-- the same shelves
pub chain-same_all : (shelves : List LinkedShelf) (number : ℕ) → SameChain shelves shelves number
chain-same_all shelves number = record { count = refl; next = λ k. refl; previous = λ k. refl; firsts = λ k other. (refl, refl) }
