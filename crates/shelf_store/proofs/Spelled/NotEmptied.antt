-- A shelf that isn't empty after a return: nothing merges with it.
use Rattle.std.proofs.Common.{◌≡◌, ℕ, zero, suc, Bool, true, false, ◌==◌, Option, None, Some, List, [], ◌∷◌, refl, ap, sym, ◌∙◌}
use Rattle.std.specs.Prelude.{◌&&◌}
use Rattle.shelf_records.specs.declared.records.LinkedShelf.{LinkedShelf}
use Rattle.etagere_links.specs.Edits.{link_at}
use Rattle.shelf_records.specs.RecordEdits.{with_empty}
use Rattle.shelf_records.specs.RecordLists.{Records}
use Rattle.shelf_records.specs.Records.{shelf_chain}
use Rattle.shelf_records.specs.AtlasRecords.{along_of, is_empty_at}
use Rattle.shelf_store.specs.Private.ItemReturned.{IsLinkedBack, IsRemaining, Step, are_both_empty, emptiness_said, has_one_free, item_merged, empty_named, empty_next, named_shelf_merged, shelf_merged, shelf_next_absorbed, shelves_merged}
use Rattle.shelf_store.specs.Private.ReturnedNotes.{named_shelf_merged_notes, next_absorbed_notes, shelf_merged_notes, shelves_merged_notes}
use Rattle.shelf_notes.specs.Private.Pending.{Notes}

-- a shelf that says again what it says
same-said : (shelf : ℕ) (is_empty : Bool) (shelves : List LinkedShelf) → is_empty_at shelves shelf ≡ is_empty → with_empty shelf is_empty shelves ≡ shelves
same-said shelf is_empty [] e = refl
same-said zero is_empty (x ∷ xs) e = rw (← e) refl
same-said (suc shelf) is_empty (x ∷ xs) e = ap (λ (ys : List LinkedShelf). x ∷ ys) (same-said shelf is_empty xs e)

-- two shelves aren't both empty where one isn't
first-not : (same other : Bool) → (same && (false && other)) ≡ false
first-not true other = refl
first-not false other = refl

second-not : (same one : Bool) → (same && (one && false)) ≡ false
second-not true true = refl
second-not true false = refl
second-not false one = refl

-- a shelf that isn't empty takes no other's place
none-named : (shelves : List LinkedShelf) (shelf : ℕ) (link : Option ℕ) → is_empty_at shelves shelf ≡ false → empty_named shelves shelf link ≡ None
none-named shelves shelf None e = refl
none-named shelves shelf (Some next) e =
    let none : are_both_empty shelves shelf next ≡ false = rw e (first-not (along_of shelves shelf == along_of shelves next) (is_empty_at shelves next)) in
    simp none refl

-- and none takes its place
none-before : (shelves : List LinkedShelf) (shelf before : ℕ) → link_at shelf_chain.next shelves before ≡ Some shelf → is_empty_at shelves shelf ≡ false → empty_next shelves before ≡ None
none-before shelves shelf before link e =
    let none : are_both_empty shelves before shelf ≡ false = rw e (second-not (along_of shelves before == along_of shelves shelf) (is_empty_at shelves before)) in
    let named : empty_named shelves before (Some shelf) ≡ None = simp none refl in
    ap (empty_named shelves before) link ∙ named

-- where a shelf isn't empty, no shelves merge
shelves-stay : (shelf : ℕ) (records : Records) → IsLinkedBack shelf records.shelves → is_empty_at records.shelves shelf ≡ false → shelves_merged shelf records ≡ record { records = records; made_unused = 0 }
shelves-stay shelf records linked e =
    let one : shelf_merged shelf records ≡ record { records = records; made_unused = 0 } = ap (λ (o : Option ℕ). shelf_next_absorbed shelf o records) (none-named records.shelves shelf (link_at shelf_chain.next records.shelves shelf) e) in
    rw (one, by_link (link_at shelf_chain.previous records.shelves shelf) (λ n named. none-before records.shelves shelf n (linked n named) e)) refl
  where
    by_link : (link : Option ℕ) → ((n : ℕ) → link ≡ Some n → empty_next records.shelves n ≡ None) → named_shelf_merged link records ≡ record { records = records; made_unused = 0 }
    by_link None none = refl
    by_link (Some n) none = ap (λ (o : Option ℕ). shelf_next_absorbed n o records) (none n refl)

-- and nothing is noted
notes-stay : (shelf : ℕ) (records : Records) (notes : Notes) → IsLinkedBack shelf records.shelves → is_empty_at records.shelves shelf ≡ false → shelves_merged_notes shelf records notes ≡ notes
notes-stay shelf records notes linked e =
    let none : empty_next records.shelves shelf ≡ None = none-named records.shelves shelf (link_at shelf_chain.next records.shelves shelf) e in
    let one : shelf_merged shelf records ≡ record { records = records; made_unused = 0 } = ap (λ (o : Option ℕ). shelf_next_absorbed shelf o records) none in
    let noted : shelf_merged_notes shelf records notes ≡ notes = ap (λ (o : Option ℕ). next_absorbed_notes shelf o records notes) none in
    rw (one, noted) (by_link (link_at shelf_chain.previous records.shelves shelf) (λ n named. none-before records.shelves shelf n (linked n named) e))
  where
    by_link : (link : Option ℕ) → ((n : ℕ) → link ≡ Some n → empty_next records.shelves n ≡ None) → named_shelf_merged_notes link records notes ≡ notes
    by_link None none = refl
    by_link (Some n) none = ap (λ (o : Option ℕ). next_absorbed_notes n o records notes) (none n refl)

-- what a return leaves of a shelf that isn't empty then: nothing but the item changes
pub record StaysInUse (shelf : ℕ) (merged : Records) : Type 0 where
  pub records : (shelves_merged shelf (emptiness_said shelf merged)).records ≡ merged
  pub made_unused : (shelves_merged shelf (emptiness_said shelf merged)).made_unused ≡ 0
  pub unnoted : (notes : Notes) → shelves_merged_notes shelf (emptiness_said shelf merged) notes ≡ notes

pub stays-in-use : (shelf number : ℕ) (records : Records) → IsRemaining shelf number records → IsLinkedBack shelf (emptiness_said shelf (item_merged shelf number records).records).shelves → has_one_free shelf (item_merged shelf number records).records ≡ false → StaysInUse shelf (item_merged shelf number records).records
stays-in-use shelf number records remaining linked in_use =
    let merged : Records = (item_merged shelf number records).records in
    let said : emptiness_said shelf merged ≡ merged =
    ap (λ (shelves : List LinkedShelf). record merged { shelves = shelves }) (same-said shelf (has_one_free shelf merged) merged.shelves (remaining.in_use ∙ sym in_use)) in
    let busy : is_empty_at (emptiness_said shelf merged).shelves shelf ≡ false = ap (λ (r : Records). is_empty_at r.shelves shelf) said ∙ remaining.in_use in
    let stay : shelves_merged shelf (emptiness_said shelf merged) ≡ record { records = emptiness_said shelf merged; made_unused = 0 } =
    shelves-stay shelf (emptiness_said shelf merged) linked busy in
    record {
      records = ap (λ (s : Step). s.records) stay ∙ said;
      made_unused = ap (λ (s : Step). s.made_unused) stay;
      unnoted = λ notes. notes-stay shelf (emptiness_said shelf merged) notes linked busy;
    }
