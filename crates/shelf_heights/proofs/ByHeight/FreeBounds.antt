-- Bounds on the free items of a shelf, by its items and by its free list.
use Rattle.std.proofs.Common.{◌≡◌, ℕ, zero, suc, ◌≤◌, ◌<◌, Bool, true, false, None, Some, List, [], ◌∷◌, ap, arith, filter, get_or, length, map, not, refl, sym, ◌∙◌, subst}
use Rattle.etagere_base.specs.declared.frames.Frame.{Frame}
use Rattle.std.specs.List.{AllByRecursion}
use Rattle.etagere_base.specs.Lists.{times}
use Rattle.etagere_base.proofs.EachLemmas.{Each-all}
use Rattle.etagere_links.specs.Edits.{link_at}
use Rattle.shelf_records.specs.declared.records.LinkedItem.{LinkedItem}
use Rattle.shelf_records.specs.RecordLists.{Entry, IsLinked, Records, first_free_of, free_walk, shelf_walk, walked_entry, walked_lists}
use Rattle.shelf_records.specs.Records.{free_list}
use Rattle.shelf_records.specs.AtlasRecords.{is_allocated_at, item_at, spelled_item, spelled_shelf}
use Rattle.shelf_heights.specs.Private.ByHeight.{IsBound}
use Rattle.shelf_records.specs.Private.Kept.{AreKept, atlas_of, bare}
use Rattle.shelf_records.proofs.Spelled.Witnessed.{IsPlaced}
use Rattle.shelf_model.specs.State.{Item, is_free}
use Rattle.shelf_records.proofs.AllLists.Following.{step-left}
use Rattle.shelf_records.proofs.AllLists.LinkedParts.{free-left}
use Rattle.shelf_records.proofs.Judged.FreeLists.{times-failed, times-passed}
use Rattle.shelf_records.proofs.Recorded.RecordsOfIds.{field_at-read}
use Rattle.shelf_records.proofs.Recorded.Members.{Each-member, Each-times}
use Rattle.shelf_records.proofs.Spelled.SpelledPlaces.{free-spelled}
use Rattle.shelf_records.proofs.Spelled.Witnesses.{Each-unmap}
use Rattle.shelf_records.proofs.Spelled.StandsKept.{witnesses}

-- a fact of each element is one of its image
Each-map : {X Y : Type 0} (P : Y → Type 0) (f : X → Y) (xs : List X) → AllByRecursion (λ (x : X). P (f x)) xs → AllByRecursion P (map f xs)
Each-map P f [] each = tt
Each-map P f (x ∷ xs) each = (each.0, Each-map P f xs each.1)

-- where a list has those of some items that are free, a bound on its widths is one on those of the free items
module _ (items : List LinkedItem) (members free : List ℕ) (lists : (item : ℕ) → times item free ≡ times item (filter (λ member. not (is_allocated_at items member)) members)) where
  -- one in the list is an item, and free
  listed-free : (k : ℕ) → 1 ≤ times k free → (1 ≤ times k members) × (is_free (item_at items k) ≡ true)
  listed-free k stands = by_test (not (is_allocated_at items k)) refl
    where
      by_test : (b : Bool) → not (is_allocated_at items k) ≡ b → (1 ≤ times k members) × (is_free (item_at items k) ≡ true)
      by_test true e = (omega (arith, stands, lists k, times-passed (λ member. not (is_allocated_at items member)) k members e), free-spelled items k ∙ e)
      by_test false e = absurd (omega (arith, stands, lists k, times-failed (λ member. not (is_allocated_at items member)) k members e))

  -- an item that is free is in the list
  free-listed : (k : ℕ) → 1 ≤ times k members → is_free (item_at items k) ≡ true → 1 ≤ times k free
  free-listed k stands is =
      omega (arith, stands, lists k, times-passed (λ member. not (is_allocated_at items member)) k members (sym (free-spelled items k) ∙ is))

  pub bound-listed : (widest : ℕ) → AllByRecursion (λ (item : Item). is_free item ≡ true → item.width ≤ widest) (map (item_at items) members) → AllByRecursion (λ item. (item_at items item).width ≤ widest) free
  bound-listed widest bound =
      Each-times (λ item. (item_at items item).width ≤ widest) free
      (λ k stands.
      let here = listed-free k stands in
      Each-member (λ item. is_free (item_at items item) ≡ true → (item_at items item).width ≤ widest) members k (Each-unmap (λ (item : Item). is_free item ≡ true → item.width ≤ widest) (item_at items) members bound) here.0 here.1)

  pub listed-bound : (widest : ℕ) → AllByRecursion (λ item. (item_at items item).width ≤ widest) free → AllByRecursion (λ (item : Item). is_free item ≡ true → item.width ≤ widest) (map (item_at items) members)
  listed-bound widest bound =
      Each-map (λ (item : Item). is_free item ≡ true → item.width ≤ widest) (item_at items) members
      (Each-times (λ item. is_free (item_at items item) ≡ true → (item_at items item).width ≤ widest) members
      (λ k stands is. Each-member (λ item. (item_at items item).width ≤ widest) free k bound (free-listed k stands is)))

module _ (frame : Frame) (records : Records) (kept : AreKept frame records) where
  -- the shelves in use
  abbrev in_use : List ℕ
  in_use = (shelf_walk records).met

  -- the free list of a shelf in use has those of its items that are free
  pub listed : (shelf : ℕ) → 1 ≤ times shelf in_use → (item : ℕ)
      → times item (walked_entry records shelf).free_list ≡ times item (filter (λ member. not (is_allocated_at records.items member)) (walked_entry records shelf).items)
  listed shelf stands item =
      (Each-member (λ n. IsPlaced (atlas_of frame records) (walked_entry records n)) in_use shelf (Each-unmap (IsPlaced (atlas_of frame records)) (walked_entry records) in_use (witnesses kept).placed) stands).free_list item

  -- a bound on the free list of a shelf in use is one on its free items
  pub free-bound : (shelf widest : ℕ) → 1 ≤ times shelf in_use → AllByRecursion (λ item. (item_at records.items item).width ≤ widest) (free_walk records shelf).met
      → AllByRecursion (λ (entry : Entry). entry.number ≡ shelf → IsBound widest (spelled_shelf (bare frame records) entry)) (map (walked_entry records) in_use)
  free-bound shelf widest stands low =
      let entry : Entry = walked_entry records shelf in
      let bound : IsBound widest (spelled_shelf (bare frame records) entry) = listed-bound records.items entry.items entry.free_list (listed shelf stands) widest low in
      Each-map (λ (entry : Entry). entry.number ≡ shelf → IsBound widest (spelled_shelf (bare frame records) entry)) (walked_entry records) in_use
      (Each-all (λ n. n ≡ shelf → IsBound widest (spelled_shelf (bare frame records) (walked_entry records n)))
      (λ n is. subst (λ k. IsBound widest (spelled_shelf (bare frame records) (walked_entry records k))) (sym is) bound) in_use)

-- how wide an item is whose record was read
pub width-read : (records : Records) (number : ℕ) (item : LinkedItem) → number < length records.items → item ≡ get_or records.items number item → (item_at records.items number).width ≡ item.width
width-read records number item within read =
    ap (λ (i : Item). i.width) (field_at-read (spelled_item number) (record { width = 0; id = None }) records.items number item within read)

-- where its free list leads
pub next-read : (items : List LinkedItem) (number : ℕ) (item : LinkedItem) → number < length items → item ≡ get_or items number item → link_at free_list.next items number ≡ item.next_unallocated
next-read [] number item within read = absurd (omega arith)
next-read (x ∷ xs) zero item within read = ap (λ (i : LinkedItem). i.next_unallocated) (sym read)
next-read (x ∷ xs) (suc number) item within read = next-read xs number item (omega arith) read

-- the record of the first free item is there
pub first-within : (records : Records) (shelf number : ℕ) → IsLinked records (walked_lists records) → 1 ≤ times shelf (shelf_walk records).met → first_free_of records.shelves shelf ≡ Some number
    → number < length records.items
first-within records shelf number linked stands first =
    (step-left free_list.next records.items (first_free_of records.shelves shelf) number 0 (free_walk records shelf).met (free-left records shelf linked stands) first).here
