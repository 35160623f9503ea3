-- Shelves by height of kept records can be searched, and stay by height where a search lets their bounds fall.
use Rattle.std.proofs.Common.{◌≡◌, ℕ, ◌+◌, ◌-◌, ◌<◌, ◌≤◌, true, false, List, [], ◌∷◌, ap, arith, length, map, refl, sym, ◌∙◌, subst}
use Rattle.etagere_base.specs.declared.frames.Frame.{Frame}
use Rattle.std.specs.List.{AllByRecursion}
use Rattle.etagere_base.specs.Lists.{times}
use Rattle.etagere_base.proofs.EachLemmas.{Each-weaken}
use Rattle.shelf_records.specs.RecordLists.{Entry, Records, shelf_walk, walked_entry}
use Rattle.shelf_records.proofs.AllLists.LinkedWalks.{walked-numbers}
use Rattle.shelf_records.specs.AtlasRecords.{is_empty_at, item_at, spelled_shelf}
use Rattle.shelf_model.specs.Listing.{RiseFrom}
use Rattle.shelf_heights.specs.Private.ByHeight.{AreBounds, AreByHeightFor, AreInOrder, IsBound, order_of, numbers_by_height}
use Rattle.shelf_records.specs.Private.Kept.{AreKept, atlas_of, bare}
use Rattle.shelf_records.proofs.Spelled.Witnessed.{HasFlag}
use Rattle.shelf_search.specs.Private.Opening.{AreSearchable, AreWhole, IsSearchable}
use Rattle.shelf_model.specs.State.{Item, is_free, is_one_free, total_width}
use Rattle.shelf_model.specs.Valid.{IsItem, IsShelf}
use Rattle.shelf_heights.specs.declared.by_height.BoundedShelf.{BoundedShelf}
use Rattle.shelf_heights.proofs.ByHeight.FreeBounds.{bound-listed, free-bound, listed, listed-bound}
use Rattle.shelf_heights.proofs.ByHeight.OrdersRise.{LiesWithin, kept-within}
use Rattle.shelf_records.proofs.Recorded.Members.{Each-member, Each-times}
use Rattle.shelf_records.proofs.AllLists.LinkedParts.{shelf-within}
use Rattle.shelf_records.proofs.Spelled.Witnesses.{Each-unmap}
use Rattle.shelf_records.proofs.Spelled.StandsKept.{witnesses}

-- one free item is as wide as all items; of more than one, none is
one_free-bound : (items : List Item) (bound : ℕ) → is_one_free items ≡ true → AllByRecursion (λ (item : Item). is_free item ≡ true → item.width ≤ bound) items → total_width items ≤ bound
one_free-bound [] bound free each = absurd (cc)
one_free-bound (item ∷ []) bound free each = omega (arith, each.0 free)
one_free-bound (item ∷ next ∷ items) bound free each = absurd (cc)

each-total : (items : List Item) → AllByRecursion (λ (item : Item). item.width ≤ total_width items) items
each-total [] = tt
each-total (item ∷ items) =
    (omega arith, Each-weaken (λ (it : Item). it.width ≤ total_width items) (λ (it : Item). it.width ≤ total_width (item ∷ items)) items (λ it low. omega (arith, low)) (each-total items))

part-bound : (items : List Item) → is_one_free items ≡ false → AllByRecursion (λ (item : Item). 1 ≤ item.width) items → AllByRecursion (λ (item : Item). is_free item ≡ true → item.width + 1 ≤ total_width items) items
part-bound [] more wide = tt
part-bound (item ∷ []) more wide = (λ free. absurd (cc), tt)
part-bound (item ∷ next ∷ items) more wide = (
  λ free. omega (arith, wide.1.0),
  Each-weaken (λ (it : Item). it.width ≤ total_width (next ∷ items)) (λ (it : Item). is_free it ≡ true → it.width + 1 ≤ total_width (item ∷ next ∷ items)) (next ∷ items) (λ it low free. omega (arith, low, wide.0)) (each-total (next ∷ items)),
)

module _ (frame : Frame) (records : Records) (kept : AreKept frame records) where
  -- the shelves in use
  abbrev in_use : List ℕ
  in_use = (shelf_walk records).met

  -- a shelf in use with a bound can be searched
  one-searchable : (one : BoundedShelf) → 1 ≤ times one.shelf in_use
      → AllByRecursion (λ (entry : Entry). entry.number ≡ one.shelf → IsBound one.widest (spelled_shelf (bare frame records) entry)) (map (walked_entry records) in_use) → IsSearchable records one
  one-searchable one stands bounds =
      let entry : Entry = walked_entry records one.shelf in
      let lies : LiesWithin frame records.shelves one.shelf = Each-member (LiesWithin frame records.shelves) in_use one.shelf (kept-within frame records kept) stands in
      let bound : IsBound one.widest (spelled_shelf (bare frame records) entry) =
      Each-member (λ n. n ≡ one.shelf → IsBound one.widest (spelled_shelf (bare frame records) (walked_entry records n))) in_use one.shelf
      (Each-unmap (λ (entry : Entry). entry.number ≡ one.shelf → IsBound one.widest (spelled_shelf (bare frame records) entry)) (walked_entry records) in_use bounds) stands refl in
      record {
        stands = stands;
        within = shelf-within records one.shelf (witnesses kept).linked stands;
        low = lies.low;
        in_chain = omega (arith, lies.along, lies.across);
        bound = bound-listed records.items entry.items entry.free_list (listed frame records kept one.shelf stands) one.widest bound;
      }

  -- a shelf in use is empty where its one item is as wide as the column
  pub kept-whole : AreWhole records frame.column_width
  kept-whole shelf stands =
      let entry : Entry = walked_entry records shelf in
      let own : List Item = map (item_at records.items) entry.items in
      let flag : is_empty_at records.shelves shelf ≡ is_one_free own =
      Each-member (λ n. HasFlag (atlas_of frame records) (walked_entry records n)) in_use shelf (Each-unmap (HasFlag (atlas_of frame records)) (walked_entry records) in_use (witnesses kept).flags) stands in
      let valid : IsShelf frame (spelled_shelf (bare frame records) entry) =
      Each-member (λ n. IsShelf frame (spelled_shelf (bare frame records) (walked_entry records n))) in_use shelf
      (Each-unmap (λ (e : Entry). IsShelf frame (spelled_shelf (bare frame records) e)) (walked_entry records) in_use
      (Each-unmap (IsShelf frame) (spelled_shelf (bare frame records)) (map (walked_entry records) in_use) (witnesses kept).valid.shelves)) stands in
      record {
        empty = λ is bound each.
            omega (arith, valid.width, one_free-bound own bound (sym flag ∙ is) (listed-bound records.items entry.items entry.free_list (listed frame records kept shelf stands) bound each));
        other = λ is.
            Each-weaken (λ item. (item_at records.items item).width ≤ frame.column_width - 1) (λ item. (item_at records.items item).width < frame.column_width) entry.free_list
            (λ item low. omega (arith, low, (witnesses kept).valid.frame.column_width))
            (bound-listed records.items entry.items entry.free_list (listed frame records kept shelf stands) (frame.column_width - 1)
            (Each-weaken (λ (item : Item). is_free item ≡ true → item.width + 1 ≤ total_width own) (λ (item : Item). is_free item ≡ true → item.width ≤ frame.column_width - 1) own
            (λ item part free. omega (arith, part free, valid.width))
            (part-bound own (sym flag ∙ is) (Each-weaken (IsItem frame) (λ (item : Item). 1 ≤ item.width) own (λ item is. is.width) valid.items))));
      }

  -- the shelves by height of kept records can be searched, also where some are left out
  pub by_height-searchable : (width : ℕ) (by_height : List BoundedShelf) → AreByHeightFor frame records width by_height → AreSearchable records by_height
  by_height-searchable width by_height are =
      by_each by_height
      (Each-times (λ n. 1 ≤ times n in_use) (numbers_by_height by_height) (λ k stands. omega (arith, stands, are.once k, ap (times k) (walked-numbers records in_use)))) are.bounds
    where
      by_each : (ones : List BoundedShelf) → AllByRecursion (λ n. 1 ≤ times n in_use) (numbers_by_height ones) → AreBounds (bare frame records) (map (walked_entry records) in_use) ones → AreSearchable records ones
      by_each [] stands bounds = tt
      by_each (one ∷ others) stands bounds = (one-searchable one stands.0 bounds.0, by_each others stands.1 bounds.1)

  -- a shelf in use that is left out can be searched too, with the bound for which it is
  pub left_out-searchable : (width : ℕ) (by_height : List BoundedShelf) (shelf : ℕ) → AreByHeightFor frame records width by_height → 1 ≤ times shelf in_use → times shelf (numbers_by_height by_height) ≡ 0
      → IsSearchable records (record { widest = width - 1; shelf = shelf })
  left_out-searchable width by_height shelf are stands out =
      one-searchable (record { widest = width - 1; shelf = shelf }) stands
      (are.left_out shelf (omega (arith, stands, ap (times shelf) (walked-numbers records in_use))) out)

  -- the shelves by height of kept records are in order
  pub by_height-ordered : (width : ℕ) (by_height : List BoundedShelf) → AreByHeightFor frame records width by_height → AreInOrder records.shelves by_height
  by_height-ordered width by_height are = record { within = by_each by_height (by_height-searchable width by_height are); rising = are.rising }
    where
      by_each : (ones : List BoundedShelf) → AreSearchable records ones → AllByRecursion (λ shelf. shelf < length records.shelves) (numbers_by_height ones)
      by_each [] searchable = tt
      by_each (one ∷ others) searchable = (searchable.0.within, by_each others searchable.1)

  -- shelves of the same numbers that can be searched stand by height too
  pub searchable-by_height : (width : ℕ) (old new : List BoundedShelf) → AreByHeightFor frame records width old → numbers_by_height new ≡ numbers_by_height old → AreSearchable records new
      → AreByHeightFor frame records width new
  searchable-by_height width old new are same searchable =
      record {
        once = λ k. omega (arith, are.once k, ap (times k) same);
        left_out = λ k stands out. are.left_out k stands (ap (times k) (sym same) ∙ out);
        rising = subst (λ (ns : List ℕ). RiseFrom 0 (map (order_of records.shelves) ns)) (sym same) are.rising;
        bounds = Each-weaken (IsSearchable records)
            (λ (one : BoundedShelf). AllByRecursion (λ (entry : Entry). entry.number ≡ one.shelf → IsBound one.widest (spelled_shelf (bare frame records) entry)) (map (walked_entry records) in_use))
            new (λ one searchable. free-bound frame records kept one.shelf one.widest searchable.stands searchable.bound) searchable;
      }
