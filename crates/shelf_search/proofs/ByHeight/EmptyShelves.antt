-- A search for an empty shelf, where each other one is too tall for a good fit: bounds below the width of a column show
-- which aren't empty.
use Rattle.std.proofs.Common.{◌≡◌, ℕ, ◌+◌, ◌-◌, ◌<◌, ◌≤◌, Bool, true, false, Option, None, Some, List, [], ◌∷◌, drop, take, refl, ap, arith, sym, ◌∙◌, subst}
use Rattle.std.proofs.lemmas.Bool.Decides.{nat_tests}
use Rattle.std.proofs.lemmas.List.{drop-map}
use Rattle.std.specs.Option.{is_some, option_map_or}
use Rattle.std.specs.Prelude.{◌/◌, nat_le}
use Rattle.std.specs.List.{AllByRecursion}
use Rattle.etagere_base.proofs.EachLemmas.{Each-front, Each-weaken}
use Rattle.shelf_records.specs.Records.{free_list}
use Rattle.shelf_records.specs.RecordLists.{IsLinked, Records, first_free_of, free_walk, walked_lists}
use Rattle.shelf_records.proofs.AllLists.Following.{none-left}
use Rattle.shelf_records.proofs.AllLists.LinkedParts.{free-left}
use Rattle.shelf_records.specs.AtlasRecords.{height_of, is_empty_at, item_at}
use Rattle.shelf_heights.specs.Private.ByHeight.{IsFirstAsWide, bounded_at, numbers_by_height}
use Rattle.shelf_search.specs.Private.Opening.{AreSearchable, AreWhole, IsSearchable, bounded_full}
use Rattle.shelf_search.specs.Private.Searching.{AreTooTall, first_offer, good_offer}
use Rattle.shelf_search.specs.declared.choosing.Candidate.{Candidate}
use Rattle.shelf_heights.specs.declared.by_height.BoundedShelf.{BoundedShelf}
use Rattle.shelf_search.proofs.ByHeight.Searches.{Each-drop, Each-take, SearchesFrom, parted, passed-first}

pub good-other : (records : Records) (width height shelf : ℕ) → is_empty_at records.shelves shelf ≡ false → height + height / 2 + 1 ≤ height_of records.shelves shelf → good_offer records width height shelf ≡ None
good-other records width height shelf is tall =
    let high : nat_le (height_of records.shelves shelf) (height + height / 2) ≡ false = grind (arith, nat_tests) in
    rw (is, high) refl

-- a shelf whose bound is below the width of a column isn't empty
low-not_empty : (records : Records) (column_width : ℕ) (one : BoundedShelf) → IsSearchable records one → AreWhole records column_width → one.widest < column_width → is_empty_at records.shelves one.shelf ≡ false
low-not_empty records column_width one searchable whole low = by_test (is_empty_at records.shelves one.shelf) refl
  where
    by_test : (b : Bool) → is_empty_at records.shelves one.shelf ≡ b → is_empty_at records.shelves one.shelf ≡ false
    by_test false e = e
    by_test true e = absurd (omega (arith, low, (whole one.shelf searchable.stands).empty e one.widest searchable.bound))

-- so such shelves are no good fits
low-bad : (records : Records) (column_width width height : ℕ) (ones : List BoundedShelf) → AreSearchable records ones → AreWhole records column_width → AllByRecursion (λ (one : BoundedShelf). one.widest < column_width) ones → AreTooTall records.shelves height (numbers_by_height ones)
    → AllByRecursion (λ shelf. good_offer records width height shelf ≡ None) (numbers_by_height ones)
low-bad records column_width width height [] searchable whole low tall = tt
low-bad records column_width width height (one ∷ others) searchable whole low tall = (
  good-other records width height one.shelf (low-not_empty records column_width one searchable.0 whole low.0) tall.0,
  low-bad records column_width width height others searchable.1 whole low.1 tall.1,
)

-- the bound of one that isn't empty may fall below the width of a column
pub lowered : (records : Records) (column_width : ℕ) (one : BoundedShelf) → IsSearchable records one → AreWhole records column_width → is_empty_at records.shelves one.shelf ≡ false → IsSearchable records (record one { widest = column_width - 1 })
lowered records column_width one searchable whole busy =
    record {
      stands = searchable.stands;
      within = searchable.within;
      low = searchable.low;
      in_chain = searchable.in_chain;
      bound = Each-weaken (λ item. (item_at records.items item).width < column_width) (λ item. (item_at records.items item).width ≤ column_width - 1) (free_walk records one.shelf).met
          (λ item low. omega (arith, low)) ((whole one.shelf searchable.stands).other busy);
    }

-- the first that is offered, where something is and where nothing is
pub offer-first : (o rest : Option Candidate) → is_some o ≡ true → o ≡ option_map_or Some o rest
offer-first (Some candidate) rest some = refl
offer-first None rest some = absurd (cc)

pub offer-none : (o rest : Option Candidate) → is_some o ≡ false → rest ≡ option_map_or Some o rest
offer-none (Some candidate) rest none = absurd (cc)
offer-none None rest none = refl

module _ (records : Records) (column_width width height from : ℕ) (numbers : List ℕ) (by_height : List BoundedShelf) (whole : AreWhole records column_width) (search : SearchesFrom records (height + height / 2 + 1) from numbers by_height) where
  -- what the shelf that is reached offers stands before what those behind it offer
  pub empty-reached : (index : ℕ) → IsFirstAsWide from column_width by_height (Some index)
      → first_offer (good_offer records width height) (drop from numbers)
      ≡ option_map_or Some (good_offer records width height (bounded_at by_height index).shelf) (first_offer (good_offer records width height) (drop (index + 1) numbers))
  empty-reached index first =
      let whole_list = parted from index numbers by_height search.same first.0 first.1 in
      let front : List BoundedShelf = drop from (take index by_height) in
      let tall : AreTooTall records.shelves height (numbers_by_height front) =
      Each-front (λ shelf. height + height / 2 + 1 ≤ height_of records.shelves shelf) (numbers_by_height front) ((bounded_at by_height index).shelf ∷ drop (index + 1) numbers) (subst (AllByRecursion (λ shelf. height + height / 2 + 1 ≤ height_of records.shelves shelf)) whole_list search.tall) in
      ap (first_offer (good_offer records width height)) whole_list
      ∙ passed-first (good_offer records width height) (numbers_by_height front) ((bounded_at by_height index).shelf ∷ drop (index + 1) numbers)
      (low-bad records column_width width height front (Each-drop (IsSearchable records) from (take index by_height) (Each-take (IsSearchable records) index by_height search.searchable)) whole first.2 tall)

  -- where no bound is as wide as a column, there is no good fit
  pub empty-ended : IsFirstAsWide from column_width by_height None → first_offer (good_offer records width height) (drop from numbers) ≡ None
  empty-ended low =
      let numbers_are : drop from numbers ≡ numbers_by_height (drop from by_height) = ap (drop from) (sym search.same) ∙ drop-map (λ (x : BoundedShelf). x.shelf) from by_height in
      none-first (drop from numbers)
      (rw numbers_are (low-bad records column_width width height (drop from by_height) (Each-drop (IsSearchable records) from by_height search.searchable) whole low (subst (AreTooTall records.shelves height) numbers_are search.tall)))
    where
      none-first : (ns : List ℕ) → AllByRecursion (λ shelf. good_offer records width height shelf ≡ None) ns → first_offer (good_offer records width height) ns ≡ None
      none-first [] vain = refl
      none-first (n ∷ ns) vain = ap (λ o. option_map_or Some o (first_offer (good_offer records width height) ns)) vain.0 ∙ none-first ns vain.1

-- a shelf that has no free item is bounded by 0
pub full-bounded : (records : Records) (one : BoundedShelf) → IsLinked records (walked_lists records) → IsSearchable records one → first_free_of records.shelves one.shelf ≡ None → IsSearchable records (bounded_full one)
full-bounded records one linked searchable none =
    let full : (free_walk records one.shelf).met ≡ [] = none-left free_list.next records.items (first_free_of records.shelves one.shelf) 0 (free_walk records one.shelf).met (free-left records one.shelf linked searchable.stands) none in
    record {
      stands = searchable.stands;
      within = searchable.within;
      low = searchable.low;
      in_chain = searchable.in_chain;
      bound = subst (AllByRecursion (λ item. (item_at records.items item).width ≤ 0)) (sym full) tt;
    }
