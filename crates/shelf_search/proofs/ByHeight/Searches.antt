-- Where a search of the shelves by height has come to, from shelf to shelf.
use Rattle.std.proofs.Common.{◌≡◌, ℕ, zero, suc, ◌+◌, ◌<◌, ◌≤◌, Option, None, Some, List, [], ◌∷◌, ◌++◌, drop, get_or, length, map, set, take, refl, ap, arith, sym, ◌∙◌, subst}
use Rattle.std.proofs.Math.Seq.{map-set_same}
use Rattle.std.proofs.lemmas.List.{drop-map, length-map, map-append, take-append-drop, take-map, drop_more, get_or_default}
use Rattle.std.specs.Option.{option_map_or}
use Rattle.std.specs.List.{AllByRecursion}
use Rattle.etagere_base.proofs.EachLemmas.{Each-back}
use Rattle.shelf_records.specs.RecordLists.{Records}
use Rattle.shelf_records.specs.declared.records.LinkedShelf.{LinkedShelf}
use Rattle.shelf_records.specs.AtlasRecords.{height_of}
use Rattle.shelf_model.specs.Listing.{RiseFrom}
use Rattle.shelf_heights.specs.Private.ByHeight.{AreInOrder, IsFirstAsWide, IsStart, order_at, order_of, numbers_by_height, bounded_at}
use Rattle.shelf_search.specs.Private.Opening.{AreSearchable, AreTall, IsSearchable}
use Rattle.shelf_search.specs.Private.Searching.{earlier, earliest, first_by_height, first_offer, good_offer, offered}
use Rattle.shelf_search.specs.declared.choosing.Candidate.{Candidate}
use Rattle.shelf_heights.specs.declared.by_height.BoundedShelf.{BoundedShelf}
use Rattle.shelf_search.proofs.ByHeight.SearchedOnes.{good-none, offered-low, offered-short}

-- a fact of each after some, of some of the first, and with one replaced
pub Each-drop : {X : Type 0} (P : X → Type 0) (n : ℕ) (xs : List X) → AllByRecursion P xs → AllByRecursion P (drop n xs)
Each-drop P zero xs each = each
Each-drop P (suc n) [] each = tt
Each-drop P (suc n) (x ∷ xs) each = Each-drop P n xs each.1

pub Each-take : {X : Type 0} (P : X → Type 0) (n : ℕ) (xs : List X) → AllByRecursion P xs → AllByRecursion P (take n xs)
Each-take P zero xs each = tt
Each-take P (suc n) [] each = tt
Each-take P (suc n) (x ∷ xs) each = (each.0, Each-take P n xs each.1)

Each-set : {X : Type 0} (P : X → Type 0) (xs : List X) (n : ℕ) (y : X) → AllByRecursion P xs → P y → AllByRecursion P (set xs n y)
Each-set P [] n y each own = tt
Each-set P (x ∷ xs) zero y each own = (own, each.1)
Each-set P (x ∷ xs) (suc n) y each own = (each.0, Each-set P xs n y each.1 own)

Each-at : {X : Type 0} (P : X → Type 0) (xs : List X) (n : ℕ) (d : X) → n < length xs → AllByRecursion P xs → P (get_or xs n d)
Each-at P [] n d within each = absurd (omega arith)
Each-at P (x ∷ xs) zero d within each = each.0
Each-at P (x ∷ xs) (suc n) d within each = Each-at P xs n d (omega arith) each.1

-- shelves whose bounds are below a width offer nothing
pub offered-vain : (records : Records) (width height : ℕ) (by_height : List BoundedShelf) → AreSearchable records by_height → AllByRecursion (λ (one : BoundedShelf). one.widest < width) by_height
    → AllByRecursion (λ shelf. offered records width height shelf ≡ None) (numbers_by_height by_height)
offered-vain records width height [] searchable low = tt
offered-vain records width height (one ∷ others) searchable low =
    (offered-low records width height one searchable.0 low.0, offered-vain records width height others searchable.1 low.1)

-- from one position on: what stands before another, and what stands from there on
pub drop-between : {X : Type 0} (xs : List X) (from next : ℕ) → from ≤ next → drop from xs ≡ drop from (take next xs) ++ drop next xs
drop-between xs zero next after = sym (take-append-drop next xs)
drop-between xs (suc from) zero after = absurd (omega arith)
drop-between [] (suc from) (suc next) after = refl
drop-between (x ∷ xs) (suc from) (suc next) after = drop-between xs from next (omega arith)

-- shelves that offer nothing are passed
pub passed-first : (offers : ℕ → Option Candidate) (shelves others : List ℕ) → AllByRecursion (λ shelf. offers shelf ≡ None) shelves → first_offer offers (shelves ++ others) ≡ first_offer offers others
passed-first offers [] others vain = refl
passed-first offers (n ∷ ns) others vain =
    ap (λ o. option_map_or Some o (first_offer offers (ns ++ others))) vain.0 ∙ passed-first offers ns others vain.1

pub passed-earliest : (records : List LinkedShelf) (offers : ℕ → Option Candidate) (shelves others : List ℕ) → AllByRecursion (λ shelf. offers shelf ≡ None) shelves → earliest records (map offers (shelves ++ others)) ≡ earliest records (map offers others)
passed-earliest records offers [] others vain = refl
passed-earliest records offers (n ∷ ns) others vain =
    ap (λ o. earlier records o (earliest records (map offers (ns ++ others)))) vain.0 ∙ passed-earliest records offers ns others vain.1

pub good-vain : (records : Records) (width height : ℕ) (shelves : List ℕ) → AllByRecursion (λ shelf. offered records width height shelf ≡ None) shelves → AllByRecursion (λ shelf. good_offer records width height shelf ≡ None) shelves
good-vain records width height [] vain = tt
good-vain records width height (n ∷ ns) vain = (good-none records width height n vain.0, good-vain records width height ns vain.1)

-- where a search has come to: the shelves are those of these numbers, and from here on each is tall enough
pub record SearchesFrom (records : Records) (height from : ℕ) (numbers : List ℕ) (by_height : List BoundedShelf) : Type 0 where
  pub same : numbers_by_height by_height ≡ numbers
  pub searchable : AreSearchable records by_height
  pub within : from ≤ length by_height
  pub tall : AreTall records.shelves height (drop from numbers)

-- the shelf at a position is the same by any default
pub read-at : (by_height : List BoundedShelf) (index : ℕ) (d : BoundedShelf) → index < length by_height → get_or by_height index d ≡ bounded_at by_height index
read-at by_height index d within = get_or_default by_height index d (record { widest = 0; shelf = 0 }) within

-- with another bound for one the numbers stay, and each is searchable where that one is
pub numbers-set : (by_height : List BoundedShelf) (index : ℕ) (one : BoundedShelf) → one.shelf ≡ (bounded_at by_height index).shelf → numbers_by_height (set by_height index one) ≡ numbers_by_height by_height
numbers-set by_height index one same = map-set_same (λ (x : BoundedShelf). x.shelf) by_height index one (record { widest = 0; shelf = 0 }) same

pub searchable-set : (records : Records) (by_height : List BoundedShelf) (index : ℕ) (one : BoundedShelf) → AreSearchable records by_height → IsSearchable records one → AreSearchable records (set by_height index one)
searchable-set records by_height index one searchable own = Each-set (IsSearchable records) by_height index one searchable own

-- so is each at its position
pub searchable-at : (records : Records) (by_height : List BoundedShelf) (index : ℕ) → index < length by_height → AreSearchable records by_height → IsSearchable records (bounded_at by_height index)
searchable-at records by_height index within searchable = Each-at (IsSearchable records) by_height index (record { widest = 0; shelf = 0 }) within searchable

-- lists of the same numbers are as long
pub same-size : (by_height new : List BoundedShelf) → numbers_by_height new ≡ numbers_by_height by_height → length new ≡ length by_height
same-size by_height new same = sym (length-map new (λ (x : BoundedShelf). x.shelf)) ∙ ap length same ∙ length-map by_height (λ (x : BoundedShelf). x.shelf)

-- shelves of the same numbers stand in the same order
pub in-order : (shelves : List LinkedShelf) (by_height new : List BoundedShelf) → numbers_by_height new ≡ numbers_by_height by_height → AreInOrder shelves by_height → AreInOrder shelves new
in-order shelves by_height new same order =
    record {
      within = subst (AllByRecursion (λ shelf. shelf < length shelves)) (sym same) order.within;
      rising = subst (λ (ns : List ℕ). RiseFrom 0 (map (order_of shelves) ns)) (sym same) order.rising;
    }

-- the numbers from a position on: those of the shelves before another, that one's, and those behind it
pub parted : (from index : ℕ) (numbers : List ℕ) (by_height : List BoundedShelf) → numbers_by_height by_height ≡ numbers → from ≤ index → index < length by_height
    → drop from numbers ≡ numbers_by_height (drop from (take index by_height)) ++ (bounded_at by_height index).shelf ∷ drop (index + 1) numbers
parted from index numbers by_height same after within =
    let front : List BoundedShelf = drop from (take index by_height) in
    let one : BoundedShelf = bounded_at by_height index in
    let parts : drop from by_height ≡ front ++ one ∷ drop (index + 1) by_height =
    drop-between by_height from index after ∙ ap (λ (l : List BoundedShelf). front ++ l) (drop_more by_height index (record { widest = 0; shelf = 0 }) within) in
    ap (drop from) (sym same)
    ∙ drop-map (λ (x : BoundedShelf). x.shelf) from by_height
    ∙ ap numbers_by_height parts
    ∙ map-append (λ (x : BoundedShelf). x.shelf) front (one ∷ drop (index + 1) by_height)
    ∙ ap (λ (ns : List ℕ). numbers_by_height front ++ one.shelf ∷ ns) (sym (drop-map (λ (x : BoundedShelf). x.shelf) (index + 1) by_height) ∙ ap (drop (index + 1)) same)

-- the shelf to open next: those before it offer nothing
pub record IsReached (records : Records) (width height from index : ℕ) (numbers : List ℕ) (one : BoundedShelf) : Type 0 where
  pub skipped : List ℕ
  pub whole : drop from numbers ≡ skipped ++ one.shelf ∷ drop (index + 1) numbers
  pub vain : AllByRecursion (λ shelf. offered records width height shelf ≡ None) skipped
  pub searchable : IsSearchable records one
  pub tall : height ≤ height_of records.shelves one.shelf
  pub others : AreTall records.shelves height (drop (index + 1) numbers)

pub reached : (records : Records) (width height from index : ℕ) (numbers : List ℕ) (by_height : List BoundedShelf) → SearchesFrom records height from numbers by_height → IsFirstAsWide from width by_height (Some index)
    → IsReached records width height from index numbers (bounded_at by_height index)
reached records width height from index numbers by_height search first =
    let front : List BoundedShelf = drop from (take index by_height) in
    let one : BoundedShelf = bounded_at by_height index in
    let whole : drop from numbers ≡ numbers_by_height front ++ one.shelf ∷ drop (index + 1) numbers = parted from index numbers by_height search.same first.0 first.1 in
    let tall : AreTall records.shelves height (numbers_by_height front ++ one.shelf ∷ drop (index + 1) numbers) =
    subst (AreTall records.shelves height) whole search.tall in
    let after = Each-back (λ shelf. height ≤ height_of records.shelves shelf) (numbers_by_height front) (one.shelf ∷ drop (index + 1) numbers) tall in
    record {
      skipped = numbers_by_height front;
      whole = whole;
      vain = offered-vain records width height front (Each-drop (IsSearchable records) from (take index by_height) (Each-take (IsSearchable records) index by_height search.searchable)) first.2;
      searchable = searchable-at records by_height index first.1 search.searchable;
      tall = after.0;
      others = after.1;
    }

-- where the shelves keep their numbers, the search goes on behind it
pub behind : (records : Records) (width height from index : ℕ) (numbers : List ℕ) (by_height new : List BoundedShelf) → SearchesFrom records height from numbers by_height → IsFirstAsWide from width by_height (Some index)
    → numbers_by_height new ≡ numbers_by_height by_height → AreSearchable records new → SearchesFrom records height (index + 1) numbers new
behind records width height from index numbers by_height new search first same searchable =
    record {
      same = same ∙ search.same;
      searchable = searchable;
      within = omega (arith, first.1, same-size by_height new same);
      tall = (reached records width height from index numbers by_height search first).others;
    }

-- what the shelf that is reached offers stands before what those behind it offer
pub good-reached : (records : Records) (width height from index : ℕ) (numbers : List ℕ) (one : BoundedShelf) → IsReached records width height from index numbers one
    → first_offer (good_offer records width height) (drop from numbers)
    ≡ option_map_or Some (good_offer records width height one.shelf) (first_offer (good_offer records width height) (drop (index + 1) numbers))
good-reached records width height from index numbers one here =
    ap (first_offer (good_offer records width height)) here.whole
    ∙ passed-first (good_offer records width height) here.skipped (one.shelf ∷ drop (index + 1) numbers) (good-vain records width height here.skipped here.vain)

-- where no bound is as wide, nothing is offered from here on
pub none_left : (records : Records) (width height from : ℕ) (numbers : List ℕ) (by_height : List BoundedShelf) → SearchesFrom records height from numbers by_height → IsFirstAsWide from width by_height None
    → AllByRecursion (λ shelf. offered records width height shelf ≡ None) (drop from numbers)
none_left records width height from numbers by_height search low =
    let numbers_is : numbers_by_height (drop from by_height) ≡ drop from numbers = sym (drop-map (λ (x : BoundedShelf). x.shelf) from by_height) ∙ ap (drop from) search.same in
    rw (← numbers_is) (offered-vain records width height (drop from by_height) (Each-drop (IsSearchable records) from by_height search.searchable) low)

pub placed-ended : (records : Records) (width height from : ℕ) (numbers : List ℕ) (by_height : List BoundedShelf) → SearchesFrom records height from numbers by_height → IsFirstAsWide from width by_height None
    → earliest records.shelves (map (offered records width height) (drop from numbers)) ≡ None
placed-ended records width height from numbers by_height search low =
    none-earliest (drop from numbers) (none_left records width height from numbers by_height search low)
  where
    none-earliest : (ns : List ℕ) → AllByRecursion (λ shelf. offered records width height shelf ≡ None) ns → earliest records.shelves (map (offered records width height) ns) ≡ None
    none-earliest [] vain = refl
    none-earliest (n ∷ ns) vain = ap (λ o. earlier records.shelves o (earliest records.shelves (map (offered records width height) ns))) vain.0 ∙ none-earliest ns vain.1

-- from where the shelves begin that don't come before a height, each is as tall
pub tall-from : (records : Records) (height start probes : ℕ) (by_height : List BoundedShelf) → AreSearchable records by_height → IsStart records.shelves by_height (order_at height 0) start probes
    → AreTall records.shelves height (drop start (numbers_by_height by_height))
tall-from records height start probes by_height searchable is =
    rw (drop-map (λ (x : BoundedShelf). x.shelf) start by_height) (each-tall (drop start by_height) (Each-drop (IsSearchable records) start by_height searchable) is.after)
  where
    each-tall : (ones : List BoundedShelf) → AreSearchable records ones → AllByRecursion (λ (one : BoundedShelf). order_at height 0 ≤ order_of records.shelves one.shelf) ones → AreTall records.shelves height (numbers_by_height ones)
    each-tall [] searchable after = tt
    each-tall (one ∷ others) searchable after = (omega (arith, searchable.0.in_chain, after.0), each-tall others searchable.1 after.1)

-- those before offer nothing, so the search may start behind them
pub found-from : (records : Records) (width height start probes : ℕ) (by_height : List BoundedShelf) → IsStart records.shelves by_height (order_at height 0) start probes
    → first_by_height records width height (drop start (numbers_by_height by_height)) ≡ first_by_height records width height (numbers_by_height by_height)
found-from records width height start probes by_height is =
    let front : List ℕ = numbers_by_height (take start by_height) in
    let back : List ℕ = drop start (numbers_by_height by_height) in
    let vain : AllByRecursion (λ shelf. offered records width height shelf ≡ None) front = each-short (take start by_height) is.before in
    let whole : numbers_by_height by_height ≡ front ++ back =
    sym (take-append-drop start (numbers_by_height by_height)) ∙ ap (λ (ns : List ℕ). ns ++ back) (take-map (λ (x : BoundedShelf). x.shelf) start by_height) in
    sym (
    ap (first_by_height records width height) whole
    ∙ ap (λ o. option_map_or Some o (earliest records.shelves (map (offered records width height) (front ++ back)))) (passed-first (good_offer records width height) front back (good-vain records width height front vain))
    ∙ ap (λ o. option_map_or Some (first_offer (good_offer records width height) back) o) (passed-earliest records.shelves (offered records width height) front back vain)
    )
  where
    each-short : (ones : List BoundedShelf) → AllByRecursion (λ (one : BoundedShelf). order_of records.shelves one.shelf < order_at height 0) ones → AllByRecursion (λ shelf. offered records width height shelf ≡ None) (numbers_by_height ones)
    each-short [] before = tt
    each-short (one ∷ others) before = (offered-short records width height one.shelf (omega (arith, before.0)), each-short others before.1)
