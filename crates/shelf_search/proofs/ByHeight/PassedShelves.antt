-- How far a search for a good fit has passed shelves that offer no place, and from where on each is too tall for one.
use Rattle.std.proofs.Common.{◌≡◌, ℕ, zero, suc, ◌+◌, ◌<◌, ◌≤◌, Bool, true, false, cond, None, Some, List, [], ◌∷◌, ◌++◌, add-one, drop, get_or, length, map, take, refl, ap, arith, sym, ◌∙◌, subst}
use Rattle.std.proofs.Math.Seq.{take-length}
use Rattle.std.proofs.lemmas.List.{drop-map, length-map, take-map, drop_all}
use Rattle.std.specs.Option.{option_map_or}
use Rattle.std.proofs.lemmas.Bool.Decides.{nat_tests}
use Rattle.std.specs.Prelude.{◌/◌, ◌||◌, nat_le, nat_lt}
use Rattle.std.specs.List.{AllByRecursion}
use Rattle.shelf_records.specs.RecordLists.{Records}
use Rattle.shelf_records.specs.AtlasRecords.{height_of, is_empty_at}
use Rattle.shelf_model.specs.Choice.{bad_fit_rank}
use Rattle.shelf_heights.specs.Private.ByHeight.{AreInOrder, IsFirstAsWide, order_of, numbers_by_height, bounded_at}
use Rattle.shelf_search.specs.Private.Opening.{AreSearchable, IsSearchable}
use Rattle.shelf_search.specs.Private.Searching.{AreTooTall, IsFirstGood, earliest, first_by_height, first_offer, good_offer, offered, rank_of}
use Rattle.shelf_search.specs.declared.choosing.FirstGood.TheVariants.{Rest}
use Rattle.shelf_heights.specs.declared.by_height.BoundedShelf.{BoundedShelf}
use Rattle.shelf_heights.proofs.ByHeight.PassedBounds.{joined}
use Rattle.shelf_search.proofs.ByHeight.Searches.{Each-drop, Each-take, SearchesFrom, drop-between, good-reached, good-vain, none_left, offered-vain, passed-earliest, passed-first, reached}
use Rattle.shelf_heights.proofs.ByHeight.Positions.{after-probed}

-- a shelf has no place to offer
abbrev pub OffersNone : Records → ℕ → ℕ → ℕ → Type 0
OffersNone records width height shelf = offered records width height shelf ≡ None

-- no shelf has a place from the start up to here
pub record HasPassed (records : Records) (width height start from : ℕ) (numbers : List ℕ) : Type 0 where
  pub after : start ≤ from
  pub vain : AllByRecursion (OffersNone records width height) (drop start (take from numbers))

-- what holds of the shelf at an index holds of each from there up to the next
at-index : (P : ℕ → Type 0) (by_height : List BoundedShelf) (index : ℕ) (d : BoundedShelf) → index < length by_height → P (get_or by_height index d).shelf → AllByRecursion P (drop index (take (suc index) (numbers_by_height by_height)))
at-index P [] index d within own = absurd (omega arith)
at-index P (x ∷ xs) zero d within own = (own, tt)
at-index P (x ∷ xs) (suc index) d within own = at-index P xs index d (omega arith) own

-- what stands from a position on up to it is nothing
drop-taken : (xs : List ℕ) (n : ℕ) → drop n (take n xs) ≡ []
drop-taken xs zero = refl
drop-taken [] (suc n) = refl
drop-taken (x ∷ xs) (suc n) = drop-taken xs n

-- at the start none is passed
pub started : (records : Records) (width height start : ℕ) (numbers : List ℕ) → HasPassed records width height start start numbers
started records width height start numbers =
    record { after = omega arith; vain = subst (AllByRecursion (OffersNone records width height)) (sym (drop-taken numbers start)) tt }

module _ (records : Records) (width height start from index : ℕ) (numbers : List ℕ) (by_height : List BoundedShelf) (search : SearchesFrom records height from numbers by_height) (first : IsFirstAsWide from width by_height (Some index)) where
  -- the shelves up to the next that is as wide have no place
  pub to-next : HasPassed records width height start from numbers → AllByRecursion (OffersNone records width height) (drop start (take index numbers))
  to-next passed =
      let numbers_are : numbers_by_height (drop from (take index by_height)) ≡ drop from (take index numbers) =
      sym (drop-map (λ (x : BoundedShelf). x.shelf) from (take index by_height)) ∙ ap (drop from) (sym (take-map (λ (x : BoundedShelf). x.shelf) index by_height) ∙ ap (take index) search.same) in
      joined (OffersNone records width height) numbers start from index passed.after first.0 passed.vain
      (subst (AllByRecursion (OffersNone records width height)) numbers_are
      (offered-vain records width height (drop from (take index by_height)) (Each-drop (IsSearchable records) from (take index by_height) (Each-take (IsSearchable records) index by_height search.searchable)) first.2))

  -- a shelf that has no place is passed
  pub passed-vain : HasPassed records width height start from numbers → OffersNone records width height (bounded_at by_height index).shelf → HasPassed records width height start (index + 1) numbers
  passed-vain passed none =
      let here : AllByRecursion (OffersNone records width height) (drop index (take (index + 1) numbers)) =
      subst (λ n. AllByRecursion (OffersNone records width height) (drop index (take n numbers))) (sym (add-one index))
      (subst (λ (ns : List ℕ). AllByRecursion (OffersNone records width height) (drop index (take (suc index) ns))) search.same
      (at-index (OffersNone records width height) by_height index (record { widest = 0; shelf = 0 }) first.1 none)) in
      record {
        after = omega (arith, passed.after, first.0);
        vain = joined (OffersNone records width height) numbers start index (index + 1) (omega (arith, passed.after, first.0)) (omega arith) (to-next passed) here;
      }

-- where no bound is as wide, there is no place up to the end
pub passed-ended : (records : Records) (width height start from : ℕ) (numbers : List ℕ) (by_height : List BoundedShelf) → SearchesFrom records height from numbers by_height → IsFirstAsWide from width by_height None
    → HasPassed records width height start from numbers → (start ≤ length by_height) × (length by_height ≤ length numbers) × AllByRecursion (OffersNone records width height) (drop start (take (length by_height) numbers)) × AreTooTall records.shelves height (drop (length by_height) numbers)
passed-ended records width height start from numbers by_height search low passed =
    let size : length numbers ≡ length by_height = ap length (sym search.same) ∙ length-map by_height (λ (x : BoundedShelf). x.shelf) in
    let all : take (length by_height) numbers ≡ numbers = ap (λ n. take n numbers) (sym size) ∙ take-length numbers in (
      omega (arith, passed.after, search.within),
      omega (arith, size),
      joined (OffersNone records width height) numbers start from (length by_height) passed.after search.within passed.vain
          (subst (λ (ns : List ℕ). AllByRecursion (OffersNone records width height) (drop from ns)) (sym all) (none_left records width height from numbers by_height search low)),
      subst (AreTooTall records.shelves height) (sym (drop_all (length by_height) numbers (omega (arith, size)))) tt,
    )

-- a shelf offers what it has where it is a good fit
pub good-where : (records : Records) (width height shelf number : ℕ) (is_good b : Bool) → number ≡ shelf → is_good ≡ nat_lt (rank_of records.shelves height number) bad_fit_rank → is_good ≡ b
    → good_offer records width height shelf ≡ cond b (offered records width height shelf) None
good-where records width height shelf number is_good b at is chosen =
    ap (λ (c : Bool). cond c (offered records width height shelf) None) (ap (λ n. nat_lt (rank_of records.shelves height n) bad_fit_rank) (sym at) ∙ sym is ∙ chosen)

-- and finds the same good fit
pub good-passed : (records : Records) (width height from index : ℕ) (numbers : List ℕ) (by_height : List BoundedShelf) → SearchesFrom records height from numbers by_height → IsFirstAsWide from width by_height (Some index)
    → good_offer records width height (bounded_at by_height index).shelf ≡ None
    → first_offer (good_offer records width height) (drop (index + 1) numbers) ≡ first_offer (good_offer records width height) (drop from numbers)
good-passed records width height from index numbers by_height search first none =
    sym (
    good-reached records width height from index numbers (bounded_at by_height index) (reached records width height from index numbers by_height search first)
    ∙ ap (λ o. option_map_or Some o (first_offer (good_offer records width height) (drop (index + 1) numbers))) none
    )

-- a shelf whose rank is that of a bad fit is too tall for a good one
not-good : (records : Records) (height shelf : ℕ) → height_of records.shelves shelf < 65536 → nat_lt (rank_of records.shelves height shelf) bad_fit_rank ≡ false → height + height / 2 + 1 ≤ height_of records.shelves shelf
not-good records height shelf low bad = by_test (is_empty_at records.shelves shelf || nat_le (height_of records.shelves shelf) (height + height / 2)) refl
  where
    by_test : (b : Bool) → (is_empty_at records.shelves shelf || nat_le (height_of records.shelves shelf) (height + height / 2)) ≡ b → height + height / 2 + 1 ≤ height_of records.shelves shelf
    by_test true e =
        let rank : nat_lt (height_of records.shelves shelf) bad_fit_rank ≡ false = rw e at bad in
        absurd (grind (arith, nat_tests))
    by_test false e =
        let high : nat_le (height_of records.shelves shelf) (height + height / 2) ≡ false = grind arith in
        let above : height + height / 2 < height_of records.shelves shelf = grind (arith, nat_tests) in
        omega (arith, above)

-- from the first shelf on that is too tall for a good fit, each is
pub too-tall-from : (records : Records) (height index : ℕ) (by_height : List BoundedShelf) → AreInOrder records.shelves by_height → AreSearchable records by_height → index < length by_height
    → height_of records.shelves (bounded_at by_height index).shelf < 65536
    → nat_lt (rank_of records.shelves height (bounded_at by_height index).shelf) bad_fit_rank ≡ false
    → AreTooTall records.shelves height (drop index (numbers_by_height by_height))
too-tall-from records height index by_height order searchable within low bad =
    let here : height + height / 2 + 1 ≤ height_of records.shelves (bounded_at by_height index).shelf = not-good records height (bounded_at by_height index).shelf low bad in
    rw (drop-map (λ (x : BoundedShelf). x.shelf) index by_height)
    (each-tall (drop index by_height) (Each-drop (IsSearchable records) index by_height searchable)
    (after-probed records.shelves 0 (order_of records.shelves (bounded_at by_height index).shelf) index by_height (record { widest = 0; shelf = 0 }) within order.rising (omega arith)))
  where
    each-tall : (ones : List BoundedShelf) → AreSearchable records ones → AllByRecursion (λ (one : BoundedShelf). order_of records.shelves (bounded_at by_height index).shelf ≤ order_of records.shelves one.shelf) ones → AreTooTall records.shelves height (numbers_by_height ones)
    each-tall [] searchable after = tt
    each-tall (one ∷ others) searchable after =
        let here : height + height / 2 + 1 ≤ height_of records.shelves (bounded_at by_height index).shelf = not-good records height (bounded_at by_height index).shelf low bad in
        (omega (arith, here, searchable.0.in_chain, after.0), each-tall others searchable.1 after.1)

-- behind the shelves that have no place, the same is found
pub rest-same : (records : Records) (width height start rest : ℕ) (numbers : List ℕ) → IsFirstGood records width height start numbers (Rest rest)
    → first_by_height records width height (drop rest numbers) ≡ first_by_height records width height (drop start numbers)
rest-same records width height start rest numbers is =
    let front : List ℕ = drop start (take rest numbers) in
    let back : List ℕ = drop rest numbers in
    sym (
    ap (first_by_height records width height) (drop-between numbers start rest is.0)
    ∙ ap (λ o. option_map_or Some o (earliest records.shelves (map (offered records width height) (front ++ back)))) (passed-first (good_offer records width height) front back (good-vain records width height front is.2))
    ∙ ap (λ o. option_map_or Some (first_offer (good_offer records width height) back) o) (passed-earliest records.shelves (offered records width height) front back is.2)
    )
