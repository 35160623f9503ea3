-- That what the shelf in the first place offers is chosen, and that each search of a free list in vain leaves fewer bounds
-- that are as wide.
use Rattle.std.proofs.Common.{◌≡◌, ℕ, zero, suc, ◌+◌, ◌-◌, ◌<◌, ◌≤◌, Bool, true, false, cond, Option, None, Some, option_map, List, [], ◌∷◌, drop, get_or, get_or-set_other, get_or-set_same, length, map, set, refl, ap, arith, sym, ◌∙◌, ◌≢◌, subst}
use Rattle.std.proofs.lemmas.Bool.Decides.{nat_tests}
use Rattle.std.proofs.lemmas.List.{length-map, get_or-drop, get_or-map, length-drop}
use Rattle.std.specs.Option.{is_some}
use Rattle.std.specs.Prelude.{◌==◌, find, nat_le, nat_lt, if◌then◌else◌}
use Rattle.shelf_records.specs.RecordLists.{Records, free_walk}
use Rattle.shelf_records.specs.declared.records.LinkedShelf.{LinkedShelf}
use Rattle.shelf_records.specs.AtlasRecords.{height_of, item_at}
use Rattle.shelf_heights.specs.Private.ByHeight.{chain_order, bounded_at, numbers_by_height}
use Rattle.shelf_search.specs.Private.Opening.{AreLowered, AreSearchable, IsEarliestWide, IsSearchable, bounded_full, looked_into, chain_order_at, widest_of}
use Rattle.shelf_search.specs.Private.Searching.{earlier, earliest, first_wide, offered, rank_of}
use Rattle.shelf_search.specs.declared.choosing.Candidate.{Candidate}
use Rattle.shelf_heights.specs.declared.by_height.BoundedShelf.{BoundedShelf}
use Rattle.shelf_search.proofs.ByHeight.EarliestShelves.{each-at}
use Rattle.shelf_search.proofs.ByHeight.SearchedOnes.{offered-low}
use Rattle.shelf_search.proofs.ByHeight.Searches.{SearchesFrom}
use Rattle.shelf_search.proofs.Searched.SearchSteps.{is_wide}

-- how many bounds are not below a width
abbrev pub wide_count : ℕ → List BoundedShelf → ℕ
wide_count width [] = 0
wide_count width (one ∷ others) = (if nat_le width one.widest then 1 else 0) + wide_count width others

-- with a narrow bound in place of a wide one they are fewer
pub count-fallen : (width index : ℕ) (by_height : List BoundedShelf) (one : BoundedShelf) → index < length by_height → width ≤ (bounded_at by_height index).widest → one.widest < width → wide_count width (set by_height index one) < wide_count width by_height
count-fallen width index [] one within wide narrow = absurd (omega arith)
count-fallen width zero (first ∷ others) one within wide narrow =
    let high : nat_le width first.widest ≡ true = grind (arith, nat_tests) in
    let low : nat_le width one.widest ≡ false = grind (arith, nat_tests) in
    rw (high, low) (omega arith)
count-fallen width (suc index) (first ∷ others) one within wide narrow = omega (arith, count-fallen width index others one (omega arith) wide narrow)

-- with bounds that are not above what they were they are no more
pub count-lowered : (width : ℕ) (old new : List BoundedShelf) → length new ≡ length old → AreLowered old new → wide_count width new ≤ wide_count width old
count-lowered width [] [] size lowered = omega arith
count-lowered width [] (one ∷ others) size lowered = absurd (omega (arith, size))
count-lowered width (one ∷ others) [] size lowered = absurd (omega (arith, size))
count-lowered width (one ∷ others) (low ∷ lows) size lowered =
    by_tests (nat_le width low.widest) (nat_le width one.widest) refl refl (count-lowered width others lows (omega (arith, size)) (λ k. lowered (suc k)))
  where
    by_tests : (a b : Bool) → nat_le width low.widest ≡ a → nat_le width one.widest ≡ b → wide_count width lows ≤ wide_count width others → wide_count width (low ∷ lows) ≤ wide_count width (one ∷ others)
    by_tests true true e f fewer = rw (e, f) (omega (arith, fewer))
    by_tests true false e f fewer =
        let high : width ≤ low.widest = grind (arith, nat_tests) in
        let narrow : one.widest < width = grind (arith, nat_tests) in
        absurd (omega (arith, high, narrow, lowered 0))
    by_tests false true e f fewer = rw (e, f) (omega (arith, fewer))
    by_tests false false e f fewer = rw (e, f) (omega (arith, fewer))

-- a bound of 0 for one lowers no other
pub full-lowered : (by_height : List BoundedShelf) (index : ℕ) → index < length by_height → AreLowered by_height (set by_height index (bounded_full (bounded_at by_height index)))
full-lowered by_height index within k = by_test (k == index) refl
  where
    nothing : BoundedShelf
    nothing = record { widest = 0; shelf = 0 }

    full : BoundedShelf
    full = bounded_full (bounded_at by_height index)

    by_test : (b : Bool) → (k == index) ≡ b → (bounded_at (set by_height index full) k).widest ≤ (bounded_at by_height k).widest
    by_test true e =
        let same : k ≡ index = grind arith in
        omega (arith, ap (λ n. (bounded_at (set by_height index full) n).widest) same, ap (λ (one : BoundedShelf). one.widest) (get_or-set_same by_height index full nothing within))
    by_test false e =
        let other : k ≢ index = λ same. absurd (grind arith) in
        omega (arith, ap (λ (one : BoundedShelf). one.widest) (get_or-set_other by_height index k full nothing other))

-- where no item is wide enough, the widest is below the width
widest-low : (records : Records) (width : ℕ) (numbers : List ℕ) → 1 ≤ width → find (is_wide records width) numbers ≡ None → widest_of records.items numbers < width
widest-low records width [] some none = omega (arith, some)
widest-low records width (n ∷ ns) some none = by_test (nat_le width (item_at records.items n).width) refl none (widest-low records width ns some)
  where
    by_test : (b : Bool) → nat_le width (item_at records.items n).width ≡ b → cond b (Some n) (find (is_wide records width) ns) ≡ None → (find (is_wide records width) ns ≡ None → widest_of records.items ns < width) → widest_of records.items (n ∷ ns) < width
    by_test true e none rest = absurd (cc)
    by_test false e none rest =
        let low : (item_at records.items n).width < width = grind (arith, nat_tests) in
        omega (arith, low, rest none)

-- a shelf that is tall enough and offers nothing has a narrow bound once its free list was searched
pub looked-low : (records : Records) (width height : ℕ) (one : BoundedShelf) → 1 ≤ width → height ≤ height_of records.shelves one.shelf → offered records width height one.shelf ≡ None → (looked_into records width one).widest < width
looked-low records width height one some tall none = by_first (first_wide records width one.shelf) refl
  where
    tall_is : nat_le height (height_of records.shelves one.shelf) ≡ true
    tall_is = grind (arith, nat_tests)

    by_first : (o : Option ℕ) → first_wide records width one.shelf ≡ o → (looked_into records width one).widest < width
    by_first None e = rw e (widest-low records width (free_walk records one.shelf).met some e)
    by_first (Some item) e = let offers = rw (tall_is, e) at none in absurd (cc)

-- what a shelf offers is of that shelf
offered-of : (records : Records) (width height shelf : ℕ) (candidate : Candidate) → offered records width height shelf ≡ Some candidate → candidate.shelf ≡ shelf
offered-of records width height shelf candidate offers = by_parts (nat_le height (height_of records.shelves shelf)) (first_wide records width shelf) offers
  where
    by_parts : (b : Bool) (o : Option ℕ) → cond b (option_map (λ item. record { shelf = shelf; item = item; rank = rank_of records.shelves height shelf }) o) None ≡ Some candidate → candidate.shelf ≡ shelf
    by_parts false o offers = absurd (cc)
    by_parts true None offers = absurd (cc)
    by_parts true (Some item) offers = cc

-- the number at a position, and what a list of offers comes to where each is later in the chain
module _ (shelves : List LinkedShelf) (offers : ℕ → Option Candidate) where
  -- each offer of these shelves is of one that is later in the chain
  abbrev AreLater : ℕ → List ℕ → Type 0
  AreLater in_chain ns = (k : ℕ) → k < length ns → (candidate : Candidate) → offers (get_or ns k 0) ≡ Some candidate → in_chain < chain_order shelves candidate.shelf

  later-stays : (one : Candidate) (ns : List ℕ) → AreLater (chain_order shelves one.shelf) ns → earlier shelves (Some one) (earliest shelves (map offers ns)) ≡ Some one
  later-stays one [] later = refl
  later-stays one (n ∷ ns) later = by_offer (offers n) refl (earliest shelves (map offers ns)) refl (later-stays one ns (λ k within candidate is. later (suc k) (omega (arith, within)) candidate is))
    where
      test : (other : Candidate) → offers n ≡ Some other → nat_lt (chain_order shelves one.shelf) (chain_order shelves other.shelf) ≡ true
      test other e = let less = later 0 (omega arith) other e in grind (arith, nat_tests)

      by_offer : (o : Option Candidate) → offers n ≡ o → (r : Option Candidate) → earliest shelves (map offers ns) ≡ r → earlier shelves (Some one) (earliest shelves (map offers ns)) ≡ Some one → earlier shelves (Some one) (earlier shelves (offers n) (earliest shelves (map offers ns))) ≡ Some one
      by_offer None e r f rest = rw e rest
      by_offer (Some other) e None f rest = rw (e, f, test other e) refl
      by_offer (Some other) e (Some third) f rest = rw (e, f) (by_test (nat_lt (chain_order shelves other.shelf) (chain_order shelves third.shelf)))
        where
          by_test : (b : Bool) → earlier shelves (Some one) (cond b (Some other) (Some third)) ≡ Some one
          by_test true = rw (test other e) refl
          by_test false = rw f at rest

  -- the offer at a position, before which no place is earlier and behind which each is later, is the earliest
  pub earliest-is : (ns : List ℕ) (index : ℕ) (one : Candidate) → index < length ns → offers (get_or ns index 0) ≡ Some one
      → ((k : ℕ) → k < index → (candidate : Candidate) → offers (get_or ns k 0) ≡ Some candidate → chain_order shelves one.shelf ≤ chain_order shelves candidate.shelf)
      → ((k : ℕ) → index < k → k < length ns → (candidate : Candidate) → offers (get_or ns k 0) ≡ Some candidate → chain_order shelves one.shelf < chain_order shelves candidate.shelf)
      → earliest shelves (map offers ns) ≡ Some one
  earliest-is [] index one within is before behind = absurd (omega arith)
  earliest-is (n ∷ ns) zero one within is before behind =
      rw is (later-stays one ns (λ k inside candidate offer. behind (suc k) (omega arith) (omega (arith, inside)) candidate offer))
  earliest-is (n ∷ ns) (suc index) one within is before behind =
      let rest : earliest shelves (map offers ns) ≡ Some one =
      earliest-is ns index one (omega arith) is (λ k low candidate offer. before (suc k) (omega (arith, low)) candidate offer) (λ k high inside candidate offer. behind (suc k) (omega (arith, high)) (omega (arith, inside)) candidate offer) in
      ap (λ o. earlier shelves (offers n) o) rest ∙ by_offer (offers n) refl
    where
      by_offer : (o : Option Candidate) → offers n ≡ o → earlier shelves (offers n) (Some one) ≡ Some one
      by_offer None e = rw e refl
      by_offer (Some other) e =
          let high = before 0 (omega arith) other e in
          let test : nat_lt (chain_order shelves other.shelf) (chain_order shelves one.shelf) ≡ false = grind (arith, nat_tests) in
          rw (e, test) refl

-- what the shelf in the first place offers is chosen of those from a position on
pub chosen-earliest : (records : Records) (width height start index : ℕ) (by_height : List BoundedShelf) (candidate : Candidate) → AreSearchable records by_height → IsEarliestWide records.shelves by_height start (length by_height) width index
    → offered records width height (bounded_at by_height index).shelf ≡ Some candidate → earliest records.shelves (map (offered records width height) (drop start (numbers_by_height by_height))) ≡ Some candidate
chosen-earliest records width height start index by_height candidate searchable is offers =
    earliest-is records.shelves (offered records width height) (drop start numbers) (index - start) candidate (omega (arith, inside, is.after, is.within))
    (number_is (index - start) index (omega (arith, is.after)) is.within ∙ offers)
    (λ k low other offer. subst (λ n. chain_order records.shelves candidate.shelf ≤ n) (place_of_offer k (omega (arith, low, is.within)) other offer) (rw own (is.before (start + k) (omega arith) (omega (arith, low, is.after)) (wide k (omega (arith, low, is.within)) other offer))))
    (λ k high within other offer. subst (λ n. chain_order records.shelves candidate.shelf < n) (place_of_offer k (omega (arith, within, inside)) other offer) (rw own (is.behind (start + k) (omega (arith, high, is.after)) (omega (arith, within, inside)) (wide k (omega (arith, within, inside)) other offer))))
  where
    numbers : List ℕ
    numbers = numbers_by_height by_height

    inside : start + length (drop start numbers) ≡ length by_height
    inside = omega (arith, length-drop start numbers, is.after, is.within, length-map by_height (λ (x : BoundedShelf). x.shelf))

    own : chain_order records.shelves candidate.shelf ≡ chain_order_at records.shelves by_height index
    own = ap (chain_order records.shelves) (offered-of records width height (bounded_at by_height index).shelf candidate offers)

    number_is : (k position : ℕ) → start + k ≡ position → position < length by_height → offered records width height (get_or (drop start numbers) k 0) ≡ offered records width height (bounded_at by_height position).shelf
    number_is k position sum within = ap (offered records width height) (get_or-drop start numbers k 0 ∙ ap (λ n. get_or numbers n 0) sum ∙ get_or-map (λ (x : BoundedShelf). x.shelf) by_height position (record { widest = 0; shelf = 0 }) 0 within)

    offer_at : (k : ℕ) → start + k < length by_height → (other : Candidate) → offered records width height (get_or (drop start numbers) k 0) ≡ Some other → offered records width height (bounded_at by_height (start + k)).shelf ≡ Some other
    offer_at k within other offer = sym (number_is k (start + k) refl within) ∙ offer

    place_of_offer : (k : ℕ) → start + k < length by_height → (other : Candidate) → offered records width height (get_or (drop start numbers) k 0) ≡ Some other → chain_order_at records.shelves by_height (start + k) ≡ chain_order records.shelves other.shelf
    place_of_offer k within other offer = ap (chain_order records.shelves) (sym (offered-of records width height (bounded_at by_height (start + k)).shelf other (offer_at k within other offer)))

    wide : (k : ℕ) → start + k < length by_height → (other : Candidate) → offered records width height (get_or (drop start numbers) k 0) ≡ Some other → width ≤ (bounded_at by_height (start + k)).widest
    wide k within other offer = by_test (nat_lt (bounded_at by_height (start + k)).widest width) refl
      where
        by_test : (b : Bool) → nat_lt (bounded_at by_height (start + k)).widest width ≡ b → width ≤ (bounded_at by_height (start + k)).widest
        by_test false e = grind (arith, nat_tests)
        by_test true e =
            let low : (bounded_at by_height (start + k)).widest < width = grind (arith, nat_tests) in
            let none = offered-low records width height (bounded_at by_height (start + k)) (each-at (IsSearchable records) by_height (start + k) within searchable) low in
            let some = offer_at k within other offer in
            absurd (cc)

-- where something is offered there, that is it
pub offer-earliest : (records : Records) (width height start index : ℕ) (numbers : List ℕ) (by_height : List BoundedShelf) (found : Option Candidate) → SearchesFrom records height start numbers by_height → IsEarliestWide records.shelves by_height start (length by_height) width index
    → found ≡ offered records width height (bounded_at by_height index).shelf → is_some found ≡ true → found ≡ earliest records.shelves (map (offered records width height) (drop start numbers))
offer-earliest records width height start index numbers by_height None search is value some = absurd (cc)
offer-earliest records width height start index numbers by_height (Some candidate) search is value some =
    sym (ap (λ (ns : List ℕ). earliest records.shelves (map (offered records width height) (drop start ns))) (sym search.same) ∙ chosen-earliest records width height start index by_height candidate search.searchable is (sym value))
