-- One shelf by height that is searched: what it offers, and how its bound falls.
use Rattle.std.proofs.Common.{◌≡◌, ℕ, ◌<◌, ◌≤◌, Bool, true, false, cond, Option, None, Some, option_map, List, [], ◌∷◌, refl, ap, arith, ◌∙◌}
use Rattle.std.proofs.lemmas.Bool.Decides.{nat_tests}
use Rattle.std.specs.Option.{option_map_or}
use Rattle.std.specs.Prelude.{find, nat_le, nat_lt}
use Rattle.std.specs.List.{AllByRecursion}
use Rattle.shelf_records.specs.declared.records.LinkedItem.{LinkedItem}
use Rattle.shelf_records.specs.RecordLists.{Records, free_walk}
use Rattle.shelf_records.specs.AtlasRecords.{height_of, item_at}
use Rattle.shelf_model.specs.Choice.{bad_fit_rank}
use Rattle.shelf_search.specs.Private.Opening.{IsSearchable, searched, widest_of}
use Rattle.shelf_search.specs.Private.Searching.{first_wide, good_offer, offered, rank_of}
use Rattle.shelf_search.specs.declared.choosing.Candidate.{Candidate}
use Rattle.shelf_search.specs.declared.choosing.Searched.TheVariants.{Found, Widest}
use Rattle.shelf_heights.specs.declared.by_height.BoundedShelf.{BoundedShelf}
use Rattle.shelf_search.proofs.Searched.SearchSteps.{is_wide}

-- the candidate of an item of a shelf
abbrev candidate_of : Records → ℕ → ℕ → ℕ → Candidate
candidate_of records height shelf item = record { shelf = shelf; item = item; rank = rank_of records.shelves height shelf }

-- none of these items is wide enough
none-wide : (records : Records) (width widest : ℕ) (numbers : List ℕ) → widest < width → AllByRecursion (λ item. (item_at records.items item).width ≤ widest) numbers → find (is_wide records width) numbers ≡ None
none-wide records width widest [] low bounds = refl
none-wide records width widest (n ∷ ns) low bounds =
    ap (λ b. cond b (Some n) (find (is_wide records width) ns)) (not-le width (item_at records.items n).width widest low bounds.0)
    ∙ none-wide records width widest ns low bounds.1
  where
    not-le : (a b c : ℕ) → c < a → b ≤ c → nat_le a b ≡ false
    not-le a b c h k = grind (arith, nat_tests)

-- a shelf whose bound is below a width offers nothing
pub offered-low : (records : Records) (width height : ℕ) (one : BoundedShelf) → IsSearchable records one → one.widest < width → offered records width height one.shelf ≡ None
offered-low records width height one searchable low =
    ap (λ o. cond (nat_le height (height_of records.shelves one.shelf)) (option_map (candidate_of records height one.shelf) o) None) (none-wide records width one.widest (free_walk records one.shelf).met low searchable.bound)
    ∙ by_test (nat_le height (height_of records.shelves one.shelf))
  where
    by_test : (b : Bool) → cond b (option_map (candidate_of records height one.shelf) None) None ≡ None
    by_test true = refl
    by_test false = refl

-- one that is too short offers nothing
pub offered-short : (records : Records) (width height shelf : ℕ) → height_of records.shelves shelf < height → offered records width height shelf ≡ None
offered-short records width height shelf short =
    let fails : nat_le height (height_of records.shelves shelf) ≡ false = grind (arith, nat_tests) in
    ap (λ b. cond b (option_map (candidate_of records height shelf) (first_wide records width shelf)) None) fails

-- what offers nothing is no good fit
pub good-none : (records : Records) (width height shelf : ℕ) → offered records width height shelf ≡ None → good_offer records width height shelf ≡ None
good-none records width height shelf none =
    ap (λ o. cond (nat_lt (rank_of records.shelves height shelf) bad_fit_rank) o None) none ∙ by_test (nat_lt (rank_of records.shelves height shelf) bad_fit_rank) None
  where
    by_test : (b : Bool) (o : Option Candidate) → cond b o o ≡ o
    by_test true o = refl
    by_test false o = refl

-- each of these items is at most as wide as a bound on the widest
pub bounds-widest : (items : List LinkedItem) (numbers : List ℕ) (bound : ℕ) → widest_of items numbers ≤ bound → AllByRecursion (λ item. (item_at items item).width ≤ bound) numbers
bounds-widest items [] bound low = tt
bounds-widest items (n ∷ ns) bound low = (omega (arith, low), bounds-widest items ns bound (omega (arith, low)))

-- where nothing is found, the widest width is a bound
pub fallen : (records : Records) (width widest : ℕ) (one : BoundedShelf) → IsSearchable records one → Widest widest ≡ searched records width one.shelf → IsSearchable records (record one { widest = widest })
fallen records width widest one searchable found =
    record {
      stands = searchable.stands;
      within = searchable.within;
      low = searchable.low;
      in_chain = searchable.in_chain;
      bound = bounds-widest records.items (free_walk records one.shelf).met widest (by_first (first_wide records width one.shelf) found);
    }
  where
    by_first : (o : Option ℕ) → Widest widest ≡ option_map_or Found o (Widest (widest_of records.items (free_walk records one.shelf).met)) → widest_of records.items (free_walk records one.shelf).met ≤ widest
    by_first None same =
        let widest_is : widest ≡ widest_of records.items (free_walk records one.shelf).met = cc in
        omega (arith, widest_is)
    by_first (Some item) same = absurd (cc)
