-- Where the search along a free list has come to, step by step, and what the best candidate is of.
use Rattle.std.proofs.Common.{◌≡◌, ℕ, ◌+◌, ◌-◌, ◌^◌, ◌<◌, ◌≤◌, Bool, true, false, cond, Option, None, Some, option_map, List, [], ◌∷◌, ◌++◌, append_assoc, length, get_or, map, refl, ap, arith, sym, ◌∙◌, subst, ◌==◌}
use Rattle.std.proofs.lemmas.Bool.{eqb-true}
use Rattle.std.proofs.lemmas.Bool.Decides.{nat_tests}
use Rattle.std.specs.Option.{option_map_or}
use Rattle.std.specs.Prelude.{◌/◌, ◌||◌, find, max, nat_le, nat_lt}
use Rattle.etagere_base.specs.Lists.{times}
use Rattle.etagere_links.specs.Links.{link_of, no_link}
use Rattle.etagere_base.specs.declared.frames.Frame.{Frame}
use Rattle.etagere_base.specs.declared.sides.Sides.{Sides}
use Rattle.etagere_base.proofs.TimesLemmas.{find-stands, times-append}
use Rattle.shelf_records.specs.declared.records.LinkedItem.{LinkedItem}
use Rattle.shelf_records.specs.declared.records.LinkedShelf.{LinkedShelf}
use Rattle.shelf_records.specs.RecordLists.{IsLinked, Records, first_free_of, free_walk, shelf_walk, walked_lists}
use Rattle.shelf_records.specs.Records.{free_list}
use Rattle.etagere_links.proofs.ListEnds.{times-here}
use Rattle.shelf_records.specs.AtlasRecords.{height_of, is_empty_at, item_at}
use Rattle.shelf_search.specs.Private.Opening.{searched, widest_of}
use Rattle.shelf_search.specs.Private.Searching.{best_candidate, better, chosen_at, first_wide, lower, lowest, limit_of, offered, placement_at, rank_of, RanksFrom}
use Rattle.shelf_model.specs.Choice.{shelf_height}
use Rattle.shelf_search.specs.declared.choosing.Candidate.{Candidate}
use Rattle.shelf_search.specs.declared.choosing.Searched.{Searched}
use Rattle.shelf_search.specs.declared.choosing.Searched.TheVariants.{Found, Widest}
use Rattle.shelf_search.proofs.Searched.OneMore.{lowest-settled}
use Rattle.shelf_heights.proofs.ByHeight.FreeBounds.{next-read, width-read}
use Rattle.shelf_records.proofs.AllLists.Following.{IsLeft, IsStep, count_from, none-left, step-left, step-nearer}
use Rattle.shelf_records.proofs.AllLists.LinkedParts.{free-left, free-once, free-within, shelf-within}

-- an item is wide enough
abbrev pub is_wide : Records → ℕ → ℕ → Bool
is_wide records width item = nat_le width (item_at records.items item).width

-- where the search along a free list has come to: the first wide one of what is left is that of all, and the
-- widest of what was passed and of what is left is that of all
pub record SearchesFree (records : Records) (width shelf widest : ℕ) (at : Option ℕ) : Type 0 where
  pub steps : ℕ
  pub passed : List ℕ
  pub rest : List ℕ
  pub left : IsLeft free_list.next records.items at steps rest
  pub whole : passed ++ rest ≡ (free_walk records shelf).met
  pub found : find (is_wide records width) rest ≡ first_wide records width shelf
  pub all : max widest (widest_of records.items rest) ≡ widest_of records.items (free_walk records shelf).met

-- a number below that of none is the record that it names as a link
pub named : (number : ℕ) → number < no_link → link_of number ≡ Some number
named number small = by_test (number == no_link) refl
  where
    by_test : (t : Bool) → (number == no_link) ≡ t → link_of number ≡ Some number
    by_test true e = absurd (omega (arith, small, eqb-true number no_link e))
    by_test false e = ap (λ (t : Bool). cond t None (Some number)) e

-- that of none names none
pub names-none : (number : ℕ) → number ≡ no_link → link_of number ≡ None
names-none number same = ap link_of same

-- the search begins with the whole list
pub free-begins : (records : Records) (width shelf : ℕ) (at : Option ℕ) → IsLinked records (walked_lists records) → 1 ≤ times shelf (shelf_walk records).met → at ≡ first_free_of records.shelves shelf → SearchesFree records width shelf 0 at
free-begins records width shelf at linked stands begins =
    record {
      steps = 0;
      passed = [];
      rest = (free_walk records shelf).met;
      left = rw begins (free-left records shelf linked stands);
      whole = refl;
      found = refl;
      all = omega arith;
    }

-- the widest is known where nothing is found
pub nothing-found : (records : Records) (width shelf widest : ℕ) → None ≡ first_wide records width shelf → widest ≡ widest_of records.items (free_walk records shelf).met → Widest widest ≡ searched records width shelf
nothing-found records width shelf widest none same =
    ap Widest same ∙ ap (λ o. option_map_or Found o (Widest (widest_of records.items (free_walk records shelf).met))) none

-- at the end nothing is found
pub free-ends : (records : Records) (width shelf widest : ℕ) (at : Option ℕ) → SearchesFree records width shelf widest at → at ≡ None → Widest widest ≡ searched records width shelf
free-ends records width shelf widest at search ends =
    let none : search.rest ≡ [] = none-left free_list.next records.items at search.steps search.rest search.left ends in
    let last : max widest 0 ≡ widest_of records.items (free_walk records shelf).met = ap (λ (l : List ℕ). max widest (widest_of records.items l)) (sym none) ∙ search.all in
    nothing-found records width shelf widest (ap (find (is_wide records width)) (sym none) ∙ search.found) (omega (arith, last))

-- the record at hand is one
pub free-here : (records : Records) (width shelf widest : ℕ) (at : Option ℕ) (number : ℕ) → SearchesFree records width shelf widest at → at ≡ Some number → number < length records.items
free-here records width shelf widest at number search is = (step-left free_list.next records.items at number search.steps search.rest search.left is).here

-- a wide one is found
pub free-found : (records : Records) (width shelf widest : ℕ) (at : Option ℕ) (number : ℕ) (item : LinkedItem) → SearchesFree records width shelf widest at → at ≡ Some number → item ≡ get_or records.items number item → width ≤ item.width → Found number ≡ searched records width shelf
free-found records width shelf widest at number item search is read wide =
    let step : IsStep free_list.next records.items number search.steps search.rest = step-left free_list.next records.items at number search.steps search.rest search.left is in
    let passes : is_wide records width number ≡ true = ap (nat_le width) (width-read records number item step.here read) ∙ grind (arith, nat_tests) in
    let first : Some number ≡ first_wide records width shelf =
    sym (ap (find (is_wide records width)) step.whole ∙ ap (λ b. cond b (Some number) (find (is_wide records width) step.others)) passes) ∙ search.found in
    ap (λ o. option_map_or Found o (Widest (widest_of records.items (free_walk records shelf).met))) first

-- one that is not is passed
pub free-passed : (records : Records) (width shelf widest wider : ℕ) (at next : Option ℕ) (number : ℕ) (item : LinkedItem) → SearchesFree records width shelf widest at → at ≡ Some number → item ≡ get_or records.items number item → item.width < width → wider ≡ max widest item.width → next ≡ item.next_unallocated → SearchesFree records width shelf wider next
free-passed records width shelf widest wider at next number item search is read narrow grown follows =
    let step : IsStep free_list.next records.items number search.steps search.rest = step-left free_list.next records.items at number search.steps search.rest search.left is in
    let own : (item_at records.items number).width ≡ item.width = width-read records number item step.here read in
    let fails : is_wide records width number ≡ false = ap (nat_le width) own ∙ grind (arith, nat_tests) in
    let all : max widest (max (item_at records.items number).width (widest_of records.items step.others)) ≡ widest_of records.items (free_walk records shelf).met =
    ap (λ (l : List ℕ). max widest (widest_of records.items l)) (sym step.whole) ∙ search.all in
    record {
      steps = search.steps + 1;
      passed = search.passed ++ number ∷ [];
      rest = step.others;
      left = rw (follows, ← next-read records.items number item step.here read) step.left;
      whole = append_assoc search.passed (number ∷ []) step.others ∙ ap (λ l. search.passed ++ l) (sym step.whole) ∙ search.whole;
      found =
          sym (ap (find (is_wide records width)) step.whole ∙ ap (λ b. cond b (Some number) (find (is_wide records width) step.others)) fails)
          ∙ search.found;
      all = omega (arith, all, own, grown);
    }

-- a step leaves less of the free list
pub free-nearer : (records : Records) (width shelf widest : ℕ) (at next : Option ℕ) (number : ℕ) (item : LinkedItem) → IsLinked records (walked_lists records) → 1 ≤ times shelf (shelf_walk records).met → SearchesFree records width shelf widest at → at ≡ Some number → item ≡ get_or records.items number item → next ≡ item.next_unallocated
    → count_from next (free_walk records shelf).met < count_from at (free_walk records shelf).met
free-nearer records width shelf widest at next number item linked stands search is read follows =
    let step : IsStep free_list.next records.items number search.steps search.rest = step-left free_list.next records.items at number search.steps search.rest search.left is in
    rw (follows, ← next-read records.items number item step.here read, ← search.whole)
    (step-nearer free_list.next records.items at number search.steps search.passed search.rest (λ k. rw search.whole (free-once records shelf linked stands k)) search.left is)

-- the same where of so many items to be passed some are left
pub record SearchesWithin (records : Records) (width shelf widest : ℕ) (at : Option ℕ) (most left : ℕ) : Type 0 where
  pub search : SearchesFree records width shelf widest at
  pub counted : search.steps + left ≡ most

-- at first all are left
pub within-begins : (records : Records) (width shelf most : ℕ) (at : Option ℕ) → IsLinked records (walked_lists records) → 1 ≤ times shelf (shelf_walk records).met → at ≡ first_free_of records.shelves shelf → SearchesWithin records width shelf 0 at most most
unfolding free-begins
within-begins records width shelf most at linked stands begins =
    let search = free-begins records width shelf at linked stands begins in
    let none : search.steps ≡ 0 = refl in
    record { search = search; counted = omega (arith, none) }

-- one that is not wide enough is passed
pub within-passed : (records : Records) (width shelf widest wider : ℕ) (at next : Option ℕ) (number most left : ℕ) (item : LinkedItem) → SearchesWithin records width shelf widest at most left → 1 ≤ left → at ≡ Some number → item ≡ get_or records.items number item → item.width < width → wider ≡ max widest item.width → next ≡ item.next_unallocated
    → SearchesWithin records width shelf wider next most (left - 1)
unfolding free-passed
within-passed records width shelf widest wider at next number most left item within some is read narrow grown follows =
    let search = free-passed records width shelf widest wider at next number item within.search is read narrow grown follows in
    let more : search.steps ≡ within.search.steps + 1 = refl in
    record { search = search; counted = omega (arith, more, within.counted, some) }

-- no more are passed than there are
pub passed-few : (records : Records) (width shelf widest : ℕ) (at : Option ℕ) (most left : ℕ) → SearchesWithin records width shelf widest at most left → most ≤ left + length records.items
passed-few records width shelf widest at most left within = omega (arith, within.counted, within.search.left.enough)

-- and fewer, where one is at hand
pub passed-fewer : (records : Records) (width shelf widest : ℕ) (at : Option ℕ) (number most left : ℕ) → SearchesWithin records width shelf widest at most left → at ≡ Some number → most < left + length records.items
passed-fewer records width shelf widest at number most left within is =
    let step : IsStep free_list.next records.items number within.search.steps within.search.rest = step-left free_list.next records.items at number within.search.steps within.search.rest within.search.left is in
    omega (arith, within.counted, within.search.left.enough, ap length step.whole)

-- a candidate that is the lowest of what numbers offer
record IsOffered (offers : ℕ → Option Candidate) (numbers : List ℕ) (candidate : Candidate) : Type 0 where
  pub number : ℕ
  pub stands : 1 ≤ times number numbers
  pub offer : offers number ≡ Some candidate

-- the lowest of what numbers offer is offered by one of them
lowest-offered : (offers : ℕ → Option Candidate) (numbers : List ℕ) (candidate : Candidate) → lowest (map offers numbers) ≡ Some candidate → IsOffered offers numbers candidate
lowest-offered offers [] candidate found = absurd (cc)
lowest-offered offers (n ∷ ns) candidate found = by_first (offers n) (lowest (map offers ns)) refl refl found (λ rest. lowest-offered offers ns candidate rest)
  where
    later : IsOffered offers ns candidate → IsOffered offers (n ∷ ns) candidate
    later rest = record { number = rest.number; stands = omega (arith, rest.stands); offer = rest.offer }

    first : offers n ≡ Some candidate → IsOffered offers (n ∷ ns) candidate
    first offer = record { number = n; stands = omega (arith, times-here n ns); offer = offer }

    by_test : (b : Bool) (own other : Candidate) → offers n ≡ Some own → lowest (map offers ns) ≡ Some other → cond b other own ≡ candidate → (lowest (map offers ns) ≡ Some candidate → IsOffered offers ns candidate) → IsOffered offers (n ∷ ns) candidate
    by_test true own other offer rest same more = later (more (rest ∙ ap Some same))
    by_test false own other offer rest same more = first (offer ∙ ap Some same)

    by_first : (o p : Option Candidate) → offers n ≡ o → lowest (map offers ns) ≡ p → better o p ≡ Some candidate → (lowest (map offers ns) ≡ Some candidate → IsOffered offers ns candidate) → IsOffered offers (n ∷ ns) candidate
    by_first None p offer rest found more = later (more (rest ∙ found))
    by_first (Some own) None offer rest found more = first (offer ∙ found)
    by_first (Some own) (Some other) offer rest found more =
        let same : lower own (Some other) ≡ candidate = cc in
        by_test (nat_lt other.rank own.rank) own other offer rest same more

-- what an offer is of: its shelf, and the first wide one of its free list
pub record Offers (records : Records) (width height shelf : ℕ) (candidate : Candidate) : Type 0 where
  pub tall : height ≤ height_of records.shelves shelf
  pub shelf_is : candidate.shelf ≡ shelf
  pub rank : candidate.rank ≡ rank_of records.shelves height shelf
  pub wide : first_wide records width shelf ≡ Some candidate.item

pub offers-parts : (records : Records) (width height shelf : ℕ) (candidate : Candidate) → offered records width height shelf ≡ Some candidate → Offers records width height shelf candidate
offers-parts records width height shelf candidate offer = by_parts (nat_le height (height_of records.shelves shelf)) (first_wide records width shelf) refl refl offer
  where
    by_parts : (b : Bool) (o : Option ℕ) → nat_le height (height_of records.shelves shelf) ≡ b → first_wide records width shelf ≡ o
        → cond b (option_map (λ item. record { shelf = shelf; item = item; rank = rank_of records.shelves height shelf }) o) None ≡ Some candidate → Offers records width height shelf candidate
    by_parts false o e f offer = absurd (cc)
    by_parts true None e f offer = absurd (cc)
    by_parts true (Some item) e f offer =
        let same : record { shelf = shelf; item = item; rank = rank_of records.shelves height shelf } ≡ candidate = cc in
        record {
          tall = grind (arith, nat_tests);
          shelf_is = sym (ap (λ (c : Candidate). c.shelf) same);
          rank = sym (ap (λ (c : Candidate). c.rank) same);
          wide = f ∙ ap (λ (c : Candidate). Some c.item) same;
        }

-- the best candidate is of a shelf in use and of a free item of it
record IsBest (records : Records) (width height : ℕ) (candidate : Candidate) : Type 0 where
  pub stands : 1 ≤ times candidate.shelf (shelf_walk records).met
  pub wide : first_wide records width candidate.shelf ≡ Some candidate.item
  pub among : 1 ≤ times candidate.item (free_walk records candidate.shelf).met

best-is : (records : Records) (width height : ℕ) (candidate : Candidate) → best_candidate records width height ≡ Some candidate → IsBest records width height candidate
best-is records width height candidate found =
    let one : IsOffered (offered records width height) (shelf_walk records).met candidate = lowest-offered (offered records width height) (shelf_walk records).met candidate found in
    let parts : Offers records width height one.number candidate = offers-parts records width height one.number candidate one.offer in
    let wide : first_wide records width candidate.shelf ≡ Some candidate.item = ap (first_wide records width) parts.shelf_is ∙ parts.wide in
    record {
      stands = subst (λ n. 1 ≤ times n (shelf_walk records).met) (sym parts.shelf_is) one.stands;
      wide = wide;
      among = (find-stands (is_wide records width) (free_walk records candidate.shelf).met candidate.item wide).1;
    }

-- its shelf and its item are records
pub best-within : (records : Records) (width height : ℕ) (candidate : Candidate) → IsLinked records (walked_lists records) → best_candidate records width height ≡ Some candidate → (candidate.shelf < length records.shelves) × (candidate.item < length records.items)
best-within records width height candidate linked found =
    let best : IsBest records width height candidate = best-is records width height candidate found in
    (shelf-within records candidate.shelf linked best.stands, free-within records candidate.shelf candidate.item linked best.stands best.among)

-- where the lowest candidate is placed is what is chosen
pub chosen-found : (frame : Frame) (records : Records) (sides : Sides) (height : ℕ) (found : Option Candidate) → height ≡ shelf_height frame sides.across
    → found ≡ best_candidate records sides.along height → option_map (placement_at records sides.along height) found ≡ chosen_at frame records sides
chosen-found frame records sides height found stepped is =
    ap (option_map (placement_at records sides.along height)) is
    ∙ ap (λ (h : ℕ). option_map (placement_at records sides.along h) (best_candidate records sides.along h)) stepped

-- a shelf that wouldn't rank below the limit offers nothing better
pub not-better : (records : Records) (width height shelf : ℕ) (best : Option Candidate) → rank_of records.shelves height shelf < 2 ^ 32 - 1 → limit_of best ≤ rank_of records.shelves height shelf → better best (offered records width height shelf) ≡ best
not-better records width height shelf None low limit = absurd (omega (arith, low, limit))
not-better records width height shelf (Some candidate) low limit = by_offer (offered records width height shelf) refl
  where
    by_offer : (o : Option Candidate) → offered records width height shelf ≡ o → better (Some candidate) o ≡ Some candidate
    by_offer None e = refl
    by_offer (Some other) e =
        let rank : other.rank ≡ rank_of records.shelves height shelf = (offers-parts records width height shelf other e).rank in
        let same : nat_lt other.rank candidate.rank ≡ false = grind (arith, nat_tests) in
        ap (λ (b : Bool). Some (cond b other candidate)) same

-- a rank is at least the shelf's height, and at most that of bad fits
pub rank-own : (shelves : List LinkedShelf) (height shelf : ℕ) → height_of shelves shelf ≤ 65535 → (height_of shelves shelf ≤ rank_of shelves height shelf) × (rank_of shelves height shelf ≤ 65536)
rank-own shelves height shelf short = by_test (is_empty_at shelves shelf || nat_le (height_of shelves shelf) (height + height / 2))
  where
    by_test : (b : Bool) → (height_of shelves shelf ≤ cond b (height_of shelves shelf) 65536) × (cond b (height_of shelves shelf) 65536 ≤ 65536)
    by_test true = (omega arith, omega (arith, short))
    by_test false = (omega (arith, short), omega arith)

-- what a shelf offers whose free list was searched, where it is tall enough
pub offers-found : (records : Records) (width height shelf item : ℕ) → height ≤ height_of records.shelves shelf → Found item ≡ searched records width shelf
    → offered records width height shelf ≡ Some (record { shelf = shelf; item = item; rank = rank_of records.shelves height shelf })
offers-found records width height shelf item tall is = by_first (first_wide records width shelf) refl is
  where
    item_in : Searched → ℕ
    item_in (Found number) = number
    item_in (Widest width) = 0

    passes : nat_le height (height_of records.shelves shelf) ≡ true
    passes = grind (arith, nat_tests)

    by_first : (o : Option ℕ) → first_wide records width shelf ≡ o → Found item ≡ option_map_or Found o (Widest (widest_of records.items (free_walk records shelf).met))
        → offered records width height shelf ≡ Some (record { shelf = shelf; item = item; rank = rank_of records.shelves height shelf })
    by_first None e same = absurd (cc)
    by_first (Some other) e same = rw (passes, e) (ap (λ (s : Searched). Some (record { shelf = shelf; item = item_in s; rank = rank_of records.shelves height shelf })) (sym same))

-- where no free item is wide enough, it offers nothing
pub offers-none : (records : Records) (width height shelf widest : ℕ) → Widest widest ≡ searched records width shelf → offered records width height shelf ≡ None
offers-none records width height shelf widest is = by_first (first_wide records width shelf) refl is
  where
    nothing : Option Candidate
    nothing = None

    by_test : (b : Bool) → cond b (option_map (λ (item : ℕ). record { shelf = shelf; item = item; rank = rank_of records.shelves height shelf }) None) None ≡ nothing
    by_test true = refl
    by_test false = refl

    by_first : (o : Option ℕ) → first_wide records width shelf ≡ o → Widest widest ≡ option_map_or Found o (Widest (widest_of records.items (free_walk records shelf).met)) → offered records width height shelf ≡ None
    by_first None e same = rw e (by_test (nat_le height (height_of records.shelves shelf)))
    by_first (Some other) e same = absurd (cc)

-- none ranks below the height that is asked for
rank-low : (records : Records) (width height shelf : ℕ) (candidate : Candidate) → height ≤ 65535 → offered records width height shelf ≡ Some candidate → height ≤ candidate.rank
rank-low records width height shelf candidate short offer =
    let parts = offers-parts records width height shelf candidate offer in
    omega (arith, parts.rank, by_test (is_empty_at records.shelves shelf || nat_le (height_of records.shelves shelf) (height + height / 2)) parts.tall)
  where
    by_test : (b : Bool) → height ≤ height_of records.shelves shelf → height ≤ cond b (height_of records.shelves shelf) 65536
    by_test true tall = tall
    by_test false tall = omega (arith, short)

-- what shelves offer ranks at least at the height that is asked for
pub ranks-height : (records : Records) (width height : ℕ) → height ≤ 65535 → RanksFrom records width height height
ranks-height records width height short = λ shelf offer _ is. rank-low records width height shelf offer short is

-- what ranks so low is the lowest of all shelves, whatever comes behind them
pub least-of-all : (records : Records) (width height least shelf : ℕ) (passed others : List ℕ) (candidate : Candidate) → RanksFrom records width height least → Some candidate ≡ lowest (map (offered records width height) (passed ++ shelf ∷ []))
    → passed ++ shelf ∷ others ≡ (shelf_walk records).met → candidate.rank ≤ least → Some candidate ≡ best_candidate records width height
least-of-all records width height least shelf passed others candidate ranks holds whole low =
    sym
    (ap (λ (ns : List ℕ). lowest (map (offered records width height) ns)) (sym (append_assoc passed (shelf ∷ []) others ∙ whole))
    ∙ lowest-settled (offered records width height) candidate others (passed ++ shelf ∷ []) (λ n other stands offer. omega (arith, low, ranks n other (among n stands) offer)) (sym holds))
  where
    among : (n : ℕ) → 1 ≤ times n others → 1 ≤ times n (shelf_walk records).met
    among n stands = omega (arith, stands, ap (times n) whole, times-append n passed (shelf ∷ others))
