-- What passes over the shelves find by records is what the model says of the state.
use Rattle.std.proofs.Common.{◌≡◌, ℕ, ◌+◌, ◌-◌, ◌≤◌, Bool, true, false, cond, max, nat_le, nat_lt, Option, None, Some, List, [], ◌∷◌, filter, length, map, not, refl, ap, arith, sym, ◌∙◌}
use Rattle.std.proofs.lemmas.Bool.Decides.{nat_tests}
use Rattle.std.proofs.lemmas.List.{length-map}
use Rattle.std.specs.Prelude.{◌&&◌, ◌==◌}
use Rattle.std.specs.List.{AllByRecursion}
use Rattle.std.specs.Option.{option_map_or}
use Rattle.etagere_base.specs.Lists.{total}
use Rattle.etagere_base.specs.declared.frames.Frame.{Frame}
use Rattle.etagere_base.specs.declared.geometry.Size.{Size}
use Rattle.etagere_base.specs.declared.sides.Sides.{Sides}
use Rattle.etagere_base.proofs.EachLemmas.{Each-weaken}
use Rattle.shelf_records.specs.declared.records.LinkedItem.{LinkedItem}
use Rattle.shelf_records.specs.RecordLists.{Entry, Records, shelf_walk, walked_entry}
use Rattle.shelf_model.specs.Choice.{Placement, chosen, splits}
use Rattle.shelf_model.specs.Refusal.{lacks_records}
use Rattle.shelf_model.specs.State.{Item, Shelf, is_empty, is_free, items_in_use}
use Rattle.etagere_base.specs.Places.{size_at}
use Rattle.shelf_model.specs.Usage.{free_items, is_as_wide, largest_free, tallest_with, usage}
use Rattle.shelf_model.specs.declared.usage.Usage.{Usage}
use Rattle.shelf_model.specs.Widest.{free_width, greatest, widest_free, widest_in}
use Rattle.shelf_model.proofs.Counted.{items-counted}
use Rattle.shelf_records.specs.AtlasRecords.{height_of, is_allocated_at, is_empty_at, item_at, spelled_shelf}
use Rattle.shelf_records.specs.Private.Kept.{AreKept, atlas_of, bare, state_of}
use Rattle.shelf_records.proofs.Judged.EqualTimes.{length-fewer}
use Rattle.shelf_records.proofs.Spelled.SpelledPlaces.{free-spelled}
use Rattle.shelf_search.specs.declared.tallying.Tally.{Tally}
use Rattle.shelf_search.specs.Private.Asking.{free_of, is_as_wide_at, tally_of, widest_at}
use Rattle.shelf_search.specs.Private.Opening.{widest_of}
use Rattle.shelf_search.specs.Private.Searching.{chosen_at}
use Rattle.shelf_heights.proofs.ByHeight.FreeBounds.{bound-listed, listed-bound}
use Rattle.shelf_search.proofs.Searched.FoundPlacements.{chosen-located, located-parts, located-splits}
use Rattle.shelf_records.proofs.Spelled.KeptShelves.{IsSearched, kept-searched}
use Rattle.shelf_search.proofs.ByHeight.SearchedOnes.{bounds-widest}
use Rattle.shelf_records.proofs.Spelled.StandsKept.{witnesses}

-- the widest free item, and bounds
bounded-greatest : (items : List Item) (bound : ℕ) → AllByRecursion (λ (item : Item). is_free item ≡ true → item.width ≤ bound) items → greatest free_width items ≤ bound
bounded-greatest [] bound each = omega arith
bounded-greatest (item ∷ items) bound each = by_test (is_free item) refl (bounded-greatest items bound each.1)
  where
    by_test : (b : Bool) → is_free item ≡ b → greatest free_width items ≤ bound → max (cond b item.width 0) (greatest free_width items) ≤ bound
    by_test true e later = omega (arith, later, each.0 e)
    by_test false e later = omega (arith, later)

greatest-bounds : (items : List Item) (bound : ℕ) → greatest free_width items ≤ bound → AllByRecursion (λ (item : Item). is_free item ≡ true → item.width ≤ bound) items
greatest-bounds [] bound low = tt
greatest-bounds (item ∷ items) bound low = (
  λ free. let own : free_width item ≡ item.width = ap (λ b. cond b item.width 0) free in omega (arith, own, low),
  greatest-bounds items bound (omega (arith, low)),
)

bounded-widest : (items : List LinkedItem) (numbers : List ℕ) (bound : ℕ) → AllByRecursion (λ n. (item_at items n).width ≤ bound) numbers → widest_of items numbers ≤ bound
bounded-widest items [] bound each = omega arith
bounded-widest items (n ∷ ns) bound each = omega (arith, each.0, bounded-widest items ns bound each.1)

-- the free ones of a shelf's items, by their records
free-filtered : (items : List LinkedItem) (members : List ℕ) → length (filter is_free (map (item_at items) members)) ≡ length (filter (λ member. not (is_allocated_at items member)) members)
free-filtered items [] = refl
free-filtered items (n ∷ ns) = by_test (is_free (item_at items n)) (not (is_allocated_at items n)) (free-spelled items n) (free-filtered items ns)
  where
    by_test : (b d : Bool) → b ≡ d → length (filter is_free (map (item_at items) ns)) ≡ length (filter (λ member. not (is_allocated_at items member)) ns)
        → length (cond b (item_at items n ∷ filter is_free (map (item_at items) ns)) (filter is_free (map (item_at items) ns)))
        ≡ length (cond d (n ∷ filter (λ member. not (is_allocated_at items member)) ns) (filter (λ member. not (is_allocated_at items member)) ns))
    by_test true true e later = omega (arith, later)
    by_test true false e later = absurd (cc)
    by_test false true e later = absurd (cc)
    by_test false false e later = later

module _ (frame : Frame) (records : Records) where
  -- the shelf of a number, and those of numbers
  abbrev shelf_at : ℕ → Shelf
  shelf_at n = spelled_shelf (bare frame records) (walked_entry records n)

  abbrev shelves_at : List ℕ → List Shelf
  shelves_at ns = map (spelled_shelf (bare frame records)) (map (walked_entry records) ns)

  -- what is found of a shelf by its record is so in the state
  record IsCounted (n : ℕ) : Type 0 where
    wide : widest_in (shelf_at n) ≡ (free_of records n).widest
    free : length (filter is_free (shelf_at n).items) ≡ (free_of records n).count
    empty : is_empty (shelf_at n) ≡ is_empty_at records.shelves n

  one-counted : (n : ℕ) → IsSearched (atlas_of frame records) (walked_entry records n) → IsCounted n
  one-counted n searched =
      let entry : Entry = walked_entry records n in
      let items : List LinkedItem = records.items in
      let lists = searched.placed.free_list in
      let below : widest_in (shelf_at n) ≤ widest_of items entry.free_list =
      bounded-greatest (map (item_at items) entry.items) (widest_of items entry.free_list)
      (listed-bound items entry.items entry.free_list lists (widest_of items entry.free_list) (bounds-widest items entry.free_list (widest_of items entry.free_list) (omega arith))) in
      let above : widest_of items entry.free_list ≤ widest_in (shelf_at n) =
      bounded-widest items entry.free_list (widest_in (shelf_at n))
      (bound-listed items entry.items entry.free_list lists (widest_in (shelf_at n)) (greatest-bounds (map (item_at items) entry.items) (widest_in (shelf_at n)) (omega arith))) in
      let free : List ℕ = filter (λ member. not (is_allocated_at items member)) entry.items in
      record {
        wide = omega (arith, below, above);
        free =
            omega (
              arith,
              free-filtered items entry.items,
              length-fewer free entry.free_list (λ k. omega (arith, lists k)),
              length-fewer entry.free_list free (λ k. omega (arith, lists k)),
            );
        empty = sym searched.flag;
      }

  all-counted : AreKept frame records → AllByRecursion IsCounted (shelf_walk records).met
  all-counted kept =
      Each-weaken (λ number. IsSearched (atlas_of frame records) (walked_entry records number)) IsCounted (shelf_walk records).met one-counted (kept-searched frame records kept)

  -- the widest of the shelves that are tall enough
  widest-same : (height : ℕ) (ns : List ℕ) → AllByRecursion IsCounted ns → widest_free height (shelves_at ns) ≡ greatest (widest_at records height) ns
  widest-same height [] each = refl
  widest-same height (n ∷ ns) each = by_test (nat_le height (height_of records.shelves n)) (widest-same height ns each.1)
    where
      by_test : (b : Bool) → widest_free height (shelves_at ns) ≡ greatest (widest_at records height) ns
          → greatest widest_in (cond b (shelf_at n ∷ filter (λ (shelf : Shelf). nat_le height shelf.height) (shelves_at ns)) (filter (λ (shelf : Shelf). nat_le height shelf.height) (shelves_at ns)))
          ≡ max (cond b (free_of records n).widest 0) (greatest (widest_at records height) ns)
      by_test true later = omega (arith, later, each.0.wide)
      by_test false later = omega (arith, later)

  pub kept-widest : (height : ℕ) → AreKept frame records → widest_free height (state_of frame records).shelves ≡ greatest (widest_at records height) (shelf_walk records).met
  kept-widest height kept = widest-same height (shelf_walk records).met (all-counted kept)

  -- with no height asked for, all shelves count
  all-tall : (ns : List ℕ) → greatest (widest_at records 0) ns ≡ greatest (λ shelf. (free_of records shelf).widest) ns
  all-tall [] = refl
  all-tall (n ∷ ns) =
      let tall : nat_le 0 (height_of records.shelves n) ≡ true = grind (arith, nat_tests) in
      rw tall (omega (arith, all-tall ns))

  -- the counts
  empty-same : (ns : List ℕ) → AllByRecursion IsCounted ns → length (filter is_empty (shelves_at ns)) ≡ length (filter (is_empty_at records.shelves) ns)
  empty-same [] each = refl
  empty-same (n ∷ ns) each = by_test (is_empty (shelf_at n)) (is_empty_at records.shelves n) each.0.empty (empty-same ns each.1)
    where
      by_test : (b d : Bool) → b ≡ d → length (filter is_empty (shelves_at ns)) ≡ length (filter (is_empty_at records.shelves) ns)
          → length (cond b (shelf_at n ∷ filter is_empty (shelves_at ns)) (filter is_empty (shelves_at ns)))
          ≡ length (cond d (n ∷ filter (is_empty_at records.shelves) ns) (filter (is_empty_at records.shelves) ns))
      by_test true true e later = omega (arith, later)
      by_test true false e later = absurd (cc)
      by_test false true e later = absurd (cc)
      by_test false false e later = later

  free-same : (ns : List ℕ) → AllByRecursion IsCounted ns → free_items (shelves_at ns) ≡ total (λ shelf. (free_of records shelf).count) ns
  free-same [] each = refl
  free-same (n ∷ ns) each = omega (arith, each.0.free, free-same ns each.1)

  tallest-same : (width : ℕ) (ns : List ℕ) → AllByRecursion IsCounted ns → tallest_with width (shelves_at ns) ≡ greatest (height_of records.shelves) (filter (is_as_wide_at records width) ns)
  tallest-same width [] each = refl
  tallest-same width (n ∷ ns) each =
      by_test (is_as_wide width (shelf_at n)) (is_as_wide_at records width n) (ap (λ w. nat_lt 0 width && w == width) each.0.wide) (tallest-same width ns each.1)
    where
      by_test : (b d : Bool) → b ≡ d → tallest_with width (shelves_at ns) ≡ greatest (height_of records.shelves) (filter (is_as_wide_at records width) ns)
          → greatest (λ (shelf : Shelf). shelf.height) (cond b (shelf_at n ∷ filter (is_as_wide width) (shelves_at ns)) (filter (is_as_wide width) (shelves_at ns)))
          ≡ greatest (height_of records.shelves) (cond d (n ∷ filter (is_as_wide_at records width) ns) (filter (is_as_wide_at records width) ns))
      by_test true true e later = omega (arith, later)
      by_test true false e later = absurd (cc)
      by_test false true e later = absurd (cc)
      by_test false false e later = later

  -- what is counted by records is so in the state
  pub record AreCounted : Type 0 where
    pub shelves : length (state_of frame records).shelves ≡ (tally_of records (shelf_walk records).met).shelves
    pub empty_shelves : length (filter is_empty (state_of frame records).shelves) ≡ (tally_of records (shelf_walk records).met).empty_shelves
    pub free_items : free_items (state_of frame records).shelves ≡ (tally_of records (shelf_walk records).met).free_items
    pub width : widest_free 0 (state_of frame records).shelves ≡ (tally_of records (shelf_walk records).met).width
    pub height : tallest_with (widest_free 0 (state_of frame records).shelves) (state_of frame records).shelves ≡ (tally_of records (shelf_walk records).met).height

  pub kept-counted : AreKept frame records → AreCounted
  kept-counted kept =
      let met : List ℕ = (shelf_walk records).met in
      let each : AllByRecursion IsCounted met = all-counted kept in
      let wide : widest_free 0 (state_of frame records).shelves ≡ greatest (λ shelf. (free_of records shelf).widest) met = widest-same 0 met each ∙ all-tall met in
      record {
        shelves = length-map (map (walked_entry records) met) (spelled_shelf (bare frame records)) ∙ length-map met (walked_entry records);
        empty_shelves = empty-same met each;
        free_items = free-same met each;
        width = wide;
        height =
            ap (λ w. tallest_with w (state_of frame records).shelves) wide
            ∙ tallest-same (greatest (λ shelf. (free_of records shelf).widest) met) met each;
      }

  -- whether records lack for what is chosen
  abbrev lacks : Option Placement → Bool
  lacks o = option_map_or (λ placement. nat_lt 65535 (items_in_use (state_of frame records).shelves + splits placement)) o false

  pub none-lacks : (sides : Sides) → AreKept frame records → chosen_at frame records sides ≡ None → lacks_records (state_of frame records) sides ≡ false
  none-lacks sides kept none =
      let parts = located-parts frame records sides (chosen_at frame records sides) (chosen (state_of frame records) sides) refl (chosen-located frame records sides kept) in
      ap lacks (parts.0 none)

  pub some-lacks : (sides : Sides) (found : Placement) → AreKept frame records → chosen_at frame records sides ≡ Some found
      → lacks_records (state_of frame records) sides ≡ nat_lt 65535 (items_in_use (state_of frame records).shelves + splits found)
  some-lacks sides found kept is =
      let parts = located-parts frame records sides (chosen_at frame records sides) (chosen (state_of frame records) sides) refl (chosen-located frame records sides kept) in
      let model = parts.1 found is in
      ap lacks model.chosen ∙ ap (λ n. nat_lt 65535 (items_in_use (state_of frame records).shelves + n)) (sym (located-splits records found model.placement model.located))

  -- no more items are free than there can be
  pub kept-free : AreKept frame records → (tally_of records (shelf_walk records).met).free_items ≤ 65535
  kept-free kept =
      let counted = kept-counted kept in
      omega (arith, counted.free_items, items-counted (state_of frame records), (witnesses kept).valid.peak_items.0, (witnesses kept).valid.peak_items.1)

  -- the largest free item, from what was counted
  pub largest-is : (tally : Tally) → AreKept frame records → tally ≡ tally_of records (shelf_walk records).met → size_at frame tally.width tally.height ≡ largest_free (state_of frame records)
  largest-is tally kept is =
      let counted = kept-counted kept in
      let width : tally.width ≡ widest_free 0 (state_of frame records).shelves = ap (λ (t : Tally). t.width) is ∙ sym counted.width in
      let height : tally.height ≡ tallest_with (widest_free 0 (state_of frame records).shelves) (state_of frame records).shelves = ap (λ (t : Tally). t.height) is ∙ sym counted.height in
      ap (λ w. size_at frame w tally.height) width ∙ ap (size_at frame (widest_free 0 (state_of frame records).shelves)) height

  -- counts of equal parts
  abbrev counts : ℕ → ℕ → ℕ → ℕ → ℕ → Size → Usage
  counts shelves empty_shelves items free_items unused_records largest_free =
      record { shelves = shelves; empty_shelves = empty_shelves; items = items; free_items = free_items; unused_records = unused_records; largest_free = largest_free }

  counts-same : (a b d e f a' b' d' e' f' : ℕ) (g g' : Size) → a ≡ a' → b ≡ b' → d ≡ d' → e ≡ e' → f ≡ f' → g ≡ g' → counts a b d e f g ≡ counts a' b' d' e' f' g'
  counts-same a b d e f a' b' d' e' f' g g' h i j k l m = rw (h, i, j, k, l, m) refl

  -- how full the atlas is, from what was counted
  pub usage-is : (items : ℕ) (tally : Tally) (largest : Size) → AreKept frame records → items ≡ items_in_use (state_of frame records).shelves → tally ≡ tally_of records (shelf_walk records).met
      → largest ≡ size_at frame tally.width tally.height
      → counts tally.shelves tally.empty_shelves (items - tally.free_items) tally.free_items (65535 - items) largest ≡ usage (state_of frame records)
  usage-is items tally largest kept in_use is largest_is =
      let counted = kept-counted kept in
      let free : tally.free_items ≡ free_items (state_of frame records).shelves = ap (λ (t : Tally). t.free_items) is ∙ sym counted.free_items in
      counts-same _ _ _ _ _ _ _ _ _ _ _ _
      (ap (λ (t : Tally). t.shelves) is ∙ sym counted.shelves)
      (ap (λ (t : Tally). t.empty_shelves) is ∙ sym counted.empty_shelves)
      (omega (arith, items-counted (state_of frame records), in_use, free))
      free
      (ap (λ n. 65535 - n) in_use)
      (largest_is ∙ largest-is tally kept is)
