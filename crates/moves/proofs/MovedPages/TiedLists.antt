-- What is listed on pages is all that is allocated there, also in another order; and one place more is, once a size was
-- given it.
use Rattle.std.proofs.Common.{◌≡◌, ℕ, zero, suc, ◌+◌, ◌<◌, ◌≤◌, Bool, true, false, cond, ◌&&◌, ◌==◌, Option, Some, List, [], ◌∷◌, ◌++◌, map, add-zero, zero-add, refl, ap, sym, ◌∙◌, arith}
use Rattle.std.proofs.lemmas.Bool.{eq-eqb, eqb-true}
use Rattle.std.proofs.lemmas.Bool.Decides.{nat_tests}
use Rattle.std.proofs.lemmas.List.Elements.{All-from_recursion, recursion_from_All}
use Rattle.std.proofs.lemmas.List.Recursion.{is_sum_by}
use Rattle.std.proofs.lemmas.List.Sorted.{All-permutation, sum_by-IsPermutation}
use Rattle.std.specs.List.{AllByRecursion, find, sum_by}
use Rattle.std.specs.List.Sorted.{IsPermutation}
use Rattle.std.specs.Prelude.{is_some, option_and_then, option_map, slice_get}
use Rattle.etagere_base.proofs.EachLemmas.{Each-append, Each-weaken}
use Rattle.etagere_base.proofs.Totals.{total-append}
use Rattle.etagere_base.specs.declared.geometry.Rectangle.{Rectangle}
use Rattle.etagere_base.specs.declared.geometry.Size.{Size}
use Rattle.etagere_base.specs.declared.ids.Allocation.{Allocation}
use Rattle.etagere_base.specs.Lists.{times}
use Rattle.etagere_base.specs.Rectangles.{IsLarge}
use Rattle.shelf_model.proofs.Allocations.ListedOnce.{listed-tied}
use Rattle.shelf_model.proofs.Callers.{found-rectangle}
use Rattle.shelf_model.specs.Atlas.{KeepsPromises}
use Rattle.shelf_model.specs.Callers.{IsFound}
use Rattle.shelf_model.specs.Listing.{listed}
use Rattle.shelf_model.specs.Places.{allocations, rectangle_of}
use Rattle.shelf_model.specs.State.{AtlasState}
use Rattle.atlas_pages.proofs.PageLists.{Each-map}
use Rattle.atlas_pages.specs.declared.paged_allocation.PagedAllocation.{PagedAllocation}
use Rattle.atlas_pages.specs.Allocated.{Places, is_allocated_on, rectangle_on}
use Rattle.atlas_pages.specs.Listing.{allocations_from, listed_allocations, on_page}
use Rattle.atlas_pages.specs.Pages.{PagesState, page_frame}
use Rattle.atlas_pages.specs.Promises.{IsPage, KeepsPagesPromises}
use Rattle.atlas_pages.proofs.PageRuns.StepsTold.{among-ready, told-step}
use Rattle.atlas_pages.specs.declared.runs.commands.PageCommand.TheVariants.{Allocate}
use Rattle.atlas_pages.specs.declared.runs.commands.PageReply.TheVariants.{Placed}
use Rattle.atlas_pages.specs.Runs.Told.{are}
use Rattle.moves.specs.Pages.Tied.{AreTiedOn, IsFoundOn, times_on}

-- the rectangle on one of some pages under an id
abbrev among : List AtlasState → ℕ → ℕ → Option Rectangle
among pages page id = option_and_then (λ (atlas : AtlasState). rectangle_of atlas id) (slice_get pages page)

abbrev ids_of : List Allocation → List ℕ
ids_of all = map (λ (a : Allocation). a.id) all

abbrev with_id : ℕ → List Allocation → Option Allocation
with_id id all = find (λ (a : Allocation). a.id == id) all

abbrev rectangle : Option Allocation → Option Rectangle
rectangle found = option_map (λ (a : Allocation). a.rectangle) found

-- numbers that differ
unequal-before : (number page : ℕ) → page < number → (number == page) ≡ false
unequal-before number page before = grind (arith, nat_tests)

unequal-behind : (number page : ℕ) → (number == number + suc page) ≡ false
unequal-behind number page = grind (arith, nat_tests)

equal-here : (number : ℕ) → (number == number + 0) ≡ true
equal-here number = grind (arith, nat_tests)

shift : (number page : ℕ) → number + 1 + page ≡ number + suc page
shift number page = omega arith

-- how often a page and an id stand among places end to end
pub times_on-append : (page id : ℕ) (front back : List PagedAllocation)
    → times_on page id (front ++ back) ≡ times_on page id front + times_on page id back
times_on-append page id front back =
    total-append (λ (paged : PagedAllocation). cond (are paged.page paged.allocation.id page id) 1 0) front back

-- an id that stands once at most among allocations stands there where it is found
times-found : (id : ℕ) (all : List Allocation) → times id (ids_of all) ≤ 1
    → times id (ids_of all) ≡ cond (is_some (rectangle (with_id id all))) 1 0
times-found id [] few = refl
times-found id (a ∷ all) few = by_test (a.id == id) few (times-found id all)
  where
    by_test : (b : Bool) → cond b 1 0 + times id (ids_of all) ≤ 1
        → (times id (ids_of all) ≤ 1 → times id (ids_of all) ≡ cond (is_some (rectangle (with_id id all))) 1 0)
        → cond b 1 0 + times id (ids_of all) ≡ cond (is_some (rectangle (cond b (Some a) (with_id id all)))) 1 0
    by_test true few later = omega (arith, few)
    by_test false few later = zero-add (times id (ids_of all)) ∙ later (omega (arith, few))

-- how often a page and an id stand among what is on one page
times-on_page : (number page id : ℕ) (all : List Allocation)
    → times_on page id (on_page number all) ≡ cond (number == page) (times id (ids_of all)) 0
times-on_page number page id [] = none (number == page)
  where
    none : (b : Bool) → ◌≡◌ {A = ℕ} 0 (cond b 0 0)
    none true = refl
    none false = refl
times-on_page number page id (a ∷ all) = by_test (number == page) (times-on_page number page id all)
  where
    by_test : (b : Bool) → times_on page id (on_page number all) ≡ cond b (times id (ids_of all)) 0
        → cond (b && a.id == id) 1 0 + times_on page id (on_page number all)
        ≡ cond b (cond (a.id == id) 1 0 + times id (ids_of all)) 0
    by_test true later = ap (λ n. cond (a.id == id) 1 0 + n) later
    by_test false later = zero-add (times_on page id (on_page number all)) ∙ later

-- on another page it doesn't
times-other_page : (number page id : ℕ) (all : List Allocation) → (number == page) ≡ false
    → times_on page id (on_page number all) ≡ 0
times-other_page number page id all other =
    times-on_page number page id all ∙ ap (λ (b : Bool). cond b (times id (ids_of all)) 0) other

-- what is listed from a number on is on no page before
times-before : (pages : List AtlasState) (number page id : ℕ) → page < number
    → times_on page id (allocations_from number pages) ≡ 0
times-before [] number page id before = refl
times-before (x ∷ pages) number page id before =
    omega (
      arith,
      times_on-append page id (on_page number (listed x)) (allocations_from (number + 1) pages),
      times-other_page number page id (listed x) (unequal-before number page before),
      times-before pages (number + 1) page id (omega arith),
    )

-- an id stands once on its own page
times-here : (x : AtlasState) (number id : ℕ) → KeepsPromises x
    → times_on (number + 0) id (on_page number (listed x)) ≡ cond (is_some (rectangle_of x id)) 1 0
times-here x number id keeps =
    times-on_page number (number + 0) id (listed x)
    ∙ ap (λ (b : Bool). cond b (times id (ids_of (listed x))) 0) (equal-here number)
    ∙ sym ((listed-tied x keeps.valid).counted id)
    ∙ times-found id (allocations x) (keeps.ids id)

-- each page and id stand once where something is allocated, and nowhere else
times-listed : (pages : List AtlasState) (number page id : ℕ) → AllByRecursion KeepsPromises pages
    → times_on (number + page) id (allocations_from number pages) ≡ cond (is_some (among pages page id)) 1 0
times-listed [] number page id keeps = refl
times-listed (x ∷ pages) number zero id keeps =
    omega (
      arith,
      times_on-append (number + 0) id (on_page number (listed x)) (allocations_from (number + 1) pages),
      times-here x number id keeps.0,
      times-before pages (number + 1) (number + 0) id (omega arith),
    )
times-listed (x ∷ pages) number (suc page) id keeps =
    let rest : times_on (number + suc page) id (allocations_from (number + 1) pages) ≡ cond (is_some (among pages page id)) 1 0 =
    ap (λ p. times_on p id (allocations_from (number + 1) pages)) (sym (shift number page))
    ∙ times-listed pages (number + 1) page id keeps.1 in
    omega (
      arith,
      times_on-append (number + suc page) id (on_page number (listed x)) (allocations_from (number + 1) pages),
      times-other_page number (number + suc page) id (listed x) (unequal-behind number page),
      rest,
    )

-- a place is found on pages that are counted from a number on
abbrev IsThere : List AtlasState → ℕ → PagedAllocation → Type 0
IsThere pages number paged =
    (page : ℕ) × (paged.page ≡ number + page) × (among pages page paged.allocation.id ≡ Some paged.allocation.rectangle)

listed-there : (pages : List AtlasState) (number : ℕ) → AllByRecursion KeepsPromises pages
    → AllByRecursion (IsThere pages number) (allocations_from number pages)
listed-there [] number keeps = tt
listed-there (x ∷ pages) number keeps =
    Each-append (IsThere (x ∷ pages) number) (on_page number (listed x)) (allocations_from (number + 1) pages)
    (Each-map (IsFound (allocations x)) (IsThere (x ∷ pages) number) (λ (a : Allocation). record { page = number; allocation = a }) (listed x)
    (λ a found. (0, sym (add-zero number), found-rectangle x a found))
    (listed-tied x keeps.0.valid).found)
    (Each-weaken (IsThere pages (number + 1)) (IsThere (x ∷ pages) number) (allocations_from (number + 1) pages)
    (λ paged there. (suc there.0, there.1 ∙ shift there.0, there.2))
    (listed-there pages (number + 1) keeps.1))
  where
    shift : (page : ℕ) → number + 1 + page ≡ number + suc page
    shift page = omega arith

-- each listed place is found
pub listed-found : (state : PagesState) → KeepsPagesPromises state
    → AllByRecursion (λ (paged : PagedAllocation). rectangle_on state paged.page paged.allocation.id ≡ Some paged.allocation.rectangle) (listed_allocations state)
listed-found state keeps =
    Each-weaken (IsThere state.pages 0) (λ (paged : PagedAllocation). rectangle_on state paged.page paged.allocation.id ≡ Some paged.allocation.rectangle) (listed_allocations state)
    (λ paged there. ap (λ p. rectangle_on state p paged.allocation.id) (there.1 ∙ zero-add there.0) ∙ there.2)
    (listed-there state.pages 0
    (Each-weaken (IsPage state.options) KeepsPromises state.pages (λ atlas it. it.promises) keeps.pages))

-- what is listed is all that is allocated
pub tied-listed : (state : PagesState) → KeepsPagesPromises state → AreTiedOn (listed_allocations state) state
tied-listed state keeps =
    let each = Each-weaken (IsPage state.options) KeepsPromises state.pages (λ atlas it. it.promises) keeps.pages in
    record {
      found = listed-found state keeps;
      counted = λ page id.
          ap (λ p. times_on p id (listed_allocations state)) (sym (zero-add page)) ∙ times-listed state.pages 0 page id each;
    }

-- a count as a sum
times-sum : (page id : ℕ) (ones : List PagedAllocation)
    → times_on page id ones ≡ sum_by (λ (paged : PagedAllocation). cond (are paged.page paged.allocation.id page id) 1 0) ones
times-sum page id =
    is_sum_by (λ (ones : List PagedAllocation). times_on page id ones)
    (λ (paged : PagedAllocation). cond (are paged.page paged.allocation.id page id) 1 0) refl (λ _ _. refl)

-- also in another order
pub tied-permuted : (ones other : List PagedAllocation) (state : PagesState) → AreTiedOn ones state → IsPermutation ones other
    → AreTiedOn other state
tied-permuted ones other state tied moved =
    record {
      found = recursion_from_All (IsFoundOn state) other
          (All-permutation (IsFoundOn state) ones other moved (All-from_recursion (IsFoundOn state) ones tied.found));
      counted = λ page id.
          times-sum page id other
          ∙ sum_by-IsPermutation (λ (paged : PagedAllocation). cond (are paged.page paged.allocation.id page id) 1 0) ones other moved
          ∙ sym (times-sum page id ones)
          ∙ tied.counted page id;
    }

module _ (old new : PagesState) (size : Size) (after : PagedAllocation) (was : KeepsPagesPromises old) (is : KeepsPagesPromises new)
    (places : Places old size after new) (large : IsLarge (page_frame old.options) size after.allocation.rectangle) where
  -- once a size was given a place, only that changes
  seen : (page id : ℕ)
      → cond (are after.page after.allocation.id page id) (Some after.allocation.rectangle) (rectangle_on old page id)
      ≡ rectangle_on new page id
  seen page id =
      told-step old (Allocate size) (Placed after) new (rectangle_on old) was is (places, large) (λ _ _. refl) page id

  -- nothing was there before
  free-before : is_allocated_on old after.page after.allocation.id ≡ false
  free-before =
      let there = places.allocates in
      ap is_some (sym (among-ready old size after.page after.allocation.id))
      ∙ ap (λ (o : Option AtlasState). is_some (option_and_then (λ (atlas : AtlasState). rectangle_of atlas after.allocation.id) o)) there.is_open
      ∙ there.allocates.fresh_id

  -- the same page and id are one allocation
  same-allocation : (page id : ℕ) → are after.page after.allocation.id page id ≡ true → is_allocated_on old page id ≡ false
  same-allocation page id same = by_tests (after.page == page) refl (after.allocation.id == id) refl same
    where
      by_tests : (a : Bool) → (after.page == page) ≡ a → (b : Bool) → (after.allocation.id == id) ≡ b → (a && b) ≡ true
          → is_allocated_on old page id ≡ false
      by_tests true here true it same =
          ap (λ n. is_allocated_on old n id) (sym (eqb-true after.page page here))
          ∙ ap (λ n. is_allocated_on old after.page n) (sym (eqb-true after.allocation.id id it))
          ∙ free-before
      by_tests true here false it same = absurd (cc)
      by_tests false here b it same = absurd (cc)

  -- what was found before is found still
  found-still : (paged : PagedAllocation) → IsFoundOn old paged → IsFoundOn new paged
  found-still paged found = by_test (are after.page after.allocation.id paged.page paged.allocation.id) refl
    where
      by_test : (b : Bool) → are after.page after.allocation.id paged.page paged.allocation.id ≡ b → IsFoundOn new paged
      by_test true same =
          let some : is_allocated_on old paged.page paged.allocation.id ≡ true = ap is_some found in
          let none = same-allocation paged.page paged.allocation.id same in
          absurd (cc)
      by_test false other =
          sym (seen paged.page paged.allocation.id)
          ∙ ap (λ (b : Bool). cond b (Some after.allocation.rectangle) (rectangle_on old paged.page paged.allocation.id)) other
          ∙ found

  found-new : IsFoundOn new after
  found-new =
      sym (seen after.page after.allocation.id)
      ∙ ap (λ (b : Bool). cond b (Some after.allocation.rectangle) (rectangle_on old after.page after.allocation.id))
      (own (after.page == after.page) (after.allocation.id == after.allocation.id) (eq-eqb after.page after.page refl) (eq-eqb after.allocation.id after.allocation.id refl))
    where
      own : (a b : Bool) → a ≡ true → b ≡ true → (a && b) ≡ true
      own a b here it = rw (here, it) refl

  -- where places are all that was allocated, they are with the new one
  pub tied-added : (kept : List PagedAllocation) → AreTiedOn kept old → AreTiedOn (kept ++ after ∷ []) new
  tied-added kept tied =
      record {
        found = Each-append (IsFoundOn new) kept (after ∷ [])
            (Each-weaken (IsFoundOn old) (IsFoundOn new) kept found-still tied.found) (found-new, tt);
        counted = λ page id.
            times_on-append page id kept (after ∷ [])
            ∙ ap (λ n. n + times_on page id (after ∷ [])) (tied.counted page id)
            ∙ by_test page id (are after.page after.allocation.id page id) refl
            ∙ ap (λ (o : Option Rectangle). cond (is_some o) 1 0) (seen page id);
      }
    where
      by_test : (page id : ℕ) (b : Bool) → are after.page after.allocation.id page id ≡ b
          → cond (is_allocated_on old page id) 1 0 + (cond b 1 0 + 0)
          ≡ cond (is_some (cond b (Some after.allocation.rectangle) (rectangle_on old page id))) 1 0
      by_test page id true same = ap (λ (b : Bool). cond b 1 0 + (1 + 0)) (same-allocation page id same)
      by_test page id false other = add-zero (cond (is_allocated_on old page id) 1 0)
