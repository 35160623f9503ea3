-- Pages allocate sizes by the laws of what does: what they hold, and that an empty page is there again once nothing
-- is held.
use Rattle.std.proofs.Common.{◌≡◌, ◌⊎◌, ℕ, zero, suc, ◌<◌, Bool, true, false, cond, ◌==◌, Option, Some, List, [], ◌∷◌, ◌++◌, inl, inr, refl, ap, sym, ◌∙◌, subst, ⊎_elim, arith}
use Rattle.std.proofs.lemmas.Bool.Decides.{nat_tests}
use Rattle.std.proofs.lemmas.List.{length-append}
use Rattle.std.specs.Prelude.{None, is_some, nat_lt, length, map, option_and_then, option_map, slice_get, slice_set}
use Rattle.std.specs.List.{AllByRecursion}
use Rattle.etagere_base.specs.declared.faults.OptionsFault.{OptionsFault}
use Rattle.etagere_base.specs.declared.frames.Frame.{Frame}
use Rattle.etagere_base.specs.declared.geometry.Size.{Size}
use Rattle.etagere_base.specs.declared.ids.Allocation.{Allocation}
use Rattle.etagere_base.specs.Frames.{longest_side, options_fault}
use Rattle.etagere_base.proofs.EachLemmas.{Each-get, Each-middle, Each-remove_number, Each-weaken}
use Rattle.paged_cache.specs.Private.Tying.{first-added, tied-front}
use Rattle.shelf_model.specs.Atlas.{Adds}
use Rattle.shelf_model.specs.Callers.{AreTied, IsFound}
use Rattle.shelf_model.specs.Choice.{IsRefused, placement_of}
use Rattle.shelf_model.specs.Fresh.{fresh, without_peak_items}
use Rattle.shelf_model.specs.Places.{allocations, rectangle_of}
use Rattle.shelf_model.specs.Returning.{returned}
use Rattle.shelf_model.specs.State.{AtlasState}
use Rattle.shelf_model.proofs.Callers.{allocates-adds, found-rectangle, fresh-allocated, not_allocated-any, returned-allocated, tied-added, tied-empty, tied-none, tied-returned}
use Rattle.atlas_pages.specs.declared.faults.PagesFault.TheVariants.{NoPages}
use Rattle.atlas_pages.specs.declared.options.PageOptions.{PageOptions}
use Rattle.atlas_pages.specs.declared.paged_allocation.PagedAllocation.{PagedAllocation}
use Rattle.atlas_pages.specs.Allocated.{at_page, cleared}
use Rattle.atlas_pages.specs.Choosing.{chosen_of, chosen_page, has_place, may_open, opened, ready_for}
use Rattle.atlas_pages.specs.Pages.{ArePageOptions, PagesState, empty_page, or_no_pages, page_frame}
use Rattle.atlas_pages.specs.Promises.{IsPage, KeepsPagesPromises}
use Rattle.atlas_pages.proofs.Chosen.{refused-chosen}
use Rattle.atlas_pages.proofs.Keeping.{keeps-returned}
use Rattle.atlas_pages.proofs.KeptBefore.{get-set, kept-before, ready-or_opened}
use Rattle.atlas_pages.proofs.PageLists.{length-at_page}
use Rattle.atlas_pages.proofs.Ready.{page_for-chosen, page_for-opened}
use Rattle.paged_cache.specs.Held.{AreAllPaged, GivesPaged, fits_page, has_page, is_paged_held, kept_on, paged_returned}

-- what stands in a list, by its number
get-within : {X : Type 0} (xs : List X) (n : ℕ) → n < length xs → (x : X) × (slice_get xs n ≡ Some x)
get-within [] n within = absurd (omega arith)
get-within (x ∷ xs) zero within = (x, refl)
get-within (x ∷ xs) (suc n) within = get-within xs n (omega arith)

within-get : {X : Type 0} (xs : List X) (n : ℕ) (x : X) → slice_get xs n ≡ Some x → n < length xs
within-get [] n x at = absurd (cc)
within-get (y ∷ xs) zero x at = omega arith
within-get (y ∷ xs) (suc n) x at = let rest = within-get xs n x at in omega (arith, rest)

-- one of a list with one more is one of it, or the last
get-last : {X : Type 0} (xs : List X) (last : X) (n : ℕ) (x : X) → slice_get (xs ++ last ∷ []) n ≡ Some x
    → (slice_get xs n ≡ Some x) ⊎ ((n ≡ length xs) × (last ≡ x))
get-last [] last zero x at = inr (refl, cc)
get-last [] last (suc n) x at = absurd (cc)
get-last (y ∷ xs) last zero x at = inl at
get-last (y ∷ xs) last (suc n) x at =
    ⊎_elim (λ here. inl here) (λ there. inr (omega (arith, there.0), there.1)) (get-last xs last n x at)

-- a write changes no other
get-set_other : {X : Type 0} (xs : List X) (m n : ℕ) (x : X) → (m == n) ≡ false → slice_get (slice_set xs m x) n ≡ slice_get xs n
get-set_other [] m n x other = refl
get-set_other (y ∷ xs) zero zero x other = absurd (cc)
get-set_other (y ∷ xs) zero (suc n) x other = refl
get-set_other (y ∷ xs) (suc m) zero x other = refl
get-set_other (y ∷ xs) (suc m) (suc n) x other = get-set_other xs m n x (grind (arith, nat_tests))

length-set : {X : Type 0} (xs : List X) (m : ℕ) (x : X) → length (slice_set xs m x) ≡ length xs
length-set [] m x = refl
length-set (y ∷ xs) zero x = refl
length-set (y ∷ xs) (suc m) x = ap suc (length-set xs m x)

-- nor does a change of one page
get-at_page : (change : AtlasState → AtlasState) (pages : List AtlasState) (m : ℕ)
    → slice_get (at_page m change pages) m ≡ option_map change (slice_get pages m)
get-at_page change [] m = refl
get-at_page change (page ∷ pages) zero = refl
get-at_page change (page ∷ pages) (suc m) = get-at_page change pages m

get-at_other : (change : AtlasState → AtlasState) (pages : List AtlasState) (m n : ℕ) → (m == n) ≡ false
    → slice_get (at_page m change pages) n ≡ slice_get pages n
get-at_other change [] m n other = refl
get-at_other change (page ∷ pages) zero zero other = absurd (cc)
get-at_other change (page ∷ pages) zero (suc n) other = refl
get-at_other change (page ∷ pages) (suc m) zero other = refl
get-at_other change (page ∷ pages) (suc m) (suc n) other = get-at_other change pages m n (grind (arith, nat_tests))

get-mapped : {X Y : Type 0} (f : X → Y) (xs : List X) (n : ℕ) (y : Y) → slice_get (map f xs) n ≡ Some y → (x : X) × (f x ≡ y)
get-mapped f [] n y at = absurd (cc)
get-mapped f (x ∷ xs) zero y at = (x, cc)
get-mapped f (x ∷ xs) (suc n) y at = get-mapped f xs n y at

mapped-some : {X Y : Type 0} (f : X → Y) (o : Option X) (y : Y) → option_map f o ≡ Some y → (x : X) × (o ≡ Some x) × (f x ≡ y)
mapped-some f None y h = absurd (cc)
mapped-some f (Some x) y h = (x, refl, cc)

same_number : (m n : ℕ) → (m == n) ≡ true → m ≡ n
same_number m n is = grind (arith, nat_tests)

-- what is kept on a page, of an allocation and others
kept-here : (n : ℕ) (paged : PagedAllocation) (kept : List PagedAllocation) → (paged.page == n) ≡ true → kept_on n (paged ∷ kept) ≡ paged.allocation ∷ kept_on n kept
kept-here n paged kept is = ap (λ b. cond b (paged.allocation ∷ kept_on n kept) (kept_on n kept)) is

kept-elsewhere : (n : ℕ) (paged : PagedAllocation) (kept : List PagedAllocation) → (paged.page == n) ≡ false → kept_on n (paged ∷ kept) ≡ kept_on n kept
kept-elsewhere n paged kept is = ap (λ b. cond b (paged.allocation ∷ kept_on n kept) (kept_on n kept)) is

kept-append : (n : ℕ) (front back : List PagedAllocation) → kept_on n (front ++ back) ≡ kept_on n front ++ kept_on n back
kept-append n [] back = refl
kept-append n (paged ∷ front) back = by_test (paged.page == n) (kept-append n front back)
  where
    by_test : (b : Bool) → kept_on n (front ++ back) ≡ kept_on n front ++ kept_on n back
        → cond b (paged.allocation ∷ kept_on n (front ++ back)) (kept_on n (front ++ back))
        ≡ cond b (paged.allocation ∷ kept_on n front) (kept_on n front) ++ kept_on n back
    by_test true rest = ap (λ l. paged.allocation ∷ l) rest
    by_test false rest = rest

kept-among : (n : ℕ) (front back : List PagedAllocation) (paged : PagedAllocation) → (paged.page == n) ≡ true
    → Adds (kept_on n (front ++ back)) paged.allocation (kept_on n (front ++ paged ∷ back))
kept-among n front back paged is =
    record {
      front = kept_on n front;
      back = kept_on n back;
      before = kept-append n front back;
      after = kept-append n front (paged ∷ back) ∙ ap (λ l. kept_on n front ++ l) (kept-here n paged back is);
    }

kept-without : (n : ℕ) (front back : List PagedAllocation) (paged : PagedAllocation) → (paged.page == n) ≡ false
    → kept_on n (front ++ paged ∷ back) ≡ kept_on n (front ++ back)
kept-without n front back paged is =
    kept-append n front (paged ∷ back) ∙ ap (λ l. kept_on n front ++ l) (kept-elsewhere n paged back is) ∙ sym (kept-append n front back)

kept-none : (n : ℕ) (kept : List PagedAllocation) → AllByRecursion (λ (paged : PagedAllocation). paged.page < n) kept → kept_on n kept ≡ []
kept-none n [] below = refl
kept-none n (paged ∷ kept) below =
    let other : (paged.page == n) ≡ false = (let few = below.0 in grind (arith, nat_tests)) in
    kept-elsewhere n paged kept other ∙ kept-none n kept below.1

-- a fact by whether a number is another
by_number : (P : Type 0) (m n : ℕ) → ((m == n) ≡ true → P) → ((m == n) ≡ false → P) → P
by_number P m n same other = by_test (m == n) refl
  where
    by_test : (b : Bool) → (m == n) ≡ b → P
    by_test true is = same is
    by_test false is = other is

-- a page that is opened holds nothing
held-opened : (state : PagesState) (kept : List PagedAllocation) → AreAllPaged state kept → AreAllPaged (opened state) kept
held-opened state kept held =
    record {
      open_pages = Each-weaken (λ (paged : PagedAllocation). paged.page < length state.pages) (λ (paged : PagedAllocation). paged.page < length (opened state).pages) kept
          (λ paged few. omega (arith, few, length-append state.pages (empty_page state.options ∷ []))) held.open_pages;
      tied = λ number page at.
          ⊎_elim (λ here. held.tied number page here)
          (λ last. subst (λ (p : AtlasState). AreTied (kept_on number kept) (allocations p)) last.1
          (rw (kept-none number kept (rw last.0 held.open_pages)) (tied-none (allocations (empty_page state.options)) (fresh-allocated (page_frame state.options)))))
          (get-last state.pages (empty_page state.options) number page at);
    }

held-ready : (state : PagesState) (size : Size) (kept : List PagedAllocation) → AreAllPaged state kept → AreAllPaged (ready_for state size) kept
held-ready state size kept held =
    ⊎_elim (λ same. subst (λ (s : PagesState). AreAllPaged s kept) (sym same) held)
    (λ opens. subst (λ (s : PagesState). AreAllPaged s kept) (sym opens) (held-opened state kept held))
    (ready-or_opened state size)

-- what was given is held with the others
pub one-more : (old : PagesState) (size : Size) (paged : PagedAllocation) (new : PagesState) (kept : List PagedAllocation) → KeepsPagesPromises old
    → KeepsPagesPromises new → GivesPaged old size paged new → AreAllPaged old kept → AreAllPaged new (paged ∷ kept)
one-more old size paged new kept was is gives held_old =
    let given = gives.places in
    let there = given.allocates in
    let ready = ready_for old size in
    let held = held-ready old size kept held_old in
    let before = kept-before old new size paged was is given.options there in
    let long : length new.pages ≡ length ready.pages = ap length there.others ∙ length-set ready.pages paged.page there.after in
    record {
      open_pages = (
        omega (arith, long, within-get ready.pages paged.page there.before there.is_open),
        Each-weaken (λ (p : PagedAllocation). p.page < length ready.pages) (λ (p : PagedAllocation). p.page < length new.pages) kept
            (λ p few. omega (arith, few, long)) held.open_pages,
      );
      tied = λ number page at.
          let written : slice_get (slice_set ready.pages paged.page there.after) number ≡ Some page =
          sym (ap (λ (l : List AtlasState). slice_get l number) there.others) ∙ at in
          by_number (AreTied (kept_on number (paged ∷ kept)) (allocations page)) paged.page number
          (λ same.
          let n = same_number paged.page number same in
          let page_is : there.after ≡ page =
          same_page (sym (get-set ready.pages paged.page there.before there.after there.is_open)
          ∙ ap (slice_get (slice_set ready.pages paged.page there.after)) n ∙ written) in
          rw (kept-here number paged kept same)
          (subst (λ (p : AtlasState). AreTied (paged.allocation ∷ kept_on number kept) (allocations p)) page_is
          (tied-added (kept_on number kept) (paged.allocation ∷ kept_on number kept) (allocations there.before) (allocations there.after) paged.allocation
          (held.tied number there.before (subst (λ k. slice_get ready.pages k ≡ Some there.before) n there.is_open))
          (first-added paged.allocation (kept_on number kept))
          (allocates-adds there.before size paged.allocation there.after before.valid there.allocates)
          (not_allocated-any there.before paged.allocation.id there.allocates.fresh_id))))
          (λ other.
          rw (kept-elsewhere number paged kept other)
          (held.tied number page (sym (get-set_other ready.pages paged.page number there.after other) ∙ written)));
    }
  where
    same_page : {one two : AtlasState} → Some one ≡ Some two → one ≡ two
    same_page {one} {two} h = cc

-- what was given back is held no more
pub one-less : (state : PagesState) (front back : List PagedAllocation) (paged : PagedAllocation) → KeepsPagesPromises state
    → AreAllPaged state (front ++ paged ∷ back) → AreAllPaged (paged_returned state paged) (front ++ back)
one-less state front back paged keeps held =
    let change : AtlasState → AtlasState = λ atlas. returned atlas paged.allocation.id in
    record {
      open_pages = Each-weaken (λ (p : PagedAllocation). p.page < length state.pages) (λ (p : PagedAllocation). p.page < length (at_page paged.page change state.pages)) (front ++ back)
          (λ p few. omega (arith, few, length-at_page change state.pages paged.page))
          (Each-remove_number (λ (p : PagedAllocation). p.page < length state.pages) front paged back held.open_pages);
      tied = λ number page at.
          by_number (AreTied (kept_on number (front ++ back)) (allocations page)) paged.page number
          (λ same.
          let n = same_number paged.page number same in
          let there = mapped-some change (slice_get state.pages paged.page) page
          (sym (get-at_page change state.pages paged.page) ∙ subst (λ k. slice_get (at_page paged.page change state.pages) k ≡ Some page) (sym n) at) in
          let before = (Each-get (IsPage state.options) state.pages paged.page there.0 there.1 keeps.pages).promises in
          subst (λ (p : AtlasState). AreTied (kept_on number (front ++ back)) (allocations p)) there.2
          (tied-returned (kept_on number (front ++ paged ∷ back)) (kept_on number (front ++ back)) (allocations there.0)
          (allocations (returned there.0 paged.allocation.id)) paged.allocation
          (held.tied number there.0 (subst (λ k. slice_get state.pages k ≡ Some there.0) n there.1))
          (kept-among number front back paged same) before.ids (returned-allocated there.0 paged.allocation.id before.valid)))
          (λ other.
          subst (λ (l : List Allocation). AreTied l (allocations page)) (kept-without number front back paged other)
          (held.tied number page (sym (get-at_other change state.pages paged.page number other) ∙ at)));
    }

-- the order of allocations says nothing
pub to-front : (state : PagesState) (front back : List PagedAllocation) (paged : PagedAllocation)
    → AreAllPaged state (front ++ paged ∷ back) → AreAllPaged state (paged ∷ front ++ back)
to-front state front back paged held =
    record {
      open_pages = (
        Each-middle (λ (p : PagedAllocation). p.page < length state.pages) front paged back held.open_pages,
        Each-remove_number (λ (p : PagedAllocation). p.page < length state.pages) front paged back held.open_pages,
      );
      tied = λ number page at.
          by_number (AreTied (kept_on number (paged ∷ front ++ back)) (allocations page)) paged.page number
          (λ same.
          rw (kept-here number paged (front ++ back) same)
          (tied-front (kept_on number (front ++ back)) (kept_on number (front ++ paged ∷ back)) (allocations page) paged.allocation
          (kept-among number front back paged same) (held.tied number page at)))
          (λ other.
          rw (kept-elsewhere number paged (front ++ back) other)
          (subst (λ (l : List Allocation). AreTied l (allocations page)) (kept-without number front back paged other) (held.tied number page at)));
    }

-- each that is held is allocated
pub among-held : (state : PagesState) (front back : List PagedAllocation) (paged : PagedAllocation)
    → AreAllPaged state (front ++ paged ∷ back) → is_paged_held state paged ≡ true
among-held state front back paged held =
    let page = get-within state.pages paged.page (Each-middle (λ (p : PagedAllocation). p.page < length state.pages) front paged back held.open_pages) in
    let adds = kept-among paged.page front back paged (grind (arith, nat_tests)) in
    let found : IsFound (allocations page.0) paged.allocation =
    Each-middle (IsFound (allocations page.0)) adds.front paged.allocation adds.back
    (subst (AllByRecursion (IsFound (allocations page.0))) adds.after (held.tied paged.page page.0 page.1).found) in
    ap (λ o. is_some (option_and_then (λ (atlas : AtlasState). rectangle_of atlas paged.allocation.id) o)) page.1
    ∙ ap is_some (found-rectangle page.0 paged.allocation found)

pub still-keeps : (state : PagesState) (paged : PagedAllocation) → KeepsPagesPromises state → KeepsPagesPromises (paged_returned state paged)
still-keeps state paged keeps = keeps-returned state paged.page paged.allocation.id keeps

-- pages that were emptied hold nothing
pub all-cleared : (state : PagesState) → KeepsPagesPromises state → AreAllPaged (cleared state) []
all-cleared state keeps =
    record {
      open_pages = tt;
      tied = λ number page at.
          let there = get-mapped (λ (p : AtlasState). fresh p.frame) state.pages number page at in
          subst (λ (p : AtlasState). AreTied [] (allocations p)) there.1
          (tied-none (allocations (fresh there.0.frame)) (fresh-allocated there.0.frame));
    }

-- there may be a page
some-pages : (options : PageOptions) → ArePageOptions options → 0 < options.most_pages
some-pages options none = by_test (options.most_pages == 0) refl (by_fault (options_fault longest_side options.size options.atlas) none)
  where
    by_fault : (o : Option OptionsFault) → or_no_pages options.most_pages o ≡ None → cond (options.most_pages == 0) (Some NoPages) None ≡ None
    by_fault None h = h
    by_fault (Some fault) h = absurd (cc)

    by_test : (b : Bool) → (options.most_pages == 0) ≡ b → cond (options.most_pages == 0) (Some NoPages) None ≡ None → 0 < options.most_pages
    by_test true is h = absurd (let none : cond true (Some NoPages) None ≡ None = subst (λ b. cond b (Some NoPages) None ≡ None) is h in cc)
    by_test false is h = grind (arith, nat_tests)

-- a page on which nothing is allocated has a place for what fits
unused-fits : (options : PageOptions) (page : AtlasState) (size : Size) → IsPage options page → allocations page ≡ []
    → has_place size (empty_page options) ≡ true → has_place size page ≡ true
unused-fits options page size is none fits =
    ap is_some (unused page (fresh page.frame) (is.promises.empty none)) ∙ ap (λ (f : Frame). has_place size (fresh f)) is.frame ∙ fits
  where
    unused : (one other : AtlasState) → without_peak_items one ≡ without_peak_items other → placement_of one size ≡ placement_of other size
    unused one other same = ap (λ (s : AtlasState). placement_of s size) same

-- a page has a place where the first one has
some-chosen : (state : PagesState) (size : Size) (page : AtlasState) (pages : List AtlasState) → state.pages ≡ page ∷ pages
    → has_place size page ≡ true → has_page state size ≡ true
some-chosen state size page pages is has = by_chosen (chosen_page state size) refl
  where
    by_chosen : (o : Option ℕ) → chosen_page state size ≡ o → has_page state size ≡ true
    by_chosen None none =
        let each = subst (AllByRecursion (λ (p : AtlasState). IsRefused p size)) is (refused-chosen state.options.choice size state.pages none) in
        absurd (stuck (ap is_some each.0))
      where
        stuck : has_place size page ≡ false → ⊥
        stuck refused = cc
    by_chosen (Some n) chosen = ap is_some (page_for-chosen state size n chosen)

-- where nothing is held, what fits on an empty page has a page
pub none-held : (state : PagesState) (size : Size) → KeepsPagesPromises state → AreAllPaged state [] → fits_page state size ≡ true
    → has_page state size ≡ true
none-held state size keeps held fits = by_pages state.pages refl
  where
    by_pages : (pages : List AtlasState) → state.pages ≡ pages → has_page state size ≡ true
    by_pages [] is =
        let none : chosen_page state size ≡ None = ap (λ (l : List AtlasState). chosen_of state.options.choice size l) is in
        let some = some-pages state.options keeps.options in
        let few : nat_lt (length state.pages) state.options.most_pages ≡ true = rw is (grind (arith, nat_tests)) in
        let opens : may_open state size ≡ true = rw (few, fits) refl in
        ap is_some (page_for-opened state size none opens)
    by_pages (page ∷ pages) is =
        let at : slice_get state.pages 0 ≡ Some page = ap (λ (l : List AtlasState). slice_get l 0) is in
        let one = Each-get (IsPage state.options) state.pages 0 page at keeps.pages in
        some-chosen state size page pages is
        (unused-fits state.options page size one (tied-empty (allocations page) (held.tied 0 page at)) fits)

-- what fits stays
pub fits-given : (old : PagesState) (size asked : Size) (paged : PagedAllocation) (new : PagesState) → GivesPaged old asked paged new
    → fits_page new size ≡ fits_page old size
fits-given old size asked paged new given = ap (λ (o : PageOptions). has_place size (empty_page o)) given.places.options
