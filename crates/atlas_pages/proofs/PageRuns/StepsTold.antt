-- A step changes what is allocated just as its reply tells, and of the options only how many pages there may be.
use Rattle.std.proofs.Common.{◌≡◌, ◌≢◌, ◌⊎◌, ℕ, zero, suc, Bool, true, false, cond, ◌&&◌, ◌==◌, Option, Some, List, [], ◌∷◌, ◌++◌, length, map, refl, ap, sym, ◌∙◌, subst, ⊎_elim, arith}
use Rattle.std.proofs.lemmas.Bool.{eqb-true}
use Rattle.std.proofs.lemmas.Bool.Decides.{nat_tests}
use Rattle.std.specs.Prelude.{None, option_and_then, option_map, slice_get, slice_set}
use Rattle.std.specs.List.{AllByRecursion, find}
use Rattle.etagere_base.specs.declared.geometry.Rectangle.{Rectangle}
use Rattle.etagere_base.specs.declared.geometry.Size.{Size}
use Rattle.etagere_base.specs.declared.ids.Allocation.{Allocation}
use Rattle.etagere_base.proofs.EachLemmas.{Each-get, Each-weaken}
use Rattle.shelf_model.proofs.Allocations.SeenById.{takes-away}
use Rattle.shelf_model.proofs.Callers.{allocates-adds, find-inserted_other, found-new, found-rectangle, fresh-allocated, not_allocated-any, returned-allocated}
use Rattle.shelf_model.specs.Atlas.{Adds, Allocates, KeepsPromises}
use Rattle.shelf_model.specs.ById.{TakesAway}
use Rattle.shelf_model.specs.Fresh.{fresh}
use Rattle.shelf_model.specs.Places.{allocations, rectangle_of}
use Rattle.shelf_model.specs.Returning.{returned}
use Rattle.shelf_model.specs.State.{AtlasState}
use Rattle.atlas_pages.specs.declared.options.PageOptions.{PageOptions}
use Rattle.atlas_pages.specs.declared.paged_allocation.PagedAllocation.{PagedAllocation}
use Rattle.atlas_pages.specs.Allocated.{Places, at_page, is_unused, rectangle_on, used_pages}
use Rattle.atlas_pages.specs.Choosing.{ready_for}
use Rattle.atlas_pages.specs.Pages.{PagesState, empty_page, page_frame}
use Rattle.atlas_pages.specs.Promises.{IsPage, KeepsPagesPromises}
use Rattle.atlas_pages.proofs.KeptBefore.{get-set, kept-before, ready-or_opened}
use Rattle.atlas_pages.proofs.PageLists.{at_page-set}
use Rattle.atlas_pages.specs.declared.runs.commands.PageCommand.{PageCommand}
use Rattle.atlas_pages.specs.declared.runs.commands.PageCommand.TheVariants.{Allocate, Deallocate, Clear, Grow, Shrink}
use Rattle.atlas_pages.specs.declared.runs.commands.PageReply.{PageReply}
use Rattle.atlas_pages.specs.declared.runs.commands.PageReply.TheVariants.{Placed, Refused, NoMemory, Returned, Unknown, Cleared, Grown, Fewer, Closed}
use Rattle.atlas_pages.specs.Runs.Running.{PageStep}
use Rattle.atlas_pages.specs.Runs.Told.{Told, are, told_after, with_paged}

-- the rectangle on one of some pages under an id
abbrev among : List AtlasState → ℕ → ℕ → Option Rectangle
among pages page id = option_and_then (λ (atlas : AtlasState). rectangle_of atlas id) (slice_get pages page)

abbrev rectangle : Option Allocation → Option Rectangle
rectangle found = option_map (λ (a : Allocation). a.rectangle) found

abbrev with_id : ℕ → List Allocation → Option Allocation
with_id id all = find (λ (a : Allocation). a.id == id) all

-- two numbers that are told apart differ
differ : (a b : ℕ) → (a == b) ≡ false → a ≢ b
differ a b unequal same = grind (arith, nat_tests)

-- nothing is found where nothing is allocated
none-allocated : (page : AtlasState) (id : ℕ) → allocations page ≡ [] → rectangle_of page id ≡ None
none-allocated page id none = ap (λ (all : List Allocation). rectangle (with_id id all)) none

-- after an allocation an id has the rectangle that it had, but for the new one
seen-allocated : (old : AtlasState) (size : Size) (added : Allocation) (new : AtlasState) → KeepsPromises old
    → Allocates old size added new → (id : ℕ)
    → rectangle_of new id ≡ cond (added.id == id) (Some added.rectangle) (rectangle_of old id)
seen-allocated old size added new promises allocates id = by_test (added.id == id) refl
  where
    adds : Adds (allocations old) added (allocations new)
    adds = allocates-adds old size added new promises.valid allocates

    found : rectangle_of new added.id ≡ Some added.rectangle
    found = found-rectangle new added
        (found-new (allocations old) (allocations new) added adds (not_allocated-any old added.id allocates.fresh_id))

    by_test : (b : Bool) → (added.id == id) ≡ b → rectangle_of new id ≡ cond b (Some added.rectangle) (rectangle_of old id)
    by_test true same = subst (λ (n : ℕ). rectangle_of new n ≡ Some added.rectangle) (eqb-true added.id id same) found
    by_test false other =
        ap (λ l. rectangle (with_id id l)) adds.after
        ∙ ap rectangle (find-inserted_other (λ (a : Allocation). a.id == id) adds.front added adds.back other)
        ∙ sym (ap (λ l. rectangle (with_id id l)) adds.before)

-- after a return as well, but for the one that was given back
seen-returned : (page : AtlasState) (gone : ℕ) → KeepsPromises page → (id : ℕ)
    → rectangle_of (returned page gone) id ≡ cond (gone == id) None (rectangle_of page id)
seen-returned page gone promises id = by_test (gone == id) refl
  where
    takes : TakesAway page gone (returned page gone)
    takes = takes-away page gone (returned page gone) (returned-allocated page gone promises.valid)

    by_test : (b : Bool) → (gone == id) ≡ b → rectangle_of (returned page gone) id ≡ cond b None (rectangle_of page id)
    by_test true same = subst (λ (n : ℕ). rectangle_of (returned page gone) n ≡ None) (eqb-true gone id same) takes.gone
    by_test false other = takes.others id (λ same. differ gone id other (sym same))

-- the pages beside one that is written stay under their numbers
get-set_other : (pages : List AtlasState) (n m : ℕ) (after : AtlasState) → n ≢ m
    → slice_get (slice_set pages n after) m ≡ slice_get pages m
get-set_other [] n m after other = refl
get-set_other (x ∷ pages) zero zero after other = absurd (other refl)
get-set_other (x ∷ pages) zero (suc m) after other = refl
get-set_other (x ∷ pages) (suc n) zero after other = refl
get-set_other (x ∷ pages) (suc n) (suc m) after other = get-set_other pages n m after (λ same. other (ap suc same))

-- where one page changes, what it has under an id may, and nothing else
among-set : (pages : List AtlasState) (n : ℕ) (before after : AtlasState) (own : ℕ) (here : Option Rectangle)
    → slice_get pages n ≡ Some before
    → ((id : ℕ) → rectangle_of after id ≡ cond (own == id) here (rectangle_of before id))
    → (page id : ℕ) → among (slice_set pages n after) page id ≡ cond (are n own page id) here (among pages page id)
among-set pages n before after own here at changes page id = by_test (n == page) refl
  where
    by_test : (b : Bool) → (n == page) ≡ b
        → among (slice_set pages n after) page id ≡ cond (b && own == id) here (among pages page id)
    by_test true same =
        let is : n ≡ page = eqb-true n page same in
        ap (λ (m : ℕ). among (slice_set pages n after) m id) (sym is)
        ∙ ap (option_and_then (λ (atlas : AtlasState). rectangle_of atlas id)) (get-set pages n before after at)
        ∙ changes id
        ∙ ap (cond (own == id) here)
        (sym (ap (option_and_then (λ (atlas : AtlasState). rectangle_of atlas id)) at)
        ∙ ap (λ (m : ℕ). among pages m id) is)
    by_test false other =
        ap (option_and_then (λ (atlas : AtlasState). rectangle_of atlas id)) (get-set_other pages n page after (differ n page other))

-- an empty page behind the others adds nothing
among-opened : (pages : List AtlasState) (empty : AtlasState) → allocations empty ≡ [] → (page id : ℕ)
    → among (pages ++ empty ∷ []) page id ≡ among pages page id
among-opened [] empty none zero id = none-allocated empty id none
among-opened [] empty none (suc page) id = refl
among-opened (x ∷ pages) empty none zero id = refl
among-opened (x ∷ pages) empty none (suc page) id = among-opened pages empty none page id

-- what pages have that are ready for a size is what they had
pub among-ready : (state : PagesState) (size : Size) (page id : ℕ) → among (ready_for state size).pages page id ≡ among state.pages page id
among-ready state size page id =
    ⊎_elim (λ here. ap (λ (s : PagesState). among s.pages page id) here)
    (λ opens. ap (λ (s : PagesState). among s.pages page id) opens
    ∙ among-opened state.pages (empty_page state.options) (fresh-allocated (page_frame state.options)) page id)
    (ready-or_opened state size)

-- one change of a page of a number is that page written there
among-at_page : (pages : List AtlasState) (n gone : ℕ) → AllByRecursion KeepsPromises pages → (page id : ℕ)
    → among (at_page n (λ atlas. returned atlas gone) pages) page id ≡ cond (are n gone page id) None (among pages page id)
among-at_page pages n gone keeps page id = by_page (slice_get pages n) refl
  where
    none_here : (b : Bool) → cond b None (among [] page id) ≡ None
    none_here true = refl
    none_here false = refl

    nowhere : (l : List AtlasState) (m : ℕ) → slice_get l m ≡ None → at_page m (λ atlas. returned atlas gone) l ≡ l
    nowhere [] m none = refl
    nowhere (x ∷ l) zero none = absurd (cc)
    nowhere (x ∷ l) (suc m) none = ap (λ rest. x ∷ rest) (nowhere l m none)

    kept : (b c : Bool) → (n == page) ≡ b → slice_get pages n ≡ None → among pages page id ≡ cond (b && c) None (among pages page id)
    kept false c other none = refl
    kept true false same none = refl
    kept true true same none =
        ap (λ (m : ℕ). among pages m id) (sym (eqb-true n page same))
        ∙ ap (option_and_then (λ (atlas : AtlasState). rectangle_of atlas id)) none

    by_page : (o : Option AtlasState) → slice_get pages n ≡ o
        → among (at_page n (λ atlas. returned atlas gone) pages) page id ≡ cond (are n gone page id) None (among pages page id)
    by_page None none =
        ap (λ (l : List AtlasState). among l page id) (nowhere pages n none) ∙ kept (n == page) (gone == id) refl none
    by_page (Some before) at =
        ap (λ (l : List AtlasState). among l page id) (at_page-set (λ atlas. returned atlas gone) pages n before at)
        ∙ among-set pages n before (returned before gone) gone None at
        (seen-returned before gone (Each-get KeepsPromises pages n before at keeps)) page id

-- nothing is on pages that are all emptied
among-cleared : (pages : List AtlasState) (page id : ℕ)
    → among (map (λ (atlas : AtlasState). fresh atlas.frame) pages) page id ≡ None
among-cleared [] page id = refl
among-cleared (x ∷ pages) zero id = none-allocated (fresh x.frame) id (fresh-allocated x.frame)
among-cleared (x ∷ pages) (suc page) id = among-cleared pages page id

-- pages that are closed had nothing on them
among-used : (pages : List AtlasState) (page id : ℕ) → among (used_pages pages) page id ≡ among pages page id
among-used [] page id = refl
among-used (x ∷ pages) page id =
    by_tests (among-used pages) (is_unused x) refl (length (used_pages pages) == 0) refl page
  where
    no_allocation : (l : List Allocation) → (length l == 0) ≡ true → l ≡ []
    no_allocation [] is = refl
    no_allocation (a ∷ l) is = absurd (grind (arith, nat_tests))

    all_gone : (l : List AtlasState) → (length l == 0) ≡ true → (m id : ℕ) → among l m id ≡ None
    all_gone [] is m id = refl
    all_gone (y ∷ l) is m id = absurd (grind (arith, nat_tests))

    stays : ((m id : ℕ) → among (used_pages pages) m id ≡ among pages m id) → (m : ℕ)
        → among (x ∷ used_pages pages) m id ≡ among (x ∷ pages) m id
    stays later zero = refl
    stays later (suc m) = later m id

    goes : ((m id : ℕ) → among (used_pages pages) m id ≡ among pages m id) → is_unused x ≡ true
        → (length (used_pages pages) == 0) ≡ true → (m : ℕ) → None ≡ among (x ∷ pages) m id
    goes later none_here none_behind zero = sym (none-allocated x id (no_allocation (allocations x) none_here))
    goes later none_here none_behind (suc m) = sym (all_gone (used_pages pages) none_behind m id) ∙ later m id

    by_tests : ((m id : ℕ) → among (used_pages pages) m id ≡ among pages m id) → (a : Bool) → is_unused x ≡ a
        → (b : Bool) → (length (used_pages pages) == 0) ≡ b → (m : ℕ)
        → among (cond (a && b) [] (x ∷ used_pages pages)) m id ≡ among (x ∷ pages) m id
    by_tests later true here true behind m = goes later here behind m
    by_tests later true here false behind m = stays later m
    by_tests later false here b behind m = stays later m

-- a place that was given is told beside what was there
pub told-placed : (old : PagesState) (size : Size) (paged : PagedAllocation) (new : PagesState) (told : Told)
    → KeepsPagesPromises old → KeepsPagesPromises new → Places old size paged new
    → ((page id : ℕ) → told page id ≡ rectangle_on old page id)
    → (page id : ℕ) → with_paged paged told page id ≡ rectangle_on new page id
told-placed old size paged new told was is places tells page id =
    let allocates = places.allocates in
    let before = kept-before old new size paged was is places.options allocates in
    let given = paged.allocation in
    let rest : told page id ≡ among (ready_for old size).pages page id = tells page id ∙ sym (among-ready old size page id) in
    ap (cond (are paged.page given.id page id) (Some given.rectangle)) rest
    ∙ sym (among-set (ready_for old size).pages paged.page allocates.before allocates.after given.id (Some given.rectangle) allocates.is_open
    (seen-allocated allocates.before size given allocates.after before allocates.allocates) page id)
    ∙ sym (ap (λ (l : List AtlasState). among l page id) allocates.others)

-- a step changes what is on pages as its reply tells
pub told-step : (old : PagesState) (command : PageCommand) (reply : PageReply) (new : PagesState) (told : Told)
    → KeepsPagesPromises old → KeepsPagesPromises new → PageStep old command reply new
    → ((page id : ℕ) → told page id ≡ rectangle_on old page id)
    → (page id : ℕ) → told_after command reply told page id ≡ rectangle_on new page id
told-step old (Allocate size) (Placed paged) new told was is (places, large) tells page id =
    told-placed old size paged new told was is places tells page id
told-step old (Allocate size) Refused new told was is (refused, same) tells page id =
    tells page id ∙ sym (ap (λ (s : PagesState). rectangle_on s page id) same)
told-step old (Allocate size) NoMemory new told was is (needs, same) tells page id =
    tells page id ∙ sym (ap (λ (s : PagesState). rectangle_on s page id) same)
told-step old (Deallocate on gone) Returned new told was is (there, after) tells page id =
    ap (cond (are on gone page id) None) (tells page id)
    ∙ sym (among-at_page old.pages on gone (Each-weaken (IsPage old.options) KeepsPromises old.pages (λ atlas it. it.promises) was.pages) page id)
    ∙ sym (ap (λ (s : PagesState). rectangle_on s page id) after)
told-step old (Deallocate on gone) Unknown new told was is (nothing_there, same) tells page id =
    tells page id ∙ sym (ap (λ (s : PagesState). rectangle_on s page id) same)
told-step old Clear Cleared new told was is after tells page id =
    sym (among-cleared old.pages page id) ∙ sym (ap (λ (s : PagesState). rectangle_on s page id) after)
told-step old (Grow most) Grown new told was is (more, after) tells page id =
    tells page id ∙ sym (ap (λ (s : PagesState). rectangle_on s page id) after)
told-step old (Grow most) Fewer new told was is (fewer, same) tells page id =
    tells page id ∙ sym (ap (λ (s : PagesState). rectangle_on s page id) same)
told-step old Shrink (Closed count) new told was is (after, counted) tells page id =
    tells page id ∙ sym (among-used old.pages page id) ∙ sym (ap (λ (s : PagesState). rectangle_on s page id) after)
told-step old command reply new told was is never tells page id = absurd never

-- options with another most
abbrev of_most : PageOptions → ℕ → PageOptions
of_most options most = record options { most_pages = most }

-- options that stay are the same but for the most, which stays too
options_stay : (old new : PagesState) → new.options ≡ old.options → new.options ≡ record old.options { most_pages = new.options.most_pages }
options_stay old new same = same ∙ ap (of_most old.options) (sym (ap (λ (o : PageOptions). o.most_pages) same))

as_before : (old new : PagesState) → new ≡ old → new.options ≡ record old.options { most_pages = new.options.most_pages }
as_before old new same = options_stay old new (ap (λ (s : PagesState). s.options) same)

-- a step changes of the options only how many pages there may be
pub same-step : (old : PagesState) (command : PageCommand) (reply : PageReply) (new : PagesState) → PageStep old command reply new
    → new.options ≡ record old.options { most_pages = new.options.most_pages }
same-step old (Allocate size) (Placed paged) new (places, large) = options_stay old new places.options
same-step old (Allocate size) Refused new (refused, same) = as_before old new same
same-step old (Allocate size) NoMemory new (needs, same) = as_before old new same
same-step old (Deallocate on gone) Returned new (there, after) = options_stay old new (ap (λ (s : PagesState). s.options) after)
same-step old (Deallocate on gone) Unknown new (nothing_there, same) = as_before old new same
same-step old Clear Cleared new after = options_stay old new (ap (λ (s : PagesState). s.options) after)
same-step old (Grow most) Grown new (more, after) =
    let is : new.options ≡ of_most old.options most = ap (λ (s : PagesState). s.options) after in
    is ∙ ap (of_most old.options) (sym (ap (λ (o : PageOptions). o.most_pages) is))
same-step old (Grow most) Fewer new (fewer, same) = as_before old new same
same-step old Shrink (Closed count) new (after, counted) = options_stay old new (ap (λ (s : PagesState). s.options) after)
same-step old command reply new never = absurd never
