-- A step on pages with a padding changes what is there just as its reply tells, and a run keeps the promises at each
-- moment.
use Rattle.std.proofs.Common.{◌≡◌, ℕ, zero, suc, Bool, true, false, cond, ℤ, pos, ◌+ℤ◌, ◌-ℤ◌, Some, None, List, [], ◌∷◌, take, refl, ap, sym, ◌∙◌, arith}
use Rattle.std.proofs.lemmas.Int.{ints}
use Rattle.std.specs.Prelude.{option_map}
use Rattle.etagere_base.specs.declared.geometry.Rectangle.{Rectangle}
use Rattle.padding.specs.declared.sides.Padding.{Padding}
use Rattle.padding.specs.Padding.{padded, trimmed, with_padding}
use Rattle.atlas_pages.specs.declared.paged_allocation.PagedAllocation.{PagedAllocation}
use Rattle.padding.specs.Pages.Padded.{KeepsPadding, PaddedState, padded_paged, trimmed_on}
use Rattle.atlas_pages.specs.Allocated.{rectangle_on}
use Rattle.atlas_pages.specs.Promises.{KeepsPagesPromises}
use Rattle.padding.proofs.PaddedPages.PaddedLemmas.{keeps-padding}
use Rattle.atlas_pages.specs.declared.runs.commands.PageCommand.{PageCommand}
use Rattle.atlas_pages.specs.declared.runs.commands.PageCommand.TheVariants.{Allocate, Deallocate, Clear, Grow, Shrink}
use Rattle.atlas_pages.specs.declared.runs.commands.PageReply.{PageReply}
use Rattle.atlas_pages.specs.declared.runs.commands.PageReply.TheVariants.{Placed, Refused, NoMemory, Returned, Unknown, Cleared, Grown, Fewer, Closed}
use Rattle.padding.specs.Pages.Runs.{EveryRunKeepsPadding, MayAnswer, PaddedRuns, Step}
use Rattle.atlas_pages.specs.Runs.Told.{Told, are, but_for, told_after, told_from, with_paged}
use Rattle.atlas_pages.proofs.PageRuns.StepsTold.{told-placed, told-step}

-- what was given trimmed is trimmed of what has the padding
there-back : (place : ℤ) (pixels : ℕ) → (place -ℤ pos pixels) +ℤ pos pixels ≡ place
there-back place pixels = omega (arith, ints)

back-there : (place : ℤ) (pixels : ℕ) → (place +ℤ pos pixels) -ℤ pos pixels ≡ place
back-there place pixels = omega (arith, ints)

given-back : (padding : Padding) (rectangle : Rectangle) → trimmed padding (with_padding padding rectangle) ≡ rectangle
given-back padding rectangle =
    rw (there-back rectangle.min.x padding.left, there-back rectangle.min.y padding.top, back-there rectangle.max.x padding.right, back-there rectangle.max.y padding.bottom) refl

-- what is there without its padding, where pages have this
abbrev trimmed_told : Padding → Told → Told
trimmed_told padding told page id = option_map (trimmed padding) (told page id)

trimmed-paged : (padding : Padding) (paged : PagedAllocation) (told : Told) (page id : ℕ)
    → trimmed_told padding (with_paged (padded_paged padding paged) told) page id ≡ with_paged paged (trimmed_told padding told) page id
trimmed-paged padding paged told page id = by_test (are paged.page paged.allocation.id page id)
  where
    given : Rectangle
    given = paged.allocation.rectangle

    by_test : (b : Bool) → option_map (trimmed padding) (cond b (Some (with_padding padding given)) (told page id))
        ≡ cond b (Some given) (option_map (trimmed padding) (told page id))
    by_test true = ap (λ (r : Rectangle). Some r) (given-back padding given)
    by_test false = refl

trimmed-except : (padding : Padding) (gone_page gone_id : ℕ) (told : Told) (page id : ℕ)
    → trimmed_told padding (but_for gone_page gone_id told) page id ≡ but_for gone_page gone_id (trimmed_told padding told) page id
trimmed-except padding gone_page gone_id told page id = by_test (are gone_page gone_id page id)
  where
    by_test : (b : Bool) → option_map (trimmed padding) (cond b None (told page id)) ≡ cond b None (option_map (trimmed padding) (told page id))
    by_test true = refl
    by_test false = refl

-- a step leaves the padding as it was
padding-step : (old : PaddedState) (command : PageCommand) (reply : PageReply) (new : PaddedState) → MayAnswer old command reply new → new.padding ≡ old.padding
padding-step old (Allocate size) (Placed paged) new (places, large) = places.padding
padding-step old (Allocate size) Refused new (refused, same) = ap (λ (s : PaddedState). s.padding) same
padding-step old (Allocate size) NoMemory new (needs, same) = ap (λ (s : PaddedState). s.padding) same
padding-step old (Deallocate page id) reply new (step, same) = same
padding-step old Clear reply new (step, same) = same
padding-step old (Grow most) reply new (step, same) = same
padding-step old Shrink reply new (step, same) = same
padding-step old command reply new (step, same) = same

-- what is there after one, from what is on the pages
seen-step : (old : PaddedState) (command : PageCommand) (reply : PageReply) (new : PaddedState) → KeepsPagesPromises old.pages
    → KeepsPagesPromises new.pages → MayAnswer old command reply new → (page id : ℕ)
    → told_after command reply (trimmed_on old) page id ≡ trimmed_told old.padding (rectangle_on new.pages) page id
seen-step old (Allocate size) (Placed paged) new was is (places, large) page id =
    sym (trimmed-paged old.padding paged (rectangle_on old.pages) page id)
    ∙ ap (option_map (trimmed old.padding))
    (told-placed old.pages (padded old.padding size) (padded_paged old.padding paged) new.pages (rectangle_on old.pages) was is places.places (λ p i. refl) page id)
seen-step old (Allocate size) Refused new was is (refused, same) page id =
    ap (λ (s : PaddedState). trimmed_told old.padding (rectangle_on s.pages) page id) (sym same)
seen-step old (Allocate size) NoMemory new was is (needs, same) page id =
    ap (λ (s : PaddedState). trimmed_told old.padding (rectangle_on s.pages) page id) (sym same)
seen-step old (Deallocate on gone) Returned new was is (step, same) page id =
    sym (trimmed-except old.padding on gone (rectangle_on old.pages) page id)
    ∙ ap (option_map (trimmed old.padding))
    (told-step old.pages (Deallocate on gone) Returned new.pages (rectangle_on old.pages) was is step (λ p i. refl) page id)
seen-step old (Deallocate on gone) Unknown new was is (step, same) page id =
    ap (option_map (trimmed old.padding))
    (told-step old.pages (Deallocate on gone) Unknown new.pages (rectangle_on old.pages) was is step (λ p i. refl) page id)
seen-step old Clear Cleared new was is (step, same) page id =
    ap (option_map (trimmed old.padding)) (told-step old.pages Clear Cleared new.pages (rectangle_on old.pages) was is step (λ p i. refl) page id)
seen-step old (Grow most) Grown new was is (step, same) page id =
    ap (option_map (trimmed old.padding)) (told-step old.pages (Grow most) Grown new.pages (rectangle_on old.pages) was is step (λ p i. refl) page id)
seen-step old (Grow most) Fewer new was is (step, same) page id =
    ap (option_map (trimmed old.padding)) (told-step old.pages (Grow most) Fewer new.pages (rectangle_on old.pages) was is step (λ p i. refl) page id)
seen-step old Shrink (Closed count) new was is (step, same) page id =
    ap (option_map (trimmed old.padding)) (told-step old.pages Shrink (Closed count) new.pages (rectangle_on old.pages) was is step (λ p i. refl) page id)
seen-step old command reply new was is (never, same) page id = absurd never

-- what is told of the same is the same
told-same : (command : PageCommand) (reply : PageReply) (told other : Told) → ((page id : ℕ) → told page id ≡ other page id) → (page id : ℕ)
    → told_after command reply told page id ≡ told_after command reply other page id
told-same command (Placed paged) told other same page id = ap (cond (are paged.page paged.allocation.id page id) (Some paged.allocation.rectangle)) (same page id)
told-same (Deallocate on gone) Returned told other same page id = ap (cond (are on gone page id) None) (same page id)
told-same command Cleared told other same page id = refl
told-same command reply told other same page id = same page id

padded-step : (old : PaddedState) (command : PageCommand) (reply : PageReply) (new : PaddedState) (told : Told) → KeepsPadding old
    → Step old command reply new → ((page id : ℕ) → told page id ≡ trimmed_on old page id)
    → (page id : ℕ) → told_after command reply told page id ≡ trimmed_on new page id
padded-step old command reply new told was step tells page id =
    told-same command reply told (trimmed_on old) tells page id
    ∙ seen-step old command reply new was.pages step.pages step.answers page id
    ∙ ap (λ (p : Padding). trimmed_told p (rectangle_on new.pages) page id) (sym (padding-step old command reply new step.answers))

-- what holds after commands, from what was told before
record Holds (start : PaddedState) (told : Told) (commands : List PageCommand) (replies : List PageReply) : Type 0 where
  pub state : PaddedState
  pub run : PaddedRuns start commands replies state
  pub told_is : (page id : ℕ) → told_from told commands replies page id ≡ trimmed_on state page id
  pub promises : KeepsPadding state
  pub padding : state.padding ≡ start.padding

holds-throughout : (start : PaddedState) (told : Told) (commands : List PageCommand) (replies : List PageReply) (last : PaddedState) (n : ℕ)
    → ((page id : ℕ) → told page id ≡ trimmed_on start page id) → KeepsPadding start → PaddedRuns start commands replies last
    → Holds start told (take n commands) (take n replies)
holds-throughout start told commands replies last zero is promises run =
    record { state = start; run = refl; told_is = is; promises = promises; padding = refl }
holds-throughout start told [] [] last (suc n) is promises run =
    record { state = start; run = refl; told_is = is; promises = promises; padding = refl }
holds-throughout start told [] (r ∷ replies) last (suc n) is promises run = absurd run
holds-throughout start told (c ∷ commands) [] last (suc n) is promises run = absurd run
holds-throughout start told (c ∷ commands) (r ∷ replies) last (suc n) is promises (middle, step, rest) =
    let now = padded-step start c r middle told promises step is in
    let later = holds-throughout middle (told_after c r told) commands replies last n now (keeps-padding middle.padding middle.pages step.pages) rest in
    record {
      state = later.state;
      run = (middle, step, later.run);
      told_is = later.told_is;
      promises = later.promises;
      padding = later.padding ∙ padding-step start c r middle step.answers;
    }

pub every_run : EveryRunKeepsPadding
every_run start last commands replies promises run n within =
    let holds = holds-throughout start (trimmed_on start) commands replies last n (λ page id. refl) promises run in
    record { state = holds.state; run = holds.run; told_is = holds.told_is; promises = holds.promises; padding = holds.padding }
