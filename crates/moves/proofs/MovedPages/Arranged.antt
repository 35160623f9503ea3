-- Where rectangles asked new pages for places: what moved is all that is allocated there, each as large as before, and
-- what moved and what was refused are together what asked.
use Rattle.std.proofs.Common.{◌≡◌, ℕ, ◌+◌, Option, Some, List, [], ◌∷◌, ◌++◌, refl, ap, sym, ◌∙◌, subst, arith}
use Rattle.std.proofs.lemmas.List.{append_assoc, map-append}
use Rattle.std.specs.List.{AllByRecursion}
use Rattle.std.specs.Prelude.{None, option_and_then, slice_get}
use Rattle.etagere_base.proofs.EachLemmas.{Each-append, Each-back, Each-front, Each-get, Each-weaken}
use Rattle.etagere_base.specs.Frames.{IsFrame, longest_side}
use Rattle.etagere_base.specs.declared.geometry.Size.{Size}
use Rattle.shelf_model.specs.Places.{rectangle_of}
use Rattle.shelf_model.specs.State.{AtlasState}
use Rattle.moves.proofs.MovedAtlases.Asking.{inside-sides}
use Rattle.moves.proofs.MovedAtlases.Laws.{large-room}
use Rattle.moves.specs.Atlases.Order.{size_of}
use Rattle.moves.specs.Atlases.Private.Sides.{HasSides}
use Rattle.atlas_pages.proofs.KeptBefore.{allocated-inside, get-set}
use Rattle.atlas_pages.specs.declared.options.PageOptions.{PageOptions}
use Rattle.atlas_pages.specs.declared.paged_allocation.PagedAllocation.{PagedAllocation}
use Rattle.atlas_pages.specs.Allocated.{Places}
use Rattle.atlas_pages.specs.Choosing.{ready_for}
use Rattle.atlas_pages.specs.Pages.{PagesState, page_frame}
use Rattle.atlas_pages.specs.Promises.{IsPage, KeepsPagesPromises}
use Rattle.moves.proofs.MovedPages.TiedLists.{tied-added, times_on-append}
use Rattle.moves.specs.Pages.Arranging.{Arranges, nothing, moved, refused, HasRoom, moved_from, moved_to}
use Rattle.moves.specs.Pages.Tied.{AreTiedOn, IsFoundOn, times_on}
use Rattle.moves.specs.declared.pages.rearrangement.PageMove.{PageMove}

-- the new pages keep their promises
pub arranges-kept : {start end : PagesState} {asked unplaced : List PagedAllocation} {moves : List PageMove}
    → Arranges start asked moves unplaced end → KeepsPagesPromises start → KeepsPagesPromises end
arranges-kept nothing keeps = keeps
arranges-kept (moved before so_far places large kept) keeps = kept
arranges-kept (refused before so_far refuses) keeps = arranges-kept so_far keeps

-- and their options
pub arranges-options : {start end : PagesState} {asked unplaced : List PagedAllocation} {moves : List PageMove}
    → Arranges start asked moves unplaced end → end.options ≡ start.options
arranges-options nothing = refl
arranges-options (moved before so_far places large kept) = places.options ∙ arranges-options so_far
arranges-options (refused before so_far refuses) = arranges-options so_far

-- what moved is all that is allocated on them
pub arranges-tied : {start end : PagesState} {asked unplaced : List PagedAllocation} {moves : List PageMove}
    → Arranges start asked moves unplaced end → KeepsPagesPromises start → AreTiedOn [] start → AreTiedOn (moved_to moves) end
arranges-tied nothing keeps none = none
arranges-tied (moved {moves = moves} {state = state} {next = next} {after = after} before so_far places large kept) keeps none =
    subst (λ (all : List PagedAllocation). AreTiedOn all next)
    (sym (map-append (λ (move : PageMove). move.after) moves (record { before = before; after = after } ∷ [])))
    (tied-added state next (size_of before.allocation.rectangle) after (arranges-kept so_far keeps) kept places large (moved_to moves)
    (arranges-tied so_far keeps none))
arranges-tied (refused before so_far refuses) keeps none = arranges-tied so_far keeps none

-- pages on which a size was given a place have a frame
placed-frame : (old new : PagesState) (size : Size) (paged : PagedAllocation) → Places old size paged new → KeepsPagesPromises new
    → IsFrame longest_side (page_frame old.options)
placed-frame old new size paged places is =
    let there = places.allocates in
    let at : slice_get new.pages paged.page ≡ Some there.after =
    ap (λ (l : List AtlasState). slice_get l paged.page) there.others
    ∙ get-set (ready_for old size).pages paged.page there.before there.after there.is_open in
    let after = Each-get (IsPage new.options) new.pages paged.page there.after at is.pages in
    subst (λ (o : PageOptions). IsFrame longest_side (page_frame o)) places.options
    (subst (IsFrame longest_side) after.frame after.promises.valid.frame)

-- nothing was cut
pub arranges-room : {start end : PagesState} {asked unplaced : List PagedAllocation} {moves : List PageMove}
    → Arranges start asked moves unplaced end → AllByRecursion HasRoom moves
arranges-room nothing = tt
arranges-room (moved {moves = moves} {state = state} {next = next} {after = after} before so_far places large kept) =
    Each-append HasRoom moves (record { before = before; after = after } ∷ []) (arranges-room so_far) (
      large-room (page_frame state.options) after.allocation.rectangle before.allocation.rectangle
          (placed-frame state next (size_of before.allocation.rectangle) after places kept) large,
      tt,
    )
arranges-room (refused before so_far refuses) = arranges-room so_far

-- what asked is what moved and what was refused
arranges-each : {start end : PagesState} {asked unplaced : List PagedAllocation} {moves : List PageMove} (P : PagedAllocation → Type 0)
    → Arranges start asked moves unplaced end → AllByRecursion P asked → AllByRecursion P (moved_from moves ++ unplaced)
arranges-each P nothing each = tt
arranges-each P (moved {asked = asked} {moves = moves} {unplaced = unplaced} {after = after} before so_far places large kept) each =
    let rest = arranges-each P so_far (Each-front P asked (before ∷ []) each) in
    let here = (Each-back P asked (before ∷ []) each).0 in
    subst (λ (l : List PagedAllocation). AllByRecursion P (l ++ unplaced))
    (sym (map-append (λ (move : PageMove). move.before) moves (record { before = before; after = after } ∷ [])))
    (Each-append P (moved_from moves ++ before ∷ []) unplaced
    (Each-append P (moved_from moves) (before ∷ []) (Each-front P (moved_from moves) unplaced rest) (here, tt))
    (Each-back P (moved_from moves) unplaced rest))
arranges-each P (refused {asked = asked} {moves = moves} {unplaced = unplaced} before so_far refuses) each =
    let rest = arranges-each P so_far (Each-front P asked (before ∷ []) each) in
    let here = (Each-back P asked (before ∷ []) each).0 in
    subst (AllByRecursion P) (append_assoc (moved_from moves) unplaced (before ∷ []))
    (Each-append P (moved_from moves ++ unplaced) (before ∷ []) rest (here, tt))

arranges-counted : {start end : PagesState} {asked unplaced : List PagedAllocation} {moves : List PageMove} (page id : ℕ)
    → Arranges start asked moves unplaced end → times_on page id (moved_from moves ++ unplaced) ≡ times_on page id asked
arranges-counted page id nothing = refl
arranges-counted page id (moved {asked = asked} {moves = moves} {unplaced = unplaced} {after = after} before so_far places large kept) =
    let longer = map-append (λ (move : PageMove). move.before) moves (record { before = before; after = after } ∷ []) in
    omega (
      arith,
      arranges-counted page id so_far,
      times_on-append page id asked (before ∷ []),
      times_on-append page id (moved_from moves) unplaced,
      times_on-append page id (moved_from moves ++ before ∷ []) unplaced,
      times_on-append page id (moved_from moves) (before ∷ []),
      ap (λ l. times_on page id (l ++ unplaced)) longer,
    )
arranges-counted page id (refused {asked = asked} {moves = moves} {unplaced = unplaced} before so_far refuses) =
    omega (
      arith,
      arranges-counted page id so_far,
      times_on-append page id asked (before ∷ []),
      times_on-append page id (moved_from moves ++ unplaced) (before ∷ []),
      ap (λ l. times_on page id l) (append_assoc (moved_from moves) unplaced (before ∷ [])),
    )

-- so where what asked is all that was allocated, what moved and what was refused are that too
pub arranges-once : {start end : PagesState} {asked unplaced : List PagedAllocation} {moves : List PageMove} (old : PagesState)
    → Arranges start asked moves unplaced end → AreTiedOn asked old → AreTiedOn (moved_from moves ++ unplaced) old
arranges-once old arranges tied =
    record {
      found = arranges-each (IsFoundOn old) arranges tied.found;
      counted = λ page id. arranges-counted page id arranges ∙ tied.counted page id;
    }

-- what is found on pages has sides that can be told
pub found-sides : (state : PagesState) → KeepsPagesPromises state → (paged : PagedAllocation) → IsFoundOn state paged → HasSides paged.allocation
found-sides state keeps paged found =
    inside-sides (page_frame state.options) (by_page (slice_get state.pages paged.page) refl found) paged.allocation
    (allocated-inside state paged.page paged.allocation.id paged.allocation.rectangle keeps found)
  where
    by_page : (o : Option AtlasState) → slice_get state.pages paged.page ≡ o
        → option_and_then (λ (atlas : AtlasState). rectangle_of atlas paged.allocation.id) o ≡ Some paged.allocation.rectangle
        → IsFrame longest_side (page_frame state.options)
    by_page None at none = absurd (cc)
    by_page (Some atlas) at some =
        let page = Each-get (IsPage state.options) state.pages paged.page atlas at keeps.pages in
        subst (IsFrame longest_side) page.frame page.promises.valid.frame

pub tied-sides : (state : PagesState) (listed : List PagedAllocation) → KeepsPagesPromises state → AreTiedOn listed state
    → AllByRecursion (λ (paged : PagedAllocation). HasSides paged.allocation) listed
tied-sides state listed keeps tied =
    Each-weaken (IsFoundOn state) (λ (paged : PagedAllocation). HasSides paged.allocation) listed (found-sides state keeps) tied.found
