-- What is so once all has asked: each clause of the call.
use Rattle.std.proofs.Common.{◌≡◌, List, [], ◌++◌, refl, ap, sym, ◌∙◌, subst}
use Rattle.std.specs.List.{AllByRecursion}
use Rattle.std.specs.List.Sorted.{IsPermutation}
use Rattle.atlas_pages.specs.declared.options.PageOptions.{PageOptions}
use Rattle.atlas_pages.specs.declared.paged_allocation.PagedAllocation.{PagedAllocation}
use Rattle.atlas_pages.specs.Listing.{listed_allocations}
use Rattle.atlas_pages.specs.Pages.{PagesState, no_pages}
use Rattle.atlas_pages.specs.Promises.{KeepsPagesPromises}
use Rattle.moves.proofs.MovedPages.Arranged.{arranges-kept, arranges-once, arranges-options, arranges-room, arranges-tied}
use Rattle.moves.proofs.MovedPages.TiedLists.{tied-listed, tied-permuted}
use Rattle.moves.specs.Pages.Arranging.{Arranges, HasRoom, IsRearranged, moved_from, moved_to}
use Rattle.moves.specs.Pages.Order.{AreTallestFirst}
use Rattle.moves.specs.Pages.Tied.{AreTiedOn}
use Rattle.moves.specs.declared.pages.rearrangement.PageMove.{PageMove}

-- the clauses
pub record IsDone (old : PagesState) (moves : List PageMove) (unplaced : List PagedAllocation) (new : PagesState) : Type 0 where
  pub rearranged : IsRearranged old moves unplaced new
  pub each : AreTiedOn (moved_from moves ++ unplaced) old
  pub whole : AreTiedOn (moved_to moves) new
  pub room : AllByRecursion HasRoom moves
  pub options : new.options ≡ old.options
  pub kept : KeepsPagesPromises new

-- nothing is allocated where no page is open
none-tied : (options : PageOptions) → AreTiedOn [] (no_pages options)
none-tied options = record { found = tt; counted = λ page id. refl }

-- they hold where what pages list, in order, has asked new ones
pub arranged-done : (old start new : PagesState) (listed asked unplaced : List PagedAllocation) (moves : List PageMove)
    → KeepsPagesPromises old → start ≡ no_pages old.options → KeepsPagesPromises start
    → listed ≡ listed_allocations old → IsPermutation listed asked → AreTallestFirst old.options.atlas.vertical_shelves asked
    → Arranges start asked moves unplaced new → IsDone old moves unplaced new
arranged-done old start new listed asked unplaced moves old_kept made start_kept is permuted ordered arranged =
    let all = tied-permuted listed asked old (subst (λ (l : List PagedAllocation). AreTiedOn l old) (sym is) (tied-listed old old_kept)) permuted in
    record {
      rearranged = record {
        asked = asked;
        each = all;
        ordered = ordered;
        arranged = subst (λ (state : PagesState). Arranges state asked moves unplaced new) made arranged;
      };
      each = arranges-once old arranged all;
      whole = arranges-tied arranged start_kept (subst (AreTiedOn []) (sym made) (none-tied old.options));
      room = arranges-room arranged;
      options = arranges-options arranged ∙ ap (λ (state : PagesState). state.options) made;
      kept = arranges-kept arranged start_kept;
    }
