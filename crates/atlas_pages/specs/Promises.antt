-- What pages keep, whatever was called before.
use Rattle.std.specs.Prelude.{◌≡◌, ◌^◌, ◌<◌, ◌≤◌, length}
use Rattle.std.specs.List.{AllByRecursion}
use Rattle.shelf_model.specs.Atlas.{KeepsPromises}
use Rattle.shelf_model.specs.State.{AtlasState}
use Rattle.atlas_pages.specs.declared.options.PageOptions.{PageOptions}
use Rattle.atlas_pages.specs.Pages.{ArePageOptions, PagesState, page_frame}

-- an open page keeps the promises of an atlas, of which one is that what is allocated lies inside and apart; and it is of
-- the size and division that the options say
pub record IsPage (options : PageOptions) (page : AtlasState) : Type 0 where
  pub promises : KeepsPromises page
  pub frame : page.frame ≡ page_frame options

-- the options have no fault, there are at most as many pages as there may be, which is a number of 32 bits, and each is
-- one of theirs
pub record KeepsPagesPromises (state : PagesState) : Type 0 where
  pub options : ArePageOptions state.options
  pub most : state.options.most_pages < 2 ^ 32
  pub few : length state.pages ≤ state.options.most_pages
  pub pages : AllByRecursion (IsPage state.options) state.pages
