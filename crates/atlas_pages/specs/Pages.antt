-- The model of several atlases of one size, as callers see it: their options, and the state of each that is open.
use Rattle.std.specs.Prelude.{◌≡◌, ℕ, Option, None, Some, List, [], ◌==◌, if◌then◌else◌}
use Rattle.etagere_base.specs.declared.faults.OptionsFault.{OptionsFault}
use Rattle.etagere_base.specs.declared.frames.Frame.{Frame}
use Rattle.etagere_base.specs.Frames.{atlas_frame, longest_side, options_fault}
use Rattle.shelf_model.specs.Fresh.{fresh}
use Rattle.shelf_model.specs.State.{AtlasState}
use Rattle.atlas_pages.specs.declared.faults.PagesFault.{PagesFault}
use Rattle.atlas_pages.specs.declared.faults.PagesFault.TheVariants.{Options, NoPages}
use Rattle.atlas_pages.specs.declared.options.PageOptions.{PageOptions}

-- several atlases: their options, and the pages that are open, each an atlas, by their numbers
pub record PagesState : Type 0 where
  pub options : PageOptions
  pub pages : List AtlasState

-- the frame of each page
abbrev pub page_frame : PageOptions → Frame
page_frame options = atlas_frame options.size options.atlas

-- a page with nothing on it
abbrev pub empty_page : PageOptions → AtlasState
empty_page options = fresh (page_frame options)

-- new ones: no page is open
abbrev pub no_pages : PageOptions → PagesState
no_pages options = record { options = options; pages = [] }

-- the fault of an atlas, or where there is none, that there may be no page
abbrev pub or_no_pages : ℕ → Option OptionsFault → Option PagesFault
or_no_pages most (Some fault) = Some (Options fault)
or_no_pages most None = if most == 0 then Some NoPages else None

-- the first fault of options: one of an atlas, or that there may be no page
abbrev pub pages_fault : PageOptions → Option PagesFault
pages_fault options = or_no_pages options.most_pages (options_fault longest_side options.size options.atlas)

-- the options make pages
abbrev pub ArePageOptions : PageOptions → Type 0
ArePageOptions options = pages_fault options ≡ None
