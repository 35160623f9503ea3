-- What the fields of pages keep, and what callers see of them.
use Rattle.atlas_pages.specs.declared.pages.AtlasPages.TheInside.{Inside}
use Rattle.atlas_pages.specs.Pages.{PagesState}
use Rattle.atlas_pages.specs.Promises.{KeepsPagesPromises}

-- the options, and the open pages
abbrev pub state_in : Inside → PagesState
state_in fields = record { options = fields.options; pages = fields.pages.items }

-- they keep the promises
abbrev pub IsKept : Inside → Type 0
IsKept fields = KeepsPagesPromises (state_in fields)
