-- What the fields of pages with a padding keep, and what callers see of them.
use Rattle.padding.specs.declared.pages.padded_pages.PaddedPages.TheInside.{Inside}
use Rattle.padding.specs.Pages.Padded.{KeepsPadding, PaddedState}

-- the padding, and the pages
abbrev pub padded_in : Inside → PaddedState
padded_in fields = record { padding = fields.padding; pages = fields.pages }

-- they keep the promises
abbrev pub IsKeptPadded : Inside → Type 0
IsKeptPadded fields = KeepsPadding (padded_in fields)
