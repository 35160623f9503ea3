-- What pages are saved as, and the rules that a snapshot of pages has to keep.
use Rattle.std.specs.Prelude.{◌≡◌, ◌≢◌, ℕ, ◌<◌, ◌≤◌, Some, List, [], ◌∷◌, length, slice_get}
use Rattle.std.specs.List.{AllByRecursion}
use Rattle.etagere_base.specs.declared.frames.Frame.{Frame}
use Rattle.etagere_base.specs.declared.faults.RestoreFault.{RestoreFault}
use Rattle.etagere_base.specs.declared.faults.RestoreFault.TheVariants as rules
use Rattle.shelf_model.specs.State.{AtlasState}
use Rattle.snapshot_records.specs.declared.shelves.AtlasSnapshot.{AtlasSnapshot}
use Rattle.shelf_records.specs.Snapshots.{IsBroken, snapshot_frame, snapshot_records}
use Rattle.shelf_records.specs.StandsFor.{StandsFor}
use Rattle.atlas_pages.specs.declared.faults.PagesRestoreFault.{PagesRestoreFault}
use Rattle.atlas_pages.specs.declared.faults.PagesRestoreFault.TheVariants.{Options, TooManyPages, Page, OtherFrame, Memory}
use Rattle.atlas_pages.specs.declared.saving.PagesSnapshot.{PagesSnapshot}
use Rattle.atlas_pages.specs.Pages.{ArePageOptions, PagesState, page_frame, pages_fault}

-- snapshots stand for pages, each for the one of its number
abbrev pub EachStandsFor : List AtlasSnapshot → List AtlasState → Type 0
EachStandsFor [] [] = Unit {0}
EachStandsFor (saved ∷ others) (page ∷ pages) =
    StandsFor (snapshot_records saved) page × EachStandsFor others pages
-- there are as many of both
EachStandsFor others pages = ⊥

-- a snapshot of pages stands for them: the options have no fault and are theirs, there are no more pages than there may
-- be, the snapshot of each stands for it, and each is of the options' size and division
pub record PagesStandFor (snapshot : PagesSnapshot) (state : PagesState) : Type 0 where
  pub options : state.options ≡ snapshot.options
  pub accepted : ArePageOptions snapshot.options
  pub few : length snapshot.pages.items ≤ snapshot.options.most_pages
  pub pages : EachStandsFor snapshot.pages.items state.pages
  pub frames : AllByRecursion (λ (page : AtlasState). page.frame ≡ page_frame snapshot.options) state.pages

-- the snapshot of a page breaks the rule of an atlas whose breach is this fault
pub record IsBrokenPage (saved : List AtlasSnapshot) (page : ℕ) (fault : RestoreFault) : Type 0 where
  pub snapshot : AtlasSnapshot
  pub is_saved : slice_get saved page ≡ Some snapshot
  pub broken : IsBroken (snapshot_records snapshot) fault
  pub rule : fault ≢ rules.Memory

-- the snapshot of a page is one of another size or division
pub record HasOtherFrame (frame : Frame) (saved : List AtlasSnapshot) (page : ℕ) : Type 0 where
  pub snapshot : AtlasSnapshot
  pub is_saved : slice_get saved page ≡ Some snapshot
  pub other : snapshot_frame snapshot ≢ frame

-- the rule whose breach is this fault is broken; that memory ran out breaks none
abbrev pub ArePagesBroken : PagesSnapshot → PagesRestoreFault → Type 0
ArePagesBroken snapshot (Options fault) = pages_fault snapshot.options ≡ Some fault
ArePagesBroken snapshot TooManyPages = snapshot.options.most_pages < length snapshot.pages.items
ArePagesBroken snapshot (Page page fault) = IsBrokenPage snapshot.pages.items page fault
ArePagesBroken snapshot (OtherFrame page) = HasOtherFrame (page_frame snapshot.options) snapshot.pages.items page
ArePagesBroken snapshot Memory = Unit {0}

-- a snapshot stands for one state of pages at most, and one that breaks a rule for none
abbrev pub PagesStandForOne : Type 0
PagesStandForOne =
    (snapshot : PagesSnapshot) (state other : PagesState) → PagesStandFor snapshot state
    → PagesStandFor snapshot other → state ≡ other

abbrev pub BrokenPagesStandForNone : Type 0
BrokenPagesStandForNone =
    (snapshot : PagesSnapshot) (state : PagesState) (fault : PagesRestoreFault)
    → ArePagesBroken snapshot fault → PagesStandFor snapshot state → fault ≡ Memory
