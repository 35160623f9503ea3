-- Why the snapshot of a page is not restored.
use Rattle.std.specs.Prelude.{◌≡◌, ◌≢◌, ℕ}
use Rattle.etagere_base.specs.declared.faults.RestoreFault.{RestoreFault}
use Rattle.etagere_base.specs.declared.faults.RestoreFault.TheVariants as rules
use Rattle.etagere_base.specs.declared.frames.Frame.{Frame}
use Rattle.snapshot_records.specs.declared.shelves.AtlasSnapshot.{AtlasSnapshot}
use Rattle.shelf_records.specs.Snapshots.{IsBroken, snapshot_frame, snapshot_records}
use Rattle.atlas_pages.specs.declared.faults.PagesRestoreFault.{PagesRestoreFault}
use Rattle.atlas_pages.specs.declared.faults.PagesRestoreFault.TheVariants.{Page, OtherFrame, Memory}

-- the fault of a page of a number, whose snapshot breaks a rule
abbrev pub page_fault : ℕ → RestoreFault → PagesRestoreFault
page_fault number rules.Memory = Memory
page_fault number fault = Page number fault

-- the snapshot of a page of this number and frame is refused for this fault
abbrev pub IsRefusedAt : Frame → ℕ → AtlasSnapshot → PagesRestoreFault → Type 0
IsRefusedAt frame number saved (Page page fault) =
    (page ≡ number) × IsBroken (snapshot_records saved) fault × (fault ≢ rules.Memory)
IsRefusedAt frame number saved (OtherFrame page) = (page ≡ number) × (snapshot_frame saved ≢ frame)
IsRefusedAt frame number saved Memory = Unit {0}
-- no other fault is one of a page
IsRefusedAt frame number saved fault = ⊥
