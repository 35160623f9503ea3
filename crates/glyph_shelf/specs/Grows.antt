-- Why an atlas doesn't grow.
use Rattle.std.specs.Prelude.{◌≡◌, ◌≤◌, ◌⊎◌, None, Some}
use Rattle.etagere_base.specs.declared.geometry.Size.{Size}
use Rattle.shelf_model.specs.Growing.{grow_fault, records_needed}
use Rattle.shelf_model.specs.State.{AtlasState}
use Rattle.shelf_model.specs.declared.faults.AtlasGrowFault.{AtlasGrowFault}
use Rattle.shelf_model.specs.declared.faults.AtlasGrowFault.TheVariants as grow_faults

-- the size has this fault, or it has none, and records for it found no memory
abbrev pub IsNotGrown : AtlasState → Size → AtlasGrowFault → Type 0
IsNotGrown atlas size fault =
    (grow_fault atlas size ≡ Some fault)
    ⊎ ((grow_fault atlas size ≡ None) × (fault ≡ grow_faults.Memory) × (1 ≤ records_needed atlas size))
