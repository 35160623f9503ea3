-- What an answer says of a saved atlas, and of the text that spells it.
use Rattle.std.specs.Prelude.{◌≡◌, ℕ, ◌≤◌, List}
use Rattle.etagere_base.specs.declared.faults.RestoreFault.{RestoreFault}
use Rattle.etagere_base.specs.RestoreFaults.{restore_fault_number}
use Rattle.bucketed_records.specs.Restoring as buckets
use Rattle.bucketed_records.specs.StandsFor as bucket_rules
use Rattle.bucketed_model.specs.State.{BucketedState}
use Rattle.bucketed_model.specs.Svg as bucket_pictures
use Rattle.shelf_records.specs.Snapshots as shelves
use Rattle.shelf_records.specs.StandsFor as shelf_rules
use Rattle.shelf_model.specs.State.{AtlasState}
use Rattle.shelf_model.specs.Svg as shelf_pictures
use Rattle.run_scripts.specs.declared.faults.Checked.{Checked}
use Rattle.run_scripts.specs.declared.faults.Checked.TheVariants.{Fine, Broken, Unreadable}
use Rattle.saved_json.specs.declared.saved.Saved.{Saved}
use Rattle.saved_json.specs.declared.saved.Saved.TheVariants.{Atlas, Bucketed}
use Rattle.saved_json.specs.Snapshots.{Spells}

-- a snapshot stands for a state
abbrev pub StandsForOne : Saved → Type 0
StandsForOne (Atlas snapshot) =
    (atlas : AtlasState) × shelf_rules.StandsFor (shelves.snapshot_records snapshot) atlas
StandsForOne (Bucketed snapshot) =
    (atlas : BucketedState) × bucket_rules.StandsFor (buckets.snapshot_records snapshot) atlas

-- the text is the picture of a state for which a snapshot stands
abbrev pub ShowsSaved : Saved → List ℕ → Type 0
ShowsSaved (Atlas snapshot) text =
    (atlas : AtlasState) × shelf_rules.StandsFor (shelves.snapshot_records snapshot) atlas
    × (text ≡ shelf_pictures.svg atlas)
ShowsSaved (Bucketed snapshot) text =
    (atlas : BucketedState) × bucket_rules.StandsFor (buckets.snapshot_records snapshot) atlas
    × (text ≡ bucket_pictures.svg atlas)

-- the rule that a fault names is broken, or memory was wanting
abbrev pub Breaks : Saved → RestoreFault → Type 0
Breaks (Atlas snapshot) fault = shelves.IsBroken (shelves.snapshot_records snapshot) fault
Breaks (Bucketed snapshot) fault = buckets.Breaks (buckets.snapshot_records snapshot) fault

-- the number is that of a broken rule; rules are numbered from 1 to 10, and memory is none
pub record IsBrokenRule (saved : Saved) (number : ℕ) : Type 0 where
  pub fault : RestoreFault
  pub broken : Breaks saved fault
  pub number_is : number ≡ restore_fault_number fault
  pub first : 1 ≤ number
  pub last : number ≤ 10

-- an answer is right of a snapshot that was read
abbrev pub IsRightOf : Checked → Saved → Type 0
IsRightOf Fine saved = StandsForOne saved
IsRightOf (Broken number) saved = IsBrokenRule saved number
IsRightOf Unreadable saved = ⊥

-- an input may be answered so: where it isn't called unreadable, the answer is right of the saved atlas that it spells
abbrev pub MayAnswer : Checked → List ℕ → Type 0
MayAnswer Unreadable input = Unit {0}
MayAnswer checked input = (saved : Saved) × Spells input saved × IsRightOf checked saved
