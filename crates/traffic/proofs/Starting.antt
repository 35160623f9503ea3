-- A run that goes on from a new atlas is one of that atlas.
use Rattle.std.proofs.Common.{◌≡◌, ℕ, Option, List, [], length, subst, sym}
use Rattle.etagere_base.specs.declared.frames.Frame.{Frame}
use Rattle.etagere_base.specs.declared.ids.Allocation.{Allocation}
use Rattle.shelf_model.specs.State.{AtlasState}
use Rattle.run_scripts.specs.declared.commands.AtlasCommand.{AtlasCommand}
use Rattle.run_scripts.specs.declared.commands.Reply.{Reply}
use Rattle.etagere_run.specs.Answers.AtlasRuns.{shelf_atlas}
use Rattle.etagere_run.specs.Answers.Live.{Entry, live_from}
use Rattle.etagere_run.specs.Answers.Runs.{Kind, Runs, effects, live_in}
use Rattle.traffic.specs.declared.going_on.Finding.{Finding}
use Rattle.traffic.specs.declared.going_on.Refused.{Refused}
use Rattle.traffic.specs.GoingOn.{GoesOn}
use Rattle.traffic.specs.Ledgers.{entries_from}
use Rattle.traffic.proofs.Going.{through-runs}

module _ {S C : Type 0} (kind : Kind S C) (told : S → C → Reply → Option Refused) where
  -- with an empty ledger, from a new state
  pub starting : (frame : Frame) (position : ℕ) (entries : List Entry) (old : S) (commands : List C) (replies : List Reply)
      (findings : List Finding) (new : S)
      → position ≡ 0 → entries ≡ [] → old ≡ kind.fresh frame
      → GoesOn kind told position entries old commands replies findings new
      → GoesOn kind told 0 [] (kind.fresh frame) commands replies findings new
  starting frame position entries old commands replies findings new at empty is goes =
      subst (λ (s : S). GoesOn kind told 0 [] s commands replies findings new) is
      (subst (λ (l : List Entry). GoesOn kind told 0 l old commands replies findings new) empty
      (subst (λ (n : ℕ). GoesOn kind told n entries old commands replies findings new) at goes))

  -- what goes on is a run
  pub going-runs : (position : ℕ) (entries : List Entry) (old : S) (commands : List C) (replies : List Reply)
      (findings : List Finding) (new : S)
      → GoesOn kind told position entries old commands replies findings new
      → Runs kind position entries old commands replies new
  going-runs position entries old commands replies findings new goes =
      subst (λ (s : S). Runs kind position entries old commands replies s) (sym goes.last)
      (through-runs kind position entries old commands replies goes.states goes.through)

-- what is live in a ledger that was empty
pub starting-live : {S C : Type 0} (kind : Kind S C) (position : ℕ) (entries later : List Entry) (commands : List C) (replies : List Reply)
    → position ≡ 0 → entries ≡ [] → later ≡ live_from position entries (effects kind commands replies)
    → later ≡ live_in kind commands replies
starting-live kind position entries later commands replies at empty is =
    subst (λ (l : List Entry). later ≡ live_from 0 l (effects kind commands replies)) empty
    (subst (λ (n : ℕ). later ≡ live_from n entries (effects kind commands replies)) at is)

-- what goes on from a ledger of what is live is a run
pub going-from : (told : AtlasState → AtlasCommand → Reply → Option Refused) (live : List Allocation) (position : ℕ)
    (entries : List Entry) (old : AtlasState) (commands : List AtlasCommand) (replies : List Reply) (findings : List Finding)
    (new : AtlasState)
    → position ≡ length live → entries ≡ entries_from 0 live
    → GoesOn shelf_atlas told position entries old commands replies findings new
    → Runs shelf_atlas (length live) (entries_from 0 live) old commands replies new
going-from told live position entries old commands replies findings new at are goes =
    subst (λ (n : ℕ). Runs shelf_atlas n (entries_from 0 live) old commands replies new) at
    (subst (λ (l : List Entry). Runs shelf_atlas position l old commands replies new) are
    (going-runs shelf_atlas told position entries old commands replies findings new goes))
