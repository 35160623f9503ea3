-- Laws of runs, proved of all that the model allows: every run keeps its promises, not only those
-- that calls made.
use Rattle.std.specs.Prelude.{◌≡◌, ◌≢◌, ℕ, All, List, [], map}
use Rattle.etagere_base.specs.declared.frames.Frame.{Frame}
use Rattle.run_scripts.specs.declared.commands.Reply.{Reply}
use Rattle.run_scripts.specs.declared.commands.Reply.TheVariants.{At, NoMemory, Placed}
use Rattle.etagere_run.specs.Answers.Runs.{KeepsPromisesIn, Kind, Runs, RunKeepsPromisesThroughout}

-- every run of a new atlas of this frame keeps its promises in the state to which it leads,
-- whichever that is
abbrev pub EveryEndKeepsPromises : {S C : Type 0} → Kind S C → Frame → Type 0
EveryEndKeepsPromises {S} {C} kind frame =
    (commands : List C) (replies : List Reply) (last : S)
    → Runs kind 0 [] (kind.fresh frame) commands replies last
    → KeepsPromisesIn kind frame commands replies last

-- every such run keeps them at each moment
abbrev pub EveryRunKeepsPromises : {S C : Type 0} → Kind S C → Frame → Type 0
EveryRunKeepsPromises {S} {C} kind frame =
    (commands : List C) (replies : List Reply) (last : S)
    → Runs kind 0 [] (kind.fresh frame) commands replies last
    → RunKeepsPromisesThroughout kind frame commands replies

-- a reply but for the number of the id, or the index, that it tells
abbrev pub without_number : Reply → Reply
without_number (Placed allocation) = Placed (record { id = 0; rectangle = allocation.rectangle })
without_number (At rectangle index) = At rectangle 0
without_number reply = reply

-- a new state of this frame may give these replies to the commands, and become this one; memory is
-- refused to none
pub record RunsWithMemory {S C : Type 0} (kind : Kind S C) (frame : Frame) (commands : List C)
    (replies : List Reply) (last : S) : Type 0 where
  pub run : Runs kind 0 [] (kind.fresh frame) commands replies last
  pub memory : All (λ (reply : Reply). reply ≢ NoMemory) replies

-- two such runs of the same commands have the same replies but for the numbers of ids, and end with
-- the same picture
abbrev pub DifferInIds : {S C : Type 0} → Kind S C → (S → List ℕ) → Frame → Type 0
DifferInIds {S} {C} kind picture frame =
    (commands : List C) (replies others : List Reply) (last another : S)
    → RunsWithMemory kind frame commands replies last
    → RunsWithMemory kind frame commands others another
    → (map without_number replies ≡ map without_number others) × (picture last ≡ picture another)
