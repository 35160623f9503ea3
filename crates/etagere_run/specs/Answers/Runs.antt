-- Runs of whatever kind: steps one after another, each a command and its reply, and what holds of
-- what is live.
use Rattle.std.specs.Prelude.{◌≡◌, ℕ, ◌+◌, ◌≤◌, Option, None, Some, MatchOption, ⊤, List, [], ◌∷◌, length, map, take, slice_get}
use Rattle.std.specs.List.{AllByRecursion, last_or}
use Rattle.etagere_base.specs.declared.faults.OptionsFault.TheVariants as faults
use Rattle.etagere_base.specs.declared.frames.Frame.{Frame}
use Rattle.etagere_base.specs.declared.geometry.Size.{Size}
use Rattle.etagere_base.specs.declared.ids.Allocation.{Allocation}
use Rattle.etagere_base.specs.declared.options.AllocatorOptions.{AllocatorOptions}
use Rattle.etagere_base.specs.Frames.{options_fault}
use Rattle.etagere_base.specs.Lists.{times}
use Rattle.etagere_base.specs.Rectangles.{AreApart, IsInside, IsLarge}
use Rattle.run_scripts.specs.declared.commands.Reply.{Reply}
use Rattle.run_scripts.specs.declared.commands.Reply.TheVariants.{Placed}
use Rattle.run_scripts.specs.declared.faults.RunFault.{RunFault}
use Rattle.run_scripts.specs.declared.faults.RunFault.TheVariants as run_faults
use Rattle.etagere_run.specs.Answers.Live.{Effect, Entry, allocation_at, live, live_after, live_allocations, peak}

-- what tells one kind of run from another
pub record Kind (State Command : Type 0) : Type 1 where
  -- the new state of a frame, and the present frame of a state
  pub fresh : Frame → State
  pub frame : State → Frame
  -- the command that asks for a size
  pub allocate : Size → Command
  -- what a command and its reply do to what is live
  pub effect : Command → Reply → Effect
  -- where these entries are live, a state may give this reply to a command and become the new one
  pub Step : List Entry → State → Command → Reply → State → Type 0
  -- what a state promises of what is live in it
  pub LiveKeepsPromises : State → List Allocation → Type 0
  -- how much a state may need where so many at most were live at once since the start or since all
  -- was last taken out: of what is live, and of the last reply
  pub StaysWithin : ℕ → State → List Allocation → Option Reply → Type 0

-- an allocation that is live goes back to the atlas
pub record GivesBack {S : Type 0} (returned : S → ℕ → S) (entries : List Entry) (old : S)
    (position : ℕ) (new : S) : Type 0 where
  pub allocation : Allocation
  pub live_is : allocation_at position entries ≡ Some allocation
  pub after : new ≡ returned old allocation.id

-- what commands and their replies do to what is live, one after another
abbrev pub effects : {S C : Type 0} → Kind S C → List C → List Reply → List Effect
effects kind (command ∷ commands) (reply ∷ replies) =
    kind.effect command reply ∷ effects kind commands replies
effects kind commands replies = []

-- what is live after commands and their replies
abbrev pub live_in : {S C : Type 0} → Kind S C → List C → List Reply → List Entry
live_in kind commands replies = live (effects kind commands replies)

-- where these entries are live, a state may give these replies to commands, the first of them at
-- this position, one after another, and become the new one
abbrev pub Runs : {S C : Type 0} → Kind S C → ℕ → List Entry → S → List C → List Reply → S → Type 0
Runs kind position entries old [] [] new = new ≡ old
Runs {S} kind position entries old (command ∷ commands) (reply ∷ replies) new =
    (middle : S)
    × kind.Step entries old command reply middle
    × Runs kind (position + 1) (live_after position (kind.effect command reply) entries) middle
    commands replies new
Runs kind position entries old commands replies new = ⊥

-- a new state of this frame may give these replies to the commands
abbrev pub RunsTo : {S C : Type 0} → Kind S C → Frame → List C → List Reply → Type 0
RunsTo {S} kind frame commands replies =
    (last : S) × Runs kind 0 [] (kind.fresh frame) commands replies last

-- an entry is of a command that asked for a size: it was given a rectangle at least as large
pub record IsGiven {S C : Type 0} (kind : Kind S C) (frame : Frame) (commands : List C)
    (replies : List Reply) (entry : Entry) : Type 0 where
  pub size : Size
  pub command : slice_get commands entry.position ≡ Some (kind.allocate size)
  pub reply : slice_get replies entry.position ≡ Some (Placed entry.allocation)
  pub large : IsLarge frame size entry.allocation.rectangle

-- of what is live, as it was first given: it lies inside and shares no unit square, and its ids
-- differ
pub record AreLaidOut (frame : Frame) (live : List Allocation) : Type 0 where
  pub inside : AllByRecursion (λ (allocation : Allocation). IsInside frame allocation.rectangle) live
  pub apart : AreApart live
  pub ids : (id : ℕ) → times id (map (λ allocation. allocation.id) live) ≤ 1

-- a fact holds at each moment: of every prefix of the commands, with the replies to it
abbrev pub Throughout : {C : Type 0} → (List C → List Reply → Type 0) → List C → List Reply → Type 0
Throughout P commands replies = (n : ℕ) → n ≤ length commands → P (take n commands) (take n replies)

-- what holds where a run of a new atlas has led to this state: what is live is large enough, and the
-- atlas keeps its promises of it, and stays within its bound for the most that was live
pub record KeepsPromisesIn {S C : Type 0} (kind : Kind S C) (frame : Frame) (commands : List C)
    (replies : List Reply) (state : S) : Type 0 where
  pub given : AllByRecursion (IsGiven kind frame commands replies) (live_in kind commands replies)
  pub live : kind.LiveKeepsPromises state (live_allocations (live_in kind commands replies))
  pub bounded :
      kind.StaysWithin (peak (effects kind commands replies)) state
      (live_allocations (live_in kind commands replies))
      (last_or None replies)

-- what holds after each run of a new atlas: the promises are kept in a state to which it leads
pub record RunKeepsPromises {S C : Type 0} (kind : Kind S C) (frame : Frame) (commands : List C)
    (replies : List Reply) : Type 0 where
  pub state : S
  pub run : Runs kind 0 [] (kind.fresh frame) commands replies state
  pub kept : KeepsPromisesIn kind frame commands replies state

-- that holds at each moment: of every prefix of the commands, with the replies to it
abbrev pub RunKeepsPromisesThroughout : {S C : Type 0} → Kind S C → Frame → List C → List Reply
    → Type 0
RunKeepsPromisesThroughout kind frame = Throughout (RunKeepsPromises kind frame)

-- why a run of this size and options may not start, where no side may pass the longest: their first
-- fault, or that memory ran out
abbrev pub RefusesRun : ℕ → Size → AllocatorOptions → RunFault → Type 0
RefusesRun longest size options (run_faults.Options fault) =
    MatchOption (options_fault longest size options) (fault ≡ faults.Memory)
    (λ first. fault ≡ first)
RefusesRun longest size options run_faults.Memory = ⊤
