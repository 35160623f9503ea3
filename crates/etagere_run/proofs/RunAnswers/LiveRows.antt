-- The definitions of what is live compute: three placed, one returned, one refused, all cleared, and one placed anew.
use Rattle.std.proofs.Common.{◌≡◌, ℕ, ◌+◌, Some, List, [], ◌∷◌, map, take, pos, refl}
use Rattle.etagere_base.specs.declared.geometry.Size.{Size}
use Rattle.etagere_base.specs.declared.ids.Allocation.{Allocation}
use Rattle.run_scripts.specs.declared.commands.AtlasCommand.{AtlasCommand}
use Rattle.run_scripts.specs.declared.commands.AtlasCommand.TheVariants.{Allocate, Return, Look, Clear}
use Rattle.run_scripts.specs.declared.commands.Reply.{Reply}
use Rattle.run_scripts.specs.declared.commands.Reply.TheVariants.{Placed, Refused, Returned, NotLive, Cleared}
use Rattle.etagere_run.specs.Answers.AtlasRuns.{shelf_atlas}
use Rattle.etagere_run.specs.Answers.Live.{Entry, allocation_at, peak}
use Rattle.etagere_run.specs.Answers.Runs.{effects, live_in}

abbrev size : Size
size = record { width = pos 10; height = pos 8 }

-- the allocation with this id, at the x of the same number
abbrev given : ℕ → Allocation
given id =
    record {
      id = id;
      rectangle = record { min = record { x = pos id; y = pos 0 }; max = record { x = pos (id + 10); y = pos 8 } };
    }

abbrev commands : List AtlasCommand
commands =
    Allocate size ∷ Allocate size ∷ Allocate size ∷ Return 1 ∷ Return 1 ∷ Allocate size ∷ Clear ∷ Look 2 ∷ Allocate size ∷ []

abbrev replies : List Reply
replies =
    Placed (given 0) ∷ Placed (given 10) ∷ Placed (given 20) ∷ Returned ∷ NotLive ∷ Refused ∷ Cleared ∷ NotLive
    ∷ Placed (given 0) ∷ []

-- what is live after so many of the commands
abbrev live_after_first : ℕ → List Entry
live_after_first n = live_in shelf_atlas (take n commands) (take n replies)

pub three_live : map (λ entry. entry.position) (live_after_first 3) ≡ 0 ∷ 1 ∷ 2 ∷ []
three_live = refl

pub one_returned : map (λ entry. entry.position) (live_after_first 6) ≡ 0 ∷ 2 ∷ []
one_returned = refl

pub live_in_the_end : live_after_first 9 ≡ record { position = 8; allocation = given 0 } ∷ []
live_in_the_end = refl

pub first_given : allocation_at 2 (live_after_first 6) ≡ Some (given 20)
first_given = refl

pub peak_before_the_clear : peak (effects shelf_atlas (take 6 commands) (take 6 replies)) ≡ 3
peak_before_the_clear = refl

pub peak_in_the_end : peak (effects shelf_atlas commands replies) ≡ 1
peak_in_the_end = refl
