-- What kinds of commands and replies there are, and how many allocations are live after replies.
use Rattle.std.specs.Prelude.{◌≡◌, ℕ, ◌+◌, ◌-◌, ◌*◌, Bool, true, false, List, [], ◌∷◌, max, is_some, if◌then◌else◌}
use Rattle.std.specs.List.{count_by}
use Rattle.etagere_base.specs.declared.geometry.Size.{Size}
use Rattle.etagere_base.specs.Sides.{side}
use Rattle.run_scripts.specs.declared.commands.AtlasCommand.{AtlasCommand}
use Rattle.run_scripts.specs.declared.commands.AtlasCommand.TheVariants as atlas
use Rattle.run_scripts.specs.declared.commands.BucketedCommand.{BucketedCommand}
use Rattle.run_scripts.specs.declared.commands.BucketedCommand.TheVariants as buckets
use Rattle.run_scripts.specs.declared.commands.Reply.{Reply}
use Rattle.run_scripts.specs.declared.commands.Reply.TheVariants as replies
use Rattle.etagere_run.specs.Answers.Live.{Entry, allocation_at}
use Rattle.traffic.specs.declared.tallies.CommandKind.{CommandKind}
use Rattle.traffic.specs.declared.tallies.CommandKind.TheVariants as asking
use Rattle.traffic.specs.declared.tallies.LiveCounts.{LiveCounts}
use Rattle.traffic.specs.declared.tallies.ReplyKind.{ReplyKind}
use Rattle.traffic.specs.declared.tallies.ReplyKind.TheVariants as kinds
use Rattle.traffic.specs.declared.tallies.Tally.{Tally}

-- a command is of a kind
abbrev pub is_atlas_command : CommandKind → AtlasCommand → Bool
is_atlas_command asking.Allocation (atlas.Allocate size) = true
is_atlas_command asking.Return (atlas.Return position) = true
is_atlas_command asking.Look (atlas.Look position) = true
is_atlas_command asking.Grow (atlas.Grow size) = true
is_atlas_command asking.Clear atlas.Clear = true
is_atlas_command kind command = false

abbrev pub is_bucketed_command : CommandKind → BucketedCommand → Bool
is_bucketed_command asking.Allocation (buckets.Allocate size) = true
is_bucketed_command asking.Return (buckets.Return position) = true
is_bucketed_command asking.Grow (buckets.Grow size) = true
is_bucketed_command asking.Clear buckets.Clear = true
is_bucketed_command kind command = false

-- a reply is of a kind
abbrev pub is_reply : ReplyKind → Reply → Bool
is_reply kinds.Placed (replies.Placed allocation) = true
is_reply kinds.Refused replies.Refused = true
is_reply kinds.Returned replies.Returned = true
is_reply kinds.Shown (replies.At rectangle index) = true
is_reply kinds.NotLive replies.NotLive = true
is_reply kinds.Cleared replies.Cleared = true
is_reply kinds.Grown replies.Grown = true
is_reply kinds.GrowRefused (replies.GrowRefused number) = true
is_reply kinds.NoMemory replies.NoMemory = true
is_reply kind reply = false

-- how many allocations are live after a reply: what is placed comes to them, what is returned goes, a clear takes all
abbrev pub live_after_reply : ℕ → Reply → ℕ
live_after_reply count (replies.Placed allocation) = count + 1
live_after_reply count replies.Returned = count - 1
live_after_reply count replies.Cleared = 0
live_after_reply count reply = count

-- the counts after one more reply, and after many
abbrev pub counts_after : LiveCounts → Reply → LiveCounts
counts_after counts reply =
    let now = live_after_reply counts.now reply in
    record { now = now; most = max counts.most now }

abbrev pub counts_from : LiveCounts → List Reply → LiveCounts
counts_from counts [] = counts
counts_from counts (reply ∷ others) = counts_from (counts_after counts reply) others

-- how many allocations are live after the replies of a run, and the most that were live at once
abbrev pub live_counts : List Reply → LiveCounts
live_counts list = counts_from (record { now = 0; most = 0 }) list

-- each count is that of its name
pub record IsTallyOf {C : Type 0} (sorted : CommandKind → C → Bool) (asked : List C) (answers : List Reply)
    (tally : Tally) : Type 0 where
  pub allocations : tally.allocations ≡ count_by (sorted asking.Allocation) asked
  pub returns : tally.returns ≡ count_by (sorted asking.Return) asked
  pub looks : tally.looks ≡ count_by (sorted asking.Look) asked
  pub grows : tally.grows ≡ count_by (sorted asking.Grow) asked
  pub clears : tally.clears ≡ count_by (sorted asking.Clear) asked
  pub refused : tally.refused ≡ count_by (is_reply kinds.Refused) answers
  pub grows_refused : tally.grows_refused ≡ count_by (is_reply kinds.GrowRefused) answers
  pub not_live : tally.not_live ≡ count_by (is_reply kinds.NotLive) answers
  pub no_memory : tally.no_memory ≡ count_by (is_reply kinds.NoMemory) answers
  pub live : tally.live ≡ live_counts answers

-- the area of a size; nothing where a side isn't positive
abbrev pub area_of : Size → ℕ
area_of size = side size.width * side size.height

-- the area that a command asks for
abbrev pub atlas_asked : AtlasCommand → ℕ
atlas_asked (atlas.Allocate size) = area_of size
atlas_asked command = 0

abbrev pub bucketed_asked : BucketedCommand → ℕ
bucketed_asked (buckets.Allocate size) = area_of size
bucketed_asked command = 0

-- the area that the command at a position asked for, if that is live
abbrev pub live_area : {C : Type 0} → (C → ℕ) → List Entry → ℕ → C → ℕ
live_area asked entries position command =
    if is_some (allocation_at position entries) then asked command else 0

-- the areas that were asked for by those commands that are live, the first of them at this position
abbrev pub asked_from : {C : Type 0} → (C → ℕ) → List Entry → ℕ → List C → ℕ
asked_from asked entries position [] = 0
asked_from asked entries position (command ∷ commands) =
    live_area asked entries position command + asked_from asked entries (position + 1) commands

abbrev pub asked_space : {C : Type 0} → (C → ℕ) → List Entry → List C → ℕ
asked_space asked entries commands = asked_from asked entries 0 commands
