-- Two runs of the same commands, to which no memory was refused, are the same but for the numbers of ids.
use Rattle.std.proofs.Common.{◌≡◌, ◌≢◌, ℕ, ◌+◌, ◌%◌, ◌≤◌, Bool, true, false, cond, Option, None, Some, List, [], ◌∷◌, ◌++◌, map, refl, ap, arith, sym, subst, ◌∙◌}
use Rattle.std.proofs.lemmas.List.{map-append}
use Rattle.std.specs.Prelude.{◌==◌, option_map}
use Rattle.std.specs.List.{AllByRecursion}
use Rattle.etagere_base.specs.declared.frames.Frame.{Frame}
use Rattle.etagere_base.specs.declared.geometry.Rectangle.{Rectangle}
use Rattle.etagere_base.specs.declared.geometry.Size.{Size}
use Rattle.etagere_base.specs.declared.ids.Allocation.{Allocation}
use Rattle.etagere_base.specs.Ids.{index_modulus}
use Rattle.etagere_base.specs.Lists.{times}
use Rattle.shelf_model.specs.Choice.{Placement, placement_of, rectangle_of_placement}
use Rattle.shelf_model.specs.declared.faults.AtlasGrowFault.{AtlasGrowFault}
use Rattle.shelf_model.specs.Faults.{grow_fault_number}
use Rattle.shelf_model.specs.Fresh.{fresh}
use Rattle.shelf_model.specs.Growing.{atlas_grown, grow_fault}
use Rattle.shelf_model.specs.Places.{is_allocated}
use Rattle.shelf_model.specs.Returning.{returned}
use Rattle.shelf_model.specs.State.{AtlasState}
use Rattle.shelf_model.specs.Taking.{taken}
use Rattle.shelf_model.proofs.Allocations.AllocatedIds.{times-ids_of}
use Rattle.run_scripts.specs.declared.commands.AtlasCommand.{AtlasCommand}
use Rattle.run_scripts.specs.declared.commands.AtlasCommand.TheVariants.{Allocate, Return, Look, Grow, Clear}
use Rattle.run_scripts.specs.declared.commands.Reply.{Reply}
use Rattle.run_scripts.specs.declared.commands.Reply.TheVariants.{Placed, Refused, Returned, At, NotLive, Cleared, Grown, GrowRefused, NoMemory}
use Rattle.etagere_run.specs.Answers.AtlasRuns.{AtlasStep, atlas_effect, shelf_atlas}
use Rattle.etagere_run.specs.Answers.Laws.{without_number}
use Rattle.etagere_run.specs.Answers.Live.{Entry, allocation_at, live_after, live_allocations, without}
use Rattle.etagere_run.specs.Answers.Runs.{Runs}
use Rattle.etagere_run.specs.Answers.Private.Renamed.{renamed, renamed_allocation, renamed_entry}
use Rattle.etagere_run.specs.Answers.Private.Tied.{IsTied}
use Rattle.etagere_run.proofs.RunAnswers.AtlasAnswers.{atlas-steps}
use Rattle.etagere_run.proofs.RunAnswers.Renamed.NewNames.{HasNewName, new-name}
use Rattle.etagere_run.proofs.RunAnswers.Renamed.OtherNames.{entries-agree}
use Rattle.etagere_run.proofs.RunAnswers.Renamed.RenamedChoice.{placement_of-renamed}
use Rattle.etagere_run.proofs.RunAnswers.Renamed.RenamedGrow.{fault-renamed, fresh-renamed, grown-renamed}
use Rattle.etagere_run.proofs.RunAnswers.Renamed.RenamedReturns.{returned-renamed}
use Rattle.etagere_run.proofs.RunAnswers.Renamed.RenamedTaking.{taken-renamed}

-- two runs so far are the same, but that ids have other numbers
pub record AreAlike (ones others : List Entry) (one other : AtlasState) : Type 0 where
  pub name : ℕ → ℕ
  pub apart : (n m : ℕ) → name n ≡ name m → n ≡ m
  pub state : other ≡ renamed name one
  pub live : others ≡ map (renamed_entry name) ones

-- they have the same reply but for these numbers, and are alike after it
pub record AnswerAlike (position : ℕ) (command : AtlasCommand) (reply answer : Reply) (ones others : List Entry) (new another : AtlasState) : Type 0 where
  pub same : without_number reply ≡ without_number answer
  pub alike : AreAlike (live_after position (atlas_effect command reply) ones) (live_after position (atlas_effect command answer) others) new another

-- what a command is answered, where memory is not refused, by what it comes to
abbrev IsAllocated : AtlasState → Reply → AtlasState → Option Placement → Type 0
IsAllocated old reply new None = (reply ≡ Refused) × (new ≡ old)
IsAllocated old reply new (Some placement) =
    (id : ℕ)
    × (is_allocated old id ≡ false)
    × (reply ≡ Placed (record { id = id; rectangle = rectangle_of_placement old.frame placement }))
    × (new ≡ taken old placement id)

-- the same of a position that goes back
abbrev IsReturned : AtlasState → Reply → AtlasState → Option Allocation → Type 0
IsReturned old reply new None = (reply ≡ NotLive) × (new ≡ old)
IsReturned old reply new (Some allocation) = (reply ≡ Returned) × (new ≡ returned old allocation.id)

-- of one that is looked up
abbrev IsShown : AtlasState → Reply → AtlasState → Option Allocation → Type 0
IsShown old reply new None = (reply ≡ NotLive) × (new ≡ old)
IsShown old reply new (Some allocation) = (reply ≡ At allocation.rectangle (allocation.id % index_modulus)) × (new ≡ old)

-- and of a grow
abbrev IsGrown : AtlasState → Size → Reply → AtlasState → Option AtlasGrowFault → Type 0
IsGrown old size reply new None = (reply ≡ Grown) × (new ≡ atlas_grown old size)
IsGrown old size reply new (Some fault) = (reply ≡ GrowRefused (grow_fault_number fault)) × (new ≡ old)

-- a step is such an answer to a size
is-allocated : (entries : List Entry) (old : AtlasState) (size : Size) (reply : Reply) (new : AtlasState) → AtlasStep entries old (Allocate size) reply new → reply ≢ NoMemory → IsAllocated old reply new (placement_of old size)
is-allocated entries old size (Placed allocation) new step memory =
    let allocates = step.allocates in
    subst (IsAllocated old (Placed allocation) new) (sym allocates.placed)
    (allocation.id, allocates.fresh_id, ap (λ (r : Rectangle). Placed (record { id = allocation.id; rectangle = r })) (sym allocates.rectangle), allocates.after)
is-allocated entries old size Refused new step memory = subst (IsAllocated old Refused new) (sym step.0) (refl, step.1)
is-allocated entries old size NoMemory new step memory = absurd (memory refl)
is-allocated entries old size reply new step memory = absurd step

-- to a position that goes back
is-returned : (entries : List Entry) (old : AtlasState) (other : ℕ) (reply : Reply) (new : AtlasState) → AtlasStep entries old (Return other) reply new → IsReturned old reply new (allocation_at other entries)
is-returned entries old other Returned new step = subst (IsReturned old Returned new) (sym step.live_is) (refl, step.after)
is-returned entries old other NotLive new step = subst (IsReturned old NotLive new) (sym step.0) (refl, step.1)
is-returned entries old other reply new step = absurd step

-- to one that is looked up
is-shown : (entries : List Entry) (old : AtlasState) (other : ℕ) (reply : Reply) (new : AtlasState) → AtlasStep entries old (Look other) reply new → IsShown old reply new (allocation_at other entries)
is-shown entries old other (At rectangle index) new step =
    let shows = step.0 in
    subst (IsShown old (At rectangle index) new) (sym shows.live_is)
    (ap (λ (r : Rectangle). At r index) shows.rectangle_is ∙ ap (λ (n : ℕ). At shows.allocation.rectangle n) shows.index_is, step.1)
is-shown entries old other NotLive new step = subst (IsShown old NotLive new) (sym step.0) (refl, step.1)
is-shown entries old other reply new step = absurd step

-- to a grow
is-grown : (entries : List Entry) (old : AtlasState) (size : Size) (reply : Reply) (new : AtlasState) → AtlasStep entries old (Grow size) reply new → reply ≢ NoMemory → IsGrown old size reply new (grow_fault old size)
is-grown entries old size Grown new step memory = subst (IsGrown old size Grown new) (sym step.fits) (refl, step.after)
is-grown entries old size (GrowRefused number) new step memory =
    let refuses = step.0 in
    subst (IsGrown old size (GrowRefused number) new) (sym refuses.fault_is) (ap GrowRefused refuses.number_is, step.1)
is-grown entries old size NoMemory new step memory = absurd (memory refl)
is-grown entries old size reply new step memory = absurd step

-- and to a clear
is-cleared : (entries : List Entry) (old : AtlasState) (reply : Reply) (new : AtlasState) → AtlasStep entries old Clear reply new → (reply ≡ Cleared) × (new ≡ fresh old.frame)
is-cleared entries old Cleared new step = (refl, step)
is-cleared entries old reply new step = absurd step

module _ (name : ℕ → ℕ) where
  -- what is live under other numbers
  live-renamed : (other : ℕ) (entries : List Entry) → allocation_at other (map (renamed_entry name) entries) ≡ option_map (renamed_allocation name) (allocation_at other entries)
  live-renamed other [] = refl
  live-renamed other (entry ∷ entries) = by_test (live-renamed other entries) (entry.position == other) refl
    where
      by_test : allocation_at other (map (renamed_entry name) entries) ≡ option_map (renamed_allocation name) (allocation_at other entries) → (b : Bool) → (entry.position == other) ≡ b → allocation_at other (map (renamed_entry name) (entry ∷ entries)) ≡ option_map (renamed_allocation name) (allocation_at other (entry ∷ entries))
      by_test rest true e = rw e refl
      by_test rest false e = rw e rest

  -- what is live without a position
  without-renamed : (other : ℕ) (entries : List Entry) → without other (map (renamed_entry name) entries) ≡ map (renamed_entry name) (without other entries)
  without-renamed other [] = refl
  without-renamed other (entry ∷ entries) = by_test (without-renamed other entries) (entry.position == other)
    where
      by_test : without other (map (renamed_entry name) entries) ≡ map (renamed_entry name) (without other entries) → (b : Bool) → cond b (map (renamed_entry name) entries) (renamed_entry name entry ∷ without other (map (renamed_entry name) entries))
          ≡ map (renamed_entry name) (cond b entries (entry ∷ without other entries))
      by_test rest true = refl
      by_test rest false = ap (λ (xs : List Entry). renamed_entry name entry ∷ xs) rest

-- a size that was asked for
allocated-alike : (position : ℕ) (size : Size) (ones others : List Entry) (one other new another : AtlasState) (reply answer : Reply) (o : Option Placement)
    → IsTied ones one → AreAlike ones others one other → IsAllocated one reply new o → IsAllocated other answer another o
    → AnswerAlike position (Allocate size) reply answer ones others new another
allocated-alike position size ones others one other new another reply answer None tied alike (reply_is, new_is) (answer_is, another_is) =
    rw (reply_is, answer_is, new_is, another_is) (record { same = refl; alike = alike })
allocated-alike position size ones others one other new another reply answer (Some placement) tied alike (id, fresh_id, reply_is, new_is) (number, fresh_number, answer_is, another_is) =
    let name : ℕ → ℕ = alike.name in
    let rectangle : Rectangle = rectangle_of_placement one.frame placement in
    let new_name : HasNewName name one other id number = new-name name one other id number alike.apart alike.state fresh_id fresh_number in
    let later : ℕ → ℕ = new_name.later in
    let live : (n : ℕ) → 1 ≤ times n (map (λ (a : Allocation). a.id) (live_allocations ones)) → later n ≡ name n =
    λ n stands. new_name.agree n (omega (arith, stands, tied.allocated.counted n, times-ids_of one n)) in
    let frame : other.frame ≡ one.frame = ap (λ (s : AtlasState). s.frame) alike.state in
    rw (reply_is, answer_is, new_is, another_is)
    (record {
      same = ap (λ (f : Frame). Placed (record { id = 0; rectangle = rectangle_of_placement f placement })) (sym frame);
      alike =
          record {
            name = later;
            apart = new_name.apart;
            state = ap (λ (s : AtlasState). taken s placement number) new_name.state
                ∙ ap (taken (renamed later one) placement) (sym new_name.own)
                ∙ sym (taken-renamed later one placement id);
            live = ap (λ (f : Frame). others ++ record { position = position; allocation = record { id = number; rectangle = rectangle_of_placement f placement } } ∷ []) frame
                ∙ ap (λ (xs : List Entry). xs ++ record { position = position; allocation = record { id = number; rectangle = rectangle } } ∷ []) (alike.live ∙ sym (entries-agree name later ones live))
                ∙ ap (λ (n : ℕ). map (renamed_entry later) ones ++ record { position = position; allocation = record { id = n; rectangle = rectangle } } ∷ []) (sym new_name.own)
                ∙ sym (map-append (renamed_entry later) ones (record { position = position; allocation = record { id = id; rectangle = rectangle } } ∷ []));
          };
    })

-- what was given back
returned-alike : (position earlier : ℕ) (ones others : List Entry) (one other new another : AtlasState) (reply answer : Reply) (o : Option Allocation)
    (alike : AreAlike ones others one other) → IsReturned one reply new o → IsReturned other answer another (option_map (renamed_allocation alike.name) o)
    → AnswerAlike position (Return earlier) reply answer ones others new another
returned-alike position earlier ones others one other new another reply answer None alike (reply_is, new_is) (answer_is, another_is) =
    rw (reply_is, answer_is, new_is, another_is) (record { same = refl; alike = alike })
returned-alike position earlier ones others one other new another reply answer (Some allocation) alike (reply_is, new_is) (answer_is, another_is) =
    rw (reply_is, answer_is, new_is, another_is)
    (record {
      same = refl;
      alike =
          record {
            name = alike.name;
            apart = alike.apart;
            state = ap (λ (s : AtlasState). returned s (alike.name allocation.id)) alike.state ∙ sym (returned-renamed alike.name alike.apart one allocation.id);
            live = ap (without earlier) alike.live ∙ without-renamed alike.name earlier ones;
          };
    })

-- what was looked up
shown-alike : (position earlier : ℕ) (ones others : List Entry) (one other new another : AtlasState) (reply answer : Reply) (o : Option Allocation)
    (alike : AreAlike ones others one other) → IsShown one reply new o → IsShown other answer another (option_map (renamed_allocation alike.name) o)
    → AnswerAlike position (Look earlier) reply answer ones others new another
shown-alike position earlier ones others one other new another reply answer None alike (reply_is, new_is) (answer_is, another_is) =
    rw (reply_is, answer_is, new_is, another_is) (record { same = refl; alike = alike })
shown-alike position earlier ones others one other new another reply answer (Some allocation) alike (reply_is, new_is) (answer_is, another_is) =
    rw (reply_is, answer_is, new_is, another_is) (record { same = refl; alike = alike })

-- a grow
grown-alike : (position : ℕ) (size : Size) (ones others : List Entry) (one other new another : AtlasState) (reply answer : Reply) (o : Option AtlasGrowFault)
    → AreAlike ones others one other → IsGrown one size reply new o → IsGrown other size answer another o
    → AnswerAlike position (Grow size) reply answer ones others new another
grown-alike position size ones others one other new another reply answer None alike (reply_is, new_is) (answer_is, another_is) =
    rw (reply_is, answer_is, new_is, another_is)
    (record {
      same = refl;
      alike =
          record {
            name = alike.name;
            apart = alike.apart;
            state = ap (λ (s : AtlasState). atlas_grown s size) alike.state ∙ sym (grown-renamed alike.name one size);
            live = alike.live;
          };
    })
grown-alike position size ones others one other new another reply answer (Some fault) alike (reply_is, new_is) (answer_is, another_is) =
    rw (reply_is, answer_is, new_is, another_is) (record { same = refl; alike = alike })

-- new atlases of a frame
pub fresh-alike : (frame : Frame) → AreAlike [] [] (fresh frame) (fresh frame)
fresh-alike frame =
    record {
      name = λ n. n;
      apart = λ n m same. same;
      state = sym (fresh-renamed (λ n. n) frame);
      live = refl;
    }

-- a command is answered alike
answered-alike : (position : ℕ) (ones others : List Entry) (one other new another : AtlasState) (command : AtlasCommand) (reply answer : Reply)
    → IsTied ones one → AreAlike ones others one other → reply ≢ NoMemory → answer ≢ NoMemory
    → AtlasStep ones one command reply new → AtlasStep others other command answer another
    → AnswerAlike position command reply answer ones others new another
answered-alike position ones others one other new another (Allocate size) reply answer tied alike memory room step other_step =
    let same : placement_of other size ≡ placement_of one size =
    ap (λ (s : AtlasState). placement_of s size) alike.state ∙ placement_of-renamed alike.name one size in
    allocated-alike position size ones others one other new another reply answer (placement_of one size) tied alike
    (is-allocated ones one size reply new step memory)
    (subst (IsAllocated other answer another) same (is-allocated others other size answer another other_step room))
answered-alike position ones others one other new another (Return earlier) reply answer tied alike memory room step other_step =
    let same : allocation_at earlier others ≡ option_map (renamed_allocation alike.name) (allocation_at earlier ones) =
    ap (allocation_at earlier) alike.live ∙ live-renamed alike.name earlier ones in
    returned-alike position earlier ones others one other new another reply answer (allocation_at earlier ones) alike
    (is-returned ones one earlier reply new step)
    (subst (IsReturned other answer another) same (is-returned others other earlier answer another other_step))
answered-alike position ones others one other new another (Look earlier) reply answer tied alike memory room step other_step =
    let same : allocation_at earlier others ≡ option_map (renamed_allocation alike.name) (allocation_at earlier ones) =
    ap (allocation_at earlier) alike.live ∙ live-renamed alike.name earlier ones in
    shown-alike position earlier ones others one other new another reply answer (allocation_at earlier ones) alike
    (is-shown ones one earlier reply new step)
    (subst (IsShown other answer another) same (is-shown others other earlier answer another other_step))
answered-alike position ones others one other new another (Grow size) reply answer tied alike memory room step other_step =
    let same : grow_fault other size ≡ grow_fault one size =
    ap (λ (s : AtlasState). grow_fault s size) alike.state ∙ fault-renamed alike.name one size in
    grown-alike position size ones others one other new another reply answer (grow_fault one size) alike
    (is-grown ones one size reply new step memory)
    (subst (IsGrown other size answer another) same (is-grown others other size answer another other_step room))
answered-alike position ones others one other new another Clear reply answer tied alike memory room step other_step =
    let own = is-cleared ones one reply new step in
    let others_own = is-cleared others other answer another other_step in
    let frame : other.frame ≡ one.frame = ap (λ (s : AtlasState). s.frame) alike.state in
    rw (own.0, others_own.0, own.1, others_own.1, frame) (record { same = refl; alike = fresh-alike one.frame })

-- memory is refused to no command
abbrev HadMemory : List Reply → Type 0
HadMemory replies = AllByRecursion (λ (reply : Reply). reply ≢ NoMemory) replies

-- two runs have the same replies but for the numbers of ids, and so they end
pub record RunAlike (replies answers : List Reply) (last another : AtlasState) : Type 0 where
  pub same : map without_number replies ≡ map without_number answers
  pub name : ℕ → ℕ
  pub state : another ≡ renamed name last

-- runs that are alike so far go on alike
pub runs-alike : (position : ℕ) (ones others : List Entry) (one other last another : AtlasState) (commands : List AtlasCommand) (replies answers : List Reply)
    → IsTied ones one → AreAlike ones others one other
    → Runs shelf_atlas position ones one commands replies last → Runs shelf_atlas position others other commands answers another
    → HadMemory replies → HadMemory answers → RunAlike replies answers last another
runs-alike position ones others one other last another [] [] [] tied alike run other_run memory room =
    record { same = refl; name = alike.name; state = other_run ∙ alike.state ∙ ap (renamed alike.name) (sym run) }
runs-alike position ones others one other last another [] (reply ∷ replies) answers tied alike run other_run memory room = absurd run
runs-alike position ones others one other last another [] [] (answer ∷ answers) tied alike run other_run memory room = absurd other_run
runs-alike position ones others one other last another (command ∷ commands) [] answers tied alike run other_run memory room = absurd run
runs-alike position ones others one other last another (command ∷ commands) (reply ∷ replies) [] tied alike run other_run memory room = absurd other_run
runs-alike position ones others one other last another (command ∷ commands) (reply ∷ replies) (answer ∷ answers) tied alike (new, step, run) (middle, other_step, other_run) memory room =
    let next : AnswerAlike position command reply answer ones others new middle =
    answered-alike position ones others one other new middle command reply answer tied alike memory.0 room.0 step other_step in
    let later : IsTied (live_after position (atlas_effect command reply) ones) new =
    (atlas-steps position ones one new command reply tied step).tied in
    let rest : RunAlike replies answers last another =
    runs-alike (position + 1) (live_after position (atlas_effect command reply) ones) (live_after position (atlas_effect command answer) others)
    new middle last another commands replies answers later next.alike run other_run memory.1 room.1 in
    record {
      same = ap (λ (r : Reply). r ∷ map without_number replies) next.same ∙ ap (λ (rs : List Reply). without_number answer ∷ rs) rest.same;
      name = rest.name;
      state = rest.state;
    }
