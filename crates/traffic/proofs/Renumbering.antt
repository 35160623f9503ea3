-- A run whose commands name what is live by other positions gives the same replies.
use Rattle.std.proofs.Common.{◌≡◌, ◌≢◌, ℕ, ◌+◌, Bool, true, false, cond, Option, None, Some, List, [], ◌∷◌, ◌++◌, map, refl, ap, sym, ◌∙◌, subst, arith}
use Rattle.std.proofs.lemmas.Bool.{eq-eqb, eqb-true}
use Rattle.std.specs.Prelude.{◌==◌, option_map}
use Rattle.std.specs.List.{find}
use Rattle.etagere_base.specs.declared.ids.Allocation.{Allocation}
use Rattle.run_scripts.specs.declared.commands.AtlasCommand.{AtlasCommand}
use Rattle.run_scripts.specs.declared.commands.AtlasCommand.TheVariants.{Return, Look}
use Rattle.run_scripts.specs.declared.commands.Reply.{Reply}
use Rattle.run_scripts.specs.declared.commands.Reply.TheVariants.{Placed, Refused, Returned, At, NotLive, Cleared, Grown, GrowRefused, NoMemory}
use Rattle.etagere_run.specs.Answers.AtlasRuns.{AtlasStep, atlas_effect, shelf_atlas}
use Rattle.shelf_model.specs.State.{AtlasState}
use Rattle.etagere_run.specs.Answers.Live.{Effect, Adds, TakesOut, Empties, Keeps, Entry, allocation_at, live_after, without}
use Rattle.etagere_run.specs.Answers.Runs.{Runs}
use Rattle.traffic.specs.Continuing.{renumbered}

-- what stands at a position, which is at most one allocation where the positions differ
abbrev pub all_at : ℕ → List Entry → List Allocation
all_at position [] = []
all_at position (entry ∷ entries) =
    cond (entry.position == position) (entry.allocation ∷ all_at position entries) (all_at position entries)

abbrev first_of : List Allocation → Option Allocation
first_of [] = None
first_of (allocation ∷ allocations) = Some allocation

abbrev but_first : List Allocation → List Allocation
but_first [] = []
but_first (allocation ∷ allocations) = allocations

-- what is found at a position is the first that stands there
first-at : (position : ℕ) (entries : List Entry) → allocation_at position entries ≡ first_of (all_at position entries)
first-at position [] = refl
first-at position (entry ∷ entries) = here (entry.position == position) (first-at position entries)
  where
    here : (b : Bool) → allocation_at position entries ≡ first_of (all_at position entries)
        → option_map (λ (e : Entry). e.allocation) (cond b (Some entry) (find (λ (e : Entry). e.position == position) entries))
        ≡ first_of (cond b (entry.allocation ∷ all_at position entries) (all_at position entries))
    here true later = refl
    here false later = later

-- one more at the end
all-append : (position : ℕ) (entries : List Entry) (entry : Entry)
    → all_at position (entries ++ entry ∷ [])
    ≡ all_at position entries ++ cond (entry.position == position) (entry.allocation ∷ []) []
all-append position [] entry = refl
all-append position (e ∷ entries) entry = here (e.position == position) (all-append position entries entry)
  where
    here : (b : Bool)
        → all_at position (entries ++ entry ∷ [])
        ≡ all_at position entries ++ cond (entry.position == position) (entry.allocation ∷ []) []
        → cond b (e.allocation ∷ all_at position (entries ++ entry ∷ [])) (all_at position (entries ++ entry ∷ []))
        ≡ cond b (e.allocation ∷ all_at position entries) (all_at position entries)
        ++ cond (entry.position == position) (entry.allocation ∷ []) []
    here true later = ap (λ (l : List Allocation). e.allocation ∷ l) later
    here false later = later

-- without the first at a position
all-without-here : (position : ℕ) (entries : List Entry) → all_at position (without position entries) ≡ but_first (all_at position entries)
all-without-here position [] = refl
all-without-here position (e ∷ entries) = here (e.position == position) refl (all-without-here position entries)
  where
    here : (b : Bool) → (e.position == position) ≡ b
        → all_at position (without position entries) ≡ but_first (all_at position entries)
        → all_at position (cond b entries (e ∷ without position entries))
        ≡ but_first (cond b (e.allocation ∷ all_at position entries) (all_at position entries))
    here true is later = refl
    here false is later = rw is later

all-without-other : (other position : ℕ) (entries : List Entry) → other ≢ position
    → all_at position (without other entries) ≡ all_at position entries
all-without-other other position [] differ = refl
all-without-other other position (e ∷ entries) differ =
    here (e.position == other) refl (all-without-other other position entries differ)
  where
    here : (b : Bool) → (e.position == other) ≡ b
        → all_at position (without other entries) ≡ all_at position entries
        → all_at position (cond b entries (e ∷ without other entries))
        ≡ cond (e.position == position) (e.allocation ∷ all_at position entries) (all_at position entries)
    here true is later =
        let not_here : (e.position == position) ≡ false = grind (arith, eqb-true) in
        rw not_here refl
    here false is later = ap (λ (l : List Allocation). cond (e.position == position) (e.allocation ∷ l) l) later

-- two ledgers have the same, where the positions of one are those of the other by a renumbering
pub record AreRenumbered (new_position : ℕ → ℕ) (entries others : List Entry) : Type 0 where
  pub same : (position : ℕ) → all_at position entries ≡ all_at (new_position position) others

module _ (new_position : ℕ → ℕ) (one : (m n : ℕ) → new_position m ≡ new_position n → m ≡ n) where
  found : (entries others : List Entry) → AreRenumbered new_position entries others → (position : ℕ)
      → allocation_at position entries ≡ allocation_at (new_position position) others
  found entries others are position =
      first-at position entries ∙ ap first_of (are.same position) ∙ sym (first-at (new_position position) others)

  -- a test of two positions
  test-position : (m n : ℕ) → (new_position m == new_position n) ≡ (m == n)
  test-position m n = by_test (m == n) refl
    where
      by_test : (b : Bool) → (m == n) ≡ b → (new_position m == new_position n) ≡ b
      by_test true is = let same : m ≡ n = eqb-true m n is in eq-eqb (new_position m) (new_position n) (ap new_position same)
      by_test false is = other (new_position m == new_position n) refl
        where
          other : (b : Bool) → (new_position m == new_position n) ≡ b → b ≡ false
          other true here = let same = one m n (eqb-true (new_position m) (new_position n) here) in absurd (grind (arith, eq-eqb))
          other false here = refl

  after-added : (entries others : List Entry) (here : ℕ) (allocation : Allocation)
      → AreRenumbered new_position entries others
      → AreRenumbered new_position (entries ++ record { position = here; allocation = allocation } ∷ [])
      (others ++ record { position = new_position here; allocation = allocation } ∷ [])
  after-added entries others here allocation are =
      record {
        same = λ n.
            all-append n entries (record { position = here; allocation = allocation })
            ∙ ap (λ (l : List Allocation). l ++ cond (here == n) (allocation ∷ []) []) (are.same n)
            ∙ ap (λ (b : Bool). all_at (new_position n) others ++ cond b (allocation ∷ []) []) (sym (test-position here n))
            ∙ sym (all-append (new_position n) others (record { position = new_position here; allocation = allocation }));
      }

  after-taken : (entries others : List Entry) (gone : ℕ)
      → AreRenumbered new_position entries others → AreRenumbered new_position (without gone entries) (without (new_position gone) others)
  after-taken entries others gone are = record { same = λ n. by_test n (gone == n) refl }
    where
      by_test : (n : ℕ) (b : Bool) → (gone == n) ≡ b
          → all_at n (without gone entries) ≡ all_at (new_position n) (without (new_position gone) others)
      by_test n true is =
          let same : gone ≡ n = eqb-true gone n is in
          subst (λ (k : ℕ). all_at k (without gone entries) ≡ all_at (new_position k) (without (new_position gone) others)) same
          (all-without-here gone entries ∙ ap but_first (are.same gone) ∙ sym (all-without-here (new_position gone) others))
      by_test n false is =
          let apart : gone ≢ n = λ e. absurd (grind (arith, eq-eqb)) in
          let positions_apart : new_position gone ≢ new_position n = λ e. apart (one gone n e) in
          all-without-other gone n entries apart ∙ are.same n ∙ sym (all-without-other (new_position gone) (new_position n) others positions_apart)

  -- what a renumbered command does to what is live
  renumbered_effect : Effect → Effect
  renumbered_effect (TakesOut position) = TakesOut (new_position position)
  renumbered_effect effect = effect

  effect-renumbered : (command : AtlasCommand) (reply : Reply)
      → atlas_effect (renumbered new_position command) reply ≡ renumbered_effect (atlas_effect command reply)
  unfolding renumbered_effect
  effect-renumbered (Return position) Returned = refl
  effect-renumbered command Returned = refl
  effect-renumbered command (Placed allocation) = refl
  effect-renumbered command Refused = refl
  effect-renumbered command (At rectangle index) = refl
  effect-renumbered command NotLive = refl
  effect-renumbered command Cleared = refl
  effect-renumbered command Grown = refl
  effect-renumbered command (GrowRefused number) = refl
  effect-renumbered command NoMemory = refl

  after-effect : (entries others : List Entry) (here : ℕ) (effect : Effect)
      → AreRenumbered new_position entries others
      → AreRenumbered new_position (live_after here effect entries) (live_after (new_position here) (renumbered_effect effect) others)
  unfolding renumbered_effect
  after-effect entries others here (Adds allocation) are = after-added entries others here allocation are
  after-effect entries others here (TakesOut position) are = after-taken entries others position are
  after-effect entries others here Empties are = record { same = λ n. refl }
  after-effect entries others here Keeps are = are

  step-renumbered : (entries others : List Entry) (old new : AtlasState) (command : AtlasCommand) (reply : Reply)
      → AreRenumbered new_position entries others
      → AtlasStep entries old command reply new → AtlasStep others old (renumbered new_position command) reply new
  step-renumbered entries others old new (Return position) Returned are step =
      record {
        allocation = step.allocation;
        live_is = sym (found entries others are position) ∙ step.live_is;
        after = step.after;
      }
  step-renumbered entries others old new (Return position) NotLive are step =
      (sym (found entries others are position) ∙ step.0, step.1)
  step-renumbered entries others old new (Look position) (At rectangle index) are step = (
    record {
      allocation = step.0.allocation;
      live_is = sym (found entries others are position) ∙ step.0.live_is;
      rectangle_is = step.0.rectangle_is;
      index_is = step.0.index_is;
    },
    step.1,
  )
  step-renumbered entries others old new (Look position) NotLive are step =
      (sym (found entries others are position) ∙ step.0, step.1)
  step-renumbered entries others old new command reply are step = step

  pub run-renumbered : (here there : ℕ) (entries others : List Entry) (old new : AtlasState) (commands : List AtlasCommand)
      (replies : List Reply)
      → AreRenumbered new_position entries others
      → ((n : ℕ) → new_position (here + n) ≡ there + n)
      → Runs shelf_atlas here entries old commands replies new
      → Runs shelf_atlas there others old (map (renumbered new_position) commands) replies new
  run-renumbered here there entries others old new [] [] are own run = run
  run-renumbered here there entries others old new [] (r ∷ replies) are own never = absurd never
  run-renumbered here there entries others old new (c ∷ commands) [] are own never = absurd never
  run-renumbered here there entries others old new (c ∷ commands) (r ∷ replies) are own run =
      let same : here ≡ here + 0 = omega arith in
      let there_is : there + 0 ≡ there = omega arith in
      let at : new_position here ≡ there = ap new_position same ∙ own 0 ∙ there_is in
      let later : (n : ℕ) → new_position ((here + 1) + n) ≡ (there + 1) + n =
      λ n. let more : (here + 1) + n ≡ here + (n + 1) = omega arith in
      let more_there : there + (n + 1) ≡ (there + 1) + n = omega arith in
      ap new_position more ∙ own (n + 1) ∙ more_there in
      let effect_is = effect-renumbered c r in
      let after : AreRenumbered new_position (live_after here (atlas_effect c r) entries) (live_after there (atlas_effect (renumbered new_position c) r) others) =
      subst (λ (e : Effect). AreRenumbered new_position (live_after here (atlas_effect c r) entries) (live_after there e others)) (sym effect_is)
      (subst (λ (n : ℕ). AreRenumbered new_position (live_after here (atlas_effect c r) entries) (live_after n (renumbered_effect (atlas_effect c r)) others)) at
      (after-effect entries others here (atlas_effect c r) are)) in (
        run.0,
        step-renumbered entries others old run.0 c r are run.1,
        run-renumbered (here + 1) (there + 1) (live_after here (atlas_effect c r) entries)
            (live_after there (atlas_effect (renumbered new_position c) r) others) run.0 new commands replies after
            later run.2,
      )
