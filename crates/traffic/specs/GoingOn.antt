-- Runs with the states that they go through, and what is told of their commands.
use Rattle.std.specs.Prelude.{◌≡◌, ℕ, ◌+◌, Option, None, Some, List, [], ◌∷◌}
use Rattle.run_scripts.specs.declared.commands.Reply.{Reply}
use Rattle.etagere_run.specs.Answers.Live.{Entry, live_after}
use Rattle.etagere_run.specs.Answers.Runs.{Kind}
use Rattle.traffic.specs.declared.going_on.Finding.{Finding}
use Rattle.traffic.specs.declared.going_on.Refused.{Refused}

-- where these entries are live, a state may give these replies to commands, the first of them at this position, one
-- after another, and go through these states, one after each command
abbrev pub RunsThrough : {S C : Type 0} → Kind S C → ℕ → List Entry → S → List C → List Reply → List S → Type 0
RunsThrough kind position entries old [] [] [] = Unit {0}
RunsThrough kind position entries old (command ∷ commands) (reply ∷ replies) (state ∷ states) =
    kind.Step entries old command reply state
    × RunsThrough kind (position + 1) (live_after position (kind.effect command reply) entries) state
    commands replies states
RunsThrough kind position entries old commands replies states = ⊥

-- findings behind what is told of the command at a position
abbrev pub with_finding : ℕ → Option Refused → List Finding → List Finding
with_finding position None findings = findings
with_finding position (Some refused) findings =
    record { position = position; refused = refused } ∷ findings

-- what is told of commands, the first of them at this position: of each by its reply and the state behind it
abbrev pub findings_in : {S C : Type 0} → (S → C → Reply → Option Refused) → ℕ → List C → List Reply → List S
    → List Finding
findings_in told position (command ∷ commands) (reply ∷ replies) (state ∷ states) =
    with_finding position (told state command reply) (findings_in told (position + 1) commands replies states)
findings_in told position commands replies states = []

-- the last of the states behind one
abbrev pub last_of : {S : Type 0} → S → List S → S
last_of old [] = old
last_of old (state ∷ states) = last_of state states

-- From a state where these entries are live a run gives these replies to the commands, the first of them at this
-- position, and leads to the new state; the findings are what is told of its commands, counted from 0.
pub record GoesOn {S C : Type 0} (kind : Kind S C) (told : S → C → Reply → Option Refused) (position : ℕ)
    (entries : List Entry) (old : S) (commands : List C) (replies : List Reply) (findings : List Finding) (new : S)
    : Type 0 where
  pub states : List S
  pub through : RunsThrough kind position entries old commands replies states
  pub last : new ≡ last_of old states
  pub found : findings ≡ findings_in told 0 commands replies states
