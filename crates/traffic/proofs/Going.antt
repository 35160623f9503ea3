-- A run that goes through states goes on by one command.
use Rattle.std.proofs.Common.{◌≡◌, ℕ, suc, ◌+◌, ◌<◌, Option, None, Some, List, [], ◌∷◌, ◌++◌, length, get_or, take, refl, ap, sym, ◌∙◌, subst, arith}
use Rattle.std.proofs.lemmas.List.{length-append, length-take-le, take_more}
use Rattle.run_scripts.specs.declared.commands.Reply.{Reply}
use Rattle.etagere_run.specs.Answers.Live.{Effect, Entry, live_after, live_from}
use Rattle.etagere_run.specs.Answers.Runs.{Kind, Runs, effects}
use Rattle.etagere_run.specs.Answers.Private.Tied.{IsAnswerOf}
use Rattle.etagere_run.proofs.RunAnswers.LiveEntries.{live_from-more}
use Rattle.traffic.specs.declared.going_on.Finding.{Finding}
use Rattle.traffic.specs.declared.going_on.Refused.{Refused}
use Rattle.traffic.specs.GoingOn.{GoesOn, RunsThrough, findings_in, last_of, with_finding}

-- the last state behind one more
last-more : {S : Type 0} (old new : S) (states : List S) → last_of old (states ++ new ∷ []) ≡ new
last-more old new [] = refl
last-more old new (state ∷ states) = last-more state new states

-- a finding goes before others
with-append : (position : ℕ) (told : Option Refused) (findings others : List Finding)
    → with_finding position told (findings ++ others) ≡ with_finding position told findings ++ others
with-append position None findings others = refl
with-append position (Some refused) findings others = refl

module _ {S C : Type 0} (kind : Kind S C) where
  -- the effects of one more command, and how many there are
  effects-more : (commands : List C) (replies : List Reply) (command : C) (reply : Reply) → length replies ≡ length commands
      → effects kind (commands ++ command ∷ []) (replies ++ reply ∷ [])
      ≡ effects kind commands replies ++ kind.effect command reply ∷ []
  effects-more [] [] command reply same = refl
  effects-more [] (r ∷ replies) command reply same = absurd (omega arith)
  effects-more (c ∷ commands) [] command reply same = absurd (omega arith)
  effects-more (c ∷ commands) (r ∷ replies) command reply same =
      ap (λ (l : List Effect). kind.effect c r ∷ l) (effects-more commands replies command reply (omega arith))

  length-effects : (commands : List C) (replies : List Reply) → length replies ≡ length commands
      → length (effects kind commands replies) ≡ length commands
  length-effects [] replies same = refl
  length-effects (c ∷ commands) [] same = absurd (omega arith)
  length-effects (c ∷ commands) (r ∷ replies) same = ap suc (length-effects commands replies (omega arith))

  -- a run and one more step
  through-more : (position : ℕ) (entries : List Entry) (old new : S) (commands : List C) (replies : List Reply) (states : List S)
      (command : C) (reply : Reply)
      → RunsThrough kind position entries old commands replies states
      → kind.Step (live_from position entries (effects kind commands replies)) (last_of old states) command reply new
      → RunsThrough kind position entries old (commands ++ command ∷ []) (replies ++ reply ∷ []) (states ++ new ∷ [])
  through-more position entries old new [] [] [] command reply run step = (step, tt)
  through-more position entries old new [] [] (s ∷ states) command reply run step = absurd run
  through-more position entries old new [] (r ∷ replies) states command reply run step = absurd run
  through-more position entries old new (c ∷ commands) [] states command reply run step = absurd run
  through-more position entries old new (c ∷ commands) (r ∷ replies) [] command reply run step = absurd run
  through-more position entries old new (c ∷ commands) (r ∷ replies) (s ∷ states) command reply run step = (
    run.0,
    through-more (position + 1) (live_after position (kind.effect c r) entries) s new commands replies states command reply
        run.1 step,
  )

  -- a run through states is a run
  pub through-runs : (position : ℕ) (entries : List Entry) (old : S) (commands : List C) (replies : List Reply) (states : List S)
      → RunsThrough kind position entries old commands replies states
      → Runs kind position entries old commands replies (last_of old states)
  through-runs position entries old [] [] [] run = refl
  through-runs position entries old [] [] (s ∷ states) run = absurd run
  through-runs position entries old [] (r ∷ replies) states run = absurd run
  through-runs position entries old (c ∷ commands) [] states run = absurd run
  through-runs position entries old (c ∷ commands) (r ∷ replies) [] run = absurd run
  through-runs position entries old (c ∷ commands) (r ∷ replies) (s ∷ states) run = (
    s,
    run.0,
    through-runs (position + 1) (live_after position (kind.effect c r) entries) s commands replies states run.1,
  )

  -- as many states as commands
  length-states : (position : ℕ) (entries : List Entry) (old : S) (commands : List C) (replies : List Reply) (states : List S)
      → RunsThrough kind position entries old commands replies states → length states ≡ length commands
  length-states position entries old [] [] [] run = refl
  length-states position entries old [] [] (s ∷ states) run = absurd run
  length-states position entries old [] (r ∷ replies) states run = absurd run
  length-states position entries old (c ∷ commands) [] states run = absurd run
  length-states position entries old (c ∷ commands) (r ∷ replies) [] run = absurd run
  length-states position entries old (c ∷ commands) (r ∷ replies) (s ∷ states) run =
      ap suc (length-states (position + 1) (live_after position (kind.effect c r) entries) s commands replies states run.1)

  -- what is told of one more command
  found-more : (told : S → C → Reply → Option Refused) (position : ℕ) (commands : List C) (replies : List Reply) (states : List S)
      (command : C) (reply : Reply) (state : S)
      → length replies ≡ length commands → length states ≡ length commands
      → findings_in told position (commands ++ command ∷ []) (replies ++ reply ∷ []) (states ++ state ∷ [])
      ≡ findings_in told position commands replies states ++ with_finding (position + length commands) (told state command reply) []
  found-more told position [] [] [] command reply state same_replies same_states =
      ap (λ n. with_finding n (told state command reply) []) (omega arith)
  found-more told position [] [] (s ∷ states) command reply state same_replies same_states = absurd (omega arith)
  found-more told position [] (r ∷ replies) states command reply state same_replies same_states = absurd (omega arith)
  found-more told position (c ∷ commands) [] states command reply state same_replies same_states = absurd (omega arith)
  found-more told position (c ∷ commands) (r ∷ replies) [] command reply state same_replies same_states = absurd (omega arith)
  found-more told position (c ∷ commands) (r ∷ replies) (s ∷ states) command reply state same_replies same_states =
      let at : (position + 1) + length commands ≡ position + length (c ∷ commands) = omega arith in
      ap (with_finding position (told s c r))
      (found-more told (position + 1) commands replies states command reply state (omega arith) (omega arith)
      ∙ ap (λ n. findings_in told (position + 1) commands replies states ++ with_finding n (told state command reply) []) at)
      ∙ with-append position (told s c r) (findings_in told (position + 1) commands replies states)
      (with_finding (position + length (c ∷ commands)) (told state command reply) [])

module _ {S C : Type 0} (kind : Kind S C) (Tied : List Entry → S → Type 0) (told : S → C → Reply → Option Refused) where
  -- so far: the run, its findings and its ledger
  pub record IsGoing (position : ℕ) (entries : List Entry) (old : S) (commands : List C) (replies : List Reply)
      (findings : List Finding) (later : List Entry) (new : S) : Type 0 where
    pub goes : GoesOn kind told position entries old commands replies findings new
    pub lengths : length replies ≡ length commands
    pub live : later ≡ live_from position entries (effects kind commands replies)
    pub tied : Tied later new

  -- one command later
  pub going-more : (first : ℕ) (entries : List Entry) (old middle new : S) (commands : List C) (position : ℕ) (command : C)
      (replies longer : List Reply) (reply : Reply) (findings more : List Finding) (later last : List Entry)
      → position < length commands
      → command ≡ get_or commands position command
      → IsGoing first entries old (take position commands) replies findings later middle
      → IsAnswerOf kind Tied (first + position) command reply later last middle new
      → longer ≡ replies ++ reply ∷ []
      → more ≡ findings ++ with_finding position (told new command reply) []
      → IsGoing first entries old (take (position + 1) commands) longer more last new
  going-more first entries old middle new commands position command replies longer reply findings more later last within is so_far
      answer longer_is more_is =
      let front = take position commands in
      let here : length front ≡ position = length-take-le position commands (omega arith) in
      let list_is : take (position + 1) commands ≡ front ++ command ∷ [] =
      take_more commands position command within ∙ ap (λ c. front ++ c ∷ []) (sym is) in
      let goes = so_far.goes in
      let many = length-states kind first entries old front replies goes.states goes.through in
      let step : kind.Step (live_from first entries (effects kind front replies)) (last_of old goes.states) command reply new =
      subst (λ (s : S). kind.Step (live_from first entries (effects kind front replies)) s command reply new) goes.last
      (subst (λ (l : List Entry). kind.Step l middle command reply new) so_far.live answer.step) in
      let at : first + length (effects kind front replies) ≡ first + position =
      omega (arith, length-effects kind front replies so_far.lengths, here) in
      let counted : 0 + length front ≡ position = omega (arith, here) in
      rw (list_is, longer_is, more_is) (record {
        goes = record {
          states = goes.states ++ new ∷ [];
          through = through-more kind first entries old new front replies goes.states command reply goes.through step;
          last = sym (last-more old new goes.states);
          found = sym (found-more kind told 0 front replies goes.states command reply new so_far.lengths many
              ∙ ap (λ (l : List Finding). l ++ with_finding (0 + length front) (told new command reply) []) (sym goes.found)
              ∙ ap (λ n. findings ++ with_finding n (told new command reply) []) counted);
        };
        lengths = omega (arith, length-append replies (reply ∷ []), length-append front (command ∷ []), so_far.lengths);
        live = answer.live_is
            ∙ ap (λ (l : List Entry). live_after (first + position) (kind.effect command reply) l) so_far.live
            ∙ ap (λ n. live_after n (kind.effect command reply) (live_from first entries (effects kind front replies))) (sym at)
            ∙ sym (live_from-more first entries (effects kind front replies) (kind.effect command reply))
            ∙ ap (live_from first entries) (sym (effects-more kind front replies command reply so_far.lengths));
        tied = answer.tied;
      })
