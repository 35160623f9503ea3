-- A run is cut in two, and put together again.
use Rattle.std.proofs.Common.{◌≡◌, ℕ, ◌+◌, List, [], ◌∷◌, ◌++◌, length, refl, ap, sym, subst, arith}
use Rattle.run_scripts.specs.declared.commands.Reply.{Reply}
use Rattle.etagere_run.specs.Answers.Live.{Entry, live_after, live_from}
use Rattle.etagere_run.specs.Answers.Runs.{Kind, Runs, effects}
use Rattle.traffic.specs.Continuing.{IsCutAnywhere, RunsInTwo}

module _ {S C : Type 0} (kind : Kind S C) where
  -- a run from the same position
  pub at_same : (here there : ℕ) (entries : List Entry) (old : S) (commands : List C) (replies : List Reply) (new : S)
      → here ≡ there → Runs kind here entries old commands replies new → Runs kind there entries old commands replies new
  at_same here there entries old commands replies new same run =
      subst (λ (n : ℕ). Runs kind n entries old commands replies new) same run

  -- a run that goes on is one run
  pub joined : (position : ℕ) (entries : List Entry) (old middle new : S) (first rest : List C) (earlier later : List Reply)
      → Runs kind position entries old first earlier middle
      → Runs kind (position + length first) (live_from position entries (effects kind first earlier)) middle rest later new
      → Runs kind position entries old (first ++ rest) (earlier ++ later) new
  joined position entries old middle new [] rest [] later is run =
      at_same position position entries old rest later new refl
      (subst (λ (s : S). Runs kind position entries s rest later new) is
      (at_same (position + 0) position entries middle rest later new (omega arith) run))
  joined position entries old middle new [] rest (r ∷ earlier) later never run = absurd never
  joined position entries old middle new (c ∷ first) rest [] later never run = absurd never
  joined position entries old middle new (c ∷ first) rest (r ∷ earlier) later begins run =
      let after = live_after position (kind.effect c r) entries in
      let more = live_from (position + 1) after (effects kind first earlier) in (
        begins.0,
        begins.1,
        joined (position + 1) after begins.0 middle new first rest earlier later begins.2
            (at_same (position + length (c ∷ first)) ((position + 1) + length first) more middle rest later new (omega arith) run),
      )

  -- a run is cut behind some of its commands
  pub cut : (position : ℕ) (entries : List Entry) (old new : S) (first rest : List C) (replies : List Reply)
      → Runs kind position entries old (first ++ rest) replies new
      → RunsInTwo kind position entries old first rest replies new
  cut position entries old new [] rest replies run =
      record {
        middle = old;
        earlier = [];
        later = replies;
        replies_are = refl;
        begins = refl;
        goes_on = at_same position (position + 0) entries old rest replies new (omega arith) run;
      }
  cut position entries old new (c ∷ first) rest [] never = absurd never
  cut position entries old new (c ∷ first) rest (r ∷ replies) run =
      let after = live_after position (kind.effect c r) entries in
      let two = cut (position + 1) after run.0 new first rest replies run.2 in
      let more = live_from (position + 1) after (effects kind first two.earlier) in
      record {
        middle = two.middle;
        earlier = r ∷ two.earlier;
        later = two.later;
        replies_are = ap (λ (l : List Reply). r ∷ l) two.replies_are;
        begins = (run.0, run.1, two.begins);
        goes_on = at_same ((position + 1) + length first) (position + length (c ∷ first)) more two.middle rest two.later new
            (omega arith) two.goes_on;
      }

  -- as many replies as commands
  pub answered_each : (position : ℕ) (entries : List Entry) (old new : S) (commands : List C) (replies : List Reply)
      → Runs kind position entries old commands replies new → length replies ≡ length commands
  answered_each position entries old new [] [] run = refl
  answered_each position entries old new [] (r ∷ replies) never = absurd never
  answered_each position entries old new (c ∷ commands) [] never = absurd never
  answered_each position entries old new (c ∷ commands) (r ∷ replies) run =
      let more = answered_each (position + 1) (live_after position (kind.effect c r) entries) run.0 new commands replies run.2 in
      omega (arith, more)

  pub cut_anywhere : IsCutAnywhere kind
  cut_anywhere position entries old first rest replies new = (
    λ run. cut position entries old new first rest replies run,
    λ two. subst (λ (l : List Reply). Runs kind position entries old (first ++ rest) l new) (sym two.replies_are)
        (joined position entries old two.middle new first rest two.earlier two.later two.begins two.goes_on),
  )
