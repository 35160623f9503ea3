-- A run of any kind goes on by one command, and keeps its promises at each moment.
use Rattle.std.proofs.Common.{◌≡◌, ℕ, zero, suc, ◌+◌, ◌<◌, ◌≤◌, Option, None, Some, List, [], ◌∷◌, ◌++◌, length, get_or, take, refl, ap, sym, ◌∙◌, subst, ⊎_elim, arith}
use Rattle.std.specs.List.{AllByRecursion, last_or, slice_get}
use Rattle.std.proofs.lemmas.Bool.{cases_lt}
use Rattle.std.proofs.lemmas.List.{append-nil, append_assoc, length-append, length-take-le, take-append-le, take_all, take_more}
use Rattle.etagere_base.specs.declared.frames.Frame.{Frame}
use Rattle.etagere_base.specs.declared.geometry.Rectangle.{Rectangle}
use Rattle.etagere_base.specs.declared.geometry.Size.{Size}
use Rattle.etagere_base.specs.declared.ids.Allocation.{Allocation}
use Rattle.etagere_base.specs.Rectangles.{IsLarge}
use Rattle.etagere_base.proofs.EachLemmas.{Each-weaken}
use Rattle.etagere_base.proofs.ReplacedLists.{slice_get-append}
use Rattle.run_scripts.specs.declared.commands.Reply.{Reply}
use Rattle.run_scripts.specs.declared.commands.Reply.TheVariants.{Placed}
use Rattle.etagere_run.specs.Answers.Live.{Effect, Entry, live_after, live_allocations, live_from, peak, peak_after}
use Rattle.etagere_run.specs.Answers.Runs.{IsGiven, KeepsPromisesIn, Kind, Runs, RunKeepsPromises, RunKeepsPromisesThroughout, Throughout, effects, live_in}
use Rattle.etagere_run.specs.Answers.Private.Tied.{IsAnswerOf, IsAsked, SameAlignments, SuitsRuns}
use Rattle.etagere_run.proofs.RunAnswers.LiveEntries.{Each-after, live_from-more, peak_from-more}

-- an element of the front is one of the whole
slice_get-front : {X : Type 0} (xs ys : List X) (n : ℕ) (x : X) → slice_get xs n ≡ Some x → slice_get (xs ++ ys) n ≡ Some x
slice_get-front [] ys n x is = absurd (cc)
slice_get-front (y ∷ xs) ys zero x is = is
slice_get-front (y ∷ xs) ys (suc n) x is = slice_get-front xs ys n x is

-- what is large in one frame is large in another with the same alignments
IsLarge-same : (old new : Frame) (size : Size) (rectangle : Rectangle) → SameAlignments old new
    → IsLarge new size rectangle → IsLarge old size rectangle
IsLarge-same old new size rectangle same large =
    record { width = rw same.width at large.width; height = rw same.height at large.height }

-- the last of replies with one more
last-more : (other : Option Reply) (replies : List Reply) (reply : Reply) → last_or other (replies ++ reply ∷ []) ≡ Some reply
last-more other [] reply = refl
last-more other (first ∷ replies) reply = last-more (Some first) replies reply

-- a fact holds at one moment more
Throughout-more : {C : Type 0} (P : List C → List Reply → Type 0) (commands : List C) (replies : List Reply) (command : C) (reply : Reply)
    → length replies ≡ length commands
    → Throughout P commands replies
    → P (commands ++ command ∷ []) (replies ++ reply ∷ [])
    → Throughout P (commands ++ command ∷ []) (replies ++ reply ∷ [])
Throughout-more P commands replies command reply same so_far now n within =
    ⊎_elim
    (λ last. rw (
      take_all n (commands ++ command ∷ []) (omega (arith, length-append commands (command ∷ []), last)),
      take_all n (replies ++ reply ∷ []) (omega (arith, length-append replies (reply ∷ []), last, same)),
    ) now)
    (λ before. rw (
      take-append-le n commands (command ∷ []) before,
      take-append-le n replies (reply ∷ []) (omega (arith, before, same)),
    ) (so_far n before))
    (cases_lt (length commands) n)

module _ {S C : Type 0} (kind : Kind S C) where
  -- as many effects as commands
  length-effects : (commands : List C) (replies : List Reply) → length replies ≡ length commands
      → length (effects kind commands replies) ≡ length commands
  length-effects [] replies same = refl
  length-effects (c ∷ commands) [] same = absurd (omega arith)
  length-effects (c ∷ commands) (r ∷ replies) same = ap suc (length-effects commands replies (omega arith))

  -- the effects of one more command
  effects-more : (commands : List C) (replies : List Reply) (command : C) (reply : Reply) → length replies ≡ length commands
      → effects kind (commands ++ command ∷ []) (replies ++ reply ∷ [])
      ≡ effects kind commands replies ++ kind.effect command reply ∷ []
  effects-more [] [] command reply same = refl
  effects-more [] (r ∷ replies) command reply same = absurd (omega arith)
  effects-more (c ∷ commands) [] command reply same = absurd (omega arith)
  effects-more (c ∷ commands) (r ∷ replies) command reply same =
      ap (λ (l : List Effect). kind.effect c r ∷ l) (effects-more commands replies command reply (omega arith))

  -- what is live after one more command
  live_in-more : (commands : List C) (replies : List Reply) (command : C) (reply : Reply) → length replies ≡ length commands
      → live_in kind (commands ++ command ∷ []) (replies ++ reply ∷ [])
      ≡ live_after (length commands) (kind.effect command reply) (live_in kind commands replies)
  live_in-more commands replies command reply same =
      let so_far = effects kind commands replies in
      let count = length-effects commands replies same in
      rw (effects-more commands replies command reply same)
      (live_from-more 0 [] so_far (kind.effect command reply)
      ∙ ap (λ n. live_after n (kind.effect command reply) (live_in kind commands replies)) (omega arith))

  -- the most that was live after one more command
  peak-more : (commands : List C) (replies : List Reply) (command : C) (reply : Reply) (entries later : List Entry)
      → length replies ≡ length commands → entries ≡ live_in kind commands replies
      → later ≡ live_after (length commands) (kind.effect command reply) entries
      → peak (effects kind (commands ++ command ∷ []) (replies ++ reply ∷ []))
      ≡ peak_after (kind.effect command reply) (peak (effects kind commands replies)) (length later)
  peak-more commands replies command reply entries later same live_is later_is =
      let so_far = effects kind commands replies in
      let effect = kind.effect command reply in
      let at : 0 + length so_far ≡ length commands = omega (arith, length-effects commands replies same) in
      let is : live_after (0 + length so_far) effect (live_in kind commands replies) ≡ later =
      ap (λ n. live_after n effect (live_in kind commands replies)) at
      ∙ ap (live_after (length commands) effect) (sym live_is)
      ∙ sym later_is in
      ap peak (effects-more commands replies command reply same)
      ∙ peak_from-more 0 0 [] so_far effect
      ∙ ap (λ (l : List Entry). peak_after effect (peak so_far) (length l)) is

  -- a run and one more step are a run
  Runs-more : (position : ℕ) (entries : List Entry) (old middle new : S) (commands : List C) (replies : List Reply)
      (command : C) (reply : Reply)
      → Runs kind position entries old commands replies middle
      → kind.Step (live_from position entries (effects kind commands replies)) middle command reply new
      → Runs kind position entries old (commands ++ command ∷ []) (replies ++ reply ∷ []) new
  Runs-more position entries old middle new [] [] command reply run step =
      (new, subst (λ (state : S). kind.Step entries state command reply new) run step, refl)
  Runs-more position entries old middle new [] (r ∷ replies) command reply run step = absurd run
  Runs-more position entries old middle new (c ∷ commands) [] command reply run step = absurd run
  Runs-more position entries old middle new (c ∷ commands) (r ∷ replies) command reply run step = (
    run.0,
    run.1,
    Runs-more (position + 1) (live_after position (kind.effect c r) entries) run.0 middle new commands replies command reply
        run.2 step,
  )

  -- what was given stays so after one more command
  IsGiven-more : (frame : Frame) (commands : List C) (replies : List Reply) (command : C) (reply : Reply) (entry : Entry)
      → IsGiven kind frame commands replies entry
      → IsGiven kind frame (commands ++ command ∷ []) (replies ++ reply ∷ []) entry
  IsGiven-more frame commands replies command reply entry given =
      record {
        size = given.size;
        command = slice_get-front commands (command ∷ []) entry.position (kind.allocate given.size) given.command;
        reply = slice_get-front replies (reply ∷ []) entry.position (Placed entry.allocation) given.reply;
        large = given.large;
      }

  -- what was just asked for is given
  IsGiven-last : (frame : Frame) (old : S) (commands : List C) (replies : List Reply) (command : C) (reply : Reply)
      (allocation : Allocation)
      → length replies ≡ length commands
      → SameAlignments frame (kind.frame old)
      → IsAsked kind old command reply allocation
      → IsGiven kind frame (commands ++ command ∷ []) (replies ++ reply ∷ [])
      (record { position = length commands; allocation = allocation })
  IsGiven-last frame old commands replies command reply allocation same alignments asked =
      record {
        size = asked.size;
        command = rw asked.command_is
            (slice_get-append commands (kind.allocate asked.size) [] (length commands) refl);
        reply = rw asked.reply_is (slice_get-append replies (Placed allocation) [] (length commands) same);
        large = IsLarge-same frame (kind.frame old) asked.size allocation.rectangle alignments asked.large;
      }

module _ {S C : Type 0} (kind : Kind S C) (Tied : List Entry → S → Type 0) where
  -- a run so far: its ledger and its atlas
  pub record IsUnderWay (frame : Frame) (commands : List C) (replies : List Reply) (entries : List Entry) (state : S) : Type 0 where
    pub lengths : length replies ≡ length commands
    pub live_is : entries ≡ live_in kind commands replies
    pub run : Runs kind 0 [] (kind.fresh frame) commands replies state
    pub alignments : SameAlignments frame (kind.frame state)
    pub tied : Tied entries state
    pub given : AllByRecursion (IsGiven kind frame commands replies) entries
    pub bounded : kind.StaysWithin (peak (effects kind commands replies)) state (live_allocations entries) (last_or None replies)

  -- one command later
  IsUnderWay-more : SuitsRuns kind Tied → (frame : Frame) (commands : List C) (replies : List Reply) (entries later : List Entry) (old new : S)
      (command : C) (reply : Reply)
      → IsUnderWay frame commands replies entries old
      → IsAnswerOf kind Tied (length commands) command reply entries later old new
      → IsUnderWay frame (commands ++ command ∷ []) (replies ++ reply ∷ []) later new
  IsUnderWay-more suits frame commands replies entries later old new command reply way answer =
      let effect = kind.effect command reply in
      let position = length commands in
      let given = IsGiven kind frame (commands ++ command ∷ []) (replies ++ reply ∷ []) in
      record {
        lengths = omega (arith, length-append replies (reply ∷ []), length-append commands (command ∷ []), way.lengths);
        live_is = answer.live_is
            ∙ ap (live_after position effect) way.live_is
            ∙ sym (live_in-more kind commands replies command reply way.lengths);
        run = Runs-more kind 0 [] (kind.fresh frame) old new commands replies command reply way.run
            (subst (λ (l : List Entry). kind.Step l old command reply new) way.live_is answer.step);
        alignments = record {
          width = answer.alignments.width ∙ way.alignments.width;
          height = answer.alignments.height ∙ way.alignments.height;
          direction = answer.alignments.direction ∙ way.alignments.direction;
        };
        tied = answer.tied;
        given = subst (AllByRecursion given) (sym answer.live_is)
            (Each-after given position effect entries
            (λ allocation adds. IsGiven-last kind frame old commands replies command reply allocation way.lengths way.alignments
            (suits.asked entries old new command reply answer.step allocation adds))
            (Each-weaken (IsGiven kind frame commands replies) given entries
            (IsGiven-more kind frame commands replies command reply) way.given));
        bounded = rw (
          peak-more kind commands replies command reply entries later way.lengths way.live_is answer.live_is,
          last-more None replies reply,
        ) (suits.bounded_more position entries later old new command reply (peak (effects kind commands replies))
            (last_or None replies) answer way.bounded);
      }

  -- a run that is under way keeps its promises in its state
  pub way-promises : SuitsRuns kind Tied → (frame : Frame) (commands : List C) (replies : List Reply) (entries : List Entry) (state : S)
      → IsUnderWay frame commands replies entries state → KeepsPromisesIn kind frame commands replies state
  way-promises suits frame commands replies entries state way =
      record {
        given = rw way.live_is at way.given;
        live = subst (λ (l : List Entry). kind.LiveKeepsPromises state (live_allocations l)) way.live_is
            (suits.promises entries state way.tied);
        bounded = rw way.live_is at way.bounded;
      }

  run-promises : SuitsRuns kind Tied → (frame : Frame) (commands : List C) (replies : List Reply) (entries : List Entry) (state : S)
      → IsUnderWay frame commands replies entries state → RunKeepsPromises kind frame commands replies
  run-promises suits frame commands replies entries state way =
      record { state = state; run = way.run; kept = way-promises suits frame commands replies entries state way }

  -- the run, and its promises, after one more command was answered
  pub goes_further : SuitsRuns kind Tied → (frame : Frame) (commands : List C) (command : C) (replies : List Reply) (reply : Reply)
      (entries later : List Entry) (old new : S)
      → IsUnderWay frame commands replies entries old
      → RunKeepsPromisesThroughout kind frame commands replies
      → IsAnswerOf kind Tied (length commands) command reply entries later old new
      → IsUnderWay frame (commands ++ command ∷ []) (replies ++ reply ∷ []) later new
      × RunKeepsPromisesThroughout kind frame (commands ++ command ∷ []) (replies ++ reply ∷ [])
  goes_further suits frame commands command replies reply entries later old new way so_far answer =
      let further = IsUnderWay-more suits frame commands replies entries later old new command reply way answer in (
        further,
        Throughout-more (RunKeepsPromises kind frame) commands replies command reply way.lengths so_far
            (run-promises suits frame (commands ++ command ∷ []) (replies ++ reply ∷ []) later new further),
      )

  -- the same after the command at a position
  pub goes_on : SuitsRuns kind Tied → (frame : Frame) (commands : List C) (position : ℕ) (command : C)
      (replies longer : List Reply) (reply : Reply) (entries later : List Entry) (old new : S)
      → position < length commands
      → command ≡ get_or commands position command
      → IsUnderWay frame (take position commands) replies entries old
      → RunKeepsPromisesThroughout kind frame (take position commands) replies
      → IsAnswerOf kind Tied position command reply entries later old new
      → longer ≡ replies ++ reply ∷ []
      → IsUnderWay frame (take (position + 1) commands) longer later new
      × RunKeepsPromisesThroughout kind frame (take (position + 1) commands) longer
  goes_on suits frame commands position command replies longer reply entries later old new within is way so_far answer longer_is =
      let front = take position commands in
      let here = length-take-le position commands (omega arith) in
      let more : take (position + 1) commands ≡ front ++ command ∷ [] =
      take_more commands position command within ∙ ap (λ c. front ++ c ∷ []) (sym is) in
      let further = goes_further suits frame front command replies reply entries later old new way so_far
      (subst (λ n. IsAnswerOf kind Tied n command reply entries later old new) (sym here) answer) in
      rw (more, longer_is) further

  -- the run before the first command
  pub starts : SuitsRuns kind Tied → (frame : Frame) (state : S)
      → state ≡ kind.fresh frame → SameAlignments frame (kind.frame state) → Tied [] state
      → IsUnderWay frame [] [] [] state × RunKeepsPromisesThroughout kind frame [] []
  starts suits frame state is alignments tied =
      let way : IsUnderWay frame [] [] [] state =
      record {
        lengths = refl;
        live_is = refl;
        run = is;
        alignments = alignments;
        tied = tied;
        given = tt;
        bounded = rw is (suits.bounded_fresh frame);
      } in
      let commands : List C = [] in
      let replies : List Reply = [] in (
        way,
        λ n within. rw (take_all n commands (omega arith), take_all n replies (omega arith))
            (run-promises suits frame [] [] [] state way),
      )

  -- after the last command
  pub ends : (frame : Frame) (commands : List C) (position : ℕ) (replies : List Reply) (entries : List Entry) (state : S)
      → length commands ≤ position
      → IsUnderWay frame (take position commands) replies entries state
      → RunKeepsPromisesThroughout kind frame (take position commands) replies
      → Runs kind 0 [] (kind.fresh frame) commands replies state × RunKeepsPromisesThroughout kind frame commands replies
  ends frame commands position replies entries state all way throughout =
      let is = take_all position commands all in
      let run : Runs kind 0 [] (kind.fresh frame) (take position commands) replies state = way.run in
      rw (← is) (run, throughout)

  -- a run that goes on to the end of the commands, and keeps its promises
  pub record GoesOn (frame : Frame) (commands : List C) (replies : List Reply) : Type 0 where
    pub others : List Reply
    pub last : S
    pub run : Runs kind 0 [] (kind.fresh frame) commands (replies ++ others) last
    pub promises : RunKeepsPromisesThroughout kind frame commands (replies ++ others)

  -- a run that is under way can go on, whatever commands are left
  pub can_go_on : SuitsRuns kind Tied → (frame : Frame) (front rest : List C) (replies : List Reply) (entries : List Entry) (state : S)
      → IsUnderWay frame front replies entries state → RunKeepsPromisesThroughout kind frame front replies
      → GoesOn frame (front ++ rest) replies
  can_go_on suits frame front [] replies entries state way so_far =
      record {
        others = [];
        last = state;
        run = rw (append-nil front, append-nil replies) way.run;
        promises = rw (append-nil front, append-nil replies) so_far;
      }
  can_go_on suits frame front (command ∷ rest) replies entries state way so_far =
      let next = suits.answers (length front) command entries state way.tied in
      let further = goes_further suits frame front command replies next.reply entries next.later state next.new way so_far next.answer in
      let end = can_go_on suits frame (front ++ command ∷ []) rest (replies ++ next.reply ∷ []) next.later next.new further.0 further.1 in
      let commands : (front ++ command ∷ []) ++ rest ≡ front ++ command ∷ rest = append_assoc front (command ∷ []) rest in
      let all : (replies ++ next.reply ∷ []) ++ end.others ≡ replies ++ next.reply ∷ end.others = append_assoc replies (next.reply ∷ []) end.others in
      record {
        others = next.reply ∷ end.others;
        last = end.last;
        run = subst (λ (l : List C). Runs kind 0 [] (kind.fresh frame) l (replies ++ next.reply ∷ end.others) end.last) commands
            (subst (λ (l : List Reply). Runs kind 0 [] (kind.fresh frame) ((front ++ command ∷ []) ++ rest) l end.last) all end.run);
        promises = subst (λ (l : List C). RunKeepsPromisesThroughout kind frame l (replies ++ next.reply ∷ end.others)) commands
            (subst (λ (l : List Reply). RunKeepsPromisesThroughout kind frame ((front ++ command ∷ []) ++ rest) l) all end.promises);
      }
