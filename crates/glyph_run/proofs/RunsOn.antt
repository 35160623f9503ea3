-- A run goes on by one command, and keeps its promises at each moment.
use Rattle.std.proofs.Common.{◌≡◌, ℕ, ◌+◌, ◌<◌, ◌≤◌, List, [], ◌∷◌, ◌++◌, length, get_or, take, refl, ap, sym, ◌∙◌, subst, ⊎_elim, arith}
use Rattle.std.proofs.lemmas.Bool.{cases_lt}
use Rattle.std.proofs.lemmas.List.{length-append, take-append-le, take_all, take_more}
use Rattle.etagere_base.specs.declared.frames.Frame.{Frame}
use Rattle.etagere_base.specs.declared.geometry.Rectangle.{Rectangle}
use Rattle.glyph_shelf.specs.Cache.{CacheState, empty_cache}
use Rattle.glyph_shelf.specs.Promises.{KeepsCachePromises}
use Rattle.glyph_run.specs.declared.commands.GlyphCommand.{GlyphCommand}
use Rattle.glyph_run.specs.declared.commands.GlyphReply.{GlyphReply}
use Rattle.glyph_run.specs.Runs.{GlyphStep, RunKeepsPromises, RunKeepsPromisesThroughout, Runs, rectangles, told_after, told_from}
use Rattle.glyph_run.proofs.StepsTold.{bounds-step, told-step}

-- a run and one more step are a run
Runs-more : (old middle new : CacheState) (commands : List GlyphCommand) (replies : List GlyphReply) (command : GlyphCommand) (reply : GlyphReply)
    → Runs old commands replies middle → GlyphStep middle command reply new
    → Runs old (commands ++ command ∷ []) (replies ++ reply ∷ []) new
Runs-more old middle new [] [] command reply run step =
    (new, subst (λ (state : CacheState). GlyphStep state command reply new) run step, refl)
Runs-more old middle new [] (r ∷ replies) command reply run step = absurd run
Runs-more old middle new (c ∷ commands) [] command reply run step = absurd run
Runs-more old middle new (c ∷ commands) (r ∷ replies) command reply run step =
    (run.0, run.1, Runs-more run.0 middle new commands replies command reply run.2 step)

-- what replies and one more tell
told-more : (told : List (ℕ × Rectangle)) (commands : List GlyphCommand) (replies : List GlyphReply) (command : GlyphCommand) (reply : GlyphReply)
    → length replies ≡ length commands
    → told_from told (commands ++ command ∷ []) (replies ++ reply ∷ []) ≡ told_after command reply (told_from told commands replies)
told-more told [] [] command reply same = refl
told-more told [] (r ∷ replies) command reply same = absurd (omega arith)
told-more told (c ∷ commands) [] command reply same = absurd (omega arith)
told-more told (c ∷ commands) (r ∷ replies) command reply same =
    told-more (told_after c r told) commands replies command reply (omega arith)

-- a run so far, of a new cache of this frame and capacity
pub record IsUnderWay (frame : Frame) (capacity : ℕ) (commands : List GlyphCommand) (replies : List GlyphReply) (state : CacheState)
    : Type 0 where
  pub lengths : length replies ≡ length commands
  pub run : Runs (empty_cache frame capacity) commands replies state
  pub told_is : told_from [] commands replies ≡ rectangles state
  pub promises : KeepsCachePromises state
  pub same_frame : state.atlas.frame ≡ frame
  pub same_capacity : state.capacity ≡ capacity
  pub throughout : RunKeepsPromisesThroughout frame capacity commands replies

module _ (frame : Frame) (capacity : ℕ) where
  -- a fact holds at one moment more
  throughout-more : (commands : List GlyphCommand) (replies : List GlyphReply) (command : GlyphCommand) (reply : GlyphReply)
      → length replies ≡ length commands
      → RunKeepsPromisesThroughout frame capacity commands replies
      → RunKeepsPromises frame capacity (commands ++ command ∷ []) (replies ++ reply ∷ [])
      → RunKeepsPromisesThroughout frame capacity (commands ++ command ∷ []) (replies ++ reply ∷ [])
  throughout-more commands replies command reply same so_far now n within =
      ⊎_elim
      (λ last. rw (
        take_all n (commands ++ command ∷ []) (omega (arith, length-append commands (command ∷ []), last)),
        take_all n (replies ++ reply ∷ []) (omega (arith, length-append replies (reply ∷ []), last, same)),
      ) now)
      (λ before. rw (
        take-append-le n commands (command ∷ []) before,
        take-append-le n replies (reply ∷ []) (omega (arith, before, same)),
      ) (so_far n before))
      (cases_lt (length commands) n)

  -- one command later
  under_way-more : (commands : List GlyphCommand) (replies : List GlyphReply) (old new : CacheState) (command : GlyphCommand) (reply : GlyphReply)
      → IsUnderWay frame capacity commands replies old → GlyphStep old command reply new → KeepsCachePromises new
      → IsUnderWay frame capacity (commands ++ command ∷ []) (replies ++ reply ∷ []) new
  under_way-more commands replies old new command reply way step promises =
      let bounds = bounds-step old command reply new step in
      let run = Runs-more (empty_cache frame capacity) old new commands replies command reply way.run step in
      let told_is = told-more [] commands replies command reply way.lengths
      ∙ ap (told_after command reply) way.told_is
      ∙ sym (told-step old command reply new way.promises step) in
      record {
        lengths = omega (arith, length-append replies (reply ∷ []), length-append commands (command ∷ []), way.lengths);
        run = run;
        told_is = told_is;
        promises = promises;
        same_frame = bounds.frame ∙ way.same_frame;
        same_capacity = bounds.capacity ∙ way.same_capacity;
        throughout = throughout-more commands replies command reply way.lengths way.throughout
            (record {
              state = new;
              run = run;
              told_is = told_is;
              promises = promises;
              same_frame = bounds.frame ∙ way.same_frame;
              same_capacity = bounds.capacity ∙ way.same_capacity;
            });
      }

  -- before the first command
  pub starts : (state : CacheState) → state ≡ empty_cache frame capacity → KeepsCachePromises state
      → IsUnderWay frame capacity [] [] state
  starts state is promises =
      let commands : List GlyphCommand = [] in
      let replies : List GlyphReply = [] in
      let told_is : told_from [] commands replies ≡ rectangles state = sym (ap rectangles is) in
      let same_frame = ap (λ (s : CacheState). s.atlas.frame) is in
      let same_capacity = ap (λ (s : CacheState). s.capacity) is in
      record {
        lengths = refl;
        run = is;
        told_is = told_is;
        promises = promises;
        same_frame = same_frame;
        same_capacity = same_capacity;
        throughout = λ n within. rw (take_all n commands (omega arith), take_all n replies (omega arith))
            (record {
              state = state;
              run = is;
              told_is = told_is;
              promises = promises;
              same_frame = same_frame;
              same_capacity = same_capacity;
            });
      }

  -- after the command at a position was answered
  pub goes_on : (commands : List GlyphCommand) (position : ℕ) (d : GlyphCommand) (replies longer : List GlyphReply) (reply : GlyphReply)
      (old new : CacheState)
      → position < length commands
      → IsUnderWay frame capacity (take position commands) replies old
      → GlyphStep old (get_or commands position d) reply new → KeepsCachePromises new
      → longer ≡ replies ++ reply ∷ []
      → IsUnderWay frame capacity (take (position + 1) commands) longer new
  goes_on commands position d replies longer reply old new within way step promises longer_is =
      let front = take position commands in
      rw (take_more commands position d within, longer_is)
      (under_way-more front replies old new (get_or commands position d) reply way step promises)

  -- after the last command
  pub ends : (commands : List GlyphCommand) (position : ℕ) (replies : List GlyphReply) (state : CacheState)
      → length commands ≤ position → IsUnderWay frame capacity (take position commands) replies state
      → IsUnderWay frame capacity commands replies state
  ends commands position replies state all way =
      subst (λ (l : List GlyphCommand). IsUnderWay frame capacity l replies state) (take_all position commands all) way
