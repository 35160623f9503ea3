-- States to which commands may lead, where memory was there for each.
use Rattle.std.specs.Prelude.{◌≢◌, All, List, []}
use Rattle.etagere_base.specs.declared.frames.Frame.{Frame}
use Rattle.run_scripts.specs.declared.commands.Reply.{Reply}
use Rattle.run_scripts.specs.declared.commands.Reply.TheVariants.{NoMemory}
use Rattle.etagere_run.specs.Answers.Runs.{Kind, Runs, RunKeepsPromisesThroughout}

-- memory was there for the command that has this reply
abbrev pub HasMemory : Reply → Type 0
HasMemory reply = reply ≢ NoMemory

-- The commands may lead a new state of this frame to this one: with some replies, none of which is that memory was
-- wanting, in a run that keeps its promises at each moment.
pub record LeadsTo {S C : Type 0} (kind : Kind S C) (frame : Frame) (commands : List C) (last : S) : Type 0 where
  pub replies : List Reply
  pub run : Runs kind 0 [] (kind.fresh frame) commands replies last
  pub memory : All HasMemory replies
  pub promises : RunKeepsPromisesThroughout kind frame commands replies
