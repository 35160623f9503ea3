-- A step of any kind of run that changes nothing is an answer.
use Rattle.std.proofs.Common.{◌≡◌, ℕ, List, ap, subst, sym}
use Rattle.etagere_base.specs.declared.frames.Frame.{Frame}
use Rattle.run_scripts.specs.declared.commands.Reply.{Reply}
use Rattle.etagere_run.specs.Answers.Live.{Effect, Entry, Keeps, live_after}
use Rattle.etagere_run.specs.Answers.Runs.{Kind}
use Rattle.etagere_run.specs.Answers.Private.Tied.{IsAnswerOf, SameAlignments}

-- an equal frame has the same alignments
pub alignments-same : (old new : Frame) → new ≡ old → SameAlignments old new
alignments-same old new is =
    record {
      width = ap (λ (f : Frame). f.alignment_width) is;
      height = ap (λ (f : Frame). f.alignment_height) is;
      direction = ap (λ (f : Frame). f.vertical) is;
    }

-- the state stays, and so does what is live
pub kept : {S C : Type 0} (kind : Kind S C) (Tied : List Entry → S → Type 0) (position : ℕ) (command : C) (reply : Reply)
    (entries : List Entry) (old new : S)
    → Tied entries old → kind.Step entries old command reply new → kind.effect command reply ≡ Keeps → new ≡ old
    → IsAnswerOf kind Tied position command reply entries entries old new
kept {S} kind Tied position command reply entries old new tied step keeps same =
    record {
      step = step;
      live_is = ap (λ (effect : Effect). live_after position effect entries) (sym keeps);
      alignments = alignments-same (kind.frame old) (kind.frame new) (ap kind.frame same);
      tied = subst (Tied entries) (sym same) tied;
    }
