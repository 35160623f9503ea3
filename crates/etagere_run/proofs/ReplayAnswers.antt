-- What was streamed for a script answers it, and what answers all that was read answers the reader.
use Rattle.std.proofs.Common.{◌≡◌, ℕ, Option, None, Some, List, ◌++◌, Result, Ok, Err, take, refl, ap, ◌∙◌}
use Rattle.std.specs.Io.KnownBytes.{Appends, Keeps}
use Rattle.std.proofs.KnownBytes.{Keeps-trans}
use Rattle.etagere_base.specs.declared.faults.OptionsFault.{OptionsFault}
use Rattle.etagere_base.specs.declared.geometry.Size.{Size}
use Rattle.etagere_base.specs.declared.options.AllocatorOptions.{AllocatorOptions}
use Rattle.etagere_base.specs.Frames.{IsAccepted}
use Rattle.run_scripts.specs.declared.faults.Outcome.{Outcome}
use Rattle.run_scripts.specs.declared.faults.Outcome.TheVariants.{Done}
use Rattle.run_scripts.specs.declared.faults.ReplayFault.{ReplayFault}
use Rattle.run_scripts.specs.declared.faults.ReplayFault.TheVariants.{Read, Write, Memory}
use Rattle.run_scripts.specs.declared.faults.StreamFault.TheVariants as stream_faults
use Rattle.etagere_run.specs.Replaying.{Replays, longest_asked}
use Rattle.run_scripts.specs.Script.{Commands, OfBuckets, OfShelves, Request, script_of}
use Rattle.etagere_run.specs.Private.ScriptStreaming.{StreamsScript}

-- a request of its parts
abbrev asks : Size → AllocatorOptions → Commands → Request
asks size options commands = record { size = size; options = options; commands = commands }

-- a script that was streamed whole was run
pub streamed-replays : {T : Type 0} (input : List ℕ) (size : Size) (options : AllocatorOptions) (commands : Commands)
    (old new : Option (List ℕ)) (done : T)
    → script_of input ≡ Ok (asks size options commands)
    → IsAccepted (longest_asked commands) size options
    → StreamsScript size options commands old new (Ok done)
    → Replays (Some input) old new (Ok Done)
streamed-replays input size options (OfShelves commands) old new done spelled accepted (last, text, run, out) = (
  text,
  (
    input,
    refl,
    record {
      request = asks size options (OfShelves commands);
      replies = run.replies;
      spelled = spelled;
      accepted = accepted;
      runs = (last, run.run);
      promises = run.promises;
      text_is = run.text_is;
    },
  ),
  out,
)
streamed-replays input size options (OfBuckets commands) old new done spelled accepted (last, text, run, out) = (
  text,
  (
    input,
    refl,
    record {
      request = asks size options (OfBuckets commands);
      replies = run.replies;
      spelled = spelled;
      accepted = accepted;
      runs = (last, run.run);
      promises = run.promises;
      text_is = run.text_is;
    },
  ),
  out,
)

-- a script of which a beginning was streamed has a run, of whose text this is a beginning
pub begun-replays : (T : Type 0) (input : List ℕ) (size : Size) (options : AllocatorOptions) (commands : Commands)
    (old new : Option (List ℕ))
    → script_of input ≡ Ok (asks size options commands)
    → IsAccepted (longest_asked commands) size options
    → StreamsScript {T = T} size options commands old new (Err stream_faults.Write)
    → Replays (Some input) old new (Err Write)
begun-replays T input size options (OfShelves commands) old new spelled accepted (last, text, run, out) = (
  Done,
  text,
  (
    input,
    refl,
    record {
      request = asks size options (OfShelves commands);
      replies = run.replies;
      spelled = spelled;
      accepted = accepted;
      runs = (last, run.run);
      promises = run.promises;
      text_is = run.text_is;
    },
  ),
  out,
)
begun-replays T input size options (OfBuckets commands) old new spelled accepted (last, text, run, out) = (
  Done,
  text,
  (
    input,
    refl,
    record {
      request = asks size options (OfBuckets commands);
      replies = run.replies;
      spelled = spelled;
      accepted = accepted;
      runs = (last, run.run);
      promises = run.promises;
      text_is = run.text_is;
    },
  ),
  out,
)

-- what was appended after nothing was
keeps-appends : (old middle new : Option (List ℕ)) (text : List ℕ) → Keeps old middle → Appends middle new text → Appends old new text
keeps-appends None middle new text keeps out = tt
keeps-appends (Some xs) None new text keeps out = absurd keeps
keeps-appends (Some xs) (Some ys) None text keeps out = absurd out
keeps-appends (Some xs) (Some ys) (Some zs) text keeps out = out ∙ ap (λ (l : List ℕ). l ++ text) keeps

-- nothing was written of a script whose options have a fault
pub refused-keeps : (T : Type 0) (size : Size) (options : AllocatorOptions) (commands : Commands) (old new : Option (List ℕ)) (fault : OptionsFault)
    → StreamsScript {T = T} size options commands old new (Err (stream_faults.Options fault)) → Keeps old new
refused-keeps T size options (OfShelves commands) old new fault keeps = keeps
refused-keeps T size options (OfBuckets commands) old new fault keeps = keeps

-- a replay goes on after nothing was written
pub keeps-replays : (remaining old middle new : Option (List ℕ)) (result : Result Outcome ReplayFault)
    → Keeps old middle → Replays remaining middle new result → Replays remaining old new result
keeps-replays remaining old middle new (Ok outcome) keeps (text, answers, out) =
    (text, answers, keeps-appends old middle new text keeps out)
keeps-replays remaining old middle new (Err Read) keeps kept = Keeps-trans old middle new keeps kept
keeps-replays remaining old middle new (Err Write) keeps (outcome, text, answers, (sent, short, out)) =
    (outcome, text, answers, (sent, short, keeps-appends old middle new (take sent text) keeps out))
keeps-replays remaining old middle new (Err Memory) keeps kept = Keeps-trans old middle new keeps kept
