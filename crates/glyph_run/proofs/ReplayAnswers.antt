-- What was streamed for a script answers it, and what answers all that was read answers the reader.
use Rattle.std.proofs.Common.{◌≡◌, ℕ, ◌+◌, inr, Option, None, Some, List, [], ◌∷◌, ◌++◌, Result, Ok, Err, length, take, refl, ap, sym, ◌∙◌, subst, arith}
use Rattle.std.specs.Io.KnownBytes.{Appends, Keeps}
use Rattle.std.proofs.Math.Seq.{take-append-add}
use Rattle.std.proofs.lemmas.List.{length-append, take_all}
use Rattle.std.proofs.KnownBytes.{Keeps-trans}
use Rattle.etagere_base.specs.Frames.{IsAccepted, atlas_frame, longest_side}
use Rattle.pictures.specs.Sending.{AppendsBeginning}
use Rattle.run_scripts.specs.declared.faults.Outcome.{Outcome}
use Rattle.run_scripts.specs.declared.faults.Outcome.TheVariants.{Done}
use Rattle.run_scripts.specs.declared.faults.ReplayFault.{ReplayFault}
use Rattle.run_scripts.specs.declared.faults.ReplayFault.TheVariants.{Read, Write, Memory}
use Rattle.glyph_shelf.specs.Cache.{CacheState}
use Rattle.glyph_run.specs.declared.commands.GlyphCommand.{GlyphCommand}
use Rattle.glyph_run.specs.Replaying.{Replays}
use Rattle.glyph_run.specs.ReplyText.{line_of, replies_text}
use Rattle.glyph_run.specs.Runs.{RunKeepsPromisesThroughout, RunsTo}
use Rattle.glyph_run.specs.Script.{Request, script_of}
use Rattle.glyph_run.specs.Streaming.{StopsAt, StreamsRun}
use Rattle.glyph_run.proofs.StreamsOn.{text-more}

module _ (input : List ℕ) (request : Request) (old new : Option (List ℕ))
    (spelled : script_of input ≡ Ok request)
    (accepted : IsAccepted longest_side request.setup.size request.setup.options) where
  -- a script that was streamed whole was run
  pub streamed-replays : (last : CacheState) → StreamsRun (atlas_frame request.setup.size request.setup.options) request.setup.capacity request.commands last old new
      → Replays (Some input) old new (Ok Done)
  streamed-replays last (text, run, out) =
      let frame = atlas_frame request.setup.size request.setup.options in
      let all = take_all (length request.commands) request.commands (omega arith) in (
        input,
        text,
        refl,
        record {
          run = record {
            request = request;
            count = length request.commands;
            replies = run.replies;
            spelled = spelled;
            accepted = accepted;
            within = omega arith;
            runs = subst (λ (l : List GlyphCommand). RunsTo frame request.setup.capacity l run.replies) (sym all) (last, run.run);
            promises = subst (λ (l : List GlyphCommand). RunKeepsPromisesThroughout frame request.setup.capacity l run.replies) (sym all) run.promises;
            text_is = run.text_is;
          };
          all = refl;
        },
        out,
      )

  -- a script whose stream stopped has a run of its first commands, of whose text this is a beginning
  pub stopped-replays : (stopped : CacheState) → StopsAt (atlas_frame request.setup.size request.setup.options) request.setup.capacity request.commands stopped old new
      → Replays (Some input) old new (Err Write)
  stopped-replays stopped stops =
      let front = replies_text stops.replies in
      let line = line_of stops.reply in
      let whole : AppendsBeginning old new (front ++ line) = (
        length front + stops.sent,
        omega (arith, stops.short, length-append front line),
        subst (Appends old new) (sym (take-append-add front line stops.sent)) stops.out,
      ) in
      let within = stops.within in (
        input,
        front ++ line,
        refl,
        inr (record {
          request = request;
          count = stops.position + 1;
          replies = stops.replies ++ stops.reply ∷ [];
          spelled = spelled;
          accepted = accepted;
          within = omega arith;
          runs = (stopped, stops.run);
          promises = stops.promises;
          text_is = text-more stops.replies stops.reply;
        }),
        whole,
      )

-- what was appended after nothing was
keeps-appends : (old middle new : Option (List ℕ)) (text : List ℕ) → Keeps old middle → Appends middle new text → Appends old new text
keeps-appends None middle new text keeps out = tt
keeps-appends (Some xs) None new text keeps out = absurd keeps
keeps-appends (Some xs) (Some ys) None text keeps out = absurd out
keeps-appends (Some xs) (Some ys) (Some zs) text keeps out = out ∙ ap (λ (l : List ℕ). l ++ text) keeps

-- a replay goes on after nothing was written
pub keeps-replays : (remaining old middle new : Option (List ℕ)) (result : Result Outcome ReplayFault)
    → Keeps old middle → Replays remaining middle new result → Replays remaining old new result
keeps-replays remaining old middle new (Ok outcome) keeps (input, text, is, answers, out) =
    (input, text, is, answers, keeps-appends old middle new text keeps out)
keeps-replays remaining old middle new (Err Read) keeps kept = Keeps-trans old middle new keeps kept
keeps-replays remaining old middle new (Err Write) keeps (input, text, is, begun, (sent, short, out)) =
    (input, text, is, begun, (sent, short, keeps-appends old middle new (take sent text) keeps out))
keeps-replays remaining old middle new (Err Memory) keeps kept = Keeps-trans old middle new keeps kept
