-- The lines of a run's replies that go out one by one: at each moment they are those of the commands so far, and where
-- the writer fails what went out is a beginning of those of a run of all commands.
use Rattle.std.proofs.Common.{◌≡◌, ℕ, ◌+◌, ◌<◌, ◌≤◌, false, Option, Result, Ok, Err, List, [], ◌∷◌, ◌++◌, length, get_or, take, drop, refl, ap, sym, ◌∙◌, arith, subst, append_assoc, length-append}
use Rattle.std.specs.Prelude.{OnErr, is_ok}
use Rattle.std.specs.Io.KnownBytes.{Appends}
use Rattle.std.proofs.lemmas.List.{append-nil, take-append-drop}
use Rattle.etagere_base.specs.declared.frames.Frame.{Frame}
use Rattle.pictures.specs.Sending.{AppendsBeginning, AppendsPart}
use Rattle.pictures.proofs.GatheringLemmas.{appends-both, appends-nothing, begins-behind, begins-first}
use Rattle.run_scripts.specs.declared.commands.Reply.{Reply}
use Rattle.etagere_run.specs.Answers.Live.{Entry}
use Rattle.run_scripts.specs.Lines.{line_feed}
use Rattle.run_scripts.specs.ReplyText.{line_of, replies_text, text_of}
use Rattle.etagere_run.specs.Answers.Runs.{Kind, RunKeepsPromisesThroughout}
use Rattle.etagere_run.specs.Streaming.{IsTextOfRun, StopsAt, StreamsBeginning}
use Rattle.etagere_run.specs.Answers.Private.Tied.{IsAnswerOf, SameAlignments, SuitsRuns}
use Rattle.etagere_run.proofs.RunAnswers.RunsOn.{GoesOn, IsUnderWay, can_go_on, ends, goes_on, starts}

-- the text of a front and a back, and of one reply more
text-append : (front back : List Reply) → replies_text (front ++ back) ≡ replies_text front ++ replies_text back
text-append [] back = refl
text-append (reply ∷ front) back =
    ap (λ (l : List ℕ). line_of reply ++ l) (text-append front back)
    ∙ sym (append_assoc (line_of reply) (replies_text front) (replies_text back))

text-more : (replies : List Reply) (reply : Reply) → replies_text replies ++ line_of reply ≡ replies_text (replies ++ reply ∷ [])
text-more replies reply =
    ap (λ (l : List ℕ). replies_text replies ++ l) (sym (append-nil (line_of reply)))
    ∙ sym (text-append replies (reply ∷ []))

-- the text of a run that goes on after one reply more
text-goes_on : (replies others : List Reply) (reply : Reply)
    → replies_text replies ++ (line_of reply ++ replies_text others) ≡ replies_text ((replies ++ reply ∷ []) ++ others)
text-goes_on replies others reply =
    sym (append_assoc (replies_text replies) (line_of reply) (replies_text others))
    ∙ ap (λ (l : List ℕ). l ++ replies_text others) (text-more replies reply)
    ∙ sym (text-append (replies ++ reply ∷ []) others)

-- a line has bytes
pub line-some : (reply : Reply) → 0 < length (line_of reply)
line-some reply = omega (arith, length-append (text_of reply) (line_feed ∷ []))

-- what holds where there is an error holds where a result isn't well
pub on_err-failed : {T E P : Type 0} (result : Result T E) → is_ok result ≡ false → OnErr result P → P
on_err-failed (Ok value) failed holds = absurd (cc)
on_err-failed (Err error) failed holds = holds

module _ {S C : Type 0} (kind : Kind S C) (Tied : List Entry → S → Type 0) where
  -- a stream so far: the lines of a run's replies went out
  pub record IsStreaming (frame : Frame) (commands : List C) (entries : List Entry) (state : S) (start now : Option (List ℕ)) : Type 0 where
    pub replies : List Reply
    pub way : IsUnderWay kind Tied frame commands replies entries state
    pub throughout : RunKeepsPromisesThroughout kind frame commands replies
    pub out : Appends start now (replies_text replies)

  -- before the first command
  pub stream-starts : SuitsRuns kind Tied → (frame : Frame) (state : S) (start : Option (List ℕ))
      → state ≡ kind.fresh frame → SameAlignments frame (kind.frame state) → Tied [] state
      → IsStreaming frame [] [] state start start
  stream-starts suits frame state start is alignments tied =
      let first = starts kind Tied suits frame state is alignments tied in
      record { replies = []; way = first.0; throughout = first.1; out = appends-nothing start }

  module _ (suits : SuitsRuns kind Tied) (frame : Frame) (commands : List C) (position : ℕ) (command : C) (reply : Reply)
      (entries later : List Entry) (old new : S) (start now next : Option (List ℕ)) where
    -- one command later
    pub stream-goes_on : position < length commands → command ≡ get_or commands position command
        → IsStreaming frame (take position commands) entries old start now
        → IsAnswerOf kind Tied position command reply entries later old new
        → Appends now next (line_of reply)
        → IsStreaming frame (take (position + 1) commands) later new start next
    stream-goes_on within is so_far answer out =
        let replies = so_far.replies in
        let further = goes_on kind Tied suits frame commands position command replies (replies ++ reply ∷ []) reply entries later old new
        within is so_far.way so_far.throughout answer refl in
        record {
          replies = replies ++ reply ∷ [];
          way = further.0;
          throughout = further.1;
          out = subst (Appends start next) (text-more replies reply)
              (appends-both start now next (replies_text replies) (line_of reply) so_far.out out);
        }

    -- where the writer fails at the line of a reply, the run could go on
    pub stream-stops : position < length commands → command ≡ get_or commands position command
        → IsStreaming frame (take position commands) entries old start now
        → IsAnswerOf kind Tied position command reply entries later old new
        → AppendsBeginning now next (line_of reply)
        → StreamsBeginning kind frame commands start next
    stream-stops within is so_far answer out =
        let replies = so_far.replies in
        let further = goes_on kind Tied suits frame commands position command replies (replies ++ reply ∷ []) reply entries later old new
        within is so_far.way so_far.throughout answer refl in
        let end = subst (λ (l : List C). GoesOn kind Tied frame l (replies ++ reply ∷ [])) (take-append-drop (position + 1) commands)
        (can_go_on kind Tied suits frame (take (position + 1) commands) (drop (position + 1) commands) (replies ++ reply ∷ [])
        later new further.0 further.1) in
        let all = (replies ++ reply ∷ []) ++ end.others in
        let rest = replies_text end.others in (
          end.last,
          replies_text all,
          record { replies = all; run = end.run; promises = end.promises; text_is = refl },
          subst (AppendsBeginning start next) (text-goes_on replies end.others reply)
              (begins-behind start now next (replies_text replies) (line_of reply ++ rest) so_far.out
              (begins-first now next (line_of reply) rest out)),
        )

    -- it then stands at this line
    pub stream-stops_at : position < length commands → command ≡ get_or commands position command
        → IsStreaming frame (take position commands) entries old start now
        → IsAnswerOf kind Tied position command reply entries later old new
        → AppendsPart now next (line_of reply)
        → StopsAt kind frame commands new start next
    stream-stops_at within is so_far answer (sent, short, out) =
        let replies = so_far.replies in
        let further = goes_on kind Tied suits frame commands position command replies (replies ++ reply ∷ []) reply entries later old new
        within is so_far.way so_far.throughout answer refl in
        let way = further.0 in
        record {
          position = position;
          within = within;
          replies = replies;
          reply = reply;
          run = way.run;
          promises = further.1;
          sent = sent;
          short = short;
          out = appends-both start now next (replies_text replies) (take sent (line_of reply)) so_far.out out;
        }

  -- after the last command all lines of a run went out
  pub stream-ends : (frame : Frame) (commands : List C) (position : ℕ) (entries : List Entry) (state : S)
      (start now : Option (List ℕ))
      → length commands ≤ position
      → IsStreaming frame (take position commands) entries state start now
      → (text : List ℕ) × IsTextOfRun kind frame commands state text × Appends start now text
  stream-ends frame commands position entries state start now all so_far =
      let end = ends kind Tied frame commands position so_far.replies entries state all so_far.way so_far.throughout in (
        replies_text so_far.replies,
        record { replies = so_far.replies; run = end.0; promises = end.1; text_is = refl },
        so_far.out,
      )
