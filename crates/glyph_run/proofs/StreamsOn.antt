-- The lines of a run's replies that go out one by one: at each moment they are those of the commands so far.
use Rattle.std.proofs.Common.{◌≡◌, ℕ, ◌+◌, ◌<◌, ◌≤◌, Option, List, [], ◌∷◌, ◌++◌, length, get_or, take, refl, ap, sym, ◌∙◌, subst, append_assoc}
use Rattle.std.specs.Io.KnownBytes.{Appends}
use Rattle.std.proofs.lemmas.List.{append-nil}
use Rattle.etagere_base.specs.declared.frames.Frame.{Frame}
use Rattle.pictures.specs.Sending.{AppendsPart}
use Rattle.pictures.proofs.GatheringLemmas.{appends-both, appends-nothing}
use Rattle.glyph_shelf.specs.Cache.{CacheState, empty_cache}
use Rattle.glyph_shelf.specs.Promises.{KeepsCachePromises}
use Rattle.glyph_run.specs.declared.commands.GlyphCommand.{GlyphCommand}
use Rattle.glyph_run.specs.declared.commands.GlyphReply.{GlyphReply}
use Rattle.glyph_run.specs.ReplyText.{line_of, replies_text}
use Rattle.glyph_run.specs.Runs.{GlyphStep}
use Rattle.glyph_run.specs.Streaming.{StopsAt, StreamsRun}
use Rattle.glyph_run.proofs.RunsOn.{IsUnderWay, ends, goes_on, starts}

-- the text of a front and a back, and of one reply more
text-append : (front back : List GlyphReply) → replies_text (front ++ back) ≡ replies_text front ++ replies_text back
text-append [] back = refl
text-append (reply ∷ front) back =
    ap (λ (l : List ℕ). line_of reply ++ l) (text-append front back)
    ∙ sym (append_assoc (line_of reply) (replies_text front) (replies_text back))

pub text-more : (replies : List GlyphReply) (reply : GlyphReply) → replies_text replies ++ line_of reply ≡ replies_text (replies ++ reply ∷ [])
text-more replies reply =
    ap (λ (l : List ℕ). replies_text replies ++ l) (sym (append-nil (line_of reply)))
    ∙ sym (text-append replies (reply ∷ []))

-- a stream so far: the lines of a run's replies went out
pub record IsStreaming (frame : Frame) (capacity : ℕ) (commands : List GlyphCommand) (state : CacheState) (start now : Option (List ℕ))
    : Type 0 where
  pub replies : List GlyphReply
  pub way : IsUnderWay frame capacity commands replies state
  pub out : Appends start now (replies_text replies)

module _ (frame : Frame) (capacity : ℕ) where
  -- before the first command
  pub stream-starts : (state : CacheState) (start : Option (List ℕ)) → state ≡ empty_cache frame capacity → KeepsCachePromises state
      → IsStreaming frame capacity [] state start start
  stream-starts state start is promises =
      record { replies = []; way = starts frame capacity state is promises; out = appends-nothing start }

  module _ (commands : List GlyphCommand) (position : ℕ) (d : GlyphCommand) (reply : GlyphReply) (old new : CacheState)
      (start now next : Option (List ℕ)) where
    -- one command later
    pub stream-goes_on : position < length commands
        → IsStreaming frame capacity (take position commands) old start now
        → GlyphStep old (get_or commands position d) reply new → KeepsCachePromises new
        → Appends now next (line_of reply)
        → IsStreaming frame capacity (take (position + 1) commands) new start next
    stream-goes_on within so_far step promises out =
        let replies = so_far.replies in
        record {
          replies = replies ++ reply ∷ [];
          way = goes_on frame capacity commands position d replies (replies ++ reply ∷ []) reply old new within so_far.way
              step promises refl;
          out = subst (Appends start next) (text-more replies reply)
              (appends-both start now next (replies_text replies) (line_of reply) so_far.out out);
        }

    -- where the writer fails at the line of a reply
    pub stream-stops_at : position < length commands
        → IsStreaming frame capacity (take position commands) old start now
        → GlyphStep old (get_or commands position d) reply new → KeepsCachePromises new
        → AppendsPart now next (line_of reply)
        → StopsAt frame capacity commands new start next
    stream-stops_at within so_far step promises (sent, short, out) =
        let replies = so_far.replies in
        let way = goes_on frame capacity commands position d replies (replies ++ reply ∷ []) reply old new within so_far.way
        step promises refl in
        record {
          position = position;
          within = within;
          replies = replies;
          reply = reply;
          run = way.run;
          promises = way.throughout;
          sent = sent;
          short = short;
          out = appends-both start now next (replies_text replies) (take sent (line_of reply)) so_far.out out;
        }

  -- after the last command all lines of a run went out
  pub stream-ends : (commands : List GlyphCommand) (position : ℕ) (state : CacheState) (start now : Option (List ℕ))
      → length commands ≤ position
      → IsStreaming frame capacity (take position commands) state start now
      → StreamsRun frame capacity commands state start now
  stream-ends commands position state start now all so_far =
      let way = ends frame capacity commands position so_far.replies state all so_far.way in (
        replies_text so_far.replies,
        record { replies = so_far.replies; run = way.run; promises = way.throughout; text_is = refl },
        so_far.out,
      )
