use Rattle.std.proofs.Common.{◌≡◌, Some, arith, refl, rules}
use Rattle.etagere_base.specs.declared.faults.OptionsFault.TheVariants as faults
use Rattle.etagere_base.specs.Frames.{longest_side, options_fault}
use Rattle.run_scripts.proofs.FirstFaults.{first-fault}
use Rattle.run_scripts.specs.ReplyText.{options_text}
use Rattle.glyph_run.specs.Replaying.{HasFault}
use Rattle.glyph_run.proofs.ReplayAnswers.{keeps-replays, stopped-replays, streamed-replays}
use Rattle.glyph_run.proofs.replaying.run_script.Goals as goal

pub returns-in-Ok : goal.returns-in-Ok
returns-in-Ok g c input spelled =
    let written = c.in-Ok.ensures.written in
    streamed-replays input c.args.script.now (g.W.Write.contents c.args.writer.now) (g.W.Write.contents c.stream_script.new.writer)
    spelled c.in-Ok.ensures.accepted written.0 written.1

pub returns-in-Err-Options : goal.returns-in-Err-Options
returns-in-Err-Options g c input spelled =
    let setup = c.args.script.now.setup in
    let fault = c.in-Err-Options.fault in
    let old = g.W.Write.contents c.args.writer.now in
    let middle = g.W.Write.contents c.stream_script.new.writer in
    let other : fault ≡ faults.Memory → ⊥ = first_of (search rules, grind arith) in
    let has_fault : HasFault input c.number.result (options_text c.number.result) =
    record {
      request = c.args.script.now;
      fault = fault;
      spelled = spelled;
      refused = first-fault (options_fault longest_side setup.size setup.options) fault
          (rw c.in-Err-Options.field-0-is at c.in-Err-Options.ensures.err) other;
      number_is = c.number.ensures;
      text_is = refl;
    } in
    keeps-replays (Some input) old middle (g.W.Write.contents c.write_outcome.new.writer) c.write_outcome.result
    (rw c.in-Err-Options.field-0-is at c.in-Err-Options.ensures.written)
    (c.write_outcome.ensures input has_fault)

pub returns-in-Err-Write : goal.returns-in-Err-Write
returns-in-Err-Write g c input spelled =
    let written = rw c.in-Err-Write.field-0-is at c.in-Err-Write.ensures.written in
    stopped-replays input c.args.script.now (g.W.Write.contents c.args.writer.now) (g.W.Write.contents c.stream_script.new.writer)
    spelled (rw c.in-Err-Write.field-0-is at c.in-Err-Write.ensures.err) written.0 written.1
