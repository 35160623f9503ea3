use Rattle.std.proofs.Common.{◌≡◌, Some, arith, refl, rules}
use Rattle.etagere_base.specs.declared.faults.OptionsFault.TheVariants as faults
use Rattle.etagere_base.specs.Frames.{options_fault}
use Rattle.etagere_run.specs.Replaying.{HasFault, longest_asked}
use Rattle.run_scripts.specs.ReplyText.{options_text}
use Rattle.etagere_run.proofs.ReplayAnswers.{begun-replays, keeps-replays, refused-keeps, streamed-replays}
use Rattle.run_scripts.proofs.FirstFaults.{first-fault}
use Rattle.etagere_run.proofs.replaying.run_script.Goals as goal

pub returns-in-Ok : goal.returns-in-Ok
returns-in-Ok g c input spelled =
    let script = c.args.script.now in
    streamed-replays input script.size script.options script.commands (g.W.Write.contents c.args.writer.now)
    (g.W.Write.contents c.stream_script.new.writer) c.in-Ok.field-0 spelled c.in-Ok.ensures.accepted c.in-Ok.ensures.written

pub returns-in-Err-Options : goal.returns-in-Err-Options
returns-in-Err-Options g c input spelled =
    let script = c.args.script.now in
    let fault = c.in-Err-Options.fault in
    let old = g.W.Write.contents c.args.writer.now in
    let middle = g.W.Write.contents c.stream_script.new.writer in
    let other : fault ≡ faults.Memory → ⊥ = first_of (search rules, grind arith) in
    let has_fault : HasFault input c.number.result (options_text c.number.result) =
    record {
      request = script;
      fault = fault;
      spelled = spelled;
      refused = first-fault (options_fault (longest_asked script.commands) script.size script.options) fault
          (rw c.in-Err-Options.field-0-is at c.in-Err-Options.ensures.err) other;
      number_is = c.number.ensures;
      text_is = refl;
    } in
    keeps-replays (Some input) old middle (g.W.Write.contents c.bad_options.new.writer) c.bad_options.result
    (refused-keeps (Unit {0}) script.size script.options script.commands old middle fault
    (rw c.in-Err-Options.field-0-is at c.in-Err-Options.ensures.written))
    (c.bad_options.ensures input has_fault)

pub returns-in-Err-Write : goal.returns-in-Err-Write
returns-in-Err-Write g c input spelled =
    let script = c.args.script.now in
    begun-replays (Unit {0}) input script.size script.options script.commands (g.W.Write.contents c.args.writer.now)
    (g.W.Write.contents c.stream_script.new.writer) spelled
    (rw c.in-Err-Write.field-0-is at c.in-Err-Write.ensures.err)
    (rw c.in-Err-Write.field-0-is at c.in-Err-Write.ensures.written)
