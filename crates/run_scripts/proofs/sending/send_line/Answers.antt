use Rattle.run_scripts.proofs.LineSending.{on-err-then, part-begins, part-of-rest}
use Rattle.run_scripts.proofs.sending.send_line.Goals as goal

pub returns-in-Ok-2-clause-part : goal.returns-in-Ok-2-clause-part
returns-in-Ok-2-clause-part g c =
    let contents = g.W.Write.contents in
    on-err-then c.send_rest.result
    (part-of-rest (contents c.args.writer.now) (contents c.write.new.self) (contents c.send_rest.new.writer) c.args.line.now
    c.in-Ok.sent c.in-Ok.ensures.bytes)
    c.send_rest.ensures.part

pub returns-in-Ok-2-clause-beginning : goal.returns-in-Ok-2-clause-beginning
returns-in-Ok-2-clause-beginning g c =
    let contents = g.W.Write.contents in
    on-err-then c.send_rest.result
    (part-begins (contents c.args.writer.now) (contents c.send_rest.new.writer) c.args.line.now)
    (returns-in-Ok-2-clause-part g c)
