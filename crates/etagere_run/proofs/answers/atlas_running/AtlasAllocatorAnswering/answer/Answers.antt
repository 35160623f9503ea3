use Rattle.etagere_run.specs.Answers.Private.Tables.{entries_of}
use Rattle.etagere_run.proofs.answers.atlas_running.AtlasAllocatorAnswering.answer.Goals as goal

pub returns-in-Return-clause-answer : goal.returns-in-Return-clause-answer
returns-in-Return-clause-answer c = rw c.in-Return.is c.give_back.ensures.answer

pub returns-in-Look-clause-answer : goal.returns-in-Look-clause-answer
returns-in-Look-clause-answer c = rw c.in-Look.is c.look.ensures

pub returns-in-Grow-clause-answer : goal.returns-in-Grow-clause-answer
returns-in-Grow-clause-answer c =
    rw c.in-Grow.is (λ position. c.grow.ensures position (entries_of c.args.ledger.now) c.requires)

pub returns-in-Clear-clause-answer : goal.returns-in-Clear-clause-answer
returns-in-Clear-clause-answer c = rw c.in-Clear.is c.clear.ensures.answer
