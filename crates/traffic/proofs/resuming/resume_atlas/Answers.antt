use Rattle.std.proofs.Common.{◌≡◌, List, length, ap, rules, subst, sym, ◌∙◌}
use Rattle.std.specs.Prelude.{vec_len}
use Rattle.etagere_base.specs.declared.ids.Allocation.{Allocation}
use Rattle.shelf_model.specs.Callers.{AreTied}
use Rattle.shelf_model.specs.Places.{allocations}
use Rattle.shelf_records.specs.Snapshots.{snapshot_records}
use Rattle.shelf_records.specs.StandsFor.{StandsFor}
use Rattle.etagere_run.specs.Answers.Live.{live_allocations}
use Rattle.etagere_run.specs.Answers.Private.Tables.{entries_of}
use Rattle.traffic.specs.Ledgers.{entries_from}
use Rattle.traffic.specs.Refusals.{atlas_told}
use Rattle.traffic.proofs.FirstEntries.{live-first}
use Rattle.traffic.proofs.RestOfRun.{rest-of-run}
use Rattle.traffic.proofs.Starting.{going-from}
use Rattle.traffic.proofs.resuming.resume_atlas.Goals as goal

pub go_on-requires-clause-tied : goal.go_on-requires-clause-tied
go_on-requires-clause-tied c =
    let live = c.in-Ok.live.items in
    let same : c.as_slice.result.now ≡ live = search rules in
    let entries : entries_of c.in-Ok-ledger_of.ledger ≡ entries_from 0 live =
    c.in-Ok-ledger_of.ensures.entries ∙ ap (entries_from 0) same in
    record {
      promises = c.live_in.ensures.promises;
      allocated = subst (λ (l : List Allocation). AreTied l (allocations c.in_ok-atlas.atlas))
          (sym (ap live_allocations entries ∙ live-first 0 live)) c.in-Ok.ensures.tied;
    }

pub returns-in-Ok-go_on-clause-resumed : goal.returns-in-Ok-go_on-clause-resumed
returns-in-Ok-go_on-clause-resumed c =
    let live = c.in-Ok.live.items in
    let same : c.as_slice.result.now ≡ live = search rules in
    record {
      atlas = c.in_ok-atlas.atlas;
      last = c.go_on.new.atlas;
      stands = search rules;
      live_is = c.in-Ok.ensures.listed;
      run = going-from atlas_told live (vec_len c.in-Ok-ledger_of.ledger.slots) (entries_of c.in-Ok-ledger_of.ledger)
          c.in_ok-atlas.atlas c.args.commands.now c.in-Ok-go_on.answers.replies.items c.in-Ok-go_on.answers.findings.items
          c.go_on.new.atlas (c.in-Ok-ledger_of.ensures.slots ∙ ap (λ (l : List Allocation). length l) same)
          (c.in-Ok-ledger_of.ensures.entries ∙ ap (entries_from 0) same) c.in-Ok-go_on.ensures.answers;
    }

pub returns-in-Ok-go_on-clause-rest : goal.returns-in-Ok-go_on-clause-rest
returns-in-Ok-go_on-clause-rest c =
    let live = c.in-Ok.live.items in
    let atlas = c.in_ok-atlas.atlas in
    let replies = c.in-Ok-go_on.answers.replies.items in
    let same : c.as_slice.result.now ≡ live = search rules in
    let stands : StandsFor (snapshot_records c.args.snapshot) atlas = search rules in
    rest-of-run c.args.snapshot c.args.commands.now live replies atlas c.go_on.new.atlas stands c.in-Ok.ensures.tied
    (going-from atlas_told live (vec_len c.in-Ok-ledger_of.ledger.slots) (entries_of c.in-Ok-ledger_of.ledger) atlas
    c.args.commands.now replies c.in-Ok-go_on.answers.findings.items c.go_on.new.atlas
    (c.in-Ok-ledger_of.ensures.slots ∙ ap (λ (l : List Allocation). length l) same)
    (c.in-Ok-ledger_of.ensures.entries ∙ ap (entries_from 0) same) c.in-Ok-go_on.ensures.answers)
