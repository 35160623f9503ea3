use Rattle.std.proofs.Common.{ℕ, List, length, ap, arith, refl, ◌∙◌}
use Rattle.std.proofs.lemmas.List.{length-map}
use Rattle.shelf_records.specs.RecordLists.{shelf_walk, walked_entry}
use Rattle.shelf_records.specs.AtlasRecords.{spelled_shelf, walked_entries}
use Rattle.shelf_restoring.proofs.Loaded.ChainsWalked.{items-length}
use Rattle.shelf_restoring.proofs.Loaded.WalksRestore.{walked-count}
use Rattle.shelf_restoring.proofs.Loaded.WalksStand.{walked-kept}
use Rattle.etagere_shelves.proofs.restored.judge_atlas.Goals as goal

pub returns-clause-kept : goal.returns-clause-kept
returns-clause-kept c =
    walked-kept c.args.atlas.now c.in_ok-walked.ensures.ok c.in_ok-judge_walked.ensures.ok

pub returns-clause-items : goal.returns-clause-items
returns-clause-items c =
    let atlas = c.args.atlas.now in
    ap (λ (ns : List ℕ). length ns) c.in_ok-walked.ensures.lists.chains ∙ items-length atlas.records (shelf_walk atlas.records).met
    ∙ walked-count atlas (walked_entries atlas) refl

pub returns-clause-each : goal.returns-clause-each
returns-clause-each c =
    let atlas = c.args.atlas.now in
    let numbers : List ℕ = (shelf_walk atlas.records).met in
    omega (
      arith,
      c.in_ok-walked.ensures.each,
      ap (λ (ns : List ℕ). length ns) c.in_ok-walked.ensures.lists.chains,
      items-length atlas.records numbers,
      walked-count atlas (walked_entries atlas) refl,
      ap (λ (ns : List ℕ). length ns) c.in_ok-walked.ensures.lists.in_use,
      length-map numbers (walked_entry atlas.records),
      length-map (walked_entries atlas) (spelled_shelf atlas),
    )
