use Rattle.std.proofs.Common.{subst, sym}
use Rattle.etagere_base.specs.declared.faults.RestoreFault.TheVariants.{Space}
use Rattle.shelf_records.specs.AtlasRecords.{AtlasRecords}
use Rattle.shelf_records.specs.Private.Kept.{AreKept}
use Rattle.etagere_shelves.proofs.restored.restore_atlas.Goals as goal

pub of_judged-requires-clause-space : goal.of_judged-requires-clause-space
of_judged-requires-clause-space c = c.in_ok-walked.ensures.ok.keeps Space

pub settled_notes-requires : goal.settled_notes-requires
settled_notes-requires c = record {
  list = record {
    frame = c.atlas.inside.frame;
    kept = subst (λ (atlas : AtlasRecords). AreKept atlas.frame atlas.records) (sym c.atlas.view_is) c.in_ok-walked.ensures.kept;
    by_height = c.in-Ok.ensures.by_height;
  };
}
