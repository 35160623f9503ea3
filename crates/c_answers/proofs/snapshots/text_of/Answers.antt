use Rattle.std.proofs.Common.{rules}
use Rattle.saved_json.specs.Snapshots.{Spells}
use Rattle.saved_json.specs.declared.saved.Saved.TheVariants.{Atlas}
use Rattle.shelf_records.specs.Snapshots.{snapshot_records}
use Rattle.shelf_records.specs.StandsFor.{StandsFor}
use Rattle.c_answers.specs.Saving.{Saves}
use Rattle.c_answers.proofs.Saving.{ok_is, some_of}
use Rattle.c_answers.proofs.snapshots.text_of.Goals as goal

pub returns : goal.returns
returns c =
    some_of (λ text. Spells text.items (Atlas c.in_ok-snapshot.snapshot)) (λ text. Saves text.items c.args.atlas.now)
    c.write_saved.result c.ok-2.result (search rules) (search rules)
    (λ text spells. record {
      snapshot = c.in_ok-snapshot.snapshot;
      spells = spells;
      stands = ok_is (λ snapshot. StandsFor (snapshot_records snapshot) c.args.atlas.now) c.snapshot.result
          c.in_ok-snapshot.snapshot (search rules) c.snapshot.ensures;
    })
