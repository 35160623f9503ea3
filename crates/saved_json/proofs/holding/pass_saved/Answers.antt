use Rattle.saved_json.proofs.HeldSnapshots.{atlas-saved, bucketed-saved}
use Rattle.saved_json.proofs.holding.pass_saved.Goals as goal

pub returns-in_ok-pass_atlas-in-Atlas : goal.returns-in_ok-pass_atlas-in-Atlas
returns-in_ok-pass_atlas-in-Atlas c =
    atlas-saved c.pass_end.result c.args.saved.now c.in-Atlas.snapshot c.args.reader.now c.pass_name.new.reader
    c.pass_atlas.new.reader c.pass_end.new.reader c.in-Atlas.is c.in_ok-pass_name-in-Atlas.ensures
    c.in_ok-pass_atlas-in-Atlas.ensures c.pass_end.ensures

pub returns-in_ok-pass_bucketed-in-Bucketed : goal.returns-in_ok-pass_bucketed-in-Bucketed
returns-in_ok-pass_bucketed-in-Bucketed c =
    bucketed-saved c.pass_end-in-Bucketed.result c.args.saved.now c.in-Bucketed.snapshot c.args.reader.now
    c.pass_name-in-Bucketed.new.reader c.pass_bucketed.new.reader c.pass_end-in-Bucketed.new.reader c.in-Bucketed.is
    c.in_ok-pass_name-in-Bucketed.ensures c.in_ok-pass_bucketed-in-Bucketed.ensures c.pass_end-in-Bucketed.ensures
