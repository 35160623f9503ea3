use Rattle.glyph_shelf.proofs.UsedKeys.Turning.{falling-zero, turned-bare}
use Rattle.glyph_shelf.proofs.used_keys.stamps.next_frame.Goals as goal

pub returns-clause-unused : goal.returns-clause-unused
returns-clause-unused c = rw c.forget_frames.ensures (falling-zero c.args.entries.now.entries)

pub returns-clause-entries : goal.returns-clause-entries
returns-clause-entries c = rw c.forget_frames.ensures (turned-bare c.args.entries.now.entries)
