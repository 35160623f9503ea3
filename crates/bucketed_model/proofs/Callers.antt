-- For callers: a ledger of what they were given and have not given back stays tied to the atlas through each call, and
-- what is tied is safe; a place that needs no new buckets can be taken; and options without a fault make a frame. A
-- caller's proofs cite this file alone of these.
pub use Rattle.bucketed_model.proofs.Allocating.{allocates-aligned, allocates-large, allocates-tied, no-tags, placed-allocates}
pub use Rattle.bucketed_model.proofs.Ledger.TiedGrown.{grows-tied}
pub use Rattle.bucketed_model.proofs.Ledger.TiedReturned.{tied-returned}
pub use Rattle.bucketed_model.proofs.Ledger.TiedTaken.{tied-fresh}
pub use Rattle.bucketed_model.proofs.Promises.{tied-safe}
pub use Rattle.bucketed_model.proofs.Shelving.NewFrames.{accepted-bucketed}
