use Rattle.std.proofs.Common.{◌+◌, ℕ, List, ap, ◌∙◌}
use Rattle.bucket_index.specs.Private.Rest.{latest}
use Rattle.bucket_index.proofs.FewBuckets.{latest-added}
use Rattle.bucket_index.proofs.rest.Former.add.Goals as goal

pub returns : goal.returns
returns c = ap (λ (numbers : List ℕ). latest (c.args.self.now.count + 1) numbers) c.set_number.ensures ∙ latest-added c.args.self.now.count c.args.number c.args.self.now.numbers c.requires
