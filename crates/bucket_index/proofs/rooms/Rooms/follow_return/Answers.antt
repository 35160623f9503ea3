use Rattle.std.proofs.Common.{ℕ, subst, sym}
use Rattle.bucket_index.specs.Private.Rooms.{IsOneChanged}
use Rattle.bucket_index.proofs.rooms.Rooms.follow_return.Goals as goal

pub returns : goal.returns
returns c = λ others bucket at counted change.
    c.change.ensures others c.args.buckets.now counted
    (subst (λ (room : ℕ). IsOneChanged c.args.before room others c.args.buckets.now) (sym (c.room_at.ensures bucket at)) change)
