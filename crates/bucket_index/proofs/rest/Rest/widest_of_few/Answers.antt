use Rattle.std.proofs.Common.{◌≡◌, ◌-◌, ℕ, suc, max, ap, arith}
use Rattle.std.specs.Prelude.{slice_get}
use Rattle.bucket_index.specs.Private.Rest.{latest, room_behind, widest_of}
use Rattle.bucket_index.proofs.rest.Rest.widest_of_few.Goals as goal

pub loop-left-preserved : goal.loop-left-preserved
loop-left-preserved c =
    let numbers = c.args.self.now.former.numbers in
    let buckets = c.args.buckets.now in
    let left = c.loop-left.left - 1 in
    let one : c.loop-left.left ≡ suc left = omega arith in
    let more : widest_of (latest c.loop-left.left numbers) buckets ≡ max (room_behind buckets (slice_get numbers left)) (widest_of (latest left numbers) buckets) =
    ap (λ (count : ℕ). widest_of (latest count numbers) buckets) one in
    omega (arith, c.loop-left.invariant, more, c.room_at.ensures, c.max-widest.ensures)
