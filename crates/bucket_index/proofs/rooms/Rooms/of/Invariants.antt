use Rattle.std.proofs.Common.{◌≡◌, true, take}
use Rattle.bucket_index.specs.Private.Rooms.{AreEnough, tally}
use Rattle.bucket_index.proofs.rooms.Rooms.of.Given as goal

-- the records up to a number are counted
abbrev pub invariant-loop-number : goal.invariant-loop-number
invariant-loop-number l = record {
  counted : l.rooms.are_counted ≡ true;
  enough : AreEnough l.rooms.counts (λ slot. tally slot (take l.number l.buckets));
}
