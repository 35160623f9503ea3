use Rattle.std.proofs.Common.{◌/◌, arith, refl}
use Rattle.bucket_index.proofs.NestedBlocks.{parts-new}
use Rattle.bucket_index.proofs.blocks.Blocks.new.Goals as goal

pub returns-clause-nested : goal.returns-clause-nested
returns-clause-nested c = record {
  small = λ n below. parts-new 64 512 n (n / 8);
  middle = λ n below. parts-new 8 64 n (n / 8);
  others = λ some. absurd (omega (arith, some));
  few = omega arith;
  whole = refl;
}
