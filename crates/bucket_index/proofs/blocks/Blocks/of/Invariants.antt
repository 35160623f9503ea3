use Rattle.std.proofs.Common.{◌≡◌, ◌<◌, ℕ, Some, length, true}
use Rattle.std.specs.Prelude.{slice_get, ◌%◌}
use Rattle.bucket_index.specs.Private.Blocks.{AreFirstKnown, AreNestedIn, KeptShelf, no_others}
use Rattle.bucket_index.proofs.blocks.Blocks.of.Given as goal

-- the shelves so far are known, blocks are nested, nothing is known of others, and heights so far are in steps where that is known
abbrev pub invariant-loop-number : goal.invariant-loop-number
invariant-loop-number l = record {
  first : AreFirstKnown l.number l.known l.shelves;
  others : l.known.others ≡ no_others;
  nested : AreNestedIn l.known;
  long : length l.known.small ≡ 512;
  wide : length l.known.middle ≡ 64;
  few : length l.known.large ≡ 8;
  steps : l.known.in_steps ≡ true → (number : ℕ) (kept : KeptShelf) → number < l.number → slice_get l.shelves number ≡ Some kept → kept.shelf.height % 8 ≡ 0;
}
