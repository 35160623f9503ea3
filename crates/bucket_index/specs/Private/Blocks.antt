-- What is known of neighbouring shelves together.
pub use Rattle.std.specs.Prelude.{ℕ}
use Rattle.std.specs.Prelude.{◌≡◌, ◌<◌, ◌≤◌, ◌+◌, ◌*◌, ◌/◌, ◌%◌, ◌==◌, cond, get_or, max, Bool, true, false, ◌&&◌, ◌||◌, Some, List, length, slice_get, nat_le, if◌then◌else◌}
use Rattle.std.specs.Option.{option_map_or}
use Rattle.etagere_links.specs.Edits.{changed_by, field_at}
use Rattle.bucketed_records.specs.Private.Store.{is_kept_idle}
pub use Rattle.bucketed_records.specs.declared.records.KeptShelf.{KeptShelf}
pub use Rattle.bucket_index.specs.declared.blocks.Block.{Block}
use Rattle.bucket_index.specs.declared.blocks.Blocks.{Blocks}
pub use Rattle.bucket_index.specs.declared.blocks.Others.{Others}
use Rattle.bucket_index.specs.declared.blocks.PutOff.{PutOff}

abbrev pub Shelves : Type 0
Shelves = List KeptShelf

-- the number of the block of a shelf, where each has so many shelves
abbrev pub block_of : ℕ → ℕ → ℕ
block_of size shelf = shelf / size

-- what is known of a block with a shelf of this room beside the others
abbrev pub raised_block : ℕ → Bool → Block → Block
raised_block room is_idle block =
    record { widest_room = max block.widest_room room; has_idle = block.has_idle || is_idle }

-- the same with this shelf
abbrev pub with_shelf : KeptShelf → Block → Block
with_shelf kept = raised_block kept.widest_room (is_kept_idle kept)

-- what is known of two blocks together
abbrev pub joined : Block → Block → Block
joined one other =
    record {
      widest_room = max one.widest_room other.widest_room;
      has_idle = one.has_idle || other.has_idle;
    }

-- a shelf has no more room than is known of its block; if it holds nothing live that is known too
pub record IsCovered (kept : KeptShelf) (block : Block) : Type 0 where
  pub room : kept.widest_room ≤ block.widest_room
  pub idle : is_kept_idle kept ≡ true → block.has_idle ≡ true

-- the same of a shelf that has a height: of one without none is to be known, since it gives nothing
abbrev pub IsKnown : KeptShelf → Block → Type 0
IsKnown kept block = 0 < kept.shelf.height → IsCovered kept block

-- what is known of a block with this shelf beside the others, if that has a height
abbrev pub with_standing : KeptShelf → Block → Block
with_standing kept block = if kept.shelf.height == 0 then block else with_shelf kept block

-- the shelf of a number is known to its block of this size, if there is one of it
abbrev pub IsKnownOf : ℕ → ℕ → KeptShelf → List Block → Type 0
IsKnownOf size number kept blocks =
    (block : Block) → slice_get blocks (block_of size number) ≡ Some block → IsKnown kept block

-- the shelf of a number is known to its blocks of each size
pub record IsKnownAt (number : ℕ) (kept : KeptShelf) (blocks : Blocks) : Type 0 where
  pub small : IsKnownOf 8 number kept blocks.small
  pub middle : IsKnownOf 64 number kept blocks.middle
  pub large : IsKnownOf 512 number kept blocks.large

-- what is known of a block is known of a larger one
pub record IsPart (block whole : Block) : Type 0 where
  pub room : block.widest_room ≤ whole.widest_room
  pub idle : block.has_idle ≡ true → whole.has_idle ≡ true

-- each of these shelves of such a number is known to its block of this size, if there is one of it
abbrev pub AreKnownOf : (ℕ → Type 0) → ℕ → List Block → List KeptShelf → Type 0
AreKnownOf IsSuch size blocks shelves =
    (number : ℕ) (kept : KeptShelf) (block : Block) → IsSuch number
    → slice_get shelves number ≡ Some kept
    → slice_get blocks (block_of size number) ≡ Some block → IsKnown kept block

-- each of these shelves of such a number is known to its blocks of each size
pub record AreKnownWhere (IsSuch : ℕ → Type 0) (blocks : Blocks) (shelves : List KeptShelf)
    : Type 0 where
  pub small : AreKnownOf IsSuch 8 blocks.small shelves
  pub middle : AreKnownOf IsSuch 64 blocks.middle shelves
  pub large : AreKnownOf IsSuch 512 blocks.large shelves

-- what is known with the shelf of a number beside the others
abbrev pub raised : ℕ → KeptShelf → Blocks → Blocks
raised number kept blocks =
    record blocks {
      small = changed_by (Some (block_of 8 number)) (with_shelf kept) blocks.small;
      middle = changed_by (Some (block_of 64 number)) (with_shelf kept) blocks.middle;
      large = changed_by (Some (block_of 512 number)) (with_shelf kept) blocks.large;
    }

-- what is known of a block by the shelves that are not there
abbrev pub no_shelves : Block
no_shelves = record { widest_room = 0; has_idle = false }

-- what is known of the block of a number
abbrev pub block_at : List Block → ℕ → Block
block_at blocks number = get_or blocks number no_shelves

-- nothing is known of others
abbrev pub no_others : Others
no_others =
    record {
      number = 4096;
      room = 0;
      own = no_shelves;
      small = no_shelves;
      middle = no_shelves;
      large = no_shelves;
    }

-- the blocks of a shelf that had this room, as they stand
abbrev pub remembered_others : ℕ → ℕ → Blocks → Others
remembered_others number room blocks =
    record {
      number = number;
      room = room;
      own = no_shelves;
      small = block_at blocks.small (block_of 8 number);
      middle = block_at blocks.middle (block_of 64 number);
      large = block_at blocks.large (block_of 512 number);
    }

-- the blocks of a shelf that had this room are kept as they stand, unless its blocks were kept last
abbrev pub remembered : ℕ → ℕ → Blocks → Blocks
remembered number room blocks =
    record blocks {
      others =
          cond (number == blocks.others.number) blocks.others (remembered_others number room blocks);
    }

-- the blocks know this shelf as it is, and it is the one that was raised last
abbrev pub with_own : KeptShelf → Blocks → Blocks
with_own kept blocks =
    record blocks {
      is_late = false;
      others = record blocks.others { own = with_shelf kept no_shelves };
    }

-- what is known of the blocks of a shelf by the others and it
abbrev pub lowered : ℕ → KeptShelf → Blocks → Blocks
lowered number kept blocks =
    record (with_own kept blocks) {
      small =
          changed_by (Some (block_of 8 number)) (λ _. with_shelf kept blocks.others.small) blocks.small;
      middle =
          changed_by (Some (block_of 64 number)) (λ _. with_shelf kept blocks.others.middle)
          blocks.middle;
      large =
          changed_by (Some (block_of 512 number)) (λ _. with_shelf kept blocks.others.large)
          blocks.large;
    }

-- the same is known where a block is left as it is, or no longer
abbrev pub putting_off : PutOff → Blocks → Blocks
putting_off put_off blocks = record blocks { put_off = put_off }

-- what is known where a shelf of this height is to be added
abbrev pub expecting : ℕ → Blocks → Blocks
expecting height blocks = record blocks { in_steps = blocks.in_steps && height % 8 == 0 }

-- the number of the first shelf behind the block of one
abbrev pub end_of : ℕ → ℕ → ℕ
end_of size shelf = block_of size shelf * size + size

-- another shelf of the block of this size in which one stands is known to what is kept of it
abbrev pub IsBesideOf : ℕ → ℕ → Block → ℕ → KeptShelf → Type 0
IsBesideOf size one block number kept =
    (number ≡ one → ⊥) → block_of size number ≡ block_of size one → IsKnown kept block

-- the same of the blocks of each size
pub record IsBeside (others : Others) (number : ℕ) (kept : KeptShelf) : Type 0 where
  pub small : IsBesideOf 8 others.number others.small number kept
  pub middle : IsBesideOf 64 others.number others.middle number kept
  pub large : IsBesideOf 512 others.number others.large number kept

-- the same of each shelf of such a number, where something is known of others
abbrev pub AreOthers : (ℕ → Type 0) → Others → List KeptShelf → Type 0
AreOthers IsSuch others shelves =
    others.number < 4096 → (number : ℕ) (kept : KeptShelf) → IsSuch number
    → slice_get shelves number ≡ Some kept → IsBeside others number kept

-- the block of this size in which a shelf stands knows what is kept of the shelf itself
abbrev pub IsOwnOf : ℕ → ℕ → Block → List Block → Type 0
IsOwnOf size number own blocks =
    (block : Block) → slice_get blocks (block_of size number) ≡ Some block → IsPart own block

-- the blocks of the shelf that was raised last know it as it was then
pub record IsOwnKnown (blocks : Blocks) : Type 0 where
  pub small : IsOwnOf 8 blocks.others.number blocks.others.own blocks.small
  pub middle : IsOwnOf 64 blocks.others.number blocks.others.own blocks.middle
  pub large : IsOwnOf 512 blocks.others.number blocks.others.own blocks.large

-- there are blocks of each size for as many shelves as there can be
pub record AreAll (blocks : Blocks) : Type 0 where
  pub small : length blocks.small ≡ 512
  pub middle : length blocks.middle ≡ 64
  pub large : length blocks.large ≡ 8

-- what is known of each of these blocks of the first so many shelves, where one has so many shelves, is known of the one
-- of the next size around it
abbrev pub AreParts : ℕ → ℕ → List Block → List Block → Type 0
AreParts shelves size blocks wholes =
    (number : ℕ) → number * size < shelves
    → IsPart (block_at blocks number) (block_at wholes (number / 8))

-- the same of each but one of these blocks in the one of the next size around that
abbrev pub ArePartsBeside : ℕ → ℕ → ℕ → List Block → Block → Type 0
ArePartsBeside shelves size one blocks whole =
    (number : ℕ) → number * size < shelves → (number ≡ one → ⊥) → number / 8 ≡ one / 8
    → IsPart (block_at blocks number) whole

-- what is kept of the blocks of a shelf by the others is known of the next larger one, and so is what is known of others in
-- that
pub record AreOthersNested (shelves : ℕ) (smalls middles : List Block) (others : Others) : Type 0 where
  pub within : others.number < shelves
  pub small : IsPart others.small others.middle
  pub middle : IsPart others.middle others.large
  pub beside_small : ArePartsBeside shelves 8 (block_of 8 others.number) smalls others.middle
  pub beside_middle : ArePartsBeside shelves 64 (block_of 64 others.number) middles others.large

-- what is known of the blocks of the first so many shelves, which begin a small block, is known of the larger ones around them
pub record AreNested (shelves : ℕ) (smalls middles larges : List Block) (kept : Others) : Type 0 where
  pub small : AreParts shelves 8 smalls middles
  pub middle : AreParts shelves 64 middles larges
  pub others : kept.number < 4096 → AreOthersNested shelves smalls middles kept
  pub few : shelves ≤ 4096
  pub whole : shelves % 8 ≡ 0

-- the same of those that an atlas keeps
abbrev pub AreNestedIn : Blocks → Type 0
AreNestedIn blocks =
    AreNested blocks.nested blocks.small blocks.middle blocks.large blocks.others

-- the small block of a shelf is one of those that are known of larger ones, and knows one with this room and with nothing
-- live
pub record KnowsIdle (number wanted : ℕ) (blocks : Blocks) : Type 0 where
  pub within : number < blocks.nested
  pub room : wanted ≤ (block_at blocks.small (block_of 8 number)).widest_room
  pub idle : (block_at blocks.small (block_of 8 number)).has_idle ≡ true

-- the number of the first shelf of the small block in which one stands
abbrev pub first_of_block : ℕ → ℕ
first_of_block shelf = block_of 8 shelf * 8

-- each of the shelves from this one on, as many as a small block has, is known to what is known of that
abbrev pub AreCountedFrom : ℕ → Block → List KeptShelf → Type 0
AreCountedFrom from block shelves =
    (number : ℕ) (kept : KeptShelf) → from ≤ number → number < from + 8
    → slice_get shelves number ≡ Some kept → IsKnown kept block

-- the blocks of a shelf, which has this room now, are kept as they stand
abbrev pub kept_others : ℕ → ℕ → Blocks → Blocks
kept_others number room blocks =
    record blocks {
      is_late = false;
      others =
          record (remembered_others number room blocks) {
            own = block_at blocks.small (block_of 8 number);
          };
    }

-- nothing is known of the blocks that begin with a shelf, the first behind those that are nested
abbrev pub begun : ℕ → Blocks → Blocks
begun shelf blocks =
    record blocks {
      others = no_others;
      is_late = false;
      nested = shelf + 8;
      small = changed_by (Some (block_of 8 shelf)) (λ _. no_shelves) blocks.small;
      middle =
          if shelf % 64 == 0
          then changed_by (Some (block_of 64 shelf)) (λ _. no_shelves) blocks.middle
          else blocks.middle;
    }

-- the height of each shelf is a multiple of eight
abbrev pub AreInSteps : List KeptShelf → Type 0
AreInSteps shelves =
    (number : ℕ) (kept : KeptShelf) → slice_get shelves number ≡ Some kept → kept.shelf.height % 8 ≡ 0

-- by so much the heights of two shelves differ at least that aren't the same
abbrev pub IsStep : ℕ → List KeptShelf → Type 0
IsStep step shelves = 1 < step → (step ≡ 8) × AreInSteps shelves

-- each of these shelves of such a number is known to its blocks, what is known of others is right for them, and
-- what is known of the blocks of some first shelves is known of the larger ones
pub record AreCountedWhere (IsSuch : ℕ → Type 0) (blocks : Blocks) (shelves : List KeptShelf)
    : Type 0 where
  pub each : AreKnownWhere IsSuch blocks shelves
  pub others : AreOthers IsSuch blocks.others shelves
  pub own : IsOwnKnown blocks
  pub nested : AreNestedIn blocks

-- the same of these shelves where they are counted, and heights are in steps where that is known
pub record AreKnownIf (IsSuch : ℕ → Type 0) (blocks : Blocks) (shelves : List KeptShelf) : Type 0 where
  pub counted : blocks.are_counted ≡ true → AreCountedWhere IsSuch blocks shelves
  pub steps : blocks.in_steps ≡ true → AreInSteps shelves

-- the same of each shelf
abbrev pub AreKnown : Blocks → List KeptShelf → Type 0
AreKnown = AreKnownIf (λ number. Unit {0})

-- the same where nothing is said of one shelf
abbrev pub AreOthersKnown : ℕ → Blocks → List KeptShelf → Type 0
AreOthersKnown one = AreKnownIf (λ number. number ≡ one → ⊥)

-- how tall the shelf of a number is
abbrev pub height_at : List KeptShelf → ℕ → ℕ
height_at shelves number = field_at (λ (kept : KeptShelf). kept.shelf.height) 0 shelves number

-- the shelf of a number is known to its blocks, and to what is kept of others
pub record IsFollowed (number : ℕ) (kept : KeptShelf) (blocks : Blocks) : Type 0 where
  pub known : IsKnownAt number kept blocks
  pub beside : blocks.others.number < 4096 → IsBeside blocks.others number kept

-- the same of any as tall as this that has no more room than this, and holds something live
abbrev pub IsFollowedUpTo : ℕ → ℕ → ℕ → Blocks → Type 0
IsFollowedUpTo number height room blocks =
    (kept : KeptShelf) → kept.shelf.height ≡ height → kept.widest_room ≤ room
    → is_kept_idle kept ≡ false → IsFollowed number kept blocks

-- each of the first so many shelves is known to its blocks
abbrev pub AreFirstKnown : ℕ → Blocks → List KeptShelf → Type 0
AreFirstKnown count blocks shelves = AreKnownWhere (λ number. number < count) blocks shelves

-- a shelf of the block of a number may have room for this width
abbrev pub may_give : ℕ → List Block → ℕ → Bool
may_give width blocks number =
    option_map_or (λ (block : Block). nat_le width block.widest_room) (slice_get blocks number) true

-- a shelf of the block of a number may hold nothing live
abbrev pub may_be_idle : List Block → ℕ → Bool
may_be_idle blocks number =
    option_map_or (λ (block : Block). block.has_idle) (slice_get blocks number) true

-- none of the shelves from one number up to another has both a height and room for this width
abbrev pub AreNarrow : ℕ → ℕ → ℕ → List KeptShelf → Type 0
AreNarrow width from behind shelves =
    (number : ℕ) (kept : KeptShelf) → from ≤ number → number < behind
    → slice_get shelves number ≡ Some kept → 0 < kept.shelf.height → kept.widest_room < width

-- each of the shelves from one number up to another that has a height holds something live
abbrev pub AreBusy : ℕ → ℕ → List KeptShelf → Type 0
AreBusy from behind shelves =
    (number : ℕ) (kept : KeptShelf) → from ≤ number → number < behind
    → slice_get shelves number ≡ Some kept → 0 < kept.shelf.height → is_kept_idle kept ≡ false
