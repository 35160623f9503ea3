-- What the public calls of a bucketed atlas answer and change, and the promises it keeps.
use Rattle.std.specs.Prelude.{◌≡◌, ◌*◌, ◌<◌, ◌≤◌, true, Some, None, List}
use Rattle.std.specs.List.{list_all}
use Rattle.etagere_base.specs.declared.geometry.Size.{Size}
use Rattle.etagere_base.specs.declared.ids.Allocation.{Allocation}
use Rattle.bucketed_model.specs.Adding.{AreNewTags, NewShelf}
use Rattle.bucketed_model.specs.Growing.{grow_fault, grown, grow_counts, total}
use Rattle.bucketed_model.specs.Placing.{BucketPlacement, InAdded, placement_of}
use Rattle.bucketed_model.specs.Space.{allocated_space}
use Rattle.bucketed_model.specs.State.{BucketedState, Tag, fresh, is_idle}
use Rattle.bucketed_model.specs.Taking.{bucket_taken, given, needed_buckets}
use Rattle.bucketed_model.specs.Valid.{IsValid}

-- an allocation of a size leads from one state to the next: the place of the size was taken and
-- what it gives was given, under new tags where buckets were made
pub record Allocates (old : BucketedState) (size : Size) (allocation : Allocation)
    (new : BucketedState) : Type 0 where
  pub placement : BucketPlacement
  pub tags : List Tag
  pub placed : placement_of old size ≡ Some placement
  pub new_tags : AreNewTags old.shelves (needed_buckets placement.destination) tags
  pub gives : given old placement tags ≡ Some allocation
  pub after : new ≡ bucket_taken old placement tags

-- the place of a size is in a shelf that has to be added
pub record NeedsShelf (state : BucketedState) (size : Size) : Type 0 where
  pub placement : BucketPlacement
  pub news : List NewShelf
  pub placed : placement_of state size ≡ Some placement
  pub adds : placement.destination ≡ InAdded news

-- a grow to a size leads from one state to the next: it has no fault, and new buckets have new
-- tags
pub record Grows (old : BucketedState) (size : Size) (new : BucketedState) : Type 0 where
  pub tags : List Tag
  pub fits : grow_fault old.frame size ≡ None
  pub new_tags : AreNewTags old.shelves (total (grow_counts old.frame size old.shelves)) tags
  pub after : new ≡ grown old size tags

-- a grow to a size has no fault, but makes buckets
pub record NeedsBuckets (state : BucketedState) (size : Size) : Type 0 where
  pub fits : grow_fault state.frame size ≡ None
  pub some : 0 < total (grow_counts state.frame size state.shelves)

-- what each state of a bucketed atlas keeps: it is valid, has allocated no more than its area and
-- something exactly where something is live, and with nothing live it is that of a new atlas of its
-- frame
pub record KeepsPromises (state : BucketedState) : Type 0 where
  pub valid : IsValid state
  pub space : allocated_space state ≤ state.frame.width * state.frame.height
  pub none : allocated_space state ≡ 0 → state ≡ fresh state.frame
  pub empty : list_all is_idle state.shelves ≡ true → state ≡ fresh state.frame
