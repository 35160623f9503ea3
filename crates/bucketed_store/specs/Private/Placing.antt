-- Where an item goes: what the private functions find among records.
use Rattle.std.specs.Prelude.{ℕ, ◌≡◌, ◌<◌, suc, ◌+◌, Bool, false, ◌&&◌, Option, None, Some, option_map, List, [], ◌∷◌, length, take, slice_get, nat_le, ◌==◌, if◌then◌else◌}
use Rattle.std.specs.List.{list_all}
use Rattle.etagere_base.specs.declared.frames.Frame.{Frame}
use Rattle.etagere_base.specs.declared.sides.Sides.{Sides}
use Rattle.bucketed_model.specs.Picking.{or_else}
use Rattle.bucketed_model.specs.Adding.{Remaining, NewShelf, can_add, new_shelves, news_of}
use Rattle.bucketed_model.specs.Merging.{Group}
use Rattle.bucketed_records.specs.declared.records.LinkedBucket.{LinkedBucket}
use Rattle.bucketed_records.specs.declared.records.KeptShelf.{KeptShelf}
use Rattle.bucketed_records.specs.Private.Store.{is_kept_idle}
use Rattle.bucket_index.specs.declared.searching.FoundBucket.{FoundBucket}
use Rattle.bucket_index.specs.Private.Searching.{picked}
use Rattle.bucketed_store.specs.declared.placing.Placement as code
use Rattle.bucketed_store.specs.declared.placing.Placement.TheVariants as variants

-- where an item goes: a bucket that was found, shelves to be added, or shelves to be merged
pub data Placement : Type 0 where
  InBucket : (found : FoundBucket) → Placement
  InAdded : (news : List NewShelf) → Placement
  InMerged : (group : Group) → Placement

-- the placement that the code's type stands for
abbrev pub placement_seen : code.Placement → Placement
placement_seen (variants.InBucket found) = InBucket found
placement_seen (variants.InAdded news) = InAdded (news_of news)
placement_seen (variants.InMerged group) = InMerged group

-- the heights of shelves, added up
abbrev pub kept_height : List KeptShelf → ℕ
kept_height [] = 0
kept_height (kept ∷ shelves) = kept.shelf.height + kept_height shelves

-- a shelf of this column holds nothing live
abbrev pub is_kept_idle_in : ℕ → KeptShelf → Bool
is_kept_idle_in x kept = kept.shelf.x == x && is_kept_idle kept

-- a shelf and as many after it serve these sides
abbrev pub kept_serves : Sides → ℕ → KeptShelf → List KeptShelf → Bool
kept_serves sides others kept shelves =
    let next = take others shelves in
    length next == others
    && (is_kept_idle kept && list_all (is_kept_idle_in kept.shelf.x) next)
    && (nat_le sides.along kept.shelf.bucket_width
    && nat_le sides.across (kept.shelf.height + kept_height next))

-- the first shelf, of which the first one here has this number, that serves with the next or the
-- next two
abbrev pub kept_mergeable : Sides → ℕ → List KeptShelf → Option Group
kept_mergeable sides number [] = None
kept_mergeable sides number (kept ∷ shelves) =
    if kept_serves sides 1 kept shelves then Some (record { first = number; others = 1 })
    else (if kept_serves sides 2 kept shelves then Some (record { first = number; others = 2 })
    else kept_mergeable sides (suc number) shelves)

-- each shelf before a number holds something live
abbrev pub AreBusyBefore : ℕ → List KeptShelf → Type 0
AreBusyBefore number shelves =
    (k : ℕ) (kept : KeptShelf) → k < number → slice_get shelves k ≡ Some kept
    → is_kept_idle kept ≡ false

-- the first of these shelves and as many after it serve these sides
abbrev pub serves_at : Sides → ℕ → List KeptShelf → Bool
serves_at sides others [] = false
serves_at sides others (kept ∷ shelves) = kept_serves sides others kept shelves

-- the placement of these sides where no bucket is picked: shelves to be added, else shelves to be merged
abbrev pub kept_elsewhere : Bool → Frame → Remaining → Sides → List KeptShelf → Option Placement
kept_elsewhere adds frame left sides shelves =
    if adds then Some (InAdded (new_shelves frame left sides))
    else option_map InMerged (kept_mergeable sides 0 shelves)

-- the placement of these sides: the bucket that is picked, else one elsewhere
abbrev pub kept_placement : Frame → Remaining → Sides → List KeptShelf → List LinkedBucket → Option Placement
kept_placement frame left sides shelves buckets =
    let adds = can_add frame left sides.across in
    or_else
    (option_map InBucket (picked adds sides shelves buckets))
    (kept_elsewhere adds frame left sides shelves)
