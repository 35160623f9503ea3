-- Worked rows: why sizes are refused, and how full an atlas is, as the rules say it.
use Rattle.std.proofs.Common.{◌≡◌, ℕ, true, false, Option, None, Some, List, [], ◌∷◌, refl, map}
use Rattle.etagere_base.specs.declared.geometry.Size.{Size}
use Rattle.bucketed_model.specs.declared.refusals.BucketedRefusal.{BucketedRefusal}
use Rattle.bucketed_model.specs.declared.refusals.BucketedRefusal.TheVariants.{NotPositive, TooLong, WiderThanColumn, TallerThanAtlas, NoRoom, ItemsUsedUp}
use Rattle.bucketed_model.specs.declared.usage.BucketedUsage.{BucketedUsage}
use Rattle.bucketed_model.specs.Refusal.{refusal}
use Rattle.bucketed_model.specs.State.{BucketedState}
use Rattle.bucketed_model.specs.Usage.{usage}
use Rattle.bucketed_model.proofs.WorkedRows.{Ask, Return, after, narrow_shelf, new_atlas, options, plain_atlas, size}

abbrev reasons : BucketedState → List Size → List (Option BucketedRefusal)
reasons state sizes = map (refusal state) sizes

-- sides that no shelf takes, the first reason of several
pub sides_of_no_shelf : reasons (plain_atlas 32 64) (size 0 5 ∷ size 5 0 ∷ size 0 65536 ∷ size 65536 1 ∷ size 1 65536 ∷ size 33 8 ∷ size 33 65 ∷ size 32 65 ∷ size 32 64 ∷ [])
    ≡ Some NotPositive ∷ Some NotPositive ∷ Some NotPositive ∷ Some TooLong ∷ Some TooLong ∷ Some WiderThanColumn ∷ Some WiderThanColumn ∷ Some TallerThanAtlas ∷ None ∷ []
sides_of_no_shelf = refl

-- rounded sides count
pub rounded_sides : reasons (new_atlas (size 30 60) (options 8 16 false 1)) (size 24 48 ∷ size 25 48 ∷ size 24 49 ∷ []) ≡ None ∷ Some WiderThanColumn ∷ Some TallerThanAtlas ∷ []
rounded_sides = refl

-- of vertical shelves the height is along
pub vertical_sides : reasons (new_atlas (size 256 64) (options 1 1 true 1)) (size 256 64 ∷ size 1 65 ∷ size 257 1 ∷ []) ≡ None ∷ Some WiderThanColumn ∷ Some TallerThanAtlas ∷ []
vertical_sides = refl

-- what two shelves leave of an atlas, of which the first one has 12 left
pub no_room : reasons (after (plain_atlas 32 64) (Ask 20 16 ∷ Ask 32 48 ∷ [])) (size 12 16 ∷ size 13 16 ∷ size 12 17 ∷ size 32 1 ∷ []) ≡ None ∷ Some (NoRoom 12) ∷ Some (NoRoom 0) ∷ Some (NoRoom 12) ∷ []
no_room = refl

-- idle shelves that are merged have room
pub idle_shelves : reasons (after (plain_atlas 64 32) (Ask 64 8 ∷ Ask 64 8 ∷ Ask 64 8 ∷ Ask 64 8 ∷ Return 4096 ∷ Return 4097 ∷ [])) (size 64 16 ∷ size 64 17 ∷ []) ≡ None ∷ Some (NoRoom 0) ∷ []
idle_shelves = refl

-- a bucket that has given 4095 items, and has 5 left
pub used_up : reasons (record (plain_atlas 4100 8) { shelves = (record (narrow_shelf 0 8 0 4095) { bucket_width = 4100 }) ∷ [] }) (size 5 8 ∷ size 6 8 ∷ []) ≡ Some ItemsUsedUp ∷ Some (NoRoom 0) ∷ []
used_up = refl

abbrev used : (shelves idle_shelves buckets idle_buckets items unused_buckets width height : ℕ) → BucketedUsage
used shelves idle_shelves buckets idle_buckets items unused_buckets width height =
    record {
      shelves = shelves;
      idle_shelves = idle_shelves;
      buckets = buckets;
      idle_buckets = idle_buckets;
      items = items;
      unused_buckets = unused_buckets;
      largest_free = size width height;
    }

pub nothing_used : usage (plain_atlas 32 64) ≡ used 0 0 0 0 0 4095 0 0
nothing_used = refl

pub four_buckets : usage (after (plain_atlas 256 8) (Ask 1 8 ∷ [])) ≡ used 1 0 4 3 1 4091 64 8
four_buckets = refl

-- shelves whose height another one has taken give nothing
pub merged_shelves : usage (after (plain_atlas 64 32) (Ask 64 8 ∷ Ask 64 8 ∷ Ask 64 8 ∷ Ask 64 8 ∷ Return 4096 ∷ Return 4097 ∷ Return 4098 ∷ Ask 64 24 ∷ [])) ≡ used 4 2 4 2 2 4091 0 0
merged_shelves = refl

-- of equally wide rooms the tallest
pub tallest_room : usage (after (plain_atlas 64 64) (Ask 32 40 ∷ Ask 32 8 ∷ [])) ≡ used 2 0 2 0 2 4093 32 48
tallest_room = refl

pub vertical_room : usage (after (new_atlas (size 64 32) (options 1 1 true 1)) (Ask 16 20 ∷ [])) ≡ used 1 0 1 0 1 4094 16 12
vertical_room = refl
