-- The widest room of a shelf, by one step along its links.
use Rattle.std.proofs.Common.{◌≡◌, ℕ, zero, suc, Option, None, Some, List, max, refl, ap, ◌∙◌}
use Rattle.std.specs.Option.{option_map_or}
use Rattle.std.specs.Prelude.{slice_get}
use Rattle.bucketed_records.specs.declared.records.LinkedBucket.{LinkedBucket}
use Rattle.bucketed_records.specs.Private.Store.{record_room}
use Rattle.bucket_index.specs.Private.Searching.{widest_from}

-- the widest from a link on
pub widest-at : (buckets : List LinkedBucket) (left fewer number : ℕ) (at : Option ℕ) (found : Option LinkedBucket) → at ≡ Some number → left ≡ suc fewer → slice_get buckets number ≡ found
    → widest_from left buckets at ≡ option_map_or (λ (bucket : LinkedBucket). max (record_room bucket) (widest_from fewer buckets bucket.next)) found 0
widest-at buckets left fewer number at found names less here =
    ap (widest_from left buckets) names
    ∙ ap (λ (n : ℕ). widest_from n buckets (Some number)) less
    ∙ ap (λ (r : Option LinkedBucket). option_map_or (λ (bucket : LinkedBucket). max (record_room bucket) (widest_from fewer buckets bucket.next)) r 0) here

-- nothing is wide where no bucket is named
pub widest-none : (buckets : List LinkedBucket) (left : ℕ) (at : Option ℕ) → at ≡ None → widest_from left buckets at ≡ 0
widest-none buckets left at names = ap (widest_from left buckets) names ∙ none left
  where
    none : (n : ℕ) → widest_from n buckets None ≡ 0
    none zero = refl
    none (suc n) = refl
