-- Of buckets that have no more left than they are wide, what their records have used is what the buckets that they spell have used.
use Rattle.std.proofs.Common.{◌≡◌, ℕ, ℤ, pos, ◌*◌, ◌≤◌, Option, None, Some, List, [], ◌∷◌, map, refl, ap, arith, ◌∙◌}
use Rattle.std.proofs.lemmas.Int.{ints}
use Rattle.std.specs.Option.{option_map_or}
use Rattle.std.specs.Prelude.{◌+ℤ◌, ◌-ℤ◌, ◌*ℤ◌, IfSome, slice_get}
use Rattle.std.specs.List.{AllByRecursion}
use Rattle.etagere_base.specs.Frames.{alignment_along}
use Rattle.bucketed_model.specs.Space.{space_in, used_width}
use Rattle.bucketed_records.specs.declared.records.LinkedBucket.{LinkedBucket}
use Rattle.bucketed_records.specs.declared.records.LinkedBucketShelf.{LinkedBucketShelf}
use Rattle.bucketed_records.specs.BucketRecords.{BucketRecords, bucket_at, bucket_walk, spelled_bucket, spelled_shelf}
use Rattle.bucketed_records.specs.StandsFor.{HasBuckets, IsFilled, all_used, free_of, used_area}

-- a bucket that is filled has no more left than it is wide
pub frees-filled : (buckets : List LinkedBucket) (alignment width height : ℕ) (ns : List ℕ)
    → AllByRecursion (λ (n : ℕ). IfSome (slice_get buckets n) (IsFilled alignment width height)) ns → AllByRecursion (λ (n : ℕ). free_of buckets n ≤ width) ns
frees-filled buckets alignment width height [] each = tt
frees-filled buckets alignment width height (n ∷ ns) each = (one (slice_get buckets n) each.0, frees-filled buckets alignment width height ns each.1)
  where
    one : (o : Option LinkedBucket) → IfSome o (IsFilled alignment width height) → option_map_or (λ (b : LinkedBucket). b.free_space) o 0 ≤ width
    one None h = omega arith
    one (Some r) h = h.free

-- what buckets have used of their width
used-all : (buckets : List LinkedBucket) (width : ℕ) (ns : List ℕ) → AllByRecursion (λ (n : ℕ). free_of buckets n ≤ width) ns
    → all_used width buckets ns ≡ pos (used_width (map (bucket_at buckets width) ns))
used-all buckets width [] frees = refl
used-all buckets width (n ∷ ns) frees =
    ap (λ (z : ℤ). z +ℤ all_used width buckets ns) (one (slice_get buckets n) frees.0)
    ∙ ap (λ (z : ℤ). pos (bucket_at buckets width n).used +ℤ z) (used-all buckets width ns frees.1)
  where
    one : (o : Option LinkedBucket) → option_map_or (λ (b : LinkedBucket). b.free_space) o 0 ≤ width
        → option_map_or (λ (b : LinkedBucket). pos width -ℤ pos b.free_space) o (pos 0)
        ≡ pos (option_map_or (spelled_bucket width n) o (record { place = 0; used = 0; live = 0; given = 0; tag = record { number = n; generation = 0 } })).used
    one None fits = refl
    one (Some r) fits = omega (arith, ints, fits)

-- what the buckets of shelves have used
pub area-used : (atlas : BucketRecords) (shelves : List LinkedBucketShelf) → AllByRecursion (HasBuckets atlas) shelves
    → used_area atlas.buckets shelves ≡ pos (space_in (map (spelled_shelf atlas.frame atlas.buckets) shelves))
area-used atlas [] has = refl
area-used atlas (s ∷ ss) has =
    let met = (bucket_walk atlas.buckets s.first_bucket).met in
    let used = used_width (map (bucket_at atlas.buckets s.bucket_width) met) in
    ap (λ (z : ℤ). (z *ℤ pos s.height) +ℤ used_area atlas.buckets ss)
    (used-all atlas.buckets s.bucket_width met (frees-filled atlas.buckets (alignment_along atlas.frame) s.bucket_width s.height met has.0.filled))
    ∙ ap (λ (z : ℤ). pos (used * s.height) +ℤ z) (area-used atlas ss has.1)
