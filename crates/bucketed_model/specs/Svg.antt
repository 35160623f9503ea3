-- What a picture of a bucketed atlas shows, and its SVG text.
use Rattle.std.specs.Prelude.{ℕ, ◌+◌, ◌-◌, Option, List, [], ◌∷◌, ◌++◌, nat_lt, flat_map, if◌then◌else◌}
use Rattle.etagere_base.specs.Drawing.{background, document, document_part, drawn_at}
use Rattle.etagere_base.specs.Lists.{gathered}
use Rattle.etagere_base.specs.declared.drawing.Colour.TheVariants.{Allocated, Free}
use Rattle.etagere_base.specs.declared.drawing.Drawn.{Drawn}
use Rattle.etagere_base.specs.declared.frames.Frame.{Frame}
use Rattle.etagere_base.specs.declared.geometry.Rectangle.{Rectangle}
use Rattle.bucketed_model.specs.State.{Bucket, BucketShelf, BucketedState, column_height}

-- the part of a bucket that is used, also where it has no width
abbrev pub used_part : Frame → ℕ → ℕ → Bucket → Drawn
used_part frame across height bucket =
    drawn_at frame Allocated bucket.place across bucket.used height

-- the part of a bucket this wide that is free
abbrev pub free_part : Frame → ℕ → ℕ → ℕ → Bucket → Drawn
free_part frame across height width bucket =
    drawn_at frame Free (bucket.place + bucket.used) across (width - bucket.used) height

-- the parts of a bucket this wide: the used one, and then the free one where there is some
abbrev pub drawn_bucket : Frame → ℕ → ℕ → ℕ → Bucket → List Drawn
drawn_bucket frame across height width bucket =
    used_part frame across height bucket
    ∷ (if nat_lt 0 (width - bucket.used)
    then free_part frame across height width bucket ∷ []
    else [])

-- the buckets of a shelf, in the order of search
abbrev pub drawn_along : Frame → ℕ → BucketShelf → List Drawn
drawn_along frame across shelf =
    flat_map (drawn_bucket frame across shelf.height shelf.bucket_width) shelf.buckets

-- the buckets of shelves that stand after others: each shelf lies across after the heights before
-- it in its column
abbrev pub drawn_after : Frame → List BucketShelf → List BucketShelf → List Drawn
drawn_after frame before shelves =
    gathered (λ before shelf. before ++ shelf ∷ [])
    (λ before shelf. drawn_along frame (column_height shelf.column before) shelf)
    before shelves

-- every bucket, shelf after shelf
abbrev pub drawn_buckets : BucketedState → List Drawn
drawn_buckets state = drawn_after state.frame [] state.shelves

-- all that a picture shows: the whole atlas, and every bucket above it
abbrev pub picture : BucketedState → List Drawn
picture state = background state.frame ∷ drawn_buckets state

-- the text of a document that shows an atlas
abbrev pub svg : BucketedState → List ℕ
svg state = document state.frame.width state.frame.height (picture state)

-- the text of an atlas in a larger document: in its own place, or in a rectangle that has an area
abbrev pub svg_into : BucketedState → Option Rectangle → List ℕ
svg_into state rectangle =
    document_part state.frame.width state.frame.height (picture state) rectangle
