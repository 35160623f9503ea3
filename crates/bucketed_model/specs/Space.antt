-- The area that is allocated: what the buckets have used.
use Rattle.std.specs.Prelude.{ℕ, ◌+◌, ◌*◌, List, [], ◌∷◌}
use Rattle.bucketed_model.specs.State.{Bucket, BucketShelf, BucketedState}

-- the widths that buckets have used, added up
abbrev pub used_width : List Bucket → ℕ
used_width [] = 0
used_width (bucket ∷ buckets) = bucket.used + used_width buckets

-- the areas that the buckets of shelves have used, added up
abbrev pub space_in : List BucketShelf → ℕ
space_in [] = 0
space_in (shelf ∷ shelves) = used_width shelf.buckets * shelf.height + space_in shelves

-- the area that a state has allocated
abbrev pub allocated_space : BucketedState → ℕ
allocated_space state = space_in state.shelves
