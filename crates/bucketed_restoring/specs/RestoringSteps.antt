-- How many links a restoring reads: a step of a walk reads the link of the record that it meets.
use Rattle.std.specs.Prelude.{◌≡◌, ℕ, suc, ◌+◌, ◌≤◌, ◌⊎◌, true, List, [], ◌∷◌, ◌++◌, length, map}
use Rattle.std.specs.List.{AllByRecursion}
use Rattle.etagere_base.specs.declared.faults.RestoreFault.{RestoreFault}
use Rattle.etagere_base.specs.declared.faults.RestoreFault.TheVariants.{Frame, Counts, Shelves, Memory}
use Rattle.etagere_links.specs.LinksRead.{is_own, links_in}
use Rattle.etagere_links.specs.Walks.{Walked}
use Rattle.bucketed_records.specs.declared.records.LinkedBucketShelf.{LinkedBucketShelf}
use Rattle.bucketed_records.specs.BucketRecords.{BucketRecords, bucket_walk}
use Rattle.bucketed_records.specs.StandsFor.{HasBuckets, shelf_of}

-- the walk along the buckets of a shelf
abbrev pub shelf_walk : BucketRecords → LinkedBucketShelf → Walked
shelf_walk atlas shelf = bucket_walk atlas.buckets shelf.first_bucket

-- all walks: along the buckets of each shelf, then along the unused ones
abbrev pub walks : BucketRecords → List Walked
walks atlas =
    map (shelf_walk atlas) atlas.shelves ++ bucket_walk atlas.buckets atlas.unused ∷ []

-- the links of all walks
abbrev pub links_of_all : BucketRecords → ℕ
links_of_all atlas = links_in (walks atlas)

-- a shelf of this number passes, after walks that met these: its walk is along a list of its own, of
-- buckets that name the shelf and are such as it must have
pub record Passes (atlas : BucketRecords) (before : List ℕ) (number : ℕ)
    (shelf : LinkedBucketShelf) : Type 0 where
  pub own : is_own before (shelf_walk atlas shelf) ≡ true
  pub named : AllByRecursion (λ bucket. shelf_of atlas.buckets bucket ≡ number) (shelf_walk atlas shelf).met
  pub has : HasBuckets atlas shelf

-- so many links are read of shelves, of which the first has this number, after walks that met these:
-- those of each walk up to the first shelf that does not pass, and where all pass those of the
-- unused buckets
abbrev pub AreReadFrom : BucketRecords → List ℕ → ℕ → List LinkedBucketShelf → ℕ → Type 0
AreReadFrom atlas before number [] links =
    links ≡ length (bucket_walk atlas.buckets atlas.unused).met
AreReadFrom atlas before number (shelf ∷ shelves) links =
    let met = (shelf_walk atlas shelf).met in
    ((Passes atlas before number shelf → ⊥) × (links ≡ length met))
    ⊎ (Passes atlas before number shelf
    × ((rest : ℕ) × (links ≡ length met + rest)
    × AreReadFrom atlas (before ++ met) (suc number) shelves rest))

-- so many links of these records are read
abbrev pub AreRead : BucketRecords → ℕ → Type 0
AreRead atlas links = AreReadFrom atlas [] 0 atlas.shelves links

-- so many links of these records were read before a refusal for this: none where no walk begins, and
-- fewer than all up to the first shelf that does not pass only where memory ran out
abbrev pub IsRead : BucketRecords → ℕ → RestoreFault → Type 0
IsRead atlas steps Frame = steps ≡ 0
IsRead atlas steps Counts = steps ≡ 0
IsRead atlas steps Shelves = steps ≡ 0
IsRead atlas steps Memory = (links : ℕ) → AreRead atlas links → steps ≤ links
IsRead atlas steps fault = AreRead atlas steps
