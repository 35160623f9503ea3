-- Following the lists of a snapshot's buckets: each is marked, and each list ends at none.
use Rattle.std.specs.Prelude.{◌≡◌, ℕ, suc, ◌<◌, ◌≤◌, ◌*◌, Bool, Option, List, [], ◌∷◌, ◌++◌, length, map}
use Rattle.std.specs.List.{AllByRecursion}
use Rattle.etagere_base.specs.declared.faults.RestoreFault.{RestoreFault}
use Rattle.etagere_base.specs.declared.faults.RestoreFault.TheVariants.{Link, Runs, Sharing, Unused, Memory}
use Rattle.etagere_base.specs.declared.frames.Frame.{Frame}
use Rattle.etagere_links.specs.Links.{bits_of, no_link}
use Rattle.etagere_links.specs.Marks.{HasTwice, IsMarkedBy}
use Rattle.etagere_links.specs.Lists.{HasEachOnce}
use Rattle.etagere_links.specs.Walks.{Walked}
use Rattle.bucketed_model.specs.Space.{space_in, used_width}
use Rattle.bucketed_model.specs.State.{generations}
use Rattle.bucketed_records.specs.declared.records.LinkedBucket.{LinkedBucket}
use Rattle.bucketed_records.specs.declared.records.LinkedBucketShelf.{LinkedBucketShelf}
use Rattle.bucketed_records.specs.BucketRecords.{bucket_walk, spelled_shelf}
use Rattle.bucketed_records.specs.Private.Restored.{LinkFits}
use Rattle.bucketed_records.specs.declared.records.KeptShelf.{KeptShelf}
use Rattle.bucketed_records.specs.StandsFor.{AreBuckets, StopsInRange, generation_of, live_of, shelf_of, walked_numbers}
use Rattle.bucketed_restoring.specs.declared.judging.Judged.{Judged}
use Rattle.bucketed_restoring.specs.Private.Judging.{row_kept}

-- the links of bucket records, as bits
abbrev pub links_of : List LinkedBucket → List ℕ
links_of buckets = map (λ (bucket : LinkedBucket). bits_of bucket.next) buckets

-- the rule that a fault names is broken by a walk, where these records were marked before
abbrev pub BreaksWalk : List ℕ → List Bool → Walked → RestoreFault → Type 0
BreaksWalk links marks walked Link = StopsInRange (length links) walked → ⊥
BreaksWalk links marks walked Sharing =
    walked.end ≡ no_link → (numbers : List ℕ) → IsMarkedBy marks numbers → HasTwice (numbers ++ walked.met)
BreaksWalk links marks walked Memory = Unit {0}
BreaksWalk links marks walked fault = ⊥

-- so many links were read before a refusal for this, of so many: fewer only where memory ran out
abbrev pub StopsAfter : ℕ → ℕ → RestoreFault → Type 0
StopsAfter all steps Memory = steps ≤ all
StopsAfter all steps fault = steps ≡ all

-- a shelf of this number was judged: its list ends, and has its buckets
pub record IsJudged (frame : Frame) (buckets : List LinkedBucket) (number : ℕ) (shelf : LinkedBucketShelf) : Type 0 where
  pub ends : (bucket_walk buckets shelf.first_bucket).end ≡ no_link
  pub fits : LinkFits shelf.first_bucket
  pub owned : AllByRecursion (λ bucket. shelf_of buckets bucket ≡ number) (bucket_walk buckets shelf.first_bucket).met
  pub has : AreBuckets frame buckets shelf (bucket_walk buckets shelf.first_bucket).met
  pub generations : AllByRecursion (λ bucket. generation_of buckets bucket < generations) (bucket_walk buckets shelf.first_bucket).met

-- so were shelves, of which the first has this number
abbrev pub AreJudged : Frame → List LinkedBucket → ℕ → List LinkedBucketShelf → Type 0
AreJudged frame buckets number [] = Unit {0}
AreJudged frame buckets number (shelf ∷ shelves) =
    IsJudged frame buckets number shelf × AreJudged frame buckets (suc number) shelves

-- what is kept of a shelf
abbrev pub kept_of : List LinkedBucket → LinkedBucketShelf → KeptShelf
kept_of buckets shelf = row_kept shelf buckets (bucket_walk buckets shelf.first_bucket).met

-- these shelves were judged, and this is what is kept of them, marked, counted and added up
pub record AreKeptSoFar (frame : Frame) (buckets : List LinkedBucket) (shelves : List LinkedBucketShelf) (all : List KeptShelf) (marks : List Bool) (steps area : ℕ) : Type 0 where
  pub judged : AreJudged frame buckets 0 shelves
  pub kept : all ≡ map (kept_of buckets) shelves
  pub marked : IsMarkedBy marks (walked_numbers buckets shelves)
  pub counted : steps ≡ length (walked_numbers buckets shelves)
  pub space : area ≡ space_in (map (spelled_shelf frame buckets) shelves)

-- what was told of a shelf of this number, where it was judged
pub record IsShelfJudged (frame : Frame) (buckets : List LinkedBucket) (number : ℕ) (shelf : LinkedBucketShelf) (told : Judged) : Type 0 where
  pub judged : IsJudged frame buckets number shelf
  pub kept : told.kept ≡ kept_of buckets shelf
  pub space : told.space ≡ used_width (spelled_shelf frame buckets shelf).buckets * shelf.height

-- the rule that a fault names is broken by a shelf, where these records were marked before
abbrev pub BreaksShelf : Frame → List LinkedBucket → List Bool → ℕ → LinkedBucketShelf → RestoreFault → Type 0
BreaksShelf frame buckets marks number shelf Link =
    StopsInRange (length buckets) (bucket_walk buckets shelf.first_bucket)
    → AllByRecursion (λ bucket. shelf_of buckets bucket ≡ number) (bucket_walk buckets shelf.first_bucket).met → ⊥
BreaksShelf frame buckets marks number shelf Runs =
    AreBuckets frame buckets shelf (bucket_walk buckets shelf.first_bucket).met → ⊥
BreaksShelf frame buckets marks number shelf Sharing =
    (bucket_walk buckets shelf.first_bucket).end ≡ no_link → (numbers : List ℕ) → IsMarkedBy marks numbers
    → HasTwice (numbers ++ (bucket_walk buckets shelf.first_bucket).met)
BreaksShelf frame buckets marks number shelf Memory = Unit {0}
BreaksShelf frame buckets marks number shelf fault = ⊥

-- the rule that a fault names is broken by the unused records, where these were marked before
abbrev pub BreaksUnused : List LinkedBucket → List Bool → Option ℕ → RestoreFault → Type 0
BreaksUnused buckets marks unused Link = StopsInRange (length buckets) (bucket_walk buckets unused) → ⊥
BreaksUnused buckets marks unused Sharing =
    (bucket_walk buckets unused).end ≡ no_link → (numbers : List ℕ) → IsMarkedBy marks numbers
    → HasEachOnce (length buckets) (numbers ++ (bucket_walk buckets unused).met) → ⊥
BreaksUnused buckets marks unused Unused = AllByRecursion (λ bucket. live_of buckets bucket ≡ 0) (bucket_walk buckets unused).met → ⊥
BreaksUnused buckets marks unused Memory = Unit {0}
BreaksUnused buckets marks unused fault = ⊥

-- all lists of records were judged: this is kept of the shelves, so many buckets are in use, and they have used this area
pub record AreLists (frame : Frame) (buckets : List LinkedBucket) (shelves : List LinkedBucketShelf) (unused : Option ℕ) (all : List KeptShelf) (used area : ℕ) : Type 0 where
  pub judged : AreJudged frame buckets 0 shelves
  pub kept : all ≡ map (kept_of buckets) shelves
  pub count : used ≡ length (walked_numbers buckets shelves)
  pub space : area ≡ space_in (map (spelled_shelf frame buckets) shelves)
  pub next : AllByRecursion (λ (bucket : LinkedBucket). LinkFits bucket.next) buckets
  pub first : LinkFits unused
  pub ends : (bucket_walk buckets unused).end ≡ no_link
  pub once : HasEachOnce (length buckets) (walked_numbers buckets shelves ++ (bucket_walk buckets unused).met)
  pub idle : AllByRecursion (λ bucket. live_of buckets bucket ≡ 0) (bucket_walk buckets unused).met
