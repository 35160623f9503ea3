-- What is known of the rest of a row of buckets, and of those that are kept in mind beside it.
pub use Rattle.std.specs.Prelude.{ℕ}
use Rattle.std.specs.Prelude.{zero, suc, ◌≡◌, ◌<◌, ◌≤◌, ◌⊎◌, Bool, true, false, max, Option, None, Some, List, [], ◌∷◌, slice_get}
use Rattle.std.specs.Option.{option_map_or}
use Rattle.etagere_links.specs.Edits.{changed_by}
use Rattle.bucketed_model.specs.State.{most_buckets}
use Rattle.bucketed_records.specs.BucketRecords.{next_of}
use Rattle.bucketed_records.specs.StandsFor.{place_of}
use Rattle.bucketed_records.specs.declared.records.LinkedBucket.{LinkedBucket}
use Rattle.bucket_index.specs.declared.rest.Former.{Former}
use Rattle.bucket_index.specs.declared.rest.Rest.{Rest}
use Rattle.bucket_index.specs.declared.rest.Spot.{Spot}
use Rattle.bucket_index.specs.declared.searching.Wanted.TheVariants.{Roomy}
use Rattle.bucket_index.specs.Private.Searching.{is_wanted, widest_from}
use Rattle.bucket_index.specs.Private.Spans.{room_at}

-- a bucket that has no room
abbrev pub full_record : LinkedBucket → LinkedBucket
full_record bucket = record bucket { free_space = 0 }

-- the greatest width that a row can give, where nothing is left in one of its buckets
abbrev pub widest_of_rest : Rest → List LinkedBucket → ℕ
widest_of_rest rest buckets =
    widest_from most_buckets (changed_by (Some rest.bucket) full_record buckets) rest.first

-- links to so many of these numbers, the last first
abbrev pub latest : ℕ → List ℕ → List (Option ℕ)
latest zero numbers = []
latest (suc count) numbers = slice_get numbers count ∷ latest count numbers

-- links to the buckets that are kept in mind, the latest first
abbrev pub links_of : Former → List (Option ℕ)
links_of former = latest former.count former.numbers

-- the buckets that links name have no room
abbrev pub emptied : List (Option ℕ) → List LinkedBucket → List LinkedBucket
emptied [] buckets = buckets
emptied (link ∷ links) buckets = changed_by link full_record (emptied links buckets)

-- the width that the bucket can give that a link names
abbrev pub room_behind : List LinkedBucket → Option ℕ → ℕ
room_behind buckets link = option_map_or (room_at buckets) link 0

-- the greatest width that one of the buckets can give that links name
abbrev pub widest_of : List (Option ℕ) → List LinkedBucket → ℕ
widest_of [] buckets = 0
widest_of (link ∷ links) buckets = max (room_behind buckets link) (widest_of links buckets)

-- a bucket stands in a row, within so many steps from a link on
abbrev pub Stands : ℕ → List LinkedBucket → Option ℕ → ℕ → Type 0
Stands zero buckets at number = ⊥
Stands (suc steps) buckets None number = ⊥
Stands (suc steps) buckets (Some at) number =
    (at ≡ number) ⊎ Stands steps buckets (next_of buckets at) number

-- each bucket of a row leads to one that begins before it along
abbrev pub LeadDown : ℕ → List LinkedBucket → Option ℕ → Type 0
LeadDown zero buckets at = Unit {0}
LeadDown (suc steps) buckets None = Unit {0}
LeadDown (suc steps) buckets (Some at) =
    ((next : ℕ) → next_of buckets at ≡ Some next → place_of buckets next < place_of buckets at)
    × LeadDown steps buckets (next_of buckets at)

-- a bucket stands in a row, which leads down
pub record IsIn (buckets : List LinkedBucket) (first : Option ℕ) (number : ℕ) : Type 0 where
  pub stands : Stands most_buckets buckets first number
  pub down : LeadDown most_buckets buckets first

-- the bucket that a link names, if it names one, stands in a row
abbrev pub StandsIfAny : List LinkedBucket → Option ℕ → Option ℕ → Type 0
StandsIfAny buckets first None = Unit {0}
StandsIfAny buckets first (Some number) = Stands most_buckets buckets first number

-- the buckets that links name stand in a row
abbrev pub AllStand : List (Option ℕ) → List LinkedBucket → Option ℕ → Type 0
AllStand [] buckets first = Unit {0}
AllStand (link ∷ links) buckets first =
    StandsIfAny buckets first link × AllStand links buckets first

-- a link of some names this bucket
abbrev pub IsNamed : List (Option ℕ) → ℕ → Type 0
IsNamed [] number = ⊥
IsNamed (link ∷ links) number = (link ≡ Some number) ⊎ IsNamed links number

-- the bucket of a number has room for this width
abbrev pub is_roomy_at : ℕ → List LinkedBucket → ℕ → Bool
is_roomy_at width buckets number =
    option_map_or (is_wanted (Roomy width)) (slice_get buckets number) false

-- of the buckets that links name and that have room for this width, one begins the furthest along
pub record IsFurthest (width : ℕ) (links : List (Option ℕ)) (buckets : List LinkedBucket) (spot : Spot)
    : Type 0 where
  pub named : IsNamed links spot.number
  pub roomy : is_roomy_at width buckets spot.number ≡ true
  pub place : spot.x ≡ place_of buckets spot.number
  pub most : (number : ℕ) → IsNamed links number → is_roomy_at width buckets number ≡ true
      → place_of buckets number ≤ spot.x

-- the same, or none of them has the room
abbrev pub IsFurthestOf : ℕ → List (Option ℕ) → List LinkedBucket → Option Spot → Type 0
IsFurthestOf width links buckets None =
    (number : ℕ) → IsNamed links number → is_roomy_at width buckets number ≡ false
IsFurthestOf width links buckets (Some spot) = IsFurthest width links buckets spot

-- the buckets beside which a row is known, the latest first
abbrev pub few_of : Rest → List (Option ℕ)
few_of rest = Some rest.bucket ∷ links_of rest.former

-- a row can give no more than this, where nothing is left in a bucket and those that were before it
abbrev pub IsBounded : Rest → List LinkedBucket → Type 0
IsBounded rest buckets =
    widest_from most_buckets (emptied (few_of rest) buckets) rest.first ≤ rest.bound

-- the rest of a row can give no more than is known
abbrev pub IsAtMost : Rest → List LinkedBucket → Type 0
IsAtMost rest buckets = widest_of_rest rest buckets ≤ rest.most

-- the buckets beside which a row is known stand in it, and it leads down
pub record IsRow (rest : Rest) (buckets : List LinkedBucket) : Type 0 where
  pub stand : AllStand (few_of rest) buckets rest.first
  pub down : LeadDown most_buckets buckets rest.first

-- the buckets beside which a row is known stand in it where one is known; else it may give any width
pub record IsRowIfAny (rest : Rest) (buckets : List LinkedBucket) : Type 0 where
  pub row : (number : ℕ) → rest.first ≡ Some number → IsRow rest buckets
  pub none : rest.first ≡ None → rest.most ≡ 65535

-- a row can give no more than is known of it, and just that where it is more than the room that was left out
pub record IsRest (rest : Rest) (buckets : List LinkedBucket) : Type 0 where
  pub most : IsAtMost rest buckets
  pub exact : rest.room < rest.most → widest_of_rest rest buckets ≡ rest.most
  pub bound : IsBounded rest buckets
  pub row : IsRowIfAny rest buckets
