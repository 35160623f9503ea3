-- What an atlas keeps that is made from records that stand for a state.
use Rattle.std.specs.Prelude.{◌≡◌, ℕ, Option, List, []}
use Rattle.std.specs.List.{AllByRecursion}
use Rattle.etagere_base.specs.declared.frames.Frame.{Frame}
use Rattle.etagere_base.specs.Sides.{side}
use Rattle.etagere_links.specs.Links.{bits_of, link_of}
use Rattle.bucketed_model.specs.State.{BucketedState}
use Rattle.bucketed_records.specs.declared.records.LinkedBucketShelf.{LinkedBucketShelf}
use Rattle.bucketed_records.specs.declared.saving.LinkedSnapshot.{LinkedSnapshot}
use Rattle.bucketed_records.specs.BucketRecords.{BucketRecords, bucket_walk, next_of, state_of}
use Rattle.bucketed_records.specs.declared.records.KeptShelf.{KeptShelf}
use Rattle.bucketed_records.specs.Private.Store.{Stored, kept_shelves}
use Rattle.bucketed_records.specs.Private.Witnessed.{HasTotals, Witnessed}
use Rattle.bucketed_records.specs.StandsFor.{StandsFor}

-- the records of a snapshot whose links were read
abbrev pub linked_records : LinkedSnapshot → BucketRecords
linked_records snapshot =
    record {
      frame = record {
        width = side snapshot.width;
        height = side snapshot.height;
        alignment_width = side snapshot.alignment_width;
        alignment_height = side snapshot.alignment_height;
        vertical = snapshot.vertical_shelves;
        column_width = snapshot.column_width;
        columns = snapshot.num_columns;
      };
      shelves = snapshot.shelves.items;
      buckets = snapshot.buckets.items;
      unused = snapshot.first_unused;
      current_column = snapshot.current_column;
      available_height = snapshot.available_height;
      allocated_space = snapshot.allocated_space;
    }

-- a link fits its bits: it doesn't name the number that stands for none
abbrev pub LinkFits : Option ℕ → Type 0
LinkFits link = link_of (bits_of link) ≡ link

-- the links of these records fit their bits
pub record LinksFit (atlas : BucketRecords) : Type 0 where
  pub next : (number : ℕ) → LinkFits (next_of atlas.buckets number)
  pub first : AllByRecursion (λ (shelf : LinkedBucketShelf). LinkFits shelf.first_bucket) atlas.shelves
  pub unused : LinkFits atlas.unused

-- these records, with what is kept beside the shelves of a state
abbrev pub stored_from : BucketRecords → BucketedState → Stored
stored_from atlas state =
    record {
      shelves = kept_shelves state.frame [] state.shelves;
      buckets = atlas.buckets;
      unused = atlas.unused;
    }

-- records that keep each rule of a snapshot spell a valid state
abbrev pub StandsWitnessed : Type 0
StandsWitnessed =
    (atlas : BucketRecords) (state : BucketedState) → LinksFit atlas → StandsFor atlas state
    → Witnessed (stored_from atlas state) (bucket_walk atlas.buckets atlas.unused).met state

-- a snapshot's records were judged, and this is what an atlas has beside them
pub record IsSnapshotJudged (atlas : BucketRecords) (frame : Frame) (all : List KeptShelf)
    (used area : ℕ) : Type 0 where
  pub frame_is : frame ≡ atlas.frame
  pub stands : StandsFor atlas (state_of atlas)
  pub witnessed :
      Witnessed (record { shelves = all; buckets = atlas.buckets; unused = atlas.unused })
      (bucket_walk atlas.buckets atlas.unused).met (state_of atlas)
  pub totals : HasTotals atlas.current_column atlas.available_height used area (state_of atlas)
