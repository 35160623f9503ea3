-- What is read of a bucket, and of a shelf, is what records say of it.
use Rattle.std.proofs.Common.{◌≡◌, ℕ, ◌<◌, Option, List, get_or, length, refl, sym, ◌∙◌, ap}
use Rattle.std.proofs.lemmas.Option.{slice_get_read}
use Rattle.std.specs.Option.{option_map_or}
use Rattle.bucketed_records.specs.declared.records.LinkedBucket.{LinkedBucket}
use Rattle.bucketed_records.specs.declared.records.KeptShelf.{KeptShelf}
use Rattle.bucketed_records.specs.StandsFor.{live_of, shelf_of}
use Rattle.bucketed_store.specs.Private.Returns.{width_of}

-- the shelf of a bucket
pub shelf-read : (buckets : List LinkedBucket) (k : ℕ) (one : LinkedBucket) → k < length buckets → one ≡ get_or buckets k one → (get_or buckets k one).shelf ≡ shelf_of buckets k
shelf-read buckets k one within is =
    ap (λ (b : LinkedBucket). b.shelf) (sym is) ∙ sym (ap (λ (r : Option LinkedBucket). option_map_or (λ (b : LinkedBucket). b.shelf) r 0) (slice_get_read buckets (length buckets) k one refl within is))

-- how many of its items are live
pub live-read : (buckets : List LinkedBucket) (k : ℕ) (one : LinkedBucket) → k < length buckets → one ≡ get_or buckets k one → (get_or buckets k one).refcount ≡ live_of buckets k
live-read buckets k one within is =
    ap (λ (b : LinkedBucket). b.refcount) (sym is) ∙ sym (ap (λ (r : Option LinkedBucket). option_map_or (λ (b : LinkedBucket). b.refcount) r 0) (slice_get_read buckets (length buckets) k one refl within is))

-- how wide the buckets of a shelf are
pub width-read : (shelves : List KeptShelf) (k : ℕ) (one : KeptShelf) → k < length shelves → one ≡ get_or shelves k one → (get_or shelves k one).shelf.bucket_width ≡ width_of shelves k
width-read shelves k one within is =
    ap (λ (s : KeptShelf). s.shelf.bucket_width) (sym is)
    ∙ sym (ap (λ (r : Option KeptShelf). option_map_or (λ (s : KeptShelf). s.shelf.bucket_width) r 0) (slice_get_read shelves (length shelves) k one refl within is))
