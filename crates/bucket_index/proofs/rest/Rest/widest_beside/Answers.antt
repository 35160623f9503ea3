use Rattle.std.proofs.Common.{◌≡◌, ◌≤◌, true, Some, ap, sym, ◌∙◌, arith}
use Rattle.std.proofs.lemmas.Option.{slice_get-get_or}
use Rattle.std.specs.Prelude.{is_some, not, slice_get}
use Rattle.bucketed_records.specs.declared.records.LinkedBucket.{LinkedBucket}
use Rattle.bucketed_records.specs.Private.Store.{record_room}
use Rattle.bucketed_model.specs.State.{most_buckets}
use Rattle.etagere_links.specs.Links.{link_of}
use Rattle.bucket_index.specs.Private.Rest.{IsRow, few_of}
use Rattle.bucket_index.specs.Private.Searching.{widest_from}
use Rattle.bucket_index.proofs.FewBuckets.{few-less, row-of, widest-of-few}
use Rattle.bucket_index.proofs.KnownSpans.{room-at}
use Rattle.bucket_index.proofs.RestOfRows.{IsWidestBy, widest-known}
use Rattle.bucket_index.proofs.rest.Rest.widest_beside.Goals as goal
use Rattle.bucket_index.proofs.rest.Rest.widest_beside.Goals.{After-record_room-room}

-- the bucket is there
here : (c : After-record_room-room) → slice_get c.args.buckets.now c.args.bucket ≡ Some c.index-buckets-bucket.result
here c =
    let one = c.index-buckets-bucket.result in
    slice_get-get_or c.args.buckets.now c.args.bucket one (omega (arith, c.if-bucket-buckets.false)) ∙ ap (λ (b : LinkedBucket). Some b) (sym c.index-buckets-bucket.is)

-- the row is the one that is known
row : (c : After-record_room-room) → c.args.first ≡ c.args.self.now.first
row c = sym c.bits.ensures.link ∙ ap link_of c.if-bits.false ∙ c.bits-else-bucket-buckets.ensures.link

-- the bucket can give no more than the row
own : (c : After-record_room-room) → record_room c.index-buckets-bucket.result ≤ widest_from most_buckets c.args.buckets.now c.args.first
own c = omega (arith, room-at c.args.buckets.now c.args.bucket c.index-buckets-bucket.result (here c), c.requires.one)

-- what the row can give where the bucket is the one beside what is known
widest : (c : After-record_room-room) → c.args.bucket ≡ c.args.self.now.bucket → IsWidestBy c.args.self.now c.record_room-room.result (widest_from most_buckets c.args.buckets.now c.args.first)
widest c same =
    rw c.record_room-room.ensures
    (widest-known c.args.bucket c.args.self.now c.args.buckets.now c.index-buckets-bucket.result c.args.first (here c) same (row c) (own c) c.requires.rest)

pub returns-then-room-self : goal.returns-then-room-self
returns-then-room-self c = (widest (goal.at.returns-then-room-self c).After-record_room-room c.if-bucket-self.true).own c.if-room-self.true

pub returns-then-self : goal.returns-then-self
returns-then-self c = (widest (goal.at.returns-then-self c).After-record_room-room c.if-bucket-self.true).others c.if-self.true c.if-room-self.false

pub returns-then-most-widest : goal.returns-then-most-widest
returns-then-most-widest c =
    let rest = c.args.self.now in
    let buckets = c.args.buckets.now in
    let row : c.args.first ≡ rest.first = sym c.bits.ensures.link ∙ ap link_of c.if-bits.false ∙ c.bits-else-bucket-buckets.ensures.link in
    let some : is_some c.args.first ≡ true = ap is_some (sym c.number.ensures.value) ∙ c.is_none.ensures ∙ ap not c.if-is_none.false in
    let known : IsRow rest buckets = row-of rest buckets c.args.first row some c.requires.rest.row in
    omega (arith, c.if-most-widest.true, c.widest_of_few-widest.ensures.most, few-less (few_of rest) rest.first buckets known.stand, c.requires.most, ap (widest_from most_buckets buckets) row)

pub returns : goal.returns
returns c =
    let rest = c.args.self.now in
    let buckets = c.args.buckets.now in
    let row : c.args.first ≡ rest.first = sym c.bits.ensures.link ∙ ap link_of c.if-bits.false ∙ c.bits-else-bucket-buckets.ensures.link in
    let some : is_some c.args.first ≡ true = ap is_some (sym c.number.ensures.value) ∙ c.is_none.ensures ∙ ap not c.if-is_none.false in
    let known : IsRow rest buckets = row-of rest buckets c.args.first row some c.requires.rest.row in
    let all = c.widest_of_few-widest.ensures.all (omega (arith, c.if-most-widest.false)) in
    all
    ∙ widest-of-few (few_of rest) rest.first buckets rest.bound c.requires.rest.bound known.stand (omega (arith, c.if-widest-self.false, all))
    ∙ ap (widest_from most_buckets buckets) (sym row)
