-- Where links lead through records of one block of numbers, and how much room these have.
pub use Rattle.std.specs.Prelude.{ℕ}
use Rattle.std.specs.Prelude.{zero, suc, ◌≡◌, ◌<◌, ◌≤◌, ◌+◌, ◌/◌, ◌%◌, max, true, Option, None, Some, List, length, slice_get}
use Rattle.std.specs.Option.{option_map_or}
use Rattle.etagere_links.specs.Edits.{field_at}
use Rattle.bucketed_records.specs.BucketRecords.{next_of}
use Rattle.bucketed_records.specs.Private.Store.{record_room}
use Rattle.bucketed_records.specs.declared.records.LinkedBucket.{LinkedBucket}
use Rattle.etagere_links.specs.Links.{link_of, no_link}
use Rattle.bucket_index.specs.declared.spans.Ahead.{Ahead}
pub use Rattle.bucket_index.specs.declared.spans.Span.{Span}
use Rattle.bucket_index.specs.declared.spans.Spans.{Spans}

-- the number of the block of a record, among blocks of so many small ones, which have 8 records
abbrev pub block_of : ℕ → ℕ → ℕ
block_of scale number = number / 8 % 512 / scale

-- the number of the next larger block, of which that is a part
abbrev pub whole_of : ℕ → ℕ → ℕ
whole_of scale number = block_of scale number / 8

-- the width that the record of a number can give
abbrev pub room_at : List LinkedBucket → ℕ → ℕ
room_at buckets number = field_at record_room 0 buckets number

-- so many links lead from one to another, each to a record of this kind
abbrev pub Lead : ℕ → (ℕ → Type 0) → List LinkedBucket → Option ℕ → Option ℕ → Type 0
Lead zero IsSuch buckets at behind = at ≡ behind
Lead (suc steps) IsSuch buckets None behind = ⊥
Lead (suc steps) IsSuch buckets (Some number) behind =
    (number < length buckets) × IsSuch number
    × Lead steps IsSuch buckets (next_of buckets number) behind

-- a record stands in this block, where blocks are numbered so, and has at most this room
abbrev pub IsWithin : (ℕ → ℕ) → ℕ → ℕ → List LinkedBucket → ℕ → Type 0
IsWithin numbered block room buckets number =
    (numbered number ≡ block) × (room_at buckets number ≤ room)

-- the same of all records but one, of whose room nothing is said
abbrev pub IsWithinExcept : ℕ → (ℕ → ℕ) → ℕ → ℕ → List LinkedBucket → ℕ → Type 0
IsWithinExcept one numbered block room buckets number =
    (numbered number ≡ block) × ((number ≡ one → ⊥) → room_at buckets number ≤ room)

-- the links lead through a span's records, which stand in this block and have no more room than it
-- says
pub record IsSpan (numbered : ℕ → ℕ) (block : ℕ) (span : Span) (buckets : List LinkedBucket)
    : Type 0 where
  pub some : 1 ≤ span.steps
  pub lead : Lead span.steps (IsWithin numbered block span.widest_room buckets) buckets
      (Some span.first) (link_of span.behind)

-- the same where nothing is said of the room of one record
pub record IsSpanExcept (one : ℕ) (numbered : ℕ → ℕ) (block : ℕ) (span : Span)
    (buckets : List LinkedBucket) : Type 0 where
  pub some : 1 ≤ span.steps
  pub lead : Lead span.steps (IsWithinExcept one numbered block span.widest_room buckets) buckets
      (Some span.first) (link_of span.behind)

-- a span is one of its block, where something is known of it
abbrev pub IsKnownSpan : (ℕ → ℕ) → ℕ → Span → List LinkedBucket → Type 0
IsKnownSpan numbered block span buckets =
    span.first < no_link → IsSpan numbered block span buckets

-- the same where nothing is said of the room of one record
abbrev pub IsKnownSpanExcept : ℕ → (ℕ → ℕ) → ℕ → Span → List LinkedBucket → Type 0
IsKnownSpanExcept one numbered block span buckets =
    span.first < no_link → IsSpanExcept one numbered block span buckets

-- what is known of a block of which nothing is known
abbrev pub no_span : Span
no_span = record { first = no_link; steps = 65535; behind = 65535; widest_room = 65535 }

-- what is known of a block
abbrev pub span_of : List Span → ℕ → Span
span_of spans block = option_map_or (λ (span : Span). span) (slice_get spans block) no_span

-- a span that may have so much room
abbrev pub widened : ℕ → Span → Span
widened room span = record span { widest_room = max span.widest_room room }

-- a span that has at most so much room
abbrev pub bounded : ℕ → Span → Span
bounded room span = record span { widest_room = room }

-- each span of blocks that are numbered so is one of its block
abbrev pub AreSpansOf : (ℕ → ℕ) → List Span → List LinkedBucket → Type 0
AreSpansOf numbered spans buckets =
    (block : ℕ) (span : Span) → slice_get spans block ≡ Some span
    → IsKnownSpan numbered block span buckets

-- the same where nothing is said of the room of one record
abbrev pub AreSpansExceptOf : ℕ → (ℕ → ℕ) → List Span → List LinkedBucket → Type 0
AreSpansExceptOf one numbered spans buckets =
    (block : ℕ) (span : Span) → slice_get spans block ≡ Some span
    → IsKnownSpanExcept one numbered block span buckets

-- each span of another block than that of this record is one of its block
abbrev pub AreOtherSpansOf : ℕ → (ℕ → ℕ) → List Span → List LinkedBucket → Type 0
AreOtherSpansOf one numbered spans buckets =
    (block : ℕ) (span : Span) → (block ≡ numbered one → ⊥) → slice_get spans block ≡ Some span
    → IsKnownSpan numbered block span buckets

-- spans of each size are such
pub record AreSpansWhere (Are : (ℕ → ℕ) → List Span → List LinkedBucket → Type 0) (spans : Spans)
    (buckets : List LinkedBucket) : Type 0 where
  pub small : Are (block_of 1) spans.small buckets
  pub middle : Are (block_of 8) spans.middle buckets
  pub large : Are (block_of 64) spans.large buckets

-- each span is one of its block
abbrev pub AreKnownSpans : Spans → List LinkedBucket → Type 0
AreKnownSpans spans buckets = AreSpansWhere AreSpansOf spans buckets

-- each span is one of its block, where nothing is said of the room of one record
abbrev pub AreKnownSpansExcept : ℕ → Spans → List LinkedBucket → Type 0
AreKnownSpansExcept one spans buckets = AreSpansWhere (AreSpansExceptOf one) spans buckets

-- no other record in the span of a record's block has more room than this
abbrev pub IsBoundOf : (ℕ → ℕ) → ℕ → ℕ → List Span → List LinkedBucket → Type 0
IsBoundOf numbered room one spans buckets =
    (span : Span) → slice_get spans (numbered one) ≡ Some span
    → IsKnownSpanExcept one numbered (numbered one) (bounded room span) buckets

-- how much room others have in the spans of the record that was widened last
pub record AreBounds (spans : Spans) (buckets : List LinkedBucket) : Type 0 where
  pub small : IsBoundOf (block_of 1) spans.others.small spans.others.number spans.small buckets
  pub middle : IsBoundOf (block_of 8) spans.others.middle spans.others.number spans.middle buckets
  pub large : IsBoundOf (block_of 64) spans.others.large spans.others.number spans.large buckets

-- the same where one was
abbrev pub AreOthers : Spans → List LinkedBucket → Type 0
AreOthers spans buckets = spans.others.number < no_link → AreBounds spans buckets

-- each span is one of its block, and what is known of others is right
pub record AreLearned (spans : Spans) (buckets : List LinkedBucket) : Type 0 where
  pub known : AreKnownSpans spans buckets
  pub others : AreOthers spans buckets

-- the same where nothing is said of the room of one record
pub record AreLearnedExcept (one : ℕ) (spans : Spans) (buckets : List LinkedBucket) : Type 0 where
  pub known : AreKnownSpansExcept one spans buckets
  pub others : spans.others.number ≡ one → AreOthers spans buckets

-- where spans were learned, they are right
abbrev pub AreSpans : Spans → List LinkedBucket → Type 0
AreSpans spans buckets = spans.are_learned ≡ true → AreLearned spans buckets

-- the same where nothing is said of the room of one record
abbrev pub AreSpansExcept : ℕ → Spans → List LinkedBucket → Type 0
AreSpansExcept one spans buckets = spans.are_learned ≡ true → AreLearnedExcept one spans buckets

-- where spans were learned, each of another block than that of this record is one of its block
abbrev pub AreOtherSpans : ℕ → Spans → List LinkedBucket → Type 0
AreOtherSpans one spans buckets =
    spans.are_learned ≡ true → AreSpansWhere (AreOtherSpansOf one) spans buckets

-- a span is one of a block of some size, where something is known of it
pub record IsSomeSpan (span : Span) (buckets : List LinkedBucket) : Type 0 where
  pub numbered : ℕ → ℕ
  pub block : ℕ
  pub known : IsKnownSpan numbered block span buckets

-- a span begins with the record of this number, has less room than this width, and no more records
-- than are left
pub record IsPassedSpan (number width left : ℕ) (span : Span) : Type 0 where
  pub first : span.first ≡ number
  pub narrow : span.widest_room < width
  pub few : span.steps ≤ left

-- a search that goes on there has passed records that have less room than this width
pub record IsPassed (width : ℕ) (buckets : List LinkedBucket) (at : Option ℕ) (left : ℕ) (ahead : Ahead)
    : Type 0 where
  pub steps : ℕ
  pub passed : left ≡ steps + ahead.left
  pub lead : Lead steps (λ number. room_at buckets number < width) buckets at ahead.at
