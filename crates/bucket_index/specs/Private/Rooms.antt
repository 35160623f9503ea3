-- What is counted of the widths that bucket records can give.
use Rattle.std.specs.Prelude.{◌≡◌, ℕ, ◌+◌, ◌-◌, ◌<◌, ◌≤◌, ◌%◌, ◌==◌, min, true, Some, List, [], ◌∷◌, slice_get, nat_lt, if◌then◌else◌}
use Rattle.bucketed_records.specs.declared.records.LinkedBucket.{LinkedBucket}
pub use Rattle.bucketed_records.specs.Private.Store.{record_room}
use Rattle.bucket_index.specs.declared.rooms.Rooms.{Rooms}

-- the slot of a width
abbrev pub slot_of : ℕ → ℕ
slot_of width = width % 512

-- one where a width has this slot, else none
abbrev pub one_in : ℕ → ℕ → ℕ
one_in slot width = if slot_of width == slot then 1 else 0

-- how many records can give a width of this slot
abbrev pub tally : ℕ → List LinkedBucket → ℕ
tally slot [] = 0
tally slot (bucket ∷ buckets) = one_in slot (record_room bucket) + tally slot buckets

-- so many more are counted, or 65535
abbrev pub more_by : ℕ → ℕ → ℕ
more_by more count = min (count + more) 65535

-- one less is counted; where it is 65535 that stays
abbrev pub one_less : ℕ → ℕ
one_less count = if nat_lt count 65535 then count - 1 else count

-- no slot has more than is counted, unless that is 65535
abbrev pub AreEnough : List ℕ → (ℕ → ℕ) → Type 0
AreEnough counts most = (slot count : ℕ) → slice_get counts slot ≡ Some count → count < 65535 → most slot ≤ count

-- what is counted of these records is enough, if they are
abbrev pub AreCounted : Rooms → List LinkedBucket → Type 0
AreCounted rooms buckets =
    rooms.are_counted ≡ true → AreEnough rooms.counts (λ slot. tally slot buckets)

-- of these records one can give another width than before, and the others what they could
abbrev pub IsOneChanged : ℕ → ℕ → List LinkedBucket → List LinkedBucket → Type 0
IsOneChanged before after buckets others =
    (slot : ℕ) → tally slot others + one_in slot before ≤ tally slot buckets + one_in slot after

-- so many of these records at most can give another width than before, which is this one, or are new
abbrev pub AreMore : ℕ → ℕ → List LinkedBucket → List LinkedBucket → Type 0
AreMore width more buckets others =
    (slot : ℕ) → tally slot others ≤ tally slot buckets + (if slot_of width == slot then more else 0)
