-- What the calls of a bucketed atlas do, as a caller sees it who has ids, or keeps a ledger of what it has.
use Rattle.std.specs.Prelude.{◌≡◌, ◌≢◌, ℕ, true, List, [], ◌∷◌, ◌++◌}
use Rattle.std.specs.List.{AllByRecursion}
use Rattle.etagere_base.specs.declared.geometry.Rectangle.{Rectangle}
use Rattle.etagere_base.specs.declared.ids.Allocation.{Allocation}
use Rattle.etagere_base.specs.Rectangles.{SharesNone}
use Rattle.bucketed_model.specs.Returning.{is_known, tag_of}
use Rattle.bucketed_model.specs.State.{BucketedState}
use Rattle.bucketed_model.specs.Tied.{AreTied}

-- each ledger that was tied is tied with an allocation more
abbrev pub AddsEntry : BucketedState → Allocation → BucketedState → Type 0
AddsEntry old allocation new =
    (entries : List Allocation) → AreTied entries old → AreTied (entries ++ allocation ∷ []) new

-- each ledger that was tied and has an entry of an id is tied without it
abbrev pub TakesEntry : BucketedState → ℕ → BucketedState → Type 0
TakesEntry old id new =
    (one : List Allocation) (entry : Allocation) (other : List Allocation) → entry.id ≡ id
    → AreTied (one ++ entry ∷ other) old → AreTied (one ++ other) new

-- each ledger that was tied still is
abbrev pub KeepsEntries : BucketedState → BucketedState → Type 0
KeepsEntries old new = (entries : List Allocation) → AreTied entries old → AreTied entries new

-- a rectangle shares no unit square with that of any entry
abbrev pub IsClear : BucketedState → Rectangle → Type 0
IsClear state rectangle =
    (entries : List Allocation) → AreTied entries state
    → AllByRecursion (λ (entry : Allocation). SharesNone entry.rectangle rectangle) entries

-- each id that was known still is
abbrev pub KeepsKnown : BucketedState → BucketedState → Type 0
KeepsKnown old new = (id : ℕ) → is_known old id ≡ true → is_known new id ≡ true

-- each id is known as it was
abbrev pub SameKnown : BucketedState → BucketedState → Type 0
SameKnown old new = (id : ℕ) → is_known new id ≡ is_known old id

-- each id of another tag is known as it was
abbrev pub SameOthers : BucketedState → ℕ → BucketedState → Type 0
SameOthers old id new =
    (other : ℕ) → tag_of other ≢ tag_of id → is_known new other ≡ is_known old other
