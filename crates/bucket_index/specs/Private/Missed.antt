-- What is known of sides for which no shelf has a place.
use Rattle.std.specs.Prelude.{ℕ, ◌≡◌, ◌<◌, Bool, None, Some, IfSome, List, slice_get}
use Rattle.etagere_base.specs.declared.sides.Sides.{Sides}
use Rattle.bucketed_records.specs.declared.records.KeptShelf.{KeptShelf}
use Rattle.bucket_index.specs.declared.missed.Missed.{Missed}
use Rattle.bucket_index.specs.declared.missed.TwoSizes.{TwoSizes}
use Rattle.bucket_index.specs.Private.Searching.{kept_waste}

-- a shelf has no place for these sides, or wastes too much where shelves can be added
abbrev pub IsWithout : Bool → Sides → KeptShelf → Type 0
IsWithout adds sides kept = kept_waste adds sides kept ≡ None

-- none of the shelves before a number has a place for these sides
abbrev pub AreWithoutBefore : ℕ → Bool → Sides → List KeptShelf → Type 0
AreWithoutBefore tail adds sides shelves =
    (number : ℕ) (kept : KeptShelf) → number < tail → slice_get shelves number ≡ Some kept
    → IsWithout adds sides kept

-- the same of all but one
abbrev pub AreWithoutBut : ℕ → ℕ → Bool → Sides → List KeptShelf → Type 0
AreWithoutBut except tail adds sides shelves =
    (number : ℕ) (kept : KeptShelf) → number < tail → (number ≡ except → ⊥)
    → slice_get shelves number ≡ Some kept → IsWithout adds sides kept

-- none of the shelves of such a number has a place for the sides that were missed, but for the one
-- of which nothing is said, and those from a number on
pub record IsMissedBy (IsSuch : ℕ → Type 0) (adds : Bool) (except tail : ℕ) (sides : Sides) (shelves : List KeptShelf) : Type 0 where
  pub some : 0 < sides.across
  pub without : (number : ℕ) (kept : KeptShelf) → IsSuch number → number < tail
      → (number ≡ except → ⊥) → slice_get shelves number ≡ Some kept → IsWithout adds sides kept

-- the same of all but these
abbrev pub IsMissedSize : Bool → ℕ → ℕ → Sides → List KeptShelf → Type 0
IsMissedSize = IsMissedBy (λ number. Unit {0})

-- the same of both sizes that were missed
abbrev pub AreMissedBy : (ℕ → Type 0) → Bool → ℕ → ℕ → TwoSizes → List KeptShelf → Type 0
AreMissedBy IsSuch adds except tail sizes shelves =
    IsMissedBy IsSuch adds except tail sizes.last shelves
    × IfSome sizes.before (λ before. IsMissedBy IsSuch adds except tail before shelves)

-- the same of all but these, and beside one more
abbrev pub AreMissed : Bool → ℕ → ℕ → TwoSizes → List KeptShelf → Type 0
AreMissed = AreMissedBy (λ number. Unit {0})

abbrev pub AreMissedBeside : ℕ → Bool → ℕ → ℕ → TwoSizes → List KeptShelf → Type 0
AreMissedBeside one = AreMissedBy (λ number. number ≡ one → ⊥)

-- the same where sizes were missed
abbrev pub IsMissedWhere : (ℕ → Type 0) → Missed → List KeptShelf → Type 0
IsMissedWhere IsSuch missed shelves =
    IfSome missed.sizes
    (λ sizes. AreMissedBy IsSuch missed.adds missed.except missed.tail sizes shelves)

-- the same of each shelf
abbrev pub IsMissed : Missed → List KeptShelf → Type 0
IsMissed = IsMissedWhere (λ number. Unit {0})

-- the same where nothing is said of one more shelf
abbrev pub IsMissedBeside : ℕ → Missed → List KeptShelf → Type 0
IsMissedBeside one = IsMissedWhere (λ number. number ≡ one → ⊥)
