-- Walks through a few records, by computing.
use Rattle.std.proofs.Common.{◌≡◌, ℕ, List, length, [], ◌∷◌, refl}
use Rattle.etagere_links.specs.Walks.{walk}
use Rattle.etagere_links.proofs.WalkSteps.{walked_from-end}

-- a walk through all records, to none
row_through : walk (2 ∷ 65535 ∷ 1 ∷ []) 0 ≡ record { met = 0 ∷ 2 ∷ 1 ∷ []; end = 65535 }
row_through = refl

-- a walk that comes back to a record that it has met
row_circle : walk (1 ∷ 2 ∷ 1 ∷ []) 0 ≡ record { met = 0 ∷ 1 ∷ 2 ∷ []; end = 1 }
row_circle = refl

-- a walk that leads past the last record
row_past : walk (1 ∷ 7 ∷ []) 0 ≡ record { met = 0 ∷ 1 ∷ []; end = 7 }
row_past = refl

-- a walk that begins at none
row_none : walk (1 ∷ 0 ∷ []) 65535 ≡ record { met = []; end = 65535 }
row_none = refl

-- a walk that begins at none meets no record, however many there are
row_no_start : (links : List ℕ) → walk links 65535 ≡ record { met = []; end = 65535 }
row_no_start links = walked_from-end (length links) links [] 65535 refl

-- a walk through no records
row_empty : walk [] 0 ≡ record { met = []; end = 0 }
row_empty = refl
