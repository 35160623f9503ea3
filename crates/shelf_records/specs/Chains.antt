-- Lists that links spell forward and backward, and those that the links of records spell.
use Rattle.std.specs.Prelude.{◌≡◌, ℕ, Option, None, Some, List, [], ◌∷◌}
use Rattle.etagere_links.specs.Chains.{IsList}
use Rattle.etagere_links.specs.Edits.{link_at}
use Rattle.shelf_records.specs.Families.{Family}

-- each of these links back to the one before it, the first to what stands before all
abbrev pub LeadsBack : (ℕ → Option ℕ) → Option ℕ → List ℕ → Type 0
LeadsBack previous before [] = Unit {0}
LeadsBack previous before (x ∷ xs) = (previous x ≡ before) × LeadsBack previous (Some x) xs

-- the links spell this list forward and backward
pub record IsChain (next previous : ℕ → Option ℕ) (first : Option ℕ) (xs : List ℕ) : Type 0 where
  pub forward : IsList next first xs
  pub backward : LeadsBack previous None xs

-- the links of one kind in these records spell this list
abbrev pub IsChainIn : {T : Type 0} → Family T → List T → Option ℕ → List ℕ → Type 0
IsChainIn family records first xs =
    IsChain (link_at family.next records) (link_at family.previous records) first xs

-- the links to the next one in these records spell this list
abbrev pub IsListIn : {T : Type 0} → Family T → List T → Option ℕ → List ℕ → Type 0
IsListIn family records top xs = IsList (link_at family.next records) top xs
