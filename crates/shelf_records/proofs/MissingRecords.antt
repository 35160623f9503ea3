-- How many records are missing: as many as are wanted beyond those that became unused.
use Rattle.std.proofs.Common.{◌≡◌, ℕ, zero, suc, ◌-◌, ◌≤◌, Option, None, Some, List, [], ◌∷◌, length, arith}
use Rattle.shelf_records.specs.Chains.{IsListIn}
use Rattle.etagere_links.specs.Edits.{link_at}
use Rattle.shelf_records.specs.Families.{Family}
use Rattle.shelf_records.specs.RecordUses.{missing}

-- no more are missing than are wanted
pub missing-le : {T : Type 0} (family : Family T) (wanted : ℕ) (unused : Option ℕ) (records : List T) → missing family wanted unused records ≤ wanted
missing-le family zero unused records = omega arith
missing-le family (suc wanted) None records = omega arith
missing-le family (suc wanted) (Some number) records = omega (arith, missing-le family wanted (link_at family.next records number) records)

-- where links spell the records that were unused, so many more are missing
pub missing-counted : {T : Type 0} (family : Family T) (wanted : ℕ) (unused : Option ℕ) (records : List T) (xs : List ℕ) → IsListIn family records unused xs
    → missing family wanted unused records ≡ wanted - length xs
missing-counted family zero unused records xs leads = omega arith
missing-counted family (suc wanted) unused records [] leads = let none : unused ≡ None = leads in rw none (omega arith)
missing-counted family (suc wanted) unused records (x ∷ xs) leads =
    let rest : missing family wanted (link_at family.next records x) records ≡ wanted - length xs =
    missing-counted family wanted (link_at family.next records x) records xs leads.1 in
    rw leads.0 (omega (arith, rest))
