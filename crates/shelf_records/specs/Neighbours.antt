-- Records that a link reaches: a link of untrusted records may name none of them.
use Rattle.std.specs.Prelude.{◌≡◌, ℕ, ◌<◌, Option, Some, List, length}
use Rattle.etagere_links.specs.Edits.{link_at}
use Rattle.shelf_records.specs.Families.{Family}

-- a link names one of these records, if any
abbrev pub NamesOneOf : {T : Type 0} → List T → Option ℕ → Type 0
NamesOneOf records link = (k : ℕ) → link ≡ Some k → k < length records

-- there is a record of this number, and those that its links in a list name are there too
pub record HasNeighbours {T : Type 0} (family : Family T) (records : List T) (number : ℕ)
    : Type 0 where
  pub here : number < length records
  pub next : NamesOneOf records (link_at family.next records number)
  pub previous : NamesOneOf records (link_at family.previous records number)
