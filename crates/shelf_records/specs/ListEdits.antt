-- What inserting and taking out does to records, and to the link to a list's first.
use Rattle.std.specs.Prelude.{◌≡◌, ℕ, Option, None, Some, List}
use Rattle.etagere_links.specs.Edits.{changed_by, link_at}
use Rattle.etagere_links.specs.Links.{bits_of, link_of}
use Rattle.shelf_records.specs.Families.{Family}

-- the links of these records fit their bits: none of them names the number whose bits stand for none
abbrev pub AreFitting : {T : Type 0} → (T → Option ℕ) → List T → Type 0
AreFitting link records = (k : ℕ) → link_of (bits_of (link_at link records k)) ≡ link_at link records k

-- the records after the one of this number was taken out: its neighbours are linked to each other
abbrev pub unlinked : {T : Type 0} → Family T → ℕ → List T → List T
unlinked family number records =
    let previous = link_at family.previous records number in
    let next = link_at family.next records number in
    changed_by next (family.with_previous previous)
    (changed_by previous (family.with_next next) records)

-- the link to a list's first, where one with these neighbours was taken out
abbrev pub first_without : Option ℕ → Option ℕ → Option ℕ → Option ℕ
first_without None next first = next
first_without (Some previous) next first = first

-- the records after the one of this number was put between two neighbours
abbrev pub linked_between : {T : Type 0} → Family T → Option ℕ → Option ℕ → ℕ → List T → List T
linked_between family previous next number records =
    changed_by next (family.with_previous (Some number))
    (changed_by previous (family.with_next (Some number))
    (changed_by (Some number) (family.with_previous previous)
    (changed_by (Some number) (family.with_next next) records)))

-- the records after the one of this number was made unused, where the first unused one was this
abbrev pub made_unused : {T : Type 0} → Family T → Option ℕ → ℕ → List T → List T
made_unused family top number records = changed_by (Some number) (family.with_next top) records
