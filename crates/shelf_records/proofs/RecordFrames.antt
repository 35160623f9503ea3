-- What stays of records when one is taken out of a list, put into one or made unused.
use Rattle.std.proofs.Common.{◌≡◌, ◌≢◌, ℕ, Option, None, Some, List, ◌∷◌, ◌++◌, length, map, arith, ◌∙◌}
use Rattle.std.specs.Prelude.{slice_get}
use Rattle.shelf_records.specs.Chains.{IsChainIn}
use Rattle.etagere_links.specs.Edits.{changed_by, link_at}
use Rattle.shelf_records.specs.ListEdits.{unlinked, linked_between, made_unused}
use Rattle.shelf_records.specs.Families.{Family, IsUnchanged}
use Rattle.etagere_base.specs.Lists.{times}
use Rattle.shelf_records.specs.ListEnds.{first_or, last_or}
use Rattle.shelf_records.proofs.Chains.{next-is, previous-is}
use Rattle.etagere_links.proofs.RecordChanges.{length-changed_by, map-changed_by, get-changed_by-other}
use Rattle.etagere_base.proofs.TimesLemmas.{times-append}
use Rattle.shelf_records.proofs.ListEnds.{first-stands, last-stands-in}

-- what the links of a list are no part of stays when a record is taken out of it
pub map-unlinked : {T X : Type 0} (family : Family T) (f : T → X) → IsUnchanged family f → (records : List T) (at : ℕ) → map f (unlinked family at records) ≡ map f records
map-unlinked family f kept records at =
    let before : Option ℕ = link_at family.previous records at in
    let after : Option ℕ = link_at family.next records at in
    map-changed_by f (family.with_previous before) (changed_by before (family.with_next after) records) after (kept.previous before)
    ∙ map-changed_by f (family.with_next after) records before (kept.next after)

-- what the links of a list are no part of stays when a record is put into it
pub map-linked_between : {T X : Type 0} (family : Family T) (f : T → X) → IsUnchanged family f → (records : List T) (before after : Option ℕ) (at : ℕ) → map f (linked_between family before after at records) ≡ map f records
map-linked_between {T} family f kept records before after at =
    let one : List T = changed_by (Some at) (family.with_next after) records in
    let two : List T = changed_by (Some at) (family.with_previous before) one in
    let three : List T = changed_by before (family.with_next (Some at)) two in
    map-changed_by f (family.with_previous (Some at)) three after (kept.previous (Some at))
    ∙ map-changed_by f (family.with_next (Some at)) two before (kept.next (Some at))
    ∙ map-changed_by f (family.with_previous before) one (Some at) (kept.previous before)
    ∙ map-changed_by f (family.with_next after) records (Some at) (kept.next after)

-- what the links of a list are no part of stays when a record becomes unused
pub map-made_unused : {T X : Type 0} (family : Family T) (f : T → X) → IsUnchanged family f → (records : List T) (top : Option ℕ) (at : ℕ) → map f (made_unused family top at records) ≡ map f records
map-made_unused family f kept records top at = map-changed_by f (family.with_next top) records (Some at) (kept.next top)

-- taking out keeps the number of records
pub length-unlinked : {T : Type 0} (family : Family T) (records : List T) (at : ℕ) → length (unlinked family at records) ≡ length records
length-unlinked family records at =
    let before : Option ℕ = link_at family.previous records at in
    let after : Option ℕ = link_at family.next records at in
    length-changed_by (family.with_previous before) (changed_by before (family.with_next after) records) after
    ∙ length-changed_by (family.with_next after) records before

-- putting in keeps the number of records
pub length-linked_between : {T : Type 0} (family : Family T) (records : List T) (before after : Option ℕ) (at : ℕ) → length (linked_between family before after at records) ≡ length records
length-linked_between {T} family records before after at =
    let one : List T = changed_by (Some at) (family.with_next after) records in
    let two : List T = changed_by (Some at) (family.with_previous before) one in
    let three : List T = changed_by before (family.with_next (Some at)) two in
    length-changed_by (family.with_previous (Some at)) three after
    ∙ length-changed_by (family.with_next (Some at)) two before
    ∙ length-changed_by (family.with_previous before) one (Some at)
    ∙ length-changed_by (family.with_next after) records (Some at)

-- making unused keeps the number of records
pub length-made_unused : {T : Type 0} (family : Family T) (records : List T) (top : Option ℕ) (at : ℕ) → length (made_unused family top at records) ≡ length records
length-made_unused family records top at = length-changed_by (family.with_next top) records (Some at)

-- taking a member out changes only its neighbours
pub get-unlinked : {T : Type 0} (family : Family T) (records : List T) (first : Option ℕ) (front back : List ℕ) (at k : ℕ) → IsChainIn family records first (front ++ at ∷ back) → times k (front ++ back) ≡ 0 → slice_get (unlinked family at records) k ≡ slice_get records k
get-unlinked family records first front back at k chain absent =
    let before : link_at family.previous records at ≡ last_or None front = previous-is (link_at family.previous records) front back at None chain.backward in
    let after : link_at family.next records at ≡ first_or None back = next-is (link_at family.next records) front back at first None chain.forward in
    simp (before, after)
    (get-changed_by-other (family.with_previous (last_or None front)) (changed_by (last_or None front) (family.with_next (first_or None back)) records) (first_or None back) k
    (λ e. omega (arith, absent, first-stands back k e, times-append k front back))
    ∙ get-changed_by-other (family.with_next (first_or None back)) records (last_or None front) k
    (λ e. omega (arith, absent, last-stands-in front k e, times-append k front back)))

-- making a record unused changes only that record
pub get-made_unused : {T : Type 0} (family : Family T) (records : List T) (top : Option ℕ) (at k : ℕ) → at ≢ k → slice_get (made_unused family top at records) k ≡ slice_get records k
get-made_unused family records top at k other = get-changed_by-other (family.with_next top) records (Some at) k (λ e. let same : at ≡ k = cc in other same)

-- putting a record between two neighbours changes no other
pub get-linked : {T : Type 0} (family : Family T) (records : List T) (before after : Option ℕ) (at k : ℕ) → at ≢ k → before ≢ Some k → after ≢ Some k → slice_get (linked_between family before after at records) k ≡ slice_get records k
get-linked {T} family records before after at k other not_before not_after =
    let one : List T = changed_by (Some at) (family.with_next after) records in
    let two : List T = changed_by (Some at) (family.with_previous before) one in
    let three : List T = changed_by before (family.with_next (Some at)) two in
    let stranger : Some at ≢ Some k = λ e. let same : at ≡ k = cc in other same in
    get-changed_by-other (family.with_previous (Some at)) three after k not_after
    ∙ get-changed_by-other (family.with_next (Some at)) two before k not_before
    ∙ get-changed_by-other (family.with_previous before) one (Some at) k stranger
    ∙ get-changed_by-other (family.with_next after) records (Some at) k stranger
