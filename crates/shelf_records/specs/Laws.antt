-- Laws of edits: what an edit of links does to the list that they spell.
use Rattle.std.specs.Prelude.{◌≡◌, ℕ, ◌<◌, ◌≤◌, Option, None, Some, option_and_then, List, [], ◌∷◌, ◌++◌, length}
use Rattle.etagere_base.specs.Lists.{times}
use Rattle.shelf_records.specs.Chains.{IsChainIn, IsListIn}
use Rattle.etagere_links.specs.Edits.{link_at}
use Rattle.shelf_records.specs.ListEdits.{first_without, linked_between, made_unused, unlinked}
use Rattle.shelf_records.specs.Families.{Family}
use Rattle.shelf_records.specs.Records.{free_list, item_chain, shelf_chain}

-- links spell this list forward and backward, of records that are there, each once
pub record IsListed {T : Type 0} (family : Family T) (records : List T) (first : Option ℕ)
    (numbers : List ℕ) : Type 0 where
  pub spelled : IsChainIn family records first numbers
  pub once : (k : ℕ) → times k numbers ≤ 1
  pub there : (k : ℕ) → 1 ≤ times k numbers → k < length records

-- a record is there, and not in this list
pub record IsOutside {T : Type 0} (records : List T) (numbers : List ℕ) (number : ℕ) : Type 0 where
  pub there : number < length records
  pub absent : times number numbers ≡ 0

-- a record that is taken out is the only one that the list loses
abbrev pub TakesOut : {T : Type 0} → Family T → Type 0
TakesOut {T} family =
    (records : List T) (first : Option ℕ) (front back : List ℕ) (number : ℕ)
    → IsListed family records first (front ++ number ∷ back)
    → IsChainIn family (unlinked family number records)
    (first_without (link_at family.previous records number) (link_at family.next records number)
    first)
    (front ++ back)

-- a record that is put in front comes before all others
abbrev pub PutsInFront : {T : Type 0} → Family T → Type 0
PutsInFront {T} family =
    (records : List T) (first : Option ℕ) (numbers : List ℕ) (number : ℕ)
    → IsListed family records first numbers → IsOutside records numbers number
    → IsChainIn family (linked_between family None first number records) (Some number)
    (number ∷ numbers)

-- a record that is put after another comes next to it
abbrev pub PutsAfter : {T : Type 0} → Family T → Type 0
PutsAfter {T} family =
    (records : List T) (first : Option ℕ) (front back : List ℕ) (previous number : ℕ)
    → IsListed family records first (front ++ previous ∷ back)
    → IsOutside records (front ++ previous ∷ back) number
    → IsChainIn family
    (linked_between family (Some previous) (link_at family.next records previous) number records)
    first (front ++ previous ∷ number ∷ back)

-- a record that becomes unused lies on top of those that were unused before
abbrev pub MakesUnused : {T : Type 0} → Family T → Type 0
MakesUnused {T} family =
    (records : List T) (top : Option ℕ) (numbers : List ℕ) (number : ℕ)
    → IsListIn family records top numbers → IsOutside records numbers number
    → IsListIn family (made_unused family top number records) (Some number) (number ∷ numbers)

-- the record that is taken off what became unused is the one that lies on top, and the others are left
abbrev pub TakesOffTop : {T : Type 0} → Family T → Type 0
TakesOffTop {T} family =
    (records : List T) (top : Option ℕ) (number : ℕ) (numbers : List ℕ)
    → IsListIn family records top (number ∷ numbers)
    → (top ≡ Some number)
    × IsListIn family records (option_and_then (link_at family.next records) top) numbers

-- nothing is taken where nothing was unused
abbrev pub TakesNone : {T : Type 0} → Family T → Type 0
TakesNone {T} family =
    (records : List T) (top : Option ℕ)
    → IsListIn family records top []
    → (top ≡ None) × (option_and_then (link_at family.next records) top ≡ None)

-- each edit of links changes the list as a list
pub record EditsAList {T : Type 0} (family : Family T) : Type 0 where
  pub takes_out : TakesOut family
  pub puts_in_front : PutsInFront family
  pub puts_after : PutsAfter family
  pub makes_unused : MakesUnused family
  pub takes_off_top : TakesOffTop family
  pub takes_none : TakesNone family

-- so they do for each kind of list
pub record EditsEachList : Type 0 where
  pub items : EditsAList item_chain
  pub free_lists : EditsAList free_list
  pub shelves : EditsAList shelf_chain
