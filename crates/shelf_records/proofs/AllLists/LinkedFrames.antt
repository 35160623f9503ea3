-- Linked records stay linked where records change that stand in no other list.
use Rattle.std.proofs.Common.{◌≡◌, ℕ, ◌+◌, ◌≤◌, Option, None, List, [], ◌∷◌, ◌++◌, refl, ap, arith}
use Rattle.std.specs.Prelude.{slice_get, option_and_then}
use Rattle.etagere_base.proofs.TimesLemmas.{times-append}
use Rattle.std.specs.List.{AllByRecursion}
use Rattle.etagere_base.specs.Lists.{times}
use Rattle.shelf_records.specs.Chains.{IsListIn, IsChainIn}
use Rattle.shelf_records.specs.declared.records.LinkedShelf.{LinkedShelf}
use Rattle.etagere_links.specs.Edits.{link_at}
use Rattle.shelf_records.specs.Families.{Family}
use Rattle.shelf_records.specs.RecordLists.{Records, Entry, first_item_of, first_free_of, shelf_numbers, item_numbers, IsEntry}
use Rattle.shelf_records.specs.Records.{item_chain, free_list}
use Rattle.etagere_links.proofs.Chains.{Leads-frame}
use Rattle.shelf_records.proofs.Chains.{LeadsBack-frame}
use Rattle.etagere_links.proofs.ListEnds.{times-here}

-- the records of these numbers are the same
abbrev pub SameAt : {T : Type 0} → List T → List T → List ℕ → Type 0
SameAt records new numbers = (k : ℕ) → 1 ≤ times k numbers → slice_get new k ≡ slice_get records k

-- a list whose records are the same is spelled as before
pub chain-frame : {T : Type 0} (family : Family T) (records new : List T) (first : Option ℕ) (xs : List ℕ) → SameAt records new xs → IsChainIn family records first xs → IsChainIn family new first xs
chain-frame family records new first xs same chain =
    record {
      forward = Leads-frame (link_at family.next records) (link_at family.next new) xs first None (λ k stands. ap (λ r. option_and_then family.next r) (same k stands)) chain.forward;
      backward = LeadsBack-frame (link_at family.previous records) (link_at family.previous new) xs None (λ k stands. ap (λ r. option_and_then family.previous r) (same k stands)) chain.backward;
    }

-- a list whose records are the same is spelled as before
pub list-frame : {T : Type 0} (family : Family T) (records new : List T) (top : Option ℕ) (xs : List ℕ) → SameAt records new xs → IsListIn family records top xs → IsListIn family new top xs
list-frame family records new top xs same list =
    Leads-frame (link_at family.next records) (link_at family.next new) xs top None (λ k stands. ap (λ r. option_and_then family.next r) (same k stands)) list

-- a list whose links are the same everywhere is spelled as before
pub chain-same : {T : Type 0} (family : Family T) (records new : List T) (first : Option ℕ) (xs : List ℕ) → ((k : ℕ) → link_at family.next new k ≡ link_at family.next records k) → ((k : ℕ) → link_at family.previous new k ≡ link_at family.previous records k) → IsChainIn family records first xs → IsChainIn family new first xs
chain-same family records new first xs next previous chain =
    record {
      forward = Leads-frame (link_at family.next records) (link_at family.next new) xs first None (λ k stands. next k) chain.forward;
      backward = LeadsBack-frame (link_at family.previous records) (link_at family.previous new) xs None (λ k stands. previous k) chain.backward;
    }

-- the shelves of these numbers begin with the same items and the same free ones
abbrev pub SameFirsts : List LinkedShelf → List LinkedShelf → List ℕ → Type 0
SameFirsts shelves new numbers =
    (k : ℕ) → 1 ≤ times k numbers → (first_item_of new k ≡ first_item_of shelves k) × (first_free_of new k ≡ first_free_of shelves k)

-- shelves whose item records are the same have the lists that they had
pub entries-frame : (records new : Records) (entries : List Entry) → SameAt records.items new.items (item_numbers entries) → SameFirsts records.shelves new.shelves (shelf_numbers entries) → AllByRecursion (IsEntry records) entries → AllByRecursion (IsEntry new) entries
entries-frame records new [] same firsts are = tt
entries-frame records new (entry ∷ entries) same firsts are =
    let first = firsts entry.number (omega (arith, times-here entry.number (shelf_numbers entries))) in
    let count : (k : ℕ) → times k (entry.items ++ item_numbers entries) ≡ times k entry.items + times k (item_numbers entries) = λ k. times-append k entry.items (item_numbers entries) in (
      record {
        items = rw first.0 (chain-frame item_chain records.items new.items (first_item_of records.shelves entry.number) entry.items (λ k stands. same k (omega (arith, count k, stands))) are.0.items);
        free_list = rw first.1 (chain-frame free_list records.items new.items (first_free_of records.shelves entry.number) entry.free_list (λ k stands. same k (omega (arith, count k, stands, are.0.members k))) are.0.free_list);
        members = are.0.members;
      },
      entries-frame records new entries (λ k stands. same k (omega (arith, count k, stands))) (λ k stands. firsts k (omega (arith, stands))) are.1,
    )

-- the item numbers of two lists of shelves
pub item_numbers-append : (before after : List Entry) (k : ℕ) → times k (item_numbers (before ++ after)) ≡ times k (item_numbers before) + times k (item_numbers after)
item_numbers-append [] after k = omega arith
item_numbers-append (entry ∷ before) after k =
    omega (arith, item_numbers-append before after k, times-append k entry.items (item_numbers before), times-append k entry.items (item_numbers (before ++ after)))

-- the numbers of two lists of shelves
pub shelf_numbers-append : (before after : List Entry) → shelf_numbers (before ++ after) ≡ shelf_numbers before ++ shelf_numbers after
shelf_numbers-append [] after = refl
shelf_numbers-append (entry ∷ before) after = ap (λ ns. entry.number ∷ ns) (shelf_numbers-append before after)

-- a list whose links are the same everywhere is spelled as before
pub list-same : {T : Type 0} (family : Family T) (records new : List T) (top : Option ℕ) (xs : List ℕ) → ((k : ℕ) → link_at family.next new k ≡ link_at family.next records k) → IsListIn family records top xs → IsListIn family new top xs
list-same family records new top xs next list = Leads-frame (link_at family.next records) (link_at family.next new) xs top None (λ k stands. next k) list
