-- Where each marked item stands once in all shelves and names its own, the items of a shelf are those marked that name
-- it.
use Rattle.std.proofs.Common.{◌≡◌, ◌≢◌, ℕ, zero, suc, ◌+◌, ◌≤◌, Bool, true, false, List, [], ◌∷◌, refl, sym, arith, ◌∙◌}
use Rattle.std.specs.Prelude.{◌==◌, slice_index_or, if◌then◌else◌}
use Rattle.etagere_base.proofs.EachLemmas.{Each-both, Each-weaken}
use Rattle.etagere_base.proofs.TimesLemmas.{times-append}
use Rattle.std.specs.List.{AllByRecursion}
use Rattle.etagere_base.specs.Lists.{times}
use Rattle.etagere_links.proofs.ListEnds.{times-here, times-other}
use Rattle.shelf_records.specs.declared.records.LinkedItem.{LinkedItem}
use Rattle.shelf_records.specs.RecordLists.{Entry, item_numbers, shelf_numbers}
use Rattle.shelf_records.specs.AtlasRecords.{shelf_of}
use Rattle.shelf_records.specs.Private.Judging.{AreOwn, is_own}
use Rattle.shelf_records.proofs.Judged.FreeLists.{each-stands}

-- a fact of each element for each number
each-all : (Q : ℕ → Entry → Type 0) (entries : List Entry) → ((k : ℕ) → AllByRecursion (Q k) entries) → AllByRecursion (λ (entry : Entry). (k : ℕ) → Q k entry) entries
each-all Q [] all = tt
each-all Q (entry ∷ entries) all = (λ k. (all k).0, each-all Q entries (λ k. (all k).1))

-- no shelf has a number that stands nowhere
numbers-other : (shelf : ℕ) (entries : List Entry) → times shelf (shelf_numbers entries) ≡ 0 → AllByRecursion (λ (entry : Entry). entry.number ≢ shelf) entries
numbers-other shelf [] none = tt
numbers-other shelf (entry ∷ entries) none = (
  λ e. let stands : times shelf (shelf_numbers (entry ∷ entries)) ≡ 1 + times shelf (shelf_numbers entries) = rw e (times-here shelf (shelf_numbers entries)) in omega (arith, none, stands),
  numbers-other shelf entries (omega (arith, none)),
)

-- the items of a shelf name it
abbrev pub NamesItsOwn : List LinkedItem → Entry → Type 0
NamesItsOwn items entry = AllByRecursion (λ item. shelf_of items item ≡ entry.number) entry.items

-- an item that names another shelf does not stand in this one
names-other : (items : List LinkedItem) (k : ℕ) (entry : Entry) → NamesItsOwn items entry → entry.number ≢ shelf_of items k → times k entry.items ≡ 0
names-other items k entry names other = by_count (times k entry.items) refl
  where
    by_count : (n : ℕ) → times k entry.items ≡ n → times k entry.items ≡ 0
    by_count zero e = e
    by_count (suc n) e =
        absurd (other (sym (each-stands (λ item. shelf_of items item ≡ entry.number) k entry.items (omega (arith, e)) names)))

-- an item whose shelf is none of these stands in none
names-none : (items : List LinkedItem) (k : ℕ) (entries : List Entry) → AllByRecursion (NamesItsOwn items) entries
    → AllByRecursion (λ (entry : Entry). entry.number ≢ shelf_of items k) entries → times k (item_numbers entries) ≡ 0
names-none items k [] names others = refl
names-none items k (entry ∷ entries) names others =
    omega (
      arith,
      times-append k entry.items (item_numbers entries),
      names-other items k entry names.0 others.0,
      names-none items k entries names.1 others.1,
    )

-- an item of a shelf stands nowhere else
abbrev StandsThere : List LinkedItem → ℕ → ℕ → Entry → Type 0
StandsThere items k count entry = entry.number ≡ shelf_of items k → times k entry.items ≡ count

-- each item stands in the shelf that it names as often as in all
stands-there : (items : List LinkedItem) (k : ℕ) (entries : List Entry) → times (shelf_of items k) (shelf_numbers entries) ≤ 1
    → AllByRecursion (NamesItsOwn items) entries → AllByRecursion (StandsThere items k (times k (item_numbers entries))) entries
stands-there items k [] once names = tt
stands-there items k (entry ∷ entries) once names = by_test (entry.number == shelf_of items k) refl (stands-there items k entries)
  where
    by_test : (b : Bool) → (entry.number == shelf_of items k) ≡ b
        → (times (shelf_of items k) (shelf_numbers entries) ≤ 1 → AllByRecursion (NamesItsOwn items) entries → AllByRecursion (StandsThere items k (times k (item_numbers entries))) entries)
        → AllByRecursion (StandsThere items k (times k (item_numbers (entry ∷ entries)))) (entry ∷ entries)
    by_test true e later =
        let same : entry.number ≡ shelf_of items k = grind arith in
        let stands : times (shelf_of items k) (shelf_numbers (entry ∷ entries)) ≡ 1 + times (shelf_of items k) (shelf_numbers entries) =
        rw same (times-here (shelf_of items k) (shelf_numbers entries)) in
        let others = numbers-other (shelf_of items k) entries (omega (arith, once, stands)) in (
          λ _. omega (arith, times-append k entry.items (item_numbers entries), names-none items k entries names.1 others),
          Each-weaken (λ (other : Entry). other.number ≢ shelf_of items k) (StandsThere items k (times k (item_numbers (entry ∷ entries)))) entries (λ other differs same. absurd (differs same)) others,
        )
    by_test false e later =
        let differs : entry.number ≢ shelf_of items k = grind arith in
        let none : times k entry.items ≡ 0 = names-other items k entry names.0 differs in
        let rest : times k (item_numbers (entry ∷ entries)) ≡ times k (item_numbers entries) = omega (arith, times-append k entry.items (item_numbers entries), none) in
        let tail : times (shelf_of items k) (shelf_numbers entries) ≤ 1 = omega (arith, once, times-other (shelf_of items k) entry.number (shelf_numbers entries) differs) in (
          λ same. absurd (differs same),
          Each-weaken (StandsThere items k (times k (item_numbers entries))) (StandsThere items k (times k (item_numbers (entry ∷ entries)))) entries
              (λ other there same. there same ∙ sym rest) (later tail names.1),
        )

-- the marks tell the items of a shelf
pub own-items : (items : List LinkedItem) (marks : List Bool) (entries : List Entry)
    → ((k : ℕ) → times k (shelf_numbers entries) ≤ 1)
    → ((k : ℕ) → times k (item_numbers entries) ≡ (if slice_index_or marks k false then 1 else 0))
    → AllByRecursion (NamesItsOwn items) entries → AllByRecursion (AreOwn items marks) entries
own-items items marks entries once marked names =
    each-all (λ k (entry : Entry). times k entry.items ≡ (if is_own items marks entry.number k then 1 else 0)) entries
    (λ k. Each-weaken (λ (entry : Entry). NamesItsOwn items entry × StandsThere items k (times k (item_numbers entries)) entry)
    (λ (entry : Entry). times k entry.items ≡ (if is_own items marks entry.number k then 1 else 0)) entries (own k)
    (Each-both (NamesItsOwn items) (StandsThere items k (times k (item_numbers entries))) entries names (stands-there items k entries (once (shelf_of items k)) names)))
  where
    own : (k : ℕ) (entry : Entry) → NamesItsOwn items entry × StandsThere items k (times k (item_numbers entries)) entry
        → times k entry.items ≡ (if is_own items marks entry.number k then 1 else 0)
    own k entry both = by_test (slice_index_or marks k false) (shelf_of items k == entry.number) refl refl
      where
        by_test : (m t : Bool) → slice_index_or marks k false ≡ m → (shelf_of items k == entry.number) ≡ t
            → times k entry.items ≡ (if is_own items marks entry.number k then 1 else 0)
        by_test m false e f =
            let differs : entry.number ≢ shelf_of items k = grind arith in
            let not_own : is_own items marks entry.number k ≡ false = grind (arith, f) in
            rw not_own (names-other items k entry both.0 differs)
        by_test true true e f =
            let same : entry.number ≡ shelf_of items k = grind arith in
            let is : is_own items marks entry.number k ≡ true = grind (arith, e, f) in
            rw is (both.1 same ∙ (rw e at (marked k)))
        by_test false true e f =
            let same : entry.number ≡ shelf_of items k = grind arith in
            let not_own : is_own items marks entry.number k ≡ false = grind (arith, e) in
            rw not_own (both.1 same ∙ (rw e at (marked k)))
