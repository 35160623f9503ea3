-- Other numbers for ids: one more that is new, and that others stay by it.
use Rattle.std.proofs.Common.{◌≡◌, ◌≢◌, ℕ, ◌≤◌, Bool, true, false, Option, None, Some, List, [], ◌∷◌, ◌++◌, map, refl, ap, arith, sym, ◌∙◌}
use Rattle.std.proofs.lemmas.List.{map-append}
use Rattle.std.specs.Prelude.{◌==◌, if◌then◌else◌, option_map}
use Rattle.etagere_base.specs.declared.ids.Allocation.{Allocation}
use Rattle.etagere_base.specs.Lists.{times}
use Rattle.etagere_base.proofs.TimesLemmas.{times-append}
use Rattle.shelf_model.specs.State.{Item, Shelf}
use Rattle.shelf_model.proofs.Allocations.IdLists.{id_list, ids, item_ids}
use Rattle.etagere_run.specs.Answers.Live.{Entry, live_allocations}
use Rattle.etagere_run.specs.Answers.Private.Renamed.{renamed_entry, renamed_item, renamed_shelf}

-- a number with two numbers exchanged
abbrev pub exchanged : ℕ → ℕ → ℕ → ℕ
exchanged one other n = if n == one then other else (if n == other then one else n)

-- the first becomes the second
pub exchanged-one : (one other : ℕ) → exchanged one other one ≡ other
exchanged-one one other = grind arith

-- all others stay
pub exchanged-none : (one other n : ℕ) → n ≢ one → n ≢ other → exchanged one other n ≡ n
exchanged-none one other n first second = grind arith

-- no two numbers become one
pub exchanged-apart : (one other n m : ℕ) → exchanged one other n ≡ exchanged one other m → n ≡ m
exchanged-apart one other n m same = grind arith

-- other numbers for ids, where one id has this number
abbrev pub with_name : (ℕ → ℕ) → ℕ → ℕ → ℕ → ℕ
with_name name id new n = exchanged (name id) new (name n)

-- an id stands among those of a shelf's items or of the others
stands-append : (n : ℕ) (front back : List ℕ) → 1 ≤ times n front → 1 ≤ times n (front ++ back)
stands-append n front back stands = omega (arith, stands, times-append n front back)

-- it stands among those behind
stands-behind : (n : ℕ) (front back : List ℕ) → 1 ≤ times n back → 1 ≤ times n (front ++ back)
stands-behind n front back stands = omega (arith, stands, times-append n front back)

module _ (name other : ℕ → ℕ) where
  -- items are the same under numbers that agree on their ids
  items-agree : (items : List Item) → ((n : ℕ) → 1 ≤ times n (item_ids items) → other n ≡ name n)
      → map (renamed_item other) items ≡ map (renamed_item name) items
  items-agree [] agree = refl
  items-agree (item ∷ items) agree =
      ap (λ (x : Item). x ∷ map (renamed_item other) items) (ap (λ id. record { width = item.width; id = id }) (of_id item.id (λ n stands. agree n (stands-append n (id_list item.id) (item_ids items) stands))))
      ∙ ap (λ (xs : List Item). renamed_item name item ∷ xs) (items-agree items (λ n stands. agree n (stands-behind n (id_list item.id) (item_ids items) stands)))
    where
      of_id : (id : Option ℕ) → ((n : ℕ) → 1 ≤ times n (id_list id) → other n ≡ name n) → option_map other id ≡ option_map name id
      of_id None agree = refl
      of_id (Some id) agree = ap Some (agree id (grind arith))

  -- and so are shelves
  pub shelves-agree : (shelves : List Shelf) → ((n : ℕ) → 1 ≤ times n (ids shelves) → other n ≡ name n)
      → map (renamed_shelf other) shelves ≡ map (renamed_shelf name) shelves
  shelves-agree [] agree = refl
  shelves-agree (shelf ∷ shelves) agree =
      ap (λ (x : Shelf). x ∷ map (renamed_shelf other) shelves)
      (ap (λ (items : List Item). record { column = shelf.column; height = shelf.height; items = items; free_list = shelf.free_list })
      (items-agree shelf.items (λ n stands. agree n (stands-append n (item_ids shelf.items) (ids shelves) stands))))
      ∙ ap (λ (xs : List Shelf). renamed_shelf name shelf ∷ xs) (shelves-agree shelves (λ n stands. agree n (stands-behind n (item_ids shelf.items) (ids shelves) stands)))

  -- and what is live
  pub entries-agree : (entries : List Entry) → ((n : ℕ) → 1 ≤ times n (map (λ (a : Allocation). a.id) (live_allocations entries)) → other n ≡ name n)
      → map (renamed_entry other) entries ≡ map (renamed_entry name) entries
  entries-agree [] agree = refl
  entries-agree (entry ∷ entries) agree =
      ap (λ (x : Entry). x ∷ map (renamed_entry other) entries)
      (ap (λ (id : ℕ). record { position = entry.position; allocation = record { id = id; rectangle = entry.allocation.rectangle } }) (agree entry.allocation.id (grind arith)))
      ∙ ap (λ (xs : List Entry). renamed_entry name entry ∷ xs) (entries-agree entries (λ n stands. agree n (grind (arith, stands))))

module _ (name : ℕ → ℕ) where
  -- the ids under other numbers
  item_ids-renamed : (items : List Item) → item_ids (map (renamed_item name) items) ≡ map name (item_ids items)
  item_ids-renamed [] = refl
  item_ids-renamed (item ∷ items) =
      ap (λ (ns : List ℕ). ns ++ item_ids (map (renamed_item name) items)) (of_id item.id)
      ∙ ap (λ (ns : List ℕ). map name (id_list item.id) ++ ns) (item_ids-renamed items)
      ∙ sym (map-append name (id_list item.id) (item_ids items))
    where
      of_id : (id : Option ℕ) → id_list (option_map name id) ≡ map name (id_list id)
      of_id None = refl
      of_id (Some id) = refl

  -- the ids of shelves under other numbers
  ids-renamed : (shelves : List Shelf) → ids (map (renamed_shelf name) shelves) ≡ map name (ids shelves)
  ids-renamed [] = refl
  ids-renamed (shelf ∷ shelves) =
      ap (λ (ns : List ℕ). ns ++ ids (map (renamed_shelf name) shelves)) (item_ids-renamed shelf.items)
      ∙ ap (λ (ns : List ℕ). map name (item_ids shelf.items) ++ ns) (ids-renamed shelves)
      ∙ sym (map-append name (item_ids shelf.items) (ids shelves))

  -- an id that stands in a list stands in it under its other number
  stands-renamed : (n : ℕ) (ns : List ℕ) → 1 ≤ times n ns → 1 ≤ times (name n) (map name ns)
  stands-renamed n [] stands = absurd (omega (arith, stands))
  stands-renamed n (m ∷ ns) stands = by_test (λ others. stands-renamed n ns others) (m == n) refl
    where
      by_test : (1 ≤ times n ns → 1 ≤ times (name n) (map name ns)) → (b : Bool) → (m == n) ≡ b → 1 ≤ times (name n) (name m ∷ map name ns)
      by_test rest true e = let same : m ≡ n = grind arith in rw same (grind arith)
      by_test rest false e = let others : 1 ≤ times n ns = grind arith in omega (arith, rest others)

  -- an id that is allocated is allocated under its other number
  pub allocated-renamed : (shelves : List Shelf) (n : ℕ) → 1 ≤ times n (ids shelves) → 1 ≤ times (name n) (ids (map (renamed_shelf name) shelves))
  allocated-renamed shelves n stands = rw (ids-renamed shelves) (stands-renamed n (ids shelves) stands)
