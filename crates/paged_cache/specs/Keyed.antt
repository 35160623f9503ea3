-- The model of keys with allocations, as callers see it: the entries in the order of use, and what they lie in; and
-- what becomes of them when some go, and when a new key is placed.
use Rattle.std.specs.Prelude.{◌≡◌, ℕ, zero, suc, ◌-◌, ◌<◌, ◌≤◌, Bool, ◌&&◌, true, false, Option, None, nat_eq, nat_lt, List, [], ◌∷◌, length, reverse, take, ◌⊎◌}
use Rattle.std.specs.Map.{keys_of, lookup, remove_entry, values_of}
use Rattle.std.specs.Option.{option_map_or}
use Rattle.lru.specs.LruCache.{last_entry, promoted}
use Rattle.etagere_base.specs.declared.geometry.Size.{Size}
use Rattle.etagere_base.specs.Lists.{times}
use Rattle.paged_cache.specs.declared.faults.PlacingFault.{PlacingFault}
use Rattle.paged_cache.specs.declared.faults.PlacingFault.TheVariants.{TooLarge, Memory}

-- keys with their allocations, the most recently used first; how many there may be; and what allocates them
pub record KeyedState (A P : Type 0) : Type 0 where
  pub entries : List (ℕ × P)
  pub capacity : ℕ
  pub allocator : A

module _ {A P : Type 0} where
  -- no keys
  abbrev pub no_keys : A → ℕ → KeyedState A P
  no_keys allocator capacity = record { entries = []; capacity = capacity; allocator = allocator }

  -- the allocation of a key; none where it isn't there
  abbrev pub allocation_at : KeyedState A P → ℕ → Option P
  allocation_at state key = lookup (nat_eq key) state.entries

  -- the key isn't there
  abbrev pub IsNew : KeyedState A P → ℕ → Type 0
  IsNew state key = lookup (nat_eq key) state.entries ≡ None

  -- with a key at the front, if it is there
  abbrev pub used : KeyedState A P → ℕ → KeyedState A P
  used state key =
      record { entries = promoted (nat_eq key) state.entries; capacity = state.capacity; allocator = state.allocator }

  -- the keys of so many entries, the least recently used first
  abbrev pub dropped_keys : KeyedState A P → ℕ → List ℕ
  dropped_keys state n = take n (reverse (keys_of state.entries))

  -- there is room for one entry more, and a place for its size
  abbrev pub has_room : (A → Size → Bool) → KeyedState A P → Size → Bool
  has_room has_place state size =
      nat_lt (length state.entries) state.capacity && has_place state.allocator size

  -- a key stands first, with the allocation that its size was given
  pub record Enters (gives : A → Size → P → A → Type 0) (old : KeyedState A P) (key : ℕ) (size : Size) (allocation : P)
      (new : KeyedState A P) : Type 0 where
    pub given : gives old.allocator size allocation new.allocator
    pub entries : new.entries ≡ (key, allocation) ∷ old.entries
    pub capacity : new.capacity ≡ old.capacity

-- there are at most as many entries as there may be, no key stands twice, and theirs are all allocations
pub record IsKeyed {A P : Type 0} (keeps : A → Type 0) (are_held : A → List P → Type 0) (state : KeyedState A P)
    : Type 0 where
  pub allocator : keeps state.allocator
  pub few : length state.entries ≤ state.capacity
  pub capacity : 1 ≤ state.capacity
  pub keys : (key : ℕ) → times key (keys_of state.entries) ≤ 1
  pub held : are_held state.allocator (values_of state.entries)

-- the keys are the same, and what allocates is as after an allocation of the size was given back
pub record WasGivenBack {A P : Type 0} (returned : A → P → A) (gives : A → Size → P → A → Type 0) (old : KeyedState A P)
    (size : Size) (new : KeyedState A P) : Type 0 where
  pub allocation : P
  pub between : A
  pub given : gives old.allocator size allocation between
  pub allocator : new.allocator ≡ returned between allocation
  pub entries : new.entries ≡ old.entries
  pub capacity : new.capacity ≡ old.capacity

-- by what becomes of what allocates, where an allocation is given back
module _ {A P : Type 0} (returned : A → P → A) where
  -- without a key, whose allocation is given back
  abbrev pub without_key : KeyedState A P → ℕ → KeyedState A P
  without_key state key =
      option_map_or
      (λ allocation.
      record {
        entries = remove_entry (nat_eq key) state.entries;
        capacity = state.capacity;
        allocator = returned state.allocator allocation;
      })
      (lookup (nat_eq key) state.entries) state

  -- without the least recently used entry, whose allocation is given back
  abbrev pub without_last : KeyedState A P → KeyedState A P
  without_last state =
      option_map_or
      (λ entry.
      record {
        entries = take (length state.entries - 1) state.entries;
        capacity = state.capacity;
        allocator = returned state.allocator entry.1;
      })
      (last_entry state.entries) state

  -- after dropping so many entries, the least recently used first
  abbrev pub after_dropping : KeyedState A P → ℕ → KeyedState A P
  after_dropping state zero = state
  after_dropping state (suc n) = without_last (after_dropping state n)

  -- so many entries are evicted for a size: the least number after which there is room
  pub record IsEvictionCount (has_place : A → Size → Bool) (state : KeyedState A P) (size : Size) (count : ℕ)
      : Type 0 where
    pub room : has_room has_place (after_dropping state count) size ≡ true
    pub least : (fewer : ℕ) → fewer < count → has_room has_place (after_dropping state fewer) size ≡ false

  -- a new key was placed: just the evictions that its size needs went, the least recently used first, and then it
  -- entered
  pub record Places (has_place : A → Size → Bool) (gives : A → Size → P → A → Type 0) (old : KeyedState A P) (key : ℕ)
      (size : Size) (allocation : P) (evicted : List ℕ) (new : KeyedState A P) : Type 0 where
    pub least : IsEvictionCount has_place old size (length evicted)
    pub listed : evicted ≡ dropped_keys old (length evicted)
    pub entered : Enters gives (after_dropping old (length evicted)) key size allocation new

  -- all is as it was, or the size was allocated and that taken back
  abbrev pub IsUndone : (A → Size → P → A → Type 0) → KeyedState A P → Size → KeyedState A P → Type 0
  IsUndone gives old size new = (new ≡ old) ⊎ WasGivenBack returned gives old size new

  -- memory ran out when so many of the evictions that a size needs had gone
  pub record RanOut (has_place : A → Size → Bool) (gives : A → Size → P → A → Type 0) (old : KeyedState A P)
      (size : Size) (evicted : List ℕ) (new : KeyedState A P) : Type 0 where
    pub evictions : ℕ
    pub least : IsEvictionCount has_place old size evictions
    pub few : length evicted ≤ evictions
    pub listed : evicted ≡ dropped_keys old (length evicted)
    pub rest : IsUndone gives (after_dropping old (length evicted)) size new

  -- what a fault of a new key left: all, or what memory running out did
  abbrev pub IsLeft : (A → Size → Bool) → (A → Size → P → A → Type 0) → KeyedState A P → Size → PlacingFault → KeyedState A P → Type 0
  IsLeft has_place gives old size TooLarge new = new ≡ old
  IsLeft has_place gives old size (Memory evicted) new = RanOut has_place gives old size evicted.items new
