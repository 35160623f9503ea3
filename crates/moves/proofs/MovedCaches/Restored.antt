-- What a snapshot of the new cache says, by tables of ids.
use Rattle.std.proofs.Common.{◌≡◌, ℕ, ◌≤◌, Bool, true, false, cond, Option, Some, None, List, [], ◌∷◌, map, refl, ap, sym, ◌∙◌, subst}
use Rattle.std.proofs.lemmas.Cmp.{nat_eq_equiv}
use Rattle.std.proofs.lemmas.Map.Made.{update_all_none}
use Rattle.std.specs.List.{cons_option, filter_map}
use Rattle.std.specs.Map.{keys_of, update_all, values_of}
use Rattle.std.specs.Prelude.{nat_eq, option_map}
use Rattle.etagere_base.specs.Lists.{times}
use Rattle.etagere_base.specs.declared.ids.Allocation.{Allocation}
use Rattle.shelf_model.specs.State.{AtlasState}
use Rattle.shelf_records.specs.Snapshots.{snapshot_records}
use Rattle.shelf_records.specs.StandsFor.{StandsFor}
use Rattle.glyph_shelf.specs.Cache.{CacheState}
use Rattle.glyph_shelf.specs.Promises.{KeepsCachePromises}
use Rattle.glyph_shelf.specs.Saved.{CacheStandsFor, saved_key, without_frame}
use Rattle.glyph_shelf.specs.declared.saving.CacheSnapshot.{CacheSnapshot}
use Rattle.glyph_shelf.specs.declared.saving.SavedKey.{SavedKey}
use Rattle.moves.specs.Atlases.Arranging.{moved_from}
use Rattle.moves.specs.declared.atlases.rearrangement.Move.{Move}
use Rattle.moves.specs.Caches.Arranging.{key_at, key_left, key_move, moved_cache, new_allocation}
use Rattle.moves.specs.Caches.Private.ById.{ids_moved, keyed_left, keyed_move, keys_saved, saved_anew}
use Rattle.moves.proofs.MovedCaches.Entries.{Entries, ids_of, moved, names, names-ids}
use Rattle.moves.proofs.MovedCaches.Found.{filter_map-same, once-distinct, under}

-- a table that pairs with different ids went into has what stands under an id
tabled : (pairs : List (ℕ × ℕ)) (get : ℕ → Option ℕ) → ((q : ℕ) → get q ≡ update_all nat_eq (λ _. None) pairs q)
    → ((id : ℕ) → times id (keys_of pairs) ≤ 1) → (q : ℕ) → get q ≡ under pairs q
tabled pairs get made once q =
    made q ∙ update_all_none nat_eq_equiv nat_eq (λ _ _. refl) pairs q (once-distinct (keys_of pairs) once)

-- the keys that are saved of a cache are its keys by their ids
names-saved : (es : Entries) → keys_saved (map saved_key es) ≡ names es
names-saved [] = refl
names-saved (e ∷ es) = ap (λ (l : List (ℕ × ℕ)). (e.1.id, e.0) ∷ l) (names-saved es)

pub named : (old : CacheState) (saved : List SavedKey) (get : ℕ → Option ℕ) → saved ≡ map saved_key old.entries
    → ((q : ℕ) → get q ≡ update_all nat_eq (λ _. None) (keys_saved saved) q)
    → ((id : ℕ) → times id (ids_of (values_of old.entries)) ≤ 1) → (q : ℕ) → get q ≡ key_at old q
named old saved get are made once =
    tabled (names old.entries) get
    (λ q. made q ∙ ap (λ (pairs : List (ℕ × ℕ)). update_all nat_eq (λ _. None) pairs q) (ap keys_saved are ∙ names-saved old.entries))
    (λ id. subst (λ (l : List ℕ). times id l ≤ 1) (sym (names-ids old.entries)) (once id))

-- new ids by the old ones are those of the new allocations
ids-keys : (moves : List Move) → keys_of (ids_moved moves) ≡ ids_of (moved_from moves)
ids-keys [] = refl
ids-keys (m ∷ ms) = ap (λ (l : List ℕ). m.before.id ∷ l) (ids-keys ms)

ids-under : (moves : List Move) (q : ℕ) → under (ids_moved moves) q ≡ option_map (λ (a : Allocation). a.id) (new_allocation moves q)
ids-under [] q = refl
ids-under (m ∷ ms) q = by_test (nat_eq q m.before.id) (ids-under ms q)
  where
    by_test : (b : Bool) → under (ids_moved ms) q ≡ option_map (λ (a : Allocation). a.id) (new_allocation ms q)
        → cond b (Some m.after.id) (under (ids_moved ms) q) ≡ option_map (λ (a : Allocation). a.id) (cond b (Some m.after) (new_allocation ms q))
    by_test true same = refl
    by_test false same = same

pub placed : (moves : List Move) (get : ℕ → Option ℕ) → ((q : ℕ) → get q ≡ update_all nat_eq (λ _. None) (ids_moved moves) q)
    → ((id : ℕ) → times id (ids_of (moved_from moves)) ≤ 1) → (q : ℕ) → get q ≡ option_map (λ (a : Allocation). a.id) (new_allocation moves q)
placed moves get made once q =
    tabled (ids_moved moves) get made (λ id. subst (λ (l : List ℕ). times id l ≤ 1) (sym (ids-keys moves)) (once id)) q ∙ ids-under moves q

-- so the keys that are saved anew are those of the entries that moved
saved-moved : (moves : List Move) (get : ℕ → Option ℕ) → ((q : ℕ) → get q ≡ option_map (λ (a : Allocation). a.id) (new_allocation moves q))
    → (es : Entries) → filter_map (saved_anew get) (map saved_key es) ≡ map saved_key (moved moves es)
saved-moved moves get same [] = refl
saved-moved moves get same (e ∷ es) =
    ap (λ (o : Option ℕ). cons_option (option_map (λ (id : ℕ). record { key = e.0; id = id }) o) (filter_map (saved_anew get) (map saved_key es))) (same e.1.id)
    ∙ by_allocation (new_allocation moves e.1.id) (saved-moved moves get same es)
  where
    by_allocation : (o : Option Allocation) → filter_map (saved_anew get) (map saved_key es) ≡ map saved_key (moved moves es)
        → cons_option (option_map (λ (id : ℕ). record { key = e.0; id = id }) (option_map (λ (a : Allocation). a.id) o))
        (filter_map (saved_anew get) (map saved_key es))
        ≡ map saved_key (cons_option (option_map (λ (after : Allocation). (e.0, after)) o) (moved moves es))
    by_allocation None rest = rest
    by_allocation (Some a) rest = ap (λ (l : List SavedKey). saved_key (e.0, a) ∷ l) rest

-- and a snapshot with them stands for the cache that moved
pub stands-moved : (old : CacheState) (moves : List Move) (atlas : AtlasState) (saved snapshot : CacheSnapshot) (get : ℕ → Option ℕ)
    → CacheStandsFor saved (without_frame old) → KeepsCachePromises (moved_cache old moves atlas)
    → snapshot.capacity ≡ saved.capacity → StandsFor (snapshot_records snapshot.atlas) atlas
    → snapshot.keys.items ≡ filter_map (saved_anew get) saved.keys.items
    → ((q : ℕ) → get q ≡ option_map (λ (a : Allocation). a.id) (new_allocation moves q))
    → CacheStandsFor snapshot (moved_cache old moves atlas)
stands-moved old moves atlas saved snapshot get was promises capacity stands keys same =
    record {
      capacity = was.capacity ∙ sym capacity;
      atlas = stands;
      keys = keys ∙ ap (filter_map (saved_anew get)) was.keys ∙ saved-moved moves get same old.entries;
      unframed = refl;
      promises = promises;
    }

-- what is told of keys by a table is what is told by the cache
pub told-same : (old : CacheState) (get : ℕ → Option ℕ) → ((q : ℕ) → get q ≡ key_at old q) → (moves : List Move)
    → filter_map (keyed_move get) moves ≡ filter_map (key_move old) moves
told-same old get same moves =
    filter_map-same (keyed_move get) (key_move old)
    (λ m. ap (option_map (λ (key : ℕ). record { key = key; before = m.before.rectangle; after = m.after.rectangle })) (same m.before.id)) moves

pub left-same : (old : CacheState) (get : ℕ → Option ℕ) → ((q : ℕ) → get q ≡ key_at old q) → (unplaced : List Allocation)
    → filter_map (keyed_left get) unplaced ≡ filter_map (key_left old) unplaced
left-same old get same unplaced =
    filter_map-same (keyed_left get) (key_left old)
    (λ a. ap (option_map (λ (key : ℕ). record { key = key; rectangle = a.rectangle })) (same a.id)) unplaced
