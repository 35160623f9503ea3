-- Snapshots that stand for a cache: for one at most, and for none where a rule is broken.
use Rattle.std.proofs.Common.{Result, Ok, Err, ◌≡◌, ℕ, ◌+◌, ◌≤◌, ◌==◌, Bool, true, false, cond, Option, Some, List, [], ◌∷◌, length, map, refl, ap, sym, ◌∙◌, subst, arith}
use Rattle.std.proofs.lemmas.List.{length-map}
use Rattle.std.specs.List.{AllByRecursion, find}
use Rattle.std.specs.Map.{keys_of, values_of}
use Rattle.std.specs.Prelude.{IfErr, IfOk, is_some, option_map}
use Rattle.etagere_base.specs.declared.ids.Allocation.{Allocation}
use Rattle.etagere_base.specs.Lists.{times}
use Rattle.shelf_model.specs.Callers.{IsFound}
use Rattle.shelf_model.specs.Places.{allocations, is_allocated}
use Rattle.shelf_model.specs.State.{AtlasState}
use Rattle.shelf_records.specs.Snapshots.{snapshot_records}
use Rattle.shelf_records.specs.StandsFor.{StandsFor}
use Rattle.shelf_restoring.proofs.Loaded.WalksRestore.{stands-whole}
use Rattle.glyph_shelf.specs.Cache.{CacheState, kept_allocations}
use Rattle.glyph_shelf.specs.Saved.{BrokenCacheStandsForNone, CacheStandsFor, CacheStandsForOne, ids_saved, keys_saved, saved_key}
use Rattle.glyph_shelf.specs.declared.faults.CacheRestoreFault.TheVariants.{Atlas, Memory, NoCapacity, TooManyKeys, KeyTwice, WrongId, NoKey}
use Rattle.glyph_shelf.specs.declared.saving.CacheSnapshot.{CacheSnapshot}
use Rattle.glyph_shelf.specs.declared.saving.SavedKey.{SavedKey}

abbrev Entries : Type 0
Entries = List (ℕ × Allocation)

abbrev cache : Entries → ℕ → AtlasState → Option ℕ → CacheState
cache entries capacity atlas uses =
    record { entries = entries; capacity = capacity; atlas = atlas; used_in_frame = uses }

-- the ids of allocations
abbrev pub ids_of : List Allocation → List ℕ
ids_of all = map (λ (allocation : Allocation). allocation.id) all

-- the keys and ids of entries are those that are saved
pub keys-saved : (es : Entries) → map (λ (s : SavedKey). s.key) (map saved_key es) ≡ keys_of es
keys-saved [] = refl
keys-saved (e ∷ es) = ap (λ l. e.0 ∷ l) (keys-saved es)

pub ids-saved : (es : Entries) → map (λ (s : SavedKey). s.id) (map saved_key es) ≡ ids_of (values_of es)
ids-saved [] = refl
ids-saved (e ∷ es) = ap (λ l. e.1.id ∷ l) (ids-saved es)

-- what is found under one id is one allocation
same-found : (all : List Allocation) (a b : Allocation) → IsFound all a → IsFound all b → a.id ≡ b.id → a ≡ b
same-found all a b one two same =
    let both : Some a ≡ Some b = sym one ∙ ap (λ (id : ℕ). find (λ other. other.id == id) all) same ∙ two in
    cc

-- entries that are saved alike, and whose allocations are found among the same ones, are the same
same-entries : (all : List Allocation) (es fs : Entries) → AllByRecursion (IsFound all) (values_of es) → AllByRecursion (IsFound all) (values_of fs)
    → map saved_key es ≡ map saved_key fs → es ≡ fs
same-entries all [] [] one two same = refl
same-entries all [] (f ∷ fs) one two same = absurd (cc)
same-entries all (e ∷ es) [] one two same = absurd (cc)
same-entries all (e ∷ es) (f ∷ fs) one two same =
    let first : saved_key e ≡ saved_key f = cc in
    let rest : map saved_key es ≡ map saved_key fs = cc in
    let key : e.0 ≡ f.0 = ap (λ (s : SavedKey). s.key) first in
    let allocation : e.1 ≡ f.1 = same-found all e.1 f.1 one.0 two.0 (ap (λ (s : SavedKey). s.id) first) in
    ap (λ (k : ℕ). (k, e.1) ∷ es) key ∙ ap (λ (a : Allocation). (f.0, a) ∷ es) allocation
    ∙ ap (λ (l : Entries). f ∷ l) (same-entries all es fs one.1 two.1 rest)

pub cache-one : CacheStandsForOne
cache-one snapshot state other one two =
    let atlas : state.atlas ≡ other.atlas = one.atlas.spelled ∙ sym two.atlas.spelled in
    let found = subst (λ (a : AtlasState). AllByRecursion (IsFound (allocations a)) (kept_allocations state)) atlas one.promises.tied.found in
    let entries : state.entries ≡ other.entries =
    same-entries (allocations other.atlas) state.entries other.entries found two.promises.tied.found (sym one.keys ∙ two.keys) in
    ap (λ (l : Entries). cache l state.capacity state.atlas state.used_in_frame) entries
    ∙ ap (λ (n : ℕ). cache other.entries n state.atlas state.used_in_frame) (one.capacity ∙ sym two.capacity)
    ∙ ap (λ (a : AtlasState). cache other.entries other.capacity a state.used_in_frame) atlas
    ∙ ap (cache other.entries other.capacity other.atlas) (one.unframed ∙ sym two.unframed)

-- an id that stands among those of allocations is allocated, and the other way round
pub there-allocated : (state : AtlasState) (id : ℕ) → 1 ≤ times id (ids_of (allocations state)) → is_allocated state id ≡ true
there-allocated state id some = found (allocations state) some
  where
    found : (all : List Allocation) → 1 ≤ times id (ids_of all)
        → is_some (option_map (λ (a : Allocation). a.rectangle) (find (λ other. other.id == id) all)) ≡ true
    found [] some = absurd (omega arith)
    found (a ∷ all) some = here (a.id == id) some (found all)
      where
        here : (b : Bool) → 1 ≤ cond b 1 0 + times id (ids_of all)
            → (1 ≤ times id (ids_of all) → is_some (option_map (λ (a : Allocation). a.rectangle) (find (λ other. other.id == id) all)) ≡ true)
            → is_some (option_map (λ (a : Allocation). a.rectangle) (cond b (Some a) (find (λ other. other.id == id) all))) ≡ true
        here true h later = refl
        here false h later = later (omega arith)

pub allocated-there : (state : AtlasState) (id : ℕ) → is_allocated state id ≡ true → 1 ≤ times id (ids_of (allocations state))
allocated-there state id some = found (allocations state) some
  where
    found : (all : List Allocation) → is_some (option_map (λ (a : Allocation). a.rectangle) (find (λ other. other.id == id) all)) ≡ true
        → 1 ≤ times id (ids_of all)
    found [] some = absurd (cc)
    found (a ∷ all) some = here (a.id == id) some (found all)
      where
        here : (b : Bool) → is_some (option_map (λ (a : Allocation). a.rectangle) (cond b (Some a) (find (λ other. other.id == id) all))) ≡ true
            → (is_some (option_map (λ (a : Allocation). a.rectangle) (find (λ other. other.id == id) all)) ≡ true → 1 ≤ times id (ids_of all))
            → 1 ≤ cond b 1 0 + times id (ids_of all)
        here true h later = omega arith
        here false h later = let rest = later h in omega arith

-- how often a key and an id stand in a snapshot of a cache
module _ (snapshot : CacheSnapshot) (state : CacheState) (stands : CacheStandsFor snapshot state) where
  key-times : (key : ℕ) → times key (keys_saved snapshot) ≡ times key (keys_of state.entries)
  key-times key = ap (λ (l : List SavedKey). times key (map (λ (s : SavedKey). s.key) l)) stands.keys ∙ ap (times key) (keys-saved state.entries)

  id-times : (id : ℕ) → times id (ids_saved snapshot) ≡ times id (ids_of (allocations state.atlas))
  id-times id =
      ap (λ (l : List SavedKey). times id (map (λ (s : SavedKey). s.id) l)) stands.keys
      ∙ ap (times id) (ids-saved state.entries) ∙ sym (stands.promises.tied.counted id)

  same-atlas : (atlas : AtlasState) → StandsFor (snapshot_records snapshot.atlas) atlas → atlas ≡ state.atlas
  same-atlas atlas other = other.spelled ∙ sym stands.atlas.spelled

pub cache-none : BrokenCacheStandsForNone
cache-none snapshot state (Atlas fault) broken stands =
    absurd (broken.1 (stands-whole (snapshot_records snapshot.atlas)
    (subst (StandsFor (snapshot_records snapshot.atlas)) stands.atlas.spelled stands.atlas) fault broken.0))
cache-none snapshot state Memory broken stands = refl
cache-none snapshot state NoCapacity broken stands =
    absurd (omega (arith, stands.capacity, stands.promises.capacity, broken))
cache-none snapshot state TooManyKeys broken stands =
    absurd (omega (arith, stands.capacity, stands.promises.few, broken, ap length stands.keys, length-map state.entries saved_key))
cache-none snapshot state (KeyTwice key) broken stands =
    absurd (omega (arith, broken, key-times snapshot state stands key, stands.promises.keys key))
cache-none snapshot state (WrongId id) broken stands =
    let same = same-atlas snapshot state stands broken.atlas broken.stands in
    let counted = id-times snapshot state stands id in
    let there : is_allocated state.atlas id ≡ true = there-allocated state.atlas id (omega (arith, counted, broken.saved)) in
    let twice = broken.several (ap (λ (a : AtlasState). is_allocated a id) same ∙ there) in
    absurd (omega (arith, twice, counted, stands.promises.atlas.ids id))
cache-none snapshot state NoKey broken stands =
    let same = same-atlas snapshot state stands broken.atlas broken.stands in
    let counted = id-times snapshot state stands broken.id in
    let some = allocated-there state.atlas broken.id (sym (ap (λ (a : AtlasState). is_allocated a broken.id) same) ∙ broken.allocated) in
    absurd (omega (arith, some, counted, broken.unsaved))

-- what an answer says, said otherwise
pub ok-then : {A B : Type 0} (P Q : A → Type 0) (r : Result A B) → IfOk r P → ((a : A) → P a → Q a) → IfOk r Q
ok-then P Q (Ok a) holds then = then a holds
ok-then P Q (Err b) holds then = tt

pub err-then : {A B : Type 0} (P Q : B → Type 0) (r : Result A B) → IfErr r P → ((b : B) → P b → Q b) → IfErr r Q
err-then P Q (Ok a) holds then = tt
err-then P Q (Err b) holds then = then b holds
