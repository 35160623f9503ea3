-- How a cache is restored: the keys so far, and what is left of what is allocated; what that comes to, and what is refused.
use Rattle.std.proofs.Common.{◌≡◌, ℕ, zero, suc, ◌+◌, ◌<◌, ◌≤◌, ◌==◌, Bool, true, false, cond, not, Some, None, List, [], ◌∷◌, ◌++◌, length, map, refl, ap, sym, ◌∙◌, subst, append-nil, append_assoc, arith}
use Rattle.std.proofs.lemmas.Bool.Decides.{nat_tests}
use Rattle.std.proofs.lemmas.List.{length-append, length-map, map-append}
use Rattle.std.specs.List.{AllByRecursion, find}
use Rattle.std.specs.Map.{keys_of, lookup, values_of}
use Rattle.std.specs.Prelude.{is_some, nat_eq, option_map}
use Rattle.etagere_base.specs.declared.geometry.Rectangle.{Rectangle}
use Rattle.etagere_base.specs.declared.ids.Allocation.{Allocation}
use Rattle.etagere_base.specs.Lists.{times}
use Rattle.etagere_base.proofs.TimesLemmas.{times-append}
use Rattle.shelf_model.specs.Atlas.{KeepsPromises, without_id}
use Rattle.shelf_model.specs.Callers.{IsFound}
use Rattle.shelf_model.specs.Places.{allocations, is_allocated, rectangle_of}
use Rattle.shelf_model.specs.State.{AtlasState}
use Rattle.shelf_records.specs.Snapshots.{snapshot_records}
use Rattle.shelf_records.specs.StandsFor.{StandsFor}
use Rattle.glyph_shelf.specs.UsedKeys.Keys.{KeysState, no_keys, uses_in}
use Rattle.glyph_shelf.specs.Cache.{CacheState, frame_uses}
use Rattle.glyph_shelf.specs.Private.Restoring.{AreKeysRefused, AreRestored, EntersSaved, IsKeyRefused, ids_in, keys_in}
use Rattle.glyph_shelf.specs.Saved.{CacheStandsFor, saved_key}
use Rattle.glyph_shelf.specs.declared.faults.CacheRestoreFault.{CacheRestoreFault}
use Rattle.glyph_shelf.specs.declared.faults.CacheRestoreFault.TheVariants.{Atlas, Memory, NoCapacity, TooManyKeys, KeyTwice, WrongId, NoKey}
use Rattle.glyph_shelf.specs.declared.saving.CacheSnapshot.{CacheSnapshot}
use Rattle.glyph_shelf.specs.declared.saving.SavedKey.{SavedKey}
use Rattle.glyph_shelf.proofs.UsedKeys.KeyCounts.{times-entered}
use Rattle.glyph_shelf.proofs.Keeping.{keeps}
use Rattle.glyph_shelf.proofs.SavedLemmas.{allocated-there, ids_of, ids-saved, keys-saved, there-allocated}

-- The keys so far are the last ones that were saved; what is allocated is theirs, or left.
pub record AreRestoring (saved rest : List SavedKey) (capacity : ℕ) (atlas : AtlasState) (keys : KeysState) (left : AtlasState)
    : Type 0 where
  pub order : saved ≡ rest ++ map saved_key keys.entries
  pub cap_is : keys.cap ≡ capacity
  pub unframed : keys.uses ≡ None
  pub once : (key : ℕ) → times key (keys_of keys.entries) ≤ 1
  pub found : AllByRecursion (IsFound (allocations atlas)) (values_of keys.entries)
  pub counted : (id : ℕ)
      → times id (ids_of (allocations atlas)) ≡ times id (ids_of (values_of keys.entries)) + times id (ids_of (allocations left))
  pub promises : KeepsPromises left

pub restoring-none : (saved : List SavedKey) (capacity : ℕ) (atlas : AtlasState) (keys : KeysState) (left : AtlasState)
    → keys ≡ no_keys capacity → left ≡ atlas → KeepsPromises atlas → AreRestoring saved saved capacity atlas keys left
restoring-none saved capacity atlas keys left none same promises =
    subst (λ (k : KeysState). AreRestoring saved saved capacity atlas k left) (sym none)
    (subst (AreRestoring saved saved capacity atlas (no_keys capacity)) (sym same)
    (record {
      order = sym (append-nil saved);
      cap_is = refl;
      unframed = refl;
      once = λ key. omega arith;
      found = tt;
      counted = λ id. omega arith;
      promises = promises;
    }))

-- what has a rectangle is found under its id
found-rectangle : (state : AtlasState) (id : ℕ) (rectangle : Rectangle) → rectangle_of state id ≡ Some rectangle
    → IsFound (allocations state) (record { id = id; rectangle = rectangle })
found-rectangle state id rectangle at = among (allocations state) at
  where
    among : (all : List Allocation) → option_map (λ (a : Allocation). a.rectangle) (find (λ other. other.id == id) all) ≡ Some rectangle
        → find (λ other. other.id == id) all ≡ Some (record { id = id; rectangle = rectangle })
    among [] h = absurd (cc)
    among (a ∷ all) h = here (a.id == id) refl h (among all)
      where
        here : (b : Bool) → (a.id == id) ≡ b
            → option_map (λ (x : Allocation). x.rectangle) (cond b (Some a) (find (λ other. other.id == id) all)) ≡ Some rectangle
            → (option_map (λ (x : Allocation). x.rectangle) (find (λ other. other.id == id) all) ≡ Some rectangle
            → find (λ other. other.id == id) all ≡ Some (record { id = id; rectangle = rectangle }))
            → cond b (Some a) (find (λ other. other.id == id) all) ≡ Some (record { id = id; rectangle = rectangle })
        here true is k later =
            let own : a.id ≡ id = grind (arith, nat_tests) in
            let corner : a.rectangle ≡ rectangle = cc in
            ap (λ (n : ℕ). Some (record { id = n; rectangle = a.rectangle })) own
            ∙ ap (λ (r : Rectangle). Some (record { id = id; rectangle = r })) corner
        here false is k later = later k

-- how often an id is left where one went
times-left : (gone id : ℕ) (all : List Allocation) → times id (ids_of (without_id gone all)) ≡ cond (gone == id) 0 (times id (ids_of all))
times-left gone id [] = elim (gone == id) as (λ b. ◌≡◌ {A = ℕ} 0 (cond b 0 0)) [ true ↦ refl | false ↦ refl ]
times-left gone id (a ∷ all) = here (a.id == gone) refl (times-left gone id all)
  where
    here : (b : Bool) → (a.id == gone) ≡ b → times id (ids_of (without_id gone all)) ≡ cond (gone == id) 0 (times id (ids_of all))
        → times id (ids_of (cond (not b) (a ∷ without_id gone all) (without_id gone all)))
        ≡ cond (gone == id) 0 (cond (a.id == id) 1 0 + times id (ids_of all))
    here true is later = grind (arith, nat_tests)
    here false is later = grind (arith, nat_tests)

-- one that is there once goes
gone-once : (gone id before : ℕ) → (gone == id ≡ true → before ≡ 1) → before ≡ cond (gone == id) 1 0 + cond (gone == id) 0 before
gone-once gone id before once = elim (gone == id) as (λ b. (b ≡ true → before ≡ 1) → before ≡ cond b 1 0 + cond b 0 before) [
  | true ↦ λ one. one refl
  | false ↦ λ one. omega arith
] once

-- one more key
pub restoring-more : (saved rest whole : List SavedKey) (last : SavedKey) (capacity : ℕ) (atlas : AtlasState) (old new : KeysState) (left after : AtlasState)
    → AreRestoring saved whole capacity atlas old left → whole ≡ rest ++ last ∷ [] → EntersSaved atlas last old left new after
    → AreRestoring saved rest capacity atlas new after
restoring-more saved rest whole last capacity atlas old new left after are split enters =
    subst (λ (k : KeysState). AreRestoring saved rest capacity atlas k after) (sym enters.entered_is)
    (record {
      order = are.order ∙ ap (λ (l : List SavedKey). l ++ map saved_key old.entries) split ∙ append_assoc rest (last ∷ []) (map saved_key old.entries);
      cap_is = are.cap_is;
      unframed = ap (option_map suc) are.unframed;
      once = times-entered last.key one old.entries enters.is_new are.once;
      found = (found-rectangle atlas last.id enters.rectangle enters.found, are.found);
      counted = λ id. count id;
      promises = enters.promises;
    })
  where
    one : Allocation
    one = record { id = last.id; rectangle = enters.rectangle }

    count : (id : ℕ) → times id (ids_of (allocations atlas)) ≡ cond (last.id == id) 1 0 + times id (ids_of (values_of old.entries)) + times id (ids_of (allocations after))
    count id =
        let taken : times id (ids_of (allocations after)) ≡ cond (last.id == id) 0 (times id (ids_of (allocations left))) =
        ap (λ (l : List Allocation). times id (ids_of l)) enters.taken ∙ times-left last.id id (allocations left) in
        let alone : (last.id == id) ≡ true → times id (ids_of (allocations left)) ≡ 1 =
        λ same.
        let own : last.id ≡ id = grind (arith, nat_tests) in
        let some = allocated-there left id (subst (λ (n : ℕ). is_allocated left n ≡ true) own enters.there) in
        let most = are.promises.ids id in
        omega arith in
        let all = are.counted id in
        let before = gone-once last.id id (times id (ids_of (allocations left))) alone in
        omega arith

-- there is room for one more
pub restoring-room : (saved rest : List SavedKey) (capacity : ℕ) (atlas : AtlasState) (keys : KeysState) (left : AtlasState)
    → AreRestoring saved rest capacity atlas keys left → length saved ≤ capacity → 0 < length rest → length keys.entries < keys.cap
restoring-room saved rest capacity atlas keys left are few some =
    let long = ap length are.order in
    let both = length-append rest (map saved_key keys.entries) in
    let as_many = length-map keys.entries saved_key in
    let cap = are.cap_is in
    omega arith

-- how often a key and an id were saved
module _ (saved rest whole : List SavedKey) (last : SavedKey) (capacity : ℕ) (atlas : AtlasState) (keys : KeysState) (left : AtlasState)
    (are : AreRestoring saved whole capacity atlas keys left) (split : whole ≡ rest ++ last ∷ []) where
  parts : saved ≡ rest ++ last ∷ map saved_key keys.entries
  parts = are.order ∙ ap (λ (l : List SavedKey). l ++ map saved_key keys.entries) split ∙ append_assoc rest (last ∷ []) (map saved_key keys.entries)

  key-times : (key : ℕ) → times key (keys_in saved) ≡ times key (keys_in rest) + (cond (last.key == key) 1 0 + times key (keys_of keys.entries))
  key-times key =
      ap (λ (l : List SavedKey). times key (keys_in l)) parts
      ∙ ap (times key) (map-append (λ (one : SavedKey). one.key) rest (last ∷ map saved_key keys.entries))
      ∙ times-append key (keys_in rest) (last.key ∷ keys_in (map saved_key keys.entries))
      ∙ ap (λ (l : List ℕ). times key (keys_in rest) + (cond (last.key == key) 1 0 + times key l)) (keys-saved keys.entries)

  id-times : (id : ℕ) → times id (ids_in saved) ≡ times id (ids_in rest) + (cond (last.id == id) 1 0 + times id (ids_of (values_of keys.entries)))
  id-times id =
      ap (λ (l : List SavedKey). times id (ids_in l)) parts
      ∙ ap (times id) (map-append (λ (one : SavedKey). one.id) rest (last ∷ map saved_key keys.entries))
      ∙ times-append id (ids_in rest) (last.id ∷ ids_in (map saved_key keys.entries))
      ∙ ap (λ (l : List ℕ). times id (ids_in rest) + (cond (last.id == id) 1 0 + times id l)) (ids-saved keys.entries)

  -- a key that is refused
  pub refused-key : (fault : CacheRestoreFault) → IsKeyRefused atlas last keys left fault → AreKeysRefused saved atlas fault
  refused-key (KeyTwice key) refused =
      let own : (last.key == key) ≡ true = let same = refused.0 in grind (arith, nat_tests) in
      let there = known-times key keys.entries refused.1 in
      twice (last.key == key) own (times key (keys_in rest)) (times key (keys_of keys.entries)) (key-times key) there
    where
      known-times : (key : ℕ) (es : List (ℕ × Allocation)) → is_some (lookup (nat_eq key) es) ≡ true → 1 ≤ times key (keys_of es)
      known-times key [] some = absurd (cc)
      known-times key (e ∷ es) some = here (nat_eq key e.0) refl some (known-times key es)
        where
          here : (b : Bool) → nat_eq key e.0 ≡ b → is_some (cond b (Some e.1) (lookup (nat_eq key) es)) ≡ true
              → (is_some (lookup (nat_eq key) es) ≡ true → 1 ≤ times key (keys_of es)) → 1 ≤ cond (e.0 == key) 1 0 + times key (keys_of es)
          here true is h later = let same : (e.0 == key) ≡ true = grind (arith, nat_tests) in rw same (omega arith)
          here false is h later = let rest = later h in omega arith

      twice : (b : Bool) → b ≡ true → (before behind : ℕ) {all : ℕ} → all ≡ before + (cond b 1 0 + behind) → 1 ≤ behind → 2 ≤ all
      twice true is before behind sum some = omega arith
      twice false is before behind sum some = absurd (cc)
  refused-key (WrongId id) refused =
      let own : (last.id == id) ≡ true = let same = refused.0 in grind (arith, nat_tests) in (
        some (last.id == id) own (times id (ids_in rest)) (times id (ids_of (values_of keys.entries))) (id-times id),
        λ allocated.
            let there = allocated-there atlas id allocated in
            let none = not_left (times id (ids_of (allocations left))) refl (refused.1 allocated) in
            let counted = are.counted id in
            twice (last.id == id) own (times id (ids_in rest)) (times id (ids_of (values_of keys.entries))) (id-times id) (omega arith),
      )
    where
      some : (b : Bool) → b ≡ true → (before behind : ℕ) {all : ℕ} → all ≡ before + (cond b 1 0 + behind) → 1 ≤ all
      some true is before behind sum = omega arith
      some false is before behind sum = absurd (cc)

      twice : (b : Bool) → b ≡ true → (before behind : ℕ) {all : ℕ} → all ≡ before + (cond b 1 0 + behind) → 1 ≤ behind → 2 ≤ all
      twice true is before behind sum more = omega arith
      twice false is before behind sum more = absurd (cc)

      not_left : (n : ℕ) → times id (ids_of (allocations left)) ≡ n → is_allocated left id ≡ false → n ≡ 0
      not_left zero is none = refl
      not_left (suc n) is none = let there = there-allocated left id (omega arith) in absurd (cc)
  refused-key Memory refused = tt
  refused-key (Atlas fault) refused = absurd refused
  refused-key NoCapacity refused = absurd refused
  refused-key TooManyKeys refused = absurd refused
  refused-key NoKey refused = absurd refused

-- all keys are restored
pub restored-all : (saved rest : List SavedKey) (capacity : ℕ) (atlas : AtlasState) (keys : KeysState) (left : AtlasState)
    → AreRestoring saved rest capacity atlas keys left → length rest ≡ 0 → allocations left ≡ [] → AreRestored saved capacity atlas keys
restored-all saved [] capacity atlas keys left are none nothing =
    record {
      keys_are = are.order;
      capacity_is = are.cap_is;
      unframed = are.unframed;
      once = are.once;
      tied = record {
        found = are.found;
        counted = λ id.
            let all = are.counted id in
            let empty : times id (ids_of (allocations left)) ≡ 0 = ap (λ (l : List Allocation). times id (ids_of l)) nothing in
            omega arith;
      };
    }
restored-all saved (s ∷ rest) capacity atlas keys left are none nothing = absurd (cc)

-- something is left that no key has
pub restored-left : (saved rest : List SavedKey) (capacity : ℕ) (atlas : AtlasState) (keys : KeysState) (left : AtlasState)
    → AreRestoring saved rest capacity atlas keys left → length rest ≡ 0 → KeepsPromises atlas → (allocations left ≡ [] → ⊥)
    → AreKeysRefused saved atlas NoKey
restored-left saved (s ∷ rest) capacity atlas keys left are none promises some = absurd (cc)
restored-left saved [] capacity atlas keys left are none promises some = first (allocations left) refl
  where
    first : (all : List Allocation) → allocations left ≡ all → AreKeysRefused saved atlas NoKey
    first [] is = absurd (some is)
    first (a ∷ all) is =
        let own : (a.id == a.id) ≡ true = grind (arith, nat_tests) in
        let there : 1 ≤ times a.id (ids_of (allocations left)) =
        rw is (rw own (omega arith)) in
        let counted = are.counted a.id in
        let most = promises.ids a.id in
        let ids : times a.id (ids_in saved) ≡ times a.id (ids_of (values_of keys.entries)) =
        ap (λ (l : List SavedKey). times a.id (ids_in l)) are.order ∙ ap (times a.id) (ids-saved keys.entries) in
        (a.id, there-allocated atlas a.id (omega arith), omega arith)

abbrev cache_of : KeysState → AtlasState → CacheState
cache_of keys atlas = record { entries = keys.entries; capacity = keys.cap; atlas = atlas; used_in_frame = keys.uses }

-- a cache of keys and an atlas that were restored
pub restored-cache : (snapshot : CacheSnapshot) (capacity : ℕ) (atlas : AtlasState) (keys : KeysState) → capacity ≡ snapshot.capacity → 1 ≤ capacity
    → length snapshot.keys.items ≤ capacity → StandsFor (snapshot_records snapshot.atlas) atlas → KeepsPromises atlas
    → AreRestored snapshot.keys.items capacity atlas keys → CacheStandsFor snapshot (cache_of keys atlas)
restored-cache snapshot capacity atlas keys same some few stands promises are =
    let long : length snapshot.keys.items ≡ length keys.entries = ap length are.keys_are ∙ length-map keys.entries saved_key in
    let cap = are.capacity_is in
    let unused : frame_uses (cache_of keys atlas) ≡ 0 = ap uses_in are.unframed in
    record {
      capacity = are.capacity_is ∙ same;
      atlas = stands;
      keys = are.keys_are;
      unframed = are.unframed;
      promises = keeps (cache_of keys atlas) promises (omega arith) (omega arith) are.once are.tied (omega arith);
    }
