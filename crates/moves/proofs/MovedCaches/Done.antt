-- What is so once the keys have followed their rectangles: each clause of the call.
use Rattle.std.proofs.Common.{◌≡◌, ℕ, ◌+◌, ◌≤◌, Option, Some, None, List, [], ◌∷◌, ◌++◌, map, refl, ap, sym, ◌∙◌, subst, arith}
use Rattle.std.proofs.lemmas.List.{map-append}
use Rattle.std.specs.List.{AllByRecursion, cons_option, filter_map}
use Rattle.std.specs.Map.{keys_of, values_of}
use Rattle.std.specs.Prelude.{option_map}
use Rattle.etagere_base.proofs.EachLemmas.{Each-back, Each-both, Each-front, Each-weaken}
use Rattle.etagere_base.proofs.TimesLemmas.{hit, times-append}
use Rattle.etagere_base.proofs.Totals.{total-append}
use Rattle.etagere_base.specs.Lists.{times, total}
use Rattle.etagere_base.specs.Rectangles.{IsInside}
use Rattle.etagere_base.specs.declared.ids.Allocation.{Allocation}
use Rattle.shelf_model.proofs.Callers.{tied-apart, tied-each}
use Rattle.shelf_model.specs.Callers.{IsFound}
use Rattle.shelf_model.specs.Places.{allocations}
use Rattle.shelf_model.specs.State.{AtlasState}
use Rattle.glyph_shelf.specs.Cache.{CacheState}
use Rattle.glyph_shelf.specs.Promises.{KeepsCachePromises}
use Rattle.glyph_shelf.specs.Saved.{without_frame}
use Rattle.moves.specs.Atlases.Arranging.{HasRoom, moved_from}
use Rattle.moves.specs.declared.atlases.rearrangement.Move.{Move}
use Rattle.moves.specs.Caches.Arranging.{HasMoved, IsLeftOut, key_at, key_left, key_move, keys_told, moved_cache, new_allocation}
use Rattle.moves.specs.Caches.Private.Following.{Follows, IsMovedInto}
use Rattle.moves.specs.declared.caches.rearrangement.KeyMove.{KeyMove}
use Rattle.moves.specs.declared.caches.rearrangement.UnplacedKey.{UnplacedKey}
use Rattle.moves.proofs.MovedCaches.Entries.{Entries, ids_of, left-found, moved, moved-found, moved-keys, moved-length, moved-tied, moved_by_id, moved_by_id-ids, name-found, names, names-ids}
use Rattle.moves.proofs.MovedCaches.Found.{each-filter_map, each-map, found-total, mapped-some, present, under, under-absent, under-own, weigh}

-- the keys that are told for what moved, and for what was left
told-moves : (old : CacheState) (key : ℕ) (moves : List Move)
    → times key (map (λ (move : KeyMove). move.key) (filter_map (key_move old) moves))
    ≡ total (λ (id : ℕ). weigh (λ (k : ℕ). hit k key) (under (names old.entries) id)) (ids_of (moved_from moves))
told-moves old key [] = refl
told-moves old key (m ∷ ms) = by_name (key_at old m.before.id) (told-moves old key ms)
  where
    by_name : (o : Option ℕ)
        → times key (map (λ (move : KeyMove). move.key) (filter_map (key_move old) ms))
        ≡ total (λ (id : ℕ). weigh (λ (k : ℕ). hit k key) (under (names old.entries) id)) (ids_of (moved_from ms))
        → times key (map (λ (move : KeyMove). move.key) (cons_option
        (option_map (λ (key : ℕ). record { key = key; before = m.before.rectangle; after = m.after.rectangle }) o)
        (filter_map (key_move old) ms)))
        ≡ weigh (λ (k : ℕ). hit k key) o
        + total (λ (id : ℕ). weigh (λ (k : ℕ). hit k key) (under (names old.entries) id)) (ids_of (moved_from ms))
    by_name None same = omega (arith, same)
    by_name (Some k) same = ap (λ (n : ℕ). hit k key + n) same

told-left : (old : CacheState) (key : ℕ) (unplaced : List Allocation)
    → times key (map (λ (left : UnplacedKey). left.key) (filter_map (key_left old) unplaced))
    ≡ total (λ (id : ℕ). weigh (λ (k : ℕ). hit k key) (under (names old.entries) id)) (ids_of unplaced)
told-left old key [] = refl
told-left old key (a ∷ others) = by_name (key_at old a.id) (told-left old key others)
  where
    by_name : (o : Option ℕ)
        → times key (map (λ (left : UnplacedKey). left.key) (filter_map (key_left old) others))
        ≡ total (λ (id : ℕ). weigh (λ (k : ℕ). hit k key) (under (names old.entries) id)) (ids_of others)
        → times key (map (λ (left : UnplacedKey). left.key) (cons_option
        (option_map (λ (key : ℕ). record { key = key; rectangle = a.rectangle }) o)
        (filter_map (key_left old) others)))
        ≡ weigh (λ (k : ℕ). hit k key) o
        + total (λ (id : ℕ). weigh (λ (k : ℕ). hit k key) (under (names old.entries) id)) (ids_of others)
    by_name None same = omega (arith, same)
    by_name (Some k) same = ap (λ (n : ℕ). hit k key + n) same

-- the keys of entries by their ids are the keys
names-total : (key : ℕ) (es : Entries) → total (λ (p : ℕ × ℕ). hit p.1 key) (names es) ≡ times key (keys_of es)
names-total key [] = refl
names-total key (e ∷ es) = ap (λ (n : ℕ). hit e.0 key + n) (names-total key es)

module _ (old : CacheState) (moves : List Move) (unplaced : List Allocation) (atlas : AtlasState)
    (promises : KeepsCachePromises (without_frame old)) (into : IsMovedInto old.atlas moves unplaced atlas) where
  -- what moved and what was left stands as often as the entries do, and once at most
  counted : (id : ℕ) → times id (ids_of (moved_from moves)) + times id (ids_of unplaced) ≡ times id (ids_of (values_of old.entries))
  counted id =
      sym (ap (times id) (map-append (λ (a : Allocation). a.id) (moved_from moves) unplaced)
      ∙ times-append id (ids_of (moved_from moves)) (ids_of unplaced))
      ∙ sym (into.each.counted id) ∙ promises.tied.counted id

  pub once : (id : ℕ) → times id (ids_of (values_of old.entries)) ≤ 1
  once id = omega (arith, promises.tied.counted id, promises.atlas.ids id)

  pub moved-once : (id : ℕ) → times id (ids_of (moved_from moves)) ≤ 1
  moved-once id = omega (arith, counted id, once id)

  -- the new cache keeps what every cache does
  pub keeps-moved : KeepsCachePromises (moved_cache old moves atlas)
  keeps-moved =
      let ids : List ℕ = ids_of (moved_from moves) in
      let tied = moved-tied moves old.entries (allocations atlas) into.whole
      (Each-weaken (λ (id : ℕ). 1 ≤ times id ids) (λ (id : ℕ). times id (ids_of (values_of old.entries)) ≡ 1) ids
      (λ id some. omega (arith, some, counted id, once id)) (present ids))
      moved-once in
      record {
        atlas = into.promises;
        few = omega (arith, moved-length moves old.entries, promises.few);
        capacity = promises.capacity;
        keys = λ key. omega (arith, moved-keys moves key old.entries, promises.keys key);
        tied = tied;
        inside = tied-each (λ (a : Allocation). IsInside atlas.frame a.rectangle) (values_of (moved moves old.entries)) (allocations atlas) tied into.promises.inside;
        apart = tied-apart (values_of (moved moves old.entries)) (allocations atlas) tied into.promises.apart into.promises.ids;
        uses = omega arith;
      }

  -- each key is told once
  pub told-each : (key : ℕ) → times key (keys_told (filter_map (key_move old) moves) (filter_map (key_left old) unplaced)) ≡ times key (keys_of old.entries)
  told-each key =
      let of_id : ℕ → ℕ = λ id. weigh (λ (k : ℕ). hit k key) (under (names old.entries) id) in
      let front : List ℕ = ids_of (moved_from moves) in
      let back : List ℕ = ids_of unplaced in
      let all = times-append key (map (λ (move : KeyMove). move.key) (filter_map (key_move old) moves)) (map (λ (left : UnplacedKey). left.key) (filter_map (key_left old) unplaced)) in
      let found = found-total (λ (k : ℕ). hit k key) (names old.entries) (front ++ back)
      (subst (AllByRecursion (λ (id : ℕ). times id (front ++ back) ≡ 1)) (sym (names-ids old.entries))
      (Each-weaken (λ (id : ℕ). 1 ≤ times id (ids_of (values_of old.entries))) (λ (id : ℕ). times id (front ++ back) ≡ 1) (ids_of (values_of old.entries))
      (λ id some. omega (arith, some, times-append id front back, counted id, once id)) (present (ids_of (values_of old.entries)))))
      (λ id. subst (λ (l : List ℕ). times id l ≤ 1) (sym (names-ids old.entries)) (once id)) in
      let sums = total-append of_id front back in
      omega (arith, all, told-moves old key moves, told-left old key unplaced, sums, found, names-total key old.entries)

  -- each key that moved lies where its move says
  pub moved-each : AllByRecursion HasRoom moves → AllByRecursion (HasMoved old (moved_cache old moves atlas)) (filter_map (key_move old) moves)
  moved-each rooms =
      let all : List Allocation = allocations old.atlas in
      let found = each-map (IsFound all) (λ (m : Move). m.before) moves (Each-front (IsFound all) (moved_from moves) unplaced into.each.found) in
      let own = each-map (λ (p : ℕ × Allocation). under (moved_by_id moves) p.0 ≡ Some p.1) (λ (m : Move). (m.before.id, m.after)) moves
      (under-own (moved_by_id moves) (λ id. subst (λ (l : List ℕ). times id l ≤ 1) (sym (moved_by_id-ids moves)) (moved-once id))) in
      let facts = Each-both (λ (m : Move). IsFound all m.before) (λ (m : Move). (new_allocation moves m.before.id ≡ Some m.after) × HasRoom m) moves found
      (Each-both (λ (m : Move). new_allocation moves m.before.id ≡ Some m.after) HasRoom moves own rooms) in
      each-filter_map (λ (m : Move). IsFound all m.before × ((new_allocation moves m.before.id ≡ Some m.after) × HasRoom m))
      (HasMoved old (moved_cache old moves atlas)) (key_move old) moves
      (λ m told fact is.
      let named = mapped-some (λ (key : ℕ). record { key = key; before = m.before.rectangle; after = m.after.rectangle }) (key_at old m.before.id) told is in
      let was = name-found all m.before named.0 old.entries fact.0 promises.tied.found promises.keys named.1 in
      let now = moved-found moves named.0 m.before m.after old.entries was fact.1.0 in
      let moved : HasMoved old (moved_cache old moves atlas) (record { key = named.0; before = m.before.rectangle; after = m.after.rectangle }) =
      record {
        before = ap (option_map (λ (a : Allocation). a.rectangle)) was;
        after = ap (option_map (λ (a : Allocation). a.rectangle)) now;
        room = fact.1.1;
      } in
      subst (HasMoved old (moved_cache old moves atlas)) (sym named.2) moved)
      facts

  -- and each that was left is not there
  pub left-each : AllByRecursion (IsLeftOut old (moved_cache old moves atlas)) (filter_map (key_left old) unplaced)
  left-each =
      let all : List Allocation = allocations old.atlas in
      let found = Each-back (IsFound all) (moved_from moves) unplaced into.each.found in
      let gone = Each-weaken (λ (a : Allocation). 1 ≤ times a.id (ids_of unplaced)) (λ (a : Allocation). new_allocation moves a.id ≡ None) unplaced
      (λ a some. under-absent a.id (moved_by_id moves)
      (subst (λ (l : List ℕ). times a.id l ≡ 0) (sym (moved_by_id-ids moves)) (omega (arith, some, counted a.id, once a.id))))
      (each-map (λ (id : ℕ). 1 ≤ times id (ids_of unplaced)) (λ (a : Allocation). a.id) unplaced (present (ids_of unplaced))) in
      each-filter_map (λ (a : Allocation). IsFound all a × (new_allocation moves a.id ≡ None))
      (IsLeftOut old (moved_cache old moves atlas)) (key_left old) unplaced
      (λ a told fact is.
      let named = mapped-some (λ (key : ℕ). record { key = key; rectangle = a.rectangle }) (key_at old a.id) told is in
      let was = name-found all a named.0 old.entries fact.0 promises.tied.found promises.keys named.1 in
      let now = left-found moves named.0 a old.entries was promises.keys fact.1 in
      let left : IsLeftOut old (moved_cache old moves atlas) (record { key = named.0; rectangle = a.rectangle }) =
      record {
        before = ap (option_map (λ (a : Allocation). a.rectangle)) was;
        after = ap (option_map (λ (a : Allocation). a.rectangle)) now;
      } in
      subst (IsLeftOut old (moved_cache old moves atlas)) (sym named.2) left)
      (Each-both (IsFound all) (λ (a : Allocation). new_allocation moves a.id ≡ None) unplaced found gone)

  -- so it is where the keys have followed
  module _ (told : List KeyMove) (left : List UnplacedKey) (new : CacheState) (follows : Follows old moves unplaced atlas told left new) where
    pub done-each : (key : ℕ) → times key (keys_told told left) ≡ times key (keys_of old.entries)
    done-each key =
        ap (λ (l : List KeyMove). times key (keys_told l left)) follows.told_are
        ∙ ap (λ (l : List UnplacedKey). times key (keys_told (filter_map (key_move old) moves) l)) follows.left_are
        ∙ told-each key

    pub done-moved : AllByRecursion HasRoom moves → AllByRecursion (HasMoved old new) told
    done-moved rooms =
        subst (AllByRecursion (HasMoved old new)) (sym follows.told_are)
        (subst (λ (n : CacheState). AllByRecursion (HasMoved old n) (filter_map (key_move old) moves)) (sym follows.follows) (moved-each rooms))

    pub done-left : AllByRecursion (IsLeftOut old new) left
    done-left =
        subst (AllByRecursion (IsLeftOut old new)) (sym follows.left_are)
        (subst (λ (n : CacheState). AllByRecursion (IsLeftOut old n) (filter_map (key_left old) unplaced)) (sym follows.follows) left-each)
