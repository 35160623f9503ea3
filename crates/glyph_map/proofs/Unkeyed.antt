-- A cache whose keys aren't told apart: evictions, room and what is placed are those of the cache.
use Rattle.std.proofs.Common.{◌≡◌, ℕ, zero, suc, ◌-◌, ◌<◌, ◌≤◌, ◌&&◌, Option, Some, None, List, [], ◌∷◌, ◌++◌, length, map, take, reverse, refl, ap, sym, ◌∙◌, subst, arith}
use Rattle.std.specs.List.{slice_get}
use Rattle.std.specs.Map.{keys_of}
use Rattle.std.specs.Option.{option_map_or}
use Rattle.std.specs.Prelude.{is_some, nat_lt, option_map}
use Rattle.std.proofs.lemmas.List.{length-map, length-reverse, length-take, map-append, reverse-append, take-map}
use Rattle.std.proofs.lemmas.Option.{slice_get-map}
use Rattle.lru.specs.LruCache.{last_entry}
use Rattle.glyph_shelf.specs.UsedKeys.Keys.{uses_left}
use Rattle.shelf_model.specs.Choice.{placement_of}
use Rattle.shelf_model.specs.Returning.{returned}
use Rattle.etagere_base.specs.declared.geometry.Rectangle.{Rectangle}
use Rattle.etagere_base.specs.declared.geometry.Size.{Size}
use Rattle.etagere_base.specs.declared.ids.Allocation.{Allocation}
use Rattle.glyph_shelf.specs.Cache.{CacheState, after_dropping, dropped_keys, evictable, without_last}
use Rattle.glyph_shelf.specs.Placing.{Enters, IsFrameFull, Places, SameLayout, has_room}
use Rattle.glyph_map.specs.Promises.{unkeyed}

-- an entry without its key
abbrev pub bare : ℕ × Allocation → ℕ × Allocation
bare entry = (0, entry.1)

-- the last of entries without their keys
last-bare : (es : List (ℕ × Allocation)) → last_entry (map bare es) ≡ option_map bare (last_entry es)
last-bare es = ap (λ (n : ℕ). slice_get (map bare es) (n - 1)) (length-map es bare) ∙ slice_get-map bare es (length es - 1)

abbrev cut : CacheState → List (ℕ × Allocation) → ℕ → ℕ × Allocation → CacheState
cut c es left entry =
    record {
      entries = es;
      capacity = c.capacity;
      atlas = returned c.atlas entry.1.id;
      used_in_frame = uses_left left c.used_in_frame;
    }

unkeyed-without_last : (c : CacheState) → unkeyed (without_last c) ≡ without_last (unkeyed c)
unkeyed-without_last c =
    by_last (last_entry c.entries)
    ∙ ap (λ (o : Option (ℕ × Allocation)). option_map_or (cut c (take (length (map bare c.entries) - 1) (map bare c.entries)) (length (map bare c.entries) - 1)) o (unkeyed c))
    (sym (last-bare c.entries))
  where
    by_last : (o : Option (ℕ × Allocation))
        → unkeyed (option_map_or (cut c (take (length c.entries - 1) c.entries) (length c.entries - 1)) o c)
        ≡ option_map_or (cut c (take (length (map bare c.entries) - 1) (map bare c.entries)) (length (map bare c.entries) - 1)) (option_map bare o) (unkeyed c)
    by_last None = refl
    by_last (Some e) =
        ap (λ (l : List (ℕ × Allocation)). cut c l (length c.entries - 1) e) (sym (take-map bare (length c.entries - 1) c.entries))
        ∙ ap (λ (n : ℕ). cut c (take (n - 1) (map bare c.entries)) (n - 1) e) (sym (length-map c.entries bare))

pub unkeyed-dropping : (c : CacheState) (n : ℕ) → unkeyed (after_dropping c n) ≡ after_dropping (unkeyed c) n
unkeyed-dropping c zero = refl
unkeyed-dropping c (suc n) = unkeyed-without_last (after_dropping c n) ∙ ap without_last (unkeyed-dropping c n)

-- there is room after evictions where there is without the keys
pub room-dropping : (c : CacheState) (n : ℕ) (size : Size)
    → has_room (after_dropping (unkeyed c) n) size ≡ has_room (after_dropping c n) size
room-dropping c n size =
    let d = after_dropping c n in
    ap (λ (s : CacheState). has_room s size) (sym (unkeyed-dropping c n))
    ∙ ap (λ (k : ℕ). nat_lt k d.capacity && is_some (placement_of d.atlas size)) (length-map d.entries bare)

pub evictable-unkeyed : (c : CacheState) → evictable (unkeyed c) ≡ evictable c
evictable-unkeyed c = let same = length-map c.entries bare in omega arith

pub unkeyed-full : (c : CacheState) (size : Size) → IsFrameFull c size → IsFrameFull (unkeyed c) size
unkeyed-full c size full count few =
    room-dropping c count size ∙ full count (subst (λ (k : ℕ). count ≤ k) (evictable-unkeyed c) few)

pub unkeyed-same : (old new : CacheState) → SameLayout old new → SameLayout (unkeyed old) (unkeyed new)
unkeyed-same old new same =
    record {
      entries = ap (map bare) same.entries;
      capacity = same.capacity;
      uses = same.uses;
      layout = same.layout;
    }

-- lists of the same length have the same number of zeros
abbrev pub zeros : {X : Type 0} → List X → List ℕ
zeros {X} xs = map (λ (x : X). 0) xs

zeros-same : {X Y : Type 0} (xs : List X) (ys : List Y) → length xs ≡ length ys → zeros xs ≡ zeros ys
zeros-same [] [] h = refl
zeros-same [] (y ∷ ys) h = absurd (omega arith)
zeros-same (x ∷ xs) [] h = absurd (omega arith)
zeros-same (x ∷ xs) (y ∷ ys) h = ap (λ (l : List ℕ). 0 ∷ l) (zeros-same xs ys (omega arith))

zeros-keys : (es : List (ℕ × Allocation)) → keys_of (map bare es) ≡ zeros es
zeros-keys [] = refl
zeros-keys (e ∷ es) = ap (λ (l : List ℕ). 0 ∷ l) (zeros-keys es)

reverse-zeros : {X : Type 0} (xs : List X) → reverse (zeros xs) ≡ zeros (reverse xs)
reverse-zeros [] = refl
reverse-zeros {X} (x ∷ xs) =
    let zero_of : X → ℕ = λ y. 0 in
    reverse-append (0 ∷ []) (zeros xs)
    ∙ ap (λ (l : List ℕ). l ++ 0 ∷ []) (reverse-zeros xs)
    ∙ sym (map-append zero_of (reverse xs) (x ∷ []))
    ∙ ap zeros (sym (reverse-append (x ∷ []) xs))

-- so many keys without what tells them apart
dropped-unkeyed : {X : Type 0} (c : CacheState) (xs : List X) → length xs ≤ length c.entries
    → zeros xs ≡ dropped_keys (unkeyed c) (length xs)
dropped-unkeyed c xs few =
    let es = c.entries in
    let long : length xs ≡ length (take (length xs) (reverse es)) = omega (arith, length-take (length xs) (reverse es), length-reverse es) in
    zeros-same xs (take (length xs) (reverse es)) long
    ∙ sym (take-map (λ (e : ℕ × Allocation). 0) (length xs) (reverse es))
    ∙ ap (take (length xs)) (sym (reverse-zeros es) ∙ ap reverse (sym (zeros-keys es)))

-- what was dropped is no more than there was
pub dropped-few : (c : CacheState) (keys : List ℕ) → keys ≡ dropped_keys c (length keys) → length keys ≤ length c.entries
dropped-few c keys listed =
    let all = reverse (keys_of c.entries) in
    omega (arith, ap length listed, length-take (length keys) all, length-reverse (keys_of c.entries), length-map c.entries (λ (e : ℕ × Allocation). e.0))

-- a cache places a key where it does without the keys
pub unkeyed-places : {X : Type 0} (old : CacheState) (key : ℕ) (size : Size) (rectangle : Rectangle) (keys : List ℕ) (new : CacheState) (xs : List X)
    → length xs ≡ length keys → Places old key size rectangle keys new → Places (unkeyed old) 0 size rectangle (zeros xs) (unkeyed new)
unkeyed-places {X} old key size rectangle keys new xs long places =
    let count : length (zeros xs) ≡ length keys = length-map xs (λ (x : X). 0) ∙ long in
    let few : length xs ≤ length old.entries = subst (λ (k : ℕ). k ≤ length old.entries) (sym long) (dropped-few old keys places.listed) in
    record {
      least = record {
        room = ap (λ (k : ℕ). has_room (after_dropping (unkeyed old) k) size) count ∙ room-dropping old (length keys) size ∙ places.least.room;
        least = λ fewer h. room-dropping old fewer size ∙ places.least.least fewer (subst (λ (k : ℕ). fewer < k) count h);
      };
      listed = dropped-unkeyed old xs few ∙ ap (dropped_keys (unkeyed old)) (sym (length-map xs (λ (x : X). 0)));
      entered = subst (λ (s : CacheState). Enters s 0 size rectangle (unkeyed new))
          (unkeyed-dropping old (length keys) ∙ ap (after_dropping (unkeyed old)) (sym count))
          (record {
            allocation = places.entered.allocation;
            given = places.entered.given;
            allocated = places.entered.allocated;
            entries = ap (map bare) places.entered.entries;
            capacity = places.entered.capacity;
            uses = places.entered.uses;
          });
    }
