-- Keys that go by their places, from 0 on: a cache with such keys keeps its promises, and is saved with them.
use Rattle.std.proofs.Common.{◌≡◌, ℕ, ◌+◌, ◌<◌, ◌≤◌, ◌==◌, Bool, true, false, cond, None, List, [], ◌∷◌, length, map, refl, ap, sym, ◌∙◌, subst, arith}
use Rattle.std.proofs.lemmas.Bool.Decides.{nat_tests}
use Rattle.std.proofs.lemmas.List.{length-map}
use Rattle.std.proofs.lemmas.List.FromFn.{length-enumerate_from}
use Rattle.std.specs.List.{AllByRecursion, enumerate_from, range_with_len}
use Rattle.std.specs.Map.{keys_of, values_of}
use Rattle.etagere_base.specs.Lists.{times}
use Rattle.etagere_base.specs.Rectangles.{AreApart, IsInside}
use Rattle.etagere_base.specs.declared.ids.Allocation.{Allocation}
use Rattle.shelf_model.specs.Callers.{AreTied}
use Rattle.shelf_model.specs.Places.{allocations}
use Rattle.glyph_shelf.specs.Cache.{CacheState, frame_uses}
use Rattle.glyph_shelf.specs.Promises.{KeepsCachePromises}
use Rattle.glyph_shelf.specs.Saved.{CacheStandsFor, keys_saved, saved_key, without_frame}
use Rattle.glyph_shelf.specs.declared.saving.CacheSnapshot.{CacheSnapshot}
use Rattle.glyph_shelf.specs.declared.saving.SavedKey.{SavedKey}
use Rattle.glyph_map.specs.Private.Lockstep.{joined}
use Rattle.glyph_map.specs.Private.Numbering.{numbered_from}
use Rattle.glyph_map.specs.Saved as saving
use Rattle.glyph_map.specs.Saved.{MapStandsFor}
use Rattle.glyph_map.specs.State.{pairs_of}
use Rattle.glyph_map.specs.declared.ticketed.Ticketed.{Ticketed}
use Rattle.glyph_map.proofs.Joined.{AreInStep, joined-cache, joined-length, map_of, same-length}
use Rattle.glyph_map.proofs.Unkeyed.{bare}

-- the numbers are those from 0 on
numbers-are : (n : ℕ) (saved : List SavedKey) → map (λ (s : SavedKey). s.key) (numbered_from n saved) ≡ range_with_len n (length saved)
numbers-are n [] = refl
numbers-are n (s ∷ saved) = ap (λ (l : List ℕ). n ∷ l) (numbers-are (n + 1) saved)

numbered-saved : (n : ℕ) (es : List (ℕ × Allocation)) → numbered_from n (map saved_key es) ≡ map saved_key (enumerate_from n (values_of es))
numbered-saved n [] = refl
numbered-saved n (e ∷ es) =
    let one : SavedKey = record { key = n; id = e.1.id } in
    ap (λ (l : List SavedKey). one ∷ l) (numbered-saved (n + 1) es)

numbered-bare : (n : ℕ) (es : List (ℕ × Allocation)) → map bare (enumerate_from n (values_of es)) ≡ map bare es
numbered-bare n [] = refl
numbered-bare n (e ∷ es) = let one : ℕ × Allocation = (0, e.1) in ap (λ (l : List (ℕ × Allocation)). one ∷ l) (numbered-bare (n + 1) es)

numbered-values : (n : ℕ) (xs : List Allocation) → values_of (enumerate_from n xs) ≡ xs
numbered-values n [] = refl
numbered-values n (x ∷ xs) = ap (λ (l : List Allocation). x ∷ l) (numbered-values (n + 1) xs)

times-below : (key n : ℕ) (xs : List Allocation) → key < n → times key (keys_of (enumerate_from n xs)) ≡ 0
times-below key n [] h = refl
times-below key n (x ∷ xs) h =
    let differs : (n == key) ≡ false = grind (arith, nat_tests) in
    here (n == key) (times key (keys_of (enumerate_from (n + 1) xs))) differs (times-below key (n + 1) xs (omega arith))
  where
    here : (b : Bool) (t : ℕ) → b ≡ false → t ≡ 0 → cond b 1 0 + t ≡ 0
    here true t same none = absurd (cc)
    here false t same none = omega (arith, none)

times-once : (key n : ℕ) (xs : List Allocation) → times key (keys_of (enumerate_from n xs)) ≤ 1
times-once key n [] = omega arith
times-once key n (x ∷ xs) = here (n == key) refl (times-once key (n + 1) xs)
  where
    here : (b : Bool) → (n == key) ≡ b → times key (keys_of (enumerate_from (n + 1) xs)) ≤ 1
        → cond b 1 0 + times key (keys_of (enumerate_from (n + 1) xs)) ≤ 1
    here true t few =
        let less : key < n + 1 = grind (arith, nat_tests) in
        let none = times-below key (n + 1) xs less in
        omega arith
    here false t few = omega arith

-- a cache whose keys go by their places
abbrev pub numbered : CacheState → CacheState
numbered c =
    record {
      entries = enumerate_from 0 (values_of c.entries);
      capacity = c.capacity;
      atlas = c.atlas;
      used_in_frame = c.used_in_frame;
    }

numbered-length : (c : CacheState) → length (numbered c).entries ≡ length c.entries
numbered-length c = length-enumerate_from 0 (values_of c.entries) ∙ length-map c.entries (λ (e : ℕ × Allocation). e.1)

numbered-promises : (c : CacheState) → KeepsCachePromises c → KeepsCachePromises (numbered c)
numbered-promises c promises =
    let same = sym (numbered-values 0 (values_of c.entries)) in
    record {
      atlas = promises.atlas;
      few = subst (λ (n : ℕ). n ≤ c.capacity) (sym (numbered-length c)) promises.few;
      capacity = promises.capacity;
      keys = λ key. times-once key 0 (values_of c.entries);
      tied = subst (λ (l : List Allocation). AreTied l (allocations c.atlas)) same promises.tied;
      inside = subst (λ (l : List Allocation). AllByRecursion (λ (allocation : Allocation). IsInside c.atlas.frame allocation.rectangle) l) same promises.inside;
      apart = subst (λ (l : List Allocation). AreApart l) same promises.apart;
      uses = subst (λ (n : ℕ). frame_uses c ≤ n) (sym (numbered-length c)) promises.uses;
    }

numbered-stands : (saved snapshot : CacheSnapshot) (c : CacheState) → CacheStandsFor saved c → snapshot.capacity ≡ saved.capacity
    → snapshot.atlas ≡ saved.atlas → snapshot.keys.items ≡ numbered_from 0 saved.keys.items → CacheStandsFor snapshot (numbered c)
numbered-stands saved snapshot c stands capacity atlas keys =
    record {
      capacity = stands.capacity ∙ sym capacity;
      atlas = rw atlas stands.atlas;
      keys = keys ∙ ap (numbered_from 0) stands.keys ∙ numbered-saved 0 c.entries;
      unframed = stands.unframed;
      promises = numbered-promises c stands.promises;
    }

-- the snapshot of a map's cache, with such keys
module _ {K V : Type 0} (es : List (K × Ticketed V)) (c : CacheState) (saved snapshot : CacheSnapshot) (step : AreInStep es c.entries)
    (stands : CacheStandsFor saved (without_frame c)) (keys : snapshot.keys.items ≡ numbered_from 0 saved.keys.items) where
  pub numbered-map : snapshot.capacity ≡ saved.capacity → snapshot.atlas ≡ saved.atlas
      → MapStandsFor snapshot (pairs_of (joined es c.entries)) (saving.without_frame (map_of es c))
  numbered-map capacity atlas =
      record {
        cache = numbered (without_frame c);
        stands = numbered-stands saved snapshot (without_frame c) stands capacity atlas keys;
        is_cache =
            ap (λ (l : List (ℕ × Allocation)). let s : CacheState = record { entries = l; capacity = c.capacity; atlas = c.atlas; used_in_frame = None } in s)
            (numbered-bare 0 c.entries)
            ∙ ap (λ (s : CacheState). without_frame s) (sym (joined-cache es c step));
        pairs_are = refl;
      }

  pub numbered-keys : keys_saved snapshot ≡ range_with_len 0 (length (joined es c.entries))
  numbered-keys =
      ap (map (λ (s : SavedKey). s.key)) keys ∙ numbers-are 0 saved.keys.items
      ∙ ap (range_with_len 0) (ap length stands.keys ∙ length-map c.entries saved_key ∙ same-length es c.entries step ∙ sym (joined-length es c.entries step))
