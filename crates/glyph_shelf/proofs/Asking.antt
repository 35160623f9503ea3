-- Keys that are asked in turn, from the least recently used one: what is left is what taking out the refused ones leaves.
use Rattle.std.proofs.Common.{◌≡◌, ℕ, zero, suc, ◌+◌, ◌-◌, ◌<◌, ◌≤◌, ◌==◌, Bool, true, false, cond, Option, Some, None, List, [], ◌∷◌, ◌++◌, length, map, take, drop, reverse, refl, ap, sym, ◌∙◌, subst, append-nil, append_assoc, arith}
use Rattle.std.proofs.lemmas.Bool.Decides.{nat_tests}
use Rattle.std.proofs.lemmas.List.{length-append, length-map, length-reverse, length-take, length-drop, map-append, reverse-append, take-append-le, take-append-drop}
use Rattle.std.specs.List.{items_where_true, slice_get}
use Rattle.std.specs.List.Retain.{ReturnsInTurn}
use Rattle.std.specs.Map.{keys_of, lookup, lookup_entry, remove_entry}
use Rattle.std.specs.Option.{option_map_or}
use Rattle.std.specs.Prelude.{is_some, min, nat_eq, option_map}
use Rattle.lru.specs.LruCache.{last_entry}
use Rattle.etagere_base.specs.Lists.{times}
use Rattle.etagere_base.proofs.TimesLemmas.{times-append}
use Rattle.etagere_base.specs.declared.geometry.Rectangle.{Rectangle}
use Rattle.etagere_base.specs.declared.ids.Allocation.{Allocation}
use Rattle.shelf_model.specs.Returning.{returned}
use Rattle.shelf_model.specs.State.{AtlasState}
use Rattle.glyph_shelf.specs.UsedKeys.Keys.{stands_first, uses_in, uses_left, uses_with, uses_without}
use Rattle.glyph_shelf.specs.Cache.{CacheState, frame_uses, in_new_frame, listed, used, without_key, without_last}
use Rattle.glyph_shelf.specs.Private.Asking.{Asks, AsksInTurn, turned}
use Rattle.glyph_shelf.specs.Retaining.{Retains, refused_keys, without_keys}
use Rattle.glyph_shelf.proofs.Callers.{length-without_last}
use Rattle.glyph_shelf.proofs.UsedKeys.Entries.{unknown-take}

abbrev Entries : Type 0
Entries = List (ℕ × Allocation)

-- a cache by its parts
abbrev cache : Entries → ℕ → AtlasState → Option ℕ → CacheState
cache entries capacity atlas uses =
    record { entries = entries; capacity = capacity; atlas = atlas; used_in_frame = uses }

-- lists from the other end
reverse-first : {X : Type 0} (x : X) (xs : List X) → reverse (x ∷ xs) ≡ reverse xs ++ x ∷ []
reverse-first x xs = reverse-append (x ∷ []) xs

reverse-twice : {X : Type 0} (xs : List X) → reverse (reverse xs) ≡ xs
reverse-twice [] = refl
reverse-twice (x ∷ xs) =
    ap reverse (reverse-first x xs) ∙ reverse-append (reverse xs) (x ∷ []) ∙ ap (λ l. x ∷ l) (reverse-twice xs)

reverse-map : {X Y : Type 0} (f : X → Y) (xs : List X) → reverse (map f xs) ≡ map f (reverse xs)
reverse-map f [] = refl
reverse-map f (x ∷ xs) =
    reverse-first (f x) (map f xs) ∙ ap (λ l. l ++ f x ∷ []) (reverse-map f xs) ∙ sym (map-append f (reverse xs) (x ∷ []))
    ∙ ap (map f) (sym (reverse-first x xs))

times-reverse : (key : ℕ) (es : Entries) → times key (keys_of (reverse es)) ≡ times key (keys_of es)
times-reverse key [] = refl
times-reverse key (e ∷ es) =
    let split : times key (keys_of (reverse (e ∷ es))) ≡ times key (keys_of (reverse es)) + times key (e.0 ∷ []) =
    ap (λ (l : Entries). times key (keys_of l)) (reverse-first e es)
    ∙ ap (times key) (map-append (λ (x : ℕ × Allocation). x.0) (reverse es) (e ∷ []))
    ∙ times-append key (keys_of (reverse es)) (e.0 ∷ []) in
    omega (arith, split, times-reverse key es)

-- a key that stands nowhere finds nothing
unknown-times : (key : ℕ) (es : Entries) → times key (keys_of es) ≡ 0 → lookup (nat_eq key) es ≡ None
unknown-times key [] none = refl
unknown-times key (e ∷ es) none = here (nat_eq key e.0) refl (λ later. unknown-times key es later)
  where
    stands : (b : Bool) → b ≡ true → cond b 1 0 + times key (keys_of es) ≡ 0 → ⊥
    stands true is h = omega arith
    stands false is h = cc

    here : (b : Bool) → nat_eq key e.0 ≡ b → (times key (keys_of es) ≡ 0 → lookup (nat_eq key) es ≡ None)
        → cond b (Some e.1) (lookup (nat_eq key) es) ≡ None
    here true is later = let same : (e.0 == key) ≡ true = grind (arith, nat_tests) in absurd (stands (e.0 == key) same none)
    here false is later = later (omega arith)

-- an entry in the middle of entries before which its key doesn't stand
module _ (test : ℕ → Bool) (e : ℕ × Allocation) (is : test e.0 ≡ true) where
  removed-middle : (front back : Entries) → lookup test front ≡ None → remove_entry test (front ++ e ∷ back) ≡ front ++ back
  removed-middle [] back unknown = rw is refl
  removed-middle (f ∷ front) back unknown = here (test f.0) unknown (removed-middle front back)
    where
      here : (b : Bool) → cond b (Some f.1) (lookup test front) ≡ None
          → (lookup test front ≡ None → remove_entry test (front ++ e ∷ back) ≡ front ++ back)
          → cond b (front ++ e ∷ back) (f ∷ remove_entry test (front ++ e ∷ back)) ≡ f ∷ (front ++ back)
      here true h later = absurd (cc)
      here false h later = ap (λ l. f ∷ l) (later h)

  found-middle : (front back : Entries) → lookup test front ≡ None → lookup_entry test (front ++ e ∷ back) ≡ Some e
  found-middle [] back unknown = rw is refl
  found-middle (f ∷ front) back unknown = here (test f.0) unknown (found-middle front back)
    where
      here : (b : Bool) → cond b (Some f.1) (lookup test front) ≡ None
          → (lookup test front ≡ None → lookup_entry test (front ++ e ∷ back) ≡ Some e)
          → cond b (Some f) (lookup_entry test (front ++ e ∷ back)) ≡ Some e
      here true h later = absurd (cc)
      here false h later = later h

  known-middle : (front back : Entries) → lookup test front ≡ None → lookup test (front ++ e ∷ back) ≡ Some e.1
  known-middle [] back unknown = rw is refl
  known-middle (f ∷ front) back unknown = here (test f.0) unknown (known-middle front back)
    where
      here : (b : Bool) → cond b (Some f.1) (lookup test front) ≡ None
          → (lookup test front ≡ None → lookup test (front ++ e ∷ back) ≡ Some e.1)
          → cond b (Some f.1) (lookup test (front ++ e ∷ back)) ≡ Some e.1
      here true h later = absurd (cc)
      here false h later = later h

  -- it stands among the first, if there are enough of them
  among-middle : (front back : Entries) (n : ℕ) → length front < n → is_some (lookup test (take n (front ++ e ∷ back))) ≡ true
  among-middle front back zero less = absurd (omega arith)
  among-middle [] back (suc n) less = rw is refl
  among-middle (f ∷ front) back (suc n) less = here (test f.0) (among-middle front back n (omega arith))
    where
      here : (b : Bool) → is_some (lookup test (take n (front ++ e ∷ back))) ≡ true
          → is_some (cond b (Some f.1) (lookup test (take n (front ++ e ∷ back)))) ≡ true
      here true later = refl
      here false later = later

-- the last entry
last-append : (front : Entries) (e : ℕ × Allocation) → last_entry (front ++ e ∷ []) ≡ Some e
last-append front e =
    let long : length (front ++ e ∷ []) - 1 ≡ length front = omega (arith, length-append front (e ∷ [])) in
    ap (slice_get (front ++ e ∷ [])) long ∙ at front
  where
    at : (front : Entries) → slice_get (front ++ e ∷ []) (length front) ≡ Some e
    at [] = refl
    at (f ∷ front) = at front

front-append : (front : Entries) (e : ℕ × Allocation) → take (length (front ++ e ∷ []) - 1) (front ++ e ∷ []) ≡ front
front-append front e =
    let long : length (front ++ e ∷ []) - 1 ≡ length front = omega (arith, length-append front (e ∷ [])) in
    ap (λ (n : ℕ). take n (front ++ e ∷ [])) long ∙ first front
  where
    first : (front : Entries) → take (length front) (front ++ e ∷ []) ≡ front
    first [] = refl
    first (f ∷ front) = ap (λ l. f ∷ l) (first front)

-- what an answer makes of a cache whose last entry this is
turned-stays : (front : Entries) (e : ℕ × Allocation) (s : CacheState) → s.entries ≡ front ++ e ∷ [] → lookup (nat_eq e.0) front ≡ None
    → turned s true ≡ cache (e ∷ front) s.capacity s.atlas (option_map (uses_with e.0 (front ++ e ∷ [])) s.used_in_frame)
turned-stays front e s is unknown =
    let own : nat_eq e.0 e.0 ≡ true = grind (arith, nat_tests) in
    let es = front ++ e ∷ [] in
    let there : CacheState = cache es s.capacity s.atlas s.used_in_frame in
    ap (λ (l : Entries). turned (cache l s.capacity s.atlas s.used_in_frame) true) is
    ∙ ap (λ (o : Option (ℕ × Allocation)). option_map_or (λ (x : ℕ × Allocation). used there x.0) o there) (last-append front e)
    ∙ ap (λ (l : Entries). cache l s.capacity s.atlas (option_map (uses_with e.0 es) s.used_in_frame))
    (ap (λ (o : Option (ℕ × Allocation)). option_map_or (λ x. x ∷ remove_entry (nat_eq e.0) es) o es) (found-middle (nat_eq e.0) e own front [] unknown)
    ∙ ap (λ (l : Entries). e ∷ l) (removed-middle (nat_eq e.0) e own front [] unknown ∙ append-nil front))

turned-goes : (front : Entries) (e : ℕ × Allocation) (s : CacheState) → s.entries ≡ front ++ e ∷ []
    → turned s false ≡ cache front s.capacity (returned s.atlas e.1.id) (uses_left (length front) s.used_in_frame)
turned-goes front e s is =
    let es = front ++ e ∷ [] in
    let there : CacheState = cache es s.capacity s.atlas s.used_in_frame in
    let long : length es - 1 ≡ length front = omega (arith, length-append front (e ∷ [])) in
    ap (λ (l : Entries). turned (cache l s.capacity s.atlas s.used_in_frame) false) is
    ∙ ap (λ (o : Option (ℕ × Allocation)). option_map_or
    (λ (x : ℕ × Allocation). cache (take (length es - 1) es) s.capacity (returned s.atlas x.1.id) (uses_left (length es - 1) s.used_in_frame)) o there)
    (last-append front e)
    ∙ ap (λ (l : Entries). cache l s.capacity (returned s.atlas e.1.id) (uses_left (length es - 1) s.used_in_frame)) (front-append front e)
    ∙ ap (λ (n : ℕ). cache front s.capacity (returned s.atlas e.1.id) (uses_left n s.used_in_frame)) long

-- what taking out an entry makes of a cache
taken-out : (front back : Entries) (e : ℕ × Allocation) (w : CacheState) → w.entries ≡ front ++ e ∷ back → lookup (nat_eq e.0) front ≡ None
    → without_key w e.0 ≡ cache (front ++ back) w.capacity (returned w.atlas e.1.id) (option_map (uses_without e.0 (front ++ e ∷ back)) w.used_in_frame)
taken-out front back e w is unknown =
    let own : nat_eq e.0 e.0 ≡ true = grind (arith, nat_tests) in
    let es = front ++ e ∷ back in
    let there : CacheState = cache es w.capacity w.atlas w.used_in_frame in
    ap (λ (l : Entries). without_key (cache l w.capacity w.atlas w.used_in_frame) e.0) is
    ∙ ap (λ (o : Option Allocation). option_map_or
    (λ (a : Allocation). cache (remove_entry (nat_eq e.0) es) w.capacity (returned w.atlas a.id) (option_map (uses_without e.0 es) w.used_in_frame)) o there)
    (known-middle (nat_eq e.0) e own front back unknown)
    ∙ ap (λ (l : Entries). cache l w.capacity (returned w.atlas e.1.id) (option_map (uses_without e.0 es) w.used_in_frame))
    (removed-middle (nat_eq e.0) e own front back unknown)

-- Some entries were asked, and those that stayed stand in front of the rest; in the other cache the refused ones were taken
-- out where they stood.
record Stands (rest kept : Entries) (s w : CacheState) : Type 0 where
  turning : s.entries ≡ kept ++ reverse rest
  staying : w.entries ≡ reverse rest ++ kept
  atlas : s.atlas ≡ w.atlas
  capacity : s.capacity ≡ w.capacity
  once : (key : ℕ) → times key (keys_of kept) + times key (keys_of rest) ≤ 1

-- the next one that is asked
record IsNext (e : ℕ × Allocation) (rest kept : Entries) (s w : CacheState) : Type 0 where
  turning : s.entries ≡ (kept ++ reverse rest) ++ e ∷ []
  staying : w.entries ≡ reverse rest ++ e ∷ kept
  not_kept : lookup (nat_eq e.0) kept ≡ None
  not_left : lookup (nat_eq e.0) (reverse rest) ≡ None
  not_other : lookup (nat_eq e.0) (kept ++ reverse rest) ≡ None

next : (e : ℕ × Allocation) (rest kept : Entries) (s w : CacheState) → Stands (e ∷ rest) kept s w → IsNext e rest kept s w
next e rest kept s w stands =
    let key : ℕ × Allocation → ℕ = λ x. x.0 in
    let own : (e.0 == e.0) ≡ true = grind (arith, nat_tests) in
    let once = counted (e.0 == e.0) own (times e.0 (keys_of kept)) (times e.0 (keys_of rest)) (stands.once e.0) in
    let left : times e.0 (keys_of (reverse rest)) ≡ 0 = times-reverse e.0 rest ∙ once.1 in
    let others : times e.0 (keys_of (kept ++ reverse rest)) ≡ 0 =
    ap (times e.0) (map-append key kept (reverse rest)) ∙ times-append e.0 (keys_of kept) (keys_of (reverse rest))
    ∙ omega (arith, once.0, left) in
    record {
      turning = stands.turning ∙ ap (λ (l : Entries). kept ++ l) (reverse-first e rest) ∙ sym (append_assoc kept (reverse rest) (e ∷ []));
      staying = stands.staying ∙ ap (λ (l : Entries). l ++ kept) (reverse-first e rest) ∙ append_assoc (reverse rest) (e ∷ []) kept;
      not_kept = unknown-times e.0 kept once.0;
      not_left = unknown-times e.0 (reverse rest) left;
      not_other = unknown-times e.0 (kept ++ reverse rest) others;
    }
  where
    counted : (b : Bool) → b ≡ true → (before behind : ℕ) → before + (cond b 1 0 + behind) ≤ 1 → (before ≡ 0) × (behind ≡ 0)
    counted true is before behind most = (omega arith, omega arith)
    counted false is before behind most = absurd (cc)

stays : (e : ℕ × Allocation) (rest kept : Entries) (s w : CacheState) → Stands (e ∷ rest) kept s w → Stands rest (e ∷ kept) (turned s true) w
stays e rest kept s w stands =
    let at = next e rest kept s w stands in
    let now = turned-stays (kept ++ reverse rest) e s at.turning at.not_other in
    record {
      turning = ap (λ (c : CacheState). c.entries) now;
      staying = at.staying;
      atlas = ap (λ (c : CacheState). c.atlas) now ∙ stands.atlas;
      capacity = ap (λ (c : CacheState). c.capacity) now ∙ stands.capacity;
      once = λ key. omega (arith, stands.once key);
    }

goes : (e : ℕ × Allocation) (rest kept : Entries) (s w : CacheState) → Stands (e ∷ rest) kept s w → Stands rest kept (turned s false) (without_key w e.0)
goes e rest kept s w stands =
    let at = next e rest kept s w stands in
    let now = turned-goes (kept ++ reverse rest) e s at.turning in
    let gone = taken-out (reverse rest) kept e w at.staying at.not_left in
    record {
      turning = ap (λ (c : CacheState). c.entries) now;
      staying = ap (λ (c : CacheState). c.entries) gone;
      atlas = ap (λ (c : CacheState). c.atlas) now ∙ ap (λ (a : AtlasState). returned a e.1.id) stands.atlas ∙ sym (ap (λ (c : CacheState). c.atlas) gone);
      capacity = ap (λ (c : CacheState). c.capacity) now ∙ stands.capacity ∙ sym (ap (λ (c : CacheState). c.capacity) gone);
      once = λ key. omega (arith, stands.once key);
    }

-- the entry that was asked is the next one
last-is : (e : ℕ × Allocation) (front : Entries) (s : CacheState) → s.entries ≡ front ++ e ∷ [] → (other : ℕ × Allocation)
    → last_entry s.entries ≡ Some other → other ≡ e
last-is e front s is other last =
    let here : Some other ≡ Some e = sym last ∙ ap last_entry is ∙ last-append front e in
    cc

-- an answer takes one entry out at most
removed-length : (test : ℕ → Bool) (es : Entries) → length es ≤ suc (length (remove_entry test es))
removed-length test [] = omega arith
removed-length test (e ∷ es) = here (test e.0) (removed-length test es)
  where
    here : (b : Bool) → length es ≤ suc (length (remove_entry test es)) → suc (length es) ≤ suc (length (cond b es (e ∷ remove_entry test es)))
    here true later = omega arith
    here false later = omega arith

turned-length : (s : CacheState) (b : Bool) → length s.entries ≤ suc (length (turned s b).entries)
turned-length s true = by_last (last_entry s.entries)
  where
    by_entry : (test : ℕ → Bool) (o : Option (ℕ × Allocation)) → length s.entries ≤ suc (length (option_map_or (λ e. e ∷ remove_entry test s.entries) o s.entries))
    by_entry test None = omega arith
    by_entry test (Some e) = let removed = removed-length test s.entries in omega arith

    by_last : (o : Option (ℕ × Allocation)) → length s.entries ≤ suc (length (option_map_or (λ (e : ℕ × Allocation). used s e.0) o s).entries)
    by_last None = omega arith
    by_last (Some e) = by_entry (nat_eq e.0) (lookup_entry (nat_eq e.0) s.entries)
turned-length s false = omega (arith, length-without_last s)

-- the entries that stay, by the answers, in front of those that stayed before
abbrev gathered : List Bool → Entries → Entries → Entries
gathered [] es kept = kept
gathered (b ∷ bs) [] kept = kept
gathered (true ∷ bs) (e ∷ es) kept = gathered bs es (e ∷ kept)
gathered (false ∷ bs) (e ∷ es) kept = gathered bs es kept

gathered-order : (bs : List Bool) (es kept : Entries) → gathered bs es kept ≡ reverse (items_where_true bs es) ++ kept
gathered-order [] es kept = refl
gathered-order (b ∷ bs) [] kept = refl
gathered-order (true ∷ bs) (e ∷ es) kept =
    gathered-order bs es (e ∷ kept) ∙ sym (append_assoc (reverse (items_where_true bs es)) (e ∷ []) kept)
    ∙ ap (λ (l : Entries). l ++ kept) (sym (reverse-first e (items_where_true bs es)))
gathered-order (false ∷ bs) (e ∷ es) kept = gathered-order bs es kept

abbrev shown : ℕ × Allocation → ℕ × Rectangle
shown e = (e.0, e.1.rectangle)

-- the uses when one of them is asked: in the cache that turns it is then used in the frame, in the other it goes or stays
uses-behind : (front back : Entries) (e : ℕ × Allocation) (uses : Option ℕ) → lookup (nat_eq e.0) front ≡ None
    → uses_in uses ≤ length front → option_map (uses_without e.0 (front ++ back)) uses ≡ uses
uses-behind front back e None unknown few = refl
uses-behind front back e (Some n) unknown few =
    let among : stands_first e.0 (front ++ back) n ≡ false =
    ap (λ (l : Entries). is_some (lookup (nat_eq e.0) l)) (take-append-le n front back few) ∙ ap is_some (unknown-take (nat_eq e.0) n front unknown) in
    rw among refl

uses-here : (front back : Entries) (e : ℕ × Allocation) (n : ℕ) → lookup (nat_eq e.0) front ≡ None → length front ≤ n
    → uses_without e.0 (front ++ e ∷ back) (suc n) ≡ n
uses-here front back e n unknown less =
    let own : nat_eq e.0 e.0 ≡ true = grind (arith, nat_tests) in
    let among : stands_first e.0 (front ++ e ∷ back) (suc n) ≡ true = among-middle (nat_eq e.0) e own front back (suc n) (omega arith) in
    rw among (omega arith)

uses-more : (front : Entries) (e : ℕ × Allocation) (n : ℕ) → lookup (nat_eq e.0) front ≡ None → n ≤ length front
    → uses_with e.0 (front ++ e ∷ []) n ≡ suc n
uses-more front e n unknown few =
    let own : nat_eq e.0 e.0 ≡ true = grind (arith, nat_tests) in
    let there : lookup (nat_eq e.0) (front ++ e ∷ []) ≡ Some e.1 = known-middle (nat_eq e.0) e own front [] unknown in
    let among : stands_first e.0 (front ++ e ∷ []) n ≡ false =
    ap (λ (l : Entries). is_some (lookup (nat_eq e.0) l)) (take-append-le n front (e ∷ []) few) ∙ ap is_some (unknown-take (nat_eq e.0) n front unknown) in
    rw (among, there) refl

min-less : (n m : ℕ) → n ≤ m → min m n ≡ n
min-less n m few = omega arith

module _ {F : Type 0} (says : F → ℕ → Rectangle → Bool → F → Type 0) where
  abbrev told : F → List Bool → Entries → F → Type 0
  told p bs es q =
      ReturnsInTurn (λ before (entry : ℕ × Rectangle) answer after. says before entry.0 entry.1 answer after) p bs (map shown es) q

  -- Entries that weren't used in the frame were asked.
  record EarlierAsked (es rest kept : Entries) (s w : CacheState) (p : F) (bs : List Bool) (q : F) (t : CacheState) : Type 0 where
    told_is : told p bs es q
    stands : Stands rest (gathered bs es kept) t (without_keys w (refused_keys bs (keys_of es)))
    uses : (without_keys w (refused_keys bs (keys_of es))).used_in_frame ≡ w.used_in_frame
    none : s.used_in_frame ≡ None → t.used_in_frame ≡ None

  earlier-asked : (es rest kept : Entries) (s w : CacheState) (p : F) (bs : List Bool) (q : F) (t : CacheState)
      → length bs ≡ length es → Stands (es ++ rest) kept s w → uses_in w.used_in_frame ≤ length rest → AsksInTurn says p s bs q t
      → EarlierAsked es rest kept s w p bs q t
  earlier-asked [] rest kept s w p [] q t long stands few asked =
      record {
        told_is = sym asked.0;
        stands = subst (λ (c : CacheState). Stands rest kept c w) (sym asked.1) stands;
        uses = refl;
        none = λ h. ap (λ (c : CacheState). c.used_in_frame) asked.1 ∙ h;
      }
  earlier-asked [] rest kept s w p (b ∷ bs) q t long stands few asked = absurd (cc)
  earlier-asked (e ∷ es) rest kept s w p [] q t long stands few asked = absurd (cc)
  earlier-asked (e ∷ es) rest kept s w p (true ∷ bs) q t long stands few asked =
      let at = next e (es ++ rest) kept s w stands in
      let same : asked.0 ≡ e = last-is e (kept ++ reverse (es ++ rest)) s at.turning asked.0 asked.2 in
      let now = turned-stays (kept ++ reverse (es ++ rest)) e s at.turning at.not_other in
      let later = earlier-asked es rest (e ∷ kept) (turned s true) w asked.1 bs q t (omega arith) (stays e (es ++ rest) kept s w stands) few asked.4 in
      record {
        told_is = (asked.1, subst (λ (x : ℕ × Allocation). says p x.0 x.1.rectangle true asked.1) same asked.3, later.told_is);
        stands = later.stands;
        uses = later.uses;
        none = λ h. later.none (ap (λ (c : CacheState). c.used_in_frame) now ∙ ap (option_map (uses_with e.0 ((kept ++ reverse (es ++ rest)) ++ e ∷ []))) h);
      }
  earlier-asked (e ∷ es) rest kept s w p (false ∷ bs) q t long stands few asked =
      let at = next e (es ++ rest) kept s w stands in
      let same : asked.0 ≡ e = last-is e (kept ++ reverse (es ++ rest)) s at.turning asked.0 asked.2 in
      let now = turned-goes (kept ++ reverse (es ++ rest)) e s at.turning in
      let gone = taken-out (reverse (es ++ rest)) kept e w at.staying at.not_left in
      let enough : uses_in w.used_in_frame ≤ length (reverse (es ++ rest)) =
      omega (arith, length-reverse (es ++ rest), length-append es rest, few) in
      let unused : (without_key w e.0).used_in_frame ≡ w.used_in_frame =
      ap (λ (c : CacheState). c.used_in_frame) gone ∙ uses-behind (reverse (es ++ rest)) (e ∷ kept) e w.used_in_frame at.not_left enough in
      let later = earlier-asked es rest kept (turned s false) (without_key w e.0) asked.1 bs q t (omega arith)
      (goes e (es ++ rest) kept s w stands) (subst (λ (u : Option ℕ). uses_in u ≤ length rest) (sym unused) few) asked.4 in
      record {
        told_is = (asked.1, subst (λ (x : ℕ × Allocation). says p x.0 x.1.rectangle false asked.1) same asked.3, later.told_is);
        stands = later.stands;
        uses = later.uses ∙ unused;
        none = λ h. later.none (ap (λ (c : CacheState). c.used_in_frame) now ∙ ap (uses_left (length (kept ++ reverse (es ++ rest)))) h);
      }

  -- What is left of the entries in the end: both caches are the same.
  record Ended (es kept : Entries) (w : CacheState) (p : F) (bs : List Bool) (q : F) (t : CacheState) : Type 0 where
    told_is : told p bs es q
    stands : Stands [] (gathered bs es kept) t (without_keys w (refused_keys bs (keys_of es)))
    uses : t.used_in_frame ≡ (without_keys w (refused_keys bs (keys_of es))).used_in_frame

  -- Entries that were used in the frame were asked.
  later-asked : (es kept : Entries) (s w : CacheState) (p : F) (bs : List Bool) (q : F) (t : CacheState) (n : ℕ)
      → length bs ≡ length es → Stands es kept s w → s.used_in_frame ≡ Some n → n ≤ length kept
      → w.used_in_frame ≡ Some (length es + n) → AsksInTurn says p s bs q t → Ended es kept w p bs q t
  later-asked [] kept s w p [] q t n long stands used few all asked =
      let same : 0 + n ≡ n = omega arith in
      record {
        told_is = sym asked.0;
        stands = subst (λ (c : CacheState). Stands [] kept c w) (sym asked.1) stands;
        uses = ap (λ (c : CacheState). c.used_in_frame) asked.1 ∙ used ∙ sym (all ∙ ap (λ (k : ℕ). Some k) same);
      }
  later-asked [] kept s w p (b ∷ bs) q t n long stands used few all asked = absurd (cc)
  later-asked (e ∷ es) kept s w p [] q t n long stands used few all asked = absurd (cc)
  later-asked (e ∷ es) kept s w p (true ∷ bs) q t n long stands used few all asked =
      let front = kept ++ reverse es in
      let at = next e es kept s w stands in
      let same : asked.0 ≡ e = last-is e front s at.turning asked.0 asked.2 in
      let now = turned-stays front e s at.turning at.not_other in
      let within : n ≤ length front = omega (arith, length-append kept (reverse es), few) in
      let more : (turned s true).used_in_frame ≡ Some (suc n) =
      ap (λ (c : CacheState). c.used_in_frame) now ∙ ap (option_map (uses_with e.0 (front ++ e ∷ []))) used
      ∙ ap (λ (k : ℕ). Some k) (uses-more front e n at.not_other within) in
      let sum : suc (length es) + n ≡ length es + suc n = omega arith in
      let later = later-asked es (e ∷ kept) (turned s true) w asked.1 bs q t (suc n) (omega arith) (stays e es kept s w stands)
      more (omega arith) (all ∙ ap (λ (k : ℕ). Some k) sum) asked.4 in
      record {
        told_is = (asked.1, subst (λ (x : ℕ × Allocation). says p x.0 x.1.rectangle true asked.1) same asked.3, later.told_is);
        stands = later.stands;
        uses = later.uses;
      }
  later-asked (e ∷ es) kept s w p (false ∷ bs) q t n long stands used few all asked =
      let front = kept ++ reverse es in
      let at = next e es kept s w stands in
      let same : asked.0 ≡ e = last-is e front s at.turning asked.0 asked.2 in
      let now = turned-goes front e s at.turning in
      let gone = taken-out (reverse es) kept e w at.staying at.not_left in
      let within : n ≤ length front = omega (arith, length-append kept (reverse es), few) in
      let still : (turned s false).used_in_frame ≡ Some n =
      ap (λ (c : CacheState). c.used_in_frame) now ∙ ap (uses_left (length front)) used ∙ ap (λ (k : ℕ). Some k) (min-less n (length front) within) in
      let sum : suc (length es) + n ≡ suc (length es + n) = omega arith in
      let fewer : (without_key w e.0).used_in_frame ≡ Some (length es + n) =
      ap (λ (c : CacheState). c.used_in_frame) gone
      ∙ ap (option_map (uses_without e.0 (reverse es ++ e ∷ kept))) (all ∙ ap (λ (k : ℕ). Some k) sum)
      ∙ ap (λ (k : ℕ). Some k) (uses-here (reverse es) kept e (length es + n) at.not_left (omega (arith, length-reverse es))) in
      let later = later-asked es kept (turned s false) (without_key w e.0) asked.1 bs q t n (omega arith)
      (goes e es kept s w stands) still few fewer asked.4 in
      record {
        told_is = (asked.1, subst (λ (x : ℕ × Allocation). says p x.0 x.1.rectangle false asked.1) same asked.3, later.told_is);
        stands = later.stands;
        uses = later.uses;
      }

  -- None was asked.
  none-asked : (es kept : Entries) (s w : CacheState) (p : F) (bs : List Bool) (q : F) (t : CacheState)
      → length es ≡ 0 → length bs ≡ 0 → Stands es kept s w → s.used_in_frame ≡ w.used_in_frame → AsksInTurn says p s bs q t
      → Ended es kept w p bs q t
  none-asked [] kept s w p [] q t empty long stands used asked =
      record {
        told_is = sym asked.0;
        stands = subst (λ (c : CacheState). Stands [] kept c w) (sym asked.1) stands;
        uses = ap (λ (c : CacheState). c.used_in_frame) asked.1 ∙ used;
      }
  none-asked [] kept s w p (b ∷ bs) q t empty long stands used asked = absurd (cc)
  none-asked (e ∷ es) kept s w p bs q t empty long stands used asked = absurd (cc)

  -- answers one after another
  told-append : (bs cs : List Bool) (es fs : Entries) (p j q : F) → length bs ≡ length es → told p bs es j → told j cs fs q
      → told p (bs ++ cs) (es ++ fs) q
  told-append [] cs [] fs p j q long one two = subst (λ (x : F). told x cs fs q) (sym one) two
  told-append [] cs (e ∷ es) fs p j q long one two = absurd (cc)
  told-append (b ∷ bs) cs [] fs p j q long one two = absurd (cc)
  told-append (b ∷ bs) cs (e ∷ es) fs p j q long one two =
      (one.0, one.1, told-append bs cs es fs one.0 j q (omega arith) one.2 two)

refused-append : (bs cs : List Bool) (xs ys : List ℕ) → length bs ≡ length xs
    → refused_keys (bs ++ cs) (xs ++ ys) ≡ refused_keys bs xs ++ refused_keys cs ys
refused-append [] cs [] ys long = refl
refused-append [] cs (x ∷ xs) ys long = absurd (cc)
refused-append (b ∷ bs) cs [] ys long = absurd (cc)
refused-append (true ∷ bs) cs (x ∷ xs) ys long = refused-append bs cs xs ys (omega arith)
refused-append (false ∷ bs) cs (x ∷ xs) ys long = ap (λ l. x ∷ l) (refused-append bs cs xs ys (omega arith))

without_keys-append : (state : CacheState) (xs ys : List ℕ) → without_keys state (xs ++ ys) ≡ without_keys (without_keys state xs) ys
without_keys-append state [] ys = refl
without_keys-append state (x ∷ xs) ys = without_keys-append (without_key state x) xs ys

gathered-append : (bs cs : List Bool) (es fs kept : Entries) → length bs ≡ length es
    → gathered (bs ++ cs) (es ++ fs) kept ≡ gathered cs fs (gathered bs es kept)
gathered-append [] cs [] fs kept long = refl
gathered-append [] cs (e ∷ es) fs kept long = absurd (cc)
gathered-append (b ∷ bs) cs [] fs kept long = absurd (cc)
gathered-append (true ∷ bs) cs (e ∷ es) fs kept long = gathered-append bs cs es fs (e ∷ kept) (omega arith)
gathered-append (false ∷ bs) cs (e ∷ es) fs kept long = gathered-append bs cs es fs kept (omega arith)

cache-same : (s w : CacheState) → s.entries ≡ w.entries → s.capacity ≡ w.capacity → s.atlas ≡ w.atlas → s.used_in_frame ≡ w.used_in_frame → s ≡ w
cache-same s w one two three four =
    ap (λ (l : Entries). cache l s.capacity s.atlas s.used_in_frame) one
    ∙ ap (λ (n : ℕ). cache w.entries n s.atlas s.used_in_frame) two
    ∙ ap (λ (a : AtlasState). cache w.entries w.capacity a s.used_in_frame) three
    ∙ ap (cache w.entries w.capacity w.atlas) four

module _ {F : Type 0} (says : F → ℕ → Rectangle → Bool → F → Type 0) (old : CacheState)
    (once : (key : ℕ) → times key (keys_of old.entries) ≤ 1) (few : frame_uses old ≤ length old.entries) where
  abbrev back : Entries
  back = reverse old.entries

  abbrev earlier : ℕ
  earlier = length old.entries - frame_uses old

  start : Stands (take earlier back ++ drop earlier back) [] old old
  start =
      let whole = take-append-drop earlier back in
      let turned_back : old.entries ≡ reverse (take earlier back ++ drop earlier back) = sym (ap reverse whole ∙ reverse-twice old.entries) in
      record {
        turning = turned_back;
        staying = turned_back ∙ sym (append-nil (reverse (take earlier back ++ drop earlier back)));
        atlas = refl;
        capacity = refl;
        once = λ key. omega (arith, once key, ap (λ (l : Entries). times key (keys_of l)) whole, times-reverse key old.entries);
      }

  framed-ended : (p j : F) (mid : CacheState) (q : F) (new : CacheState) (kept : Entries) (w : CacheState) (framed : Bool) (bs : List Bool)
      → Stands (drop earlier back) kept mid w → w.used_in_frame ≡ old.used_in_frame
      → (old.used_in_frame ≡ None → mid.used_in_frame ≡ None) → framed ≡ is_some old.used_in_frame
      → length bs ≡ frame_uses old → AsksInTurn says j (cond framed (in_new_frame mid) mid) bs q new
      → Ended says (drop earlier back) kept w j bs q new
  framed-ended p j mid q new kept w framed bs stands uses none is counted asked = by_frame old.used_in_frame refl framed is asked
    where
      long : length (drop earlier back) ≡ frame_uses old
      long = omega (arith, length-drop earlier back, length-reverse old.entries, few)

      by_frame : (u : Option ℕ) → old.used_in_frame ≡ u → (b : Bool) → b ≡ is_some u → AsksInTurn says j (cond b (in_new_frame mid) mid) bs q new
          → Ended says (drop earlier back) kept w j bs q new
      by_frame None at false same asks =
          let none_used : frame_uses old ≡ 0 = ap uses_in at in
          none-asked says (drop earlier back) kept mid w j bs q new (omega (arith, long, none_used)) (omega (arith, counted, none_used)) stands
          (none at ∙ sym at ∙ sym uses) asks
      by_frame None at true same asks = absurd (cc)
      by_frame (Some n) at true same asks =
          let used : frame_uses old ≡ n = ap uses_in at in
          let begun : Stands (drop earlier back) kept (in_new_frame mid) w =
          record { turning = stands.turning; staying = stands.staying; atlas = stands.atlas; capacity = stands.capacity; once = stands.once } in
          later-asked says (drop earlier back) kept (in_new_frame mid) w j bs q new 0 (omega (arith, counted, long)) begun refl (omega arith)
          (uses ∙ at ∙ ap (λ (k : ℕ). Some k) (omega (arith, long, used))) asks
      by_frame (Some n) at false same asks = absurd (cc)

  pub retained-whole : (p j : F) (mid : CacheState) (q : F) (new : CacheState) (framed : Bool)
      → Asks says earlier p old j mid → framed ≡ is_some old.used_in_frame
      → Asks says (frame_uses old) j (cond framed (in_new_frame mid) mid) q new → Retains says p old new
  retained-whole p j mid q new framed first is second =
      let one = take earlier back in
      let two = drop earlier back in
      let whole : one ++ two ≡ back = take-append-drop earlier back in
      let short : length one ≡ earlier = omega (arith, length-take earlier back, length-reverse old.entries) in
      let rest : length two ≡ frame_uses old = omega (arith, length-drop earlier back, length-reverse old.entries, few) in
      let as_many : length first.answers ≡ length one = omega (arith, first.counted, short) in
      let before = earlier-asked says one two [] old old p first.answers j mid as_many start (omega (arith, rest)) first.asked in
      let middle = without_keys old (refused_keys first.answers (keys_of one)) in
      let after = framed-ended p j mid q new (gathered first.answers one []) middle framed second.answers before.stands before.uses before.none is
      second.counted second.asked in
      let answers = first.answers ++ second.answers in
      let refused = refused_keys first.answers (keys_of one) ++ refused_keys second.answers (keys_of two) in
      let kept = gathered second.answers two (gathered first.answers one []) in
      let keys : reverse (keys_of old.entries) ≡ keys_of one ++ keys_of two =
      reverse-map (λ (x : ℕ × Allocation). x.0) old.entries ∙ ap keys_of (sym whole) ∙ map-append (λ (x : ℕ × Allocation). x.0) one two in
      let each_key : length first.answers ≡ length (keys_of one) = as_many ∙ sym (length-map one (λ (x : ℕ × Allocation). x.0)) in
      let listed_back : reverse (listed old) ≡ map shown (one ++ two) = reverse-map shown old.entries ∙ ap (map shown) (sym whole) in
      let last = without_keys middle (refused_keys second.answers (keys_of two)) in
      let entries : new.entries ≡ kept = after.stands.turning ∙ append-nil kept in
      let same : new ≡ last =
      cache-same new last (entries ∙ sym after.stands.staying) after.stands.capacity after.stands.atlas after.uses in
      record {
        answers = answers;
        last = q;
        each = omega (arith, length-append first.answers second.answers, first.counted, second.counted, few);
        asked = subst (λ (l : List (ℕ × Rectangle)). ReturnsInTurn (λ x (entry : ℕ × Rectangle) answer y. says x entry.0 entry.1 answer y) p answers l q)
            (sym listed_back) (told-append says first.answers second.answers one two p j q as_many before.told_is after.told_is);
        left = same ∙ sym (without_keys-append old (refused_keys first.answers (keys_of one)) (refused_keys second.answers (keys_of two)))
            ∙ ap (without_keys old) (sym (ap (refused_keys answers) keys ∙ refused-append first.answers second.answers (keys_of one) (keys_of two) each_key));
        order = entries ∙ sym (gathered-append first.answers second.answers one two [] as_many) ∙ gathered-order answers (one ++ two) []
            ∙ append-nil (reverse (items_where_true answers (one ++ two))) ∙ ap (λ (l : Entries). reverse (items_where_true answers l)) whole;
      }

-- Keys that are asked one after another, as the code does.
module _ {F : Type 0} (says : F → ℕ → Rectangle → Bool → F → Type 0) where
  in-turn-append : (p q u : F) (s t v : CacheState) (bs cs : List Bool) → AsksInTurn says p s bs q t → AsksInTurn says q t cs u v
      → AsksInTurn says p s (bs ++ cs) u v
  in-turn-append p q u s t v [] cs one two =
      subst (λ (x : F). AsksInTurn says x s cs u v) one.0 (subst (λ (c : CacheState). AsksInTurn says q c cs u v) one.1 two)
  in-turn-append p q u s t v (b ∷ bs) cs one two =
      (one.0, one.1, one.2, one.3, in-turn-append one.1 q u (turned s b) t v bs cs one.4 two)

  -- none was asked
  pub asks-none : (p : F) (s : CacheState) → Asks says 0 p s p s
  asks-none p s = record { answers = []; counted = refl; asked = (refl, refl) }

  -- one more was asked
  pub asks-more : (n : ℕ) (p q u : F) (s t v : CacheState) → Asks says n p s q t → Asks says 1 q t u v → Asks says (n + 1) p s u v
  asks-more n p q u s t v one two =
      record {
        answers = one.answers ++ two.answers;
        counted = omega (arith, length-append one.answers two.answers, one.counted, two.counted);
        asked = in-turn-append p q u s t v one.answers two.answers one.asked two.asked;
      }

  -- what was asked last stays
  pub asked-stays : (p q : F) (s t : CacheState) (key : ℕ) (rectangle : Rectangle)
      → Some (key, rectangle) ≡ option_map shown (last_entry s.entries) → says p key rectangle true q → t ≡ used s key → Asks says 1 p s q t
  asked-stays p q s t key rectangle at called is = by_last (last_entry s.entries) refl at
    where
      by_last : (o : Option (ℕ × Allocation)) → last_entry s.entries ≡ o → Some (key, rectangle) ≡ option_map shown o → Asks says 1 p s q t
      by_last None last h = absurd (cc)
      by_last (Some e) last h =
          let pair : (key, rectangle) ≡ shown e = cc in
          let whose : key ≡ e.0 = ap (λ (x : ℕ × Rectangle). x.0) pair in
          record {
            answers = true ∷ [];
            counted = refl;
            asked = (
              e,
              q,
              last,
              subst (λ (x : ℕ × Rectangle). says p x.0 x.1 true q) pair called,
              (refl, is ∙ ap (used s) whose ∙ sym (ap (λ (o : Option (ℕ × Allocation)). option_map_or (λ (x : ℕ × Allocation). used s x.0) o s) last)),
            );
          }

  -- or goes
  pub asked-goes : (p q : F) (s t : CacheState) (key : ℕ) (rectangle : Rectangle)
      → Some (key, rectangle) ≡ option_map shown (last_entry s.entries) → says p key rectangle false q → t ≡ without_last s → Asks says 1 p s q t
  asked-goes p q s t key rectangle at called is = by_last (last_entry s.entries) refl at
    where
      by_last : (o : Option (ℕ × Allocation)) → last_entry s.entries ≡ o → Some (key, rectangle) ≡ option_map shown o → Asks says 1 p s q t
      by_last None last h = absurd (cc)
      by_last (Some e) last h =
          let pair : (key, rectangle) ≡ shown e = cc in
          record {
            answers = false ∷ [];
            counted = refl;
            asked = (e, q, last, subst (λ (x : ℕ × Rectangle). says p x.0 x.1 false q) pair called, (refl, is));
          }

  -- each answer takes one key out at most
  asked-left : (p q : F) (s t : CacheState) (bs : List Bool) → AsksInTurn says p s bs q t → length s.entries ≤ length t.entries + length bs
  asked-left p q s t [] asked = let same = ap (λ (c : CacheState). length c.entries) asked.1 in omega arith
  asked-left p q s t (b ∷ bs) asked =
      let here = turned-length s b in
      let later = asked-left asked.1 q (turned s b) t bs asked.4 in
      omega arith

  pub asks-left : (n : ℕ) (p q : F) (s t : CacheState) → Asks says n p s q t → length s.entries ≤ length t.entries + n
  asks-left n p q s t asks = omega (arith, asked-left p q s t asks.answers asks.asked, asks.counted)

-- a frame that begins takes no key out
pub framed-length : (framed : Bool) (s : CacheState) → length (cond framed (in_new_frame s) s).entries ≡ length s.entries
framed-length true s = refl
framed-length false s = refl
