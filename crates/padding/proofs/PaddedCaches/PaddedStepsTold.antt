-- A call changes what a cache with a padding lists just as its reply tells.
use Rattle.std.proofs.Common.{◌≡◌, ℕ, ◌-◌, ℤ, pos, ◌+ℤ◌, ◌-ℤ◌, Option, Some, None, List, [], ◌∷◌, inl, inr, length, map, take, reverse, refl, ap, sym, ◌∙◌, arith}
use Rattle.std.proofs.lemmas.Int.{ints}
use Rattle.std.proofs.lemmas.List.{length-map, length-reverse, length-take, take-map, take_all}
use Rattle.std.specs.List.{filter}
use Rattle.std.specs.Map.{keys_of, lookup, remove_entry}
use Rattle.std.specs.NonZero.{non_zero_usize_get}
use Rattle.std.specs.Prelude.{nat_eq, not, option_map}
use Rattle.etagere_base.specs.declared.geometry.Rectangle.{Rectangle}
use Rattle.etagere_base.specs.declared.geometry.Size.{Size}
use Rattle.etagere_base.specs.declared.ids.Allocation.{Allocation}
use Rattle.padding.specs.declared.sides.Padding.{Padding}
use Rattle.padding.specs.Padding.{padded, trimmed, with_padding}
use Rattle.glyph_shelf.specs.Cache.{CacheState, after_dropping, with_rectangles, without_key}
use Rattle.glyph_shelf.specs.Placing.{IsLeft}
use Rattle.glyph_shelf.specs.Sizing.{surplus, surplus_keys}
use Rattle.glyph_shelf.specs.declared.faults.GlyphFault.{GlyphFault}
use Rattle.glyph_shelf.specs.declared.faults.GlyphFault.TheVariants.{TooLarge, Memory, FrameFull}
use Rattle.glyph_shelf.specs.declared.cache.Placed.{Placed}
use Rattle.glyph_shelf.proofs.Callers.{entries-after_dropping}
use Rattle.glyph_shelf.proofs.UsedKeys.Entries.{removed-unknown}
use Rattle.padding.specs.Caches.Padded.{PaddedCacheState, trimmed_entry, trimmed_list}
use Rattle.glyph_shelf.specs.Dropping.{is_one_of}
use Rattle.padding.specs.declared.caches.runs.calls.PaddedCall.{PaddedCall}
use Rattle.padding.specs.declared.caches.runs.calls.PaddedCall.TheVariants.{Place, Get, Remove, Retain, BeginFrame, Grow, SetCapacity, Clear}
use Rattle.padding.specs.declared.caches.runs.calls.PaddedReply.{PaddedReply}
use Rattle.padding.specs.declared.caches.runs.calls.PaddedReply.TheVariants as reply
use Rattle.padding.specs.Caches.Runs.{MayAnswer, PlacesAgain, PlacesNew, Told, told_after, without_last}
use Rattle.glyph_shelf.proofs.Shown.{kept-shown, promoted-shown, removed-shown, shown, used-first}

abbrev Entries : Type 0
Entries = List (ℕ × Allocation)

-- the rectangle of an allocation, without its padding
abbrev seen : Padding → Allocation → Rectangle
seen padding allocation = trimmed padding allocation.rectangle

-- keys with these
abbrev told_of : Padding → Entries → Told
told_of padding entries = map (shown (seen padding)) entries

told-listed : (padding : Padding) (entries : Entries) → map (trimmed_entry padding) (with_rectangles entries) ≡ told_of padding entries
told-listed padding [] = refl
told-listed padding (e ∷ entries) = ap (λ (l : Told). shown (seen padding) e ∷ l) (told-listed padding entries)

-- what was given trimmed is trimmed of what has the padding
there-back : (place : ℤ) (pixels : ℕ) → (place -ℤ pos pixels) +ℤ pos pixels ≡ place
there-back place pixels = omega (arith, ints)

back-there : (place : ℤ) (pixels : ℕ) → (place +ℤ pos pixels) -ℤ pos pixels ≡ place
back-there place pixels = omega (arith, ints)

given-back : (padding : Padding) (rectangle : Rectangle) → trimmed padding (with_padding padding rectangle) ≡ rectangle
given-back padding rectangle =
    rw (there-back rectangle.min.x padding.left, there-back rectangle.min.y padding.top, back-there rectangle.max.x padding.right, back-there rectangle.max.y padding.bottom) refl

-- the keys that are left where so many went
told-dropped : (padding : Padding) (cache : CacheState) (n : ℕ)
    → told_of padding (after_dropping cache n).entries ≡ without_last n (told_of padding cache.entries)
told-dropped padding cache n =
    let k : ℕ = length cache.entries - n in
    ap (told_of padding) (entries-after_dropping cache n)
    ∙ sym (take-map (shown (seen padding)) k cache.entries)
    ∙ ap (λ (m : ℕ). take (m - n) (told_of padding cache.entries)) (sym (length-map cache.entries (shown (seen padding))))

-- a cache has these entries, round which the padding is the same
told-entries : (old new : PaddedCacheState) (entries : Entries) → new.padding ≡ old.padding → new.cache.entries ≡ entries
    → told_of new.padding new.cache.entries ≡ told_of old.padding entries
told-entries old new entries same is = ap (λ (p : Padding). told_of p new.cache.entries) same ∙ ap (told_of old.padding) is

told-again : (old new : PaddedCacheState) (key : ℕ) (placed : Placed) → PlacesAgain old key placed new
    → told_of new.padding new.cache.entries
    ≡ (key, placed.rectangle) ∷ without_last (length placed.evicted.items) (remove_entry (nat_eq key) (told_of old.padding old.cache.entries))
told-again old new key placed again = by_found (lookup (nat_eq key) old.cache.entries) refl again.there
  where
    padding : Padding
    padding = old.padding

    others : Told
    others = remove_entry (nat_eq key) (told_of padding old.cache.entries)

    by_found : (o : Option Allocation) → lookup (nat_eq key) old.cache.entries ≡ o
        → option_map (trimmed padding) (option_map (λ (a : Allocation). a.rectangle) o) ≡ Some placed.rectangle
        → told_of new.padding new.cache.entries ≡ (key, placed.rectangle) ∷ without_last (length placed.evicted.items) others
    by_found None at h = absurd (cc)
    by_found (Some a) at h =
        let same : trimmed padding a.rectangle ≡ placed.rectangle = cc in
        ap (λ (s : PaddedCacheState). told_of s.padding s.cache.entries) again.after
        ∙ ap (told_of padding) (used-first key old.cache.entries a at)
        ∙ ap (λ (l : Told). let m : Told = (key, trimmed padding a.rectangle) ∷ l in m) (removed-shown (seen padding) (nat_eq key) old.cache.entries)
        ∙ ap (λ (r : Rectangle). let m : Told = (key, r) ∷ others in m) same
        ∙ ap (λ (l : Told). let m : Told = (key, placed.rectangle) ∷ l in m) (sym (take_all (length others - 0) others (omega arith)))
        ∙ ap (λ (l : List ℕ). let m : Told = (key, placed.rectangle) ∷ without_last (length l) others in m) (sym again.none)

told-new : (old new : PaddedCacheState) (key : ℕ) (size : Size) (placed : Placed) → PlacesNew old key size placed new
    → told_of new.padding new.cache.entries
    ≡ (key, placed.rectangle) ∷ without_last (length placed.evicted.items) (remove_entry (nat_eq key) (told_of old.padding old.cache.entries))
told-new old new key size placed first =
    let padding : Padding = old.padding in
    let n : ℕ = length placed.evicted.items in
    let entered = first.places.places.entered in
    let a : Allocation = entered.allocation in
    let same : trimmed padding a.rectangle ≡ placed.rectangle = ap (trimmed padding) entered.given ∙ given-back padding placed.rectangle in
    let unknown : remove_entry (nat_eq key) (told_of padding old.cache.entries) ≡ told_of padding old.cache.entries =
    sym (removed-shown (seen padding) (nat_eq key) old.cache.entries) ∙ ap (told_of padding) (removed-unknown (nat_eq key) old.cache.entries first.is_new) in
    told-entries old new ((key, a) ∷ (after_dropping old.cache n).entries) first.places.padding entered.entries
    ∙ ap (λ (r : Rectangle). let m : Told = (key, r) ∷ told_of padding (after_dropping old.cache n).entries in m) same
    ∙ ap (λ (l : Told). let m : Told = (key, placed.rectangle) ∷ l in m) (told-dropped padding old.cache n ∙ ap (without_last n) (sym unknown))

abbrev without_evicted : GlyphFault → Told → Told
without_evicted fault told = told_after Clear (reply.Refused fault) told

told-fault : (old new : PaddedCacheState) (size : Size) (fault : GlyphFault) → new.padding ≡ old.padding → IsLeft old.cache size fault new.cache
    → told_of new.padding new.cache.entries ≡ without_evicted fault (told_of old.padding old.cache.entries)
told-fault old new size TooLarge same left = told-entries old new old.cache.entries same (ap (λ (c : CacheState). c.entries) left)
told-fault old new size (Memory evicted) same left =
    let n : ℕ = length evicted.items in
    told-entries old new (after_dropping old.cache n).entries same left.rest.entries ∙ told-dropped old.padding old.cache n
told-fault old new size FrameFull same left = told-entries old new old.cache.entries same (ap (λ (c : CacheState). c.entries) left)

told-capacity : (old : PaddedCacheState) (most : ℕ) (evicted : List ℕ) → evicted ≡ surplus_keys old.cache most
    → told_of old.padding (after_dropping old.cache (surplus old.cache most)).entries ≡ without_last (length evicted) (told_of old.padding old.cache.entries)
told-capacity old most evicted out =
    let n : ℕ = surplus old.cache most in
    let es = old.cache.entries in
    let counted : length evicted ≡ n =
    omega (arith, ap length out, length-take n (reverse (keys_of es)), length-reverse (keys_of es), length-map es (λ (e : ℕ × Allocation). e.0)) in
    told-dropped old.padding old.cache n ∙ ap (λ (k : ℕ). without_last k (told_of old.padding es)) (sym counted)

told-removed : (padding : Padding) (cache : CacheState) (key : ℕ) (rectangle : Rectangle)
    → option_map (trimmed padding) (option_map (λ (a : Allocation). a.rectangle) (lookup (nat_eq key) cache.entries)) ≡ Some rectangle
    → (without_key cache key).entries ≡ remove_entry (nat_eq key) cache.entries
told-removed padding cache key rectangle there = by_found (lookup (nat_eq key) cache.entries) refl there
  where
    by_found : (o : Option Allocation) → lookup (nat_eq key) cache.entries ≡ o
        → option_map (trimmed padding) (option_map (λ (a : Allocation). a.rectangle) o) ≡ Some rectangle
        → (without_key cache key).entries ≡ remove_entry (nat_eq key) cache.entries
    by_found None at h = absurd (cc)
    by_found (Some a) at h = rw at refl

-- from what is told to what is there
seen-step : (old new : PaddedCacheState) (call : PaddedCall) (answer : PaddedReply) → MayAnswer old call answer new
    → told_of new.padding new.cache.entries ≡ told_after call answer (told_of old.padding old.cache.entries)
seen-step old new (Place key size) (reply.Placed placed) (inl again) = told-again old new key placed again
seen-step old new (Place key size) (reply.Placed placed) (inr first) = told-new old new key size placed first
seen-step old new (Place key size) (reply.Refused TooLarge) may = told-fault old new (padded old.padding size) TooLarge may.padding may.left
seen-step old new (Place key size) (reply.Refused (Memory evicted)) may = told-fault old new (padded old.padding size) (Memory evicted) may.padding may.left
seen-step old new (Place key size) (reply.Refused FrameFull) may = told-fault old new (padded old.padding size) FrameFull may.padding may.left
seen-step old new (Get key) (reply.At rectangle) (there, after) =
    ap (λ (s : PaddedCacheState). told_of s.padding s.cache.entries) after ∙ promoted-shown (seen old.padding) (nat_eq key) old.cache.entries
seen-step old new (Get key) reply.NotThere (is_new, same) = ap (λ (s : PaddedCacheState). told_of s.padding s.cache.entries) same
seen-step old new (Remove key) (reply.Removed rectangle) (there, after) =
    ap (λ (s : PaddedCacheState). told_of s.padding s.cache.entries) after
    ∙ ap (told_of old.padding) (told-removed old.padding old.cache key rectangle there)
    ∙ removed-shown (seen old.padding) (nat_eq key) old.cache.entries
seen-step old new (Remove key) reply.NotThere (is_new, same) = ap (λ (s : PaddedCacheState). told_of s.padding s.cache.entries) same
seen-step old new (Retain gone) reply.Retained (drops, same) =
    told-entries old new (filter (λ (e : ℕ × Allocation). not (is_one_of nat_eq gone.items e.0)) old.cache.entries) same drops.order
    ∙ kept-shown (seen old.padding) (λ key. not (is_one_of nat_eq gone.items key)) old.cache.entries
seen-step old new BeginFrame reply.Begun after = ap (λ (s : PaddedCacheState). told_of s.padding s.cache.entries) after
seen-step old new (Grow size) reply.Grown (none, after) = ap (λ (s : PaddedCacheState). told_of s.padding s.cache.entries) after
seen-step old new (Grow size) (reply.NotGrown fault) (is_fault, same) = ap (λ (s : PaddedCacheState). told_of s.padding s.cache.entries) same
seen-step old new (SetCapacity capacity) (reply.Evicted evicted) (out, after) =
    ap (λ (s : PaddedCacheState). told_of s.padding s.cache.entries) after ∙ told-capacity old (non_zero_usize_get capacity) evicted.items out
seen-step old new (SetCapacity capacity) reply.NoMemory (more, same) = ap (λ (s : PaddedCacheState). told_of s.padding s.cache.entries) same
seen-step old new Clear reply.Cleared after = ap (λ (s : PaddedCacheState). told_of s.padding s.cache.entries) after
seen-step old new call answer never = absurd never

pub told-step : (old new : PaddedCacheState) (call : PaddedCall) (answer : PaddedReply) → MayAnswer old call answer new
    → trimmed_list new ≡ told_after call answer (trimmed_list old)
told-step old new call answer may =
    told-listed new.padding new.cache.entries
    ∙ seen-step old new call answer may
    ∙ ap (told_after call answer) (sym (told-listed old.padding old.cache.entries))
