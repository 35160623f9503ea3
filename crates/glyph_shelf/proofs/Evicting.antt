-- Evictions: what has gone after some of them, that there is room in the end, and what a placement made of them.
use Rattle.std.proofs.Common.{◌≡◌, ℕ, zero, suc, ◌-◌, ◌<◌, ◌≤◌, Bool, true, false, Option, Some, None, List, [], ◌∷◌, ◌++◌, append_assoc, length, take, reverse, refl, ap, sym, ◌∙◌, subst, arith}
use Rattle.std.specs.Map.{keys_of, lookup, values_of}
use Rattle.std.specs.Option.{option_map_or}
use Rattle.std.specs.Prelude.{is_some, nat_eq, nat_lt, option_map}
use Rattle.std.proofs.lemmas.Bool.Decides.{nat_tests}
use Rattle.std.proofs.lemmas.List.{length-append, map-append, reverse-append}
use Rattle.std.proofs.Math.Seq.{take-append_seam}
use Rattle.lru.specs.LruCache.{last_entry}
use Rattle.glyph_shelf.specs.UsedKeys.Keys.{uses_left}
use Rattle.shelf_model.proofs.Callers.{tied-empty}
use Rattle.shelf_model.specs.Callers.{AreTied}
use Rattle.shelf_model.specs.Choice.{placement_of}
use Rattle.shelf_model.specs.Fresh.{fresh, without_peak_items}
use Rattle.shelf_model.specs.Places.{allocations}
use Rattle.shelf_model.specs.Returning.{returned}
use Rattle.shelf_model.specs.State.{AtlasState}
use Rattle.etagere_base.specs.declared.frames.Frame.{Frame}
use Rattle.etagere_base.specs.declared.geometry.Rectangle.{Rectangle}
use Rattle.etagere_base.specs.declared.geometry.Size.{Size}
use Rattle.etagere_base.specs.declared.ids.Allocation.{Allocation}
use Rattle.glyph_shelf.specs.Cache.{CacheState, after_dropping, dropped_keys, evictable, without_last}
use Rattle.glyph_shelf.specs.Placing.{Enters, IsEvictionCount, MakesRoom, Places, RanOut, SameLayout, has_room}
use Rattle.glyph_shelf.specs.Promises.{KeepsCachePromises}
use Rattle.glyph_shelf.proofs.Callers.{frame-after_dropping, frame-without_last, length-after_dropping, length-without_last}
use Rattle.glyph_shelf.proofs.UsedKeys.Entries.{last-none, last-split, unknown-take}
use Rattle.glyph_shelf.proofs.Keeping.{keeps-without_last}

-- an empty atlas of the frame has a place for the size
abbrev pub Fits : Frame → Size → Type 0
Fits frame size = is_some (placement_of (fresh frame) size) ≡ true

-- these keys were dropped from a cache, the least recently used first, and this is left
pub record HasDropped (old : CacheState) (dropped : List ℕ) (left : CacheState) : Type 0 where
  pub gone : List (ℕ × Allocation)
  pub parts : old.entries ≡ left.entries ++ gone
  pub keys : dropped ≡ reverse (keys_of gone)
  pub after : left ≡ after_dropping old (length dropped)

-- these keys were evicted of a cache, and this is left: there was no room for the size before
pub record HasEvicted (old : CacheState) (size : Size) (evicted : List ℕ) (left : CacheState) : Type 0 where
  pub drops : HasDropped old evicted left
  pub none : (fewer : ℕ) → fewer < length evicted → has_room (after_dropping old fewer) size ≡ false

-- places don't depend on the count of records
placement-unused : (state other : AtlasState) (size : Size) → without_peak_items state ≡ without_peak_items other
    → placement_of state size ≡ placement_of other size
placement-unused state other size same = ap (λ (s : AtlasState). placement_of s size) same

-- where nothing is kept there is room for what fits
has_room-nothing : (state : CacheState) (size : Size) → KeepsCachePromises state → state.entries ≡ []
    → Fits state.atlas.frame size → has_room state size ≡ true
has_room-nothing state size promises nothing fits =
    let tied = subst (λ (l : List (ℕ × Allocation)). AreTied (values_of l) (allocations state.atlas)) nothing promises.tied in
    let new = promises.atlas.empty (tied-empty (allocations state.atlas) tied) in
    let has = ap is_some (placement-unused state.atlas (fresh state.atlas.frame) size new) ∙ fits in
    let room = promises.capacity in
    let short : nat_lt (length state.entries) state.capacity ≡ true = rw nothing (grind (arith, nat_tests)) in
    rw (short, has) refl

-- a cache without the entry that stands last
pub without_last-some : (state : CacheState) (e : ℕ × Allocation) → last_entry state.entries ≡ Some e
    → without_last state ≡ record { entries = take (length state.entries - 1) state.entries; capacity = state.capacity; atlas = returned state.atlas e.1.id; used_in_frame = uses_left (length state.entries - 1) state.used_in_frame }
without_last-some state e last =
    ap (λ (o : Option (ℕ × Allocation)). option_map_or (λ entry. record { entries = take (length state.entries - 1) state.entries; capacity = state.capacity; atlas = returned state.atlas entry.1.id; used_in_frame = uses_left (length state.entries - 1) state.used_in_frame }) o state) last

-- what stays in a cache without its last entry
parts-without_last : (state : CacheState) (e : ℕ × Allocation) → last_entry state.entries ≡ Some e
    → state.entries ≡ (without_last state).entries ++ e ∷ []
parts-without_last state e last =
    last-split state.entries e last ∙ ap (λ (s : CacheState). s.entries ++ e ∷ []) (sym (without_last-some state e last))

-- the keys that have gone stand first in the other order
pub dropped-gone : (old : CacheState) (evicted : List ℕ) (left : CacheState) → HasDropped old evicted left
    → evicted ≡ dropped_keys old (length evicted)
dropped-gone old evicted left has =
    let order : reverse (keys_of old.entries) ≡ evicted ++ reverse (keys_of left.entries) =
    ap (λ l. reverse (keys_of l)) has.parts
    ∙ ap reverse (map-append (λ (e : ℕ × Allocation). e.0) left.entries has.gone)
    ∙ reverse-append (keys_of left.entries) (keys_of has.gone)
    ∙ ap (λ l. l ++ reverse (keys_of left.entries)) (sym has.keys) in
    sym (ap (take (length evicted)) order ∙ take-append_seam evicted (reverse (keys_of left.entries)))

-- a number below the next one is below, or is this one
pub below_next : (P : ℕ → Type 0) (n : ℕ) → ((k : ℕ) → k < n → P k) → P n → (k : ℕ) → k < suc n → P k
below_next P n below here k lt = elim (nat_lt k n) as (λ b. nat_lt k n ≡ b → P k) [
  | true ↦ λ is. below k (grind (arith, nat_tests))
  | false ↦ λ is. let same : n ≡ k = grind (arith, nat_tests) in subst P same here
] refl

-- one more goes
pub dropped-more : (old : CacheState) (keys : List ℕ) (left : CacheState) (e : ℕ × Allocation)
    → HasDropped old keys left → last_entry left.entries ≡ Some e → HasDropped old (keys ++ e.0 ∷ []) (without_last left)
dropped-more old keys left e has last =
    let longer : length (keys ++ e.0 ∷ []) ≡ suc (length keys) = omega (arith, length-append keys (e.0 ∷ [])) in
    record {
      gone = e ∷ has.gone;
      parts = has.parts ∙ ap (λ l. l ++ has.gone) (parts-without_last left e last)
          ∙ append_assoc (without_last left).entries (e ∷ []) has.gone;
      keys = ap (λ l. l ++ e.0 ∷ []) has.keys ∙ sym (reverse-append (e.0 ∷ []) (keys_of has.gone));
      after = ap without_last has.after ∙ ap (after_dropping old) (sym longer);
    }

evicted-more : (old : CacheState) (size : Size) (evicted : List ℕ) (left : CacheState) (e : ℕ × Allocation)
    → HasEvicted old size evicted left → has_room left size ≡ false → last_entry left.entries ≡ Some e
    → HasEvicted old size (evicted ++ e.0 ∷ []) (without_last left)
evicted-more old size evicted left e has full last =
    let longer : length (evicted ++ e.0 ∷ []) ≡ suc (length evicted) = omega (arith, length-append evicted (e.0 ∷ [])) in
    record {
      drops = dropped-more old evicted left e has.drops last;
      none = rw longer (below_next (λ n. has_room (after_dropping old n) size ≡ false) (length evicted) has.none
          (ap (λ (s : CacheState). has_room s size) (sym has.drops.after) ∙ full));
    }

-- where there is room, so many were the evictions
evictions-made : (old : CacheState) (size : Size) (evicted : List ℕ) (left : CacheState)
    → HasEvicted old size evicted left → has_room left size ≡ true → IsEvictionCount old size (length evicted)
evictions-made old size evicted left has room =
    record {
      room = ap (λ (s : CacheState). has_room s size) (sym has.drops.after) ∙ room;
      least = has.none;
    }

-- a key that enters then was placed
pub evicted-places : (old : CacheState) (key : ℕ) (size : Size) (evicted : List ℕ) (left : CacheState) (rectangle : Rectangle) (new : CacheState)
    → HasEvicted old size evicted left → has_room left size ≡ true → Enters left key size rectangle new
    → Places old key size rectangle evicted new
evicted-places old key size evicted left rectangle new has room enters =
    record {
      least = evictions-made old size evicted left has room;
      listed = dropped-gone old evicted left has.drops;
      entered = subst (λ (s : CacheState). Enters s key size rectangle new) has.drops.after enters;
    }

-- the least number of evictions is no more than makes room
least-few : (old : CacheState) (size : Size) (count most : ℕ) → IsEvictionCount old size count → MakesRoom old size most → count ≤ most
least-few old size count most least makes = elim (nat_lt makes.count count) as (λ b. nat_lt makes.count count ≡ b → count ≤ most) [
  | true ↦ λ is. let none = least.least makes.count (grind (arith, nat_tests)) in let room = makes.room in absurd (cc)
  | false ↦ λ is. let few = makes.few in grind (arith, nat_tests)
] refl

-- where memory runs out then
pub evicted-ran_out : (old : CacheState) (size : Size) (evicted : List ℕ) (left new : CacheState) → MakesRoom old size (evictable old)
    → HasEvicted old size evicted left → has_room left size ≡ true → SameLayout left new → RanOut old size evicted new
evicted-ran_out old size evicted left new makes has room same =
    record {
      evictions = length evicted;
      least = evictions-made old size evicted left has room;
      few = omega arith;
      needed = λ some. least-few old size (length evicted) (evictable old) (evictions-made old size evicted left has room) makes;
      listed = dropped-gone old evicted left has.drops;
      rest = subst (λ (s : CacheState). SameLayout s new) has.drops.after same;
    }

-- the least number that passes, of those up to one that does
least-passing : (test : ℕ → Bool) (n : ℕ) → test n ≡ true
    → (m : ℕ) × (test m ≡ true) × ((k : ℕ) → k < m → test k ≡ false)
least-passing test zero passes = (0, passes, λ k lt. absurd (omega arith))
least-passing test (suc n) passes = by_first (test 0) refl (least-passing (λ k. test (suc k)) n passes)
  where
    after_first : test 0 ≡ false → (m : ℕ) → ((k : ℕ) → k < m → test (suc k) ≡ false) → (k : ℕ) → k < suc m → test k ≡ false
    after_first fails m below zero lt = fails
    after_first fails m below (suc k) lt = below k (omega arith)

    by_first : (b : Bool) → test 0 ≡ b
        → (m : ℕ) × (test (suc m) ≡ true) × ((k : ℕ) → k < m → test (suc k) ≡ false)
        → (m : ℕ) × (test m ≡ true) × ((k : ℕ) → k < m → test k ≡ false)
    by_first true is later = (0, is, λ k lt. absurd (omega arith))
    by_first false is later = (suc later.0, later.1, after_first is later.0 later.2)

-- dropping keeps the promises
pub keeps-after_dropping : (state : CacheState) (n : ℕ) → KeepsCachePromises state → KeepsCachePromises (after_dropping state n)
keeps-after_dropping state zero promises = promises
keeps-after_dropping state (suc n) promises = keeps-without_last (after_dropping state n) (keeps-after_dropping state n promises)

-- a list of no length
nothing_long : (es : List (ℕ × Allocation)) → length es ≡ 0 → es ≡ []
nothing_long [] none = refl
nothing_long (e ∷ es) none = absurd (omega arith)

-- where all go, there is room for what fits
pub all-make_room : (state : CacheState) (size : Size) → KeepsCachePromises state → Fits state.atlas.frame size
    → has_room (after_dropping state (length state.entries)) size ≡ true
all-make_room state size promises fits =
    let all = after_dropping state (length state.entries) in
    let nothing : all.entries ≡ [] = nothing_long all.entries (omega (arith, length-after_dropping state (length state.entries))) in
    has_room-nothing all size (keeps-after_dropping state (length state.entries) promises) nothing
    (ap (λ (frame : Frame). is_some (placement_of (fresh frame) size)) (frame-after_dropping state (length state.entries)) ∙ fits)

-- what fits has its evictions
evictions-exist : (state : CacheState) (size : Size) → KeepsCachePromises state → Fits state.atlas.frame size
    → (n : ℕ) × IsEvictionCount state size n
evictions-exist state size promises fits =
    let room = all-make_room state size promises fits in
    let found = least-passing (λ n. has_room (after_dropping state n) size) (length state.entries) room in
    (found.0, record { room = found.1; least = found.2 })

-- where memory runs out before the first eviction
pub ran_out-first : (state : CacheState) (size : Size) → KeepsCachePromises state → Fits state.atlas.frame size
    → RanOut state size [] state
ran_out-first state size promises fits =
    let found = evictions-exist state size promises fits in
    record {
      evictions = found.0;
      least = found.1;
      few = omega arith;
      needed = λ some. absurd (omega arith);
      listed = refl;
      rest = record { entries = refl; capacity = refl; uses = refl; layout = refl };
    }

-- where memory runs out while there is no room yet
pub evicted-stopped : (old : CacheState) (size : Size) (evicted : List ℕ) (left : CacheState) → KeepsCachePromises old
    → Fits old.atlas.frame size → MakesRoom old size (evictable old) → HasEvicted old size evicted left → RanOut old size evicted left
evicted-stopped old size evicted left promises fits makes has =
    let found = evictions-exist old size promises fits in
    record {
      evictions = found.0;
      least = found.1;
      few = not_fewer found.0 found.1.room;
      needed = λ some. least-few old size found.0 (evictable old) found.1 makes;
      listed = dropped-gone old evicted left has.drops;
      rest = subst (λ (s : CacheState). SameLayout s left) has.drops.after (record { entries = refl; capacity = refl; uses = refl; layout = refl });
    }
  where
    not_fewer : (n : ℕ) → has_room (after_dropping old n) size ≡ true → length evicted ≤ n
    not_fewer n room = elim (nat_lt n (length evicted)) as (λ b. nat_lt n (length evicted) ≡ b → length evicted ≤ n) [
      | true ↦ λ is. let none = has.none n (grind (arith, nat_tests)) in absurd (cc)
      | false ↦ λ is. grind (arith, nat_tests)
    ] refl

-- in the course of evictions for a new key: what has gone, and what is kept on the way
pub record IsEvicting (old : CacheState) (key : ℕ) (size : Size) (evicted : List ℕ) (left : CacheState)
    : Type 0 where
  pub before : KeepsCachePromises old
  pub has : HasEvicted old size evicted left
  pub promises : KeepsCachePromises left
  pub frame : left.atlas.frame ≡ old.atlas.frame
  pub new : lookup (nat_eq key) left.entries ≡ None
  pub fits : Fits old.atlas.frame size

-- a key that isn't there isn't there without the last entry
pub unknown-without_last : (state : CacheState) (key : ℕ) → lookup (nat_eq key) state.entries ≡ None
    → lookup (nat_eq key) (without_last state).entries ≡ None
unknown-without_last state key unknown = by_last (last_entry state.entries)
  where
    by_last : (o : Option (ℕ × Allocation))
        → lookup (nat_eq key) (option_map_or (λ entry. record { entries = take (length state.entries - 1) state.entries; capacity = state.capacity; atlas = returned state.atlas entry.1.id; used_in_frame = uses_left (length state.entries - 1) state.used_in_frame }) o state).entries ≡ None
    by_last None = unknown
    by_last (Some e) = unknown-take (nat_eq key) (length state.entries - 1) state.entries unknown

-- an entry stands last where its key does
pub entry_of : (dropped : ℕ) (o : Option (ℕ × Allocation)) → Some dropped ≡ option_map (λ e. e.0) o
    → (e : ℕ × Allocation) × (o ≡ Some e) × (e.0 ≡ dropped)
entry_of dropped None h = absurd (cc)
entry_of dropped (Some e) h = (e, refl, cc)

-- where an entry stands last, there is one
pub some_last : (es : List (ℕ × Allocation)) (e : ℕ × Allocation) → last_entry es ≡ Some e → 1 ≤ length es
some_last [] e last = absurd (cc)
some_last (f ∷ es) e last = omega arith

evicting-more : (old : CacheState) (key : ℕ) (size : Size) (evicted : List ℕ) (left : CacheState) (dropped : ℕ)
    → IsEvicting old key size evicted left → has_room left size ≡ false
    → Some dropped ≡ option_map (λ e. e.0) (last_entry left.entries)
    → IsEvicting old key size (evicted ++ dropped ∷ []) (without_last left)
evicting-more old key size evicted left dropped is full at =
    let e = entry_of dropped (last_entry left.entries) at in
    record {
      before = is.before;
      has = subst (λ (k : ℕ). HasEvicted old size (evicted ++ k ∷ []) (without_last left)) e.2
          (evicted-more old size evicted left e.0 is.has full e.1);
      promises = keeps-without_last left is.promises;
      frame = frame-without_last left ∙ is.frame;
      new = unknown-without_last left key is.new;
      fits = is.fits;
    }

-- the same, of what it became
pub evicting-step : (old : CacheState) (key : ℕ) (size : Size) {evicted longer : List ℕ} {left new : CacheState} {dropped : ℕ}
    → IsEvicting old key size evicted left → has_room left size ≡ false
    → Some dropped ≡ option_map (λ e. e.0) (last_entry left.entries)
    → longer ≡ evicted ++ dropped ∷ [] → new ≡ without_last left → IsEvicting old key size longer new
evicting-step old key size {evicted} {longer} {left} {new} {dropped} is full at listed after =
    subst (λ (l : List ℕ). IsEvicting old key size l new) (sym listed)
    (subst (λ (s : CacheState). IsEvicting old key size (evicted ++ dropped ∷ []) s) (sym after)
    (evicting-more old key size evicted left dropped is full at))

-- where memory runs out for the list of what has gone
pub evicting-stopped : (old : CacheState) (key : ℕ) (size : Size) (evicted : List ℕ) (left : CacheState)
    → MakesRoom old size (evictable old) → IsEvicting old key size evicted left → RanOut old size evicted left
evicting-stopped old key size evicted left makes is = evicted-stopped old size evicted left is.before is.fits makes is.has

-- one entry less is left
pub evicting-shorter : (left new : CacheState) (dropped : ℕ) → Some dropped ≡ option_map (λ e. e.0) (last_entry left.entries)
    → new ≡ without_last left → length new.entries < length left.entries
evicting-shorter left new dropped at after =
    let e = entry_of dropped (last_entry left.entries) at in
    let some = some_last left.entries e.0 e.1 in
    let same : length new.entries ≡ length (without_last left).entries = ap (λ (s : CacheState). length s.entries) after in
    omega (arith, length-without_last left)

-- evictions don't end without room
pub evicting-some : (old : CacheState) (key : ℕ) (size : Size) (evicted : List ℕ) (left : CacheState)
    → IsEvicting old key size evicted left → has_room left size ≡ false
    → None ≡ option_map (λ e. e.0) (last_entry left.entries) → ⊥
evicting-some old key size evicted left is full at = stuck (has_room-nothing left size is.promises (last-none left.entries (none (last_entry left.entries) at))
    (ap (λ (frame : Frame). is_some (placement_of (fresh frame) size)) is.frame ∙ is.fits))
  where
    none : (o : Option (ℕ × Allocation)) → None ≡ option_map (λ e. e.0) o → o ≡ None
    none None h = refl
    none (Some e) h = absurd (cc)

    stuck : has_room left size ≡ true → ⊥
    stuck room = cc

-- where memory runs out before any is needed
pub ran_out-none : (old new : CacheState) (size : Size) (evicted : List ℕ) → evicted ≡ [] → has_room old size ≡ true → SameLayout old new → RanOut old size evicted new
ran_out-none old new size evicted none room same =
    subst (λ (l : List ℕ). RanOut old size l new) (sym none)
    (record {
      evictions = 0;
      least = record { room = room; least = λ fewer less. absurd (omega arith) };
      few = omega arith;
      needed = λ some. absurd (omega arith);
      listed = refl;
      rest = same;
    })

-- a key that enters where there is room was placed
pub places-none : (old : CacheState) (key : ℕ) (size : Size) (rectangle : Rectangle) (evicted : List ℕ) (new : CacheState) → evicted ≡ [] → has_room old size ≡ true
    → Enters old key size rectangle new → Places old key size rectangle evicted new
places-none old key size rectangle evicted new none room enters =
    subst (λ (l : List ℕ). Places old key size rectangle l new) (sym none)
    (record {
      least = record { room = room; least = λ fewer less. absurd (omega arith) };
      listed = refl;
      entered = enters;
    })
