-- Whether dropping what wasn't used in a frame makes room: what has been tried so far, and what follows from it.
use Rattle.std.proofs.Common.{◌≡◌, ℕ, zero, suc, ◌+◌, ◌-◌, ◌<◌, ◌≤◌, true, false, Some, List, [], ◌∷◌, ◌++◌, length, take, refl, ap, sym, ◌∙◌, subst, arith}
use Rattle.std.proofs.lemmas.Bool.Decides.{nat_tests}
use Rattle.std.proofs.lemmas.List.{length-append, map-append, take_at}
use Rattle.std.specs.List.{slice_get}
use Rattle.std.specs.Prelude.{is_some, nat_lt}
use Rattle.lru.specs.LruCache.{last_entry}
use Rattle.shelf_model.specs.Choice.{placement_of}
use Rattle.shelf_model.specs.Places.{is_allocated}
use Rattle.shelf_model.specs.Returning.{returned}
use Rattle.shelf_model.specs.State.{AtlasState}
use Rattle.etagere_base.specs.declared.geometry.Rectangle.{Rectangle}
use Rattle.etagere_base.specs.declared.geometry.Size.{Size}
use Rattle.etagere_base.specs.declared.ids.Allocation.{Allocation}
use Rattle.glyph_shelf.specs.declared.used_keys.stamps.Entry.{Entry}
use Rattle.glyph_shelf.specs.UsedKeys.Private.Stamps.{unstamped}
use Rattle.glyph_shelf.specs.Cache.{CacheState, after_dropping, evictable, frame_uses}
use Rattle.glyph_shelf.specs.Placing.{IsFrameFull, LacksRoom, MakesRoom, Places, has_room}
use Rattle.glyph_shelf.specs.Promises.{KeepsCachePromises}
use Rattle.glyph_shelf.proofs.Callers.{capacity-after_dropping, length-after_dropping}
use Rattle.glyph_shelf.proofs.UsedKeys.Entries.{last-among}
use Rattle.glyph_shelf.proofs.Evicting.{Fits, HasEvicted, all-make_room, below_next, keeps-after_dropping, without_last-some}
use Rattle.glyph_shelf.proofs.Keeping.{kept-allocated}

-- where nothing was used in the frame, all may go
pub unframed-makes : (state : CacheState) (size : Size) → KeepsCachePromises state → Fits state.atlas.frame size → frame_uses state ≡ 0
    → MakesRoom state size (evictable state)
unframed-makes state size promises fits none =
    record { count = length state.entries; few = omega arith; room = all-make_room state size promises fits }

-- where all were used, none may
pub lacks-none : (state : CacheState) (size : Size) → has_room state size ≡ false → LacksRoom state size 0
lacks-none state size full zero few = full
lacks-none state size full (suc n) few = absurd (omega arith)

pub lacks-all : (state : CacheState) (size : Size) → has_room state size ≡ false → length state.entries - frame_uses state ≡ 0
    → IsFrameFull state size
lacks-all state size full none = subst (LacksRoom state size) (sym none) (lacks-none state size full)

-- one more was tried
pub lacks-more : (state : CacheState) (size : Size) (n : ℕ) → LacksRoom state size n → has_room (after_dropping state (n + 1)) size ≡ false
    → LacksRoom state size (n + 1)
lacks-more state size n lacks full count few =
    below_next (λ k. has_room (after_dropping state k) size ≡ false) (n + 1)
    (λ k less. lacks k (omega arith)) full count (omega arith)

-- what makes room in a frame isn't lacking
pub full-lacks : (old : CacheState) (size : Size) → IsFrameFull old size → MakesRoom old size (evictable old) → ⊥
full-lacks old size full makes = let none = full makes.count makes.few in let room = makes.room in cc

-- nothing is placed in a full frame
pub full-places : (old : CacheState) (key : ℕ) (size : Size) (rectangle : Rectangle) (evicted : List ℕ) (new : CacheState)
    → IsFrameFull old size → Places old key size rectangle evicted new → length evicted ≤ evictable old → ⊥
full-places old key size rectangle evicted new full places spared =
    full-lacks old size full (record { count = length evicted; few = spared; room = places.least.room })

-- one more may go where there is no room yet
pub evicted-fewer : (old : CacheState) (size : Size) (evicted : List ℕ) (left : CacheState) (most : ℕ)
    → HasEvicted old size evicted left → has_room left size ≡ false → MakesRoom old size most → length evicted + 1 ≤ most
evicted-fewer old size evicted left most has full makes =
    elim (nat_lt (length evicted) makes.count) as (λ b. nat_lt (length evicted) makes.count ≡ b → length evicted + 1 ≤ most) [
      | true ↦ λ is. let few = makes.few in grind (arith, nat_tests)
      | false ↦ λ is. absurd (none (length evicted) refl (grind (arith, nat_tests)))
    ] refl
  where
    passed : (n : ℕ) → has_room (after_dropping old n) size ≡ true → length evicted ≡ n → ⊥
    passed n room same =
        let here : has_room left size ≡ true =
        ap (λ (s : CacheState). has_room s size) has.drops.after ∙ ap (λ (k : ℕ). has_room (after_dropping old k) size) same ∙ room in
        cc

    none : (n : ℕ) → length evicted ≡ n → makes.count ≤ n → ⊥
    none n same few = elim (nat_lt makes.count (length evicted)) as (λ b. nat_lt makes.count (length evicted) ≡ b → ⊥) [
      | true ↦ λ is. let no = has.none makes.count (grind (arith, nat_tests)) in let room = makes.room in cc
      | false ↦ λ is. passed makes.count makes.room (grind (arith, nat_tests))
    ] refl

-- what stands last
get-last : (front : List (ℕ × Allocation)) (e : ℕ × Allocation) → slice_get (front ++ e ∷ []) (length front) ≡ Some e
get-last [] e = refl
get-last (f ∷ front) e = get-last front e

-- entries of which so many were tried
pub record IsTried (state : CacheState) (gone : ℕ) (left : List (ℕ × Entry)) (trial : AtlasState) : Type 0 where
  pub entries : unstamped left ≡ (after_dropping state gone).entries
  pub atlas : trial ≡ (after_dropping state gone).atlas

pub tried-none : (state : CacheState) (left : List (ℕ × Entry)) (trial : AtlasState) → unstamped left ≡ state.entries → trial ≡ state.atlas
    → IsTried state 0 left trial
tried-none state left trial entries atlas = record { entries = entries; atlas = atlas }

module _ (state : CacheState) (gone : ℕ) (left rest : List (ℕ × Entry)) (e : ℕ × Entry) (atlas : AtlasState)
    (tried : IsTried state gone left atlas) (last : left ≡ rest ++ e ∷ []) where
  split : (after_dropping state gone).entries ≡ unstamped rest ++ (e.0, e.1.allocation) ∷ []
  split =
      sym tried.entries ∙ ap unstamped last
      ∙ map-append (λ (x : ℕ × Entry). (x.0, x.1.allocation)) rest (e ∷ [])

  one_less : length (after_dropping state gone).entries - 1 ≡ length (unstamped rest)
  one_less = omega (arith, ap length split, length-append (unstamped rest) ((e.0, e.1.allocation) ∷ []))

  stands_last : last_entry (after_dropping state gone).entries ≡ Some (e.0, e.1.allocation)
  stands_last =
      ap (slice_get (after_dropping state gone).entries) one_less
      ∙ ap (λ l. slice_get l (length (unstamped rest))) split
      ∙ get-last (unstamped rest) (e.0, e.1.allocation)

  front : take (length (after_dropping state gone).entries - 1) (after_dropping state gone).entries ≡ unstamped rest
  front =
      ap (λ (n : ℕ). take n (after_dropping state gone).entries) one_less
      ∙ ap (take (length (unstamped rest))) split
      ∙ take_at (unstamped rest) ((e.0, e.1.allocation) ∷ []) (length (unstamped rest)) refl

  pub tried-allocated : KeepsCachePromises state → is_allocated atlas e.1.allocation.id ≡ true
  tried-allocated promises =
      ap (λ (a : AtlasState). is_allocated a e.1.allocation.id) tried.atlas
      ∙ kept-allocated (after_dropping state gone) _ e.1.allocation (keeps-after_dropping state gone promises)
      (last-among (after_dropping state gone).entries (e.0, e.1.allocation) stands_last)

  pub tried-more : (new : AtlasState) → new ≡ returned atlas e.1.allocation.id → IsTried state (gone + 1) rest new
  tried-more new after =
      let next : gone + 1 ≡ suc gone = omega arith in
      let dropped = without_last-some (after_dropping state gone) (e.0, e.1.allocation) stands_last in
      subst (λ (n : ℕ). IsTried state n rest new) (sym next)
      (record {
        entries = sym front ∙ sym (ap (λ (s : CacheState). s.entries) dropped);
        atlas = after ∙ ap (λ (a : AtlasState). returned a e.1.allocation.id) tried.atlas
            ∙ sym (ap (λ (s : CacheState). s.atlas) dropped);
      })

-- there is room after evictions exactly where the atlas has a place
pub tried-room : (state : CacheState) (size : Size) (gone : ℕ) (left : List (ℕ × Entry)) (atlas : AtlasState) → KeepsCachePromises state
    → IsTried state gone left atlas → 1 ≤ gone → gone ≤ length state.entries
    → has_room (after_dropping state gone) size ≡ is_some (placement_of atlas size)
tried-room state size gone left atlas promises tried some few =
    let most = promises.few in
    let capacity = capacity-after_dropping state gone in
    let len = length-after_dropping state gone in
    let short : nat_lt (length (after_dropping state gone).entries) (after_dropping state gone).capacity ≡ true = grind (arith, nat_tests) in
    rw short (ap (λ (a : AtlasState). is_some (placement_of a size)) (sym tried.atlas))

-- something is left where not all have been tried
pub tried-some : (state : CacheState) (gone : ℕ) (left : List (ℕ × Entry)) (atlas : AtlasState) → IsTried state gone left atlas
    → gone < length state.entries → left ≡ [] → ⊥
tried-some state gone left atlas tried less nothing =
    let none : length (after_dropping state gone).entries ≡ 0 = ap length (sym tried.entries) ∙ ap (λ l. length (unstamped l)) nothing in
    let len = length-after_dropping state gone in
    omega arith
