-- What a cache answers to a ticket, and what it leaves a map: how many were evicted, and what a fault means.
use Rattle.std.proofs.Common.{◌≡◌, ℕ, ◌-◌, ◌≤◌, true, false, Option, Some, None, Result, Ok, Err, IfOk, IfErr, OnOk, List, length, map, take, refl, ap, sym, ◌∙◌, subst, arith}
use Rattle.std.specs.Map.{keys_of}
use Rattle.std.specs.Prelude.{is_err, is_some, IsErrOf}
use Rattle.std.proofs.lemmas.List.{take_all}
use Rattle.etagere_base.specs.declared.geometry.Size.{Size}
use Rattle.shelf_model.specs.Choice.{IsRefused, placement_of}
use Rattle.shelf_model.specs.State.{AtlasState}
use Rattle.glyph_shelf.specs.Cache.{CacheState, evictable}
use Rattle.glyph_shelf.specs.Placing as cache
use Rattle.glyph_shelf.specs.declared.cache.Placed.{Placed}
use Rattle.glyph_shelf.specs.declared.faults.GlyphFault.{GlyphFault}
use Rattle.glyph_shelf.specs.declared.faults.GlyphFault.TheVariants as below
use Rattle.glyph_map.specs.Placing as placing
use Rattle.glyph_map.specs.declared.faults.MapFault.{MapFault}
use Rattle.glyph_map.specs.declared.faults.MapFault.TheVariants.{TooLarge, Memory, FrameFull}
use Rattle.glyph_map.specs.declared.ticketed.Ticketed.{Ticketed}
use Rattle.glyph_map.specs.Private.Outcomes.{IsFaultOf, went, went_before}
use Rattle.glyph_map.specs.State.{cache_of}
use Rattle.glyph_map.proofs.Joined.{AreInStep, joined-cache, map_of}
use Rattle.glyph_map.proofs.Settled.{AreOut, ran-map, ran-step}
use Rattle.glyph_map.proofs.Unkeyed.{evictable-unkeyed, unkeyed-full}

-- no error is a success
pub on-ok : {T E : Type 0} {P : Type 0} (r : Result T E) → is_err r ≡ false → OnOk r P → P
on-ok (Ok x) h p = p
on-ok (Err e) h p = absurd (cc)

-- a size that has a place isn't refused
pub fits-not : (atlas : AtlasState) (size : Size) → is_some (placement_of atlas size) ≡ true → IsRefused atlas size → ⊥
fits-not atlas size fits refused = by_place (placement_of atlas size) fits refused
  where
    by_place : {X : Type 0} (o : Option X) → is_some o ≡ true → o ≡ None → ⊥
    by_place None h none = cc
    by_place (Some x) h none = cc

-- no more was evicted than may be
pub went-few : (s : CacheState) (r : Result Placed GlyphFault) → IfOk r (λ p. length p.evicted.items ≤ evictable s)
    → IfErr r (cache.Spares s) → length (went r) ≤ length s.entries
went-few s (Ok p) ok err = omega arith
went-few s (Err below.TooLarge) ok err = omega arith
went-few s (Err (below.Memory evicted)) ok err = omega arith
went-few s (Err below.FrameFull) ok err = omega arith

pub frame_full-below : {K V : Type 0} (refused : GlyphFault) (taken : List (K × V)) (fault : MapFault K V) → IsFaultOf refused taken fault
    → fault ≡ FrameFull → refused ≡ below.FrameFull
frame_full-below below.TooLarge taken TooLarge is h = absurd (cc)
frame_full-below below.TooLarge taken (Memory gone) is h = absurd is
frame_full-below below.TooLarge taken FrameFull is h = absurd is
frame_full-below (below.Memory evicted) taken TooLarge is h = absurd is
frame_full-below (below.Memory evicted) taken (Memory gone) is h = absurd (cc)
frame_full-below (below.Memory evicted) taken FrameFull is h = absurd is
frame_full-below below.FrameFull taken TooLarge is h = absurd is
frame_full-below below.FrameFull taken (Memory gone) is h = absurd is
frame_full-below below.FrameFull taken FrameFull is h = refl

-- a cache that refuses for this fault says so
pub refuses : (r : Result Placed GlyphFault) (fault other : GlyphFault) → r ≡ Err fault → fault ≡ other → IsErrOf r other
refuses r fault other is same = subst (λ (x : Result Placed GlyphFault). IsErrOf x other) (sym (is ∙ ap (λ (f : GlyphFault). let x : Result Placed GlyphFault = Err f in x) same)) (itself other)
  where
    itself : (f : GlyphFault) → IsErrOf (let x : Result Placed GlyphFault = Err f in x) f
    itself f = refl

module _ {K V : Type 0} (es : List (K × Ticketed V)) (c new : CacheState) (key : K) (entry : Ticketed V) (size : Size)
    (step : AreInStep es c.entries) where
  -- where nothing changed below, and the new entry came out again
  unchanged : (left : List (K × Ticketed V)) → new ≡ c → left ≡ take (length es - 0) es → (left ≡ es) × (map_of left new ≡ map_of es c)
  unchanged left same rest =
      let all : left ≡ es = rest ∙ take_all (length es - 0) es (omega arith) in
      (all, ap (λ (l : List (K × Ticketed V)). map_of l new) all ∙ ap (map_of es) same)

  unchanged-step : (left : List (K × Ticketed V)) → new ≡ c → left ≡ take (length es - 0) es → AreInStep left new.entries
  unchanged-step left same rest =
      ap (λ (s : CacheState). keys_of s.entries) same ∙ step
      ∙ ap (λ (l : List (K × Ticketed V)). tickets l) (sym (unchanged left same rest).0)
    where
      tickets : List (K × Ticketed V) → List ℕ
      tickets l = map (λ (e : K × Ticketed V). e.1.ticket) l

  pub refused-step : (refused : GlyphFault) (left : List (K × Ticketed V)) → cache.IsLeft c size refused new
      → left ≡ take (length es - length (went_before refused)) es → AreInStep left new.entries
  refused-step below.TooLarge left is rest = unchanged-step left is rest
  refused-step (below.Memory evicted) left is rest = ran-step es c new key entry size evicted.items step is left rest
  refused-step below.FrameFull left is rest = unchanged-step left is rest

  pub refused-map : (refused : GlyphFault) (fault : MapFault K V) (taken : List (K × V)) (put left : List (K × Ticketed V))
      → cache.IsLeft c size refused new → IsFaultOf refused taken fault → AreOut es key entry (length (went_before refused)) taken put
      → left ≡ take (length es - length (went_before refused)) es → placing.IsLeft (map_of es c) size fault (map_of left new)
  refused-map below.TooLarge TooLarge taken put left is of out rest = (unchanged left is rest).1
  refused-map below.TooLarge (Memory gone) taken put left is of out rest = absurd of
  refused-map below.TooLarge FrameFull taken put left is of out rest = absurd of
  refused-map (below.Memory evicted) TooLarge taken put left is of out rest = absurd of
  refused-map (below.Memory evicted) (Memory gone) taken put left is of out rest =
      subst (λ (l : List (K × V)). placing.RanOut (map_of es c) size l (map_of left new)) (sym of)
      (ran-map es c new key entry size evicted.items step is taken put left out rest)
  refused-map (below.Memory evicted) FrameFull taken put left is of out rest = absurd of
  refused-map below.FrameFull TooLarge taken put left is of out rest = absurd of
  refused-map below.FrameFull (Memory gone) taken put left is of out rest = absurd of
  refused-map below.FrameFull FrameFull taken put left is of out rest = (unchanged left is rest).1

  -- how many a map may evict
  pub evictable-map : evictable (cache_of (map_of es c)) ≡ evictable c
  evictable-map = ap evictable (joined-cache es c step) ∙ evictable-unkeyed c

  pub full-map : cache.IsFrameFull c size → placing.IsFrameFull (map_of es c) size
  full-map full = subst (λ (s : CacheState). cache.IsFrameFull s size) (sym (joined-cache es c step)) (unkeyed-full c size full)

  pub refused-spares : (refused : GlyphFault) (fault : MapFault K V) (taken : List (K × V)) (put : List (K × Ticketed V))
      → cache.Spares c refused → IsFaultOf refused taken fault → AreOut es key entry (length (went_before refused)) taken put
      → placing.Spares (map_of es c) fault
  refused-spares below.TooLarge TooLarge taken put is of out = tt
  refused-spares below.TooLarge (Memory gone) taken put is of out = absurd of
  refused-spares below.TooLarge FrameFull taken put is of out = tt
  refused-spares (below.Memory evicted) TooLarge taken put is of out = tt
  refused-spares (below.Memory evicted) (Memory gone) taken put is of out =
      subst (λ (k : ℕ). length gone.items ≤ k) (sym evictable-map)
      (subst (λ (k : ℕ). k ≤ evictable c) (sym (ap length of ∙ out.counted)) is)
  refused-spares (below.Memory evicted) FrameFull taken put is of out = tt
  refused-spares below.FrameFull TooLarge taken put is of out = tt
  refused-spares below.FrameFull (Memory gone) taken put is of out = absurd of
  refused-spares below.FrameFull FrameFull taken put is of out = tt

-- what follows of an error, if there is one
pub if-err : {T E : Type 0} (r : Result T E) (P Q : E → Type 0) → ((e : E) → P e → Q e) → IfErr r P → IfErr r Q
if-err (Ok x) P Q follows h = tt
if-err (Err e) P Q follows h = follows e h
