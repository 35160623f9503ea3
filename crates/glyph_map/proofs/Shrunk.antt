-- A map whose capacity changes: the entries that are too many come out of both.
use Rattle.std.proofs.Common.{◌≡◌, ℕ, zero, suc, ◌-◌, Result, Ok, Err, OnErr, List, [], ◌∷◌, length, take, reverse, refl, ap, sym, ◌∙◌, arith}
use Rattle.std.specs.Map.{keys_of}
use Rattle.std.proofs.lemmas.List.{length-map}
use Rattle.etagere_base.specs.declared.ids.Allocation.{Allocation}
use Rattle.glyph_shelf.specs.Cache.{CacheState, after_dropping}
use Rattle.glyph_shelf.specs.Sizing as cache
use Rattle.glyph_shelf.specs.Sizing.{of_capacity}
use Rattle.glyph_shelf.proofs.Callers.{entries-after_dropping}
use Rattle.glyph_map.specs.Calls.{dropped_pairs, surplus, with_capacity}
use Rattle.glyph_map.specs.Promises.{unkeyed}
use Rattle.glyph_map.specs.Private.Evicting.{unticketed}
use Rattle.glyph_map.specs.Private.Lockstep.{joined, tickets_of}
use Rattle.glyph_map.specs.State.{Held, cache_of, of_cache, pairs_of}
use Rattle.glyph_map.specs.declared.ticketed.Ticketed.{Ticketed}
use Rattle.glyph_map.proofs.Joined.{AreInStep, joined-cache, joined-length, joined-pairs, map_of, same-length}
use Rattle.glyph_map.proofs.Settled.{step-left}
use Rattle.glyph_map.proofs.Unkeyed.{bare, unkeyed-dropping}

-- what holds after an error, if there was one
pub on-err : {T E : Type 0} {P : Type 0} (r : Result T E) → P → OnErr r P
on-err (Ok x) p = tt
on-err (Err e) p = p

unkeyed-with_capacity : (c : CacheState) (most : ℕ) → cache.with_capacity (unkeyed c) most ≡ unkeyed (cache.with_capacity c most)
unkeyed-with_capacity c most =
    ap (λ (n : ℕ). of_capacity (after_dropping (unkeyed c) (n - most)) most) (length-map c.entries bare)
    ∙ ap (λ (s : CacheState). of_capacity s most) (sym (unkeyed-dropping c (length c.entries - most)))

module _ {K V : Type 0} where
  joined-take : (n : ℕ) (es : List (K × Ticketed V)) (cs : List (ℕ × Allocation)) → joined (take n es) (take n cs) ≡ take n (joined es cs)
  joined-take zero es cs = refl
  joined-take (suc n) [] cs = refl
  joined-take (suc n) (e ∷ es) [] = refl
  joined-take (suc n) (e ∷ es) (o ∷ cs) =
      ap (λ (l : List (K × Held V)). (e.0, record { value = e.1.value; allocation = o.1 }) ∷ l) (joined-take n es cs)

  module _ (es : List (K × Ticketed V)) (c : CacheState) (most : ℕ) (step : AreInStep es c.entries) where
    pub surplus-map : surplus (map_of es c) most ≡ length es - most
    surplus-map =
        ap (λ (n : ℕ). n - most)
        (length-map (joined es c.entries) (λ (entry : K × Held V). let p : ℕ × Allocation = (0, entry.1.allocation) in p) ∙ joined-length es c.entries step)

    -- what is left below
    below-left : (new : CacheState) → new ≡ cache.with_capacity c most
        → new.entries ≡ take (length es - (length es - most)) c.entries
    below-left new is =
        ap (λ (s : CacheState). s.entries) is
        ∙ entries-after_dropping c (length c.entries - most)
        ∙ ap (λ (n : ℕ). take (n - (n - most)) c.entries) (same-length es c.entries step)

    pub shrunk-step : (left : List (K × Ticketed V)) (new : CacheState) → left ≡ take (length es - (length es - most)) es
        → new ≡ cache.with_capacity c most → AreInStep left new.entries
    shrunk-step left new rest is =
        let n : ℕ = length es - (length es - most) in
        ap keys_of (below-left new is) ∙ step-left es c.entries n n step refl ∙ sym (ap tickets_of rest)

    pub shrunk-map : (left : List (K × Ticketed V)) (new : CacheState) → left ≡ take (length es - (length es - most)) es
        → new ≡ cache.with_capacity c most → map_of left new ≡ with_capacity (map_of es c) most
    shrunk-map left new rest is =
        let n : ℕ = length es - (length es - most) in
        let entries : joined left new.entries ≡ take (length (joined es c.entries) - surplus (map_of es c) most) (joined es c.entries) =
        ap (λ (l : List (K × Ticketed V)). joined l new.entries) rest
        ∙ ap (joined (take n es)) (below-left new is)
        ∙ joined-take n es c.entries
        ∙ ap (λ (k : ℕ). take k (joined es c.entries)) (both (joined-length es c.entries step) surplus-map) in
        let below : cache.with_capacity (cache_of (map_of es c)) most ≡ unkeyed (cache.with_capacity c most) =
        ap (λ (s : CacheState). cache.with_capacity s most) (joined-cache es c step) ∙ unkeyed-with_capacity c most in
        ap (λ (l : List (K × Held V)). of_cache l (unkeyed new)) entries
        ∙ ap (λ (s : CacheState). of_cache (take (length (joined es c.entries) - surplus (map_of es c) most) (joined es c.entries)) (unkeyed s)) is
        ∙ ap (of_cache (take (length (joined es c.entries) - surplus (map_of es c) most) (joined es c.entries))) (sym below)
      where
        both : length (joined es c.entries) ≡ length es → surplus (map_of es c) most ≡ length es - most
            → length es - (length es - most) ≡ length (joined es c.entries) - surplus (map_of es c) most
        both long more = omega arith

    pub shrunk-listed : (taken : List (K × V)) → taken ≡ take (length es - most) (reverse (unticketed es))
        → taken ≡ dropped_pairs (map_of es c) (surplus (map_of es c) most)
    shrunk-listed taken out =
        out
        ∙ ap (λ (l : List (K × V)). take (length es - most) (reverse l)) (sym (joined-pairs es c.entries step))
        ∙ ap (λ (k : ℕ). take k (reverse (pairs_of (joined es c.entries)))) (sym surplus-map)
