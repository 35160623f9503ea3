-- A map after its cache placed a ticket, or didn't: the new entry stands before the others, and as many of these come out
-- as the cache evicted.
use Rattle.std.proofs.Common.{◌≡◌, ℕ, suc, ◌-◌, ◌<◌, ◌≤◌, List, [], ◌∷◌, length, take, reverse, refl, ap, sym, ◌∙◌, subst, arith}
use Rattle.std.specs.Map.{keys_of}
use Rattle.std.proofs.lemmas.List.{length-map, length-reverse, length-take, reverse-append, take-append-le, take-map}
use Rattle.etagere_base.specs.declared.geometry.Rectangle.{Rectangle}
use Rattle.etagere_base.specs.declared.geometry.Size.{Size}
use Rattle.etagere_base.specs.declared.ids.Allocation.{Allocation}
use Rattle.glyph_shelf.specs.Cache.{CacheState, after_dropping, evictable}
use Rattle.glyph_shelf.specs.Placing as cache
use Rattle.glyph_shelf.proofs.Callers.{entries-after_dropping}
use Rattle.glyph_map.specs.State.{cache_of, pairs_of}
use Rattle.glyph_map.specs.Calls.{dropped_pairs}
use Rattle.glyph_map.specs.Placing.{Places, RanOut}
use Rattle.glyph_map.specs.Promises.{unkeyed}
use Rattle.glyph_map.specs.Private.Evicting.{unticketed}
use Rattle.glyph_map.specs.Private.Lockstep.{joined, tickets_of}
use Rattle.glyph_map.specs.declared.ticketed.Ticketed.{Ticketed}
use Rattle.glyph_map.proofs.Joined.{AreInStep, joined-cache, joined-length, joined-pairs, map_of, same-length}
use Rattle.glyph_map.proofs.Unkeyed.{evictable-unkeyed, room-dropping, unkeyed-dropping, unkeyed-places, unkeyed-same, zeros}

module _ {K V : Type 0} where
  -- what stands first of both is in step
  pub step-left : (es : List (K × Ticketed V)) (cs : List (ℕ × Allocation)) (n m : ℕ) → AreInStep es cs → n ≡ m → AreInStep (take n es) (take m cs)
  step-left es cs n m step same =
      sym (take-map (λ (o : ℕ × Allocation). o.0) m cs)
      ∙ ap (take m) step
      ∙ take-map (λ (e : K × Ticketed V). e.1.ticket) m es
      ∙ ap (λ (k : ℕ). tickets_of (take k es)) (sym same)

  -- the last of entries go from behind the first
  pub front-left : (e : K × Ticketed V) (es : List (K × Ticketed V)) (n : ℕ) → n ≤ length es
      → take (length (e ∷ es) - n) (e ∷ es) ≡ e ∷ take (length es - n) es
  front-left e es n few =
      let one : length (e ∷ es) - n ≡ suc (length es - n) = omega arith in
      ap (λ (k : ℕ). take k (e ∷ es)) one

  pub front-taken : (e : K × Ticketed V) (es : List (K × Ticketed V)) (n : ℕ) → n ≤ length es
      → take n (reverse (unticketed (e ∷ es))) ≡ take n (reverse (unticketed es))
  front-taken e es n few =
      let pair : K × V = (e.0, e.1.value) in
      let pair_of : K × Ticketed V → K × V = λ x. (x.0, x.1.value) in
      let long : n ≤ length (reverse (unticketed es)) = omega (arith, length-reverse (unticketed es), length-map es pair_of) in
      ap (take n) (reverse-append (pair ∷ []) (unticketed es))
      ∙ take-append-le n (reverse (unticketed es)) (pair ∷ []) long

  -- the new entry stands first, and these have come out behind it
  pub record AreOut (es : List (K × Ticketed V)) (key : K) (entry : Ticketed V) (count : ℕ) (taken : List (K × V))
      (new : List (K × Ticketed V)) : Type 0 where
    pub left : new ≡ (key, entry) ∷ take (length es - count) es
    pub out : taken ≡ take count (reverse (unticketed es))
    pub counted : length taken ≡ count

  pub are-out : (es : List (K × Ticketed V)) (key : K) (entry : Ticketed V) (count : ℕ) (taken : List (K × V)) (put new : List (K × Ticketed V))
      → put ≡ (key, entry) ∷ es → new ≡ take (length put - count) put → taken ≡ take count (reverse (unticketed put)) → count ≤ length es
      → AreOut es key entry count taken new
  are-out es key entry count taken put new first left out few =
      let e : K × Ticketed V = (key, entry) in
      let taken_is : taken ≡ take count (reverse (unticketed es)) =
      out ∙ ap (λ (l : List (K × Ticketed V)). take count (reverse (unticketed l))) first ∙ front-taken e es count few in
      record {
        left = left ∙ ap (λ (l : List (K × Ticketed V)). take (length l - count) l) first ∙ front-left e es count few;
        out = taken_is;
        counted = ap length taken_is ∙ taken_long es count few;
      }
    where
      taken_long : (es : List (K × Ticketed V)) (count : ℕ) → count ≤ length es → length (take count (reverse (unticketed es))) ≡ count
      taken_long es count few =
          let pair_of : K × Ticketed V → K × V = λ x. (x.0, x.1.value) in
          omega (arith, length-take count (reverse (unticketed es)), length-reverse (unticketed es), length-map es pair_of)

  -- what a map lists as dropped
  pub out-listed : (es : List (K × Ticketed V)) (c : CacheState) (key : K) (entry : Ticketed V) (count : ℕ) (taken : List (K × V)) (new : List (K × Ticketed V))
      → AreInStep es c.entries → AreOut es key entry count taken new → taken ≡ dropped_pairs (map_of es c) (length taken)
  out-listed es c key entry count taken new step out =
      out.out
      ∙ ap (λ (l : List (K × V)). take count (reverse l)) (sym (joined-pairs es c.entries step))
      ∙ ap (λ (k : ℕ). take k (reverse (pairs_of (joined es c.entries)))) (sym out.counted)

  -- what is left behind the new entry
  pub rest-pairs : (es : List (K × Ticketed V)) (c : CacheState) (count : ℕ) (taken : List (K × V))
      → AreInStep es c.entries → length taken ≡ count
      → unticketed (take (length es - count) es) ≡ take (length (joined es c.entries) - length taken) (pairs_of (joined es c.entries))
  rest-pairs es c count taken step counted =
      let pair_of : K × Ticketed V → K × V = λ x. (x.0, x.1.value) in
      sym (take-map pair_of (length es - count) es)
      ∙ ap (take (length es - count)) (sym (joined-pairs es c.entries step))
      ∙ ap (λ (k : ℕ). take k (pairs_of (joined es c.entries))) (both (joined-length es c.entries step))
    where
      both : length (joined es c.entries) ≡ length es → length es - count ≡ length (joined es c.entries) - length taken
      both same = omega arith

  -- the ticket was placed
  module _ (es : List (K × Ticketed V)) (c new : CacheState) (key : K) (entry : Ticketed V) (size : Size) (rectangle : Rectangle)
      (tickets : List ℕ) (step : AreInStep es c.entries) (places : cache.Places c entry.ticket size rectangle tickets new) where
    pub placed-step : (taken : List (K × V)) (left : List (K × Ticketed V)) → AreOut es key entry (length tickets) taken left
        → AreInStep left new.entries
    placed-step taken left out =
        let n = length tickets in
        ap keys_of places.entered.entries
        ∙ ap (λ (l : List ℕ). entry.ticket ∷ l)
        (ap keys_of (entries-after_dropping c n)
        ∙ step-left es c.entries (length es - n) (length c.entries - n) step (less (same-length es c.entries step)))
        ∙ sym (ap tickets_of out.left)
      where
        less : length c.entries ≡ length es → length es - length tickets ≡ length c.entries - length tickets
        less same = omega arith

    pub placed-map : (taken : List (K × V)) (left : List (K × Ticketed V)) → AreOut es key entry (length tickets) taken left
        → Places (map_of es c) key entry.value size rectangle taken (map_of left new)
    placed-map taken left out =
        let n = length tickets in
        let rest = take (length es - n) es in
        let after = placed-step taken left out in
        record {
          placed = subst (λ (s : CacheState). cache.Places s 0 size rectangle (zeros taken) (cache_of (map_of left new)))
              (sym (joined-cache es c step))
              (subst (λ (s : CacheState). cache.Places (unkeyed c) 0 size rectangle (zeros taken) s)
              (sym (joined-cache left new after))
              (unkeyed-places c entry.ticket size rectangle tickets new taken out.counted places));
          kept = take (length (joined es c.entries) - length taken) (pairs_of (joined es c.entries));
          evicts = record { listed = out-listed es c key entry n taken left step out; kept = refl };
          pairs = joined-pairs left new.entries after
              ∙ ap unticketed out.left
              ∙ ap (λ (l : List (K × V)). (key, entry.value) ∷ l) (rest-pairs es c n taken step out.counted);
        }

  -- memory ran out before the ticket was placed, and the new entry came out again
  module _ (es : List (K × Ticketed V)) (c new : CacheState) (key : K) (entry : Ticketed V) (size : Size) (tickets : List ℕ)
      (step : AreInStep es c.entries) (ran : cache.RanOut c size tickets new) where
    pub ran-step : (left : List (K × Ticketed V)) → left ≡ take (length es - length tickets) es → AreInStep left new.entries
    ran-step left out =
        let n = length tickets in
        ap keys_of (ran.rest.entries ∙ entries-after_dropping c n)
        ∙ step-left es c.entries (length es - n) (length c.entries - n) step (less (same-length es c.entries step))
        ∙ sym (ap tickets_of out)
      where
        less : length c.entries ≡ length es → length es - length tickets ≡ length c.entries - length tickets
        less same = omega arith

    pub ran-map : (taken : List (K × V)) (put left : List (K × Ticketed V)) → AreOut es key entry (length tickets) taken put
        → left ≡ take (length es - length tickets) es → RanOut (map_of es c) size taken (map_of left new)
    ran-map taken put left out rest =
        let n = length tickets in
        let after = ran-step left rest in
        let same = joined-cache es c step in
        record {
          needed = λ fewer h.
              ap (λ (s : CacheState). cache.has_room (after_dropping s fewer) size) same
              ∙ room-dropping c fewer size
              ∙ ran.least.least fewer (within fewer (subst (λ (k : ℕ). fewer < k) out.counted h) ran.few);
          helps = λ some.
              record {
                count = ran.evictions;
                few = subst (λ (k : ℕ). ran.evictions ≤ k) (sym (ap evictable same ∙ evictable-unkeyed c))
                    (ran.needed (subst (λ (k : ℕ). 1 ≤ k) out.counted some));
                room =
                    ap (λ (s : CacheState). cache.has_room (after_dropping s ran.evictions) size) same
                    ∙ room-dropping c ran.evictions size
                    ∙ ran.least.room;
              };
          evicts = record {
            listed = out-listed es c key entry n taken put step out;
            kept = joined-pairs left new.entries after ∙ ap unticketed rest ∙ rest-pairs es c n taken step out.counted;
          };
          rest = subst (λ (s : CacheState). cache.SameLayout (after_dropping s (length taken)) (cache_of (map_of left new))) (sym same)
              (subst (λ (k : ℕ). cache.SameLayout (after_dropping (unkeyed c) k) (cache_of (map_of left new))) (sym out.counted)
              (subst (λ (s : CacheState). cache.SameLayout s (cache_of (map_of left new))) (unkeyed-dropping c n)
              (subst (λ (s : CacheState). cache.SameLayout (unkeyed (after_dropping c n)) s) (sym (joined-cache left new after))
              (unkeyed-same (after_dropping c n) new ran.rest))));
        }
      where
        within : (fewer : ℕ) → fewer < length tickets → length tickets ≤ ran.evictions → fewer < ran.evictions
        within fewer h few = omega arith
