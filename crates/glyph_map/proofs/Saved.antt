-- What is saved of a map, and how its keys and values come back under numbers.
use Rattle.std.proofs.Common.{◌≡◌, ℕ, zero, suc, ◌+◌, ◌-◌, ◌≤◌, ◌^◌, Bool, true, false, cond, Some, List, [], ◌∷◌, ◌++◌, drop, length, refl, ap, sym, ◌∙◌, arith}
use Rattle.std.specs.List.{slice_get}
use Rattle.std.specs.Map.{keys_of, lookup}
use Rattle.std.specs.Prelude.{is_some}
use Rattle.std.proofs.lemmas.List.{append-nil, drop_at, length-append, length-map}
use Rattle.lru.specs.LruCache.{LruCache, lru_cache}
use Rattle.etagere_base.specs.declared.geometry.Rectangle.{Rectangle}
use Rattle.etagere_base.specs.declared.ids.Allocation.{Allocation}
use Rattle.glyph_shelf.specs.Cache.{CacheState, listed, with_rectangles}
use Rattle.glyph_shelf.specs.Saved.{CacheStandsFor, saved_key}
use Rattle.glyph_shelf.specs.declared.saving.CacheSnapshot.{CacheSnapshot}
use Rattle.glyph_map.specs.Private.Entering.{ArePairsRefused, IsLastRefused}
use Rattle.glyph_map.specs.Private.Evicting.{unticketed}
use Rattle.glyph_map.specs.Private.Lockstep.{tickets_of}
use Rattle.glyph_map.specs.Saved.{MapStandsFor}
use Rattle.glyph_map.specs.declared.faults.MapRestoreFault.{MapRestoreFault}
use Rattle.glyph_map.specs.declared.faults.MapRestoreFault.TheVariants.{Cache, Memory, WrongCount, SameKey}
use Rattle.glyph_map.specs.declared.ticketed.Ticketed.{Ticketed}
use Rattle.glyph_map.proofs.Joined.{AreInStep, joined-cache, joined-pairs, map_of}

last-at : {X : Type 0} (xs : List X) (x : X) → slice_get (xs ++ x ∷ []) (length xs) ≡ Some x
last-at [] x = refl
last-at (y ∷ xs) x = last-at xs x

some-in : {X : Type 0} (xs : List X) (n : ℕ) (x : X) → slice_get xs n ≡ Some x → 1 ≤ length xs
some-in [] n x h = absurd (cc)
some-in (y ∷ xs) n x h = omega arith

at-append : {X : Type 0} (xs ys : List X) (n : ℕ) (x : X) → slice_get xs n ≡ Some x → slice_get (xs ++ ys) n ≡ Some x
at-append [] ys n x h = absurd (cc)
at-append (y ∷ xs) ys zero x h = h
at-append (y ∷ xs) ys (suc n) x h = at-append xs ys n x h

-- the last of pairs stands at their last place
pub last-is : {X : Type 0} (pairs left : List X) (pair : X) (index : ℕ) → pairs ≡ left ++ pair ∷ [] → index ≡ length pairs - 1
    → slice_get pairs index ≡ Some pair
last-is pairs left pair index split at =
    let index_is : index ≡ length left = omega (arith, at, ap length split, length-append left (pair ∷ [])) in
    ap (λ (n : ℕ). slice_get pairs n) index_is ∙ ap (λ l. slice_get l (length left)) split ∙ last-at left pair

-- as many keys as are saved
pub saved-count : (snapshot : CacheSnapshot) (c : CacheState) → CacheStandsFor snapshot c → length snapshot.keys.items ≡ length c.entries
saved-count snapshot c stands = ap length stands.keys ∙ length-map c.entries saved_key

keys-listed : (es : List (ℕ × Allocation)) → keys_of (with_rectangles es) ≡ keys_of es
keys-listed [] = refl
keys-listed (e ∷ es) = ap (λ (l : List ℕ). e.0 ∷ l) (keys-listed es)

module _ {K V : Type 0} where
  -- a map is restored as its cache
  pub restored-map : (es : List (K × Ticketed V)) (c : CacheState) (snapshot : CacheSnapshot) (pairs : List (K × V)) → AreInStep es c.entries
      → CacheStandsFor snapshot c → unticketed es ≡ pairs → MapStandsFor snapshot pairs (map_of es c)
  restored-map es c snapshot pairs step stands all =
      record {
        cache = c;
        stands = stands;
        is_cache = sym (joined-cache es c step);
        pairs_are = joined-pairs es c.entries step ∙ all;
      }

  -- what a test finds is there without the numbers too
  found-unticketed : (test : K → Bool) (es : List (K × Ticketed V)) → is_some (lookup test (unticketed es)) ≡ is_some (lookup test es)
  found-unticketed test [] = refl
  found-unticketed test (e ∷ es) = here (test e.0) (found-unticketed test es)
    where
      here : (b : Bool) → is_some (lookup test (unticketed es)) ≡ is_some (lookup test es)
          → is_some (cond b (Some e.1.value) (lookup test (unticketed es))) ≡ is_some (cond b (Some e.1) (lookup test es))
      here true later = refl
      here false later = later

  -- the last of pairs stand under the last of a cache's numbers
  pub record AreEntering (pairs : List (K × V)) (c : CacheState) (tickets : List (ℕ × Rectangle)) (left : List (K × V))
      (entries : LruCache K (Ticketed V)) : Type 0 where
    pub split : pairs ≡ left ++ unticketed entries.entries
    pub tickets_are : keys_of c.entries ≡ keys_of tickets ++ tickets_of entries.entries
    pub unbounded : entries.cap ≡ 2 ^ 64 - 1
    pub even : length left ≡ length tickets

  pub entering-none : (pairs : List (K × V)) (c : CacheState) (tickets : List (ℕ × Rectangle)) (entries : LruCache K (Ticketed V))
      → entries ≡ lru_cache [] (2 ^ 64 - 1) → tickets ≡ listed c → length pairs ≡ length c.entries → AreEntering pairs c tickets pairs entries
  entering-none pairs c tickets entries none all count =
      let nothing = ap (λ (l : LruCache K (Ticketed V)). l.entries) none in
      record {
        split = sym (ap (λ (l : List (K × Ticketed V)). pairs ++ unticketed l) nothing ∙ append-nil pairs);
        tickets_are = sym (ap (λ (l : List (K × Ticketed V)). keys_of tickets ++ tickets_of l) nothing ∙ append-nil (keys_of tickets)
            ∙ ap (λ (l : List (ℕ × Rectangle)). keys_of l) all ∙ keys-listed c.entries);
        unbounded = ap (λ (l : LruCache K (Ticketed V)). l.cap) none;
        even = count ∙ sym (ap length all ∙ length-map c.entries (λ (o : ℕ × Allocation). let p : ℕ × Rectangle = (o.0, o.1.rectangle) in p));
      }

  module _ (pairs : List (K × V)) (c : CacheState) (tickets : List (ℕ × Rectangle)) (left : List (K × V))
      (entries : LruCache K (Ticketed V)) (is : AreEntering pairs c tickets left entries) where
    pub entering-length : length pairs ≡ length left + length entries.entries
    entering-length =
        ap length is.split ∙ length-append left (unticketed entries.entries)
        ∙ ap (λ (n : ℕ). length left + n) (length-map entries.entries (λ (e : K × Ticketed V). let p : K × V = (e.0, e.1.value) in p))

    pub entering-refused : (eq : K → K → Bool) (fault : MapRestoreFault) → IsLastRefused eq left entries.entries fault
        → ArePairsRefused eq pairs fault
    entering-refused eq (Cache f) refused = absurd refused
    entering-refused eq Memory refused = tt
    entering-refused eq WrongCount refused = absurd refused
    entering-refused eq (SameKey index) refused =
        let pair = refused.0 in
        let some : 1 ≤ length left = some-in left index pair refused.2 in
        let end : length left ≡ index + 1 = let at : index ≡ length left - 1 = refused.1 in omega arith in
        record {
          pair = pair;
          found = ap (λ (l : List (K × V)). slice_get l index) is.split ∙ at-append left (unticketed entries.entries) index pair refused.2;
          again = ap (λ (l : List (K × V)). is_some (lookup (eq pair.0) (drop (index + 1) l))) is.split
              ∙ ap (λ (l : List (K × V)). is_some (lookup (eq pair.0) l)) (drop_at left (unticketed entries.entries) (index + 1) end)
              ∙ found-unticketed (eq pair.0) entries.entries ∙ refused.3;
        }
