-- A snapshot with keys and values stands for one map at most, and where these break a rule for none.
use Rattle.std.proofs.Common.{◌≡◌, ℕ, zero, suc, ◌+◌, Result, Ok, Err, IfOk, IfErr, Bool, true, false, cond, Some, List, [], ◌∷◌, drop, length, map, refl, ap, sym, ◌∙◌, subst, arith}
use Rattle.std.specs.List.{AllByRecursion, IsDistinct, slice_get}
use Rattle.std.specs.Map.{keys_of, lookup}
use Rattle.std.specs.Prelude.{is_some}
use Rattle.std.proofs.lemmas.List.{length-map}
use Rattle.etagere_base.specs.declared.ids.Allocation.{Allocation}
use Rattle.glyph_shelf.specs.Cache.{CacheState}
use Rattle.glyph_shelf.specs.declared.saving.CacheSnapshot.{CacheSnapshot}
use Rattle.glyph_shelf.specs.Saved.{BrokenCacheStandsForNone, CacheStandsForOne}
use Rattle.glyph_map.specs.Promises.{unkeyed}
use Rattle.glyph_map.specs.Saved.{IsMapBroken, MapStandsFor}
use Rattle.glyph_map.specs.State.{Held, MapState, cache_of, of_cache, pairs_of}
use Rattle.glyph_map.specs.declared.faults.MapRestoreFault.{MapRestoreFault}
use Rattle.glyph_map.specs.declared.faults.MapRestoreFault.TheVariants.{Cache, Memory, WrongCount, SameKey}
use Rattle.glyph_map.proofs.Saved.{saved-count}
use Rattle.glyph_map.proofs.Unkeyed.{bare}

module _ {K V : Type 0} where
  -- what is allocated for keys, where no key is told from another
  abbrev pub allocated : List (K × Held V) → List (ℕ × Allocation)
  allocated es = map (λ (e : K × Held V). (0, e.1.allocation)) es

  -- entries with the same keys and values, for which the same is allocated
  same-entries : (xs ys : List (K × Held V)) → pairs_of xs ≡ pairs_of ys → allocated xs ≡ allocated ys → xs ≡ ys
  same-entries [] [] h k = refl
  same-entries [] (y ∷ ys) h k = absurd (cc)
  same-entries (x ∷ xs) [] h k = absurd (cc)
  same-entries (x ∷ xs) (y ∷ ys) h k =
      let first : K × V = (x.0, x.1.value) in
      let second : K × V = (y.0, y.1.value) in
      let pair : first ≡ second = cc in
      let tail : pairs_of xs ≡ pairs_of ys = cc in
      let left : ℕ × Allocation = (0, x.1.allocation) in
      let right : ℕ × Allocation = (0, y.1.allocation) in
      let both : left ≡ right = cc in
      let one : x.1.allocation ≡ y.1.allocation = ap (λ (q : ℕ × Allocation). q.1) both in
      let rest : allocated xs ≡ allocated ys = cc in
      ap (λ (p : K × V). let e : K × Held V = (p.0, record { value = p.1; allocation = x.1.allocation }) in e ∷ xs) pair
      ∙ ap (λ (a : Allocation). let e : K × Held V = (y.0, record { value = y.1.value; allocation = a }) in e ∷ xs) one
      ∙ ap (λ (l : List (K × Held V)). y ∷ l) (same-entries xs ys tail rest)

  pub map-one : CacheStandsForOne → (snapshot : CacheSnapshot) (pairs : List (K × V)) (state other : MapState K V) → MapStandsFor snapshot pairs state
      → MapStandsFor snapshot pairs other → state ≡ other
  map-one cache-one snapshot pairs state other a b =
      let caches : cache_of state ≡ cache_of other =
      sym a.is_cache ∙ ap (λ (s : CacheState). unkeyed s) (cache-one snapshot a.cache b.cache a.stands b.stands) ∙ b.is_cache in
      let entries : state.entries ≡ other.entries =
      same-entries state.entries other.entries (a.pairs_are ∙ sym b.pairs_are) (ap (λ (s : CacheState). s.entries) caches) in
      ap (λ (l : List (K × Held V)). of_cache l (cache_of state)) entries ∙ ap (of_cache other.entries) caches

  -- there are as many pairs as keys in the snapshot
  same-count : (snapshot : CacheSnapshot) (pairs : List (K × V)) (state : MapState K V) → MapStandsFor snapshot pairs state
      → length pairs ≡ length snapshot.keys.items
  same-count snapshot pairs state stands =
      ap length (sym stands.pairs_are)
      ∙ length-map state.entries (λ (e : K × Held V). let p : K × V = (e.0, e.1.value) in p)
      ∙ sym (length-map state.entries (λ (e : K × Held V). let p : ℕ × Allocation = (0, e.1.allocation) in p))
      ∙ ap (λ (s : CacheState). length s.entries) (sym stands.is_cache)
      ∙ length-map stands.cache.entries bare
      ∙ sym (saved-count snapshot stands.cache stands.stands)

  keys-paired : (es : List (K × Held V)) → keys_of (pairs_of es) ≡ keys_of es
  keys-paired [] = refl
  keys-paired (e ∷ es) = ap (λ (l : List K). e.0 ∷ l) (keys-paired es)

-- a key that no other is equal to isn't found
none-found : {K V : Type 0} (test : K → Bool) (ps : List (K × V)) → AllByRecursion (λ (k : K). test k ≡ false) (keys_of ps)
    → is_some (lookup test ps) ≡ false
none-found test [] none = refl
none-found test (p ∷ ps) none = here (test p.0) none.0 (none-found test ps none.1)
  where
    here : (b : Bool) → b ≡ false → is_some (lookup test ps) ≡ false → is_some (cond b (Some p.1) (lookup test ps)) ≡ false
    here true t later = absurd (cc)
    here false t later = later

-- where no key stands twice, none stands again behind a place
none-again : {K V : Type 0} (eq : K → K → Bool) (ps : List (K × V)) (index : ℕ) (pair : K × V) → IsDistinct eq (keys_of ps)
    → slice_get ps index ≡ Some pair → is_some (lookup (eq pair.0) (drop (index + 1) ps)) ≡ false
unfolding IsDistinct
none-again eq [] index pair keys found = absurd (cc)
none-again eq (p ∷ ps) zero pair keys found =
    let same : p ≡ pair = cc in
    ap (λ (x : _ × _). is_some (lookup (eq x.0) ps)) (sym same) ∙ none-found (eq p.0) ps keys.0
none-again eq (p ∷ ps) (suc index) pair keys found =
    let next : suc index + 1 ≡ suc (index + 1) = omega arith in
    ap (λ (n : ℕ). is_some (lookup (eq pair.0) (drop n (p ∷ ps)))) next ∙ none-again eq ps index pair keys.1 found

pub map-none : {K V : Type 0} → BrokenCacheStandsForNone → (eq : K → K → Bool) (snapshot : CacheSnapshot) (pairs : List (K × V)) (state : MapState K V) (fault : MapRestoreFault)
    → IsMapBroken eq snapshot pairs fault → MapStandsFor snapshot pairs state → IsDistinct eq (keys_of state.entries) → fault ≡ Memory
map-none cache-none eq snapshot pairs state (Cache f) broken stands distinct =
    absurd (broken.1 (cache-none snapshot stands.cache f broken.0 stands.stands))
map-none cache-none eq snapshot pairs state Memory broken stands distinct = refl
map-none cache-none eq snapshot pairs state WrongCount broken stands distinct = absurd (broken (same-count snapshot pairs state stands))
map-none cache-none eq snapshot pairs state (SameKey index) broken stands distinct =
    let keys : IsDistinct eq (keys_of pairs) =
    subst (λ l. IsDistinct eq l) (sym (keys-paired state.entries) ∙ ap keys_of stands.pairs_are) distinct in
    let none = none-again eq pairs index broken.pair keys broken.found in
    let again = broken.again in
    absurd (cc)

-- what holds of all results with a fact holds of a result
pub ok-then : {A B : Type 0} (P Q : A → Type 0) (r : Result A B) → IfOk r P → ((a : A) → P a → Q a) → IfOk r Q
ok-then P Q (Ok a) h all = all a h
ok-then P Q (Err b) h all = tt

pub err-then : {A B : Type 0} (P Q : B → Type 0) (r : Result A B) → IfErr r P → ((b : B) → P b → Q b) → IfErr r Q
err-then P Q (Ok a) h all = tt
err-then P Q (Err b) h all = all b h
