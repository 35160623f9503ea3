-- What a test finds among entries, and what the cache has under the ticket of what is found: both stand at the same
-- place.
use Rattle.std.proofs.Common.{◌≡◌, ℕ, zero, suc, ◌+◌, ◌-◌, ◌≤◌, ◌==◌, Bool, true, false, cond, Option, Some, None, List, [], ◌∷◌, map, take, refl, ap, sym, ◌∙◌, subst, arith}
use Rattle.std.proofs.lemmas.Bool.Decides.{nat_tests}
use Rattle.std.specs.Map.{keys_of, lookup, lookup_entry, remove_entry}
use Rattle.std.specs.Option.{option_map_or}
use Rattle.std.specs.Prelude.{is_some, nat_eq, option_map}
use Rattle.lru.specs.LruCache.{promoted}
use Rattle.glyph_shelf.specs.UsedKeys.Keys.{uses_with, uses_without}
use Rattle.shelf_model.specs.Returning.{returned}
use Rattle.etagere_base.specs.Lists.{times}
use Rattle.etagere_base.specs.declared.ids.Allocation.{Allocation}
use Rattle.glyph_shelf.specs.Cache as cache
use Rattle.glyph_shelf.specs.Cache.{CacheState, rectangle_at}
use Rattle.glyph_map.specs.Calls.{asked, revalued, seen, seen_at, used, with_value, without_key}
use Rattle.glyph_map.specs.State.{Held, MapState, cache_by, of_cache}
use Rattle.glyph_map.specs.Private.Lockstep.{joined, tickets_of}
use Rattle.glyph_map.specs.declared.ticketed.Ticketed.{Ticketed}
use Rattle.glyph_shelf.proofs.UsedKeys.Entries.{entry-none, lookup-entry, removed-unknown}
use Rattle.glyph_map.proofs.Entries.{entry-passes}
use Rattle.glyph_map.proofs.Joined.{AreInStep, map_of, rest-in_step}
use Rattle.glyph_map.proofs.Unused.{known-stands}

-- a number equals itself
same-number : (n m : ℕ) → m ≡ n → nat_eq n m ≡ true
same-number n m h = grind (arith, nat_tests)

number-same : (n m : ℕ) → nat_eq n m ≡ true → m ≡ n
number-same n m h = grind (arith, nat_tests)

-- what stands in a list of which no number stands twice stands nowhere else
other-number : (n m : ℕ) (es : List (ℕ × Allocation)) → times m (m ∷ keys_of es) ≤ 1 → 1 ≤ times n (keys_of es) → nat_eq n m ≡ false
other-number n m es once stands = by_test (nat_eq n m) refl
  where
    by_test : (b : Bool) → nat_eq n m ≡ b → b ≡ false
    by_test true h =
        let same = number-same n m h in
        let there : 1 ≤ times m (keys_of es) = subst (λ (k : ℕ). 1 ≤ times k (keys_of es)) (sym same) stands in
        let self : (m == m) ≡ true = grind (arith, nat_tests) in
        let twice : 1 + times m (keys_of es) ≤ 1 = subst (λ (b : Bool). cond b 1 0 + times m (keys_of es) ≤ 1) self once in
        absurd (omega arith)
    by_test false h = refl

none-take : {K X : Type 0} (test : K → Bool) (n : ℕ) (es : List (K × X)) → lookup test es ≡ None → lookup test (take n es) ≡ None
none-take test zero es none = refl
none-take test (suc n) [] none = refl
none-take test (suc n) (e ∷ es) none = here (test e.0) none (none-take test n es)
  where
    here : (b : Bool) → cond b (Some e.1) (lookup test es) ≡ None → (lookup test es ≡ None → lookup test (take n es) ≡ None)
        → cond b (Some e.1) (lookup test (take n es)) ≡ None
    here true h later = absurd (cc)
    here false h later = later h

module _ {K V : Type 0} (test : K → Bool) where
  -- entries under the numbers by which a cache goes over them
  abbrev pub marked : List (K × Held V) → List (ℕ × Allocation)
  marked entries = map (λ (entry : K × Held V). (asked test entry.0, entry.1.allocation)) entries

  marked-lookup : (entries : List (K × Held V)) → lookup (nat_eq 0) (marked entries) ≡ option_map (λ (h : Held V). h.allocation) (lookup test entries)
  marked-lookup [] = refl
  marked-lookup (e ∷ entries) = here (test e.0) (marked-lookup entries)
    where
      here : (b : Bool) → lookup (nat_eq 0) (marked entries) ≡ option_map (λ (h : Held V). h.allocation) (lookup test entries)
          → cond (nat_eq 0 (cond b 0 1)) (Some e.1.allocation) (lookup (nat_eq 0) (marked entries))
          ≡ option_map (λ (h : Held V). h.allocation) (cond b (Some e.1) (lookup test entries))
      here true later = refl
      here false later = later

  -- an entry that is found, and what the cache has under its ticket
  pub record IsFound (es : List (K × Ticketed V)) (cs : List (ℕ × Allocation)) (key : K) (entry : Ticketed V) : Type 0 where
    pub allocation : Allocation
    pub below : lookup_entry (nat_eq entry.ticket) cs ≡ Some (entry.ticket, allocation)
    pub above : lookup_entry test (joined es cs) ≡ Some (key, record { value = entry.value; allocation = allocation })
    pub removed : joined (remove_entry test es) (remove_entry (nat_eq entry.ticket) cs) ≡ remove_entry test (joined es cs)
    pub tickets : AreInStep (remove_entry test es) (remove_entry (nat_eq entry.ticket) cs)
    pub among : (n : ℕ) → is_some (lookup (nat_eq entry.ticket) (take n cs)) ≡ is_some (lookup (nat_eq 0) (take n (marked (joined es cs))))

  found_here : (b : Bool) (e : K × Ticketed V) (es : List (K × Ticketed V)) (o : ℕ × Allocation) (cs : List (ℕ × Allocation)) (key : K) (entry : Ticketed V)
      → test e.0 ≡ b → AreInStep (e ∷ es) (o ∷ cs) → ((t : ℕ) → times t (o.0 ∷ keys_of cs) ≤ 1)
      → cond b (Some e) (lookup_entry test es) ≡ Some (key, entry)
      → (lookup_entry test es ≡ Some (key, entry) → IsFound es cs key entry) → IsFound (e ∷ es) (o ∷ cs) key entry
  found_here true e es o cs key entry t step once found later =
      let same : e ≡ (key, entry) = cc in
      let rest = rest-in_step e es o cs step in
      let at : o.0 ≡ entry.ticket = rest.0 ∙ ap (λ (x : K × Ticketed V). x.1.ticket) same in
      let agrees = same-number entry.ticket o.0 at in
      record {
        allocation = o.1;
        below = rw agrees (ap (λ (k : ℕ). let p : ℕ × Allocation = (k, o.1) in Some p) at);
        above = rw t (ap (λ (x : K × Ticketed V). let p : K × Held V = (x.0, record { value = x.1.value; allocation = o.1 }) in Some p) same);
        removed = rw (t, agrees) refl;
        tickets = rw (t, agrees) rest.1;
        among = λ n. first n agrees;
      }
    where
      first : (n : ℕ) → nat_eq entry.ticket o.0 ≡ true
          → is_some (lookup (nat_eq entry.ticket) (take n (o ∷ cs))) ≡ is_some (lookup (nat_eq 0) (take n (marked (joined (e ∷ es) (o ∷ cs)))))
      first zero agrees = refl
      first (suc n) agrees = rw (agrees, t) refl
  found_here false e es o cs key entry t step once found later =
      let rest = rest-in_step e es o cs step in
      let is = later found in
      let known : is_some (option_map (λ (a : Allocation). a.rectangle) (lookup (nat_eq entry.ticket) cs)) ≡ true =
      ap (λ (x : Option Allocation). is_some (option_map (λ (a : Allocation). a.rectangle) x))
      (lookup-entry (nat_eq entry.ticket) cs ∙ ap (option_map (λ (f : ℕ × Allocation). f.1)) is.below) in
      let differs = other-number entry.ticket o.0 cs (once o.0) (known-stands entry.ticket cs known) in
      record {
        allocation = is.allocation;
        below = rw differs is.below;
        above = rw t is.above;
        removed = rw (t, differs) (ap (λ (l : List (K × Held V)). (e.0, record { value = e.1.value; allocation = o.1 }) ∷ l) is.removed);
        tickets = rw (t, differs) (both rest.0 is.tickets);
        among = λ n. next n differs is.among;
      }
    where
      both : o.0 ≡ e.1.ticket → AreInStep (remove_entry test es) (remove_entry (nat_eq entry.ticket) cs)
          → o.0 ∷ keys_of (remove_entry (nat_eq entry.ticket) cs) ≡ e.1.ticket ∷ tickets_of (remove_entry test es)
      both one others = cc

      next : (n : ℕ) → nat_eq entry.ticket o.0 ≡ false
          → ((n : ℕ) → is_some (lookup (nat_eq entry.ticket) (take n cs)) ≡ is_some (lookup (nat_eq 0) (take n (marked (joined es cs)))))
          → is_some (lookup (nat_eq entry.ticket) (take n (o ∷ cs))) ≡ is_some (lookup (nat_eq 0) (take n (marked (joined (e ∷ es) (o ∷ cs)))))
      next zero differs among = refl
      next (suc n) differs among = rw (differs, t) (among n)

  pub found-both : (es : List (K × Ticketed V)) (cs : List (ℕ × Allocation)) (key : K) (entry : Ticketed V)
      → AreInStep es cs → ((t : ℕ) → times t (keys_of cs) ≤ 1) → lookup_entry test es ≡ Some (key, entry) → IsFound es cs key entry
  found-both [] cs key entry step once found = absurd (cc)
  found-both (e ∷ es) [] key entry step once found = absurd (cc)
  found-both (e ∷ es) (o ∷ cs) key entry step once found =
      found_here (test e.0) e es o cs key entry refl step once found
      (found-both es cs key entry (rest-in_step e es o cs step).1 (λ t. rarer t (once t)))
    where
      rarer : (t : ℕ) → times t (o.0 ∷ keys_of cs) ≤ 1 → times t (keys_of cs) ≤ 1
      rarer t once = omega arith

module _ {K V : Type 0} (test : K → Bool) (es : List (K × Ticketed V)) (c new : CacheState) (key : K) (entry : Ticketed V)
    (is : IsFound test es c.entries key entry) (found : lookup_entry test es ≡ Some (key, entry)) where
  lookup-below : lookup (nat_eq entry.ticket) c.entries ≡ Some is.allocation
  lookup-below = lookup-entry (nat_eq entry.ticket) c.entries ∙ ap (option_map (λ (f : ℕ × Allocation). f.1)) is.below

  lookup-above : lookup test (joined es c.entries) ≡ Some (record { value = entry.value; allocation = is.allocation })
  lookup-above = lookup-entry test (joined es c.entries) ∙ ap (option_map (λ (f : K × Held V). f.1)) is.above

  lookup-marked : lookup (nat_eq 0) (marked test (joined es c.entries)) ≡ Some is.allocation
  lookup-marked = marked-lookup test (joined es c.entries) ∙ ap (option_map (λ (h : Held V). h.allocation)) lookup-above

  -- the rectangle, and the value
  pub rectangle-is : rectangle_at c entry.ticket ≡ Some is.allocation.rectangle
  rectangle-is = ap (option_map (λ (a : Allocation). a.rectangle)) lookup-below

  pub seen-is : seen_at test (map_of es c) ≡ Some (is.allocation.rectangle, entry.value)
  seen-is = ap (option_map seen) lookup-above

  promoted-both : joined (promoted test es) (promoted (nat_eq entry.ticket) c.entries) ≡ promoted test (joined es c.entries)
  promoted-both =
      let e : K × Ticketed V = (key, entry) in
      let o : ℕ × Allocation = (entry.ticket, is.allocation) in
      let h : K × Held V = (key, record { value = entry.value; allocation = is.allocation }) in
      ap (λ (x : Option (K × Ticketed V)). joined (option_map_or (λ (f : K × Ticketed V). f ∷ remove_entry test es) x es) (promoted (nat_eq entry.ticket) c.entries)) found
      ∙ ap (λ (x : Option (ℕ × Allocation)). joined (e ∷ remove_entry test es) (option_map_or (λ (f : ℕ × Allocation). f ∷ remove_entry (nat_eq entry.ticket) c.entries) x c.entries)) is.below
      ∙ ap (λ (l : List (K × Held V)). h ∷ l) is.removed
      ∙ ap (λ (x : Option (K × Held V)). option_map_or (λ (f : K × Held V). f ∷ remove_entry test (joined es c.entries)) x (joined es c.entries)) (sym is.above)

  -- the same uses, counted by the ticket or by the test
  uses-same : (uses : Option ℕ) → option_map (uses_with entry.ticket c.entries) uses
      ≡ option_map (uses_with 0 (marked test (joined es c.entries))) uses
  uses-same None = refl
  uses-same (Some n) =
      ap (λ (b : Bool). Some (cond b n (cond (is_some (lookup (nat_eq entry.ticket) c.entries)) (suc n) n))) (is.among n)
      ∙ ap (λ (x : Option Allocation). Some (cond (is_some (lookup (nat_eq 0) (take n (marked test (joined es c.entries))))) n (cond (is_some x) (suc n) n)))
      (lookup-below ∙ sym lookup-marked)

  left-same : (uses : Option ℕ) → option_map (uses_without entry.ticket c.entries) uses
      ≡ option_map (uses_without 0 (marked test (joined es c.entries))) uses
  left-same None = refl
  left-same (Some n) = ap (λ (b : Bool). Some (cond b (n - 1) n)) (is.among n)

  -- it was used
  pub used-step : (left : List (K × Ticketed V)) → left ≡ promoted test es → new ≡ cache.used c entry.ticket → AreInStep left new.entries
  used-step left above below =
      ap (λ (s : CacheState). keys_of s.entries) below
      ∙ ap (λ (x : Option (ℕ × Allocation)). keys_of (option_map_or (λ (f : ℕ × Allocation). f ∷ remove_entry (nat_eq entry.ticket) c.entries) x c.entries)) is.below
      ∙ ap (λ (l : List ℕ). entry.ticket ∷ l) is.tickets
      ∙ sym (ap (λ (x : Option (K × Ticketed V)). tickets_of (option_map_or (λ (f : K × Ticketed V). f ∷ remove_entry test es) x es)) found)
      ∙ sym (ap tickets_of above)

  used-state : MapState K V → Option ℕ → List (K × Held V) → MapState K V
  used-state state uses entries = record { entries = entries; capacity = state.capacity; atlas = state.atlas; used_in_frame = uses }

  pub used-map : (left : List (K × Ticketed V)) → left ≡ promoted test es → new ≡ cache.used c entry.ticket → map_of left new ≡ used test (map_of es c)
  unfolding used-state
  used-map left above below =
      ap (λ (l : List (K × Ticketed V)). map_of l new) above
      ∙ ap (map_of (promoted test es)) below
      ∙ ap (used-state (map_of es c) (option_map (uses_with entry.ticket c.entries) c.used_in_frame)) promoted-both
      ∙ ap (λ (u : Option ℕ). used-state (map_of es c) u (promoted test (joined es c.entries))) (uses-same c.used_in_frame)

  -- it went
  gone-below : new ≡ cache.without_key c entry.ticket
      → new ≡ (let s : CacheState = record { entries = remove_entry (nat_eq entry.ticket) c.entries; capacity = c.capacity; atlas = returned c.atlas is.allocation.id; used_in_frame = option_map (uses_without entry.ticket c.entries) c.used_in_frame } in s)
  gone-below below = below ∙ ap (λ (x : Option Allocation). (option_map_or (λ (a : Allocation). let s : CacheState = record { entries = remove_entry (nat_eq entry.ticket) c.entries; capacity = c.capacity; atlas = returned c.atlas a.id; used_in_frame = option_map (uses_without entry.ticket c.entries) c.used_in_frame } in s) x c)) lookup-below

  pub removed-step : (left : List (K × Ticketed V)) → left ≡ remove_entry test es → new ≡ cache.without_key c entry.ticket → AreInStep left new.entries
  removed-step left above below =
      ap (λ (s : CacheState). keys_of s.entries) (gone-below below) ∙ is.tickets ∙ sym (ap tickets_of above)

  left-state : Option ℕ → List (K × Held V) → MapState K V
  left-state uses entries = record { entries = entries; capacity = c.capacity; atlas = returned c.atlas is.allocation.id; used_in_frame = uses }

  pub removed-map : (left : List (K × Ticketed V)) → left ≡ remove_entry test es → new ≡ cache.without_key c entry.ticket
      → map_of left new ≡ without_key test (map_of es c)
  unfolding left-state
  removed-map left above below =
      ap (λ (l : List (K × Ticketed V)). map_of l new) above
      ∙ ap (map_of (remove_entry test es)) (gone-below below)
      ∙ ap (left-state (option_map (uses_without entry.ticket c.entries) c.used_in_frame)) is.removed
      ∙ ap (λ (u : Option ℕ). left-state u (remove_entry test (joined es c.entries))) (left-same c.used_in_frame)
      ∙ ap (λ (x : Option Allocation). of_cache (remove_entry test (joined es c.entries))
      (option_map_or (λ (a : Allocation). let s : CacheState = record { entries = remove_entry (nat_eq 0) (marked test (joined es c.entries)); capacity = c.capacity; atlas = returned c.atlas a.id; used_in_frame = option_map (uses_without 0 (marked test (joined es c.entries))) c.used_in_frame } in s) x (cache_by (asked test) (map_of es c)))) (sym lookup-marked)

  -- another value is kept under it
  pub revalued-step : (left : List (K × Ticketed V)) (value : V)
      → left ≡ (key, record { ticket = entry.ticket; value = value }) ∷ remove_entry test es → new ≡ cache.used c entry.ticket
      → AreInStep left new.entries
  revalued-step left value above below =
      ap (λ (s : CacheState). keys_of s.entries) below
      ∙ ap (λ (x : Option (ℕ × Allocation)). keys_of (option_map_or (λ (f : ℕ × Allocation). f ∷ remove_entry (nat_eq entry.ticket) c.entries) x c.entries)) is.below
      ∙ ap (λ (l : List ℕ). entry.ticket ∷ l) is.tickets
      ∙ sym (ap tickets_of above)

  pub revalued-map : (left : List (K × Ticketed V)) (value : V)
      → left ≡ (key, record { ticket = entry.ticket; value = value }) ∷ remove_entry test es → new ≡ cache.used c entry.ticket
      → map_of left new ≡ with_value test value (used test (map_of es c))
  unfolding used-state
  revalued-map left value above below =
      let e : K × Ticketed V = (key, record { ticket = entry.ticket; value = value }) in
      let h : K × Held V = (key, record { value = value; allocation = is.allocation }) in
      let state = map_of es c in
      let rest = remove_entry test (joined es c.entries) in
      let passes : test key ≡ true = entry-passes test es (key, entry) found in
      let uses = option_map (uses_with 0 (marked test (joined es c.entries))) c.used_in_frame in
      ap (λ (l : List (K × Ticketed V)). map_of l new) above
      ∙ ap (map_of (e ∷ remove_entry test es)) below
      ∙ ap (λ (x : Option (ℕ × Allocation)). used-state state (option_map (uses_with entry.ticket c.entries) c.used_in_frame)
      (joined (e ∷ remove_entry test es) (option_map_or (λ (f : ℕ × Allocation). f ∷ remove_entry (nat_eq entry.ticket) c.entries) x c.entries))) is.below
      ∙ ap (λ (l : List (K × Held V)). used-state state (option_map (uses_with entry.ticket c.entries) c.used_in_frame) (h ∷ l)) is.removed
      ∙ ap (λ (u : Option ℕ). used-state state u (h ∷ rest)) (uses-same c.used_in_frame)
      ∙ ap (λ (b : Bool). used-state state uses (cond b (h ∷ rest) ((key, record { value = entry.value; allocation = is.allocation }) ∷ revalued test value rest))) (sym passes)
      ∙ ap (λ (x : Option (K × Held V)). used-state state uses (revalued test value (option_map_or (λ (f : K × Held V). f ∷ rest) x (joined es c.entries)))) (sym is.above)

-- where nothing is found, nothing changes
module _ {K V : Type 0} (test : K → Bool) (state : MapState K V) (none : lookup test state.entries ≡ None) where
  unmarked : lookup (nat_eq 0) (marked test state.entries) ≡ None
  unmarked = marked-lookup test state.entries ∙ ap (option_map (λ (h : Held V). h.allocation)) none

  pub used-none : used test state ≡ state
  used-none =
      ap (λ (x : Option (K × Held V)). of_cache (option_map_or (λ (f : K × Held V). f ∷ remove_entry test state.entries) x state.entries) (cache.used (cache_by (asked test) state) 0))
      (entry-none test state.entries none)
      ∙ ap (λ (u : Option ℕ). let s : MapState K V = record { entries = state.entries; capacity = state.capacity; atlas = state.atlas; used_in_frame = u } in s)
      (uses state.used_in_frame)
    where
      uses : (u : Option ℕ) → option_map (uses_with 0 (marked test state.entries)) u ≡ u
      uses None = refl
      uses (Some n) =
          ap (λ (x : Option Allocation). Some (cond (is_some x) n (cond (is_some (lookup (nat_eq 0) (marked test state.entries))) (suc n) n)))
          (none-take (nat_eq 0) n (marked test state.entries) unmarked)
          ∙ ap (λ (x : Option Allocation). Some (cond (is_some x) (suc n) n)) unmarked

  pub without-none : without_key test state ≡ state
  without-none =
      ap (λ (x : Option Allocation). of_cache (remove_entry test state.entries)
      (option_map_or (λ (a : Allocation). let s : CacheState = record { entries = remove_entry (nat_eq 0) (marked test state.entries); capacity = state.capacity; atlas = returned state.atlas a.id; used_in_frame = option_map (uses_without 0 (marked test state.entries)) state.used_in_frame } in s) x (cache_by (asked test) state))) unmarked
      ∙ ap (λ (l : List (K × Held V)). of_cache l (cache_by (asked test) state)) (removed-unknown test state.entries none)

-- a key that was used has the same rectangle and value
pub seen-used : {K V : Type 0} (test : K → Bool) (state : MapState K V) → seen_at test (used test state) ≡ seen_at test state
seen-used {K} {V} test state = by_entry (lookup_entry test state.entries) refl
  where
    by_entry : (o : Option (K × Held V)) → lookup_entry test state.entries ≡ o
        → option_map seen (lookup test (option_map_or (λ (f : K × Held V). f ∷ remove_entry test state.entries) o state.entries))
        ≡ option_map seen (lookup test state.entries)
    by_entry None at = refl
    by_entry (Some e) at =
        ap (λ (b : Bool). option_map seen (cond b (Some e.1) (lookup test (remove_entry test state.entries)))) (entry-passes test state.entries e at)
        ∙ ap (option_map seen) (sym (lookup-entry test state.entries ∙ ap (option_map (λ (f : K × Held V). f.1)) at))
