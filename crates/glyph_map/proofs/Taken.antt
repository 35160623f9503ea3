-- Entries that come out of a map one after another, the least recently used first.
use Rattle.std.proofs.Common.{◌≡◌, ℕ, suc, ◌+◌, ◌-◌, ◌≤◌, Some, None, List, [], ◌∷◌, ◌++◌, length, take, drop, reverse, ap, sym, ◌∙◌, subst, arith}
use Rattle.std.specs.List.{slice_get}
use Rattle.std.proofs.lemmas.List.{append_assoc, length-append, length-drop, length-map, length-reverse, length-take, map-append, reverse-append, take-append-drop, take-take, take_at}
use Rattle.lru.specs.LruCache.{last_entry}
use Rattle.glyph_map.specs.Private.Evicting.{unticketed}
use Rattle.glyph_map.specs.declared.ticketed.Ticketed.{Ticketed}

-- what stands last, and what stands before it
pub last-split : {X : Type 0} (xs : List X) (x : X) → slice_get xs (length xs - 1) ≡ Some x → xs ≡ take (length xs - 1) xs ++ x ∷ []
last-split [] x h = absurd (cc)
last-split (y ∷ []) x h = let same : y ≡ x = cc in ap (λ z. z ∷ []) same
last-split {X} (y ∷ z ∷ xs) x h =
    let n : ℕ = length xs in
    let at : length (y ∷ z ∷ xs) - 1 ≡ suc (length (z ∷ xs) - 1) = omega arith in
    let here : slice_get (z ∷ xs) (length (z ∷ xs) - 1) ≡ Some x = rw at at h in
    rw at (ap (λ (l : List X). y ∷ l) (last-split (z ∷ xs) x here))

pub last-some : {X : Type 0} (xs : List X) → 1 ≤ length xs → slice_get xs (length xs - 1) ≡ None → ⊥
last-some [] h e = omega arith
last-some (y ∷ []) h e = cc
last-some (y ∷ z ∷ xs) h e =
    let at : length (y ∷ z ∷ xs) - 1 ≡ suc (length (z ∷ xs) - 1) = omega arith in
    let more : 1 ≤ length (z ∷ xs) = omega arith in
    last-some (z ∷ xs) more (rw at at e)

module _ {K V : Type 0} where
  -- so many have come out of these, and these are left
  pub record AreTaken (old : List (K × Ticketed V)) (count : ℕ) (taken : List (K × V)) (left : List (K × Ticketed V)) : Type 0 where
    pub left_is : left ≡ take (length old - count) old
    pub taken_is : taken ≡ take count (reverse (unticketed old))
    pub few : count ≤ length old

  pub left-length : (old : List (K × Ticketed V)) (count : ℕ) (taken : List (K × V)) (left : List (K × Ticketed V))
      → AreTaken old count taken left → length left ≡ length old - count
  left-length old count taken left is = ap length is.left_is ∙ length-take (length old - count) old ∙ omega arith

  -- one more comes out
  pub taken-more : (old : List (K × Ticketed V)) (count : ℕ) (taken : List (K × V)) (left : List (K × Ticketed V))
      (e : K × Ticketed V) → AreTaken old count taken left → last_entry left ≡ Some e
      → AreTaken old (count + 1) (taken ++ (e.0, e.1.value) ∷ []) (take (length left - 1) left)
  taken-more old count taken left e is at =
      let m : ℕ = length old - count in
      let pair : K × Ticketed V → K × V = λ x. (x.0, x.1.value) in
      let rest : List (K × Ticketed V) = take (length left - 1) left in
      let gone : List (K × V) = reverse (unticketed (drop m old)) in
      let few = is.few in
      let long : length left ≡ m = ap length is.left_is ∙ length-take m old ∙ omega arith in
      let some : 1 ≤ length left = some_left left e at in
      let split : unticketed left ≡ unticketed rest ++ (e.0, e.1.value) ∷ [] =
      ap unticketed (last-split left e at) ∙ map-append pair rest (e ∷ []) in
      let order : reverse (unticketed old) ≡ gone ++ ((e.0, e.1.value) ∷ reverse (unticketed rest)) =
      ap (λ (l : List (K × Ticketed V)). reverse (unticketed l)) (sym (take-append-drop m old))
      ∙ ap reverse (map-append pair (take m old) (drop m old))
      ∙ reverse-append (unticketed (take m old)) (unticketed (drop m old))
      ∙ ap (λ (l : List (K × Ticketed V)). gone ++ reverse (unticketed l)) (sym is.left_is)
      ∙ ap (λ (l : List (K × V)). gone ++ reverse l) split
      ∙ ap (λ (l : List (K × V)). gone ++ l) (reverse-append (unticketed rest) ((e.0, e.1.value) ∷ [])) in
      let short : length gone ≡ count = omega (arith, length-reverse (unticketed (drop m old)), length-map (drop m old) pair, length-drop m old) in
      let now : taken ≡ gone = is.taken_is ∙ ap (take count) order ∙ take_at gone ((e.0, e.1.value) ∷ reverse (unticketed rest)) count short in
      let longer : length (gone ++ (e.0, e.1.value) ∷ []) ≡ count + 1 = omega (arith, length-append gone ((e.0, e.1.value) ∷ [])) in
      record {
        left_is = ap (λ (l : List (K × Ticketed V)). take (length l - 1) l) is.left_is ∙ shorter old m (omega arith) ∙ ap (λ (k : ℕ). take k old) (omega arith);
        taken_is = ap (λ (l : List (K × V)). l ++ (e.0, e.1.value) ∷ []) now
            ∙ sym (take_at (gone ++ (e.0, e.1.value) ∷ []) (reverse (unticketed rest)) (count + 1) longer)
            ∙ ap (take (count + 1)) (append_assoc gone ((e.0, e.1.value) ∷ []) (reverse (unticketed rest)) ∙ sym order);
        few = omega arith;
      }
    where
      some_left : (l : List (K × Ticketed V)) (x : K × Ticketed V) → slice_get l (length l - 1) ≡ Some x → 1 ≤ length l
      some_left [] x h = absurd (cc)
      some_left (y ∷ l) x h = omega arith

      shorter : (l : List (K × Ticketed V)) (m : ℕ) → m ≤ length l → take (length (take m l) - 1) (take m l) ≡ take (m - 1) l
      shorter l m few =
          ap (λ (k : ℕ). take (k - 1) (take m l)) (length-take m l ∙ omega arith)
          ∙ take-take (m - 1) m l (omega arith)

  -- the same, in lists that are equal to these
  pub taken-next : (old : List (K × Ticketed V)) (count : ℕ) (taken longer : List (K × V)) (left rest : List (K × Ticketed V))
      (key : K) (entry : Ticketed V) → AreTaken old count taken left → last_entry left ≡ Some (key, entry)
      → longer ≡ taken ++ (key, entry.value) ∷ [] → rest ≡ take (length left - 1) left → AreTaken old (count + 1) longer rest
  taken-next old count taken longer left rest key entry is at listed after =
      subst (λ (l : List (K × V)). AreTaken old (count + 1) l rest) (sym listed)
      (subst (AreTaken old (count + 1) (taken ++ (key, entry.value) ∷ [])) (sym after) (taken-more old count taken left (key, entry) is at))
