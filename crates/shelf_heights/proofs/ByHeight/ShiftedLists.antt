-- Lists of which a part is written, as one that moves up by one: what is read where.
use Rattle.std.proofs.Common.{◌≡◌, ◌≢◌, ℕ, zero, suc, ◌+◌, ◌-◌, ◌<◌, ◌≤◌, Bool, true, false, List, [], ◌∷◌, ◌++◌, drop, get_or, length, set, take, ap, arith, refl, sym, ◌∙◌}
use Rattle.std.proofs.lemmas.Bool.Decides.{nat_tests}
use Rattle.std.proofs.Math.Seq.{get_or-append_right}
use Rattle.std.specs.Prelude.{insert, nat_lt, remove}
use Rattle.std.proofs.lemmas.List.{ext_get_or, get_or-drop, get_or-set_other, get_or-set_same, get_or-take, get_or_append_left, length-append, length-drop, length-set, length-take-le}
use Rattle.std.proofs.lemmas.List.Edits.{get_or-insert_above, get_or-insert_at, get_or-insert_below, length-insert}
use borrow.Rule.Slice.PartMut.{mid_of, post_of, put_mid}

-- what is read in a part
pub mid-at : (a k i : ℕ) (xs : List ℕ) → i < k → get_or (mid_of a k xs) i 0 ≡ get_or xs (a + i) 0
mid-at a k i xs within = get_or-take k (drop a xs) i 0 within ∙ get_or-drop a xs i 0

-- and there are so many
pub length-mid : (a k : ℕ) (xs : List ℕ) → a + k ≤ length xs → length (mid_of a k xs) ≡ k
length-mid a k xs within = length-take-le k (drop a xs) (omega (arith, within, length-drop a xs))

module _ (a k : ℕ) (xs ys : List ℕ) (starts : a ≤ length xs) where
  -- there are so many before the part
  front : length (take a xs) ≡ a
  front = length-take-le a xs starts

  -- before the part all stand as they did
  pub put-before : (n : ℕ) → n < a → get_or (put_mid a k xs ys) n 0 ≡ get_or xs n 0
  put-before n before = get_or_append_left (take a xs) (ys ++ post_of a k xs) 0 n (omega (arith, before, front)) ∙ get_or-take a xs n 0 before

  -- in the part stands what was written
  pub put-within : (n : ℕ) → n < length ys → get_or (put_mid a k xs ys) (a + n) 0 ≡ get_or ys n 0
  put-within n within =
      let reached : a + n - length (take a xs) ≡ n = omega (arith, front) in
      get_or-append_right (take a xs) (ys ++ post_of a k xs) (a + n) 0 (omega (arith, front))
      ∙ ap (λ m. get_or (ys ++ post_of a k xs) m 0) reached
      ∙ get_or_append_left ys (post_of a k xs) 0 n within

  -- behind the part all stand as they did
  pub put-behind : (n : ℕ) → length ys ≡ k → a + k ≤ n → get_or (put_mid a k xs ys) n 0 ≡ get_or xs n 0
  put-behind n same behind =
      let reached : a + (k + (n - length (take a xs) - length ys)) ≡ n = omega (arith, front, behind, same) in
      get_or-append_right (take a xs) (ys ++ post_of a k xs) n 0 (omega (arith, front, behind))
      ∙ get_or-append_right ys (post_of a k xs) (n - length (take a xs)) 0 (omega (arith, front, behind, same))
      ∙ get_or-drop k (drop a xs) (n - length (take a xs) - length ys) 0
      ∙ get_or-drop a xs (k + (n - length (take a xs) - length ys)) 0
      ∙ ap (λ m. get_or xs m 0) reached

  -- there are as many as before
  pub length-put : length ys ≡ k → a + k ≤ length xs → length (put_mid a k xs ys) ≡ length xs
  length-put same within =
      omega (
        arith,
        length-append (take a xs) (ys ++ post_of a k xs),
        length-append ys (post_of a k xs),
        front,
        length-drop k (drop a xs),
        length-drop a xs,
        same,
        within,
      )

  -- where those in the part moved up by one, each stands one position behind where it stood
  pub put-risen : (n : ℕ) → length ys ≡ k → ((m : ℕ) → m + 1 < k → get_or ys (m + 1) 0 ≡ get_or (mid_of a k xs) m 0)
      → a ≤ n → n + 1 < a + k → get_or (put_mid a k xs ys) (n + 1) 0 ≡ get_or xs n 0
  put-risen n same moved after before =
      let next : n + 1 ≡ a + (n - a + 1) = omega (arith, after) in
      let here : a + (n - a) ≡ n = omega (arith, after) in
      ap (λ m. get_or (put_mid a k xs ys) m 0) next
      ∙ put-within (n - a + 1) (omega (arith, same, before, after))
      ∙ moved (n - a) (omega (arith, before, after))
      ∙ mid-at a k (n - a) xs (omega (arith, before, after))
      ∙ ap (λ m. get_or xs m 0) here

-- where all from a position on moved up by one behind a list that was longer by one, a number that is written there was put in
pub shifted-insert : (old shifted : List ℕ) (index number : ℕ) → index ≤ length old → length shifted ≡ length old + 1
    → ((n : ℕ) → n < index → get_or shifted n 0 ≡ get_or (old ++ number ∷ []) n 0)
    → ((n : ℕ) → index ≤ n → n < length old → get_or shifted (n + 1) 0 ≡ get_or (old ++ number ∷ []) n 0)
    → set shifted index number ≡ insert old index number
shifted-insert old shifted index number within longer below above =
    ext_get_or 0 (set shifted index number) (insert old index number)
    (omega (arith, length-set shifted index number, length-insert old index number within, longer)) by_place
  where
    by_place : (n : ℕ) → n < length (set shifted index number) → get_or (set shifted index number) n 0 ≡ get_or (insert old index number) n 0
    by_place n inside = by_cases (nat_lt n index) (nat_lt index n) refl refl
      where
        by_cases : (b d : Bool) → nat_lt n index ≡ b → nat_lt index n ≡ d → get_or (set shifted index number) n 0 ≡ get_or (insert old index number) n 0
        by_cases true d e f =
            let less : n < index = grind (arith, nat_tests) in
            let other : n ≢ index = λ same. omega (arith, less, same) in
            get_or-set_other shifted index n number 0 other
            ∙ below n less
            ∙ get_or_append_left old (number ∷ []) 0 n (omega (arith, less, within))
            ∙ sym (get_or-insert_below old index number 0 n less within)
        by_cases false false e f =
            let same : n ≡ index = grind (arith, nat_tests) in
            ap (λ m. get_or (set shifted index number) m 0) same
            ∙ get_or-set_same shifted index number 0 (omega (arith, longer, within))
            ∙ sym (get_or-insert_at old index number 0 within)
            ∙ ap (λ m. get_or (insert old index number) m 0) (sym same)
        by_cases false true e f =
            let more : index < n = grind (arith, nat_tests) in
            let other : n ≢ index = λ same. omega (arith, more, same) in
            let next : n ≡ n - 1 + 1 = omega (arith, more) in
            let size : n - 1 < length old = omega (arith, inside, length-set shifted index number, longer, more) in
            get_or-set_other shifted index n number 0 other
            ∙ ap (λ m. get_or shifted m 0) next
            ∙ above (n - 1) (omega (arith, more)) size
            ∙ get_or_append_left old (number ∷ []) 0 (n - 1) size
            ∙ sym (get_or-insert_above old index number 0 (n - 1) (omega (arith, more)) within)
            ∙ ap (λ m. get_or (insert old index number) m 0) (sym next)

-- what was moved behind the others is left out
pub moved-out : (xs : List ℕ) (number last : ℕ) → last ≡ length xs → take last (insert xs last number) ≡ xs
moved-out [] number zero is = refl
moved-out [] number (suc last) is = absurd (omega (arith, is))
moved-out (x ∷ xs) number zero is = absurd (omega (arith, is))
moved-out (x ∷ xs) number (suc last) is = ap (λ (l : List ℕ). x ∷ l) (moved-out xs number last (omega (arith, is)))

-- and so is the last one
pub without-last : (xs : List ℕ) (index last : ℕ) → index ≡ last → last + 1 ≡ length xs → take last xs ≡ remove xs index
without-last [] index last same is = absurd (omega (arith, is))
without-last (x ∷ []) zero zero same is = refl
without-last (x ∷ y ∷ xs) zero zero same is = absurd (omega (arith, is))
without-last (x ∷ xs) zero (suc last) same is = absurd (omega (arith, same))
without-last (x ∷ xs) (suc index) zero same is = absurd (omega (arith, same))
without-last (x ∷ xs) (suc index) (suc last) same is = ap (λ (l : List ℕ). x ∷ l) (without-last xs index last (omega (arith, same)) (omega (arith, is)))
