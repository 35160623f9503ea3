-- One step more at the end of many.
use Rattle.std.proofs.Common.{◌≡◌, ℕ, zero, suc, ◌+◌, ◌<◌, ◌++◌, List, [], ◌∷◌, length, take, drop, set, refl, subst, sym, ap, ◌∙◌, arith}
use Rattle.std.proofs.Math.Seq.{take-suc-set}
use Rattle.c_answers.specs.Batches.{GivesOver, StepsOver}

tail_of : {X : Type 0} (n : ℕ) (xs : List X) → drop (suc n) xs ≡ drop 1 (drop n xs)
tail_of zero xs = refl
tail_of (suc n) [] = refl
tail_of (suc n) (x ∷ xs) = tail_of n xs

-- lists that are the same behind a place are so behind the next
pub drop_on : {X : Type 0} (n : ℕ) (xs ys : List X) → drop n xs ≡ drop n ys → drop (n + 1) xs ≡ drop (n + 1) ys
drop_on n xs ys same =
    let next : suc n ≡ n + 1 = omega arith in
    subst (λ m. drop m xs ≡ drop m ys) next (tail_of n xs ∙ ap (drop 1) same ∙ sym (tail_of n ys))

module _ {S X : Type 0} (step : S → X → S → Type 0) where
  steps_more : (old : S) (items : List X) (mid : S) (item : X) (new : S)
      → StepsOver step old items mid → step mid item new → StepsOver step old (items ++ (item ∷ [])) new
  steps_more old [] mid item new done more = (new, subst (λ s. step s item new) done more, refl)
  steps_more old (first ∷ items) mid item new done more =
      (done.0, done.1, steps_more done.0 items mid item new done.2 more)

  -- the steps over the front of some items, and one for the next
  pub steps_on : (old : S) (items : List X) (count : ℕ) (mid : S) (item : X) (new : S) → count < length items
      → take (suc count) items ≡ take count items ++ (item ∷ [])
      → StepsOver step old (take count items) mid → step mid item new → StepsOver step old (take (count + 1) items) new
  steps_on old items count mid item new within front done more =
      let same : suc count ≡ count + 1 = omega arith in
      subst (λ n. StepsOver step old (take n items) new) same (subst (λ xs. StepsOver step old xs new) (sym front) (steps_more old (take count items) mid item new done more))

module _ {S X Y : Type 0} (step : S → X → Y → S → Type 0) where
  gives_more : (old : S) (items : List X) (given : List Y) (mid : S) (item : X) (one : Y) (new : S)
      → GivesOver step old items given mid → step mid item one new → GivesOver step old (items ++ (item ∷ [])) (given ++ (one ∷ [])) new
  gives_more old [] [] mid item one new done more = (new, subst (λ s. step s item one new) done more, refl)
  gives_more old [] (other ∷ given) mid item one new done more = absurd done
  gives_more old (first ∷ items) [] mid item one new done more = absurd done
  gives_more old (first ∷ items) (other ∷ given) mid item one new done more =
      (done.0, done.1, gives_more done.0 items given mid item one new done.2 more)

  -- the steps over the front of some items, and one for the next, which is stored behind what they gave
  pub gives_on : (old : S) (items : List X) (given : List Y) (count : ℕ) (mid : S) (item : X) (one : Y) (new : S) → count < length given
      → take (suc count) items ≡ take count items ++ (item ∷ [])
      → GivesOver step old (take count items) (take count given) mid → step mid item one new
      → GivesOver step old (take (count + 1) items) (take (count + 1) (set given count one)) new
  gives_on old items given count mid item one new within front done more =
      let same : suc count ≡ count + 1 = omega arith in
      subst (λ n. GivesOver step old (take n items) (take n (set given count one)) new) same (subst (λ xs. GivesOver step old xs (take (suc count) (set given count one)) new) (sym front)
      (subst (λ ys. GivesOver step old (take count items ++ (item ∷ [])) ys new) (sym (take-suc-set given count one within))
      (gives_more old (take count items) (take count given) mid item one new done more)))
