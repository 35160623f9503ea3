-- What is found of one more shelf or item than before: the widest, the best, and the counts.
use Rattle.std.proofs.Common.{◌≡◌, ℕ, ◌+◌, ◌<◌, ◌≤◌, Bool, true, false, cond, max, nat_lt, Option, None, Some, List, [], ◌∷◌, ◌++◌, append-nil, append_assoc, filter, length, map, refl, ap, arith, sym, ◌∙◌}
use Rattle.std.proofs.lemmas.Bool.Decides.{nat_tests}
use Rattle.std.proofs.lemmas.List.{length-append}
use Rattle.std.specs.Prelude.{◌&&◌, ◌==◌}
use Rattle.etagere_base.specs.Lists.{times, total}
use Rattle.etagere_base.proofs.TimesLemmas.{times-here}
use Rattle.shelf_records.specs.declared.records.LinkedItem.{LinkedItem}
use Rattle.shelf_records.specs.RecordLists.{Records}
use Rattle.shelf_records.specs.AtlasRecords.{height_of, is_empty_at, width_of}
use Rattle.shelf_model.specs.Widest.{greatest}
use Rattle.shelf_search.specs.Private.Asking.{free_items_at, free_of, is_as_wide_at, tallest, tally_of, tally_with}
use Rattle.shelf_search.specs.Private.Opening.{widest_of}
use Rattle.shelf_search.specs.Private.Searching.{better, lowest}
use Rattle.shelf_search.specs.declared.choosing.Candidate.{Candidate}
use Rattle.shelf_search.specs.declared.tallying.Tally.{Tally}

-- the greatest of one more
pub greatest-more : {X : Type 0} (measure : X → ℕ) (xs : List X) (x : X) → greatest measure (xs ++ x ∷ []) ≡ max (greatest measure xs) (measure x)
greatest-more measure [] x = omega arith
greatest-more measure (y ∷ ys) x = omega (arith, greatest-more measure ys x)

pub widest-more : (items : List LinkedItem) (numbers : List ℕ) (n : ℕ) → widest_of items (numbers ++ n ∷ []) ≡ max (widest_of items numbers) (width_of items n)
widest-more items [] n = omega arith
widest-more items (m ∷ ns) n = omega (arith, widest-more items ns n)

-- the total of one more
total-more : {X : Type 0} (measure : X → ℕ) (xs : List X) (x : X) → total measure (xs ++ x ∷ []) ≡ total measure xs + measure x
total-more measure [] x = omega arith
total-more measure (y ∷ ys) x = omega (arith, total-more measure ys x)

-- the total of all is at least that of some and one more
pub total-within : {X : Type 0} (measure : X → ℕ) (xs : List X) (x : X) (ys : List X) → total measure xs + measure x ≤ total measure (xs ++ x ∷ ys)
total-within measure [] x ys = omega arith
total-within measure (z ∷ zs) x ys = omega (arith, total-within measure zs x ys)

-- how many pass a test of one more
count-more : {X : Type 0} (test : X → Bool) (xs : List X) (x : X) → length (filter test (xs ++ x ∷ [])) ≡ length (filter test xs) + cond (test x) 1 0
count-more test [] x = by_test (test x)
  where
    by_test : (b : Bool) → length (cond b (x ∷ []) []) ≡ 0 + cond b 1 0
    by_test true = refl
    by_test false = refl
count-more test (y ∷ ys) x = by_test (test y) (count-more test ys x)
  where
    by_test : (b : Bool) → length (filter test (ys ++ x ∷ [])) ≡ length (filter test ys) + cond (test x) 1 0
        → length (cond b (y ∷ filter test (ys ++ x ∷ [])) (filter test (ys ++ x ∷ []))) ≡ length (cond b (y ∷ filter test ys) (filter test ys)) + cond (test x) 1 0
    by_test true later = omega (arith, later)
    by_test false later = later

-- no more pass a test than there are
pub count-most : {X : Type 0} (test : X → Bool) (xs : List X) → length (filter test xs) ≤ length xs
count-most test [] = omega arith
count-most test (x ∷ xs) = by_test (test x) (count-most test xs)
  where
    by_test : (b : Bool) → length (filter test xs) ≤ length xs → length (cond b (x ∷ filter test xs) (filter test xs)) ≤ length (x ∷ xs)
    by_test true later = omega (arith, later)
    by_test false later = omega (arith, later)

-- what one more offers comes after what all offered
pub lowest-more : (offers : ℕ → Option Candidate) (numbers : List ℕ) (n : ℕ) → lowest (map offers (numbers ++ n ∷ [])) ≡ better (lowest (map offers numbers)) (offers n)
lowest-more offers [] n = by_offer (offers n)
  where
    by_offer : (o : Option Candidate) → better o None ≡ o
    by_offer None = refl
    by_offer (Some candidate) = refl
lowest-more offers (m ∷ ns) n = ap (better (offers m)) (lowest-more offers ns n) ∙ joined (offers m) (lowest (map offers ns)) (offers n)
  where
    joined : (a b c : Option Candidate) → better a (better b c) ≡ better (better a b) c
    joined None b c = refl
    joined (Some a) None c = refl
    joined (Some a) (Some b) None = refl
    joined (Some a) (Some b) (Some c) = by_tests (nat_lt c.rank b.rank) (nat_lt b.rank a.rank) refl refl
      where
        by_tests : (cb ba : Bool) → nat_lt c.rank b.rank ≡ cb → nat_lt b.rank a.rank ≡ ba
            → Some (cond (nat_lt (cond cb c b).rank a.rank) (cond cb c b) a) ≡ Some (cond (nat_lt c.rank (cond ba b a).rank) c (cond ba b a))
        by_tests true true e f =
            let ca : nat_lt c.rank a.rank ≡ true = grind (arith, nat_tests) in
            ap (λ t. Some (cond t c a)) ca ∙ sym (ap (λ t. Some (cond t c b)) e)
        by_tests true false e f = refl
        by_tests false true e f = ap (λ t. Some (cond t b a)) f ∙ sym (ap (λ t. Some (cond t c b)) e)
        by_tests false false e f =
            let ca : nat_lt c.rank a.rank ≡ false = grind (arith, nat_tests) in
            ap (λ t. Some (cond t b a)) f ∙ sym (ap (λ t. Some (cond t c a)) ca)

-- what was found is the lowest of all where nothing ranks lower
pub lowest-settled : (offers : ℕ → Option Candidate) (candidate : Candidate) (rest passed : List ℕ) → ((n : ℕ) (other : Candidate) → 1 ≤ times n rest → offers n ≡ Some other → candidate.rank ≤ other.rank)
    → lowest (map offers passed) ≡ Some candidate → lowest (map offers (passed ++ rest)) ≡ Some candidate
lowest-settled offers candidate [] passed least found = ap (λ (ns : List ℕ). lowest (map offers ns)) (append-nil passed) ∙ found
lowest-settled offers candidate (n ∷ rest) passed least found =
    ap (λ (ns : List ℕ). lowest (map offers ns)) (sym (append_assoc passed (n ∷ []) rest))
    ∙ lowest-settled offers candidate rest (passed ++ n ∷ []) (λ m other stands. least m other (omega (arith, stands))) (lowest-more offers passed n ∙ ap (λ (o : Option Candidate). better o (offers n)) found ∙ stays (offers n) refl)
  where
    lower-not : (other : Candidate) (b : Bool) → nat_lt other.rank candidate.rank ≡ b → candidate.rank ≤ other.rank → Some (cond b other candidate) ≡ Some candidate
    lower-not other true e low =
        let less : other.rank < candidate.rank = grind (arith, nat_tests) in
        absurd (omega (arith, low, less))
    lower-not other false e low = refl

    stays : (o : Option Candidate) → offers n ≡ o → better (Some candidate) o ≡ Some candidate
    stays None e = refl
    stays (Some other) e = lower-not other (nat_lt other.rank candidate.rank) refl (least n other (omega (arith, times-here n rest)) e)

-- one more free item
pub free-more : (items : List LinkedItem) (passed : List ℕ) (n count widest : ℕ) → count ≡ length passed + 1 → widest ≡ max (widest_of items passed) (width_of items n)
    → record { count = count; widest = widest } ≡ free_items_at items (passed ++ n ∷ [])
free-more items passed n count widest counts is =
    let long : count ≡ length (passed ++ n ∷ []) = omega (arith, counts, length-append passed (n ∷ [])) in
    let wide : widest ≡ widest_of items (passed ++ n ∷ []) = is ∙ sym (widest-more items passed n) in
    rw (long, wide) refl

module _ (records : Records) where
  abbrev widest : ℕ → ℕ
  widest shelf = (free_of records shelf).widest

  abbrev tall : ℕ → ℕ
  tall shelf = height_of records.shelves shelf

  abbrev tallest_as : ℕ → List ℕ → ℕ
  tallest_as width shelves = greatest tall (filter (is_as_wide_at records width) shelves)

  -- none is as wide where all are less wide
  none-wide : (width : ℕ) (shelves : List ℕ) → greatest widest shelves < width → tallest_as width shelves ≡ 0
  none-wide width [] narrow = refl
  none-wide width (n ∷ ns) narrow =
      let other : is_as_wide_at records width n ≡ false = grind (arith, nat_tests, narrow) in
      rw other (none-wide width ns (omega (arith, narrow)))

  -- of those as wide one more
  as_wide-more : (width : ℕ) (shelves : List ℕ) (n : ℕ) → tallest_as width (shelves ++ n ∷ []) ≡ max (tallest_as width shelves) (cond (is_as_wide_at records width n) (tall n) 0)
  as_wide-more width [] n = by_test (is_as_wide_at records width n)
    where
      by_test : (b : Bool) → greatest tall (cond b (n ∷ []) []) ≡ max 0 (cond b (tall n) 0)
      by_test true = omega arith
      by_test false = refl
  as_wide-more width (m ∷ ns) n = by_test (is_as_wide_at records width m) (as_wide-more width ns n)
    where
      by_test : (b : Bool) → tallest_as width (ns ++ n ∷ []) ≡ max (tallest_as width ns) (cond (is_as_wide_at records width n) (tall n) 0)
          → greatest tall (cond b (m ∷ filter (is_as_wide_at records width) (ns ++ n ∷ [])) (filter (is_as_wide_at records width) (ns ++ n ∷ [])))
          ≡ max (greatest tall (cond b (m ∷ filter (is_as_wide_at records width) ns) (filter (is_as_wide_at records width) ns))) (cond (is_as_wide_at records width n) (tall n) 0)
      by_test true later = omega (arith, later)
      by_test false later = later

  -- how tall the tallest of the widest is, with one more shelf
  tallest-more : (shelves : List ℕ) (n : ℕ) → tallest (tally_of records shelves) (widest n) (tall n) ≡ tallest_as (max (greatest widest shelves) (widest n)) (shelves ++ n ∷ [])
  tallest-more shelves n =
      sym (as_wide-more (max (greatest widest shelves) (widest n)) shelves n
      ∙ by_tests (greatest widest shelves) refl (nat_lt (greatest widest shelves) (widest n)) refl (nat_lt 0 (widest n) && (widest n == greatest widest shelves)) refl)
    where
      by_tests : (width : ℕ) → greatest widest shelves ≡ width → (wider : Bool) → nat_lt width (widest n) ≡ wider → (same : Bool) → (nat_lt 0 (widest n) && (widest n == width)) ≡ same
          → max (tallest_as (max width (widest n)) shelves) (cond (is_as_wide_at records (max width (widest n)) n) (tall n) 0)
          ≡ cond wider (tall n) (cond same (max (tallest_as width shelves) (tall n)) (tallest_as width shelves))
      by_tests width is true e same f =
          let grown : max width (widest n) ≡ widest n = grind (arith, nat_tests, e) in
          let none : tallest_as (widest n) shelves ≡ 0 = none-wide (widest n) shelves (grind (arith, nat_tests, e, is)) in
          let own : is_as_wide_at records (widest n) n ≡ true = grind (arith, nat_tests, e) in
          rw grown (rw (none, own) (omega arith))
      by_tests width is false e true f =
          let grown : max width (widest n) ≡ width = grind (arith, nat_tests, e) in
          let own : is_as_wide_at records width n ≡ true = grind (arith, nat_tests, f) in
          rw grown (rw own refl)
      by_tests width is false e false f =
          let grown : max width (widest n) ≡ width = grind (arith, nat_tests, e) in
          let own : is_as_wide_at records width n ≡ false = grind (arith, nat_tests, f) in
          rw grown (rw own (omega arith))

  -- counts of equal parts
  abbrev tally : ℕ → ℕ → ℕ → ℕ → ℕ → Tally
  tally shelves empty_shelves free_items width height =
      record { shelves = shelves; empty_shelves = empty_shelves; free_items = free_items; width = width; height = height }

  tally-same : (a b c d e a' b' c' d' e' : ℕ) → a ≡ a' → b ≡ b' → c ≡ c' → d ≡ d' → e ≡ e' → tally a b c d e ≡ tally a' b' c' d' e'
  tally-same a b c d e a' b' c' d' e' h i j k l = rw (h, i, j, k, l) refl

  -- the counts with one more shelf
  pub tally-more : (shelves : List ℕ) (n : ℕ) → tally_with records (tally_of records shelves) n ≡ tally_of records (shelves ++ n ∷ [])
  tally-more shelves n =
      tally-same _ _ _ _ _ _ _ _ _ _
      (sym (length-append shelves (n ∷ [])))
      (sym (count-more (is_empty_at records.shelves) shelves n))
      (sym (total-more (λ shelf. (free_of records shelf).count) shelves n))
      (sym (greatest-more widest shelves n))
      (tallest-more shelves n ∙ ap (λ w. tallest_as w (shelves ++ n ∷ [])) (sym (greatest-more widest shelves n)))
