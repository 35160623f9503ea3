-- A free list of a shelf has just its free items where each of its members is one and they are as many.
use Rattle.std.proofs.Common.{◌≡◌, ◌≢◌, ℕ, zero, suc, ◌≤◌, Bool, true, false, not, List, [], ◌∷◌, length, filter, refl, arith, ◌∙◌}
use Rattle.std.specs.Prelude.{◌==◌, if◌then◌else◌}
use Rattle.std.specs.List.{AllByRecursion}
use Rattle.etagere_base.specs.Lists.{times}
use Rattle.etagere_links.proofs.ListEnds.{times-other}
use Rattle.shelf_records.specs.declared.records.LinkedItem.{LinkedItem}
use Rattle.shelf_records.specs.RecordLists.{Entry}
use Rattle.shelf_records.specs.AtlasRecords.{is_allocated_at}
use Rattle.shelf_records.specs.Private.Judging.{AreOwn, is_own, is_own_free}
use Rattle.shelf_records.specs.StandsFor.{ListsFree, free_present}
use Rattle.shelf_records.proofs.Judged.EqualTimes.{length-fewer, times-as_long}
use Rattle.shelf_records.proofs.Recorded.Members.{Each-times}

-- how often a number that passes the test stands among those that do
pub times-passed : (p : ℕ → Bool) (k : ℕ) (xs : List ℕ) → p k ≡ true → times k (filter p xs) ≡ times k xs
times-passed p k [] passes = refl
times-passed p k (x ∷ xs) passes = by_test (p x) refl (times-passed p k xs passes)
  where
    by_test : (b : Bool) → p x ≡ b → times k (filter p xs) ≡ times k xs → times k (if b then x ∷ filter p xs else filter p xs) ≡ times k (x ∷ xs)
    by_test true e later = omega (arith, later)
    by_test false e later =
        let other : x ≢ k = λ same. let both : p x ≡ true = rw same passes in cc in
        omega (arith, later, times-other k x xs other)

-- no other stands there
pub times-failed : (p : ℕ → Bool) (k : ℕ) (xs : List ℕ) → p k ≡ false → times k (filter p xs) ≡ 0
times-failed p k [] fails = refl
times-failed p k (x ∷ xs) fails = by_test (p x) refl (times-failed p k xs fails)
  where
    by_test : (b : Bool) → p x ≡ b → times k (filter p xs) ≡ 0 → times k (if b then x ∷ filter p xs else filter p xs) ≡ 0
    by_test true e later =
        let other : x ≢ k = λ same. let both : p x ≡ false = rw same fails in cc in
        omega (arith, later, times-other k x (filter p xs) other)
    by_test false e later = later

-- a member keeps what each does
pub each-stands : (P : ℕ → Type 0) (k : ℕ) (xs : List ℕ) → 1 ≤ times k xs → AllByRecursion P xs → P k
each-stands P k [] stands each = absurd (omega arith)
each-stands P k (x ∷ xs) stands each = by_test (x == k) refl (each-stands P k xs)
  where
    by_test : (b : Bool) → (x == k) ≡ b → (1 ≤ times k xs → AllByRecursion P xs → P k) → P k
    by_test true e later = let same : x ≡ k = grind arith in rw (← same) each.0
    by_test false e later =
        let other : x ≢ k = grind arith in
        later (omega (arith, stands, times-other k x xs other)) each.1

module _ (items : List LinkedItem) (marks : List Bool) (entry : Entry) where
  -- a free item of the shelf stands once among its free ones
  once-free : AreOwn items marks entry → (k : ℕ) → is_own_free items marks entry.number k ≡ true → times k (free_present items entry.items) ≡ 1
  once-free own k free = by_own (is_own items marks entry.number k) (is_allocated_at items k) refl refl
    where
      by_own : (o a : Bool) → is_own items marks entry.number k ≡ o → is_allocated_at items k ≡ a → times k (free_present items entry.items) ≡ 1
      by_own true false e f =
          let one : times k entry.items ≡ 1 = rw e at (own k) in
          times-passed (λ member. not (is_allocated_at items member)) k entry.items (rw f refl) ∙ one
      by_own true true e f = let no : is_own_free items marks entry.number k ≡ false = rw (e, f) refl in absurd (cc)
      by_own false a e f = let no : is_own_free items marks entry.number k ≡ false = rw e refl in absurd (cc)

  -- what stands among the free ones of the shelf is a free item of it
  free-own : AreOwn items marks entry → (k : ℕ) → 1 ≤ times k (free_present items entry.items) → is_own_free items marks entry.number k ≡ true
  free-own own k stands = by_own (is_own items marks entry.number k) (is_allocated_at items k) refl refl
    where
      by_own : (o a : Bool) → is_own items marks entry.number k ≡ o → is_allocated_at items k ≡ a → is_own_free items marks entry.number k ≡ true
      by_own true false e f = rw (e, f) refl
      by_own o true e f =
          let none : times k (free_present items entry.items) ≡ 0 = times-failed (λ member. not (is_allocated_at items member)) k entry.items (rw f refl) in
          absurd (omega (arith, none, stands))
      by_own false false e f =
          let none : times k entry.items ≡ 0 = rw e at (own k) in
          let same : times k (free_present items entry.items) ≡ times k entry.items = times-passed (λ member. not (is_allocated_at items member)) k entry.items (rw f refl) in
          absurd (omega (arith, none, same, stands))

  -- a free list that has just the free items has free items of the shelf
  pub lists-own : AreOwn items marks entry → ListsFree items entry → AllByRecursion (λ member. is_own_free items marks entry.number member ≡ true) entry.free_list
  lists-own own lists =
      Each-times (λ member. is_own_free items marks entry.number member ≡ true) entry.free_list
      (λ k stands. free-own own k (omega (arith, stands, lists k)))

  -- it is as long as there are free items
  pub lists-length : ListsFree items entry → length entry.free_list ≡ length (free_present items entry.items)
  lists-length lists =
      omega (
        arith,
        length-fewer entry.free_list (free_present items entry.items) (λ k. omega (arith, lists k)),
        length-fewer (free_present items entry.items) entry.free_list (λ k. omega (arith, lists k)),
      )

  -- a free list of as many free items of the shelf, each once, has just these
  pub own-lists : AreOwn items marks entry → ((k : ℕ) → times k entry.free_list ≤ 1)
      → AllByRecursion (λ member. is_own_free items marks entry.number member ≡ true) entry.free_list
      → length entry.free_list ≡ length (free_present items entry.items) → ListsFree items entry
  own-lists own once each long = times-as_long entry.free_list (free_present items entry.items) fewer long
    where
      fewer : (k : ℕ) → times k entry.free_list ≤ times k (free_present items entry.items)
      fewer k = by_count (times k entry.free_list) refl
        where
          by_count : (n : ℕ) → times k entry.free_list ≡ n → times k entry.free_list ≤ times k (free_present items entry.items)
          by_count zero e = omega (arith, e)
          by_count (suc n) e =
              let free : is_own_free items marks entry.number k ≡ true =
              each-stands (λ member. is_own_free items marks entry.number member ≡ true) k entry.free_list (omega (arith, e)) each in
              omega (arith, once k, once-free own k free)
