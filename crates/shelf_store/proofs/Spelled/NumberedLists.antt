-- Lists made of numbers from one on: their elements, how often a number stands in them, and how a loop comes to them.
use Rattle.std.proofs.Common.{◌≡◌, ℕ, zero, suc, ◌+◌, ◌-◌, ◌<◌, ◌≤◌, Option, Some, List, [], ◌∷◌, ◌++◌, length, take, refl, ap, arith, append_assoc, append-nil, ◌∙◌, sym, subst, Bool, true, false, ◌==◌, ◌≢◌}
use Rattle.std.proofs.lemmas.Bool.{eqb-true, eqb-false}
use Rattle.std.specs.Prelude.{slice_get}
use Rattle.std.specs.List.{AllByRecursion}
use Rattle.etagere_base.specs.Lists.{times}
use Rattle.etagere_links.specs.Edits.{changed_at, link_at, field_at}
use Rattle.etagere_links.proofs.ListEnds.{times-here, times-other}
use Rattle.shelf_store.specs.Private.FreshRecords.{numbered}

-- the element of a number
pub numbered-get : {T : Type 0} (make : ℕ → T) (from n k : ℕ) → k < n → slice_get (numbered make from n) k ≡ Some (make (from + k))
numbered-get make from zero k within = absurd (omega arith)
numbered-get make from (suc n) zero within = ap (λ (j : ℕ). Some (make j)) (omega arith)
numbered-get make from (suc n) (suc k) within =
    numbered-get make (suc from) n k (omega arith) ∙ ap (λ (j : ℕ). Some (make j)) (omega arith)

-- the element of a number, from 0 on
pub numbered-at : {T : Type 0} (make : ℕ → T) (n k : ℕ) → k < n → slice_get (numbered make 0 n) k ≡ Some (make k)
numbered-at make n k within = numbered-get make 0 n k within ∙ ap (λ (j : ℕ). Some (make j)) (omega arith)

-- a field of the element of a number
pub numbered-field : {T X : Type 0} (field : T → X) (other : X) (make : ℕ → T) (n k : ℕ) → k < n → field_at field other (numbered make 0 n) k ≡ field (make k)
numbered-field field other make n k within = rw (numbered-at make n k within) refl

-- a link of the element of a number
pub numbered-link : {T : Type 0} (link : T → Option ℕ) (make : ℕ → T) (n k : ℕ) → k < n → link_at link (numbered make 0 n) k ≡ link (make k)
numbered-link link make n k within = rw (numbered-at make n k within) refl

-- as many elements as numbers
pub numbered-length : {T : Type 0} (make : ℕ → T) (from n : ℕ) → length (numbered make from n) ≡ n
numbered-length make from zero = refl
numbered-length make from (suc n) = ap suc (numbered-length make (suc from) n)

-- a fact of what each number makes
pub numbered-each : {T : Type 0} (P : T → Type 0) (make : ℕ → T) (from n : ℕ) → ((k : ℕ) → k < from + n → P (make k)) → AllByRecursion P (numbered make from n)
numbered-each P make from zero each = tt
numbered-each P make from (suc n) each = (each from (omega arith), numbered-each P make (suc from) n (λ k below. each k (omega arith)))

-- what one more number makes stands at the end
numbered-end : {T : Type 0} (make : ℕ → T) (from n end : ℕ) → end ≡ from + n → numbered make from n ++ make end ∷ [] ≡ numbered make from (suc n)
numbered-end make from zero end is = ap (λ (k : ℕ). make k ∷ []) (omega (arith, is))
numbered-end make from (suc n) end is = ap (λ ys. make from ∷ ys) (numbered-end make (suc from) n end (omega (arith, is)))

-- one more number stands at the end
pub numbered-last : (n : ℕ) → numbered (λ number. number) 0 n ++ n ∷ [] ≡ numbered (λ number. number) 0 (suc n)
numbered-last n = numbered-end (λ number. number) 0 n n (omega arith)

-- a number before the first doesn't stand among them
pub times-before : (k from n : ℕ) → k < from → times k (numbered (λ number. number) from n) ≡ 0
times-before k from zero before = refl
times-before k from (suc n) before =
    times-other k from (numbered (λ number. number) (suc from) n) (λ e. omega arith) ∙ times-before k (suc from) n (omega arith)

-- nor one after the last
pub times-after : (k from n : ℕ) → from + n ≤ k → times k (numbered (λ number. number) from n) ≡ 0
times-after k from zero after = refl
times-after k from (suc n) after =
    times-other k from (numbered (λ number. number) (suc from) n) (λ e. omega arith) ∙ times-after k (suc from) n (omega arith)

-- of two different numbers one is less
ne_lt : (k from : ℕ) → (k == from) ≡ false → from ≤ k → suc from ≤ k
ne_lt k from e first = let other : k ≢ from = eqb-false k from e in omega arith

-- each other one stands there once
pub times-within : (k from n : ℕ) → from ≤ k → k < from + n → times k (numbered (λ number. number) from n) ≡ 1
times-within k from zero first last = absurd (omega arith)
times-within k from (suc n) first last = by_test (k == from) refl (λ later. times-within k (suc from) n later (omega arith))
  where
    by_test : (b : Bool) → (k == from) ≡ b → (suc from ≤ k → times k (numbered (λ number. number) (suc from) n) ≡ 1) → times k (numbered (λ number. number) from (suc n)) ≡ 1
    by_test true e later =
        let same : k ≡ from = eqb-true k from e in
        omega (arith, times-before k (suc from) n (omega arith), subst (λ (x : ℕ). times k (x ∷ numbered (λ number. number) (suc from) n) ≡ 1 + times k (numbered (λ number. number) (suc from) n)) same (times-here k (numbered (λ number. number) (suc from) n)))
    by_test false e later =
        times-other k from (numbered (λ number. number) (suc from) n) (λ same. eqb-false k from e (sym same)) ∙ later (ne_lt k from e first)

-- the first of so many
numbered-first : {T : Type 0} (make : ℕ → T) (from n m : ℕ) → n ≡ suc m → numbered make from n ≡ make from ∷ numbered make (suc from) m
numbered-first make from n m is = rw is refl

-- one more is made
pub numbered-more : {T : Type 0} (make : ℕ → T) (column columns : ℕ) (xs : List T) (x : T) → column < columns → x ≡ make column
    → (xs ++ x ∷ []) ++ numbered make (suc column) (columns - suc column) ≡ xs ++ numbered make column (columns - column)
numbered-more make column columns xs x below is =
    rw (append_assoc, is, numbered-first make column (columns - column) (columns - suc column) (omega arith)) refl

-- the first so many, and the one that is written after them
take-changed : {T : Type 0} (k : ℕ) (x : T) (xs : List T) → k < length xs → take (suc k) (changed_at k (λ _. x) xs) ≡ take k xs ++ x ∷ []
take-changed k x [] within = absurd (omega arith)
take-changed zero x (y ∷ ys) within = refl
take-changed (suc k) x (y ∷ ys) within = ap (λ zs. y ∷ zs) (take-changed k x ys (omega arith))

-- one more is written
pub numbered-written : {T : Type 0} (make : ℕ → T) (column columns : ℕ) (xs : List T) (x : T) → column < columns → column < length xs → x ≡ make column
    → take (suc column) (changed_at column (λ _. x) xs) ++ numbered make (suc column) (columns - suc column)
    ≡ take column xs ++ numbered make column (columns - column)
numbered-written {T} make column columns xs x below within is =
    ap (λ (ys : List T). ys ++ numbered make (suc column) (columns - suc column)) (take-changed column x xs within)
    ∙ numbered-more make column columns (take column xs) x below is

-- all are made once the last was
pub numbered-done : {T : Type 0} (make : ℕ → T) (column columns : ℕ) (xs : List T) → columns ≤ column
    → xs ++ numbered make column (columns - column) ≡ numbered make 0 columns → xs ≡ numbered make 0 columns
numbered-done make column columns xs last whole =
    let none : columns - column ≡ 0 = omega (arith, last) in
    sym (append-nil xs) ∙ ap (λ n. xs ++ numbered make column n) (sym none) ∙ whole
