-- The links of one kind of list: which fields of a record they are.
use Rattle.std.specs.Prelude.{◌≡◌, ℕ, Option}

-- the two links of a record in a list, and the record with one of them changed
pub record Family (T : Type 0) : Type 0 where
  pub next : T → Option ℕ
  pub previous : T → Option ℕ
  pub with_next : Option ℕ → T → T
  pub with_previous : Option ℕ → T → T

-- changing a link of the list keeps this of a record
pub record IsUnchanged {T X : Type 0} (family : Family T) (f : T → X) : Type 0 where
  pub next : (link : Option ℕ) (x : T) → f (family.with_next link x) ≡ f x
  pub previous : (link : Option ℕ) (x : T) → f (family.with_previous link x) ≡ f x

-- each link is what it was changed to, and changing one keeps the other
pub record IsFamily {T : Type 0} (family : Family T) : Type 0 where
  pub next : (link : Option ℕ) (x : T) → family.next (family.with_next link x) ≡ link
  pub previous : (link : Option ℕ) (x : T) → family.previous (family.with_previous link x) ≡ link
  pub next_stays : (link : Option ℕ) (x : T)
      → family.next (family.with_previous link x) ≡ family.next x
  pub previous_stays : (link : Option ℕ) (x : T)
      → family.previous (family.with_next link x) ≡ family.previous x
