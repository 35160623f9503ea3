-- What is known of shelves once it was noted that one has changed, once the list lost one or followed one, and with an entry more.
use Rattle.std.proofs.Common.{◌≡◌, ◌≢◌, ℕ, ◌<◌, ◌≤◌, Bool, true, false, List, [], ◌∷◌, length, set, refl, ap, arith, sym, ◌∙◌}
use Rattle.std.proofs.lemmas.List.{length-append, length-set}
use Rattle.std.specs.Prelude.{◌==◌}
use Rattle.shelf_records.specs.declared.records.LinkedShelf.{LinkedShelf}
use Rattle.shelf_notes.specs.Private.Pending.{Notes, forgotten, is_in_use, is_listed, is_noted, is_parked, listed_as, noted_as, parked_as, standing_at, unlisted, with_entry}
use Rattle.shelf_notes.specs.declared.pending.Standing.{Standing}
use Rattle.shelf_notes.proofs.Noted.{standing-added, standing-other, standing-own}

-- what an entry that was written says as before is so of each shelf
field-kept : {X : Type 0} (field : Standing → X) (standing : List Standing) (shelf : ℕ) (one : Standing) (k : ℕ) → shelf < length standing → field one ≡ field (standing_at standing shelf)
    → field (standing_at (set standing shelf one) k) ≡ field (standing_at standing k)
field-kept field standing shelf one k known same = by_number (k == shelf) refl
  where
    by_number : (b : Bool) → (k == shelf) ≡ b → field (standing_at (set standing shelf one) k) ≡ field (standing_at standing k)
    by_number true e = let own : k ≡ shelf = grind arith in rw own (ap field (standing-own standing shelf one known) ∙ same)
    by_number false e = let other : k ≢ shelf = grind arith in ap field (standing-other standing shelf k one other)

-- it was noted that a shelf has changed
module _ (notes : Notes) (shelf : ℕ) (in_use : Bool) (known : shelf < length notes.standing) where
  pub noted-known : length (noted_as shelf in_use notes).standing ≡ length notes.standing
  noted-known = length-set notes.standing shelf (record (standing_at notes.standing shelf) { in_use = in_use; noted = true; parked = false })

  noted-own : standing_at (noted_as shelf in_use notes).standing shelf ≡ record (standing_at notes.standing shelf) { in_use = in_use; noted = true; parked = false }
  noted-own = standing-own notes.standing shelf (record (standing_at notes.standing shelf) { in_use = in_use; noted = true; parked = false }) known

  pub noted-other : (k : ℕ) → k ≢ shelf → standing_at (noted_as shelf in_use notes).standing k ≡ standing_at notes.standing k
  noted-other k other = standing-other notes.standing shelf k (record (standing_at notes.standing shelf) { in_use = in_use; noted = true; parked = false }) other

  pub noted-so : is_noted (noted_as shelf in_use notes) shelf ≡ true
  noted-so = ap (λ (s : Standing). s.noted) noted-own

  pub noted-in_use : is_in_use (noted_as shelf in_use notes) shelf ≡ in_use
  noted-in_use = ap (λ (s : Standing). s.in_use) noted-own

  -- the list has the shelves that it had
  pub noted-listed : (k : ℕ) → is_listed (noted_as shelf in_use notes) k ≡ is_listed notes k
  noted-listed k = field-kept (λ (s : Standing). s.listed) notes.standing shelf (record (standing_at notes.standing shelf) { in_use = in_use; noted = true; parked = false }) k known refl

  -- one that has not changed is another one
  pub unnoted-differs : (k : ℕ) → is_noted (noted_as shelf in_use notes) k ≡ false → k ≢ shelf
  unnoted-differs k none own = let so : is_noted (noted_as shelf in_use notes) k ≡ true = rw own noted-so in absurd (cc)

  pub unnoted-before : (k : ℕ) → is_noted (noted_as shelf in_use notes) k ≡ false → is_noted notes k ≡ false
  unnoted-before k none = sym (ap (λ (s : Standing). s.noted) (noted-other k (unnoted-differs k none))) ∙ none

  -- nor is it parked, and a parked one was parked before
  pub parked-no : is_parked (noted_as shelf in_use notes) shelf ≡ false
  parked-no = ap (λ (s : Standing). s.parked) noted-own

  pub parked-differs : (k : ℕ) → is_parked (noted_as shelf in_use notes) k ≡ true → k ≢ shelf
  parked-differs k so own = let none : is_parked (noted_as shelf in_use notes) k ≡ false = rw own parked-no in absurd (cc)

  pub parked-before : (k : ℕ) → is_parked (noted_as shelf in_use notes) k ≡ true → is_parked notes k ≡ true
  parked-before k so = sym (ap (λ (s : Standing). s.parked) (noted-other k (parked-differs k so))) ∙ so

-- an entry was added, if there was none
module _ (notes : Notes) (shelf : ℕ) (any : LinkedShelf) (next : shelf ≤ length notes.standing) where
  pub entry-standing : (k : ℕ) → standing_at (with_entry shelf any notes).standing k ≡ standing_at notes.standing k
  entry-standing k = by_test (shelf == length notes.standing) refl
    where
      by_test : (b : Bool) → (shelf == length notes.standing) ≡ b → standing_at (with_entry shelf any notes).standing k ≡ standing_at notes.standing k
      by_test true e = rw e (standing-added notes.standing k)
      by_test false e = rw e refl

  pub entry-below : (with_entry shelf any notes).parked_below ≡ notes.parked_below
  entry-below = by_test (shelf == length notes.standing) refl
    where
      by_test : (b : Bool) → (shelf == length notes.standing) ≡ b → (with_entry shelf any notes).parked_below ≡ notes.parked_below
      by_test true e = rw e refl
      by_test false e = rw e refl

  pub entry-known : shelf < length (with_entry shelf any notes).standing
  entry-known = by_test (shelf == length notes.standing) refl
    where
      by_test : (b : Bool) → (shelf == length notes.standing) ≡ b → shelf < length (with_entry shelf any notes).standing
      by_test true e = rw e (omega (arith, next, length-append notes.standing (record { listed = false; in_use = false; noted = false; parked = false } ∷ [])))
      by_test false e = let other : shelf ≢ length notes.standing = grind arith in rw e (omega (arith, next, other))

  pub entry-longer : length notes.standing ≤ length (with_entry shelf any notes).standing
  entry-longer = by_test (shelf == length notes.standing) refl
    where
      by_test : (b : Bool) → (shelf == length notes.standing) ≡ b → length notes.standing ≤ length (with_entry shelf any notes).standing
      by_test true e = rw e (omega (arith, length-append notes.standing (record { listed = false; in_use = false; noted = false; parked = false } ∷ [])))
      by_test false e = rw e (omega arith)

-- the list lost a shelf
module _ (notes : Notes) (shelf : ℕ) (known : shelf < length notes.standing) where
  unlisted-own : standing_at (unlisted shelf notes).standing shelf ≡ record (standing_at notes.standing shelf) { listed = false }
  unlisted-own = standing-own notes.standing shelf (record (standing_at notes.standing shelf) { listed = false }) known

  pub unlisted-known : length (unlisted shelf notes).standing ≡ length notes.standing
  unlisted-known = length-set notes.standing shelf (record (standing_at notes.standing shelf) { listed = false })

  pub unlisted-other : (k : ℕ) → k ≢ shelf → standing_at (unlisted shelf notes).standing k ≡ standing_at notes.standing k
  unlisted-other k other = standing-other notes.standing shelf k (record (standing_at notes.standing shelf) { listed = false }) other

  pub unlisted-so : is_listed (unlisted shelf notes) shelf ≡ false
  unlisted-so = ap (λ (s : Standing). s.listed) unlisted-own

  pub unlisted-in_use : (k : ℕ) → is_in_use (unlisted shelf notes) k ≡ is_in_use notes k
  unlisted-in_use k = field-kept (λ (s : Standing). s.in_use) notes.standing shelf (record (standing_at notes.standing shelf) { listed = false }) k known refl

  pub unlisted-noted : (k : ℕ) → is_noted (unlisted shelf notes) k ≡ is_noted notes k
  unlisted-noted k = field-kept (λ (s : Standing). s.noted) notes.standing shelf (record (standing_at notes.standing shelf) { listed = false }) k known refl

  pub unlisted-parked : (k : ℕ) → is_parked (unlisted shelf notes) k ≡ is_parked notes k
  unlisted-parked k = field-kept (λ (s : Standing). s.parked) notes.standing shelf (record (standing_at notes.standing shelf) { listed = false }) k known refl

-- the list followed a shelf
module _ (notes : Notes) (shelf : ℕ) (one : LinkedShelf) (known : shelf < length notes.standing) where
  listed-own : standing_at (listed_as shelf one notes).standing shelf ≡ record (standing_at notes.standing shelf) { listed = true }
  listed-own = standing-own notes.standing shelf (record (standing_at notes.standing shelf) { listed = true }) known

  pub listed-known : length (listed_as shelf one notes).standing ≡ length notes.standing
  listed-known = length-set notes.standing shelf (record (standing_at notes.standing shelf) { listed = true })

  pub listed-other : (k : ℕ) → k ≢ shelf → standing_at (listed_as shelf one notes).standing k ≡ standing_at notes.standing k
  listed-other k other = standing-other notes.standing shelf k (record (standing_at notes.standing shelf) { listed = true }) other

  pub listed-so : is_listed (listed_as shelf one notes) shelf ≡ true
  listed-so = ap (λ (s : Standing). s.listed) listed-own

  pub listed-in_use : (k : ℕ) → is_in_use (listed_as shelf one notes) k ≡ is_in_use notes k
  listed-in_use k = field-kept (λ (s : Standing). s.in_use) notes.standing shelf (record (standing_at notes.standing shelf) { listed = true }) k known refl

  pub listed-noted : (k : ℕ) → is_noted (listed_as shelf one notes) k ≡ is_noted notes k
  listed-noted k = field-kept (λ (s : Standing). s.noted) notes.standing shelf (record (standing_at notes.standing shelf) { listed = true }) k known refl

  pub listed-parked : (k : ℕ) → is_parked (listed_as shelf one notes) k ≡ is_parked notes k
  listed-parked k = field-kept (λ (s : Standing). s.parked) notes.standing shelf (record (standing_at notes.standing shelf) { listed = true }) k known refl

-- a shelf is noted no more
module _ (notes : Notes) (shelf : ℕ) (left : List ℕ) (known : shelf < length notes.standing) where
  forgotten-own : standing_at (forgotten shelf left notes).standing shelf ≡ record (standing_at notes.standing shelf) { noted = false }
  forgotten-own = standing-own notes.standing shelf (record (standing_at notes.standing shelf) { noted = false }) known

  pub forgotten-known : length (forgotten shelf left notes).standing ≡ length notes.standing
  forgotten-known = length-set notes.standing shelf (record (standing_at notes.standing shelf) { noted = false })

  pub forgotten-other : (k : ℕ) → k ≢ shelf → standing_at (forgotten shelf left notes).standing k ≡ standing_at notes.standing k
  forgotten-other k other = standing-other notes.standing shelf k (record (standing_at notes.standing shelf) { noted = false }) other

  pub forgotten-in_use : (k : ℕ) → is_in_use (forgotten shelf left notes) k ≡ is_in_use notes k
  forgotten-in_use k = field-kept (λ (s : Standing). s.in_use) notes.standing shelf (record (standing_at notes.standing shelf) { noted = false }) k known refl

  pub forgotten-listed : (k : ℕ) → is_listed (forgotten shelf left notes) k ≡ is_listed notes k
  forgotten-listed k = field-kept (λ (s : Standing). s.listed) notes.standing shelf (record (standing_at notes.standing shelf) { noted = false }) k known refl

  pub forgotten-parked : (k : ℕ) → is_parked (forgotten shelf left notes) k ≡ is_parked notes k
  forgotten-parked k = field-kept (λ (s : Standing). s.parked) notes.standing shelf (record (standing_at notes.standing shelf) { noted = false }) k known refl

  -- or is parked
  pub parked-known : length (parked_as shelf left notes).standing ≡ length notes.standing
  parked-known = length-set notes.standing shelf (record (standing_at notes.standing shelf) { parked = true })

  pub parked-other : (k : ℕ) → k ≢ shelf → standing_at (parked_as shelf left notes).standing k ≡ standing_at notes.standing k
  parked-other k other = standing-other notes.standing shelf k (record (standing_at notes.standing shelf) { parked = true }) other

  pub parked-in_use : (k : ℕ) → is_in_use (parked_as shelf left notes) k ≡ is_in_use notes k
  parked-in_use k = field-kept (λ (s : Standing). s.in_use) notes.standing shelf (record (standing_at notes.standing shelf) { parked = true }) k known refl

  pub parked-listed : (k : ℕ) → is_listed (parked_as shelf left notes) k ≡ is_listed notes k
  parked-listed k = field-kept (λ (s : Standing). s.listed) notes.standing shelf (record (standing_at notes.standing shelf) { parked = true }) k known refl

  pub parked-noted : (k : ℕ) → is_noted (parked_as shelf left notes) k ≡ is_noted notes k
  parked-noted k = field-kept (λ (s : Standing). s.noted) notes.standing shelf (record (standing_at notes.standing shelf) { parked = true }) k known refl
