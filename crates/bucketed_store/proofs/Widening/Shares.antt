-- How many buckets shelves get one after another, and what that leaves.
use Rattle.std.proofs.Common.{◌≡◌, ℕ, zero, suc, ◌+◌, ◌-◌, ◌<◌, ◌≤◌, Some, List, [], ◌∷◌, length, drop, refl, arith}
use Rattle.etagere_links.specs.Edits.{changed_by}
use Rattle.bucketed_records.specs.declared.records.KeptShelf.{KeptShelf}
use Rattle.bucketed_records.specs.Private.Store.{Stored}
use Rattle.bucketed_store.specs.Private.Grows.{left_after, share, shelf_widened, shelves_widened}
use Rattle.bucketed_store.specs.Private.Returns.{width_of}

-- no more is left than was
pub left-le : (added left : ℕ) (xs : List KeptShelf) → left_after added left xs ≤ left
left-le added left [] = omega arith
left-le added left (x ∷ xs) = omega (arith, left-le added (left - share added x.shelf.bucket_width left) xs)

-- what a shelf and those behind it leave
pub left-next : (added left n : ℕ) (xs : List KeptShelf) → n < length xs
    → left_after added left (drop n xs) ≡ left_after added (left - share added (width_of xs n) left) (drop (suc n) xs)
left-next added left n [] within = absurd (omega (arith, within))
left-next added left zero (x ∷ xs) within = refl
left-next added left (suc n) (x ∷ xs) within = left-next added left n xs (omega (arith, within))

-- a shelf and those behind it get what it gets and what those get
pub share-next : (added left n : ℕ) (xs : List KeptShelf) → n < length xs
    → share added (width_of xs n) left + (left - share added (width_of xs n) left - left_after added (left - share added (width_of xs n) left) (drop (suc n) xs))
    ≡ left - left_after added left (drop n xs)
share-next added left n xs within =
    omega (arith, left-next added left n xs within, left-le added (left - share added (width_of xs n) left) (drop (suc n) xs))

-- what stands behind an element stays where that is changed
pub drop-changed : (change : KeptShelf → KeptShelf) (n : ℕ) (xs : List KeptShelf) → drop (suc n) (changed_by (Some n) change xs) ≡ drop (suc n) xs
drop-changed change n [] = refl
drop-changed change zero (x ∷ xs) = refl
drop-changed change (suc n) (x ∷ xs) = drop-changed change n xs

-- a shelf is widened before those behind it
pub widened-next : (steps rest number next place added left count : ℕ) (stored : Stored) → steps ≡ suc rest → next ≡ suc number → count ≡ share added (width_of stored.shelves number) left
    → shelves_widened steps number place added left stored ≡ shelves_widened rest next place added (left - count) (shelf_widened number place count stored)
widened-next steps rest number next place added left count stored e f g = rw (e, f, g) refl
