-- Where shelves get no bucket, nothing changes.
use Rattle.std.proofs.Common.{◌≡◌, ℕ, zero, suc, ◌+◌, ◌-◌, ◌<◌, Some, List, [], ◌∷◌, length, drop, refl, ap, sym, ◌∙◌, arith}
use Rattle.std.proofs.Math.Nat.{zero-div}
use Rattle.etagere_links.specs.Edits.{changed_by}
use Rattle.bucketed_records.specs.declared.records.KeptShelf.{KeptShelf}
use Rattle.bucketed_records.specs.Private.Store.{Stored}
use Rattle.bucketed_store.specs.Private.Grows.{left_after, share, shelf_widened, shelves_widened, widened_kept}
use Rattle.bucketed_store.specs.Private.Returns.{width_of}
use Rattle.bucketed_store.specs.Private.StoreEdits.{first_bucket_of}
use Rattle.bucketed_store.proofs.Widening.Shares.{left-next, share-next, widened-next}

-- a shelf that gets none stays
shelf-stays : (shelves : List KeptShelf) (number : ℕ) → changed_by (Some number) (widened_kept 0 (first_bucket_of shelves number)) shelves ≡ shelves
shelf-stays [] number = refl
shelf-stays (x ∷ xs) zero = refl
shelf-stays (x ∷ xs) (suc number) = ap (λ rest. x ∷ rest) (shelf-stays xs number)

records-stay : (number place : ℕ) (stored : Stored) → shelf_widened number place 0 stored ≡ stored
records-stay number place stored =
    ap (λ shelves. record { shelves = shelves; buckets = stored.buckets; unused = stored.unused }) (shelf-stays stored.shelves number)

-- of an added width of which no shelf gets a bucket nothing is added
pub widened-by-none : (count number place added left : ℕ) (stored : Stored) → count + number ≡ length stored.shelves
    → left_after added left (drop number stored.shelves) ≡ left → shelves_widened count number place added left stored ≡ stored
widened-by-none zero number place added left stored all same = refl
widened-by-none (suc count) number place added left stored all same =
    let within : number < length stored.shelves = omega (arith, all) in
    let none : share added (width_of stored.shelves number) left ≡ 0 = omega (arith, same, share-next added left number stored.shelves within) in
    let kept : left - share added (width_of stored.shelves number) left ≡ left = omega (arith, none) in
    let behind : left_after added left (drop (suc number) stored.shelves) ≡ left =
    ap (λ l. left_after added l (drop (suc number) stored.shelves)) (sym kept) ∙ sym (left-next added left number stored.shelves within) ∙ same in
    let less : left - 0 ≡ left = omega arith in
    widened-next (suc count) count number (suc number) place added left 0 stored refl refl (sym none)
    ∙ ap (λ l. shelves_widened count (suc number) place added l (shelf_widened number place 0 stored)) less
    ∙ ap (shelves_widened count (suc number) place added left) (records-stay number place stored)
    ∙ widened-by-none count (suc number) place added left stored (omega (arith, all)) behind

-- of no added width as much is left as was
pub left-of-none : (left : ℕ) (shelves : List KeptShelf) → left_after 0 left shelves ≡ left
left-of-none left [] = refl
left-of-none left (x ∷ xs) =
    let none : share 0 x.shelf.bucket_width left ≡ 0 = omega (arith, zero-div x.shelf.bucket_width) in
    let kept : left - share 0 x.shelf.bucket_width left ≡ left = omega (arith, none) in
    ap (λ l. left_after 0 l xs) kept ∙ left-of-none left xs
