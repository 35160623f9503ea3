-- The bits of the links of all records, one more at a time.
use Rattle.std.proofs.Common.{◌≡◌, ℕ, zero, suc, ◌+◌, ◌<◌, ◌≤◌, Bool, true, false, Option, List, [], ◌∷◌, ◌++◌, length, map, take, refl, ap, arith, sym, ◌∙◌}
use Rattle.std.proofs.lemmas.List.{length-map, take_more, take_all}
use Rattle.std.specs.Prelude.{nat_lt}
use Rattle.etagere_links.specs.Edits.{link_at}
use Rattle.etagere_links.specs.Links.{bits_of, link_of}
use Rattle.shelf_records.specs.ListEdits.{AreFitting}
use Rattle.etagere_links.proofs.WalkedLists.{bits-read}

-- the bits of one more link
pub bits-more : {T : Type 0} (link : T → Option ℕ) (xs : List T) (k bits : ℕ) → k < length xs → bits ≡ bits_of (link_at link xs k)
    → take k (map (λ (here : T). bits_of (link here)) xs) ++ bits ∷ [] ≡ take (k + 1) (map (λ (here : T). bits_of (link here)) xs)
bits-more {T} link xs k bits within e =
    let all : List ℕ = map (λ (here : T). bits_of (link here)) xs in
    let below : k < length all = rw (length-map xs (λ (here : T). bits_of (link here))) within in
    ap (λ (b : ℕ). take k all ++ b ∷ []) (e ∙ sym (bits-read link xs k below)) ∙ sym (take_more all k 0 below)

-- the bits of all links
pub bits-all : {T : Type 0} (link : T → Option ℕ) (xs : List T) (k : ℕ) → length xs ≤ k
    → take k (map (λ (here : T). bits_of (link here)) xs) ≡ map (λ (here : T). bits_of (link here)) xs
bits-all {T} link xs k past =
    take_all k (map (λ (here : T). bits_of (link here)) xs) (rw (length-map xs (λ (here : T). bits_of (link here))) past)

-- past the records there is no link
link_at-past : {T : Type 0} (link : T → Option ℕ) (xs : List T) (k : ℕ) → length xs ≤ k → link_of (bits_of (link_at link xs k)) ≡ link_at link xs k
link_at-past link [] k past = refl
link_at-past link (x ∷ xs) zero past = absurd (omega arith)
link_at-past link (x ∷ xs) (suc k) past = link_at-past link xs k (omega arith)

-- links fit where those of all records do
pub fitting-all : {T : Type 0} (link : T → Option ℕ) (xs : List T) (n : ℕ) → length xs ≤ n
    → ((k : ℕ) → k < n → link_of (bits_of (link_at link xs k)) ≡ link_at link xs k) → AreFitting link xs
fitting-all link xs n past fit k = by_test (nat_lt k n) refl
  where
    by_test : (b : Bool) → nat_lt k n ≡ b → link_of (bits_of (link_at link xs k)) ≡ link_at link xs k
    by_test true e = fit k (grind arith)
    by_test false e = link_at-past link xs k (grind arith)
