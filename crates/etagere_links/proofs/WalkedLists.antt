-- The walk by a link of records meets the list that these links spell.
use Rattle.etagere_links.proofs.Chains.{Leads-frame}
use Rattle.std.proofs.Common.{◌≡◌, ◌≢◌, ℕ, zero, suc, ◌<◌, ◌≤◌, Bool, true, false, Option, Some, List, [], ◌∷◌, length, map, refl, ap, arith, ◌∙◌, sym, subst, None}
use Rattle.std.proofs.lemmas.List.{length-map}
use Rattle.std.specs.Prelude.{nat_lt, slice_index, ◌==◌}
use Rattle.etagere_base.specs.Lists.{times}
use Rattle.etagere_links.specs.Chains.{IsList, Leads}
use Rattle.etagere_links.specs.Edits.{link_at}
use Rattle.etagere_links.specs.Links.{no_link, bits_of, link_of}
use Rattle.etagere_links.specs.Walks.{walk_by}
use Rattle.etagere_links.specs.Lists.{HasEachOnce}
use Rattle.etagere_links.proofs.ListEnds.{times-here, times-other}
use Rattle.etagere_links.proofs.WalkChains.{list-walk, IsWalked, walk-leads}

-- the bits of the link of a record
pub bits-read : {T : Type 0} (link : T → Option ℕ) (xs : List T) (k : ℕ) → k < length (map (λ (here : T). bits_of (link here)) xs) → slice_index (map (λ (here : T). bits_of (link here)) xs) k ≡ bits_of (link_at link xs k)
bits-read link [] k within = absurd (omega arith)
bits-read link (x ∷ xs) zero within = refl
bits-read link (x ∷ xs) (suc k) within = bits-read link xs k (omega arith)

-- a list that links spell is what the walk meets
pub walk_by-spelled : {T : Type 0} (link : T → Option ℕ) (records : List T) (start : Option ℕ) (xs : List ℕ) → length records ≤ no_link → ((k : ℕ) → times k xs ≤ 1) → ((k : ℕ) → 1 ≤ times k xs → k < length records) → IsList (link_at link records) start xs → walk_by link records start ≡ record { met = xs; end = no_link }
walk_by-spelled {T} link records start xs few once within list =
    let long : length (map (λ (here : T). bits_of (link here)) records) ≡ length records = length-map records (λ (here : T). bits_of (link here)) in
    list-walk (map (λ (here : T). bits_of (link here)) records) (link_at link records) xs start
    (bits-read link records) (rw long few) once (λ k stands. rw long (within k stands)) list

-- of what stands once in all lists, a part stands once at most
pub once-part : (count : ℕ) (xs : List ℕ) (k part : ℕ) → HasEachOnce count xs → part ≤ times k xs → (part ≤ 1) × (1 ≤ part → k < count)
once-part count xs k part once less = by_test (nat_lt k count) refl
  where
    by_test : (b : Bool) → nat_lt k count ≡ b → (part ≤ 1) × (1 ≤ part → k < count)
    by_test true e = let all : times k xs ≡ 1 = grind (arith, once k) in (omega (arith, all, less), λ stands. grind arith)
    by_test false e = let all : times k xs ≡ 0 = grind (arith, once k) in (omega (arith, all, less), λ stands. absurd (omega (arith, all, less, stands)))

-- what a part of all lists has: each number once at most, and below the count
pub record IsPart (count : ℕ) (xs : List ℕ) : Type 0 where
  pub once : (k : ℕ) → times k xs ≤ 1
  pub within : (k : ℕ) → 1 ≤ times k xs → k < count

pub part-of : (count : ℕ) (all xs : List ℕ) → HasEachOnce count all → ((k : ℕ) → times k xs ≤ times k all) → IsPart count xs
part-of count all xs each less =
    record { once = λ k. (once-part count all k (times k xs) each (less k)).0; within = λ k. (once-part count all k (times k xs) each (less k)).1 }

-- the walk along a list that is part of what stands once
pub walk_by-part : {T : Type 0} (link : T → Option ℕ) (records : List T) (start : Option ℕ) (xs : List ℕ) → length records ≤ no_link → IsPart (length records) xs → IsList (link_at link records) start xs → walk_by link records start ≡ record { met = xs; end = no_link }
walk_by-part link records start xs few part list = walk_by-spelled link records start xs few part.once part.within list

-- a walk that ends at none meets a list that links spell, where those that it follows fit their bits
pub walk_by-leads : {T : Type 0} (link : T → Option ℕ) (records : List T) (start : Option ℕ)
    → ((k : ℕ) → 1 ≤ times k (walk_by link records start).met → link_of (bits_of (link_at link records k)) ≡ link_at link records k)
    → link_of (bits_of start) ≡ start → length records ≤ no_link → (walk_by link records start).end ≡ no_link
    → IsList (link_at link records) start (walk_by link records start).met
walk_by-leads {T} link records start fit start_fits few ends =
    let links : List ℕ = map (λ (here : T). bits_of (link here)) records in
    let long : length links ≡ length records = length-map records (λ (here : T). bits_of (link here)) in
    let walked : IsWalked links (bits_of start) (walk_by link records start) = walk-leads links (bits_of start) (rw long few) in
    let none : link_of (walk_by link records start).end ≡ None = rw ends refl in
    let from : Leads (λ k. link_of (slice_index links k)) start (walk_by link records start).met (link_of (walk_by link records start).end) =
    subst (λ (l : Option ℕ). Leads (λ k. link_of (slice_index links k)) l (walk_by link records start).met (link_of (walk_by link records start).end)) start_fits walked.leads in
    let to : Leads (λ k. link_of (slice_index links k)) start (walk_by link records start).met None =
    subst (λ (l : Option ℕ). Leads (λ k. link_of (slice_index links k)) start (walk_by link records start).met l) none from in
    Leads-frame (λ k. link_of (slice_index links k)) (link_at link records) (walk_by link records start).met start None
    (λ k stands. sym (ap link_of (bits-read link records k (walked.within k stands)) ∙ fit k stands)) to

-- links that spell a list of numbers of records fit their bits
list-fits : (next : ℕ → Option ℕ) (start : Option ℕ) (xs : List ℕ) → ((k : ℕ) → 1 ≤ times k xs → k < no_link) → IsList next start xs
    → (link_of (bits_of start) ≡ start) × ((k : ℕ) → 1 ≤ times k xs → link_of (bits_of (next k)) ≡ next k)
list-fits next start [] small list = (rw list refl, λ k stands. absurd (omega arith))
list-fits next start (x ∷ xs) small list =
    let rest = list-fits next (next x) xs (λ k stands. small k (omega (arith, stands))) list.1 in
    let low : x < no_link = small x (omega (arith, times-here x xs)) in
    let fits : link_of x ≡ Some x = grind arith in
    (rw list.0 fits, λ k stands. by_test k stands (x == k) refl rest)
  where
    by_test : (k : ℕ) → 1 ≤ times k (x ∷ xs) → (b : Bool) → (x == k) ≡ b
        → (link_of (bits_of (next x)) ≡ next x) × ((k : ℕ) → 1 ≤ times k xs → link_of (bits_of (next k)) ≡ next k)
        → link_of (bits_of (next k)) ≡ next k
    by_test k stands true e rest = let same : x ≡ k = grind arith in rw (← same) rest.0
    by_test k stands false e rest =
        let other : x ≢ k = grind arith in
        rest.1 k (omega (arith, stands, times-other k x xs other))

-- the links that a walk along a list that they spell follows fit their bits
pub walk_by-fits : {T : Type 0} (link : T → Option ℕ) (records : List T) (start : Option ℕ) → length records ≤ no_link
    → IsList (link_at link records) start (walk_by link records start).met
    → (link_of (bits_of start) ≡ start)
    × ((k : ℕ) → 1 ≤ times k (walk_by link records start).met → link_of (bits_of (link_at link records k)) ≡ link_at link records k)
walk_by-fits {T} link records start few list =
    let links : List ℕ = map (λ (here : T). bits_of (link here)) records in
    let long : length links ≡ length records = length-map records (λ (here : T). bits_of (link here)) in
    let walked : IsWalked links (bits_of start) (walk_by link records start) = walk-leads links (bits_of start) (rw long few) in
    list-fits (link_at link records) start (walk_by link records start).met (λ k stands. omega (arith, walked.within k stands, long, few)) list
