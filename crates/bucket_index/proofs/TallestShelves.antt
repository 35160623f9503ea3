-- How tall the shelves of a block are at most and at least, and which are passed over as too low or too tall.
use Rattle.std.proofs.Common.{◌≡◌, ℕ, zero, suc, ◌+◌, ◌%◌, ◌^◌, ◌<◌, ◌≤◌, Bool, true, false, cond, Option, None, Some, List, [], ◌∷◌, ◌++◌, ◌==◌, get_or, length, min, take, refl, ap, subst, sym, ◌∙◌, arith}
use Rattle.std.proofs.Math.Seq.{take-append_seam, take-suc}
use Rattle.std.proofs.lemmas.List.{length-append, length-take-le}
use Rattle.std.proofs.lemmas.Bool.{eqb-true, leb-false, leb-true, ltb-false, ltb-true}
use Rattle.std.proofs.lemmas.Bool.Decides.{nat_tests}
use Rattle.std.proofs.lemmas.Option.{slice_get-get_or, slice_get_within}
use Rattle.std.specs.Prelude.{◌-◌, nat_le, nat_lt, not, ◌&&◌, option_map, slice_get}
use Rattle.etagere_base.specs.Least.{Found, better}
use Rattle.etagere_base.specs.declared.sides.Sides.{Sides}
use Rattle.etagere_links.specs.Edits.{changed_by}
use Rattle.bucketed_records.specs.declared.records.KeptShelf.{KeptShelf}
use Rattle.bucketed_records.specs.declared.records.LinkedBucket.{LinkedBucket}
use Rattle.bucket_index.specs.declared.heights.Heights.{Heights}
use Rattle.bucket_index.specs.declared.searching.Wanted.TheVariants.{Exact}
use Rattle.bucket_index.specs.Private.Heights.{AreAllWithin, AreBelow, AreOutside, AreUnfit, AreWithin, HeightRange, IsUnfit, IsWithin, begun, begun_at, block_of, is_first, no_heights, widened, with_height}
use Rattle.bucket_index.specs.Private.Searching.{exact_in, found_in, kept_waste, limit_beside, most_waste}
use Rattle.bucket_index.proofs.KnownBlocks.{read-changed}
use Rattle.bucket_index.proofs.LimitedWaste.{at_rank}
use Rattle.bucket_index.proofs.Searched.{better-same}

-- one number is not another
apart : (k n : ℕ) → k ≡ n → (k == n) ≡ false → ⊥
apart k n same h = grind arith

-- a shelf that is too low counts for nothing
waste-low : (adds : Bool) (sides : Sides) (kept : KeptShelf) → kept.shelf.height < sides.across → kept_waste adds sides kept ≡ None
waste-low adds sides kept low =
    let fails : nat_le sides.across kept.shelf.height ≡ false = grind (arith, nat_tests) in
    ap (λ (t : Bool). cond ((t && (nat_le sides.along kept.shelf.bucket_width && not (adds && nat_lt sides.across (kept.shelf.height - sides.across)))) && nat_le sides.along kept.widest_room) (Some (kept.shelf.height - sides.across)) None) fails

-- a shelf that is too low or wastes as much as was found leaves that
pub unfit-leaves : (adds : Bool) (sides : Sides) (kept : KeptShelf) (best : Option Found) (number : ℕ) → IsUnfit sides.across (limit_beside adds sides best) kept
    → better best (option_map (at_rank number) (kept_waste adds sides kept)) ≡ best
unfit-leaves adds sides kept best number unfit = by_height (nat_le sides.across kept.shelf.height) refl
  where
    wasted : ℕ
    wasted = kept.shelf.height - sides.across

    little : (adding : Bool) → not (adding && nat_lt sides.across wasted) ≡ true → most_waste adding sides < 2 ^ 32 - 1 → wasted < most_waste adding sides
    little true fits most = by_more (nat_lt sides.across wasted) refl
      where
        by_more : (t : Bool) → nat_lt sides.across wasted ≡ t → wasted < most_waste true sides
        by_more true e = absurd (cc)
        by_more false e = omega (arith, most, ltb-false sides.across wasted e)
    little false fits most = absurd (omega (arith, most))

    by_best : (found : Option Found) → best ≡ found → not (adds && nat_lt sides.across wasted) ≡ true → (limit_beside adds sides found < 2 ^ 32 - 1) → limit_beside adds sides found ≤ wasted → better found (Some (at_rank number wasted)) ≡ found
    by_best None e fits most over = absurd (omega (arith, over, little adds fits most))
    by_best (Some one) e fits most over = by_less (nat_lt wasted one.rank) refl
      where
        by_less : (t : Bool) → nat_lt wasted one.rank ≡ t → better (Some one) (Some (at_rank number wasted)) ≡ Some one
        by_less true less = absurd (by_most (nat_le (most_waste adds sides) wasted) refl)
          where
            by_most : (t : Bool) → nat_le (most_waste adds sides) wasted ≡ t → ⊥
            by_most true e = omega (arith, leb-true (most_waste adds sides) wasted e, ltb-true wasted one.rank less, most, little adds fits (omega (arith, leb-true (most_waste adds sides) wasted e, ltb-true wasted one.rank less, most)))
            by_most false e = omega (arith, leb-false (most_waste adds sides) wasted e, ltb-true wasted one.rank less, over)
        by_less false less = rw less refl

    by_test : (fits : Bool) → not (adds && nat_lt sides.across wasted) ≡ fits → (s t u : Bool) → (limit_beside adds sides best < 2 ^ 32 - 1) → limit_beside adds sides best ≤ wasted
        → better best (option_map (at_rank number) (cond ((s && (t && fits)) && u) (Some wasted) None)) ≡ best
    by_test true e true true true most over = by_best best refl e most over
    by_test true e false t u most over = better-same best
    by_test true e true false u most over = better-same best
    by_test true e true true false most over = better-same best
    by_test false e false t u most over = better-same best
    by_test false e true false u most over = better-same best
    by_test false e true true u most over = better-same best

    by_height : (t : Bool) → nat_le sides.across kept.shelf.height ≡ t → better best (option_map (at_rank number) (kept_waste adds sides kept)) ≡ best
    by_height false low =
        ap (λ (o : Option ℕ). better best (option_map (at_rank number) o)) (waste-low adds sides kept (leb-false sides.across kept.shelf.height low)) ∙ better-same best
    by_height true tall =
        let fit = unfit (leb-true sides.across kept.shelf.height tall) in
        by_test (not (adds && nat_lt sides.across wasted)) refl (nat_le sides.across kept.shelf.height) (nat_le sides.along kept.shelf.bucket_width) (nat_le sides.along kept.widest_room) fit.0 (omega (arith, fit.1))

-- a shelf that is too low or wastes something has no exact bucket
pub exact-unfit : (sides : Sides) (buckets : List LinkedBucket) (number : ℕ) (kept : KeptShelf) → IsUnfit sides.across 1 kept → exact_in sides buckets number kept ≡ None
exact-unfit sides buckets number kept unfit =
    ap (λ (t : Bool). cond (t && nat_le sides.along kept.widest_room) (found_in (Exact sides.along) buckets number kept) None) (by_test (kept.shelf.height == sides.across) refl)
  where
    by_test : (t : Bool) → (kept.shelf.height == sides.across) ≡ t → (kept.shelf.height == sides.across) ≡ false
    by_test true e =
        let same = eqb-true kept.shelf.height sides.across e in
        absurd (omega (arith, same, (unfit (omega (arith, same))).1))
    by_test false e = e

-- no shelf of a block fits whose shelves are too low or too tall, up to where it ends
pub unfit-of : (size across limit too_tall number block : ℕ) (ranges : List HeightRange) (shelves : List KeptShelf) (kept : KeptShelf) → 0 < across → too_tall ≡ min (across + limit) (2 ^ 32 - 1) → AreWithin size ranges shelves
    → block < length ranges → AreOutside across too_tall ranges block → block_of size number ≡ block → slice_get shelves number ≡ Some kept → IsUnfit across limit kept
unfit-of size across limit too_tall number block ranges shelves kept some most known within outside same at = λ over.
    let range = get_or ranges block no_heights in
    let is = slice_get-get_or ranges block no_heights within in
    let there = known number kept range at (ap (slice_get ranges) same ∙ is) in
    let far = outside range is (omega (arith, over, there.tallest)) in
    (omega (arith, most, far.0), omega (arith, most, far.0, far.1, there.lowest (omega (arith, some, over))))

-- shelves up to one number, and those behind it, don't fit
pub unfit-both : (across limit from at behind : ℕ) (shelves : List KeptShelf) → AreUnfit across limit from at shelves → AreUnfit across limit at behind shelves → AreUnfit across limit from behind shelves
unfit-both across limit from at behind shelves before after = λ number kept on under there. by_test number kept on under there (nat_lt number at) refl
  where
    by_test : (number : ℕ) (kept : KeptShelf) → from ≤ number → number < behind → slice_get shelves number ≡ Some kept → (t : Bool) → nat_lt number at ≡ t → IsUnfit across limit kept
    by_test number kept on under there true e = before number kept on (ltb-true number at e) there
    by_test number kept on under there false e = after number kept (ltb-false number at e) under there

-- what is known of a block once a shelf has another height, or is one more
within-changed : (size n height : ℕ) (ranges : List HeightRange) (shelves others : List KeptShelf) → ((number : ℕ) (kept : KeptShelf) → slice_get others number ≡ Some kept → (number == n) ≡ true → kept.shelf.height ≡ height)
    → ((number : ℕ) (kept : KeptShelf) → slice_get others number ≡ Some kept → (number == n) ≡ false → slice_get shelves number ≡ Some kept) → AreWithin size ranges shelves
    → AreWithin size (changed_by (Some (block_of size n)) (widened height) ranges) others
within-changed size n height ranges shelves others one rest within = λ number kept range at is. by_number number kept range at is (number == n) refl
  where
    by_number : (number : ℕ) (kept : KeptShelf) (range : HeightRange) → slice_get others number ≡ Some kept → slice_get (changed_by (Some (block_of size n)) (widened height) ranges) (block_of size number) ≡ Some range → (t : Bool) → (number == n) ≡ t
        → IsWithin range kept
    by_number number kept range at is true e =
        let same = one number kept at e in
        read-changed (widened height) ranges (block_of size n) (block_of size number) range is (λ before _ _ new. rw new (record { lowest = λ some. omega (arith, same); tallest = omega (arith, same) }))
        (λ other _. absurd (other (ap (block_of size) (eqb-true number n e))))
    by_number number kept range at is false e =
        read-changed (widened height) ranges (block_of size n) (block_of size number) range is
        (λ before stood here new.
        let was = within number kept before (rest number kept at e) (ap (slice_get ranges) here ∙ stood) in
        rw new (record { lowest = λ some. omega (arith, was.lowest some); tallest = omega (arith, was.tallest) }))
        (λ _ stood. within number kept range (rest number kept at e) stood)

pub all-changed : (n height : ℕ) (heights : Heights) (shelves others : List KeptShelf) → ((number : ℕ) (kept : KeptShelf) → slice_get others number ≡ Some kept → (number == n) ≡ true → kept.shelf.height ≡ height)
    → ((number : ℕ) (kept : KeptShelf) → slice_get others number ≡ Some kept → (number == n) ≡ false → slice_get shelves number ≡ Some kept) → AreAllWithin heights shelves → AreAllWithin (with_height n height heights) others
all-changed n height heights shelves others one rest within = record {
  small = within-changed 16 n height heights.small shelves others one rest within.small;
  large = within-changed 256 n height heights.large shelves others one rest within.large;
}

-- a shelf that changed is known by the height that it has
pub below-changed : (n height : ℕ) (change : KeptShelf → KeptShelf) (heights : Heights) (shelves : List KeptShelf) → ((x : KeptShelf) → (change x).shelf.height ≡ height) → AreBelow heights shelves
    → AreBelow (with_height n height heights) (changed_by (Some n) change shelves)
below-changed n height change heights shelves has below = λ known. all-changed n height heights shelves (changed_by (Some n) change shelves) here beside (below known)
  where
    here : (number : ℕ) (kept : KeptShelf) → slice_get (changed_by (Some n) change shelves) number ≡ Some kept → (number == n) ≡ true → kept.shelf.height ≡ height
    here number kept at e =
        read-changed change shelves n number kept at (λ old _ _ is. ap (λ (k : KeptShelf). k.shelf.height) is ∙ has old) (λ other _. absurd (other (eqb-true number n e)))

    beside : (number : ℕ) (kept : KeptShelf) → slice_get (changed_by (Some n) change shelves) number ≡ Some kept → (number == n) ≡ false → slice_get shelves number ≡ Some kept
    beside number kept at e = read-changed change shelves n number kept at (λ _ _ same _. absurd (apart number n same e)) (λ _ there. there)

-- shelves are known that are as tall as those that stood there, or have no height
pub below-under : (heights : Heights) (shelves others : List KeptShelf)
    → ((P : Type 0) (number : ℕ) (kept : KeptShelf) → slice_get others number ≡ Some kept → ((old : KeptShelf) → slice_get shelves number ≡ Some old → (0 < kept.shelf.height → kept.shelf.height ≡ old.shelf.height) → P) → P)
    → AreBelow heights shelves → AreBelow heights others
below-under heights shelves others under below = λ known. record {
  small = λ number kept range at is. under (IsWithin range kept) number kept at (λ old there same. flatter range kept old same ((below known).small number old range there is));
  large = λ number kept range at is. under (IsWithin range kept) number kept at (λ old there same. flatter range kept old same ((below known).large number old range there is));
}
  where
    flatter : (range : HeightRange) (kept old : KeptShelf) → (0 < kept.shelf.height → kept.shelf.height ≡ old.shelf.height) → IsWithin range old → IsWithin range kept
    flatter range kept old same is = record {
      lowest = λ some. omega (arith, same some, is.lowest (omega (arith, some, same some)));
      tallest = by_test (nat_lt 0 kept.shelf.height) refl;
    }
      where
        by_test : (t : Bool) → nat_lt 0 kept.shelf.height ≡ t → kept.shelf.height ≤ range.tallest
        by_test true e = omega (arith, is.tallest, same (ltb-true 0 kept.shelf.height e))
        by_test false e = omega (arith, ltb-false 0 kept.shelf.height e)

-- a shelf that changed is as tall, or has no height
pub below-kept : (s : ℕ) (change : KeptShelf → KeptShelf) (heights : Heights) (shelves : List KeptShelf) → ((x : KeptShelf) → 0 < (change x).shelf.height → (change x).shelf.height ≡ x.shelf.height) → AreBelow heights shelves
    → AreBelow heights (changed_by (Some s) change shelves)
below-kept s change heights shelves keeps = below-under heights shelves (changed_by (Some s) change shelves)
    (λ P number kept at found. read-changed change shelves s number kept at
    (λ old there same is. let new = ap (λ (k : KeptShelf). k.shelf.height) is in found old (ap (slice_get shelves) same ∙ there) (λ some. new ∙ keeps old (omega (arith, some, new)))) (λ _ there. found kept there (λ _. refl)))

-- some of the shelves are known
pub below-some : (heights : Heights) (shelves left : List KeptShelf) → ((n : ℕ) (kept : KeptShelf) → slice_get left n ≡ Some kept → slice_get shelves n ≡ Some kept) → AreBelow heights shelves → AreBelow heights left
below-some heights shelves left some = below-under heights shelves left (λ P number kept at found. found kept (some number kept at) (λ _. refl))

-- the last shelf, and those before it
at-last : (xs : List KeptShelf) (one kept : KeptShelf) → slice_get (xs ++ one ∷ []) (length xs) ≡ Some kept → kept ≡ one
at-last [] one kept is = cc
at-last (x ∷ xs) one kept is = at-last xs one kept is

before-last : (xs : List KeptShelf) (one : KeptShelf) (n : ℕ) (kept : KeptShelf) → slice_get (xs ++ one ∷ []) n ≡ Some kept → (n == length xs) ≡ false → slice_get xs n ≡ Some kept
before-last [] one zero kept is e = absurd (cc)
before-last [] one (suc n) kept is e = absurd (cc)
before-last (x ∷ xs) one zero kept is e = is
before-last (x ∷ xs) one (suc n) kept is e = before-last xs one n kept is (grind (arith, e))

-- where blocks begin with the next shelf, those before it are known as they were
within-begun : (size n : ℕ) (ranges : List HeightRange) (shelves : List KeptShelf) → ((number : ℕ) → number < n → block_of size number ≡ block_of size n → ⊥) → length shelves ≤ n → AreWithin size ranges shelves
    → AreWithin size (changed_by (Some (block_of size n)) (λ _. no_heights) ranges) shelves
within-begun size n ranges shelves others few within = λ number kept range at is.
    read-changed (λ _. no_heights) ranges (block_of size n) (block_of size number) range is (λ _ _ same _. absurd (others number (omega (arith, few, slice_get_within shelves number kept at)) same)) (λ _ stood. within number kept range at stood)

all-begun : (n : ℕ) (heights : Heights) (shelves : List KeptShelf) → length shelves ≤ n → AreAllWithin heights shelves → AreAllWithin (begun n heights) shelves
all-begun n heights shelves few within = by_small (is_first 16 n) refl
  where
    by_large : (t : Bool) → is_first 256 n ≡ t → AreWithin 256 (cond t (changed_by (Some (block_of 256 n)) (λ _. no_heights) heights.large) heights.large) shelves
    by_large true e = within-begun 256 n heights.large shelves (λ number before same. omega (arith, before, same, eqb-true (n % 256) 0 e)) few within.large
    by_large false e = within.large

    by_small : (t : Bool) → is_first 16 n ≡ t → AreAllWithin (cond t (begun_at n heights) heights) shelves
    by_small true e = record {
      small = within-begun 16 n heights.small shelves (λ number before same. omega (arith, before, same, eqb-true (n % 16) 0 e)) few within.small;
      large = by_large (is_first 256 n) refl;
    }
    by_small false e = within

last-below : (heights : Heights) (xs : List KeptShelf) (one : KeptShelf) → AreAllWithin heights xs → AreAllWithin (with_height (length xs) one.shelf.height (begun (length xs) heights)) (xs ++ one ∷ [])
last-below heights xs one below =
    all-changed (length xs) one.shelf.height (begun (length xs) heights) xs (xs ++ one ∷ [])
    (λ number kept at e. ap (λ (k : KeptShelf). k.shelf.height) (at-last xs one kept (ap (slice_get (xs ++ one ∷ [])) (sym (eqb-true number (length xs) e)) ∙ at)))
    (before-last xs one) (all-begun (length xs) heights xs (omega arith) below)

-- the first shelves are known with one more
pub below-next : (heights : Heights) (shelves : List KeptShelf) (number : ℕ) (one : KeptShelf) → number < length shelves → one ≡ get_or shelves number one → AreAllWithin heights (take number shelves)
    → AreAllWithin (with_height number one.shelf.height (begun number heights)) (take (suc number) shelves)
below-next heights shelves number one within here below =
    let all : take (suc number) shelves ≡ take number shelves ++ one ∷ [] = take-suc shelves number one within ∙ ap (λ (k : KeptShelf). take number shelves ++ k ∷ []) (sym here) in
    let same : length (take number shelves) ≡ number = length-take-le number shelves (omega (arith, within)) in
    subst (AreAllWithin (with_height number one.shelf.height (begun number heights))) (sym all)
    (subst (λ (k : ℕ). AreAllWithin (with_height k one.shelf.height (begun k heights)) (take number shelves ++ one ∷ [])) same (last-below heights (take number shelves) one below))

-- the shelves that stood there before the last one was added are known
pub below-before : (heights : Heights) (xs items : List KeptShelf) (one : KeptShelf) (t : Bool) → t ≡ true → items ≡ cond t (xs ++ one ∷ []) xs → AreBelow heights xs → AreBelow heights (take (length items - 1) items)
below-before heights xs items one t is items_are below =
    let all : items ≡ xs ++ one ∷ [] = items_are ∙ ap (λ (b : Bool). cond b (xs ++ one ∷ []) xs) is in
    let same : length items - 1 ≡ length xs = omega (arith, ap length all, length-append xs (one ∷ [])) in
    let rest : take (length items - 1) items ≡ xs = ap (λ (k : ℕ). take k items) same ∙ ap (take (length xs)) all ∙ take-append_seam xs (one ∷ []) in
    subst (AreBelow heights) (sym rest) below
