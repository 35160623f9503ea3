-- Where it is known that no shelf has a place for some sides: what a search finds then, and what stays known.
use Rattle.std.proofs.Common.{◌≡◌, ℕ, zero, suc, ◌<◌, ◌≤◌, Bool, true, false, cond, Option, None, Some, List, [], ◌∷◌, ◌++◌, get_or, map, take, length, refl, ap, sym, ◌∙◌, arith, ◌==◌}
use Rattle.std.proofs.lemmas.Bool.Decides.{nat_tests}
use Rattle.std.proofs.lemmas.Bool.{eqb-true}
use Rattle.std.proofs.lemmas.List.{take_all}
use Rattle.std.proofs.lemmas.Option.{get_or_from_slice_get, slice_get-map, slice_get_within}
use Rattle.std.specs.Prelude.{IfSome, is_some, nat_le, nat_lt, not, option_map, slice_get, ◌&&◌, ◌-◌}
use Rattle.etagere_base.specs.declared.sides.Sides.{Sides}
use Rattle.etagere_base.specs.Least.{Found, better, first_least}
use Rattle.etagere_base.proofs.Least.{best-more, first_least-none}
use Rattle.etagere_links.specs.Edits.{changed_by}
use Rattle.etagere_links.proofs.RecordChanges.{get-changed_by, get-changed_by-other}
use Rattle.bucketed_records.specs.declared.records.KeptShelf.{KeptShelf}
use Rattle.bucketed_records.specs.declared.records.LinkedBucketShelf.{LinkedBucketShelf}
use Rattle.bucket_index.specs.declared.missed.Missed.{Missed}
use Rattle.bucket_index.specs.declared.missed.TwoSizes.{TwoSizes}
use Rattle.bucket_index.specs.Private.Missed.{AreMissed, AreMissedBy, AreWithoutBefore, AreWithoutBut, IsMissed, IsMissedBeside, IsMissedBy, IsMissedSize, IsMissedWhere, IsWithout}
use Rattle.bucket_index.specs.Private.Searching.{kept_waste}
use Rattle.bucket_index.proofs.KnownBlocks.{AreSome}
use Rattle.bucket_index.proofs.LimitedWaste.{at_rank}
use Rattle.bucket_index.proofs.PassedShelves.{least-past}

-- nothing is there that isn't some
pub none-is : {A : Type 0} (o : Option A) → is_some o ≡ false → o ≡ None
none-is None h = refl
none-is (Some x) h = absurd (cc)

-- a shelf before a number is among the first
get-take : (xs : List KeptShelf) (n k : ℕ) → k < n → slice_get (take n xs) k ≡ slice_get xs k
get-take xs zero k low = absurd (omega (arith, low))
get-take [] (suc n) k low = refl
get-take (x ∷ xs) (suc n) zero low = refl
get-take (x ∷ xs) (suc n) (suc k) low = get-take xs n k (omega (arith, low))

-- no shelf before a number has a place where none is found there
pub none-before : (adds : Bool) (sides : Sides) (shelves : List KeptShelf) (tail : ℕ) → None ≡ first_least (map (kept_waste adds sides) (take tail shelves)) → AreWithoutBefore tail adds sides shelves
none-before adds sides shelves tail none number kept low there = by_waste (kept_waste adds sides kept) refl
  where
    by_waste : (o : Option ℕ) → kept_waste adds sides kept ≡ o → kept_waste adds sides kept ≡ None
    by_waste None e = e
    by_waste (Some rank) e =
        absurd (first_least-none (map (kept_waste adds sides) (take tail shelves)) (sym none) number rank
        (slice_get-map (kept_waste adds sides) (take tail shelves) number ∙ ap (option_map (kept_waste adds sides)) (get-take shelves tail number low ∙ there) ∙ ap (λ (o : Option ℕ). Some o) e))

-- where no shelf has a place, none before any number has
pub all-without : (adds : Bool) (sides : Sides) (shelves : List KeptShelf) (tail : ℕ) → None ≡ first_least (map (kept_waste adds sides) shelves) → AreWithoutBefore tail adds sides shelves
all-without adds sides shelves tail none number kept low there =
    none-before adds sides shelves (length shelves) (none ∙ ap (λ (xs : List KeptShelf). first_least (map (kept_waste adds sides) xs)) (sym (take_all (length shelves) shelves (omega arith))))
    number kept (slice_get_within shelves number kept there) there

-- what the only shelf with a place wastes is the best before a number
pub alone-best : (adds : Bool) (sides : Sides) (shelves : List KeptShelf) (one tail : ℕ) (kept : KeptShelf) → slice_get shelves one ≡ Some kept → one < tail → AreWithoutBut one tail adds sides shelves
    → option_map (at_rank one) (kept_waste adds sides kept) ≡ first_least (map (kept_waste adds sides) (take tail shelves))
alone-best adds sides shelves one tail kept there low without =
    let rank = kept_waste adds sides in
    let nothing : None ≡ first_least (map rank (take one shelves)) =
    least-past adds sides shelves None 0 one refl (omega arith) (λ number other from below at. without number other (omega (arith, low, below)) (λ same. omega (arith, same, below)) at) in
    let within : one < length shelves = slice_get_within shelves one kept there in
    let read : get_or shelves one kept ≡ kept = get_or_from_slice_get shelves one kept kept there in
    let here : option_map (at_rank one) (rank kept) ≡ first_least (map rank (take (suc one) shelves)) =
    ap (λ (o : Option Found). better o (option_map (at_rank one) (rank kept))) nothing
    ∙ ap (λ (x : KeptShelf). better (first_least (map rank (take one shelves))) (option_map (at_rank one) (rank x))) (sym read)
    ∙ sym (best-more rank shelves one kept within) in
    least-past adds sides shelves (option_map (at_rank one) (rank kept)) (suc one) tail here (omega (arith, low))
    (λ number other from below at. without number other below (λ same. omega (arith, same, from)) at)

-- nothing is found before a number where no shelf has a place there
pub nothing-before : (adds : Bool) (sides : Sides) (shelves : List KeptShelf) (one tail : ℕ) → tail ≤ one → AreWithoutBut one tail adds sides shelves → None ≡ first_least (map (kept_waste adds sides) (take tail shelves))
nothing-before adds sides shelves one tail past without =
    least-past adds sides shelves None 0 tail refl (omega arith) (λ number other from below at. without number other below (λ same. omega (arith, same, below, past)) at)

-- one number is not another
apart : (k n : ℕ) → k ≡ n → (k == n) ≡ false → ⊥
apart k n same h = grind arith

-- a shelf that has no place has none with less room
pub narrower-without : (adds : Bool) (sides : Sides) (one other : KeptShelf) → other.shelf ≡ one.shelf → other.widest_room ≤ one.widest_room → IsWithout adds sides one → IsWithout adds sides other
narrower-without adds sides one other shelf less without =
    ap (λ (s : LinkedBucketShelf). let kept : KeptShelf = record { shelf = s; live_items = other.live_items; widest_room = other.widest_room } in kept_waste adds sides kept) shelf
    ∙ by_tests (nat_le sides.across one.shelf.height && (nat_le sides.along one.shelf.bucket_width && not (adds && nat_lt sides.across (one.shelf.height - sides.across)))) (nat_le sides.along one.widest_room) (nat_le sides.along other.widest_room) wider without
  where
    wasted : ℕ
    wasted = one.shelf.height - sides.across

    wider : nat_le sides.along other.widest_room ≡ true → nat_le sides.along one.widest_room ≡ true
    wider h = grind (arith, nat_tests, less, h)

    by_tests : (front before after : Bool) → (after ≡ true → before ≡ true) → cond (front && before) (Some wasted) None ≡ None → cond (front && after) (Some wasted) None ≡ None
    by_tests false before after more h = refl
    by_tests true before false more h = refl
    by_tests true true true more h = absurd (cc)
    by_tests true false true more h = let wide = more refl in absurd (cc)

-- what holds of a size holds of it where there may be none
some-mapped : {P Q : Sides → Type 0} (o : Option Sides) → ((sides : Sides) → P sides → Q sides) → IfSome o P → IfSome o Q
some-mapped None f h = h
some-mapped (Some sides) f h = f sides h

-- sides stay missed by shelves of such numbers where one changed that has no place for them where it had none
pub missed-changed : (IsSuch : ℕ → Type 0) (shelf : ℕ) (change : KeptShelf → KeptShelf) (missed : Missed) (shelves : List KeptShelf)
    → ((sides : Sides) (kept : KeptShelf) → 0 < sides.across → slice_get shelves shelf ≡ Some kept → IsWithout missed.adds sides kept → IsWithout missed.adds sides (change kept)) → IsMissedWhere IsSuch missed shelves
    → IsMissedWhere IsSuch missed (changed_by (Some shelf) change shelves)
missed-changed IsSuch shelf change missed shelves keeps is = by_sizes missed.sizes is
  where
    changed : (sides : Sides) (number : ℕ) (kept : KeptShelf) → 0 < sides.across → ((one : KeptShelf) → slice_get shelves number ≡ Some one → IsWithout missed.adds sides one)
        → slice_get (changed_by (Some shelf) change shelves) number ≡ Some kept → IsWithout missed.adds sides kept
    changed sides number kept some before there = by_number (number == shelf) refl
      where
        own : number ≡ shelf → (o : Option KeptShelf) → slice_get shelves number ≡ o → option_map change o ≡ Some kept → IsWithout missed.adds sides kept
        own same None e h = absurd (cc)
        own same (Some one) e h =
            let is : change one ≡ kept = cc in
            ap (kept_waste missed.adds sides) (sym is) ∙ keeps sides one some (ap (slice_get shelves) (sym same) ∙ e) (before one e)

        by_number : (t : Bool) → (number == shelf) ≡ t → IsWithout missed.adds sides kept
        by_number true e =
            own (eqb-true number shelf e) (slice_get shelves number) refl
            (sym (get-changed_by change shelves (Some shelf) number (ap (λ (n : ℕ). Some n) (sym (eqb-true number shelf e)))) ∙ there)
        by_number false e =
            before kept (sym (get-changed_by-other change shelves (Some shelf) number (λ (h : Some shelf ≡ Some number). let same : number ≡ shelf = cc in absurd (apart number shelf same e))) ∙ there)

    of_size : (sides : Sides) → IsMissedBy IsSuch missed.adds missed.except missed.tail sides shelves → IsMissedBy IsSuch missed.adds missed.except missed.tail sides (changed_by (Some shelf) change shelves)
    of_size sides h = record {
      some = h.some;
      without = λ number kept such low other there. changed sides number kept h.some (λ one at. h.without number one such low other at) there;
    }

    by_sizes : (o : Option TwoSizes) → IfSome o (λ sizes. AreMissedBy IsSuch missed.adds missed.except missed.tail sizes shelves) → IfSome o (λ sizes. AreMissedBy IsSuch missed.adds missed.except missed.tail sizes (changed_by (Some shelf) change shelves))
    by_sizes None h = h
    by_sizes (Some sizes) h = (of_size sizes.last h.0, some-mapped sizes.before of_size h.1)

-- nothing is said of a shelf that changed
pub missed-beside : (shelf : ℕ) (change : KeptShelf → KeptShelf) (missed : Missed) (shelves : List KeptShelf) → IsMissed missed shelves → IsMissedBeside shelf missed (changed_by (Some shelf) change shelves)
missed-beside shelf change missed shelves is = by_sizes missed.sizes is
  where
    of_size : (sides : Sides) → IsMissedBy (λ number. Unit {0}) missed.adds missed.except missed.tail sides shelves → IsMissedBy (λ number. number ≡ shelf → ⊥) missed.adds missed.except missed.tail sides (changed_by (Some shelf) change shelves)
    of_size sides h = record {
      some = h.some;
      without = λ number kept such low other there.
          h.without number kept tt low other (sym (get-changed_by-other change shelves (Some shelf) number (λ (e : Some shelf ≡ Some number). let same : number ≡ shelf = cc in absurd (such same))) ∙ there);
    }

    by_sizes : (o : Option TwoSizes) → IfSome o (λ sizes. AreMissedBy (λ number. Unit {0}) missed.adds missed.except missed.tail sizes shelves)
        → IfSome o (λ sizes. AreMissedBy (λ number. number ≡ shelf → ⊥) missed.adds missed.except missed.tail sizes (changed_by (Some shelf) change shelves))
    by_sizes None h = h
    by_sizes (Some sizes) h = (of_size sizes.last h.0, some-mapped sizes.before of_size h.1)

-- nothing is said of a shelf that was added
pub missed-pushed : (one : KeptShelf) (missed : Missed) (shelves all : List KeptShelf) (pushes : Bool) → pushes ≡ true → all ≡ cond pushes (shelves ++ one ∷ []) shelves → IsMissed missed shelves
    → IsMissedBeside (length shelves) missed all
missed-pushed one missed shelves all pushes well pushed is = by_sizes missed.sizes is
  where
    read : (xs : List KeptShelf) (number : ℕ) (kept : KeptShelf) → (number ≡ length xs → ⊥) → slice_get (xs ++ one ∷ []) number ≡ Some kept → slice_get xs number ≡ Some kept
    read [] zero kept other at = absurd (other refl)
    read [] (suc number) kept other at = absurd (cc)
    read (x ∷ xs) zero kept other at = at
    read (x ∷ xs) (suc number) kept other at = read xs number kept (λ same. other (ap suc same)) at

    added : all ≡ shelves ++ one ∷ []
    added = pushed ∙ ap (λ (t : Bool). cond t (shelves ++ one ∷ []) shelves) well

    of_size : (sides : Sides) → IsMissedBy (λ number. Unit {0}) missed.adds missed.except missed.tail sides shelves → IsMissedBy (λ number. number ≡ length shelves → ⊥) missed.adds missed.except missed.tail sides all
    of_size sides h = record {
      some = h.some;
      without = λ number kept such low other there. h.without number kept tt low other (read shelves number kept such (ap (λ (xs : List KeptShelf). slice_get xs number) (sym added) ∙ there));
    }

    by_sizes : (o : Option TwoSizes) → IfSome o (λ sizes. AreMissedBy (λ number. Unit {0}) missed.adds missed.except missed.tail sizes shelves)
        → IfSome o (λ sizes. AreMissedBy (λ number. number ≡ length shelves → ⊥) missed.adds missed.except missed.tail sizes all)
    by_sizes None h = h
    by_sizes (Some sizes) h = (of_size sizes.last h.0, some-mapped sizes.before of_size h.1)

-- what is missed by shelves is missed by some of them
pub missed-some : (one : ℕ) (missed : Missed) (all shelves : List KeptShelf) → AreSome all shelves → IsMissedBeside one missed all → IsMissedBeside one missed shelves
missed-some one missed all shelves some is = by_sizes missed.sizes is
  where
    of_size : (sides : Sides) → IsMissedBy (λ number. number ≡ one → ⊥) missed.adds missed.except missed.tail sides all → IsMissedBy (λ number. number ≡ one → ⊥) missed.adds missed.except missed.tail sides shelves
    of_size sides h = record { some = h.some; without = λ number kept such low other there. h.without number kept such low other (some number kept there) }

    by_sizes : (o : Option TwoSizes) → IfSome o (λ sizes. AreMissedBy (λ number. number ≡ one → ⊥) missed.adds missed.except missed.tail sizes all)
        → IfSome o (λ sizes. AreMissedBy (λ number. number ≡ one → ⊥) missed.adds missed.except missed.tail sizes shelves)
    by_sizes None h = h
    by_sizes (Some sizes) h = (of_size sizes.last h.0, some-mapped sizes.before of_size h.1)

-- nothing is left to be said of a shelf that isn't there
pub missed-past : (one : ℕ) (missed : Missed) (shelves : List KeptShelf) → length shelves ≤ one → IsMissedBeside one missed shelves → IsMissed missed shelves
missed-past one missed shelves past is = by_sizes missed.sizes is
  where
    of_size : (sides : Sides) → IsMissedBy (λ number. number ≡ one → ⊥) missed.adds missed.except missed.tail sides shelves → IsMissedBy (λ number. Unit {0}) missed.adds missed.except missed.tail sides shelves
    of_size sides h = record {
      some = h.some;
      without = λ number kept such low other there.
          h.without number kept (λ (same : number ≡ one). omega (arith, same, past, slice_get_within shelves number kept there)) low other there;
    }

    by_sizes : (o : Option TwoSizes) → IfSome o (λ sizes. AreMissedBy (λ number. number ≡ one → ⊥) missed.adds missed.except missed.tail sizes shelves)
        → IfSome o (λ sizes. AreMissedBy (λ number. Unit {0}) missed.adds missed.except missed.tail sizes shelves)
    by_sizes None h = h
    by_sizes (Some sizes) h = (of_size sizes.last h.0, some-mapped sizes.before of_size h.1)

-- what is missed before a number is missed before a lower one
pub sizes-before : (adds : Bool) (except tail lower : ℕ) (sizes : TwoSizes) (shelves : List KeptShelf) → lower ≤ tail → AreMissed adds except tail sizes shelves → AreMissed adds except lower sizes shelves
sizes-before adds except tail lower sizes shelves less is = (of_size sizes.last is.0, some-mapped sizes.before of_size is.1)
  where
    of_size : (sides : Sides) → IsMissedSize adds except tail sides shelves → IsMissedSize adds except lower sides shelves
    of_size sides h = record { some = h.some; without = λ number kept such low other there. h.without number kept such (omega (arith, low, less)) other there }
