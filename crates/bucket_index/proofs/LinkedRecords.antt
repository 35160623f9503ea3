-- Records that links name by their bits.
use Rattle.std.proofs.Common.{◌≡◌, ℕ, zero, suc, ◌+◌, ◌<◌, ◌≤◌, Bool, true, false, cond, Option, None, Some, List, length, min, refl, ap, sym, ◌∙◌, arith, ◌==◌}
use Rattle.std.proofs.lemmas.Bool.{eqb-false, eqb-true}
use Rattle.std.proofs.lemmas.Option.{slice_get_past}
use Rattle.std.specs.Prelude.{option_and_then, slice_get}
use Rattle.bucketed_records.specs.declared.records.LinkedBucket.{LinkedBucket}
use Rattle.bucket_index.specs.declared.searching.Wanted.{Wanted}
use Rattle.bucket_index.specs.Private.Searching.{first_from, is_wanted, widest_from}
use Rattle.bucket_index.proofs.KnownSpans.{first-at, first-none}
use Rattle.bucket_index.proofs.WidestRooms.{widest-at, widest-none}
use Rattle.etagere_links.specs.Links.{link_of, no_link}

-- bits below those of none are a record's number
pub named : (number bits : ℕ) (at : Option ℕ) → number ≡ bits → link_of bits ≡ at → number < no_link → at ≡ Some number
named number bits at same is small = by_test (bits == no_link) refl
  where
    by_test : (t : Bool) → (bits == no_link) ≡ t → at ≡ Some number
    by_test true e = absurd (omega (arith, same, small, eqb-true bits no_link e))
    by_test false e = sym is ∙ ap (λ (t : Bool). cond t None (Some bits)) e ∙ ap (λ (n : ℕ). Some n) (sym same)

-- bits that are no record's number name none
past : {P : Type 0} (buckets : List LinkedBucket) (bits : ℕ) (at : Option ℕ) → link_of bits ≡ at → bits ≤ no_link → min (length buckets) no_link ≤ bits → (at ≡ None → P)
    → ((number : ℕ) → at ≡ Some number → length buckets ≤ number → P) → P
past {P} buckets bits at is small behind none some = by_test (bits == no_link) refl
  where
    by_test : (t : Bool) → (bits == no_link) ≡ t → P
    by_test true e = none (sym is ∙ ap (λ (t : Bool). cond t None (Some bits)) e)
    by_test false e = some bits (sym is ∙ ap (λ (t : Bool). cond t None (Some bits)) e) (by_less (eqb-false bits no_link e))
      where
        by_less : (bits ≡ no_link → ⊥) → length buckets ≤ bits
        by_less other = grind (arith, other, small, behind)

-- nothing is found from there on
pub first-past : (wanted : Wanted) (buckets : List LinkedBucket) (left fewer bits : ℕ) (at : Option ℕ) → left ≡ suc fewer → link_of bits ≡ at → bits ≤ no_link → min (length buckets) no_link ≤ bits
    → first_from left wanted buckets at ≡ None
first-past wanted buckets left fewer bits at less is small behind =
    past buckets bits at is small behind (first-none wanted buckets left at)
    (λ number e low. first-at wanted buckets left fewer number at None e less (slice_get_past buckets number low))

-- nothing is wide from there on
pub widest-past : (buckets : List LinkedBucket) (left fewer bits : ℕ) (at : Option ℕ) → left ≡ suc fewer → link_of bits ≡ at → bits ≤ no_link → min (length buckets) no_link ≤ bits
    → widest_from left buckets at ≡ 0
widest-past buckets left fewer bits at less is small behind =
    past buckets bits at is small behind (widest-none buckets left at)
    (λ number e low. widest-at buckets left fewer number at None e less (slice_get_past buckets number low))

-- what is found in some steps is found in more
pub first-more : (steps more n : ℕ) (wanted : Wanted) (bs : List LinkedBucket) (at : Option ℕ) → first_from steps wanted bs at ≡ Some n → first_from (steps + more) wanted bs at ≡ Some n
first-more zero more n wanted bs at is = absurd (cc)
first-more (suc steps) more n wanted bs None is = absurd (cc)
first-more (suc steps) more n wanted bs (Some k) is =
    first-at wanted bs (suc steps + more) (steps + more) k (Some k) (slice_get bs k) refl (omega arith) refl
    ∙ by_found (λ next. first-more steps more n wanted bs next) (slice_get bs k) is
  where
    seek : ℕ → Option LinkedBucket → Option ℕ
    seek left found = option_and_then (λ (bucket : LinkedBucket). cond (is_wanted wanted bucket) (Some k) (first_from left wanted bs bucket.next)) found

    Later : Type 0
    Later = (next : Option ℕ) → first_from steps wanted bs next ≡ Some n → first_from (steps + more) wanted bs next ≡ Some n

    by_test : Later → (t : Bool) (next : Option ℕ) → cond t (Some k) (first_from steps wanted bs next) ≡ Some n → cond t (Some k) (first_from (steps + more) wanted bs next) ≡ Some n
    by_test later true next is = is
    by_test later false next is = later next is

    by_found : Later → (o : Option LinkedBucket) → seek steps o ≡ Some n → seek (steps + more) o ≡ Some n
    by_found later None is = absurd (cc)
    by_found later (Some b) is = by_test later (is_wanted wanted b) b.next is
