-- One pass over the buckets of a shelf: what is told of those met so far and of the rest is told of all.
use Rattle.std.proofs.Common.{◌≡◌, ℕ, ◌+◌, ◌%◌, Bool, true, false, ◌&&◌, cond, Option, None, Some, List, [], ◌∷◌, max, refl, ap, arith, sym, ◌∙◌, ◌==◌}
use Rattle.std.specs.List.{list_all}
use Rattle.std.specs.Option.{option_map_or}
use Rattle.std.specs.Prelude.{nat_le, option_and_then, slice_get}
use Rattle.etagere_base.specs.Lists.{total}
use Rattle.etagere_links.specs.Edits.{field_at}
use Rattle.bucketed_records.specs.declared.records.LinkedBucket.{LinkedBucket}
use Rattle.bucketed_restoring.specs.Private.Judging.{begins_at, room_at, stand_at, stand_together, widest_by}

-- what is read of a record that is there
pub field-here : {X : Type 0} (field : LinkedBucket → X) (d : X) (buckets : List LinkedBucket) (n : ℕ) (r : LinkedBucket) → slice_get buckets n ≡ Some r
    → field_at field d buckets n ≡ field r
field-here field d buckets n r here = ap (λ (o : Option LinkedBucket). option_map_or field o d) here

-- a flag that a test holds of all so far
pub flag-more : (test : ℕ → Bool) (flag now all : Bool) (ns rest : List ℕ) (n : ℕ) → ns ≡ n ∷ rest → test n ≡ now
    → (flag && list_all test ns) ≡ all → ((flag && now) && list_all test rest) ≡ all
flag-more test false now all ns rest n more is kept = kept
flag-more test true now all ns rest n more is kept = ap (λ (b : Bool). b && list_all test rest) (sym is) ∙ sym (ap (list_all test) more) ∙ kept

-- a sum
pub sum-more : (measure : ℕ → ℕ) (sum now all : ℕ) (ns rest : List ℕ) (n : ℕ) → ns ≡ n ∷ rest → measure n ≡ now
    → sum + total measure ns ≡ all → (sum + now) + total measure rest ≡ all
sum-more measure sum now all ns rest n more is kept =
    let split : total measure ns ≡ measure n + total measure rest = ap (total measure) more in
    omega (arith, split, is, kept)

-- the widest
pub widest-more : (buckets : List LinkedBucket) (widest now all : ℕ) (ns rest : List ℕ) (n : ℕ) → ns ≡ n ∷ rest → room_at buckets n ≡ now
    → max widest (widest_by buckets ns) ≡ all → max (max widest now) (widest_by buckets rest) ≡ all
widest-more buckets widest now all ns rest n more is kept =
    let split : widest_by buckets ns ≡ max (room_at buckets n) (widest_by buckets rest) = ap (widest_by buckets) more in
    omega (arith, split, is, kept)

-- those of the rest stand behind the ones met so far, of which the last one stands at this place
abbrev pub stand_on : ℕ → ℕ → List LinkedBucket → ℕ → Bool → Bool → ℕ → List ℕ → Bool
stand_on alignment width buckets begin apart aligned place [] = apart && place == begin
stand_on alignment width buckets begin apart aligned place (n ∷ ns) =
    (apart && aligned) && stand_together alignment width buckets begin place (n ∷ ns)

-- at first none is met
pub stand-first : (alignment width : ℕ) (buckets : List LinkedBucket) (begin end : ℕ) (some : Bool) (ns : List ℕ) → (some ≡ true → ns ≡ [] → ⊥) → (some ≡ false → ns ≡ [])
    → stand_on alignment width buckets begin some true end ns ≡ stand_together alignment width buckets begin end ns
stand-first alignment width buckets begin end true [] some none = absurd (some refl refl)
stand-first alignment width buckets begin end false [] some none = refl
stand-first alignment width buckets begin end true (n ∷ ns) some none = refl
stand-first alignment width buckets begin end false (n ∷ ns) some none = absurd (let no : (n ∷ ns) ≡ [] = none refl in cc)

-- one more was met
pub stand-more : (alignment width : ℕ) (buckets : List LinkedBucket) (begin : ℕ) (apart aligned : Bool) (place : ℕ) (all : Bool) (ns rest : List ℕ) (n : ℕ) (r : LinkedBucket)
    → ns ≡ n ∷ rest → slice_get buckets n ≡ Some r → stand_on alignment width buckets begin apart aligned place ns ≡ all
    → stand_on alignment width buckets begin (apart && (aligned && nat_le (r.x + width) place)) (r.x % alignment == 0) r.x rest ≡ all
stand-more alignment width buckets begin apart aligned place all ns rest n r more here kept =
    one rest ∙ sym (ap (stand_on alignment width buckets begin apart aligned place) more) ∙ kept
  where
    last : (apart aligned ends begins : Bool) → ((apart && (aligned && ends)) && begins) ≡ ((apart && aligned) && (begins && ends))
    last false aligned ends begins = refl
    last true false ends begins = refl
    last true true false false = refl
    last true true false true = refl
    last true true true false = refl
    last true true true true = refl

    next : (later : ℕ → Bool) (x : ℕ) (apart aligned ends here : Bool)
        → (((apart && (aligned && ends)) && here) && later x) ≡ ((apart && aligned) && option_map_or later (cond (here && ends) (Some x) None) false)
    next later x false aligned ends here = refl
    next later x true false ends here = refl
    next later x true true false false = refl
    next later x true true false true = refl
    next later x true true true false = refl
    next later x true true true true = refl

    one : (rest : List ℕ) → stand_on alignment width buckets begin (apart && (aligned && nat_le (r.x + width) place)) (r.x % alignment == 0) r.x rest
        ≡ stand_on alignment width buckets begin apart aligned place (n ∷ rest)
    one [] =
        last apart aligned (nat_le (r.x + width) place) (r.x == begin)
        ∙ ap (λ (b : Bool). (apart && aligned) && b) (sym (field-here (begins_at width begin place) false buckets n r here))
    one (m ∷ ms) =
        next (λ (p : ℕ). stand_together alignment width buckets begin p (m ∷ ms)) r.x apart aligned (nat_le (r.x + width) place) (r.x % alignment == 0)
        ∙ ap (λ (o : Option LinkedBucket). (apart && aligned) && option_map_or (λ (p : ℕ). stand_together alignment width buckets begin p (m ∷ ms)) (option_and_then (stand_at alignment width place) o) false) (sym here)
