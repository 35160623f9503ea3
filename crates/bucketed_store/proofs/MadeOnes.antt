-- What is made by what the unused link names, and by its parts.
use Rattle.std.proofs.Common.{◌≡◌, ℕ, ◌≤◌, Option, None, Some, List, length, ap, ◌∙◌, arith}
use Rattle.std.proofs.lemmas.Option.{slice_get_past}
use Rattle.std.specs.Option.{option_map_or}
use Rattle.std.specs.Prelude.{slice_get}
use Rattle.bucketed_records.specs.declared.records.LinkedBucket.{LinkedBucket}
use Rattle.etagere_links.specs.Links.{bits_of}
use Rattle.bucketed_store.specs.Private.StoreEdits.{Made, made_again, made_new, made_one}
use Rattle.bucketed_store.specs.declared.making.NewBuckets.{NewBuckets}

-- what is made by what is found under a link
made_one-by : (new : NewBuckets) (made : Made) (link : Option ℕ) → made.unused ≡ link
    → made_one new made ≡ option_map_or (λ (number : ℕ). option_map_or (made_again new made number) (slice_get made.buckets number) (made_new new made)) link (made_new new made)
made_one-by new made link names =
    ap (λ (l : Option ℕ). option_map_or (λ (number : ℕ). option_map_or (made_again new made number) (slice_get made.buckets number) (made_new new made)) l (made_new new made)) names

-- a bucket is made in a record that is found under a link
pub made-found : (new : NewBuckets) (made : Made) (number : ℕ) (old : LinkedBucket) → made.unused ≡ Some number → slice_get made.buckets number ≡ Some old → made_one new made ≡ made_again new made number old
made-found new made number old names at =
    made_one-by new made (Some number) names ∙ ap (λ (r : Option LinkedBucket). option_map_or (made_again new made number) r (made_new new made)) at

-- a bucket is made in a new record where no record is found under a link
made-past : (new : NewBuckets) (made : Made) (number : ℕ) → made.unused ≡ Some number → length made.buckets ≤ number → made_one new made ≡ made_new new made
made-past new made number names past =
    made_one-by new made (Some number) names
    ∙ ap (λ (r : Option LinkedBucket). option_map_or (made_again new made number) r (made_new new made)) (slice_get_past made.buckets number past)

-- what there was
abbrev pub before : List LinkedBucket → Option ℕ → Option ℕ → Made
before buckets unused first = record { buckets = buckets; unused = unused; first = first }

-- a bucket is made in a new record where the bits of a link name no record
pub made-behind : (new : NewBuckets) (made : Made) (number : ℕ) (link : Option ℕ) → made.unused ≡ link → number ≡ bits_of link → length made.buckets ≤ number → made_one new made ≡ made_new new made
made-behind new made number None names is past = made_one-by new made None names
made-behind new made number (Some n) names is past = made-past new made n names (omega (arith, is, past))

-- what was made, by its parts
pub made-parts : (m : Made) (buckets : List LinkedBucket) (unused first : Option ℕ) → buckets ≡ m.buckets → unused ≡ m.unused → first ≡ m.first
    → record { buckets = buckets; unused = unused; first = first } ≡ m
made-parts m buckets unused first b u f =
    ap (λ (xs : List LinkedBucket). let made : Made = record { buckets = xs; unused = unused; first = first } in made) b
    ∙ ap (λ (link : Option ℕ). let made : Made = record { buckets = m.buckets; unused = link; first = first } in made) u
    ∙ ap (λ (link : Option ℕ). let made : Made = record { buckets = m.buckets; unused = m.unused; first = link } in made) f
