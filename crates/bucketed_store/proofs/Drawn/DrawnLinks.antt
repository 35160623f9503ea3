-- The records that links name one after another: a step along them, and their end.
use Rattle.std.proofs.Common.{◌≡◌, ℕ, zero, suc, Option, None, Some, List, [], ◌∷◌, refl, ap, ◌∙◌}
use Rattle.std.specs.Option.{option_map_or}
use Rattle.std.specs.Prelude.{slice_get}
use Rattle.bucketed_records.specs.declared.records.LinkedBucket.{LinkedBucket}
use Rattle.bucketed_store.specs.Private.DrawnRecords.{linked_from}

-- what a record that was looked for adds
abbrev found_first : List LinkedBucket → ℕ → Option LinkedBucket → List LinkedBucket
found_first buckets steps found = option_map_or (λ (bucket : LinkedBucket). bucket ∷ linked_from steps buckets bucket.next) found []

-- no link names no record
pub linked-none : (buckets : List LinkedBucket) (steps : ℕ) (at : Option ℕ) → at ≡ None → linked_from steps buckets at ≡ []
linked-none buckets steps at is = ap (linked_from steps buckets) is ∙ none steps
  where
    none : (n : ℕ) → linked_from n buckets None ≡ []
    none zero = refl
    none (suc n) = refl

-- a link past the records names none
pub linked-past : (buckets : List LinkedBucket) (steps number : ℕ) (at : Option ℕ) → at ≡ Some number → slice_get buckets number ≡ None → linked_from steps buckets at ≡ []
linked-past buckets steps number at is past = ap (linked_from steps buckets) is ∙ none steps
  where
    none : (n : ℕ) → linked_from n buckets (Some number) ≡ []
    none zero = refl
    none (suc n) = ap (found_first buckets n) past

-- a link names its record, and then those that this one's link names
pub linked-here : (buckets : List LinkedBucket) (steps fewer number : ℕ) (at : Option ℕ) (bucket : LinkedBucket) → at ≡ Some number → steps ≡ suc fewer → slice_get buckets number ≡ Some bucket
    → linked_from steps buckets at ≡ bucket ∷ linked_from fewer buckets bucket.next
linked-here buckets steps fewer number at bucket is more here =
    ap (linked_from steps buckets) is
    ∙ ap (λ (n : ℕ). linked_from n buckets (Some number)) more
    ∙ ap (found_first buckets fewer) here
