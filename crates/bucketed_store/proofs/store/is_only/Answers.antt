use Rattle.std.proofs.Common.{◌≡◌, ℕ, Option, None, Some, false, ap, length, refl, sym, ◌∙◌, arith}
use Rattle.std.proofs.lemmas.Option.{slice_get_read}
use Rattle.std.specs.Prelude.{is_some, slice_get}
use Rattle.bucketed_records.specs.declared.records.LinkedBucket.{LinkedBucket}
use Rattle.bucketed_model.specs.State.{most_buckets}
use Rattle.bucket_index.proofs.KnownBlocks.{some-same}
use Rattle.bucket_index.proofs.WidestRooms.{widest-at, widest-none}
use Rattle.bucketed_store.proofs.store.is_only.Goals as goal

-- what isn't there is none
is-none : (o : Option ℕ) → is_some o ≡ false → o ≡ None
is-none None h = refl
is-none (Some n) h = absurd (cc)

pub returns-then-is_none : goal.returns-then-is_none
returns-then-is_none c = λ first bucket there.
    let buckets = c.args.buckets.now in
    let number = c.args.found.now.bucket in
    let one = c.index-buckets-found.result in
    let here = slice_get_read buckets (length buckets) number one refl c.requires.bucket c.index-buckets-found.is in
    let same : bucket ≡ one = some-same (slice_get buckets number) bucket one there here in
    let next : bucket.next ≡ c.number.result = ap (λ (b : LinkedBucket). b.next) (same ∙ c.index-buckets-found.is) ∙ sym c.number.ensures.value in
    let none : c.number.result ≡ None = is-none c.number.result c.if-is_none.ensures in
    omega (
      arith,
      widest-at buckets most_buckets 4094 number _ (Some bucket) (c.is_first.ensures first) (omega arith) there,
      widest-none buckets 4094 bucket.next (next ∙ none),
    )
