use Rattle.std.proofs.Common.{◌≡◌, refl, ap, sym, ◌∙◌, arith}
use Rattle.bucket_index.proofs.LinkedRecords.{named}
use Rattle.bucketed_store.specs.Private.StoreEdits.{Made, made_new, made_one}
use Rattle.bucketed_store.proofs.MadeOnes.{before, made-behind}
use Rattle.bucketed_store.proofs.making.make_bucket.Goals as goal
use Rattle.bucketed_store.proofs.making.make_bucket.Goals.{After-push_bucket}

pub reuse_bucket-requires-clause-named : goal.reuse_bucket-requires-clause-named
reuse_bucket-requires-clause-named c =
    named c.from-number.result c.bits.result c.args.unused.now c.from-number.ensures c.bits.ensures.link (omega (arith, c.if-number-len.true, c.len.ensures, c.requires.few))

-- what is made in a new record
fresh : (c : After-push_bucket) → made_one c.args.new.now (before c.args.buckets.now.items c.args.unused.now c.args.first)
    ≡ made_new c.args.new.now (before c.args.buckets.now.items c.args.unused.now c.args.first)
fresh c =
    made-behind c.args.new.now (before c.args.buckets.now.items c.args.unused.now c.args.first) c.from-number.result c.args.unused.now refl
    (c.from-number.ensures ∙ c.bits.ensures.value) (omega (arith, c.if-number-len.false, c.len.ensures))

pub returns-clause-buckets : goal.returns-clause-buckets
returns-clause-buckets c = ap (λ (m : Made). m.buckets) c.push_bucket.ensures.made ∙ ap (λ (m : Made). m.buckets) (sym (fresh c))

pub returns-clause-unused : goal.returns-clause-unused
returns-clause-unused c = ap (λ (m : Made). m.unused) (sym (fresh c))

pub returns-clause-first : goal.returns-clause-first
returns-clause-first c = ap (λ (m : Made). m.first) c.push_bucket.ensures.made ∙ ap (λ (m : Made). m.first) (sym (fresh c))

pub returns-clause-spans : goal.returns-clause-spans
returns-clause-spans c = c.push_bucket.ensures.spans c.args.spans.now c.requires.spans
