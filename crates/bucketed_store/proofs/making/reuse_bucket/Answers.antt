use Rattle.std.proofs.Common.{◌≡◌, ◌+◌, ◌%◌, Some, ap, sym, ◌∙◌}
use Rattle.std.proofs.lemmas.Option.{slice_get-get_or}
use Rattle.etagere_links.specs.Edits.{changed_by}
use Rattle.etagere_links.proofs.EditLemmas.{set-changed}
use Rattle.bucketed_records.specs.declared.records.LinkedBucket.{LinkedBucket}
use Rattle.bucket_index.proofs.KnownSpans.{spans-changed}
use Rattle.bucketed_store.specs.Private.StoreEdits.{Made, made_again, made_one, new_record}
use Rattle.bucketed_store.proofs.MadeOnes.{before, made-found}
use Rattle.bucketed_store.proofs.making.reuse_bucket.Goals as goal

-- what is made in an unused record
again : (c : goal.After-to) → made_one c.args.new.now (before c.args.buckets.now c.args.unused.now c.args.first)
    ≡ made_again c.args.new.now (before c.args.buckets.now c.args.unused.now c.args.first) c.args.number c.index-buckets-number.result
again c =
    made-found c.args.new.now (before c.args.buckets.now c.args.unused.now c.args.first) c.args.number c.index-buckets-number.result
    c.requires.named
    (slice_get-get_or c.args.buckets.now c.args.number c.index-buckets-number.result c.requires.within ∙ ap (λ (r : LinkedBucket). Some r) (sym c.index-buckets-number.is))

-- what the record becomes
renewed : (c : goal.After-to) → c.renew.new.bucket ≡ new_record c.args.new.now c.args.first ((c.index-buckets-number.result.generation + 1) % 256)
renewed c = c.renew.ensures ∙ ap (λ (b : LinkedBucket). new_record c.args.new.now c.args.first ((b.generation + 1) % 256)) (sym c.index-buckets-number.is)

pub returns-clause-buckets : goal.returns-clause-buckets
returns-clause-buckets c =
    set-changed (λ (_ : LinkedBucket). c.renew.new.bucket) c.args.buckets.now c.args.number c.renew.new.bucket c.requires.within
    ∙ ap (λ (r : LinkedBucket). changed_by (Some c.args.number) (λ (_ : LinkedBucket). r) c.args.buckets.now) (renewed c)
    ∙ ap (λ (m : Made). m.buckets) (sym (again c))

pub returns-clause-unused : goal.returns-clause-unused
returns-clause-unused c = ap (λ (b : LinkedBucket). b.next) (sym c.index-buckets-number.is) ∙ ap (λ (m : Made). m.unused) (sym (again c))

pub returns-clause-first : goal.returns-clause-first
returns-clause-first c = c.to.ensures ∙ ap (λ (m : Made). m.first) (sym (again c))

pub returns-clause-spans : goal.returns-clause-spans
returns-clause-spans c =
    let r = c.renew.new.bucket in
    rw (set-changed (λ (_ : LinkedBucket). r) c.args.buckets.now c.args.number r c.requires.within)
    (c.forget.ensures _ (spans-changed c.args.number (λ (_ : LinkedBucket). r) c.args.spans.now c.args.buckets.now c.requires.spans))
