use Rattle.std.proofs.Common.{◌≡◌, ℕ, Bool, Some, cond, get_or, refl, sym, ◌∙◌, ap}
use Rattle.std.specs.Prelude.{nat_le}
use Rattle.etagere_links.proofs.EditLemmas.{set-changed_by}
use Rattle.bucketed_records.specs.declared.records.KeptShelf.{KeptShelf}
use Rattle.bucketed_records.specs.StandsFor.{live_of, shelf_of}
use Rattle.bucketed_store.specs.Private.Returns.{emptied_record, lessened_record, returned_kept, returned_record, width_of}
use Rattle.bucketed_store.proofs.ReadRecords.{live-read, shelf-read, width-read}
use Rattle.bucketed_store.proofs.returning.return_only.Goals as goal

-- the number of its shelf
shelf : (c : goal.After-empty_bucket) → c.from.result ≡ shelf_of c.args.buckets.now c.args.number
shelf c = c.from.ensures ∙ shelf-read c.args.buckets.now c.args.number c.index-buckets-number.result c.requires.number c.index-buckets-number.is

pub returns-clause-shelves : goal.returns-clause-shelves
returns-clause-shelves c =
    set-changed_by (returned_kept (nat_le (live_of c.args.buckets.now c.args.number) 1)) c.args.shelves.now (Some (shelf_of c.args.buckets.now c.args.number))
    c.from.result c.count_none.new.kept c.index-shelves-from.result (ap (λ (n : ℕ). Some n) (sym (shelf c))) (rw (shelf c) c.requires.shelf)
    (c.count_none.ensures ∙ ap (λ (t : Bool). returned_kept t (get_or c.args.shelves.now c.from.result c.index-shelves-from.result)) (sym c.requires.only.bucket))

pub returns-clause-buckets : goal.returns-clause-buckets
returns-clause-buckets c =
    let width = width_of c.args.shelves.now (shelf_of c.args.buckets.now c.args.number) in
    let one = get_or c.args.buckets.now c.args.number c.index-buckets-number.result in
    let live = live-read c.args.buckets.now c.args.number c.index-buckets-number.result c.requires.number c.index-buckets-number.is in
    set-changed_by (returned_record width) c.args.buckets.now (Some c.args.number)
    c.args.number c.empty_bucket.new.bucket c.index-buckets-number.result refl c.requires.number
    (c.empty_bucket.ensures
    ∙ ap (λ (w : ℕ). emptied_record w one)
    (ap (λ (s : KeptShelf). s.shelf.bucket_width) c.count_none.ensures
    ∙ width-read c.args.shelves.now c.from.result c.index-shelves-from.result (rw (shelf c) c.requires.shelf) c.index-shelves-from.is
    ∙ ap (width_of c.args.shelves.now) (shelf c))
    ∙ ap (λ (t : Bool). cond t (emptied_record width one) (lessened_record one)) (sym (ap (λ (n : ℕ). nat_le n 1) live ∙ c.requires.only.bucket)))
