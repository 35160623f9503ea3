use Rattle.std.proofs.Common.{◌≡◌, ℕ, suc, ◌*◌, ◌≤◌, ◌∙◌, ap, arith, subst, sym}
use Rattle.std.proofs.Math.Nat.{mul-le-mul_right, suc-mul}
use Rattle.std.specs.Result.{is_ok}
use Rattle.etagere_base.proofs.FrameSides.{sides_low}
use Rattle.bucketed_model.specs.Adding.{NewShelf, width_of_share}
use Rattle.bucketed_model.proofs.Shelving.Shares.{shares-fit}
use Rattle.bucket_index.specs.Private.Blocks.{AreKnown}
use Rattle.bucket_index.specs.Private.Heights.{AreBelow}
use Rattle.bucket_index.proofs.KnownBlocks.{known-last}
use Rattle.bucketed_store.specs.Private.StoreEdits.{EndsBy}
use Rattle.bucket_index.proofs.TallestShelves.{below-before}
use Rattle.bucketed_store.proofs.RoomsKept.{made-many}
use Rattle.bucketed_store.proofs.store.add_shelf.Goals as goal

pub make_buckets-first_bucket-requires-clause-narrow : goal.make_buckets-first_bucket-requires-clause-narrow
make_buckets-first_bucket-requires-clause-narrow c =
    let frame = c.args.frame.now in
    let new = c.new.inside in
    let width : c.width_of_share-width.result ≡ width_of_share frame new.count = c.width_of_share-width.ensures in
    let below : suc new.column ≤ frame.columns = omega (arith, c.requires.new.column, ap (λ (n : NewShelf). n.column) c.new.view_is) in
    omega (
      arith,
      ap (λ (w : ℕ). new.count * w) width,
      shares-fit frame new.count,
      mul-le-mul_right {m = suc new.column} {n = frame.columns} frame.column_width below,
      suc-mul new.column frame.column_width,
      c.requires.frame.columns.1,
      (sides_low 65534 frame c.requires.frame).0,
    )

pub next_across-y-requires : goal.next_across-y-requires
next_across-y-requires c =
    subst (EndsBy 65534) (sym c.deref.ensures.value)
    (λ last e. omega (arith, c.requires.short last e, (sides_low 65534 c.args.frame.now c.requires.frame).1))

pub add_last-requires-clause-others : goal.add_last-requires-clause-others
add_last-requires-clause-others c =
    rw c.expect.ensures (known-last _ c.args.blocks.now c.args.shelves.now.items c.deref-2.result.now (is_ok c.push.result) (ap is_ok c.unwrap.ensures) (c.deref-2.ensures.value ∙ c.push.ensures.items) c.requires.known)

pub add_last-requires-2-clause-others : goal.add_last-requires-2-clause-others
add_last-requires-2-clause-others c =
    rw c.deref-3.ensures.value (below-before c.args.heights.now c.args.shelves.now.items c.push.new.self.items _ (is_ok c.push.result) (ap is_ok c.unwrap.ensures) c.push.ensures.items c.requires.below)

pub returns-clause-below : goal.returns-clause-below
returns-clause-below c = subst (AreBelow c.add_last-2.new.self) c.deref-3.ensures.value c.add_last-2.ensures

pub returns-clause-rooms : goal.returns-clause-rooms
returns-clause-rooms c =
    c.add.ensures c.args.buckets.now.items c.make_buckets-first_bucket.new.buckets.items c.requires.rooms
    (λ slot. rw c.make_buckets-first_bucket.ensures.buckets (made-many c.new.inside.count _ _ slot))

pub returns-clause-known : goal.returns-clause-known
returns-clause-known c = subst (AreKnown c.add_last.new.self) c.deref-2.ensures.value c.add_last.ensures
