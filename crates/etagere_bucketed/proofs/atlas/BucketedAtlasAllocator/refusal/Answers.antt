use Rattle.std.proofs.Common.{◌≡◌, ℕ, ◌-◌, Option, None, Some, ap, sym, arith, ◌∙◌}
use Rattle.std.proofs.Math.Nat.{le-mul_of_pos_right}
use Rattle.std.specs.Prelude.{option_and_then}
use Rattle.etagere_base.proofs.AskedSides.{asked-sides}
use Rattle.etagere_base.proofs.FrameSides.{sides_low}
use Rattle.etagere_base.specs.declared.geometry.Size.{Size}
use Rattle.etagere_base.specs.declared.sides.Sides.{Sides}
use Rattle.etagere_base.specs.Frames.{asked}
use Rattle.bucketed_model.proofs.Shelving.Added.{current-below}
use Rattle.bucketed_model.specs.Adding.{Remaining, left_to}
use Rattle.bucketed_model.specs.declared.refusals.BucketedRefusal.{BucketedRefusal}
use Rattle.bucketed_model.specs.Picking.{or_else}
use Rattle.bucketed_model.specs.Refusal.{sides_refusal, refusal, size_refusal}
use Rattle.bucketed_model.specs.State.{BucketedState, current_column, most_buckets}
use Rattle.bucketed_store.specs.Private.Refusals.{kept_refusal}
use Rattle.bucketed_store.proofs.Refused.{refusal-kept}
use Rattle.etagere_bucketed.specs.declared.atlas.BucketedAtlasAllocator.TheInside.{Inside}
use Rattle.etagere_bucketed.specs.Private.Consistent.{IsConsistent, state_in}
use Rattle.etagere_bucketed.proofs.atlas.BucketedAtlasAllocator.refusal.Goals as goal

-- what the shelves leave, by the totals
abbrev left_in : Inside → Remaining
left_in inside =
    record { column = inside.current_column; height = inside.available_height; buckets = most_buckets - inside.buckets_in_use }

left-is : (inside : Inside) → IsConsistent inside → left_in inside ≡ left_to inside.frame (state_in inside).shelves
left-is inside is =
    ap (λ (n : ℕ). let left : Remaining = record { column = n; height = inside.available_height; buckets = most_buckets - inside.buckets_in_use } in left) is.totals.column
    ∙ ap (λ (n : ℕ). let left : Remaining = record { column = current_column (state_in inside).shelves; height = n; buckets = most_buckets - inside.buckets_in_use } in left) is.totals.height
    ∙ ap (λ (n : ℕ). let left : Remaining = record { column = current_column (state_in inside).shelves; height = (left_to inside.frame (state_in inside).shelves).height; buckets = most_buckets - n } in left) is.totals.in_use

pub sides_refusal-requires-clause-column : goal.sides_refusal-requires-clause-column
sides_refusal-requires-clause-column c =
    let valid = c.self.invariant.witnessed.valid in
    let frame = c.self.inside.frame in
    omega (
      arith,
      c.self.invariant.totals.column,
      current-below frame 0 (state_in c.self.inside).shelves valid.frame.columns.0 valid.shelves.each,
      valid.frame.columns.1,
      (sides_low 65534 frame valid.frame).0,
      le-mul_of_pos_right frame.columns valid.frame.column_width,
    )

-- the reason of a size that is asked for is that of its sides
refusal-asked : (state : BucketedState) (size : Size) (sides : Sides) → size_refusal state.frame size ≡ None → asked state.frame size ≡ Some sides
    → refusal state size ≡ sides_refusal state.frame state.shelves sides
refusal-asked state size sides own asks =
    ap (λ (o : Option BucketedRefusal). or_else o (option_and_then (sides_refusal state.frame state.shelves) (asked state.frame size))) own
    ∙ ap (option_and_then (sides_refusal state.frame state.shelves)) asks

pub returns : goal.returns
returns c =
    let inside = c.self.inside in
    let is = c.self.invariant in
    let valid = is.witnessed.valid in
    let sides = c.in_ok-sides.sides in
    let own : size_refusal inside.frame c.args.size ≡ None = sym c.size_refusal.ensures ∙ c.in_default.is in
    let asks : asked inside.frame c.args.size ≡ Some sides = sym c.asked.ensures ∙ c.in_ok-sides.was in
    c.sides_refusal.ensures
    ∙ ap (λ (left : Remaining). kept_refusal inside.frame left sides inside.store.shelves inside.store.buckets) (left-is inside is)
    ∙ refusal-kept inside.frame sides inside.store is.unused (state_in inside).shelves valid.frame.column_width
    (asked-sides 65534 inside.frame c.args.size sides valid.frame asks).along valid.shelves.few is.witnessed.spells
    ∙ sym (refusal-asked (state_in inside) c.args.size sides own asks)
    ∙ ap (λ (state : BucketedState). refusal state c.args.size) c.self.view_is
