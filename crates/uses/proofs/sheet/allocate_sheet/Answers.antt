use Rattle.std.proofs.Common.{rules, ◌≡◌, ◌+◌, ◌<◌, ℕ, Some, List, [], ◌∷◌, ◌++◌, get_or, length, pos, take, ap, sym, subst, ◌∙◌, arith}
use Rattle.std.proofs.lemmas.List.{length-append, take_more}
use Rattle.std.proofs.lemmas.Option.{slice_get_within}
use Rattle.std.proofs.lemmas.Slice.Zip.{all_zipped_more}
use Rattle.std.specs.List.{AllZip}
use Rattle.etagere_base.proofs.Boxes.{AreApart-append}
use Rattle.etagere_base.proofs.EachLemmas.{Each-append, Each-weaken}
use Rattle.etagere_base.specs.Rectangles.{IsLarge, SharesNone}
use Rattle.etagere_base.specs.declared.frames.Frame.{Frame}
use Rattle.etagere_base.specs.declared.geometry.Size.{Size}
use Rattle.etagere_base.specs.declared.ids.Allocation.{Allocation}
use Rattle.shelf_model.specs.Places.{rectangle_of}
use Rattle.shelf_model.specs.State.{AtlasState}
use Rattle.uses.proofs.sheet.allocate_sheet.Goals as goal

pub loop-size-preserved : goal.loop-size-preserved
loop-size-preserved c =
    let placed = rw c.in-Some.is at c.in_ok-allocation.ensures.placed in
    let found = rw c.in-Some.is at c.in_ok-allocation.ensures.found in
    let clear = rw c.in-Some.is at c.in_ok-allocation.ensures.clear in
    let large = rw c.in-Some.is at c.in_ok-allocation.ensures.large in
    let within : c.loop-size.size-index < length c.args.sizes.now = search rules in
    let sizes = c.args.sizes.now in
    let allocations = c.loop-size.allocations.items in
    let none : Size = record { width = pos 0; height = pos 0 } in
    let next = c.in-Some.allocation in
    let has = c.loop-size.invariant.1 in
    let Old : Allocation → Type 0 = λ allocation. rectangle_of c.loop-size.atlas allocation.id ≡ Some allocation.rectangle in
    let New : Allocation → Type 0 = λ allocation. rectangle_of c.allocate.new.self allocation.id ≡ Some allocation.rectangle in
    let Large : Frame → Size → Allocation → Type 0 = λ frame size allocation. IsLarge frame size allocation.rectangle in
    let same : c.loop-size.atlas.frame ≡ c.allocate.new.self.frame = sym (ap (λ (s : AtlasState). s.frame) placed.after) in
    let more : length (allocations ++ next ∷ []) ≡ c.loop-size.size-index + 1 =
    omega (arith, length-append allocations (next ∷ []), c.loop-size.invariant.0) in
    let longer = ap (λ (k : ℕ). take k sizes) more
    ∙ take_more sizes c.loop-size.size-index none within
    ∙ ap (λ (k : ℕ). take k sizes ++ get_or sizes c.loop-size.size-index none ∷ []) (sym c.loop-size.invariant.0) in
    rw c.in_ok-push.ensures.items (
      more,
      record {
        found = Each-append New allocations (next ∷ [])
            (Each-weaken Old New allocations (λ allocation e. c.in_ok-allocation.ensures.kept allocation.id allocation.rectangle e) has.found) (found, tt);
        apart = AreApart-append allocations (next ∷ []) has.apart (tt, tt)
            (Each-weaken Old (λ (allocation : Allocation). SharesNone allocation.rectangle next.rectangle × Unit {0}) allocations
            (λ allocation e. (clear allocation.id allocation.rectangle e, tt)) has.found);
        large = subst (λ (frame : Frame). AllZip (Large frame) (take (length (allocations ++ next ∷ [])) sizes) (allocations ++ next ∷ [])) same
            (subst (λ (front : List Size). AllZip (Large c.loop-size.atlas.frame) front (allocations ++ next ∷ [])) (sym longer)
            (all_zipped_more (Large c.loop-size.atlas.frame) (take (length allocations) sizes) allocations _ next has.large large));
      },
    )

pub returns-clause-ends : goal.returns-clause-ends
returns-clause-ends c = λ size at.
    let within : length c.loop-size.allocations.items < length c.args.sizes.now =
    slice_get_within c.args.sizes.now (length c.loop-size.allocations.items) size at in
    absurd (omega arith)
