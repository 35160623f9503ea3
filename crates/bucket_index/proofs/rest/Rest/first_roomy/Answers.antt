use Rattle.std.proofs.Common.{◌≡◌, ℕ, ◌+◌, ap, sym, ◌∙◌, arith}
use Rattle.std.specs.Prelude.{is_some, not}
use Rattle.etagere_links.specs.Links.{link_of}
use Rattle.bucketed_model.specs.State.{most_buckets}
use Rattle.bucket_index.specs.declared.searching.Wanted.TheVariants.{Roomy}
use Rattle.bucket_index.specs.Private.Searching.{first_from}
use Rattle.bucket_index.proofs.FewBuckets.{first-alone, row-of}
use Rattle.bucket_index.proofs.LinkedRecords.{first-more}
use Rattle.bucket_index.proofs.rest.Rest.first_roomy.Goals as goal

pub returns-then-has_room-clause-number : goal.returns-then-has_room-clause-number
returns-then-has_room-clause-number c =
    let row : c.args.first ≡ c.args.self.now.first = sym c.bits.ensures.link ∙ ap link_of c.if-bits.false ∙ c.bits-2.ensures.link in
    ap (first_from most_buckets (Roomy c.args.width) c.args.buckets.now) row
    ∙ first-alone c.args.self.now c.args.buckets.now c.args.width c.requires (omega (arith, c.if-from-width.true, c.from.ensures)) (c.has_room.ensures.narrow c.if-has_room.true)
    (sym c.has_room.ensures.value ∙ c.if-has_room.true)

pub first_of_few-requires-clause-row : goal.first_of_few-requires-clause-row
first_of_few-requires-clause-row c =
    let row : c.args.first ≡ c.args.self.now.first = sym c.bits.ensures.link ∙ ap link_of c.if-bits.false ∙ c.bits-2.ensures.link in
    row-of c.args.self.now c.args.buckets.now c.args.first row (ap is_some (sym c.number.ensures.value) ∙ c.is_none.ensures ∙ ap not c.if-is_none.false) c.requires.row

pub returns-in-Some-clause-number : goal.returns-in-Some-clause-number
returns-in-Some-clause-number c =
    let all : 4 + 4091 ≡ most_buckets = omega arith in
    ap (λ (steps : ℕ). first_from steps (Roomy c.args.width) c.args.buckets.now c.args.first) (sym all)
    ∙ first-more 4 4091 c.in-Some.number (Roomy c.args.width) c.args.buckets.now c.args.first (sym c.first_within.ensures.number ∙ c.in-Some.is)
