use Rattle.std.proofs.Common.{◌≡◌, ℕ, ◌/◌, ◌<◌, Some, get_or, ap, refl, sym, ◌∙◌, arith}
use Rattle.std.proofs.lemmas.Option.{slice_get-get_or}
use Rattle.std.specs.Prelude.{slice_get}
use Rattle.etagere_links.specs.Links.{link_of, no_link}
use Rattle.bucket_index.specs.Private.Spans.{Span, block_of, span_of, whole_of}
use Rattle.bucket_index.proofs.KnownSpans.{known-block, span-joined, span-of, span-part}
use Rattle.bucket_index.proofs.spans.gathered.Goals as goal

-- what a span is that is not there
abbrev none : Span
none = record { first = 0; steps = 0; behind = 0; widest_room = 0 }

pub loop-part-init : goal.loop-part-init
loop-part-init c buckets are known =
    let numbered = block_of c.args.scale in
    let span = c.span_of-begin.result in
    let is : span_of c.args.parts.now (numbered c.args.first) ≡ span = ap (span_of c.args.parts.now) (sym c.block_of.ensures.value) ∙ sym c.span_of-begin.ensures in
    span-part c.args.scale c.args.first span buckets (span-of numbered c.args.parts.now (numbered c.args.first) span buckets is are known)

pub loop-part-preserved : goal.loop-part-preserved
loop-part-preserved c buckets are known =
    let scale = c.args.scale in
    let numbered = block_of scale in
    let number = c.in-Some.number in
    let part = c.block_of-part.result in
    let next = get_or c.args.parts.now part none in
    let on = c.if-not-goes_on.ensures refl in
    let at : slice_get c.args.parts.now part ≡ Some next = slice_get-get_or c.args.parts.now part none (omega arith) in
    let begun : next.first < no_link = omega (arith, on.0, c.in-Some.ensures.small) in
    let ends : link_of c.loop-part.behind ≡ Some next.first = sym c.from_bits.ensures ∙ sym c.number.ensures.value ∙ c.in-Some.is ∙ ap (λ (n : ℕ). Some n) (sym on.0) in
    let same : whole_of scale number ≡ whole_of scale c.args.first =
    ap (λ (p : ℕ). p / 8) (sym c.block_of-part.ensures.value) ∙ c.if-part-whole.false ∙ ap (λ (p : ℕ). p / 8) c.block_of-whole.ensures.value in
    let next_known = are (numbered number) next (ap (slice_get c.args.parts.now) (sym c.block_of-part.ensures.value) ∙ at) begun in
    rw c.max-widest.ensures
    (span-joined (whole_of scale) (whole_of scale c.args.first) c.span_of-begin.result.first c.loop-part.steps c.loop-part.behind c.loop-part.widest next buckets ends (c.loop-part.invariant buckets are known)
    (known-block (whole_of scale) (whole_of scale number) (whole_of scale c.args.first) next buckets same (λ _. span-part scale number next buckets next_known) begun))
