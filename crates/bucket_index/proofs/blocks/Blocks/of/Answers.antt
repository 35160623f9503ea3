use Rattle.std.proofs.Common.{rules, ◌≡◌, ◌+◌, ◌<◌, ℕ, Bool, List, Some, true, false, length, refl, ap, sym, arith, ◌∙◌, ◌==◌}
use Rattle.std.proofs.lemmas.Bool.{and_parts, eqb-false, eqb-true}
use Rattle.std.proofs.lemmas.Option.{slice_get_read, slice_get_within}
use Rattle.std.specs.Prelude.{slice_get, ◌%◌, ◌&&◌}
use Rattle.etagere_links.proofs.RecordChanges.{length-changed_by}
use Rattle.bucket_index.specs.Private.Blocks.{AreFirstKnown, KeptShelf, Others, block_of, expecting, with_shelf}
use Rattle.bucket_index.proofs.KnownBlocks.{all-known, known-expecting, raise-known, some-same}
use Rattle.bucket_index.proofs.NestedBlocks.{nested-raised}
use Rattle.bucket_index.proofs.OtherShelves.{none-others, none-own}
use Rattle.bucket_index.proofs.blocks.Blocks.of.Goals as goal

-- heights are in steps with one more shelf, whose height was expected
steps-more : (before : Bool) (shelves : List KeptShelf) (number : ℕ) (one : KeptShelf) → slice_get shelves number ≡ Some one
    → (before ≡ true → (n : ℕ) (kept : KeptShelf) → n < number → slice_get shelves n ≡ Some kept → kept.shelf.height % 8 ≡ 0) → (before && one.shelf.height % 8 == 0) ≡ true → (n : ℕ) (kept : KeptShelf)
    → n < number + 1 → slice_get shelves n ≡ Some kept → kept.shelf.height % 8 ≡ 0
steps-more before shelves number one there steps both n kept below at = by_number (n == number) refl
  where
    by_number : (t : Bool) → (n == number) ≡ t → kept.shelf.height % 8 ≡ 0
    by_number true e =
        ap (λ (s : KeptShelf). s.shelf.height % 8) (some-same (slice_get shelves number) kept one (ap (slice_get shelves) (sym (eqb-true n number e)) ∙ at) there)
        ∙ eqb-true (one.shelf.height % 8) 0 (and_parts before (one.shelf.height % 8 == 0) both).1
    by_number false e = steps (and_parts before (one.shelf.height % 8 == 0) both).0 n kept (by_less (eqb-false n number e)) at
      where
        by_less : (n ≡ number → ⊥) → n < number
        by_less other = omega (arith, below, other)

pub loop-number-init : goal.loop-number-init
loop-number-init c = record {
  first = all;
  others = c.new-known.ensures.none;
  nested = c.new-known.ensures.nested;
  long = search rules;
  wide = search rules;
  few = search rules;
  steps = λ in_steps number kept below at. absurd (omega (arith, below));
}
  where
    all : AreFirstKnown 0 c.new-known.result c.args.shelves.now
    all = record {
      small = λ number kept block below. absurd (omega (arith, below));
      middle = λ number kept block below. absurd (omega (arith, below));
      large = λ number kept block below. absurd (omega (arith, below));
    }

pub loop-number-preserved : goal.loop-number-preserved
loop-number-preserved c =
    let shelves = c.args.shelves.now in
    let number = c.loop-number.number in
    let known = c.loop-number.known in
    let one = c.index-shelves-number.result in
    let there = slice_get_read shelves (length shelves) number one refl c.loop-number-test.true c.index-shelves-number.is in
    let before = c.loop-number.invariant in
    rw (c.raise.ensures, c.expect.ensures) (record {
      first = raise-known (λ n. n < number) (λ n. n < number + 1) number one (expecting one.shelf.height known) shelves there (λ n below other. omega (arith, below, other))
          (known-expecting one.shelf.height known shelves c.loop-number.invariant.first);
      others = c.loop-number.invariant.others;
      nested =
          nested-raised number one (expecting one.shelf.height known) before.long before.wide before.few
          (λ some. absurd (omega (arith, some, ap (λ (others : Others). others.number) c.loop-number.invariant.others))) c.loop-number.invariant.nested;
      long = length-changed_by (with_shelf one) known.small (Some (block_of 8 number)) ∙ before.long;
      wide = length-changed_by (with_shelf one) known.middle (Some (block_of 64 number)) ∙ before.wide;
      few = length-changed_by (with_shelf one) known.large (Some (block_of 512 number)) ∙ before.few;
      steps = steps-more known.in_steps shelves number one there c.loop-number.invariant.steps;
    })

pub returns : goal.returns
returns c =
    let all = all-known c.loop-number.number c.loop-number.known c.args.shelves.now c.loop-number-test.false c.loop-number.invariant.first in
    record {
      counted = λ _. record {
        each = record { small = all.small; middle = all.middle; large = all.large };
        others = none-others (λ n. Unit {0}) c.loop-number.known c.args.shelves.now c.loop-number.invariant.others;
        own =
            let own = none-own c.loop-number.known c.loop-number.invariant.others in
            record { small = own.small; middle = own.middle; large = own.large };
        nested = c.loop-number.invariant.nested;
      };
      steps = λ in_steps number kept at.
          c.loop-number.invariant.steps in_steps number kept (omega (arith, slice_get_within c.args.shelves.now number kept at, c.loop-number-test.false)) at;
    }
