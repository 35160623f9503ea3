use Rattle.std.proofs.Common.{rules, ◌≡◌, ◌*◌, List, Some, length, arith, subst, ◌∙◌}
use Rattle.std.proofs.lemmas.Option.{slice_get_within}
use Rattle.etagere_links.proofs.RecordChanges.{length-changed_by}
use Rattle.bucket_index.specs.Private.Blocks.{AreKnownOf, Block, block_of}
use Rattle.bucket_index.proofs.KnownBlocks.{AreGathered, gathered-large, gathered-middle, set-of}
use Rattle.bucket_index.proofs.NestedBlocks.{nested-gathered}
use Rattle.bucket_index.proofs.blocks.Blocks.count_anew.Goals as goal

pub returns-clause-known : goal.returns-clause-known
returns-clause-known c =
    let shelves = c.args.shelves.now in
    let number = c.args.number in
    let old = c.args.self.now in
    let counted = c.requires.others.counted c.requires.counted in
    let long : length old.small ≡ 512 = search rules in
    let wide : length old.middle ≡ 64 = search rules in
    let few : length old.large ≡ 8 = search rules in
    let small : AreKnownOf (λ n. Unit {0}) 8 c.set_block.new.blocks shelves =
    rw c.set_block.ensures (set-of (λ n. n ≡ number → ⊥) (λ n. Unit {0}) 8 number c.args.fresh old.small shelves (λ n any other. other) (λ n kept same low at. c.requires.fresh n kept (omega (arith, same)) (omega (arith, same)) at) counted.each.small) in
    let long_ : length c.set_block.new.blocks ≡ 512 =
    rw c.set_block.ensures (length-changed_by (λ (block : Block). c.args.fresh) old.small (Some (block_of 8 number)) ∙ long) in
    let middle : AreKnownOf (λ n. Unit {0}) 64 c.set_block-2.new.blocks shelves =
    rw c.set_block-2.ensures (set-of (λ n. n ≡ number → ⊥) (λ n. Unit {0}) 64 number c.gathered-fresh_middle.result old.middle shelves (λ n any other. other)
    (gathered-middle number c.gathered-fresh_middle.result c.set_block.new.blocks old.middle shelves long_ wide small c.gathered-fresh_middle.ensures) counted.each.middle) in
    let wide_ : length c.set_block-2.new.blocks ≡ 64 =
    rw c.set_block-2.ensures (length-changed_by (λ (block : Block). c.gathered-fresh_middle.result) old.middle (Some (block_of 64 number)) ∙ wide) in
    let few_ : length c.set_block-3.new.blocks ≡ 8 =
    rw c.set_block-3.ensures (length-changed_by (λ (block : Block). c.gathered-fresh_large.result) old.large (Some (block_of 512 number)) ∙ few) in
    record {
      counted = λ _. record {
        each = record {
          small = small;
          middle = middle;
          large = rw c.set_block-3.ensures (set-of (λ n. n ≡ number → ⊥) (λ n. Unit {0}) 512 number c.gathered-fresh_large.result old.large shelves (λ n any other. other)
              (gathered-large number c.gathered-fresh_large.result c.set_block-2.new.blocks old.large shelves wide_ few middle c.gathered-fresh_large.ensures) counted.each.large);
        };
        others = λ some. absurd (omega (arith, some));
        own = record {
          small = λ block at. absurd (omega (arith, long_, slice_get_within c.set_block.new.blocks 512 block at));
          middle = λ block at. absurd (omega (arith, wide_, slice_get_within c.set_block-2.new.blocks 64 block at));
          large = λ block at. absurd (omega (arith, few_, slice_get_within c.set_block-3.new.blocks 8 block at));
        };
        nested =
            rw (c.set_block-3.ensures, c.set_block-2.ensures, c.set_block.ensures)
            (nested-gathered old.nested number c.args.fresh c.gathered-fresh_middle.result c.gathered-fresh_large.result old.small old.middle old.large (record old.others { number = 4096 }) long wide few (λ some. omega (arith, some))
            (subst (λ (bs : List Block). AreGathered (block_of 64 number * 8) bs c.gathered-fresh_middle.result) c.set_block.ensures c.gathered-fresh_middle.ensures)
            (subst (λ (bs : List Block). AreGathered (block_of 512 number * 8) bs c.gathered-fresh_large.result) c.set_block-2.ensures c.gathered-fresh_large.ensures)
            (length-changed_by (λ (block : Block). c.args.fresh) old.small (Some (block_of 8 number)) ∙ long)
            (length-changed_by (λ (block : Block). c.gathered-fresh_middle.result) old.middle (Some (block_of 64 number)) ∙ wide) counted.nested);
      };
      steps = c.requires.others.steps;
    }

pub returns-clause-all : goal.returns-clause-all
returns-clause-all c =
    let number = c.args.number in
    let old = c.args.self.now in
    let long : length old.small ≡ 512 = search rules in
    let wide : length old.middle ≡ 64 = search rules in
    let few : length old.large ≡ 8 = search rules in
    record {
      small = rw c.set_block.ensures (length-changed_by (λ (block : Block). c.args.fresh) old.small (Some (block_of 8 number)) ∙ long);
      middle = rw c.set_block-2.ensures (length-changed_by (λ (block : Block). c.gathered-fresh_middle.result) old.middle (Some (block_of 64 number)) ∙ wide);
      large = rw c.set_block-3.ensures (length-changed_by (λ (block : Block). c.gathered-fresh_large.result) old.large (Some (block_of 512 number)) ∙ few);
    }
