use Rattle.std.proofs.Common.{◌≡◌, ◌*◌, ◌/◌, ◌<◌, ◌≤◌, ℕ, arith, sym, subst, ◌∙◌}
use Rattle.std.proofs.Math.Nat.{div-eq_of_lt-le, div-mul-le_self, lt-div-mul-add, suc-mul}
use Rattle.bucket_index.specs.Private.Blocks.{block_of, end_of}
use Rattle.bucket_index.proofs.KnownBlocks.{busy-joined, busy-of}
use Rattle.bucket_index.proofs.blocks.behind_busy_of.Goals as goal

-- a shelf before the end of the block of another one that isn't behind it stands in that block
same-block : (size at number : ℕ) → at ≤ number → number < end_of size at → block_of size number ≡ block_of size at
same-block size at number low high =
    div-eq_of_lt-le {k = at / size} size {m = number} (omega (arith, low, div-mul-le_self at size))
    (subst (λ (k : ℕ). number < k * size) (omega arith) (subst (λ (n : ℕ). number < n) (sym (suc-mul (at / size) size)) high))

pub loop-at-preserved : goal.loop-at-preserved
loop-at-preserved c =
    let size = c.args.size in
    let at = c.loop-at.at in
    let end = c.end_of-at in
    record {
      on = omega (arith, c.loop-at.invariant.on, lt-div-mul-add {a = at} {b = size} c.requires.size.0, end.ensures);
      busy = λ shelves known. busy-joined c.args.from at end.result shelves (c.loop-at.invariant.busy shelves known)
          (λ number kept low high there. busy-of size (block_of size at) c.args.blocks.now shelves known (sym c.may_be_idle.ensures ∙ c.if-not-may_be_idle.true) number kept
          (same-block size at number low (omega (arith, high, end.ensures))) there);
    }
