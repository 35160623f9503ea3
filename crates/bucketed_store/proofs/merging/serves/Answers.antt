use Rattle.std.proofs.Common.{◌≡◌, ℕ, zero, suc, ◌+◌, ◌<◌, false, List, [], ◌∷◌, length, take, drop, refl, sym, arith}
use Rattle.std.proofs.lemmas.List.{length-take}
use Rattle.std.specs.Prelude.{◌==◌}
use Rattle.etagere_base.specs.declared.sides.Sides.{Sides}
use Rattle.bucketed_records.specs.declared.records.KeptShelf.{KeptShelf}
use Rattle.bucketed_store.specs.Private.Placing.{serves_at}
use Rattle.bucketed_store.proofs.merging.serves.Goals as goal

-- a shelf doesn't serve with more than stand after it
serves-short : (sides : Sides) (others number : ℕ) (xs : List KeptShelf) → number < length xs → length xs < number + 1 + others → serves_at sides others (drop number xs) ≡ false
serves-short sides others number [] within short = absurd (omega arith)
serves-short sides others zero (x ∷ xs) within short =
    let few : (length (take others xs) == others) ≡ false = unequal (length (take others xs)) (omega (arith, short, length-take others xs)) in
    rw few refl
  where
    unequal : (n : ℕ) → n < others → (n == others) ≡ false
    unequal n h = grind arith
serves-short sides others (suc number) (x ∷ xs) within short = serves-short sides others number xs (omega arith) (omega (arith, short))

pub returns-then-rest-others : goal.returns-then-rest-others
returns-then-rest-others c = sym (serves-short c.args.sides.now c.args.others c.args.number c.args.shelves.now c.requires.number (omega arith))
