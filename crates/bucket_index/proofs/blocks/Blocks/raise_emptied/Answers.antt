use Rattle.std.proofs.Common.{rules, ◌≡◌, ◌≤◌, ◌<◌, ℕ, List, length, get_or, refl}
use Rattle.std.proofs.lemmas.Option.{slice_get_read}
use Rattle.bucket_index.specs.declared.blocks.Blocks.{Blocks}
use Rattle.bucket_index.specs.Private.Blocks.{AreKnown, AreOthersKnown, KeptShelf, raised}
use Rattle.bucket_index.proofs.OtherShelves.{raise-unkept}
use Rattle.bucket_index.proofs.blocks.Blocks.raise_emptied.Goals as goal

-- all are known once the shelf is raised
known : (k : ℕ) (one : KeptShelf) (blocks : Blocks) (shelves : List KeptShelf) → length blocks.small ≡ 512 → length blocks.middle ≡ 64 → length blocks.large ≡ 8 → k < length shelves → one ≡ get_or shelves k one
    → 4096 ≤ blocks.others.number → AreOthersKnown k blocks shelves → AreKnown (raised k one blocks) shelves
known k one blocks shelves long wide few within is none others = record {
  counted = λ counts. raise-unkept k one blocks shelves long wide few (slice_get_read shelves (length shelves) k one refl within is) none (others.counted counts);
  steps = others.steps;
}

pub returns-then-number-self : goal.returns-then-number-self
returns-then-number-self c =
    rw c.raise_nested.ensures
    (known c.args.number c.index-shelves-number.result c.args.self.now c.args.shelves.now (search rules) (search rules) (search rules) c.requires.within c.index-shelves-number.is c.requires.none c.requires.others)

pub returns-else-number-self : goal.returns-else-number-self
returns-else-number-self c =
    rw c.raise.ensures
    (known c.args.number c.index-shelves-number.result c.args.self.now c.args.shelves.now (search rules) (search rules) (search rules) c.requires.within c.index-shelves-number.is c.requires.none c.requires.others)
