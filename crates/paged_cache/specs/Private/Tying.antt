-- What is kept is all that an atlas has allocated, in whatever order.
use Rattle.std.proofs.Common.{List, [], ◌∷◌, refl, ◌∙◌}
use Rattle.etagere_base.specs.declared.ids.Allocation.{Allocation}
use Rattle.shelf_model.specs.Atlas.{Adds}
use Rattle.shelf_model.specs.Callers.{AreTied, IsFound}
use Rattle.glyph_shelf.proofs.UsedKeys.Entries.{Among}
use Rattle.glyph_shelf.proofs.UsedKeys.ToFront.{each-front, times-front}

-- one of what is kept goes to the front
pub tied-front : (others kept all : List Allocation) (one : Allocation)
    → Adds others one kept → AreTied kept all → AreTied (one ∷ others) all
tied-front others kept all one adds tied =
    let among : Among others one kept = record { front = adds.front; back = adds.back; before = adds.before; after = adds.after } in
    record {
      found = each-front others one kept among (IsFound all) tied.found;
      counted = λ id. tied.counted id ∙ times-front others one kept among (λ allocation. allocation.id) id;
    }

-- one that stands first is one more
pub first-added : (one : Allocation) (others : List Allocation) → Adds others one (one ∷ others)
first-added one others = record { front = []; back = others; before = refl; after = refl }
