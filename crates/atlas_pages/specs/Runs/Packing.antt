-- Sizes that are packed at once.
use Rattle.std.specs.Prelude.{List, map}
use Rattle.etagere_base.specs.declared.geometry.Size.{Size}
use Rattle.atlas_pages.specs.declared.runs.commands.PageCommand.{PageCommand}
use Rattle.atlas_pages.specs.declared.runs.commands.PageCommand.TheVariants.{Allocate}

-- the commands that ask for sizes, one after another
abbrev pub asked_for : List Size → List PageCommand
asked_for sizes = map (λ (size : Size). Allocate size) sizes
