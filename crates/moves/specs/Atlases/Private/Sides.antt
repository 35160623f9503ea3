-- When the sides of a rectangle can be told.
use Rattle.std.specs.Prelude.{FitsSigned}
use Rattle.std.specs.Int.{w32}
use Rattle.etagere_base.specs.declared.ids.Allocation.{Allocation}
use Rattle.moves.specs.Atlases.Order.{size_of}

-- the sides of what is allocated are signed numbers of 32 bits
pub record HasSides (allocation : Allocation) : Type 0 where
  pub width : FitsSigned w32 (size_of allocation.rectangle).width
  pub height : FitsSigned w32 (size_of allocation.rectangle).height
