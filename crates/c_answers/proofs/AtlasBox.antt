-- A handle of an atlas and its parts own what a box of an atlas owns.
use mir.Syntax.{impl, tnil, dnil}
use mathlib.Core.List.{[]}
use denote.RattleType.{RattleType}
use denote.Signature.{Slot, plain}
use Rattle.std_alloc.proofs.BoxSteps.Form.{Bx}
use Rattle.std.specs.contracts.alloc.Global as heap
use Rattle.std.proofs.alloc.Global.TheLaws as heap_laws
use Rattle.std.specs.contracts.impls.GlobalAllocator.TheImpl.{ghosts, dict}
use Rattle.etagere_shelves.specs.contracts.atlas.AtlasAllocator as Atlas
use Rattle.etagere_shelves.proofs.atlas.AtlasAllocator.TheLaws as atlas_laws
use Rattle.c_answers.specs.contracts.parts.Parts as parts
use Rattle.c_answers.specs.contracts.atlas_handle.EtagereAtlas as handle

abbrev pub E : Bx
E = record { row = Atlas.the_row; laws = atlas_laws.the_row_laws; al = record { row = heap.the_row; laws = heap_laws.the_row_laws; g = ghosts; d = dict; drops = impl [] tnil dnil } }

abbrev pub Lent : RattleType
Lent = parts.the_row Atlas.the_row heap.the_row ghosts

abbrev pub Parts : Slot 0
Parts = plain (λ _. Lent)

abbrev pub Handle : Slot 0
Handle = plain (λ _. handle.the_row)

abbrev pub Alloc : Slot 0
Alloc = plain (λ _. heap.the_row)
