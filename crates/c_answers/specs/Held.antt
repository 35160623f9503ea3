-- What a handle owns: what it holds, in a box at its pointer, or nothing where that is null.
use Rattle.std.specs.Prelude.{◌≡◌}
use Rattle.std.specs.Coded.{Coded, coded_option}
use Rattle.std.specs.declared.option.Option.{Option}
use Rattle.std.specs.declared.option.Option.TheVariants.{None, Some}
use Rattle.std.specs.declared.alloc.Global.{Global}
use Rattle.std.specs.contracts.impls.GlobalAllocator.TheImpl.{ghosts}
use Rattle.std.specs.Box.Ownership.{box_owns}
use base.Fml.{Fml, ftrue, fex}
use denote.RattleType.{RattleType}
use denote.RawPtr.{Ptr, null_ptr}
use Rattle.etagere_shelves.specs.contracts.atlas.AtlasAllocator as Atlas
use Rattle.glyph_shelf.specs.contracts.cache.GlyphCache as Cache
use Rattle.etagere_bucketed.specs.contracts.atlas.BucketedAtlasAllocator as Bucketed

abbrev pub held : (R : RattleType) → Global → Ptr → Option R.Denot → Fml
held R alloc pointer None = fex (pointer ≡ null_ptr) (λ _. ftrue)
held R alloc pointer (Some value) = box_owns (ghosts.dealloc_token alloc) R pointer value

abbrev pub atlas_owns : Global → Ptr → Option Atlas.the_row.Denot → Fml
atlas_owns = held Atlas.the_row

abbrev pub atlas_coded : Coded (Option Atlas.the_row.Denot)
atlas_coded = coded_option Atlas.the_row.coded

abbrev pub bucketed_owns : Global → Ptr → Option Bucketed.the_row.Denot → Fml
bucketed_owns = held Bucketed.the_row

abbrev pub bucketed_coded : Coded (Option Bucketed.the_row.Denot)
bucketed_coded = coded_option Bucketed.the_row.coded

abbrev pub cache_owns : Global → Ptr → Option Cache.the_row.Denot → Fml
cache_owns = held Cache.the_row

abbrev pub cache_coded : Coded (Option Cache.the_row.Denot)
cache_coded = coded_option Cache.the_row.coded
