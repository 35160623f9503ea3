use Rattle.std.proofs.Common.{◌≡◌, length, arith, subst}
use Rattle.glyph_shelf.specs.Cache.{evictable}
use Rattle.glyph_shelf.specs.Placing.{MakesRoom}
use Rattle.glyph_shelf.proofs.FullFrames.{unframed-makes}
use Rattle.glyph_shelf.proofs.laws.no_frame_binds_nothing.Goals as goal

pub returns : goal.returns
returns c = λ state size promises none fits.
    let all : evictable state ≡ length state.entries = omega (arith, none) in
    (all, subst (MakesRoom state size) all (unframed-makes state size promises fits none))
