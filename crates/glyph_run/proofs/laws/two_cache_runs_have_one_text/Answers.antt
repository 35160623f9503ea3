use Rattle.std.proofs.Common.{◌^◌, ◌<◌, ◌≤◌, rules}
use Rattle.std.specs.NonZero.{non_zero_usize_get}
use Rattle.etagere_base.specs.Sides.{side}
use Rattle.glyph_run.proofs.TwoRuns.{cache-runs-same}
use Rattle.glyph_run.proofs.laws.two_cache_runs_have_one_text.Goals as goal

pub returns : goal.returns
returns c =
    let short_width : side c.args.options.alignment.width < 2 ^ 31 = search rules in
    let short_height : side c.args.options.alignment.height < 2 ^ 31 = search rules in
    let some : 1 ≤ non_zero_usize_get c.args.capacity = search rules in
    cache-runs-same c.args.size c.args.options (non_zero_usize_get c.args.capacity) c.requires short_width short_height some
