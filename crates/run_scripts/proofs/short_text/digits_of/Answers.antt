use Rattle.std.proofs.Common.{refl}
use Rattle.run_scripts.proofs.DecimalPairs.{pairs-at}
use Rattle.run_scripts.proofs.short_text.digits_of.Goals as goal

pub returns : goal.returns
returns c =
    let at = pairs-at c.args.pair c.requires in
    rw (c.as_bytes-digits.ensures.value, at.0, at.1) refl
