use Rattle.std.proofs.Common.{ℕ, List, Result, Ok, Err, OnErr, sym, subst}
use Rattle.glyph_shelf.specs.Placing.{RanOut}
use Rattle.glyph_shelf.proofs.Evicting.{ran_out-first}
use Rattle.glyph_shelf.proofs.kept.Kept.evict_and_enter.Goals as goal

on_err : {A B : Type 0} (P : Type 0) (r : Result A B) → P → OnErr r P
on_err P (Ok a) holds = tt
on_err P (Err b) holds = holds

pub returns-in_err-makes_room-clause-err : goal.returns-in_err-makes_room-clause-err
returns-in_err-makes_room-clause-err c =
    let now = c.args.self.now in
    let left : List ℕ → Type 0 = λ evicted. RanOut now c.args.size evicted now in
    on_err (left c.args.evicted.now.items) _
    (subst left (sym c.requires.none) (ran_out-first now c.args.size c.requires.promises c.requires.fits))
