use Rattle.std.proofs.Common.{◌≡◌, ◌<◌, ◌≤◌, ℕ, false, true, ap, refl, set, sym, ◌∙◌, arith}
use Rattle.std.specs.Prelude.{nat_lt}
use Rattle.shelf_heights.specs.Private.ByHeight.{bound_of, bounded_at}
use Rattle.shelf_heights.specs.declared.by_height.BoundedShelf.{BoundedShelf}
use Rattle.shelf_heights.proofs.ByHeight.Edited.{bounded_as}
use Rattle.shelf_heights.proofs.ByHeight.Positions.{StandsAt, stands-there}
use Rattle.shelf_heights.proofs.heights.raise_at.Goals as goal
use Rattle.shelf_heights.proofs.heights.raise_at.Goals.{After-get-one}

-- what is read is below, so the bound is
lower : (read bound width : ℕ) → read ≡ bound → read < width → nat_lt bound width ≡ true
lower read bound width is less = grind arith

-- what is read isn't below, so the bound isn't
no_lower : (read bound width : ℕ) → read ≡ bound → width ≤ read → nat_lt bound width ≡ false
no_lower read bound width is enough = grind arith

abbrev number : After-get-one → ℕ
number c = (bounded_at c.args.by_height.now.items c.args.index).shelf

-- the shelf stands there
at : (c : After-get-one) → StandsAt (number c) c.args.index c.args.by_height.now.items
at c = stands-there (number c) c.args.index c.args.by_height.now.items c.requires.once c.requires.index refl

-- and it was read with its bound
read : (c : After-get-one) → c.get-one.result ≡ bounded_as (number c) (bound_of (number c) c.args.by_height.now.items)
read c = c.get-one.ensures ∙ (at c).read c.get-one.result

pub returns-then-bound-width-clause-by_height : goal.returns-then-bound-width-clause-by_height
returns-then-bound-width-clause-by_height c =
    let got = (goal.at.returns-then-bound-width-clause-by_height c).After-get-one in
    let by_height = c.args.by_height.now.items in
    let less : nat_lt (bound_of (number got) by_height) c.args.width ≡ true =
    lower c.get-one.result.widest (bound_of (number got) by_height) c.args.width (ap (λ (one : BoundedShelf). one.widest) (read got)) c.if-bound-width.true in
    c.set.ensures.items
    ∙ ap (λ (one : BoundedShelf). set by_height c.args.index (record one { widest = c.args.width })) (read got)
    ∙ (at got).higher c.args.width less

pub returns-else-bound-width-clause-by_height : goal.returns-else-bound-width-clause-by_height
returns-else-bound-width-clause-by_height c =
    let got = (goal.at.returns-else-bound-width-clause-by_height c).After-get-one in
    let by_height = c.args.by_height.now.items in
    let enough : nat_lt (bound_of (number got) by_height) c.args.width ≡ false =
    no_lower c.get-one.result.widest (bound_of (number got) by_height) c.args.width (ap (λ (one : BoundedShelf). one.widest) (read got)) c.if-bound-width.false in
    sym ((at got).same c.args.width enough)

-- what is given is the bound that it had
pub returns-then-bound-width-clause-bound : goal.returns-then-bound-width-clause-bound
returns-then-bound-width-clause-bound c =
    let got = (goal.at.returns-then-bound-width-clause-bound c).After-get-one in
    ap (λ (one : BoundedShelf). one.widest) (read got)

pub returns-else-bound-width-clause-bound : goal.returns-else-bound-width-clause-bound
returns-else-bound-width-clause-bound c =
    let got = (goal.at.returns-else-bound-width-clause-bound c).After-get-one in
    ap (λ (one : BoundedShelf). one.widest) (read got)
