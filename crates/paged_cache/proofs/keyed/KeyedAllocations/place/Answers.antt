use Rattle.std.proofs.Common.{◌≡◌, None, nat_eq, ap, sym, ◌∙◌, subst}
use Rattle.std.specs.Map.{lookup}
use Rattle.paged_cache.specs.Keyed.{Places, RanOut}
use Rattle.paged_cache.proofs.Keeping.{used-unknown}
use Rattle.paged_cache.proofs.keyed.KeyedAllocations.place.Goals as goal

pub returns-then-not-fits_ever-clause-left : goal.returns-then-not-fits_ever-clause-left
returns-then-not-fits_ever-clause-left g c =
    let none : lookup (nat_eq c.args.key) c.args.self.now.entries ≡ None = sym c.look.ensures.value ∙ c.in_default.is in
    let same : c.look.new.self ≡ c.args.self.now = c.look.ensures.used ∙ used-unknown c.args.self.now c.args.key none in
    same

pub place_new-requires-clause-new : goal.place_new-requires-clause-new
place_new-requires-clause-new g c =
    let none : lookup (nat_eq c.args.key) c.args.self.now.entries ≡ None = sym c.look.ensures.value ∙ c.in_default.is in
    let same : c.look.new.self ≡ c.args.self.now = c.look.ensures.used ∙ used-unknown c.args.self.now c.args.key none in
    ap (λ s. lookup (nat_eq c.args.key) s.entries) same ∙ none

pub returns-in-Ok-clause-placed : goal.returns-in-Ok-clause-placed
returns-in-Ok-clause-placed g c = λ new.
    let none : lookup (nat_eq c.args.key) c.args.self.now.entries ≡ None = sym c.look.ensures.value ∙ c.in_default.is in
    let same : c.look.new.self ≡ c.args.self.now = c.look.ensures.used ∙ used-unknown c.args.self.now c.args.key none in
    subst (λ s. Places g.A.Allocates.returned g.A.Allocates.has_place g.A.Allocates.gives s c.args.key c.args.size c.in-Ok.allocation c.place_new.new.evicted.items c.place_new.new.self) same c.in-Ok.ensures.ok

pub returns-in-Err-clause-left : goal.returns-in-Err-clause-left
returns-in-Err-clause-left g c =
    let none : lookup (nat_eq c.args.key) c.args.self.now.entries ≡ None = sym c.look.ensures.value ∙ c.in_default.is in
    let same : c.look.new.self ≡ c.args.self.now = c.look.ensures.used ∙ used-unknown c.args.self.now c.args.key none in
    subst (λ s. RanOut g.A.Allocates.returned g.A.Allocates.has_place g.A.Allocates.gives s c.args.size c.place_new.new.evicted.items c.place_new.new.self) same c.in-Err.ensures.err
