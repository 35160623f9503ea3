use Rattle.padding.proofs.Refused.{positive-sides, refuses}
use Rattle.padding.proofs.Trimmed.{lies-within, makes-room, taken-back}
use Rattle.padding.proofs.laws.padding_is_given_back.Goals as goal

pub returns-clause-back : goal.returns-clause-back
returns-clause-back c = taken-back

pub returns-clause-within : goal.returns-clause-within
returns-clause-within c = lies-within

pub returns-clause-apart : goal.returns-clause-apart
returns-clause-apart c =
    λ padding one other apart x y here there. apart x y (lies-within padding one x y here) (lies-within padding other x y there)

pub returns-clause-room : goal.returns-clause-room
returns-clause-room c =
    λ padding frame size rectangle wide tall large none.
    let positive = positive-sides padding size none in
    makes-room padding frame size rectangle wide tall large positive.0 positive.1

pub returns-clause-refused : goal.returns-clause-refused
returns-clause-refused c = refuses
