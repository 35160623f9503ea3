use Rattle.shelf_model.proofs.Refused.{exact, fits-widest, no_room, widest-fits}
use Rattle.shelf_model.proofs.model_laws.a_size_is_refused_for_a_reason.Goals as goal

pub returns-clause-exact : goal.returns-clause-exact
returns-clause-exact c = λ state size valid. exact state valid size

pub returns-clause-room : goal.returns-clause-room
returns-clause-room c = λ state size widest valid. no_room state valid size widest

pub returns-clause-widest : goal.returns-clause-widest
returns-clause-widest c = λ width height shelves positive.
    (widest-fits width height shelves positive, λ found. fits-widest width height shelves found.number found.shelf found.at found.fits)
