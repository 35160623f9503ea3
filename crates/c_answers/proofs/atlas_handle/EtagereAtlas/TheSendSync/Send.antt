use denote.Struct.Struct.{exits_of}
use denote.Struct.Owning.{shape, fields, to}
use denote.Param.Send.{IsSend, AllSend, owning_send, struct_send, sendable}
use Rattle.std_alloc.proofs.SendSync.{quiet}
use Rattle.std.proofs.alloc.Global.TheSendSync as heap
use Rattle.etagere_shelves.specs.contracts.atlas.AtlasAllocator as Held
use Rattle.etagere_shelves.proofs.atlas.AtlasAllocator.TheSendSync.{the_send as held_send}
use Rattle.c_answers.proofs.Sending.{held_keyless}
use Rattle.c_answers.specs.contracts.atlas_handle.EtagereAtlas.{the_row, the_type}

pub send : IsSend the_row
send =
    let all : AllSend (fields the_type) = (search sendable, (heap.the_field_send, tt)) in
    owning_send the_type all (λ d. held_keyless Held.the_row held_send d.alloc d.pointer d.state)
    (λ k. quiet (to the_type) (exits_of k (fields the_type)) ((struct_send (shape the_type) all).leaving k))
