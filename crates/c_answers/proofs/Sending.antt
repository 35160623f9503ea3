-- What a handle owns may go to another thread where what it holds may.
use mir.Raw.{raw}
use denote.Memory.{lone}
use denote.RattleType.{RattleType}
use denote.RawPtr.{Ptr}
use denote.Param.Send.{IsSend}
use base.Shift.{Keyless}
use Rattle.std.proofs.Crossing as heap
use Rattle.std.specs.declared.alloc.Global.{Global}
use Rattle.std.specs.declared.option.Option.{Option}
use Rattle.std.specs.declared.option.Option.TheVariants.{None, Some}
use Rattle.std_alloc.proofs.SendSync.{lies}
use Rattle.c_answers.specs.Held.{held}

pub held_keyless : (R : RattleType) → IsSend R → (alloc : Global) (pointer : Ptr) (state : Option R.Denot) → Keyless (held R alloc pointer state)
held_keyless R send alloc pointer None = λ _. tt
held_keyless R send alloc pointer (Some value) = (lies R send pointer value, heap.frees.frees alloc (raw (lone R.mir)) pointer)
