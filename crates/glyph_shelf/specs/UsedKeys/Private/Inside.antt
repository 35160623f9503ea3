-- What the fields of used keys keep, and the state that they stand for.
use Rattle.std.specs.Prelude.{◌==◌, cond, None, Some}
use Rattle.glyph_shelf.specs.UsedKeys.Keys.{KeysState}
use Rattle.glyph_shelf.specs.UsedKeys.Private.Stamps.{AreFalling, stamped_first, unstamped}
use Rattle.glyph_shelf.specs.declared.used_keys.keys.UsedKeys.TheInside.{Inside}

-- the keys that have the stamp of the frame were used in it; frame 0 is none
abbrev pub keys_state : Inside → KeysState
keys_state keys =
    record {
      entries = unstamped keys.entries.entries;
      cap = keys.entries.cap;
      uses = cond (keys.frame == 0) None (Some (stamped_first keys.frame keys.entries.entries));
    }

-- no key was used in a later frame than the present one, nor than one that stands before it
abbrev pub AreStamped : Inside → Type 0
AreStamped keys = AreFalling keys.frame keys.entries.entries
