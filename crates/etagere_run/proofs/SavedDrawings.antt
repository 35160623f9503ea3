-- What was sent of a restored atlas draws its snapshot, and the text that spells it.
use Rattle.std.proofs.Common.{◌≡◌, ℕ, List, Option, Result, Ok, Err, OnOk, subst, sym}
use Rattle.std.specs.Prelude.{OnErr}
use Rattle.std.specs.Io.KnownBytes.{Appends}
use Rattle.pictures.specs.Sending.{AppendsBeginning}
use Rattle.run_scripts.specs.declared.faults.Checked.{Checked}
use Rattle.run_scripts.specs.declared.faults.Checked.TheVariants.{Fine, Broken, Unreadable}
use Rattle.run_scripts.specs.declared.faults.ReplayFault.{ReplayFault}
use Rattle.run_scripts.specs.declared.faults.ReplayFault.TheVariants.{Read, Write, Memory}
use Rattle.etagere_run.specs.Private.Drawn.{DrawsSaved, DrawsSnapshot}
use Rattle.etagere_run.specs.Saved.{ShowsSaved}
use Rattle.saved_json.specs.declared.saved.Saved.{Saved}
use Rattle.saved_json.specs.Snapshots.{Spells}

-- a picture that was sent, or a beginning of it
pub sent-draws : {T E : Type 0} (saved : Saved) (text : List ℕ) (old new : Option (List ℕ)) (sent : Result T E)
    (answer : Result Checked ReplayFault)
    → ShowsSaved saved text
    → OnOk sent (Appends old new text)
    → OnErr sent (AppendsBeginning old new text)
    → OnOk sent (answer ≡ Ok Fine)
    → OnErr sent (answer ≡ Err Write)
    → DrawsSaved saved old new answer
sent-draws saved text old new (Ok done) answer shows out begun fine failed =
    subst (λ (r : Result Checked ReplayFault). DrawsSaved saved old new r) (sym fine) (text, shows, out)
sent-draws saved text old new (Err fault) answer shows out begun fine failed =
    subst (λ (r : Result Checked ReplayFault). DrawsSaved saved old new r) (sym failed) (text, shows, begun)

-- the text of a snapshot that was drawn
pub saved-draws : (input : List ℕ) (saved : Saved) (old new : Option (List ℕ)) (answer : Result Checked ReplayFault)
    → Spells input saved → DrawsSaved saved old new answer → DrawsSnapshot input old new answer
saved-draws input saved old new (Ok Fine) spelled (text, shows, out) = (text, (saved, spelled, shows), out)
saved-draws input saved old new (Ok (Broken number)) spelled (right, kept) = ((saved, spelled, right), kept)
saved-draws input saved old new (Ok Unreadable) spelled (right, kept) = (tt, kept)
saved-draws input saved old new (Err Read) spelled drawn = drawn
saved-draws input saved old new (Err Write) spelled (text, shows, begun) = (text, (saved, spelled, shows), begun)
saved-draws input saved old new (Err Memory) spelled kept = kept
