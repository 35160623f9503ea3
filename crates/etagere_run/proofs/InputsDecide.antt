-- An input decides the answers of its replay but for the numbers of ids, and its drawing.
use Rattle.std.proofs.Common.{◌≡◌, ℕ, List, Ok, map, sym, subst, ◌∙◌}
use Rattle.std.specs.Prelude.{All}
use Rattle.etagere_base.specs.declared.geometry.Size.{Size}
use Rattle.etagere_base.specs.declared.options.AllocatorOptions.{AllocatorOptions}
use Rattle.etagere_base.specs.Frames.{IsAccepted}
use Rattle.run_scripts.specs.declared.commands.Reply.{Reply}
use Rattle.etagere_run.specs.Answers.Laws.{without_number}
use Rattle.etagere_run.specs.Answers.Leading.{HasMemory}
use Rattle.run_scripts.specs.Script.{Commands, OfBuckets, OfShelves, Request, script_of}
use Rattle.run_scripts.proofs.ShortHeader.{script-short}
use Rattle.run_scripts.proofs.ShortNumbers.{IsShort}
use Rattle.etagere_run.specs.Drawing.{IsDrawingOf, ShowsEnd}
use Rattle.etagere_run.specs.Replaying.{IsRunOf, RepliesTo, longest_asked}
use Rattle.etagere_run.proofs.RunAnswers.TwoRuns.{atlas-runs-differ, bucketed-runs-differ}

-- an input spells one request
one-request : (input : List ℕ) (one other : Request) → script_of input ≡ Ok one → script_of input ≡ Ok other → other ≡ one
one-request input one other spelled others_spelled = let both : Ok other ≡ Ok one = sym others_spelled ∙ spelled in cc

-- replies to the commands of a request
replies-differ : (size : Size) (options : AllocatorOptions) (commands : Commands) (replies others : List Reply) → IsShort options.alignment → IsAccepted (longest_asked commands) size options
    → RepliesTo size options commands replies → RepliesTo size options commands others → All HasMemory replies → All HasMemory others → map without_number replies ≡ map without_number others
replies-differ size options (OfShelves commands) replies others short accepted runs others_run memory room =
    (atlas-runs-differ size options accepted short.width short.height commands replies others runs.0 others_run.0
    (record { run = runs.1; memory = memory }) (record { run = others_run.1; memory = room })).0
replies-differ size options (OfBuckets commands) replies others short accepted runs others_run memory room =
    (bucketed-runs-differ size options accepted short.width short.height commands replies others runs.0 others_run.0
    (record { run = runs.1; memory = memory }) (record { run = others_run.1; memory = room })).0

pub replays-differ : (input text other : List ℕ) (one : IsRunOf input text) (another : IsRunOf input other) → All HasMemory one.replies → All HasMemory another.replies
    → map without_number one.replies ≡ map without_number another.replies
replays-differ input text other one another memory room =
    let same : another.request ≡ one.request = one-request input one.request another.request one.spelled another.spelled in
    replies-differ one.request.size one.request.options one.request.commands one.replies another.replies (script-short input one.request one.spelled) one.accepted one.runs
    (subst (λ (r : Request). RepliesTo r.size r.options r.commands another.replies) same another.runs) memory room

-- the picture of what a request leaves
pictures-same : (size : Size) (options : AllocatorOptions) (commands : Commands) (text other : List ℕ) → IsShort options.alignment → IsAccepted (longest_asked commands) size options
    → ShowsEnd size options commands text → ShowsEnd size options commands other → text ≡ other
pictures-same size options (OfShelves commands) text other short accepted one another =
    one.text_is
    ∙ (atlas-runs-differ size options accepted short.width short.height commands one.led.replies another.led.replies one.last another.last
    (record { run = one.led.run; memory = one.led.memory }) (record { run = another.led.run; memory = another.led.memory })).1
    ∙ sym another.text_is
pictures-same size options (OfBuckets commands) text other short accepted one another =
    one.text_is
    ∙ (bucketed-runs-differ size options accepted short.width short.height commands one.led.replies another.led.replies one.last another.last
    (record { run = one.led.run; memory = one.led.memory }) (record { run = another.led.run; memory = another.led.memory })).1
    ∙ sym another.text_is

pub drawings-same : (input text other : List ℕ) → IsDrawingOf input text → IsDrawingOf input other → text ≡ other
drawings-same input text other one another =
    let same : another.request ≡ one.request = one-request input one.request another.request one.spelled another.spelled in
    pictures-same one.request.size one.request.options one.request.commands text other (script-short input one.request one.spelled) one.picture.accepted one.picture.shown
    (subst (λ (r : Request). ShowsEnd r.size r.options r.commands other) same another.picture.shown)
