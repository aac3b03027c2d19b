-- Notation of the worked examples: schedules and their transcripts.
use Rattle.std.specs.Prelude.{ℕ, List, [], ◌∷◌, ◌++◌, map, Option, Some, None, option_map}
use Rattle.std.specs.Option.{option_map_or}
use Rattle.crsm_base.specs.Messages.{datagram_bytes}
use Rattle.crsm_spec.specs.Types.{Datagram, Stamp, Op, Line}
use Rattle.crsm_spec.specs.World.{World, begin, first_lines, finals}
use Rattle.crsm_spec.specs.Acts.{Act, Single, Bad}
use Rattle.crsm_spec.specs.Moments.{act}
use Rattle.crsm_spec.specs.Possible.{possible}
use Rattle.crsm_spec.specs.Run.{after_acts}
use Rattle.crsm_spec.specs.Node.{Turn, outputs}
use Rattle.crsm_spec.specs.Draft.{Draft}

-- ---- values

-- the stamp of this time and origin
abbrev pub stamp : ℕ → ℕ → Stamp
stamp time origin = record { time = time; origin = origin }

-- a client's request at replica r, at reading t
abbrev pub request : ℕ → ℕ → ℕ → ℕ → Op → Single
request r t client number op = Single.Request r t (record { client = client; number = number; op = op })

-- a number below 256 in four bytes
abbrev pub u32 : ℕ → List ℕ
u32 n = 0 ∷ 0 ∷ 0 ∷ n ∷ []

-- a number below 256 in eight bytes
abbrev pub u64 : ℕ → List ℕ
u64 n = 0 ∷ 0 ∷ 0 ∷ 0 ∷ 0 ∷ 0 ∷ 0 ∷ n ∷ []

-- ---- worlds

-- the lines of each act and then the last lines, where each act is possible
abbrev pub replay_from : World → List Act → Option (List (List Line))
replay_from v [] = Some (finals v ∷ [])
replay_from v (a ∷ acts) =
    let m = act v a in
    let rest = replay_from m.after acts in
    option_map_or (λ _. None) (possible v a) (option_map (λ lines. m.lines ∷ lines) rest)

-- The transcript of a schedule: the lines of the first boots, those of each act, and the last lines.
abbrev pub replay : ℕ → List Act → Option (List (List Line))
replay n acts = option_map (λ lines. first_lines n ∷ lines) (replay_from (begin n) acts)

-- the reason why an act is not possible after these
abbrev pub refused : ℕ → List Act → Act → Option Bad
refused n acts a = possible (after_acts (begin n) acts) a

-- ---- one replica by itself

-- the lines of a turn
abbrev pub turn_lines : Draft → List Line
turn_lines x =
    ((x.lines ++ x.excess) ++ map (λ s. Line.Out s.0 (datagram_bytes s.1)) x.sends)
    ++ map (λ a. Line.Back a.address (datagram_bytes (Datagram.Reply a.client a.number a.says))) x.replies

-- the lines of replica me of n on an empty disk, boot and turns
abbrev pub lines_of_node : ℕ → ℕ → List (Turn × ℕ) → List (List Line)
lines_of_node me n turns = map turn_lines (outputs me n [] turns)

-- bytes from an address, at reading t
abbrev pub came : ℕ → ℕ → List ℕ → Turn × ℕ
came t address bytes = (Turn.In address bytes, t)

-- a tick at reading t
abbrev pub ticked : ℕ → Turn × ℕ
ticked t = (Turn.Tick, t)

-- a suspicion at reading t
abbrev pub suspected : ℕ → List ℕ → Turn × ℕ
suspected t members = (Turn.Suspect members, t)
