-- Notation of the worked examples of the store with a leader: schedules and their transcripts.
use Rattle.std.specs.Prelude.{ℕ, List, [], ◌∷◌, Option, Some, None, option_map}
use Rattle.std.specs.Option.{option_map_or}
use Rattle.crsm_spec.specs.Acts.{Act, Single}
use Rattle.crsm_mpspec.specs.declared.MpLine.{MpLine}
use Rattle.crsm_mpspec.specs.Types.{Op}
use Rattle.crsm_mpspec.specs.World.{World, begin, first_lines, finals}
use Rattle.crsm_mpspec.specs.Moments.{act}
use Rattle.crsm_mpspec.specs.Possible.{Cause, possible}
use Rattle.crsm_mpspec.specs.Run.{after_acts}

-- a client's request at replica r, at reading t
abbrev pub request : ℕ → ℕ → ℕ → ℕ → Op → Single
request r t client number op = Single.Request r t (record { client = client; number = number; op = op })

-- the lines of each act and then the last lines, where each act is possible
abbrev pub replay_from : World → List Act → Option (List (List MpLine))
replay_from v [] = Some (finals v ∷ [])
replay_from v (a ∷ acts) =
    let m = act v a in
    let rest = replay_from m.after acts in
    option_map_or (λ _. None) (possible v a) (option_map (λ lines. m.lines ∷ lines) rest)

-- The transcript of a schedule: the lines of the first boots, those of each act, and the last lines.
abbrev pub replay : ℕ → List Act → Option (List (List MpLine))
replay n acts = option_map (λ lines. first_lines n ∷ lines) (replay_from (begin n) acts)

-- the reason why an act is not possible after these
abbrev pub refused : ℕ → List Act → Act → Option Cause
refused n acts a = possible (after_acts (begin n) acts) a
