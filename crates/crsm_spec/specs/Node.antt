-- One replica alone: the records, datagrams and lines of its turns.
use Rattle.std.specs.Prelude.{ℕ, List, [], ◌∷◌, Option, Some, option_map}
use Rattle.std.specs.Option.{option_map_or}
use Rattle.crsm_spec.specs.Log.{Log}
use Rattle.crsm_base.specs.MessageReading.{datagram_of}
use Rattle.crsm_spec.specs.Replica.{Replica}
use Rattle.crsm_spec.specs.Draft.{Draft, begun}
use Rattle.crsm_spec.specs.Step.{Input, step, boot}

-- The input of a turn: bytes from an address, a tick, or a suspicion.
pub data Turn : Type 0 where
  In : (address : ℕ) (bytes : List ℕ) → Turn
  Tick : Turn
  Suspect : (members : List ℕ) → Turn

-- the input of a step; none for bytes that are no datagram
unfoldable pub input_of : Turn → Option Input
input_of (Turn.In address bytes) = option_map (Input.Came address) (datagram_of bytes)
input_of Turn.Tick = Some Input.Ticked
input_of (Turn.Suspect ms) = Some (Input.Suspected ms)

-- the step of a turn at its clock reading
unfoldable pub turn : Replica → Turn × ℕ → Draft
turn r t = option_map_or (λ i. step r i t.1) (input_of t.0) (begun r)

-- the steps of the turns, each from the state that the one before left
unfoldable pub outputs_from : Replica → List (Turn × ℕ) → List Draft
outputs_from r [] = []
outputs_from r (t ∷ ts) = let x = turn r t in x ∷ outputs_from x.replica ts

-- The boot on the log that was found, and then the step of each turn.
unfoldable pub outputs : ℕ → ℕ → Log → List (Turn × ℕ) → List Draft
outputs me n found ts = let x = boot me n found in x ∷ outputs_from x.replica ts
