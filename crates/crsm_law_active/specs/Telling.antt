-- What a step on a tick, a frame or an acknowledgement sends.
use Rattle.std.specs.Prelude.{◌≡◌, ◌⊎◌, ℕ, IsTrue, length, Some}
use Rattle.crsm_spec.specs.Types.{Datagram, Control}
use Rattle.crsm_spec.specs.Lists.{Among}
use Rattle.crsm_spec.specs.Log.{known, decision, executed, active}
use Rattle.crsm_spec.specs.Replica.{Replica}
use Rattle.crsm_spec.specs.Draft.{Draft, parts_to}
use Rattle.crsm_spec.specs.Step.{Input, step}

-- a frame or an acknowledgement
abbrev pub IsOfLink : Datagram → Type 0
IsOfLink (Datagram.Frame from to e seq p) = Unit {0}
IsOfLink (Datagram.Ack from to e next) = Unit {0}
IsOfLink _ = ⊥

-- the known decision, or RETRIEVE
abbrev pub IsKnown : Replica → Control → Type 0
IsKnown r (Control.Decide d) = decision r.log ≡ Some d
IsKnown r (Control.Retrieve e from) = (e ≡ known r.log) × (from ≡ length (executed r.log))
IsKnown r _ = ⊥

-- A draft sends frames, acknowledgements, and at most the parts of one message.
pub data TellsLittle (r : Replica) (x : Draft) : Type 0 where
  OfLinks : ((s : ℕ × Datagram) → Among x.sends s → IsOfLink s.1) → TellsLittle r x
  OneMessage : (k : ℕ) (c : Control) → IsKnown r c → ((s : ℕ × Datagram) → Among x.sends s → IsOfLink s.1 ⊎ Among (parts_to r k c) s) →
      ((s : ℕ × Datagram) → Among (parts_to r k c) s → Among x.sends s) → TellsLittle r x

-- the input is a frame or an acknowledgement
abbrev pub ComesOnLink : Input → Type 0
ComesOnLink (Input.Came a d) = IsOfLink d
ComesOnLink _ = ⊥

-- A step on a frame or an acknowledgement sends at most the known decision or one RETRIEVE besides, and a tick of an
-- active replica sends frames only.
pub record LinksTellLittle : Type 0 where
  pub on_link : (r : Replica) (input : Input) (reading : ℕ) → ComesOnLink input → TellsLittle r (step r input reading)
  pub on_tick : (r : Replica) (reading : ℕ) → IsTrue (active r.log) → (s : ℕ × Datagram) → Among (step r Input.Ticked reading).sends s → IsOfLink s.1
