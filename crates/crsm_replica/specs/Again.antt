-- Frames of a step, and those that go again.
use Rattle.std.specs.Prelude.{◌≡◌, ℕ, List, ◌++◌}
use Rattle.crsm_spec.specs.Types.{InEpoch, Datagram}
use Rattle.crsm_spec.specs.Log.{known}
use Rattle.crsm_spec.specs.Replica.{Replica}
use Rattle.crsm_replica_epoch.specs.declared.state.EpochState.{EpochState}
use Rattle.crsm_replica_epoch.specs.EpochState.{EpochStands}
use Rattle.crsm_replica_output.specs.declared.output.Output.{Output}
use Rattle.crsm_replica_output.specs.Made.{Made, OutputStands}

-- a frame of me to k, behind its receiver
unfoldable pub frame_again : ℕ → ℕ → ℕ → ℕ × InEpoch → ℕ × Datagram
frame_again me epoch k f = (k, Datagram.Frame me k epoch f.0 f.1)

-- the output, with these sent besides
abbrev pub sending : List (ℕ × Datagram) → Made → Made
sending sends m = record m { sends = m.sends ++ sends }

-- for replica me in this epoch, whose state this is, and what the output holds
abbrev pub WhereSending : EpochState → Output → ℕ → ℕ → (Replica → Made → Type 0) → Type 0
WhereSending epoch_state output me epoch P = (r : Replica) (m : Made) → EpochStands epoch_state r → OutputStands output m → me ≡ r.me → epoch ≡ known r.log → P r m
