-- Replies to waiting clients.
use Rattle.std.specs.Prelude.{◌≡◌, ℕ, List, Option, None, Some, slice_get, take}
use Rattle.crsm_spec.specs.Choice.{when◌then◌otherwise◌}
use Rattle.crsm_mpspec.specs.Draft.{Draft}
use Rattle.crsm_mpspec.specs.Log.{executed}
use Rattle.crsm_mpspec.specs.Types.{Answer, Command, Value}
use Rattle.crsm_mpspec.specs.Values.{answer_after, is_command}
use Rattle.crsm_mpreplica.specs.declared.state.MpReplica.{MpReplica}
use Rattle.crsm_mpreplica.specs.State.{MpReplicaStands}

-- for each draft that the state stands for, in which the value was executed at this slot
abbrev pub WhereExecuted : MpReplica → ℕ → (Draft → Value → Type 0) → Type 0
WhereExecuted state slot P =
    (x : Draft) (v : Value) → MpReplicaStands state x → slice_get (executed x.replica.log) slot ≡ Some v → P x v

-- the answer to a command, where the value of its slot is that command
abbrev pub answer_at : ℕ → Command → Value → List Value → Option Answer
answer_at slot d v done = when is_command d v then Some (answer_after (take slot done) d) otherwise None
