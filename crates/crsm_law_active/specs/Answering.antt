-- The effect of a calm step on waiting clients.
use Rattle.std.specs.Prelude.{◌≡◌, ℕ, IsTrue, map, take, Some, None}
use Rattle.crsm_base.specs.Store.{answer_after}
use Rattle.crsm_spec.specs.Types.{Entry, Line}
use Rattle.crsm_spec.specs.Lists.{Among}
use Rattle.crsm_spec.specs.Log.{executed}
use Rattle.crsm_spec.specs.Replica.{Replica, Waiting}
use Rattle.crsm_spec.specs.Draft.{Draft}
use Rattle.crsm_spec.specs.Clients.{find_executed, is_dropped}
use Rattle.crsm_spec.specs.Step.{Input, step}
use Rattle.crsm_law_active.specs.Staying.{IsCalmInput}

-- the line of the reply with the answer of the entry found at a place
unfoldable pub answer_line : Draft → Waiting → ℕ × Entry → Line
answer_line x c p =
    Line.ReplyOk x.replica.me c.entry.command.client c.entry.command.number p.0 (answer_after (take p.0 (executed x.replica.log)) p.1)

-- The effect of a step on a waiting client: its entry is not executed, and it keeps waiting; or it is executed, and the
-- client is sent its place and the answer; or a later epoch has begun without it.
pub data IsServed (x : Draft) (c : Waiting) : Type 0 where
  Waits : find_executed (executed x.replica.log) c.entry ≡ None → Among x.replica.waiting c → IsServed x c
  Answered : (p : ℕ × Entry) → find_executed (executed x.replica.log) c.entry ≡ Some p →
      Among (map (λ a. a.line) x.replies) (answer_line x c p) → IsServed x c
  Dropped : IsTrue (is_dropped x.replica c.entry) → IsServed x c

-- Each client that waited before a calm step is served by it.
abbrev pub StepsAnswer : Type 0
StepsAnswer =
    (r : Replica) (input : Input) (reading : ℕ) → IsCalmInput r input → (c : Waiting) → Among r.waiting c → IsServed (step r input reading) c
