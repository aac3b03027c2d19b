-- Requests that wait for their turn, the oldest first, and commands that are under way.
use Rattle.std.specs.Prelude.{◌≡◌, ◌⊎◌, ◌++◌, ◌&&◌, ◌==◌, ℕ, Bool, List, [], ◌∷◌, All, Contains, Option, Some, None, true, false}
use Rattle.std.specs.Map.{lookup}
use Rattle.crsm_base.specs.Reading.{u64_at}
use Rattle.crsm_wire.specs.Marks.{behind_any_mark}
use Rattle.crsm_port_flow.specs.Heads.{IsReply}
use Rattle.crsm_port_flow.specs.Went.{IsRecent}
use Rattle.crsm_port_flow.specs.declared.commands.Command.{Command}
use Rattle.crsm_port_flow.specs.declared.datagram.Datagram.{Datagram}
use Rattle.crsm_port_flow.specs.declared.requests.Opened.{Opened}
use Rattle.crsm_port_flow.specs.declared.requests.Waiting.{Waiting as Request}

-- the bytes name this command
abbrev pub IsCommandIn : Command → List ℕ → Type 0
IsCommandIn c bytes = (kind : ℕ) × (fields after rest : List ℕ) × (behind_any_mark bytes ≡ kind ∷ fields) × (u64_at fields ≡ Some (c.client, after)) × (u64_at after ≡ Some (c.number, rest))

-- the bytes are a reply to this command
abbrev pub IsReplyTo : Command → List ℕ → Type 0
IsReplyTo c bytes = IsReply bytes × IsCommandIn c bytes

abbrev pub is_same : Command → Command → Bool
is_same c d = (c.client == d.client) && (c.number == d.number)

-- the reading that a command has among these
abbrev pub reading_of : Command → List (Command × ℕ) → Option ℕ
reading_of command commands = lookup (is_same command) commands

-- the command is among these, each with a reading, and less than `span` has passed since its own
abbrev pub IsSince : Command → ℕ → ℕ → List (Command × ℕ) → Type 0
IsSince command now span commands = (at : ℕ) × (reading_of command commands ≡ Some at) × IsRecent at now span

-- the command does not count as one that the node has not answered
abbrev pub IsAnswered : Command → List (Command × ℕ) → Type 0
IsAnswered command unanswered = reading_of command unanswered ≡ None

-- of any other command nothing changes
abbrev pub OthersStay : Command → List (Command × ℕ) → List (Command × ℕ) → Type 0
OthersStay command old new = (other : Command) → is_same command other ≡ false → reading_of other new ≡ reading_of other old

-- a request of this command waits for less than two seconds
abbrev pub IsWaiting : Command → ℕ → List Request → Type 0
IsWaiting command now waiting = (r : Request) × Contains waiting r × (r.command ≡ command) × IsRecent r.since now 2_000_000

-- the command waits for less than two seconds, or the node has had it for less than one and has not answered it
abbrev pub IsUnderWay : Command → ℕ → (waiting : List Request) → (unanswered : List (Command × ℕ)) → Type 0
IsUnderWay command now waiting unanswered = IsWaiting command now waiting ⊎ IsSince command now 1_000_000 unanswered

-- no command counts as one that the node has not answered but those that did, each since the same reading
abbrev pub LeavesSome : (unanswered unanswered_now : List (Command × ℕ)) → Type 0
LeavesSome old new = (command : Command) (at : ℕ) → reading_of command new ≡ Some at → reading_of command old ≡ Some at

-- no command counts so but those that did, and this one, now
abbrev pub CountsOneMore : Command → ℕ → (unanswered unanswered_now : List (Command × ℕ)) → Type 0
CountsOneMore one now old new = (command : Command) (at : ℕ) → reading_of command new ≡ Some at → (reading_of command old ≡ Some at) ⊎ ((is_same one command ≡ true) × (at ≡ now))

-- no command counts, or the one that the node received first has been there for less than a second without a reply
abbrev pub IsOldestYoung : ℕ → List Opened → (unanswered : List (Command × ℕ)) → Type 0
IsOldestYoung now opened unanswered =
    (unanswered ≡ []) ⊎ ((o : Opened) × (later : List Opened) × (opened ≡ o ∷ later) × (reading_of o.command unanswered ≡ Some o.since) × IsRecent o.since now 1_000_000)

-- the oldest request leaves, with its datagram
abbrev pub TakesFirst : Datagram → List Request → List Request → Type 0
TakesFirst d old new = (r : Request) × (old ≡ r ∷ new) × (r.datagram ≡ d)

-- a request has waited for two seconds
abbrev pub IsOver : ℕ → Request → Type 0
IsOver now r = ¬ IsRecent r.since now 2_000_000

-- the oldest request, if any waits, has waited for less than two seconds
abbrev pub AreInTime : ℕ → List Request → Type 0
AreInTime now [] = Unit {0}
AreInTime now (r ∷ later) = IsRecent r.since now 2_000_000

-- the oldest requests are dropped, each after two seconds
abbrev pub DropsOver : ℕ → List Request → List Request → Type 0
DropsOver now old new = (gone : List Request) × (old ≡ gone ++ new) × All (IsOver now) gone
