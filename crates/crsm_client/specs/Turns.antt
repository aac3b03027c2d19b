-- One send and one receive of a client, as exchanges.
use Rattle.std.specs.Prelude.{◌≡◌, ◌==◌, ℕ, ◌%◌, List, [], ◌∷◌, Option, Some, None, Result, Ok, Err, if◌then◌else◌}
use Rattle.std.specs.List.{AllByRecursion}
use Rattle.crsm_base.specs.declared.Command.{Command}
use Rattle.crsm_base.specs.declared.Outcome.{Outcome}
use Rattle.crsm_base.specs.declared.memory.NoMemory.{NoMemory as OutOfMemory}
use Rattle.crsm_port_faults.specs.Counts.{Rose}
use Rattle.crsm_port.specs.Cluster.{over, wrapped}
use Rattle.crsm_port.specs.Meaning.{Meaning, Packet}
use Rattle.crsm_client.specs.Asking.{IsOther, IsReply}
use Rattle.crsm_client.specs.Exchange.{Exchange, Exchanges, IsLater, IsQuiet, turns_in}
use Rattle.crsm_client.specs.declared.error.AskError.{AskError}
use Rattle.crsm_client.specs.declared.error.AskError.TheVariants.{NoAnswer, PortFault, NoMemory}

-- ---- sends

-- this number of requests and nothing else
abbrev pub requests : ℕ → Exchange
requests n = record { received = []; empties = 0; requests = n }

-- this number of requests was sent, or none
abbrev pub SendsRequests : {T : Type 0} → ℕ → ℕ → Packet → Meaning → Meaning → Result T AskError → Type 0
SendsRequests n cluster request old new (Ok x) = Exchanges (over cluster old.framing) request (requests n) old new × IsQuiet old new
SendsRequests n cluster request old new (Err NoAnswer) = ⊥
SendsRequests n cluster request old new (Err PortFault) =
    Exchanges (over cluster old.framing) request (requests 0) old new × Rose old.losses new.losses × IsLater old new
SendsRequests n cluster request old new (Err NoMemory) = Exchanges (over cluster old.framing) request (requests 0) old new × IsQuiet old new

-- the bytes are those of a datagram with the mark of a cluster before it, and its request is sent this number of times
abbrev pub SendsMarked : {T : Type 0} → ℕ → ℕ → List ℕ → Meaning → Meaning → Result T AskError → Type 0
SendsMarked n to bytes old new result =
    (cluster : ℕ) (datagram : List ℕ) → bytes ≡ wrapped cluster datagram → SendsRequests n cluster (record { address = to; bytes = datagram }) old new result

-- how many requests are due in a turn
abbrev pub due : ℕ → ℕ → ℕ
due resend turn = if turn % resend == 0 then 1 else 0

-- ---- receives

-- the outcome that is read in a datagram
abbrev pub ReadsReply : ℕ → Command → Packet → Result (Option Outcome) OutOfMemory → Type 0
ReadsReply to command d (Ok (Some outcome)) = IsReply to command outcome d
ReadsReply to command d (Ok None) = IsOther to command d
ReadsReply to command d (Err e) = Unit {0}

-- one receive, and no send
pub record ReceivesOnce (cluster : ℕ) (x : Exchange) (old new : Meaning) : Type 0 where
  pub once : turns_in x ≡ 1
  pub none_sent : x.requests ≡ 0
  pub exchanges : (request : Packet) → Exchanges (over cluster old.framing) request x old new
  pub quiet : IsQuiet old new

-- one receive, and the outcome where it took the reply
abbrev pub BringsReply : ℕ → ℕ → Command → Meaning → Meaning → Result (Option Outcome) AskError → Type 0
BringsReply cluster to command old new (Ok (Some outcome)) =
    (x : Exchange) × (d : Packet) × ReceivesOnce cluster x old new × (x.received ≡ d ∷ []) × IsReply to command outcome d
BringsReply cluster to command old new (Ok None) = (x : Exchange) × ReceivesOnce cluster x old new × AllByRecursion (IsOther to command) x.received
BringsReply cluster to command old new (Err NoAnswer) = ⊥
BringsReply cluster to command old new (Err PortFault) =
    ((request : Packet) → Exchanges (over cluster old.framing) request (requests 0) old new) × Rose old.faults new.faults × IsLater old new
BringsReply cluster to command old new (Err NoMemory) = (x : Exchange) × ReceivesOnce cluster x old new
