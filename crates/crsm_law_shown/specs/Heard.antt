-- The premises about a client: its replies were sent by nodes of the history, and a number is used for one command.
use Rattle.std.specs.Prelude.{◌≡◌, ℕ, List}
use Rattle.crsm_base.specs.declared.Datagram.TheVariants.{Reply}
use Rattle.crsm_base.specs.Messages.{SpeltDatagram}
use Rattle.crsm_spec.specs.Types.{Command, Outcome}
use Rattle.crsm_spec.specs.Lists.{Among}
use Rattle.crsm_spec.specs.Draft.{Reply as Sent}
use Rattle.crsm_port.specs.Meaning.{Packet}
use Rattle.crsm_law_cluster.specs.Clusters.{Event}
use Rattle.crsm_law_cluster.specs.Going.{IsReplied}
use Rattle.crsm_law_cluster.specs.Requests.{IsTaken}

-- At an event of the history a node sends a reply with this outcome to the client's number.
pub record IsSentByNode (n : ℕ) (h : List Event) (client number : ℕ) (outcome : Outcome) : Type 0 where
  pub event : ℕ
  pub node : ℕ
  pub reply : Sent
  pub replied : IsReplied n h event node reply
  pub to_client : reply.client ≡ client
  pub to_number : reply.number ≡ number
  pub says : reply.says ≡ outcome

-- every reply among these datagrams was sent by a node; to whom, how late and how often it came is free
abbrev pub ComeFromNodes : ℕ → List Event → List Packet → Type 0
ComeFromNodes n h received =
    (d : Packet) → Among received d → (client number : ℕ) (outcome : Outcome) →
    SpeltDatagram (Reply client number outcome) d.bytes → IsSentByNode n h client number outcome

-- every request of this client and number that a node takes is of this command
abbrev pub IsOnlyUseOf : ℕ → List Event → Command → Type 0
IsOnlyUseOf n h command =
    (i k address : ℕ) (c : Command) → IsTaken n h i k address c → c.client ≡ command.client →
    c.number ≡ command.number → c ≡ command
