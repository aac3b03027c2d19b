-- What a datagram is by its first bytes, with or without the mark of a cluster.
use Rattle.std.specs.Prelude.{◌≡◌, ℕ, List, ◌∷◌, Some}
use Rattle.crsm_base.specs.Messages.{SpeltDatagram}
use Rattle.crsm_base.specs.Reading.{u64_at}
use Rattle.crsm_base.specs.declared.command.Command.{Command}
use Rattle.crsm_base.specs.declared.datagram.Datagram.TheVariants as datagram
use Rattle.crsm_base.specs.declared.members.Members.{Members}
use Rattle.crsm_wire.specs.Marks.{behind_any_mark}
use Rattle.crsm_port_flow.specs.declared.heads.Asked.{Asked}
use Rattle.crsm_port_flow.specs.declared.heads.Asked.TheVariants as asked

-- the bytes are of this kind, a frame (1) or an acknowledgement (2), and have these fields
abbrev pub HasHead : ℕ → ℕ → ℕ → ℕ → ℕ → List ℕ → Type 0
HasHead kind from to epoch number bytes = (fields after rest : List ℕ) × (behind_any_mark bytes ≡ kind ∷ from ∷ to ∷ fields) × (u64_at fields ≡ Some (epoch, after)) × (u64_at after ≡ Some (number, rest))

-- the bytes are a reply, by the first of them
abbrev pub IsReply : List ℕ → Type 0
IsReply bytes = (fields : List ℕ) × (behind_any_mark bytes ≡ 5 ∷ fields)

-- the bytes are a client's request, whole
abbrev pub IsRequest : List ℕ → Type 0
IsRequest bytes = (command : Command) × SpeltDatagram (datagram.Request command) (behind_any_mark bytes)

-- the bytes are an operator's request for a membership change, whole
abbrev pub IsOperate : List ℕ → Type 0
IsOperate bytes = (members : Members) × SpeltDatagram (datagram.Operate members) (behind_any_mark bytes)

-- the bytes ask for nothing
abbrev pub AsksNothing : List ℕ → Type 0
AsksNothing bytes = (IsRequest bytes → ⊥) × (IsOperate bytes → ⊥)

abbrev pub IsAskedIn : Asked → List ℕ → Type 0
IsAskedIn asked.Command bytes = IsRequest bytes
IsAskedIn asked.Membership bytes = IsOperate bytes
IsAskedIn asked.Nothing bytes = AsksNothing bytes
