-- The request of a membership change: one datagram.
use Rattle.std.specs.Prelude.{◌≡◌, ℕ, ◌≤◌, List, Result, OnOk, OnErr, IsErrOf, option_map}
use Rattle.crsm_base.specs.declared.Datagram.TheVariants.{Operate}
use Rattle.crsm_base.specs.Messages.{datagram_bytes}
use Rattle.crsm_port_faults.specs.Counts.{Rose}
use Rattle.crsm_port.specs.Cluster.{over}
use Rattle.crsm_port.specs.Meaning.{Meaning, Packet, with_sent}
use Rattle.crsm_client.specs.declared.error.OperateError.{OperateError}
use Rattle.crsm_client.specs.declared.error.OperateError.TheVariants.{PortFault}

abbrev pub operate_to : ℕ → List ℕ → Packet
operate_to to members = record { address = to; bytes = datagram_bytes (Operate members) }

-- the effect of the request over a port whose datagrams begin with the mark of the cluster
pub record Operates {T : Type 0} (cluster to : ℕ) (members : List ℕ) (old new : Meaning) (result : Result T OperateError) : Type 0 where
  pub sent : OnOk result (new.traffic ≡ option_map (with_sent ((over cluster old.framing).wrap (operate_to to members))) old.traffic)
  pub unsent : OnErr result (new.traffic ≡ old.traffic)
  pub fault : IsErrOf result PortFault → Rose old.losses new.losses
  pub no_fault : (IsErrOf result PortFault → ⊥) → new.losses ≡ old.losses
  pub later : old.losses ≤ new.losses
  pub faults : new.faults ≡ old.faults
  pub empties : new.empties ≡ old.empties
  pub framing : new.framing ≡ old.framing
  pub borrowed_as : new.borrowed_as ≡ old.borrowed_as
