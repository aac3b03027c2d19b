-- A port that was just made.
use Rattle.std.specs.Prelude.{◌≡◌, ℕ, List, map}
use Rattle.crsm_port_flow.specs.Hears.{unheard}
use Rattle.crsm_port_flow.specs.declared.flow.FlowPort.{FlowPort}

-- over this port and clock, for the replica of this number among those with these addresses
pub record IsNew {P C : Type 0} (inner : P) (clock : C) (me : ℕ) (peers : List ℕ) (p : FlowPort P C) : Type 0 where
  pub over : p.port ≡ inner
  pub reads : p.clock ≡ clock
  pub is_replica : p.hearing.me ≡ me
  pub knows : p.hearing.peers.items ≡ map unheard peers
