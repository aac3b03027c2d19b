-- The parameters of a node.
use Rattle.std.specs.Prelude.{ℕ, List}
use Rattle.crsm_node.specs.declared.order.NodeOrder.{NodeOrder}

-- the addresses of the replicas
abbrev pub peers_in : NodeOrder → List ℕ
peers_in order = order.peers.items
