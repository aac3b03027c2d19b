-- What the runs are asked for.
use Rattle.std.proofs.Common.{Global, Vec, arith}
use Rattle.std.specs.Prelude.{length, ℕ, ◌≡◌, ◌<◌}
use Rattle.crsm_node.specs.declared.order.NodeOrder.{NodeOrder}

-- A node of this replica, of a cluster that began with replica 0 alone and has no number: it takes so many turns. These
-- are the addresses of replicas 0 and 1.
abbrev pub order_for : (me turns : ℕ) → me < 2 → (peers : Vec ℕ Global) → length peers.items ≡ 2 → NodeOrder
order_for me turns small peers two = record {
  me = me;
  n = 1;
  turns = turns;
  peers = peers;
  cluster = 0;
  me_below = omega (arith, small);
  some = omega arith;
  few = omega arith;
  addresses = omega (arith, two);
  few_addresses = omega (arith, two);
  own_address = omega (arith, small, two);
}

-- that of replica 0
abbrev pub order_of : (turns : ℕ) → (peers : Vec ℕ Global) → length peers.items ≡ 2 → NodeOrder
order_of turns peers two = order_for 0 turns (omega arith) peers two
