-- The system's devices that a task uses.
use Rattle.std.specs.Prelude.{ℕ, ◌<◌, length, get_or}
use Rattle.crsm_text_words.specs.declared.order.Task.{Task}
use Rattle.crsm_text_words.specs.declared.order.Task.TheVariants.{Show, Replay, ReplayNode, Node, Client, Operate, Soak, Audit, Lock, Delay, DelayTimes, ReplayMp, Dump}
use Rattle.crsm_text_words.specs.declared.order.DevicePlan.{DevicePlan}
use Rattle.crsm_text_words.specs.declared.order.DevicePlan.TheVariants as plan

-- a node's own address is among those of its peers
abbrev pub HasOwnPeer : Task → Type 0
HasOwnPeer (Node t) = t.me < length t.peers
HasOwnPeer _ = Unit {0}

-- the devices: a node's socket is bound to its own address
abbrev pub plan_of : Task → DevicePlan
plan_of (Node t) = plan.Node t.me (get_or t.peers t.me 0)
plan_of (Client to turns command) = plan.Socket
plan_of (Operate to members) = plan.Socket
plan_of (Lock t) = plan.Socket
plan_of _ = plan.Plain
