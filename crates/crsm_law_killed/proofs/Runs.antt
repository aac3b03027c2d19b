-- The run over devices none of which had refused a call.
use Rattle.std.proofs.Common.{ℕ, ◌≡◌, subst, sym}
use Rattle.std.specs.Prelude.{None, Option}
use Rattle.crsm_node.specs.Running.{Devices, RunsOverCluster}
use Rattle.crsm_node.specs.declared.errors.NodeEnd.{NodeEnd}
use Rattle.crsm_node.specs.declared.order.NodeOrder.{NodeOrder}
use Rattle.crsm_law_killed.specs.declared.refused.Refused.{Refused}
use Rattle.crsm_law_killed.specs.Stopping.{RunsUntilKilled, no_refusals, with_refused}

abbrev pub refusals_of : (disk receives sends sheet : ℕ) → Refused
refusals_of disk receives sends sheet = record { disk = disk; receives = receives; sends = sends; sheet = sheet }

none_refused : (a b c d : ℕ) → a ≡ 0 → b ≡ 0 → c ≡ 0 → d ≡ 0 → refusals_of a b c d ≡ no_refusals
none_refused a b c d disk receives sends sheet = cc

pub until_killed : (order : NodeOrder) (a b c d : ℕ) (s told : Refused) (x y : Option ℕ) (old new : Devices) (end : NodeEnd) →
    (a ≡ 0) × (x ≡ None) → (b ≡ 0) × (c ≡ 0) × (d ≡ 0) → told ≡ s →
    RunsOverCluster order (with_refused (refusals_of a b c d) x old) (with_refused s y new) end → RunsUntilKilled order told old new end
until_killed order a b c d s told x y old new end disk others is ran = record {
  renewed = y;
  ran =
      subst (λ (r : Refused). RunsOverCluster order (with_refused no_refusals None old) (with_refused r y new) end) (sym is)
      (subst (λ (z : Option ℕ). RunsOverCluster order (with_refused no_refusals z old) (with_refused s y new) end) disk.1
      (subst (λ (r : Refused). RunsOverCluster order (with_refused r x old) (with_refused s y new) end) (none_refused a b c d disk.0 others.0 others.1 others.2) ran));
}
