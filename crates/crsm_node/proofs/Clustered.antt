-- A run over the port of a cluster, in terms of the port below.
use Rattle.std.proofs.Common.{◌≡◌, ◌∙◌, ℕ, List, subst}
use Rattle.std.specs.Prelude.{Option}
use Rattle.crsm_clock.specs.Readings.{Readings}
use Rattle.crsm_disk.specs.Meaning.{Meaning as DiskMeaning}
use Rattle.crsm_port.specs.Cluster.{clustered, over}
use Rattle.crsm_port.specs.Meaning.{Framing, Meaning as PortMeaning}
use Rattle.crsm_node.specs.Running.{Devices, Runs, over_cluster}
use Rattle.crsm_node.specs.declared.errors.NodeEnd.{NodeEnd}
use Rattle.crsm_node.specs.declared.order.NodeOrder.{NodeOrder}

module _ (order : NodeOrder) (end : NodeEnd) (d d' : DiskMeaning) (clock clock' : Option Readings) (sheet sheet' : Option (List ℕ)) (faults faults' : ℕ) where
  abbrev before : PortMeaning → Devices
  before m = record { disk = d; port = m; clock = clock; sheet = sheet; faults = faults }

  abbrev after : PortMeaning → Devices
  after m = record { disk = d'; port = m; clock = clock'; sheet = sheet'; faults = faults' }

  pub over_port : (m m' : PortMeaning) (c c' k k' : ℕ) → c ≡ order.cluster → k ≡ 0 → k' ≡ k → over c' m'.framing ≡ over c m.framing → Runs order (before (clustered c k m)) (after (clustered c' k' m')) end →
      Runs order (over_cluster order.cluster m.framing (before m)) (over_cluster order.cluster m.framing (after m')) end
  over_port m m' c c' k k' same none short framing runs =
      let at = subst (λ (x : Framing). Runs order (before (clustered c k m)) (after (record (clustered c' k' m') { framing = x })) end) framing runs in
      let own = subst (λ (x : ℕ). Runs order (before (clustered x k m)) (after (record (clustered c' k' m') { framing = over x m.framing })) end) same at in
      let begun = subst (λ (x : ℕ). Runs order (before (clustered order.cluster x m)) (after (record (clustered c' k' m') { framing = over order.cluster m.framing })) end) none own in
      subst (λ (x : ℕ). Runs order (before (clustered order.cluster 0 m)) (after (record (clustered c' x m') { framing = over order.cluster m.framing })) end) (short ∙ none) begun
