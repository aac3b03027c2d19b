-- A history that comes to a calm cluster, and two rounds behind it.
use Rattle.std.specs.Prelude.{◌≡◌, ℕ, ◌+◌, List, [], ◌∷◌, Contains, Some}
use Rattle.crsm_spec.specs.Types.{Entry}
use Rattle.crsm_spec.specs.Replica.{Waiting}
use Rattle.crsm_spec.specs.Calm.{IsOpen}
use Rattle.crsm_law_cluster.specs.Clusters.{Event, Process, host_at}
use Rattle.crsm_law_cluster.specs.Histories.{last_cluster}
use Rattle.crsm_law_cluster.specs.OneList.{world_of}
use Rattle.crsm_law_calm.specs.Laws.{AreRounds}

-- the members of epoch 0 of two replicas
abbrev pub both : List ℕ
both = 0 ∷ 1 ∷ []

-- A history of two replicas after which epoch 0 is calm, while an entry of it is open and its client waits, and two
-- rounds from there, in which the nodes' clocks differ.
pub record RoundsHappen : Type 0 where
  pub h : List Event
  pub first : List Event
  pub second : List Event
  pub rounds : AreRounds 2 h first second 0 both (λ k. 20 + k) (λ k. 60 + k)
  pub entry : Entry
  pub open_entry : IsOpen 0 both (world_of (last_cluster 2 h)) entry
  pub process : Process
  pub runs : (host_at (last_cluster 2 h) 0).process ≡ Some process
  pub client : Waiting
  pub waits : Contains process.replica.waiting client
  pub its : client.entry ≡ entry
