-- The decision of the epoch that a log knows.
use Rattle.std.specs.Prelude.{ℕ, [], None, unwrap_or}
use Rattle.crsm_spec.specs.Types.{Decision}
use Rattle.crsm_spec.specs.Lists.{numbers_below}
use Rattle.crsm_spec.specs.Log.{Log, decision}

-- the beginning of epoch 0 in a cluster of n replicas, as a decision
abbrev pub founding : ℕ → Decision
founding n = record { epoch = 0; spec = None; members = numbers_below n; base_len = 0; tail = [] }

-- the decision of the known epoch; for epoch 0 the beginning of the cluster
unfoldable pub known_decision : ℕ → Log → Decision
known_decision n log = unwrap_or (decision log) (founding n)
