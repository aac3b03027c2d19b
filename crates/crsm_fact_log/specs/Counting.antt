-- Majorities among a list of replicas.
use Rattle.std.specs.Prelude.{ℕ, ◌≤◌, List, length, count_by}
use Rattle.crsm_spec.specs.Lists.{has}
use Rattle.crsm_spec.specs.Paxos.{majority}

-- these replicas include a majority of the Spec; replicas outside it do not count
abbrev pub IsMajorityOf : List ℕ → List ℕ → Type 0
IsMajorityOf spec ks = majority (length spec) ≤ count_by (has ks) spec
