-- The replica set of an epoch, and majorities of it.
use Rattle.std.specs.Prelude.{ℕ, nat_le, Bool, List, length, count_by, unwrap_or, Option, None, Some}
use Rattle.crsm_spec.specs.Paxos.{majority}
use Rattle.crsm_spec.specs.Types.{Decision}
use Rattle.crsm_spec.specs.Lists.{has, numbers_below}

-- The Spec of an epoch with this decision, in a cluster that began with n replicas: the one that the decision names, or
-- the first n replicas where it names none or the epoch is 0.
unfoldable pub spec_decided : ℕ → Option Decision → List ℕ
spec_decided n None = numbers_below n
spec_decided n (Some d) = unwrap_or d.spec (numbers_below n)

-- Whether these include a majority of the Spec; replicas outside it do not count.
unfoldable pub has_majority : List ℕ → List ℕ → Bool
has_majority spec replicas = nat_le (majority (length spec)) (count_by (has replicas) spec)
