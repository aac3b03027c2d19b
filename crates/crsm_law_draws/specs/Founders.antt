-- Clusters of the replicas that they began with, and no others.
use Rattle.std.specs.Prelude.{◌≡◌, ◌<◌, ◌≤◌, ℕ, length, None}
use Rattle.crsm_spec.specs.Acts.{Act}
use Rattle.crsm_base.specs.Replicas.{numbers_below}
use Rattle.crsm_spec.specs.Log.{spec}
use Rattle.crsm_spec.specs.Possible.{possible}
use Rattle.crsm_spec.specs.World.{World, log_at}

-- The replicas are the n that the cluster began with, and each counts majorities over them.
pub record HasFoundersAlone (n : ℕ) (w : World) : Type 0 where
  pub some : 1 ≤ n
  pub replicas : length w.sites ≡ n
  pub specs : (k : ℕ) → spec w.n (log_at w k) ≡ numbers_below n

-- The act starts no replica but one of the first n.
abbrev pub StartsAFounder : ℕ → Act → Type 0
StartsAFounder n (Act.Start k) = k < n
StartsAFounder n _ = Unit {0}

-- The act is possible here, and starts no replica but those.
pub record IsNext (n : ℕ) (w : World) (a : Act) : Type 0 where
  pub possible_here : possible w a ≡ None
  pub founder : StartsAFounder n a
