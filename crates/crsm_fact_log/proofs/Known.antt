-- The contents of the known epoch's decision.
use Rattle.std.proofs.Common.{◌≡◌, ℕ, refl}
use Rattle.std.specs.Prelude.{Option, None, Some, unwrap_or}
use Rattle.std.specs.Option.{option_map_or}
use Rattle.crsm_spec.specs.Types.{Decision}
use Rattle.crsm_spec.specs.Lists.{numbers_below}
use Rattle.crsm_spec.specs.Quorum.{spec_decided}
use Rattle.crsm_spec.specs.Log.{Log, decision, known, members, spec}
use Rattle.crsm_fact_log.specs.Known.{founding, known_decision}

epoch-decided : (n : ℕ) (o : Option Decision) → (unwrap_or o (founding n)).epoch ≡ option_map_or (λ d. d.epoch) o 0
epoch-decided n None = refl
epoch-decided n (Some d) = refl

pub known-epoch : (n : ℕ) (log : Log) → (known_decision n log).epoch ≡ known log
unfolding known_decision known
known-epoch n log = epoch-decided n (decision log)

members-decided : (n : ℕ) (o : Option Decision) → (unwrap_or o (founding n)).members ≡ option_map_or (λ d. d.members) o (numbers_below n)
members-decided n None = refl
members-decided n (Some d) = refl

pub known-members : (n : ℕ) (log : Log) → (known_decision n log).members ≡ members n log
unfolding known_decision members
known-members n log = members-decided n (decision log)

spec-of-decided : (n : ℕ) (o : Option Decision) → unwrap_or ((unwrap_or o (founding n)).spec) (numbers_below n) ≡ spec_decided n o
unfolding spec_decided
spec-of-decided n None = refl
spec-of-decided n (Some d) = refl

pub known-spec : (n : ℕ) (log : Log) → unwrap_or ((known_decision n log).spec) (numbers_below n) ≡ spec n log
unfolding known_decision spec
known-spec n log = spec-of-decided n (decision log)
