use Rattle.std.proofs.Common.{refl, ap}
use Rattle.std.specs.Prelude.{map}
use Rattle.crsm_mpspec.specs.Draft.{begun}
use Rattle.crsm_mpspec.specs.Replica.{fresh}
use Rattle.crsm_mpreplica.specs.State.{waiting_of}
use Rattle.crsm_mpreplica.proofs.state.MpReplica.new.Goals as goal

pub returns : goal.returns
unfolding begun fresh
returns c log s = record { me = refl; n = refl; ledger = s; note = tt; waiting = ap (λ es. map waiting_of es) c.new.ensures.empty; made = c.new-2.ensures }
