use Rattle.std.proofs.Common.{refl, ap}
use Rattle.std.specs.Prelude.{map}
use Rattle.crsm_mpspec.specs.Draft.{begun}
use Rattle.crsm_mpspec.specs.Replica.{fresh}
use Rattle.crsm_mpreplica.specs.State.{waiting_of}
use Rattle.crsm_mpreplica.proofs.state.MpReplica.boot.Goals as goal

pub returns : goal.returns
unfolding begun fresh
returns c r s = record { me = refl; n = refl; ledger = c.boot.ensures r.log s.ledger; note = tt; waiting = ap (λ es. map waiting_of es) c.new.ensures.empty; made = s.made }
