use Rattle.std.proofs.Common.{refl, ap}
use Rattle.std.specs.Prelude.{map}
use Rattle.crsm_mpspec.specs.Draft.{noting}
use Rattle.crsm_mpspec.specs.Replica.{slots_of}
use Rattle.crsm_mpreplica.specs.Notes.{open_of}
use Rattle.crsm_mpreplica.proofs.state.MpReplica.lead.Goals as goal

pub returns : goal.returns
unfolding noting open_of slots_of
returns c x s start reports fits = record {
  me = s.me;
  n = s.n;
  ledger = s.ledger;
  note = record {
    ballot = refl;
    next_is = refl;
    open_are = ap (λ es. map (λ e. (e.0, e.1.items)) es) c.new.ensures.empty;
    proposed = tt;
    ballot_fits = fits;
  };
  waiting = s.waiting;
  made = s.made;
}
