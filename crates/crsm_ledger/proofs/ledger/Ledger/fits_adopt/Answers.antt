use Rattle.std.proofs.Common.{◌≡◌, ◌∙◌, ap}
use Rattle.std.specs.Prelude.{nat_le}
use Rattle.std.specs.List.{list_all}
use Rattle.crsm_spec.specs.Types.{Decision}
use Rattle.crsm_spec.specs.Log.{known, executed}
use Rattle.crsm_ledger.proofs.FitsLemmas.{fits-adopt}
use Rattle.crsm_ledger.proofs.ledger.Ledger.fits_adopt.Goals as goal

pub returns : goal.returns
returns c = λ me n log s.
    let known_is : c.all_up_to-are_known.result ≡ list_all (λ e. nat_le e.epoch c.args.self.now.known.epoch) c.args.entries.now =
    c.all_up_to-are_known.ensures ∙ ap (λ (d : Decision). list_all (λ e. nat_le e.epoch d.epoch) c.args.entries.now) c.get.ensures.value in
    cc (fits-adopt s c.args.place c.args.entries.now, c.len.ensures.value (known log) (executed log) s.executed, c.last.ensures (known log) (executed log) s.executed, known_is)
