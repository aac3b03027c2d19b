use Rattle.std.proofs.Common.{◌∙◌, sym, subst}
use Rattle.crsm_transfer.specs.Fitting.{FitsAdopted}
use Rattle.crsm_replica_reconfigure.proofs.PageLemmas.{page_ignored, page_taken}
use Rattle.crsm_replica_reconfigure.proofs.DraftLemmas.{does_nothing, instead}
use Rattle.crsm_replica_reconfigure.proofs.paging.on_page.Goals as goal

pub returns-in_default : goal.returns-in_default
returns-in_default c = λ x s.
    does_nothing c.args.state.now x _ (page_ignored c.args.k c.args.page.now x c.in_ok-found.found c.requires.is
    (c.in_ok-found.ensures.value x.replica.me x.replica.n x.replica.log (c.ledger.ensures.stands x s)) c.in_default.not-Adopt) s

pub returns : goal.returns
returns c = λ x s.
    let t = page_taken c.args.k c.args.page.now x c.in-Adopt.entries c.requires.is c.requires.spelt (sym c.in-Adopt.is ∙ c.in_ok-found.ensures.value x.replica.me x.replica.n x.replica.log (c.ledger.ensures.stands x s)) in
    instead c.take_entries.new.state x _ _ (sym t.rule) (c.in-Ok.ensures x s t.can)

pub take_entries-requires-clause-spelt : goal.take_entries-requires-clause-spelt
take_entries-requires-clause-spelt c = subst FitsAdopted c.in-Adopt.is (c.in_ok-found.ensures.fits c.requires.spelt)
