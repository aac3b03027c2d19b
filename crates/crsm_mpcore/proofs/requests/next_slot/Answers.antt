use Rattle.std.proofs.Common.{◌<◌, ◌^◌, ◌∙◌, ap, sym, subst, eq-eqb, arith, rules}
use Rattle.crsm_base.specs.Order.{ballot_eq}
use Rattle.crsm_mpspec.specs.Deciding.{on_request}
use Rattle.crsm_mpreplica.specs.Notes.{NoteStands}
use Rattle.crsm_mpcore.proofs.DecidingLemmas.{not_true, not_false}
use Rattle.crsm_mpcore.proofs.RequestLemmas.{lead-of, refused-full, refused-idle, refused-lesser}
use Rattle.crsm_mpcore.proofs.requests.next_slot.Goals as goal

pub returns-in_default : goal.returns-in_default
unfolding on_request
returns-in_default c = record {
  ok = tt;
  err = λ x s command. refused-idle c.note.result.now x.replica.me x.replica.log x.replica.note command x c.in_default.not-Leading (c.note.ensures x s);
}

pub returns-then-ne-clause-err : goal.returns-then-ne-clause-err
unfolding on_request ballot_eq
returns-then-ne-clause-err c x s command =
    let l = c.in-Leading.leading in
    let stands = subst (λ note. NoteStands note x.replica.me x.replica.log x.replica.note) c.in-Leading.is (c.note.ensures x s) in
    let promised = c.promised.ensures x.replica.log (c.ledger.ensures x s) in
    let other = ap (ballot_eq l.ballot) (sym promised) ∙ not_true (ballot_eq l.ballot c.promised.result) (sym c.ne.ensures ∙ c.if-ne.true) in
    refused-lesser l x.replica.note (lead-of l x.replica.me x.replica.log x.replica.note stands) command x other

pub returns-then-leading-clause-err : goal.returns-then-leading-clause-err
unfolding on_request ballot_eq
returns-then-leading-clause-err c x s command =
    let l = c.in-Leading.leading in
    let stands = subst (λ note. NoteStands note x.replica.me x.replica.log x.replica.note) c.in-Leading.is (c.note.ensures x s) in
    let promised = c.promised.ensures x.replica.log (c.ledger.ensures x s) in
    let same = ap (ballot_eq l.ballot) (sym promised) ∙ not_false (ballot_eq l.ballot c.promised.result) (sym c.ne.ensures ∙ c.if-ne.false) in
    refused-full l x.replica.note (lead-of l x.replica.me x.replica.log x.replica.note stands) command x same (eq-eqb l.next _ c.if-leading.true)

pub returns-clause-ok : goal.returns-clause-ok
unfolding ballot_eq
returns-clause-ok c x s =
    let l = c.in-Leading.leading in
    let stands = subst (λ note. NoteStands note x.replica.me x.replica.log x.replica.note) c.in-Leading.is (c.note.ensures x s) in
    let promised = c.promised.ensures x.replica.log (c.ledger.ensures x s) in
    let lead = lead-of l x.replica.me x.replica.log x.replica.note stands in
    record {
      start = lead.start;
      reports = lead.reports;
      votes = lead.votes;
      leads = lead.leads;
      promised = ap (ballot_eq l.ballot) (sym promised) ∙ not_false (ballot_eq l.ballot c.promised.result) (sym c.ne.ensures ∙ c.if-ne.false);
      below = let fits : l.next < 2 ^ 64 = search rules in omega (arith, fits, c.if-leading.false);
      fits = lead.fits;
    }
