use Rattle.std.proofs.Common.{◌≡◌, ◌≢◌, ◌∙◌, ◌+◌, ℕ, true, false, ap, sym, subst, arith}
use Rattle.std.specs.Prelude.{◌==◌}
use Rattle.std.proofs.lemmas.Bool.Decides.{nat_tests}
use Rattle.crsm_base.specs.Spelling.{FitsBallot}
use Rattle.crsm_spec.specs.Choice.{when◌then◌otherwise◌}
use Rattle.crsm_spec.specs.Clock.{u64_max}
use Rattle.crsm_mpspec.specs.Types.{Ballot}
use Rattle.crsm_mpspec.specs.Log.{promised}
use Rattle.crsm_mpspec.specs.Replica.{without_lead}
use Rattle.crsm_mpspec.specs.Draft.{noting}
use Rattle.crsm_mpspec.specs.Electing.{on_lead, ask}
use Rattle.crsm_mpreplica.specs.State.{MpReplicaStands}
use Rattle.crsm_mpcore.proofs.SoundLemmas.{promised-fits}
use Rattle.crsm_mpcore.proofs.electing.on_lead.Goals as goal

last : (n : ℕ) → n ≡ 18446744073709551615 → (n == u64_max) ≡ true
last n is = grind (arith, nat_tests, is)

not_last : (n : ℕ) → n ≢ 18446744073709551615 → (n == u64_max) ≡ false
not_last n is = grind (arith, nat_tests, is)

pub returns-then-promised : goal.returns-then-promised
unfolding on_lead noting when◌then◌otherwise◌
returns-then-promised c x s =
    let y = noting (without_lead x.replica.note) x in
    let stands = c.end_lead.ensures x s in
    let p : c.promised-promised.result ≡ promised x.replica.log = c.promised-promised.ensures x.replica.log (c.ledger.ensures y stands) in
    let end = last (promised x.replica.log).round (ap (λ (b : Ballot). b.round) (sym p) ∙ c.if-promised.true) in
    rw (end) stands

pub returns : goal.returns
unfolding on_lead noting when◌then◌otherwise◌
returns c x s =
    let y = noting (without_lead x.replica.note) x in
    let stands = c.end_lead.ensures x s in
    let p : c.promised-promised.result ≡ promised x.replica.log = c.promised-promised.ensures x.replica.log (c.ledger.ensures y stands) in
    let me = c.me.ensures.is y stands in
    let round = ap (λ (b : Ballot). b.round) p in
    let goes_on = not_last (promised x.replica.log).round (λ e. c.if-promised.false (round ∙ e)) in
    let bound = (promised-fits x.replica.log stands.ledger.sound).round in
    let fits : FitsBallot (record { round = c.promised-promised.result.round + 1; by = c.me.result }) = record { round = omega (arith, bound, round, c.if-promised.false); by = c.me.ensures.small } in
    let asked = c.in_ok-ask.ensures y stands fits in
    rw (goes_on)
    (subst (λ (b : Ballot). MpReplicaStands c.ask.new.state (ask (record { round = b.round + 1; by = x.replica.me }) y)) p
    (subst (λ (k : ℕ). MpReplicaStands c.ask.new.state (ask (record { round = c.promised-promised.result.round + 1; by = k }) y)) me asked))
