use Rattle.std.proofs.Common.{◌≡◌, refl, subst, sym, ◌∙◌, true, false}
use Rattle.crsm_base.specs.Order.{ballot_lt}
use Rattle.crsm_spec.specs.Paxos.{TakesVote}
use Rattle.crsm_paxos.proofs.AcceptingLemmas.{not_above_itself, not_again, takes_other}
use Rattle.crsm_paxos.proofs.acceptor.Acceptor.accept.Goals as goal

pub returns-then-holds-clause-yes : goal.returns-then-holds-clause-yes
returns-then-holds-clause-yes c = (
  (λ e. cc),
  λ t. absurd (not_again (record { promised = c.self.inside.promised; accepted = c.self.inside.accepted }) c.args.b
      (c.holds.ensures.0 c.if-holds.true) (subst (λ a. TakesVote a c.args.b) (sym c.self.view_is) t)),
)

pub returns-clause-yes : goal.returns-clause-yes
returns-clause-yes c = (
  (λ _. subst (λ a. TakesVote a c.args.b) c.self.view_is
      (takes_other (record { promised = c.self.inside.promised; accepted = c.self.inside.accepted }) c.args.b c.self.invariant
      (let e : ballot_lt c.args.b c.self.inside.promised ≡ false = sym c.ballot_precedes.ensures ∙ c.if-ballot_precedes.false in e)
      (λ is. let yes : c.holds.result ≡ true = c.holds.ensures.1 is in let no : c.holds.result ≡ false = c.if-holds.false in cc))),
  λ _. refl,
)

pub invariant_of-self : goal.invariant_of-self
invariant_of-self c = not_above_itself c.args.b c.args.d
