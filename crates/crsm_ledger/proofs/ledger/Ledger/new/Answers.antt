use Rattle.std.proofs.Common.{◌∙◌, refl}
use Rattle.crsm_spec.specs.Log.{no_ballot}
use Rattle.crsm_ledger.proofs.StepLemmas.{says-nothing}
use Rattle.crsm_ledger.proofs.ledger.Ledger.new.Goals as goal

pub returns : goal.returns
unfolding no_ballot
returns c = record {
  unspent = refl;
  says = says-nothing c.args.me c.args.n _ c.in_ok-founders.founders c.in_ok-members.members c.new-2.result c.requires.few refl
      (c.in_ok-founders.ensures ∙ c.first_replicas-numbers.ensures c.requires.few) (c.in_ok-members.ensures ∙ c.first_replicas-numbers.ensures c.requires.few) c.new-2.ensures c.in_ok-held.ensures;
}
