use Rattle.std.proofs.Common.{◌∙◌, ◌++◌, ◌∷◌, [], ap}
use Rattle.std.specs.Prelude.{map}
use Rattle.crsm_fact_log.proofs.Lists.{map-push}
use Rattle.crsm_mpspec.specs.Draft.{await}
use Rattle.crsm_mpreplica.specs.State.{waiting_of}
use Rattle.crsm_mpreplica.proofs.state.MpReplica.await_command.Goals as goal

pub returns : goal.returns
unfolding await waiting_of
returns c x s = record {
  me = s.me;
  n = s.n;
  ledger = s.ledger;
  note = s.note;
  waiting = ap (λ es. map waiting_of es) c.in_ok-push_slot.ensures.entries ∙ map-push waiting_of c.args.self.now.waiting.entries (c.args.slot, c.args.command)
      ∙ ap (λ ws. ws ++ record { slot = c.args.slot; command = c.args.command } ∷ []) s.waiting;
  made = s.made;
}
