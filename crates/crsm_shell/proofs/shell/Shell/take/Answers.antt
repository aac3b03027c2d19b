use Rattle.std.proofs.Common.{◌≡◌, ◌∙◌, ap}
use Rattle.std.specs.Prelude.{Result, Err}
use Rattle.crsm_shell.specs.declared.errors.TurnError.{TurnError}
use Rattle.crsm_shell.specs.declared.errors.TurnError.TheVariants as errors
use Rattle.crsm_shell.specs.declared.turned.TurnResult.{TurnResult}
use Rattle.crsm_shell.specs.Errors.{is_lasting}
use Rattle.crsm_shell.specs.Shell.{ShellStands}
use Rattle.crsm_shell.proofs.shell.Shell.take.Goals as goal

abbrev failing : TurnError → Result TurnResult TurnError
failing why = Err why

same_err : (a b : TurnError) → failing a ≡ failing b → a ≡ b
same_err a b is = cc

pub returns-in-Err-clause-usable : goal.returns-in-Err-clause-usable
unfolding ShellStands
returns-in-Err-clause-usable g c is kept r steps s = record {
  core = s.core;
  well = c.is_lasting-self.ensures ∙ ap is_lasting (same_err c.in-Err.why errors.PortFault is);
  body = s.body;
  spelt = s.spelt;
  outbox = s.outbox;
  pending = s.pending;
  log = s.log;
  file = s.file;
}

pub returns-clause-stands : goal.returns-clause-stands
unfolding ShellStands
returns-clause-stands g c kept r steps s = c.in-Ok-step.ensures.stands kept r steps (record {
  core = s.core;
  well = s.well;
  body = s.body;
  spelt = s.spelt;
  outbox = s.outbox;
  pending = s.pending;
  log = s.log;
  file = s.file;
})
