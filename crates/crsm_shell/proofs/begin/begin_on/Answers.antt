use Rattle.std.proofs.Common.{sym, subst}
use Rattle.std.proofs.Math.Logic.{∥∥₁_map}
use Rattle.crsm_core.specs.Core.{CoreAwaits}
use Rattle.crsm_core.specs.declared.replica.Core.{Core}
use Rattle.crsm_shell.proofs.begin.begin_on.Goals as goal

pub boot-requires : goal.boot-requires
boot-requires c =
    ∥∥₁_map c.requires (λ one. record {
      me = one.me;
      n = one.n;
      log = one.log;
      awaits = subst (λ (core : Core). CoreAwaits core one.me one.n one.log) (sym c.deref_mut.ensures.value) (c.in_ok-core.ensures.awaits one.me one.n one.log one.is);
      room = c.in_ok-core.ensures.room one.me one.n one.log one.is;
    })

pub returns-clause-begins : goal.returns-clause-begins
returns-clause-begins c me n log is =
    c.in-Ok.ensures me n log (subst (λ (core : Core). CoreAwaits core me n log) (sym c.deref_mut.ensures.value) (c.in_ok-core.ensures.awaits me n log is))
    (c.in_ok-core.ensures.room me n log is)
