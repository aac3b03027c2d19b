use Rattle.std.proofs.Common.{[], sym, subst}
use Rattle.std.proofs.lemmas.Grind.{merely}
use Rattle.std.proofs.lemmas.Result.{IfErr-weaker, IfOk-weaker}
use Rattle.crsm_shell.specs.Beginning.{IsRefusal}
use Rattle.crsm_shell.proofs.Records.{kept_fit, kept_spelt}
use Rattle.crsm_shell.proofs.begin.begin.Goals as goal

pub begin_on-requires : goal.begin_on-requires
begin_on-requires c =
    let w = c.in_ok-ledger.ensures.whole in
    let me = c.args.me in
    let n = c.args.n in
    let bodies = c.args.bodies.now in
    merely (record {
      me = me;
      n = n;
      log = w.0;
      is = record {
        number = c.requires.me_below;
        some = c.requires.some;
        stands = w.2;
        fits = kept_fit me n [] w.0 bodies w.1 tt;
        spelt = kept_spelt me n [] w.0 bodies w.1 tt;
      };
    })

pub returns-clause-found : goal.returns-clause-found
returns-clause-found c =
    let w = c.in_ok-ledger.ensures.whole in
    let me = c.args.me in
    let n = c.args.n in
    let bodies = c.args.bodies.now in
    IfOk-weaker c.begin_on.result _ _ (λ b begins. (
      w.0,
      w.1,
      begins me n w.0 (record {
        number = c.requires.me_below;
        some = c.requires.some;
        stands = w.2;
        fits = kept_fit me n [] w.0 bodies w.1 tt;
        spelt = kept_spelt me n [] w.0 bodies w.1 tt;
      }),
    )) c.begin_on.ensures.begins

pub returns-clause-refused : goal.returns-clause-refused
returns-clause-refused c =
    IfErr-weaker c.begin_on.result _ _ (λ why is. subst (IsRefusal c.args.me c.args.n c.args.bodies.now) (sym is) tt) c.begin_on.ensures.refused
