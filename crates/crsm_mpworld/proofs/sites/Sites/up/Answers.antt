use Rattle.std.proofs.Common.{◌≡◌, ◌∙◌, true, sym}
use Rattle.crsm_mpworld.specs.Sites.{is_up_in}
use Rattle.crsm_mpworld.proofs.Places.{up_none, up_some}
use Rattle.crsm_mpworld.proofs.sites.Sites.up.Goals as goal

pub returns-then-not-is_up-clause-up : goal.returns-then-not-is_up-clause-up
returns-then-not-is_up-clause-up c n places h = up_none places c.args.k (sym (c.is_up.ensures.up n places h) ∙ c.if-not-is_up.true)

pub returns-clause-up : goal.returns-clause-up
returns-clause-up c n places h =
    let e : is_up_in places c.args.k ≡ true = sym (c.is_up.ensures.up n places h) ∙ c.if-not-is_up.false in up_some places c.args.k e
