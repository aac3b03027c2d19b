use Rattle.std.proofs.Common.{sym, ap, ◌∙◌, false}
use Rattle.std.specs.Prelude.{ℕ, List, Option}
use Rattle.std.specs.Option.{option_copied, option_map_or}
use Rattle.crsm_spec.specs.Lists.{has}
use Rattle.crsm_mpcore.specs.Ticks.{is_voter}
use Rattle.crsm_mpcore.proofs.ticks.has_voted.Goals as goal

pub returns-in-Some : goal.returns-in-Some
unfolding is_voter
returns-in-Some c =
    let found = ap option_copied (sym c.in-Some.is) ∙ c.get.ensures.value in
    c.is_among.ensures ∙ ap (λ (ks : List ℕ). has ks c.args.replica) c.as_slice.ensures.value ∙ ap (λ (o : Option _). option_map_or (λ w. has w.items c.args.replica) o false) found

pub returns-in-None : goal.returns-in-None
unfolding is_voter
returns-in-None c =
    let found = ap option_copied (sym c.in-None.is) ∙ c.get.ensures.value in
    ap (λ (o : Option _). option_map_or (λ w. has w.items c.args.replica) o false) found
