use Rattle.std.proofs.Common.{◌≡◌, ◌∙◌, ◌<◌, ◌^◌, true, false, ap, sym, arith, length, Some}
use Rattle.std.specs.Option.{option_map}
use Rattle.crsm_spec.specs.Lists.{first_of}
use Rattle.crsm_spec.specs.Paxos.{majority}
use Rattle.crsm_spec.specs.Ready.{votes_for}
use Rattle.crsm_commit.specs.Waiting.{stamp_of}
use Rattle.crsm_commit.proofs.ReadyLemmas.{none_ready, first_decides, of_first, decided, both, unstable, too_few, some_member}
use Rattle.crsm_commit.proofs.VotesLemmas.{mask_is}
use Rattle.crsm_commit.proofs.pending.Pending.ready.Goals as goal

pub returns-in_err-stamp : goal.returns-in_err-stamp
returns-in_err-stamp c tracked waiting votes received s h one t =
    c.from_residual.ensures ∙ none_ready c.args.spec.now c.args.members.now received votes waiting (sym c.in_err-stamp.was ∙ s.first)

pub returns-then-max-least : goal.returns-then-max-least
returns-then-max-least c tracked waiting votes received s h one t =
    let first : Some c.in_ok-stamp.stamp ≡ option_map stamp_of (first_of waiting) = sym c.in_ok-stamp.was ∙ s.first in
    let small : c.max.result < 2 ^ 64 = omega arith in
    first_decides c.args.spec.now c.args.members.now received votes waiting c.in_ok-stamp.stamp false first
    (unstable c.args.spec.now c.args.members.now received votes c.in_ok-stamp.stamp c.max.result c.least.result one c.max.ensures
    (c.least.ensures received c.max.result h (omega (arith, c.max.ensures)) small) c.if-max-least.true)

pub majority-requires-clause-some : goal.majority-requires-clause-some
majority-requires-clause-some c = omega (arith, c.count.ensures.value, some_member _ c.count.ensures.members)

pub returns-then-votes-majority : goal.returns-then-votes-majority
returns-then-votes-majority c tracked waiting votes received s h one t =
    let first : Some c.in_ok-stamp.stamp ≡ option_map stamp_of (first_of waiting) = sym c.in_ok-stamp.was ∙ s.first in
    let live : tracked c.in_ok-stamp.stamp ≡ true = of_first (λ e. tracked e.stamp ≡ true) (λ r. tracked r ≡ true) waiting c.in_ok-stamp.stamp (λ e h. h) first t in
    let count : c.count_in-votes.result ≡ votes_for c.args.spec.now votes c.in_ok-stamp.stamp =
    c.count_in-votes.ensures votes c.in_ok-stamp.stamp
    (mask_is tracked c.args.self.now.votes votes c.in_ok-stamp.stamp c.of.result s.masks live c.of.ensures) in
    let quorum : c.majority.result ≡ majority (length c.args.spec.now) = c.majority.ensures ∙ ap majority c.count.ensures.value in
    let small : c.max.result < 2 ^ 64 = omega arith in
    first_decides c.args.spec.now c.args.members.now received votes waiting c.in_ok-stamp.stamp true first
    (decided c.args.spec.now c.args.members.now received votes c.in_ok-stamp.stamp c.max.result c.majority.result c.count_in-votes.result c.least.result one c.max.ensures quorum count
    (c.least.ensures received c.max.result h (omega (arith, c.max.ensures)) small)
    ∙ both _ _ _ _ c.if-votes-majority.true (omega (arith, c.if-max-least.false)))

pub returns-else-votes-majority : goal.returns-else-votes-majority
returns-else-votes-majority c tracked waiting votes received s h one t =
    let first : Some c.in_ok-stamp.stamp ≡ option_map stamp_of (first_of waiting) = sym c.in_ok-stamp.was ∙ s.first in
    let live : tracked c.in_ok-stamp.stamp ≡ true = of_first (λ e. tracked e.stamp ≡ true) (λ r. tracked r ≡ true) waiting c.in_ok-stamp.stamp (λ e h. h) first t in
    let count : c.count_in-votes.result ≡ votes_for c.args.spec.now votes c.in_ok-stamp.stamp =
    c.count_in-votes.ensures votes c.in_ok-stamp.stamp
    (mask_is tracked c.args.self.now.votes votes c.in_ok-stamp.stamp c.of.result s.masks live c.of.ensures) in
    let quorum : c.majority.result ≡ majority (length c.args.spec.now) = c.majority.ensures ∙ ap majority c.count.ensures.value in
    let few : votes_for c.args.spec.now votes c.in_ok-stamp.stamp < majority (length c.args.spec.now) = omega (arith, count, quorum, c.if-votes-majority.false) in
    first_decides c.args.spec.now c.args.members.now received votes waiting c.in_ok-stamp.stamp false first
    (too_few c.args.spec.now c.args.members.now received votes c.in_ok-stamp.stamp few)
