use Rattle.std.proofs.Common.{◌≡◌, ◌∙◌, refl, sym, arith, true}
use Rattle.std.proofs.lemmas.Result.{IfOk-weaker}
use Rattle.crsm_base.specs.Spelling.{FitsEntry}
use Rattle.crsm_spec.specs.Types.{Stamp, Entry, Rec}
use Rattle.crsm_spec.specs.Clients.{await}
use Rattle.crsm_spec.specs.Draft.{Draft, keep, count_vote}
use Rattle.crsm_replica.specs.Replica.{ReplicaStands}
use Rattle.crsm_core.proofs.Fitting.{if_fits, stands_as}
use Rattle.crsm_core.proofs.RequestLemmas.{is_submitted, is_not_submitted, would_kept, entry_is, entry_fits, stamp_is}
use Rattle.crsm_core.proofs.requests.submit.Goals as goal

pub log_entry-requires : goal.log_entry-requires
log_entry-requires c =
    entry_fits c.args.command.now c.in_ok-copy.field-0 c.args.time c.me-me.result c.known.result c.in_ok-copy.ensures c.requires (omega arith) c.me-me.ensures.below (omega arith)

pub vote_and_await-requires-clause-spelt : goal.vote_and_await-requires-clause-spelt
vote_and_await-requires-clause-spelt c =
    entry_fits c.args.command.now c.in_ok-copy.field-0 c.args.time c.me-me.result c.known.result c.in_ok-copy.ensures c.requires (omega arith) c.me-me.ensures.below (omega arith)

pub returns-then-not-fits : goal.returns-then-not-fits
returns-then-not-fits c = λ x reading s w.
    let both = c.in-Ok.ensures x s in
    let e : Entry = record { epoch = c.known.result; stamp = record { time = c.args.time; origin = c.me-me.result }; command = c.in_ok-copy.field-0 } in
    is_not_submitted c.log_entry.new.state c.args.address c.args.command.now c.args.time x e
    (entry_is c.args.command.now c.in_ok-copy.field-0 c.args.time c.me-me.result c.known.result x (c.me-me.ensures.value x s) (c.known.ensures x s) c.in_ok-copy.ensures)
    (sym both.0 ∙ c.if-not-fits.true) both.1

pub returns : goal.returns
returns c =
    IfOk-weaker c.push_at.result _ _ (λ _ made x reading s w.
    let both = c.in-Ok.ensures x s in
    let me = c.me-me.result in
    let stamp : Stamp = record { time = c.args.time; origin = me } in
    let e : Entry = record { epoch = c.known.result; stamp = stamp; command = c.in_ok-copy.field-0 } in
    let rec : Rec = Rec.Prepare e in
    let y : Draft = keep rec x in
    let fit : y.fitting ≡ true = sym both.0 ∙ c.if-not-fits.false in
    let a : ReplicaStands c.log_entry.new.state y = stands_as c.log_entry.new.state _ y (if_fits x y fit) both.1 in
    let d = c.in-Ok-vote_and_await.ensures y a in
    let fits : FitsEntry e =
    entry_fits c.args.command.now c.in_ok-copy.field-0 c.args.time me c.known.result c.in_ok-copy.ensures c.requires (omega arith) c.me-me.ensures.below (omega arith) in
    let g = made (await c.args.address e (count_vote stamp me y)) reading d fits (would_kept c.args.address e stamp me rec x reading ∙ w) in
    is_submitted c.push_at.new.self c.args.address c.args.command.now c.args.time x stamp e e me (c.me-me.ensures.value x s)
    (stamp_is c.args.time me x (c.me-me.ensures.value x s))
    (entry_is c.args.command.now c.in_ok-copy.field-0 c.args.time me c.known.result x (c.me-me.ensures.value x s) (c.known.ensures x s) c.in_ok-copy.ensures)
    refl fit g) c.push_at.ensures
