use Rattle.std.proofs.Common.{rules, ◌≡◌, ◌∷◌, ◌<◌, length, Some, subst, arith}
use Rattle.crsm_mpledger.specs.Reading.{rec_at}
use Rattle.crsm_mpledger.specs.MpLedger.{MpLedgerStands}
use Rattle.crsm_mpledger.specs.Sound.{with_records}
use Rattle.crsm_mpledger.proofs.TakenLemmas.{left_first, left_follows, left_last, left_next, left_some}
use Rattle.crsm_mpledger.proofs.ledger.MpLedger.follow_body.Goals as goal

pub loop-taken-init : goal.loop-taken-init
loop-taken-init c log s recs spelt sound = (omega arith, log, s, recs, left_first log recs c.args.body.now spelt)

pub loop-taken-preserved : goal.loop-taken-preserved
loop-taken-preserved c log s recs spelt sound =
    let i = c.loop-taken.invariant log s recs spelt sound in
    let rest = c.loop-taken.rest.now in
    let some : 0 < length rest = search rules in
    let read : Some (c.in-Some.rec, c.in-Some.after.now) ≡ rec_at rest = rw c.in-Some.is at c.in_ok-rec.ensures in
    let next = left_next i.1 i.3 rest (with_records log recs) c.in-Some.rec c.in-Some.after.now i.4 sound some read in
    (omega (arith, i.0, next.shorter), c.in-Some.rec ∷ i.1, c.in_ok-take.ensures i.1 i.2 next.may, next.more, next.left)

pub returns-then-is_empty : goal.returns-then-is_empty
returns-then-is_empty c log s recs spelt sound =
    let i = c.loop-taken.invariant log s recs spelt sound in
    let none : length c.loop-taken.rest.now ≡ 0 = search rules in
    subst (MpLedgerStands c.loop-taken.self) (left_last i.1 i.3 c.loop-taken.rest.now (with_records log recs) i.4 none) i.2

pub returns : goal.returns
returns c log s recs spelt sound =
    let i = c.loop-taken.invariant log s recs spelt sound in
    let end : c.loop-taken._taken ≡ length c.args.body.now = search rules in
    let none : length c.loop-taken.rest.now ≡ 0 = omega (arith, i.0, end) in
    subst (MpLedgerStands c.loop-taken.self) (left_last i.1 i.3 c.loop-taken.rest.now (with_records log recs) i.4 none) i.2

-- ---- the body has a record here, which can be applied

pub unreachable-requires : goal.unreachable-requires
unreachable-requires c =
    let on = c.requires in
    let i = c.loop-taken.invariant on.log on.stands on.records on.spelt on.sound in
    let rest = c.loop-taken.rest.now in
    let some : 0 < length rest = search rules in
    left_some i.1 i.3 rest (with_records on.log on.records) i.4 some (rw c.in_default.is at c.in_ok-rec.ensures)

pub take-requires : goal.take-requires
take-requires c =
    let on = c.requires in
    let i = c.loop-taken.invariant on.log on.stands on.records on.spelt on.sound in
    let rest = c.loop-taken.rest.now in
    let some : 0 < length rest = search rules in
    let read : Some (c.in-Some.rec, c.in-Some.after.now) ≡ rec_at rest = rw c.in-Some.is at c.in_ok-rec.ensures in
    left_follows c.loop-taken.self i.1 i.3 rest (with_records on.log on.records) c.in-Some.rec c.in-Some.after.now i.2 i.4 on.sound on.few some read
