use Rattle.std.proofs.Common.{◌∙◌, ◌<◌, ◌≤◌, ◌^◌, ◌∷◌, ◌++◌, [], sym, subst, arith}
use Rattle.crsm_base.specs.Spelling.{FitsCommand, FitsOption}
use Rattle.crsm_spec.specs.Choice.{when◌then◌otherwise◌}
use Rattle.crsm_mpspec.specs.declared.line.MpLine.{MpLine}
use Rattle.crsm_mpspec.specs.declared.rec.MpRec.{MpRec}
use Rattle.crsm_mpspec.specs.Draft.{keep, keep_as, line_of}
use Rattle.crsm_mpspec.specs.Deciding.{choose}
use Rattle.crsm_mpspec.specs.Log.{executed}
use Rattle.crsm_mpspec.specs.Replica.{note_after}
use Rattle.crsm_mpledger.specs.MpLedger.{first_kept}
use Rattle.crsm_mpreplica.specs.Made.{MadeStands, outcome_of}
use Rattle.crsm_mpreplica.proofs.ChooseLemmas.{prefix-len, choose-tells}
use Rattle.crsm_mpreplica.proofs.state.MpReplica.choose.Goals as goal

pub returns-then-is_chosen : goal.returns-then-is_chosen
unfolding choose when◌then◌otherwise◌
returns-then-is_chosen c x s fits = rw (sym (c.is_chosen.ensures x.replica.log s.ledger) ∙ c.if-is_chosen.true) s

pub returns : goal.returns
unfolding choose when◌then◌otherwise◌ keep keep_as line_of note_after
returns c x s fits =
    let log = x.replica.log in
    let slot = c.args.slot in
    let w = c.in_ok-value.value in
    let unchosen = sym (c.is_chosen.ensures log s.ledger) ∙ c.if-is_chosen.false in
    let before = c.executed_len-before.ensures.value log s.ledger in
    let grows = c.executed_slots_grow.ensures slot w log unchosen in
    let spelt = subst (FitsOption FitsCommand) (sym c.in_ok-value.ensures) fits.1 in
    let below : slot < 2 ^ 64 = omega (arith, fits.0) in
    let follows = c.in_ok-keep.ensures.ledger log s.ledger (fits.0, spelt, unchosen) in
    let old = s.ledger.executed.kept in
    let kept : first_kept c.keep.new.ledger ≤ c.executed_len-before.result = omega (arith, c.in_ok-keep.ensures.kept, before, old) in
    let made =
    c.in_ok-tell_executed.ensures (MpRec.Choose slot w ∷ log)
    (record (outcome_of x) { batch = x.batch ++ MpRec.Choose slot w ∷ []; lines = x.lines ++ MpLine.Choose c.args.self.now.me slot ∷ [] })
    follows kept (omega (arith, before, prefix-len (executed log) (executed (MpRec.Choose slot w ∷ log)) grows)) (c.in_ok-keep.ensures.made (outcome_of x) s.made (below, spelt)) in
    rw (unchosen, ← c.in_ok-value.ensures)
    (record {
      me = s.me;
      n = s.n;
      ledger = follows;
      note = c.close.ensures x.replica.me log w x.replica.note s.note;
      waiting = s.waiting;
      made = subst (MadeStands c.tell_executed.new.made) (choose-tells x slot w c.args.self.now.me c.executed_len-before.result s.me before grows) made;
    })
