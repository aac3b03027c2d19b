use Rattle.std.proofs.Common.{ℕ, List, ◌++◌, refl, sym, ◌∙◌, ap, subst}
use Rattle.std.proofs.Math.Logic.{∥∥₁_elim, ∥∥₁_map}
use Rattle.crsm_core.specs.Core.{Answers, CoreStands}
use Rattle.crsm_core.specs.declared.replica.Core.{Core}
use Rattle.crsm_spec.specs.Node.{turn}
use Rattle.crsm_replica_io.specs.Outgoing.{packets_for}
use Rattle.crsm_shell.specs.Taking.{turn_of}
use Rattle.crsm_shell.specs.Words.{disk_of}
use Rattle.crsm_shell.proofs.Groups.{inside}
use Rattle.crsm_shell.proofs.Pending.{one_more, sent_fit}
use Rattle.crsm_shell.proofs.Propositions.{records_prop, sends_prop}
use Rattle.crsm_fact_step.proofs.Batches.{turn_grown}
use Rattle.crsm_shell.proofs.shell.Shell.step.Goals as goal

pub pend-requires-clause-records : goal.pend-requires-clause-records
pend-requires-clause-records g c =
    ∥∥₁_elim (c.args.self.now.stands c.requires.well) (records_prop c.in_ok-made.made.batch.records) (λ s. (c.in_ok-made.ensures.step s.replica (subst (λ (core : Core). CoreStands core s.replica) (sym c.deref_mut.ensures.value) s.stands)).0.records)

pub pend-requires-clause-sends : goal.pend-requires-clause-sends
pend-requires-clause-sends g c =
    sent_fit c.in_ok-made.made.batch.sends (∥∥₁_elim (c.args.self.now.stands c.requires.well) (sends_prop c.in_ok-made.made.batch.sends) (λ s. (c.in_ok-made.ensures.step s.replica (subst (λ (core : Core). CoreStands core s.replica) (sym c.deref_mut.ensures.value) s.stands)).0.sends))

pub returns-clause-spelt : goal.returns-clause-spelt
returns-clause-spelt g c =
    ∥∥₁_elim (c.args.self.now.stands c.requires.well) (sends_prop c.in_ok-made.made.batch.sends) (λ s. (c.in_ok-made.ensures.step s.replica (subst (λ (core : Core). CoreStands core s.replica) (sym c.deref_mut.ensures.value) s.stands)).0.sends)

pub invariant_of-self-2-clause-stands : goal.invariant_of-self-2-clause-stands
invariant_of-self-2-clause-stands g c = λ h.
    ∥∥₁_map (c.args.self.now.stands c.requires.well) (λ s. record { replica = _; stands = (c.in_ok-made.ensures.step s.replica (subst (λ (core : Core). CoreStands core s.replica) (sym c.deref_mut.ensures.value) s.stands)).1 })

pub returns-clause-stands : goal.returns-clause-stands
returns-clause-stands g c kept r steps s =
    let old = c.args.self.now in
    let m = g.D.Disk.meaning (disk_of old) in
    let a = subst (λ (buffer : List ℕ). let x = turn r (turn_of buffer c.args.taken.now, c.args.reading) in Answers c.in_ok-made.made.batch x × CoreStands c.make.new.core x.replica)
    c.deref.ensures.value (c.in_ok-made.ensures.step r (subst (λ (core : Core). CoreStands core r) (sym c.deref_mut.ensures.value) (inside old m kept r steps s).core)) in
    let batch = c.in_ok-made.made.batch in
    let packets = c.in-Ok.ensures.outbox ∙ ap (λ (ps : List ℕ). old.outbox ++ packets_for ps batch.sends) c.deref-2.ensures.value in
    one_more old _ m kept r steps _ batch _ s a.0 a.1 (turn_grown r (turn_of old.buffer.items c.args.taken.now, c.args.reading)) refl c.in-Ok.ensures.body packets refl refl c.in-Ok.ensures.size
