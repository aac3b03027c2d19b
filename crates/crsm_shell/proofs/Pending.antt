-- One more pending step, and a core that stands for some replica.
use Rattle.std.proofs.Common.{◌≡◌, ℕ, ◌+◌, List, [], ◌∷◌, ◌++◌, length, sym, ◌∙◌, ap, subst, false, length-append}
use Rattle.std.specs.List.{AllByRecursion}
use Rattle.crsm_base.specs.declared.rec.Rec.{Rec}
use Rattle.crsm_base.specs.declared.send.Send.{Send}
use Rattle.crsm_base.specs.Records.{FitsRec, body_bytes}
use Rattle.crsm_spec.specs.Log.{Log}
use Rattle.crsm_spec.specs.Replica.{Replica}
use Rattle.crsm_spec.specs.Draft.{Draft}
use Rattle.crsm_spec.specs.World.{body_size}
use Rattle.crsm_disk.specs.Meaning.{Meaning}
use Rattle.crsm_ledger.specs.Recovered.{with_records}
use Rattle.crsm_replica_output.specs.declared.batch.Batch.{Batch}
use Rattle.crsm_replica_io.specs.Outgoing.{FitsSend, packets_for}
use Rattle.crsm_core.specs.Core.{Answers, CoreStands, FitsSent}
use Rattle.crsm_shell.specs.declared.shell.Shell.{Shell}
use Rattle.crsm_shell.specs.Shell.{HasLog, ShellStands, records_of, sends_in, sends_of}
use Rattle.crsm_shell.specs.Taking.{MakesStep}
use Rattle.crsm_shell.proofs.Records.{all_more, body_more, packets_more, records_push, sends_push, with_more}
use Rattle.crsm_fact_step.specs.Steps.{Grown}

-- each output has an encoding
pub sent_fit : (sends : List Send) → AllByRecursion FitsSent sends → AllByRecursion FitsSend sends
sent_fit [] h = tt
sent_fit (s ∷ sends) h = (h.0.1, sent_fit sends h.1)

sends_are : (batch : Batch) (x : Draft) → Answers batch x → batch.sends ≡ sends_in x
unfolding sends_in
sends_are batch x a = a.made.sends

module _ {D : Type 0} {g : _} (old new : Shell D g) (m : Meaning) (kept : Log) (r : Replica) (steps : List Draft) (x : Draft) (batch : Batch) (bytes : ℕ) where
  pub one_more : ShellStands old m kept r steps → Answers batch x → CoreStands new.core.value x.replica → Grown r x → new.failed ≡ false →
      new.body ≡ old.body ++ body_bytes batch.records → new.outbox ≡ old.outbox ++ packets_for old.peers.items batch.sends →
      new.peers.items ≡ old.peers.items → new.pending ≡ old.pending + 1 → bytes ≡ length (body_bytes batch.records) → MakesStep new m kept r steps x batch bytes
  unfolding ShellStands body_size
  one_more s a core grown well body outbox peers pending size =
      let recs : batch.records ≡ x.batch = a.made.records in
      record {
        answers = a;
        stands = record {
          core = core;
          well = well;
          body = body ∙ ap (λ (b : List ℕ). b ++ body_bytes batch.records) s.body ∙ ap (λ (rs : List Rec). body_bytes (records_of steps) ++ body_bytes rs) recs
              ∙ sym (body_more (records_of steps) x.batch) ∙ ap body_bytes (sym (records_push steps x));
          spelt = subst (AllByRecursion FitsRec) (sym (records_push steps x)) (all_more FitsRec (records_of steps) x.batch s.spelt (subst (AllByRecursion FitsRec) recs a.records));
          outbox = outbox ∙ ap (λ os. os ++ packets_for old.peers.items batch.sends) s.outbox
              ∙ ap (λ (ss : List Send). packets_for old.peers.items (sends_of steps) ++ packets_for old.peers.items ss) (sends_are batch x a)
              ∙ sym (packets_more old.peers.items (sends_of steps) (sends_in x)) ∙ ap (packets_for old.peers.items) (sym (sends_push steps x))
              ∙ ap (λ (ps : List ℕ). packets_for ps (sends_of (steps ++ x ∷ []))) (sym peers);
          pending = pending ∙ ap (λ (k : ℕ). k + 1) s.pending ∙ sym (length-append steps (x ∷ []));
          log = grown.log ∙ ap (λ (l : Log). with_records l x.batch) s.log ∙ sym (with_more kept (records_of steps) x.batch) ∙ ap (with_records kept) (sym (records_push steps x));
          file = λ honest. subst (λ (k : ℕ). HasLog k x.replica.n m.seen kept) (sym grown.me) (subst (λ (k : ℕ). HasLog r.me k m.seen kept) (sym grown.n) (s.file honest));
        };
        size = size ∙ ap (λ (rs : List Rec). length (body_bytes rs)) recs;
        me = grown.me;
        n = grown.n;
        log = grown.log;
      }
