-- The relation of a ledger to its log, with one more record.
use Rattle.std.proofs.Common.{◌≡◌, ℕ, ◌+◌, List, [], ◌∷◌, ◌++◌, length, refl, ap, sym, subst, ◌∙◌, arith}
use Rattle.std.specs.Prelude.{drop}
use Rattle.std.proofs.lemmas.List.{length-append}
use Rattle.crsm_base.specs.Spelling.{FitsBallot}
use Rattle.crsm_mpspec.specs.declared.rec.MpRec.{MpRec}
use Rattle.crsm_mpspec.specs.Types.{Ballot, Value}
use Rattle.crsm_mpspec.specs.Values.{apply_value}
use Rattle.crsm_mpspec.specs.Log.{Log, boots, is_boot, promised, accepts, choices, executed}
use Rattle.crsm_mpledger.specs.declared.executions.Execution.{Execution}
use Rattle.crsm_mpledger.specs.declared.executions.Executions.{Executions}
use Rattle.crsm_mpledger.specs.declared.ledger.MpLedger.{MpLedger}
use Rattle.crsm_mpledger.specs.Executed.{ExecutionsStand, execution_after, executions_of}
use Rattle.crsm_mpledger.specs.MpLedger.{MpLedgerStands}
use Rattle.crsm_mpledger.proofs.BootLemmas.{boots-boot}
use Rattle.crsm_mpledger.proofs.ExecutedLemmas.{kept-none, kept-snoc, rows-snoc}
use Rattle.crsm_mpledger.proofs.RunLemmas.{executed-same}

-- one value more was executed
pub executes : (old new : Executions) (values : List Value) (v : Value) → ExecutionsStand old values → new.store ≡ apply_value old.store v
    → new.count ≡ length values + 1 → new.first ≡ old.first → new.slots.items ≡ old.slots.items ++ execution_after values v ∷ [] → ExecutionsStand new (values ++ v ∷ [])
executes old new values v s store count first slots =
    let longer = length-append values (v ∷ []) in
    let most = s.kept in
    record {
      store = store ∙ ap (λ rows. apply_value rows v) s.store ∙ sym (rows-snoc values v);
      count = count ∙ sym longer;
      kept = omega (arith, longer, first, most);
      slots = slots ∙ ap (λ (xs : List Execution). xs ++ execution_after values v ∷ []) s.slots ∙ sym (kept-snoc old.first values v most)
          ∙ ap (λ (k : ℕ). drop k (executions_of (values ++ v ∷ []))) (sym first);
    }

-- the executions are forgotten
pub forgets : (old new : Executions) (values : List Value) → ExecutionsStand old values → new.store ≡ old.store → new.count ≡ old.count → new.first ≡ old.count
    → new.slots.items ≡ [] → ExecutionsStand new values
forgets old new values s store count first slots =
    let all = s.count in
    record {
      store = store ∙ s.store;
      count = count ∙ all;
      kept = omega (arith, first, all);
      slots = slots ∙ sym (kept-none values) ∙ ap (λ (k : ℕ). drop k (executions_of values)) (sym (first ∙ all));
    }

-- a record that is no choice executes nothing
pub stays : (x : Executions) (log other : Log) → choices log ≡ choices other → ExecutionsStand x (executed other) → ExecutionsStand x (executed log)
stays x log other same s = subst (λ vs. ExecutionsStand x vs) (sym (executed-same log other same)) s

-- the replica booted
pub boots-once : (ledger : MpLedger) (log : Log) → MpLedgerStands ledger log → MpLedgerStands (record ledger { boots = ledger.boots + 1 }) (MpRec.Boot ∷ log)
unfolding promised accepts choices
boots-once ledger log s = record {
  sound = (tt, s.sound);
  boots = ap (λ n. n + 1) s.boots ∙ sym (boots-boot log);
  promised = s.promised;
  accepted = s.accepted;
  chosen = s.chosen;
  executed = stays ledger.executions (MpRec.Boot ∷ log) log refl s.executed;
}

-- a ballot was promised
pub promises : (ledger : MpLedger) (b : Ballot) (log : Log) → MpLedgerStands ledger log → FitsBallot b → MpLedgerStands (record ledger { promised = b }) (MpRec.Promise b ∷ log)
unfolding boots is_boot promised accepts choices
promises ledger b log s fits = record {
  sound = (fits, s.sound);
  boots = s.boots;
  promised = refl;
  accepted = s.accepted;
  chosen = s.chosen;
  executed = stays ledger.executions (MpRec.Promise b ∷ log) log refl s.executed;
}
