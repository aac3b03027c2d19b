-- The fact of the log in each field.
use Rattle.std.proofs.Common.{◌≡◌, ℕ, ap}
use Rattle.std.specs.Prelude.{unwrap_or}
use Rattle.std.proofs.Math.Logic.{∥∥₁_map}
use Rattle.crsm_spec.specs.Lists.{numbers_below}
use Rattle.crsm_spec.specs.Log.{Log, known, start, spec, boots, live, suspended, has_entered, promised, accepted, executed, logged}
use Rattle.crsm_ledger.specs.declared.ledger.Ledger.{Ledger}
use Rattle.crsm_fact_log.proofs.Known.{known-spec}
use Rattle.crsm_ledger.specs.Held.{HasEntries, Holds}
use Rattle.crsm_ledger.specs.Ledger.{FieldsStand, HasLogged, HoldsLogged, LedgerStands, epoch_of, facts_of, known_decision}
use Rattle.crsm_ledger.proofs.ExecutedLemmas.{stands-spells}

pub me-is : {me n : ℕ} {l : Ledger} {log : Log} → FieldsStand me n l log → l.me ≡ me
unfolding facts_of
me-is s = ap (λ f. f.me) s.facts

pub n-is : {me n : ℕ} {l : Ledger} {log : Log} → FieldsStand me n l log → l.n ≡ n
unfolding facts_of
n-is s = ap (λ f. f.n) s.facts

pub founders-are : {me n : ℕ} {l : Ledger} {log : Log} → FieldsStand me n l log → l.founders ≡ numbers_below n
unfolding facts_of
founders-are s = ap (λ f. f.founders) s.facts

pub boots-is : {me n : ℕ} {l : Ledger} {log : Log} → FieldsStand me n l log → l.boots ≡ boots log
unfolding facts_of
boots-is s = ap (λ f. f.boots) s.facts

pub known-is : {me n : ℕ} {l : Ledger} {log : Log} → FieldsStand me n l log → l.known ≡ known_decision n log
unfolding facts_of
known-is s = ap (λ f. f.known) s.facts

pub start-is : {me n : ℕ} {l : Ledger} {log : Log} → FieldsStand me n l log → l.start ≡ start log
unfolding facts_of
start-is s = ap (λ f. f.start) s.facts

pub live-is : {me n : ℕ} {l : Ledger} {log : Log} → FieldsStand me n l log → l.is_live ≡ live log
unfolding facts_of
live-is s = ap (λ f. f.live) s.facts

pub suspended-is : {me n : ℕ} {l : Ledger} {log : Log} → FieldsStand me n l log → l.is_suspended ≡ suspended log
unfolding facts_of
suspended-is s = ap (λ f. f.suspended) s.facts

pub entered-is : {me n : ℕ} {l : Ledger} {log : Log} → FieldsStand me n l log → l.has_entered ≡ has_entered (known log) log
unfolding facts_of
entered-is s = ap (λ f. f.entered) s.facts

pub promised-is : {me n : ℕ} {l : Ledger} {log : Log} → FieldsStand me n l log → l.promised ≡ promised log
unfolding facts_of
promised-is s = ap (λ f. f.promised) s.facts

pub accepted-is : {me n : ℕ} {l : Ledger} {log : Log} → FieldsStand me n l log → l.accepted ≡ accepted log
unfolding facts_of
accepted-is s = ap (λ f. f.accepted) s.facts

-- ---- what the decision of the known epoch says

pub spec-is : {me n : ℕ} {l : Ledger} {log : Log} → FieldsStand me n l log → unwrap_or l.known.spec (numbers_below n) ≡ spec n log
spec-is {n = n} {log = log} s = rw (known-is s) (known-spec n log)

-- ---- what it holds

pub holds : {me n : ℕ} {l : Ledger} {log : Log} → FieldsStand me n l log → Holds l.held.history l.held.logged (known log) (executed log) (logged log)
holds s = record { executed = s.executed; kept = s.kept }

-- the logged entries of a log that the ledger stands for are those that it holds
pub stands-logged : {me n : ℕ} {l : Ledger} {log : Log} → LedgerStands me n l log → HoldsLogged l (logged log)
stands-logged {log = log} s = record { done = executed log; executed = stands-spells s.says.executed; kept = s.says.kept }

-- some logged entries are held
pub has-logged : (l : Ledger) → ∥ HasEntries l.held.history.spelt l.held.history.epoch l.held.logged ∥₁ → ∥ HasLogged l ∥₁
unfolding epoch_of
has-logged l held = ∥∥₁_map held (λ h. record {
  entries = h.logged;
  holds = record { done = h.done; executed = h.executed; kept = h.kept };
  fit = h.fit;
  of_epoch = h.of_epoch;
  rise = h.rise;
})
