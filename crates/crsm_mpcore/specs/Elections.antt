-- The promises and reports of a majority.
use Rattle.std.specs.Prelude.{◌≡◌, ℕ, ◌-◌, List, map, fold, Option, None, Some, Result, IfOk}
use Rattle.std.specs.List.{AllByRecursion, range_with_len}
use Rattle.crsm_base.specs.declared.memory.NoMemory.{NoMemory}
use Rattle.crsm_base.specs.Order.{ballot_lt}
use Rattle.crsm_base.specs.Spelling.{FitsBallot}
use Rattle.crsm_spec.specs.Choice.{when◌then◌otherwise◌}
use Rattle.crsm_mpspec.specs.declared.rec.MpRec.{MpRec}
use Rattle.crsm_mpspec.specs.declared.message.MpMessage.{MpMessage}
use Rattle.crsm_mpspec.specs.Types.{Ballot}
use Rattle.crsm_mpspec.specs.Log.{promised, accepted_from, chosen_from}
use Rattle.crsm_mpspec.specs.Replica.{Report}
use Rattle.crsm_mpspec.specs.Draft.{Draft, keep, send}
use Rattle.crsm_mpspec.specs.Electing.{lead, lead_at_majority, choose_reported, chosen_among, propose_reported, next_slot}
use Rattle.crsm_mpreplica.specs.declared.note.Asking.{Asking}
use Rattle.crsm_mpreplica.specs.Fitting.{FitsReport}
use Rattle.crsm_mpreplica.specs.Notes.{report_of}
use Rattle.crsm_mpreplica.specs.declared.state.MpReplica.{MpReplica}
use Rattle.crsm_mpreplica.specs.State.{MpReplicaStands, WhereStands}
use Rattle.crsm_mpcore.specs.declared.electing.Election.{Election}
use Rattle.crsm_mpcore.specs.declared.findings.Findings.{Findings}
use Rattle.crsm_mpcore.specs.Findings.{AreFindings}

-- the ballot and the findings of these reports
pub record Elects (e : Election) (reports : List Report) : Type 0 where
  pub ballot_fits : FitsBallot e.ballot
  pub findings : AreFindings e.findings e.start reports

-- where a majority elects, this election leads; else nothing happens
abbrev pub IsElection : Option Election → Draft → Type 0
IsElection None x = lead_at_majority x ≡ x
IsElection (Some e) x = (reports : List Report) × Elects e reports × (lead_at_majority x ≡ lead e.ballot e.start reports x)

-- Whatever the old state stood for, and whichever reports elected, the new one stands for the effect of this on both;
-- or memory ran out.
abbrev pub MakesBy : Election → (List Report → Draft → Draft) → MpReplica → Result (Unit {0}) NoMemory → MpReplica → Type 0
MakesBy e change old result new =
    IfOk result (λ _. WhereStands old (λ x. (reports : List Report) → Elects e reports → MpReplicaStands new (change reports x)))

-- records the values reported as chosen
abbrev pub choose_all : List Report → Draft → Draft
choose_all reports x = fold choose_reported x (chosen_among reports)

-- proposes what the reports leave at each slot from one on, up to the last that is reported
abbrev pub propose_all : Ballot → ℕ → List Report → Draft → Draft
propose_all b start reports x = fold (propose_reported b reports) x (range_with_len start (next_slot start reports - start))

-- ---- reports

-- These are the findings of all reports of an asking, where they fit.
abbrev pub AreTheirs : Findings → Asking → Type 0
AreTheirs findings asking =
    AllByRecursion FitsReport (map report_of asking.reports.entries) → AreFindings findings asking.start (map report_of asking.reports.entries)

-- sends replica k its report from a slot on
unfoldable pub send_report : ℕ → Ballot → ℕ → Draft → Draft
send_report k b start x = send (MpMessage.Prom b (accepted_from start x.replica.log) (chosen_from start x.replica.log)) x k

-- promises a ballot that is above the promise
unfoldable pub with_promise : Ballot → Draft → Draft
with_promise b x = when ballot_lt (promised x.replica.log) b then keep (MpRec.Promise b) x otherwise x
