-- The facts of the log of a replica whose sheet was replayed.
use Rattle.std.proofs.Common.{◌≡◌, ℕ, List, [], ◌∷◌, subst}
use Rattle.std.specs.Global.{Box}
use Rattle.crsm_core.specs.declared.replica.Core.{Core}
use Rattle.crsm_core.specs.Core.{CoreStands}
use Rattle.crsm_replica.specs.Sound.{EachFits}
use Rattle.crsm_ledger.specs.Ledger.{LedgerStands}
use Rattle.crsm_ledger.specs.declared.ledger.Ledger.{Ledger}
use Rattle.crsm_fact_log.specs.Logs.{AllFit, AreSpelt}
use Rattle.crsm_replica.specs.Replica.{ReplicaStands}
use Rattle.crsm_spec.specs.Draft.{Draft, begun}
use Rattle.crsm_spec.specs.Log.{Log}
use Rattle.crsm_spec.specs.Replica.{Replica}
use Rattle.crsm_text_sheet.specs.declared.line.SheetLine.{SheetLine}
use Rattle.crsm_replica_rerun.specs.declared.rerun.Rerun.{Rerun}
use Rattle.crsm_replica_rerun.specs.declared.stage.SheetStage.{SheetStage}
use Rattle.crsm_replica_rerun.specs.declared.stage.SheetStage.TheVariants as stages
use Rattle.crsm_replica_rerun.specs.Replaying.{IsOfSome, RerunStands, SaysLog}
use Rattle.crsm_replica_rerun.specs.Sheets.{replica_of}
use Rattle.crsm_replica_rerun.specs.Stages.{IsOfOne, StageStands}

-- each record of a core's log fits
core_fits : (core : Core) (r : Replica) → CoreStands core r → EachFits r.me r.n r.log
unfolding ReplicaStands begun
core_fits core r s = s.stands.sound.kept

-- and has an encoding
core_spelt : (core : Core) (r : Replica) → CoreStands core r → AreSpelt r.log
unfolding ReplicaStands begun
core_spelt core r s = s.stands.sound.spelt

all_fit : (me n : ℕ) (log : Log) → EachFits me n log → AllFit me n log
all_fit me n [] h = tt
all_fit me n (rec ∷ log) h = (h.0, all_fit me n log h.1)

pub says : (me n first : ℕ) (old : Rerun) (lines : List SheetLine) (steps : List Draft) → RerunStands me n first old lines steps → (core : Box Core) → old.stage ≡ stages.Running core
    → (ledger : Ledger) → ((r : Replica) → CoreStands core.value r → LedgerStands r.me r.n ledger r.log) → SaysLog me n lines steps ledger
says me n first old lines steps s core is ledger stands =
    let runs = subst (λ (x : SheetStage). StageStands me n x lines steps) is s.stage in
    let r : Replica = replica_of runs.sheet in
    record { sheet = runs.sheet; are = runs.are; says = stands r runs.stands; fit = all_fit r.me r.n r.log (core_fits core.value r runs.stands); spelt = core_spelt core.value r runs.stands }

-- a core that stands for some replica has the ledger of some log
pub of_some : (core : Core) (ledger : Ledger) → ((r : Replica) → CoreStands core r → LedgerStands r.me r.n ledger r.log) → IsOfOne core → IsOfSome ledger
of_some core ledger stands o = record { me = o.replica.me; n = o.replica.n; log = o.replica.log; says = stands o.replica o.stands }
