-- The processes that runs of a node were.
use Rattle.std.specs.Prelude.{◌≡◌, ◌≢◌, ◌⊎◌, ℕ, List, [], ◌∷◌, ◌++◌, true, Result, Err}
use Rattle.crsm_spec.specs.Log.{Log}
use Rattle.crsm_spec_process.specs.Lives.{Life}
use Rattle.crsm_law_processes.specs.Files.{with_lost_kept}
use Rattle.crsm_node.specs.Running.{Devices, NotBegun, NotBooted, RunsLife, over_cluster}
use Rattle.crsm_node.specs.Serving.{turns_by_group}
use Rattle.crsm_node.specs.declared.errors.NodeEnd.{NodeEnd}
use Rattle.crsm_node.specs.declared.errors.NodeError.{NodeError}
use Rattle.crsm_node.specs.declared.errors.NodeError.TheVariants as errors
use Rattle.crsm_node.specs.declared.order.NodeOrder.{NodeOrder}
use Rattle.crsm_law_restarts.specs.Runs.{Run}

-- the process that did nothing but to record its boot
unfoldable pub boot_alone : ℕ → Log → Life
boot_alone me log = record { me = me; found = log; groups = []; lost = []; ended = true }

-- A run that was not booted is no process, unless the record of its boot is on the disk.
abbrev pub WasNone : ℕ → List Life → Type 0
WasNone me ls = (ls ≡ []) ⊎ ((log : Log) × (ls ≡ boot_alone me log ∷ []))

-- A run that was booted is the process that its contract names, or that which kept the last group, too: where the disk
-- failed at that group, it may be there.
abbrev pub WasLife : Life → Result (Unit {0}) NodeError → List Life → Type 0
WasLife life result ls = (ls ≡ life ∷ []) ⊎ ((result ≡ Err errors.DiskFault) × (ls ≡ with_lost_kept life ∷ []))

-- the process that a run over these devices was, if it was one
abbrev pub WasProcess : NodeOrder → Devices → Devices → NodeEnd → List Life → Type 0
WasProcess order old new end ls = (NotBooted order old new end × WasNone order.me ls) ⊎ ((run : RunsLife order old new end) × WasLife run.life run.result ls)

-- the same over the port of its cluster, or memory ran out before it began
abbrev pub WasNumbered : NodeOrder → Devices → Devices → NodeEnd → List Life → Type 0
WasNumbered order old new end ls =
    WasProcess order (over_cluster order.cluster old.port.framing old) (over_cluster order.cluster old.port.framing new) end ls ⊎ (NotBegun old new end × (ls ≡ []))

abbrev pub Was : {S : Type 0} → (S → Devices) → Run S → List Life → Type 0
Was at x ls =
    (x.order.cluster ≡ 0 → WasProcess x.order (at x.before) (at x.after) x.end ls) × (x.order.cluster ≢ 0 → WasNumbered x.order (at x.before) (at x.after) x.end ls)

-- the processes that these runs were, in order
abbrev pub Were : {S : Type 0} → (S → Devices) → List (Run S) → List Life → Type 0
Were at [] ls = ls ≡ []
Were at (x ∷ xs) ls = (first : List Life) × (rest : List Life) × (ls ≡ first ++ rest) × Was at x first × Were at xs rest

-- the same process, but for the fates of what its groups handed out
pub record IsAlike (l m : Life) : Type 0 where
  pub me : m.me ≡ l.me
  pub found : m.found ≡ l.found
  pub turns : turns_by_group m.groups ≡ turns_by_group l.groups
  pub lost : m.lost ≡ l.lost
  pub ended : m.ended ≡ l.ended

abbrev pub AreAlike : List Life → List Life → Type 0
AreAlike [] [] = Unit {0}
AreAlike [] (m ∷ ms) = ⊥
AreAlike (l ∷ ls) [] = ⊥
AreAlike (l ∷ ls) (m ∷ ms) = IsAlike l m × AreAlike ls ms
