-- The simulated replicas in memory.
use Rattle.std.specs.Prelude.{◌≡◌, ◌<◌, ℕ, ◌+◌, suc, Bool, true, false, List, [], ◌∷◌, length, Option, None, Some, if◌then◌else◌, slice_get, slice_set}
use Rattle.std.specs.Option.{option_map_or}
use Rattle.crsm_mpspec.specs.Log.{Log, boots}
use Rattle.crsm_mpspec.specs.Replica.{Replica}
use Rattle.crsm_mpspec.specs.Draft.{Draft}
use Rattle.crsm_mpspec.specs.Step.{boot}
use Rattle.crsm_mpspec.specs.World.{Site as SiteOnPaper, is_up, body_size}
use Rattle.crsm_mpreplica.specs.Made.{Answers, outcome_of}
use Rattle.crsm_mpworld.specs.Disks.{IsOn}
use Rattle.crsm_mpworld.specs.declared.place.Machine.{Machine}
use Rattle.crsm_mpworld.specs.declared.place.Site.{Site}
use Rattle.crsm_mpworld.specs.declared.site.MpStep.{MpStep}
use Rattle.crsm_mpworld.specs.declared.sites.Sites.{Sites}
use Rattle.crsm_mpworld.specs.declared.place.BootSize.{BootSize}

-- ---- one replica

-- the machine is that of replica r, whose log is on its disk
pub record IsAs (machine : Machine) (r : Replica) : Type 0 where
  pub unspent : machine.is_spent ≡ false
  pub on : IsOn machine.core machine.log r

-- for each replica whose machine it is
abbrev pub WhereAs : Machine → (Replica → Type 0) → Type 0
WhereAs machine P = (r : Replica) → IsAs machine r → P r

-- the log of a replica that is down; what else its machine holds is lost at its boot
abbrev pub IsDownWith : Machine → Log → Type 0
IsDownWith machine log = (r : Replica) × IsAs machine r × (r.log ≡ log)

-- the machine of a replica that is up or not
abbrev pub IsIn : Bool → Machine → SiteOnPaper → Type 0
IsIn up machine (SiteOnPaper.Up r) = (up ≡ true) × IsAs machine r
IsIn up machine (SiteOnPaper.Down log) = (up ≡ false) × IsDownWith machine log

-- the site of replica me of n is this one of the definitions
pub record SiteStands (site : Site) (me n : ℕ) (s : SiteOnPaper) : Type 0 where
  pub me_is : site.me ≡ me
  pub n_is : site.n ≡ n
  pub place : IsIn site.is_up site.machine s

-- for each site of the definitions that the site stands for
abbrev pub WhereSiteStands : Site → ((me n : ℕ) → SiteOnPaper → Type 0) → Type 0
WhereSiteStands site P = (me n : ℕ) (s : SiteOnPaper) → SiteStands site me n s → P me n s

-- for each replica that is up there
abbrev pub WhereSiteIsUp : Site → ((me n : ℕ) → Replica → Type 0) → Type 0
WhereSiteIsUp site P = (me n : ℕ) (r : Replica) → SiteStands site me n (SiteOnPaper.Up r) → P me n r

-- for each log that it is down with
abbrev pub WhereSiteIsDown : Site → ((me n : ℕ) → Log → Type 0) → Type 0
WhereSiteIsDown site P = (me n : ℕ) (log : Log) → SiteStands site me n (SiteOnPaper.Down log) → P me n log

-- ---- what a step and a boot make

-- the step is what the draft has made, and takes as many bytes
pub record Makes (step : MpStep) (x : Draft) : Type 0 where
  pub batch : Answers step.batch (outcome_of x)
  pub size : step.size ≡ body_size x.batch

-- the boot of replica me on this log
pub record Boots (made : BootSize) (me n : ℕ) (log : Log) : Type 0 where
  pub count : made.count ≡ boots log + 1
  pub size : made.size ≡ body_size (boot me n log).batch

-- ---- the places of all

-- each site is this one of the definitions, by number from k on
abbrev pub SitesStand : ℕ → ℕ → List Site → List SiteOnPaper → Type 0
SitesStand n k [] [] = Unit {0}
SitesStand n k (site ∷ sites) (s ∷ ss) = SiteStands site k n s × SitesStand n (suc k) sites ss
SitesStand n k [] (s ∷ ss) = ⊥
SitesStand n k (site ∷ sites) [] = ⊥

-- they stand for these places
abbrev pub StandFor : Sites → ℕ → List SiteOnPaper → Type 0
StandFor sites n places = SitesStand n 0 sites.items.items places

-- there is a replica k
abbrev pub IsOne : Sites → ℕ → Type 0
IsOne sites k = k < length sites.items.items

-- replica k is up
unfoldable pub is_up_in : List SiteOnPaper → ℕ → Bool
is_up_in places k = option_map_or is_up (slice_get places k) false

-- its number, where it is up
unfoldable pub up_in : List SiteOnPaper → ℕ → Option ℕ
up_in places k = if is_up_in places k then Some k else None

-- for the places that they stand for
abbrev pub WhereSitesStand : Sites → (ℕ → List SiteOnPaper → Type 0) → Type 0
WhereSitesStand sites P = (n : ℕ) (places : List SiteOnPaper) → StandFor sites n places → P n places

-- for these and the one of replica k
abbrev pub WherePlace : Sites → ℕ → (ℕ → List SiteOnPaper → SiteOnPaper → Type 0) → Type 0
WherePlace sites k P =
    (n : ℕ) (places : List SiteOnPaper) (p : SiteOnPaper) → StandFor sites n places → slice_get places k ≡ Some p → P n places p

-- for these, where replica k is up
abbrev pub WhereUp : Sites → ℕ → (ℕ → List SiteOnPaper → Replica → Type 0) → Type 0
WhereUp sites k P =
    (n : ℕ) (places : List SiteOnPaper) (r : Replica) → StandFor sites n places → slice_get places k ≡ Some (SiteOnPaper.Up r) → P n places r

-- for these, where replica k is down
abbrev pub WhereDown : Sites → ℕ → (ℕ → List SiteOnPaper → Log → Type 0) → Type 0
WhereDown sites k P =
    (n : ℕ) (places : List SiteOnPaper) (log : Log) → StandFor sites n places → slice_get places k ≡ Some (SiteOnPaper.Down log) → P n places log

-- the step is the output of the draft, and replica k continues as it leaves it
abbrev pub StepsTo : MpStep → Draft → Sites → ℕ → List SiteOnPaper → ℕ → Type 0
StepsTo step x sites n places k = Makes step x × StandFor sites n (slice_set places k (SiteOnPaper.Up x.replica))

-- replica k has booted on this log
abbrev pub BootsTo : BootSize → Log → Sites → ℕ → List SiteOnPaper → ℕ → Type 0
BootsTo made log sites n places k =
    Boots made k n log × StandFor sites n (slice_set places k (SiteOnPaper.Up (boot k n log).replica))
