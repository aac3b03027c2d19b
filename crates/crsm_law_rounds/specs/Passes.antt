-- The effect of two calm rounds, pass by pass.
use Rattle.std.specs.Prelude.{◌≡◌, ◌≢◌, ℕ, ◌≤◌, false, List, ◌++◌, length, map, Contains}
use Rattle.crsm_spec.specs.Types.{Entry, Rec, InEpoch}
use Rattle.crsm_spec.specs.Replica.{Replica, frames_to, next_from, unacked}
use Rattle.crsm_spec.specs.World.{World, begin, log_at, is_full}
use Rattle.crsm_spec.specs.Acts.{Single, Act}
use Rattle.crsm_spec.specs.Run.{ArePossible, after_acts, last_world}
use Rattle.crsm_spec.specs.Calm.{IsUpAs, IsCalm, IsCalmReading, calm_round}

-- After a possible run of n replicas the state is calm, and two rounds at these readings are calm and possible and
-- leave the world not full.
pub record AreCalmRounds (n : ℕ) (acts : List Act) (e : ℕ) (members : List ℕ) (t u : ℕ) : Type 0 where
  pub some : 1 ≤ n
  pub most : n ≤ 15
  pub run : ArePossible (begin n) acts
  pub calm : IsCalm e members (last_world n acts)
  pub first : IsCalmReading members (last_world n acts) t
  pub second : IsCalmReading members (after_acts (last_world n acts) (calm_round members t)) u
  pub possible : ArePossible (last_world n acts) (calm_round members t ++ calm_round members u)
  pub room : is_full (after_acts (last_world n acts) (calm_round members t ++ calm_round members u)) ≡ false

-- the ticks of a round, before its settle
unfoldable pub ticks_of : List ℕ → ℕ → List Act
ticks_of members reading = map (λ k. Act.One (Single.Tick k reading)) members

-- each frame that a member had pushed to another in the first world is received in the second
abbrev pub AllTaken : List ℕ → World → World → Type 0
AllTaken members v w =
    (k j : ℕ) (r q : Replica) → Contains members k → Contains members j → k ≢ j → IsUpAs v k r → IsUpAs w j q → length (frames_to r j) ≤ next_from q k

-- In each of the two rounds all frames of a link that were pushed before the settle are received in it.
abbrev pub FramesAreTaken : Type 0
FramesAreTaken =
    (n : ℕ) (acts : List Act) (e : ℕ) (members : List ℕ) (t u : ℕ) → AreCalmRounds n acts e members t u →
    AllTaken members (after_acts (last_world n acts) (ticks_of members t)) (after_acts (last_world n acts) (calm_round members t))
    × AllTaken members (after_acts (last_world n acts) (calm_round members t ++ ticks_of members u))
    (after_acts (last_world n acts) (calm_round members t ++ calm_round members u))

-- When the second round begins a link has at most 49 unacknowledged frames: 16 from before the first round, 16 for
-- acknowledgements that were pending then, 16 for entries logged in it, and one clock time.
abbrev pub LinksStayShort : Type 0
LinksStayShort =
    (n : ℕ) (acts : List Act) (e : ℕ) (members : List ℕ) (t u : ℕ) → AreCalmRounds n acts e members t u →
    (k j : ℕ) (r : Replica) → Contains members k → Contains members j → k ≢ j →
    IsUpAs (after_acts (last_world n acts) (calm_round members t)) k r → length (unacked r j) ≤ 49

-- the PREPAREOK of the entry was pushed to each other member
abbrev pub IsAcknowledged : List ℕ → ℕ → Replica → Entry → Type 0
IsAcknowledged members k r f =
    (j : ℕ) → Contains members j → k ≢ j → (time : ℕ) × Contains (frames_to r j) (InEpoch.PrepareOk f.stamp time)

-- After the first round each member has logged each entry of the epoch that its origin had logged before; and after the
-- members' ticks in the second round, each but the origin has pushed its PREPAREOK to each other member.
abbrev pub EntriesAreSpread : Type 0
EntriesAreSpread =
    (n : ℕ) (acts : List Act) (e : ℕ) (members : List ℕ) (t u : ℕ) → AreCalmRounds n acts e members t u → (f : Entry) → f.epoch ≡ e →
    Contains (log_at (last_world n acts) f.stamp.origin) (Rec.Prepare f) → (k : ℕ) → Contains members k →
    Contains (log_at (after_acts (last_world n acts) (calm_round members t)) k) (Rec.Prepare f)
    × ((r : Replica) → f.stamp.origin ≢ k → IsUpAs (after_acts (last_world n acts) (calm_round members t ++ ticks_of members u)) k r →
    IsAcknowledged members k r f)
