-- The liveness bound: from a calm state two calm rounds execute and answer all that was submitted.
use Rattle.std.specs.Prelude.{◌≡◌, ℕ, ◌+◌, ◌≤◌, ◌-◌, false, true, ◌++◌, List, [], ◌∷◌, length, map, Contains, Some, slice_get}
use Rattle.std.specs.List.{AllByRecursion}
use Rattle.crsm_spec.specs.Types.{Entry, Answer, Rec, Datagram, Line}
use Rattle.crsm_spec.specs.Clock.{u64_max}
use Rattle.crsm_spec.specs.Log.{known, executed, active}
use Rattle.crsm_spec.specs.Replica.{Replica, Waiting, members_of, unacked}
use Rattle.crsm_spec.specs.World.{Site, Packet, World, begin, log_at, is_full}
use Rattle.crsm_spec.specs.Acts.{Single, Act}
use Rattle.crsm_spec.specs.Run.{ArePossible, after_acts, last_world, told}
use Rattle.crsm_spec.specs.Safe.{AnswersAt}

-- ---- calm states

-- replica k is up as r
abbrev pub IsUpAs : World → ℕ → Replica → Type 0
IsUpAs w k r = slice_get w.sites k ≡ Some (Site.Up r)

-- an active replica of epoch e with these members, at most 16 unacknowledged frames on a link, and at most 16 pending
-- acknowledgements
pub record IsCalmMember (e : ℕ) (members : List ℕ) (r : Replica) : Type 0 where
  pub known : known r.log ≡ e
  pub active : active r.log ≡ true
  pub counts : members_of r ≡ members
  pub links : (j : ℕ) → Contains members j → length (unacked r j) ≤ 16
  pub owed : length r.owed ≤ 16

-- replica k is up as a calm member
pub record IsCalmAt (e : ℕ) (members : List ℕ) (w : World) (k : ℕ) : Type 0 where
  pub replica : Replica
  pub up : IsUpAs w k replica
  pub calm : IsCalmMember e members replica

-- a decision of a later epoch
abbrev pub IsLaterDecide : ℕ → Rec → Type 0
IsLaterDecide e (Rec.Decide d) = e + 1 ≤ d.epoch
IsLaterDecide e _ = ⊥

-- a part of a control message
abbrev pub IsPart : Datagram → Type 0
IsPart (Datagram.Part from to boot number index count bytes) = Unit {0}
IsPart _ = ⊥

-- some member has logged it, and not every member has executed it
pub record IsOpen (e : ℕ) (members : List ℕ) (w : World) (f : Entry) : Type 0 where
  pub epoch : f.epoch ≡ e
  pub by : ℕ
  pub member : Contains members by
  pub logged : Contains (log_at w by) (Rec.Prepare f)
  pub unfinished : AllByRecursion (λ k. Contains (executed (log_at w k)) f) members → ⊥

-- Every member of epoch e is up and active, no replica knows a later epoch, no control message is in flight, at most 16
-- entries are open, and each member has at most 16 unacknowledged frames on a link and at most 16 pending
-- acknowledgements.
pub record IsCalm (e : ℕ) (members : List ℕ) (w : World) : Type 0 where
  pub up : AllByRecursion (IsCalmAt e members w) members
  pub latest : (k : ℕ) (rec : Rec) → Contains (log_at w k) rec → IsLaterDecide e rec → ⊥
  pub quiet : (m : Packet) → Contains w.packets m → m.used ≡ false → IsPart m.datagram → ⊥
  pub entries : List Entry
  pub all_open : (f : Entry) → IsOpen e members w f → Contains entries f
  pub few_open : length entries ≤ 16

-- ---- calm rounds

-- one tick at each member in ascending order, then one settle, all at one reading
unfoldable pub calm_round : List ℕ → ℕ → List Act
calm_round members reading = map (λ k. Act.One (Single.Tick k reading)) members ++ Act.Settle reading ∷ []

-- the reading is at least 10 above every time that a member has issued in the epoch, and far from 2^64
pub record IsCalmReading (members : List ℕ) (w : World) (reading : ℕ) : Type 0 where
  pub above : (k t : ℕ) (r : Replica) → Contains members k → IsUpAs w k r → Contains r.issued t → t + 10 ≤ reading
  pub below : reading ≤ u64_max - 100000

-- ---- the results of calm rounds

-- After these acts replica k has executed the entry of a waiting client and has sent it the entry's place and the
-- store's answer there.
pub record IsAnsweredAt (k : ℕ) (w : World) (acts : List Act) (c : Waiting) : Type 0 where
  pub place : ℕ
  pub answer : Answer
  pub answers : AnswersAt (executed (log_at (after_acts w acts) k)) place c.entry answer
  pub line : Contains (map (λ t. t.line) (told w acts)) (Line.ReplyOk k c.entry.command.client c.entry.command.number place answer)

-- After these acts from w: each entry of epoch e that its origin had logged is executed at every member, and each
-- client that waited at a member is answered.
pub record AllIsDone (e : ℕ) (members : List ℕ) (w : World) (acts : List Act) : Type 0 where
  pub executed : (f : Entry) → f.epoch ≡ e → Contains (log_at w f.stamp.origin) (Rec.Prepare f) →
      AllByRecursion (λ k. Contains (executed (log_at (after_acts w acts) k)) f) members
  pub answered : (k : ℕ) (r : Replica) (c : Waiting) → Contains members k → IsUpAs w k r → Contains r.waiting c →
      IsAnsweredAt k w acts c

-- From a calm world w two calm rounds complete all that was submitted, if they are possible and leave the world not
-- full. Only worlds of runs are meant: in another one, frames may be acknowledged that no replica received.
abbrev pub IsBounded : World → Type 0
IsBounded w =
    (e : ℕ) (members : List ℕ) (t u : ℕ) → IsCalm e members w → IsCalmReading members w t →
    IsCalmReading members (after_acts w (calm_round members t)) u →
    ArePossible w (calm_round members t ++ calm_round members u) →
    is_full (after_acts w (calm_round members t ++ calm_round members u)) ≡ false →
    AllIsDone e members w (calm_round members t ++ calm_round members u)

-- The bound, of the world after every possible run of 1 to 15 replicas.
abbrev pub RoundsAreBounded : Type 0
RoundsAreBounded = (n : ℕ) → 1 ≤ n → n ≤ 15 → (acts : List Act) → ArePossible (begin n) acts → IsBounded (last_world n acts)
