-- The model of a disk: what a read returns, what a crash may leave, and what the disk specifies of its calls.
use Rattle.std.specs.Prelude.{◌≡◌, ◌⊎◌, ◌↔◌, ℕ, ◌≤◌, List, Bool, IsTrue, Option, Some}
use Rattle.crsm_port_faults.specs.Plan.{Plan}
use Rattle.crsm_port_image.specs.Calls.{History, contents}

pub record Meaning : Type 1 where
  -- the bytes that a read returns
  pub seen : List ℕ
  pub honest : Bool
  -- the bytes that a crash now may leave
  pub may_leave : List ℕ → Type 0
  -- the fault counter, which never falls
  pub moment : ℕ
  -- the bytes that a crash at some moment since the given one may have left, during a call or between two
  pub left_since : ℕ → List ℕ → Type 0
  -- its writes, cuts and syncs, where the disk specifies them
  pub history : Option History
  -- the reserve and the number of further calls that succeed, where the disk specifies them
  pub plan : Option Plan
  -- the byte in the unsynced ranges of a stopped disk's image
  pub fill : Option ℕ
  pub faults : ℕ
  -- the offset of the byte that was renewed last, if one was
  pub renewed : Option ℕ
  -- the ghost name of the reference by which the disk is borrowed
  pub borrowed_as : Option ℕ
  -- the bytes that a read returns are one of the images
  pub as_read : IsTrue honest → may_leave seen
  -- the calls specified make the bytes that a read returns
  pub as_told : (h : History) → history ≡ Some h → contents h.first h.calls ≡ seen
  -- this moment is one of those since an earlier one
  pub counts_now : (t : ℕ) (c : List ℕ) → t ≤ moment → may_leave c → left_since t c
  -- no other moment has passed since this one
  pub only_now : (c : List ℕ) → left_since moment c → may_leave c

-- a crash leaves these bytes and no others
abbrev pub Only : List ℕ → (List ℕ → Type 0) → Type 0
Only bytes outcomes = (c : List ℕ) → outcomes c → c ≡ bytes

-- Time passes: a crash since t may have left what it may have left before, or what it may leave now.
pub record Elapses (old new : Meaning) : Type 0 where
  pub later : old.moment ≤ new.moment
  pub nothing_else : (t : ℕ) (c : List ℕ) → t ≤ old.moment → new.left_since t c → old.left_since t c ⊎ new.may_leave c
  pub keeps : (t : ℕ) (c : List ℕ) → t ≤ old.moment → old.left_since t c → new.left_since t c

-- A crash at any moment from old to new leaves bytes with property P.
pub record LeavesOnly (old new : Meaning) (P : List ℕ → Type 0) : Type 0 where
  pub later : old.moment ≤ new.moment
  pub each : (c : List ℕ) → new.left_since old.moment c → P c
  -- the same of a run that began earlier
  pub before : (t : ℕ) (c : List ℕ) → t ≤ old.moment → new.left_since t c → old.left_since t c ⊎ P c

-- content, possible crashes, moments and recorded calls are unchanged
pub record Same (old new : Meaning) : Type 0 where
  pub seen : new.seen ≡ old.seen
  pub images : (c : List ℕ) → new.may_leave c ↔ old.may_leave c
  pub moment : new.moment ≡ old.moment
  pub left : (t : ℕ) (c : List ℕ) → new.left_since t c ↔ old.left_since t c
  pub history : new.history ≡ old.history
  pub honest : new.honest ≡ old.honest
  pub borrowed_as : new.borrowed_as ≡ old.borrowed_as
