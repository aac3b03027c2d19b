-- The invariant of the transcript on the way to a world, and of the drafts of a step in it.
use Rattle.std.proofs.Common.{◌≡◌, ℕ, ◌<◌, ◌≤◌, List, [], ◌∷◌, ◌++◌, length, map, sym, subst, arith}
use Rattle.std.specs.Prelude.{◌⊎◌, Some, slice_get}
use Rattle.crsm_spec.specs.Types.{Stamp, Entry, Line}
use Rattle.crsm_spec.specs.Lists.{Among}
use Rattle.crsm_spec.specs.Log.{Log, executed}
use Rattle.crsm_spec.specs.Replica.{Replica, Waiting}
use Rattle.crsm_spec.specs.Draft.{Draft, Reply}
use Rattle.crsm_spec.specs.Step.{Input, step}
use Rattle.crsm_spec.specs.World.{Site, World, log_at}
use Rattle.crsm_spec.specs.Acts.{Act}
use Rattle.crsm_spec.specs.Run.{TraceLine}
use Rattle.crsm_spec.specs.Safe.{IsExecOf, IsSubmitOf}
use Rattle.crsm_law_steps.specs.Laws.{LogsGoOn}
use Rattle.crsm_law_steps.specs.Happenings.{Marks, CanCome, Brings, IsReached}
use Rattle.crsm_fact_log.specs.Logs.{Logged}
use Rattle.crsm_law_runs.proofs.Each.{Each}
use Rattle.crsm_law_runs.proofs.Effects.{ArePlain}
use Rattle.crsm_law_runs.proofs.Words.{IsLast, IsRight, IsReplyOn, IsReplyLine, IsSubmitLine, IsLate, IsNew, IsSubmittedIn, seen_by}

-- an entry of this epoch and stamp is logged at its origin
pub record HasStamp (w : World) (x : ℕ) (s : Stamp) : Type 0 where
  pub entry : Entry
  pub logged : Logged (log_at w entry.stamp.origin) entry
  pub epoch : entry.epoch ≡ x
  pub stamp : entry.stamp ≡ s

-- what is answered at a place is executed by then
abbrev pub IsWithin : (ℕ → Log) → Line → Type 0
IsWithin logs (Line.ReplyOk k c m place a) = place < length (executed (logs k))
IsWithin logs _ = Unit {0}

-- ---- clients that wait

-- no two wait for one entry
abbrev pub AreApart : List Waiting → Type 0
AreApart [] = Unit {0}
AreApart (f ∷ fs) = ((g : Waiting) → Among fs g → f.entry.epoch ≡ g.entry.epoch → f.entry.stamp ≡ g.entry.stamp → ⊥) × AreApart fs

-- These clients wait at replica k, each for an own entry that none of these lines replies on.
pub record Wait (list : List Entry) (lines : List TraceLine) (k : ℕ) (log : Log) (waiting : List Waiting) : Type 0 where
  pub logged : (f : Waiting) → Among waiting f → Logged log f.entry × (f.entry.stamp.origin ≡ k)
  pub new : (f : Waiting) → Among waiting f → (t : TraceLine) → Among lines t → IsReplyOn list f.entry.epoch f.entry.stamp t.line → ⊥
  pub apart : AreApart waiting

-- ---- worlds

pub record Holds (end : World) (list : List Entry) (w : World) (lines : List TraceLine) : Type 0 where
  pub right : (t : TraceLine) → Among lines t → IsRight end list t.line
  pub within : (t : TraceLine) → Among lines t → IsWithin (log_at w) t.line
  pub submitted : (k : ℕ) (e : Entry) → Logged (log_at w k) e → e.stamp.origin ≡ k → IsSubmittedIn lines e
  pub executes : (t : TraceLine) → Among lines t → (x : ℕ) (s : Stamp) → IsExecOf x s t.line → HasStamp w x s
  pub submits : (t : TraceLine) → Among lines t → (x : ℕ) (s : Stamp) → IsSubmitOf x s t.line → HasStamp w x s
  pub replies : (t : TraceLine) → Among lines t → (x : ℕ) (s : Stamp) → IsReplyOn list x s t.line → HasStamp w x s
  pub late : Each (IsLate list) [] lines
  pub once : Each IsNew [] lines
  pub wait : (k : ℕ) (r : Replica) → slice_get w.sites k ≡ Some (Site.Up r) → Wait list lines k r.log r.waiting

-- ---- a step

-- From w to u replica k makes a step, whose records are kept, in a moment that the act leads to.
pub record Stepping (n : ℕ) (end : World) (list : List Entry) (w u : World) (lines : List TraceLine) (k : ℕ) (r : Replica) (input : Input) (reading : ℕ) (act : Act) : Type 0 where
  pub last : IsLast n end list
  pub reached : IsReached n w
  pub marked : World
  pub marks : Marks w marked
  pub up : slice_get marked.sites k ≡ Some (Site.Up r)
  pub can : CanCome w k input
  pub led : Brings act can
  pub here : log_at w k ≡ r.log
  pub me : r.me ≡ k
  pub after : IsReached n u
  pub grows : LogsGoOn w u
  pub on : LogsGoOn u end
  pub kept : log_at u k ≡ (step r input reading).replica.log
  pub others : (j : ℕ) → (j ≡ k → ⊥) → log_at u j ≡ log_at w j
  pub holds : Holds end list w lines

-- the entry is logged at its origin, here or elsewhere
abbrev pub Has : World → ℕ → Log → Entry → Type 0
Has w k log f = ((f.stamp.origin ≡ k) × Logged log f) ⊎ Logged (log_at w f.stamp.origin) f

pub record HasIn (w : World) (k : ℕ) (log : Log) (x : ℕ) (s : Stamp) : Type 0 where
  pub entry : Entry
  pub epoch : entry.epoch ≡ x
  pub stamp : entry.stamp ≡ s
  pub has : Has w k log entry

-- a reply is from here, and an answer's place is executed here
abbrev pub IsHere : ℕ → Log → Line → Type 0
IsHere k log (Line.ReplyOk j c m place a) = (j ≡ k) × (place < length (executed log))
IsHere k log (Line.ReplyDropped j c m x s) = j ≡ k
IsHere k log _ = Unit {0}

-- the lines of replies
abbrev pub reply_lines : Act → List Reply → List TraceLine
reply_lines act replies = seen_by act (map (λ (a : Reply). a.line) replies)

-- A draft, while these clients are still to be looked at.
pub record Good (end : World) (list : List Entry) (w : World) (lines : List TraceLine) (k : ℕ) (act : Act) (rest : List Waiting) (x : Draft) : Type 0 where
  pub me : x.replica.me ≡ k
  pub right : (l : Line) → Among x.lines l → IsRight end list l
  pub submitted : (e : Entry) → Logged x.replica.log e → e.stamp.origin ≡ k → IsSubmittedIn (lines ++ seen_by act x.lines) e
  pub logged : (e : Entry) → Logged x.replica.log e → Has w k x.replica.log e
  pub known : (p : ℕ) (e : Entry) → slice_get (executed x.replica.log) p ≡ Some e → Has w k x.replica.log e
  pub executes : (l : Line) → Among x.lines l → (y : ℕ) (s : Stamp) → IsExecOf y s l → HasIn w k x.replica.log y s
  pub submits : (l : Line) → Among x.lines l → (y : ℕ) (s : Stamp) → IsSubmitOf y s l → HasIn w k x.replica.log y s
  pub late : Each (IsLate list) lines (seen_by act x.lines)
  pub quiet : (l : Line) → Among x.lines l → IsReplyLine l → ⊥
  pub excess : ArePlain x.excess
  pub answers : (a : Reply) → Among x.replies a → IsRight end list a.line × IsHere k x.replica.log a.line × (IsSubmitLine a.line → ⊥) × ((y : ℕ) (s : Stamp) → IsExecOf y s a.line → ⊥)
  pub replies : (a : Reply) → Among x.replies a → (y : ℕ) (s : Stamp) → IsReplyOn list y s a.line → HasIn w k x.replica.log y s
  pub once : Each IsNew lines (reply_lines act x.replies)
  pub wait : Wait list (lines ++ reply_lines act x.replies) k x.replica.log (x.replica.waiting ++ rest)

-- ---- places that are executed stay so

pub here_longer : (k : ℕ) (a b : Log) → length (executed a) ≤ length (executed b) → (l : Line) → IsHere k a l → IsHere k b l
here_longer k a b le (Line.Boot x0 x1) h = tt
here_longer k a b le (Line.Submit x0 x1 x2 x3 x4) h = tt
here_longer k a b le (Line.Log x0 x1 x2) h = tt
here_longer k a b le (Line.Exec x0 x1 x2 x3 x4 x5 x6) h = tt
here_longer k a b le (Line.Suspend x0 x1) h = tt
here_longer k a b le (Line.Promise x0 x1 x2 x3) h = tt
here_longer k a b le (Line.Accept x0 x1 x2 x3) h = tt
here_longer k a b le (Line.Decide x0 x1 x2 x3 x4) h = tt
here_longer k a b le (Line.Enter x0 x1) h = tt
here_longer k a b le (Line.TooMany x0 x1 x2 x3) h = tt
here_longer k a b le (Line.Send x0 x1 x2 x3 x4) h = tt
here_longer k a b le (Line.ReplyOk x0 x1 x2 x3 x4) h = (h.0, (let lt = h.1 in omega (arith, lt, le)))
here_longer k a b le (Line.ReplyNo x0 x1 x2 x3) h = tt
here_longer k a b le (Line.ReplyDropped x0 x1 x2 x3 x4) h = h
here_longer k a b le (Line.Down x0) h = tt
here_longer k a b le (Line.Final x0 x1 x2 x3) h = tt
here_longer k a b le (Line.Out x0 x1) h = tt
here_longer k a b le (Line.Back x0 x1) h = tt

pub within_longer : (v w : ℕ → Log) → ((k : ℕ) → length (executed (v k)) ≤ length (executed (w k))) → (l : Line) → IsWithin v l → IsWithin w l
within_longer v w le (Line.Boot x0 x1) h = tt
within_longer v w le (Line.Submit x0 x1 x2 x3 x4) h = tt
within_longer v w le (Line.Log x0 x1 x2) h = tt
within_longer v w le (Line.Exec x0 x1 x2 x3 x4 x5 x6) h = tt
within_longer v w le (Line.Suspend x0 x1) h = tt
within_longer v w le (Line.Promise x0 x1 x2 x3) h = tt
within_longer v w le (Line.Accept x0 x1 x2 x3) h = tt
within_longer v w le (Line.Decide x0 x1 x2 x3 x4) h = tt
within_longer v w le (Line.Enter x0 x1) h = tt
within_longer v w le (Line.TooMany x0 x1 x2 x3) h = tt
within_longer v w le (Line.Send x0 x1 x2 x3 x4) h = tt
within_longer v w le (Line.ReplyOk x0 x1 x2 x3 x4) h = let t = le x0 in omega (arith, h, t)
within_longer v w le (Line.ReplyNo x0 x1 x2 x3) h = tt
within_longer v w le (Line.ReplyDropped x0 x1 x2 x3 x4) h = tt
within_longer v w le (Line.Down x0) h = tt
within_longer v w le (Line.Final x0 x1 x2 x3) h = tt
within_longer v w le (Line.Out x0 x1) h = tt
within_longer v w le (Line.Back x0 x1) h = tt

pub here_within : (k : ℕ) (logs : ℕ → Log) (l : Line) → IsHere k (logs k) l → IsWithin logs l
here_within k logs (Line.Boot x0 x1) h = tt
here_within k logs (Line.Submit x0 x1 x2 x3 x4) h = tt
here_within k logs (Line.Log x0 x1 x2) h = tt
here_within k logs (Line.Exec x0 x1 x2 x3 x4 x5 x6) h = tt
here_within k logs (Line.Suspend x0 x1) h = tt
here_within k logs (Line.Promise x0 x1 x2 x3) h = tt
here_within k logs (Line.Accept x0 x1 x2 x3) h = tt
here_within k logs (Line.Decide x0 x1 x2 x3 x4) h = tt
here_within k logs (Line.Enter x0 x1) h = tt
here_within k logs (Line.TooMany x0 x1 x2 x3) h = tt
here_within k logs (Line.Send x0 x1 x2 x3 x4) h = tt
here_within k logs (Line.ReplyOk x0 x1 x2 x3 x4) h = subst (λ i. x3 < length (executed (logs i))) (sym h.0) h.1
here_within k logs (Line.ReplyNo x0 x1 x2 x3) h = tt
here_within k logs (Line.ReplyDropped x0 x1 x2 x3 x4) h = tt
here_within k logs (Line.Down x0) h = tt
here_within k logs (Line.Final x0 x1 x2 x3) h = tt
here_within k logs (Line.Out x0 x1) h = tt
here_within k logs (Line.Back x0 x1) h = tt

pub other_within : (logs : ℕ → Log) (l : Line) → (IsReplyLine l → ⊥) → IsWithin logs l
other_within logs (Line.Boot x0 x1) h = tt
other_within logs (Line.Submit x0 x1 x2 x3 x4) h = tt
other_within logs (Line.Log x0 x1 x2) h = tt
other_within logs (Line.Exec x0 x1 x2 x3 x4 x5 x6) h = tt
other_within logs (Line.Suspend x0 x1) h = tt
other_within logs (Line.Promise x0 x1 x2 x3) h = tt
other_within logs (Line.Accept x0 x1 x2 x3) h = tt
other_within logs (Line.Decide x0 x1 x2 x3 x4) h = tt
other_within logs (Line.Enter x0 x1) h = tt
other_within logs (Line.TooMany x0 x1 x2 x3) h = tt
other_within logs (Line.Send x0 x1 x2 x3 x4) h = tt
other_within logs (Line.ReplyOk x0 x1 x2 x3 x4) h = absurd (h tt)
other_within logs (Line.ReplyNo x0 x1 x2 x3) h = tt
other_within logs (Line.ReplyDropped x0 x1 x2 x3 x4) h = tt
other_within logs (Line.Down x0) h = tt
other_within logs (Line.Final x0 x1 x2 x3) h = tt
other_within logs (Line.Out x0 x1) h = tt
other_within logs (Line.Back x0 x1) h = tt
