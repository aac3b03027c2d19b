-- The clients to whom a step replies: each answer is for an entry for which a client waits, which then waits no longer.
use Rattle.std.proofs.Common.{◌≡◌, ℕ, ◌+◌, ◌<◌, ◌≤◌, List, [], ◌∷◌, ◌++◌, length, refl, ap, subst, inl, inr, Bool, true, false, arith}
use Rattle.std.specs.Prelude.{◌⊎◌, ◌==◌, ◌&&◌, Some, slice_get}
use Rattle.std.proofs.lemmas.Bool.{and_parts, eqb-true, eq-eqb}
use Rattle.crsm_base.specs.Order.{stamp_eq}
use Rattle.crsm_spec.specs.Types.{Stamp, Entry, Command, Answer, Line}
use Rattle.crsm_spec.specs.Lists.{Among}
use Rattle.crsm_spec.specs.Log.{Log, known, start, executed}
use Rattle.crsm_spec.specs.Replica.{Waiting}
use Rattle.crsm_spec.specs.Draft.{Reply}
use Rattle.crsm_spec.specs.Safe.{AnswersAt}
use Rattle.crsm_fact_log.specs.Logs.{Extends}
use Rattle.crsm_fact_log.proofs.Logged.{extends_trans}
use Rattle.crsm_fact_log.proofs.Tests.{same_stamp}
use Rattle.crsm_fact_log.proofs.Sorted.{eq_self}
use Rattle.crsm_law_cluster.proofs.Executed.{executed_prefix, answers_prefix}

-- ---- a reply on an entry

-- a later epoch has begun in the log, with all that it begins with, and has not executed the entry
pub record IsDropped (log : Log) (e : Entry) : Type 0 where
  pub begun : start log ≤ length (executed log)
  pub later : e.epoch < known log
  pub none : (p : ℕ) (f : Entry) → slice_get (executed log) p ≡ Some f → f.epoch ≡ e.epoch → f.stamp ≡ e.stamp → ⊥

-- the line replies on the entry for which a client waits: it is executed at the place here, or it was dropped
pub data IsLineOn (log : Log) (f : Waiting) : Line → Type 0 where
  Answers : (k c m place : ℕ) (a : Answer) (g : Entry) → AnswersAt (executed log) place g a → g.epoch ≡ f.entry.epoch → g.stamp ≡ f.entry.stamp → IsLineOn log f (Line.ReplyOk k c m place a)
  Drops : (k c m : ℕ) (old : Log) → Extends old log → IsDropped old f.entry → IsLineOn log f (Line.ReplyDropped k c m f.entry.epoch f.entry.stamp)

pub record IsOn (log : Log) (f : Waiting) (a : Reply) : Type 0 where
  pub address : a.address ≡ f.address
  pub client : f.entry.command.client ≡ a.client
  pub number : f.entry.command.number ≡ a.number
  pub line : IsLineOn log f a.line

pub on_later : {a b : Log} → Extends a b → (f : Waiting) (y : Reply) → IsOn a f y → IsOn b f y
on_later {a} {b} x f y h = record { address = h.address; client = h.client; number = h.number; line = go y.line h.line }
  where
    go : (l : Line) → IsLineOn a f l → IsLineOn b f l
    go _ (Answers k c m place v g at ep st) = Answers k c m place v g (answers_prefix (executed a) (executed b) (executed_prefix a b x) place g v at) ep st
    go _ (Drops k c m old y d) = Drops k c m old (extends_trans y x) d

-- a request was refused
pub record IsRefusal (Req : ℕ → Command → Type 0) (a : Reply) : Type 0 where
  pub command : Command
  pub asked : Req a.address command
  pub client : command.client ≡ a.client
  pub number : command.number ≡ a.number
  pub by : ℕ
  pub why : ℕ
  pub line : a.line ≡ Line.ReplyNo by a.client a.number why

-- Of these replies each refuses a request, or is on the next of these clients' entries.
pub data Told (Req : ℕ → Command → Type 0) (log : Log) : List Reply → List Waiting → Type 0 where
  nothing : Told Req log [] []
  refuses : {us : List Reply} {fs : List Waiting} (a : Reply) → IsRefusal Req a → Told Req log us fs → Told Req log (a ∷ us) fs
  answers : {us : List Reply} {fs : List Waiting} (a : Reply) (f : Waiting) → IsOn log f a → Told Req log us fs → Told Req log (a ∷ us) (f ∷ fs)

pub told_then : {Req : ℕ → Command → Type 0} {log : Log} {us vs : List Reply} {fs gs : List Waiting} → Told Req log us fs → Told Req log vs gs → Told Req log (us ++ vs) (fs ++ gs)
told_then nothing q = q
told_then (refuses a r p) q = refuses a r (told_then p q)
told_then (answers a f o p) q = answers a f o (told_then p q)

-- the same requests, otherwise said
pub told_by : {R S : ℕ → Command → Type 0} {log : Log} {us : List Reply} {fs : List Waiting} → ((a : ℕ) (c : Command) → R a c → S a c) → Told R log us fs → Told S log us fs
told_by g nothing = nothing
told_by g (refuses a r p) = refuses a (record { command = r.command; asked = g a.address r.command r.asked; client = r.client; number = r.number; by = r.by; why = r.why; line = r.line }) (told_by g p)
told_by g (answers a f o p) = answers a f o (told_by g p)

pub told_later : {Req : ℕ → Command → Type 0} {a b : Log} {us : List Reply} {fs : List Waiting} → Extends a b → Told Req a us fs → Told Req b us fs
told_later x nothing = nothing
told_later x (refuses a r p) = refuses a r (told_later x p)
told_later x (answers a f o p) = answers a f (on_later x f a o) (told_later x p)

-- ---- how many are on one entry

module _ (epoch : ℕ) (stamp : Stamp) where
  has_key : Waiting → Bool
  has_key f = (f.entry.epoch == epoch) && stamp_eq f.entry.stamp stamp

  bit : Bool → ℕ
  bit true = 1
  bit false = 0

  pub count : List Waiting → ℕ
  count [] = 0
  count (f ∷ fs) = bit (has_key f) + count fs

  pub count_none : count [] ≡ 0
  unfolding count
  count_none = refl

  pub count_then : (fs gs : List Waiting) → count (fs ++ gs) ≡ count fs + count gs
  unfolding count
  count_then [] gs = omega arith
  count_then (f ∷ fs) gs = let t = count_then fs gs in omega (arith, t)

  pub count_one : (f : Waiting) (fs : List Waiting) → count (f ∷ fs) ≡ count (f ∷ []) + count fs
  unfolding count
  count_one f fs = omega arith

  -- one, where the client waits for this entry, and else none
  pub count_is : (f : Waiting) → ((count (f ∷ []) ≡ 1) × (f.entry.epoch ≡ epoch) × (f.entry.stamp ≡ stamp)) ⊎ (count (f ∷ []) ≡ 0)
  unfolding count has_key bit
  count_is f = go (has_key f) refl
    where
      go : (b : Bool) → has_key f ≡ b → ((bit (has_key f) + 0 ≡ 1) × (f.entry.epoch ≡ epoch) × (f.entry.stamp ≡ stamp)) ⊎ (bit (has_key f) + 0 ≡ 0)
      go true e = let t = and_parts (f.entry.epoch == epoch) (stamp_eq f.entry.stamp stamp) e in inl (ap (λ b. bit b + 0) e, eqb-true f.entry.epoch epoch t.0, same_stamp f.entry.stamp stamp t.1)
      go false e = inr (ap (λ b. bit b + 0) e)

  pub count_same : (f : Waiting) → f.entry.epoch ≡ epoch → f.entry.stamp ≡ stamp → count (f ∷ []) ≡ 1
  unfolding count has_key bit
  count_same f ep st = ap (λ b. bit b + 0) (both (eq-eqb f.entry.epoch epoch ep) (subst (λ s. stamp_eq f.entry.stamp s ≡ true) st (eq_self f.entry.stamp)))
    where
      both : {a b : Bool} → a ≡ true → b ≡ true → (a && b) ≡ true
      both {a = true} p q = q
      both {a = false} p q = p

-- one of the replies
pub told_one : {R : ℕ → Command → Type 0} {log : Log} {us : List Reply} {fs : List Waiting} → Told R log us fs → (a : Reply) → Among us a → IsRefusal R a ⊎ ((f : Waiting) × Among fs f × IsOn log f a)
told_one nothing a m = absurd m
told_one (refuses b r p) a (inl e) = inl (subst (IsRefusal _) e r)
told_one (refuses b r p) a (inr m) = told_one p a m
told_one (answers b f o p) a (inl e) = inr (f, inl refl, subst (IsOn _ f) e o)
told_one (answers b f o p) a (inr m) = elim (told_one p a m) [ inl r ↦ inl r | inr t ↦ inr (t.0, inr t.1, t.2) ]
