-- The relation of lines to the one list of a run.
use Rattle.std.proofs.Common.{◌≡◌, ℕ, ◌<◌, ◌≤◌, List, [], ◌∷◌, ◌++◌, length, take, refl, sym, ◌∙◌, ap, subst, inl, inr, append_assoc, map}
use Rattle.std.specs.Prelude.{Some, slice_get}
use Rattle.std.proofs.lemmas.List.{take_at}
use Rattle.crsm_base.specs.Store.{answer_after}
use Rattle.crsm_spec.specs.Types.{Stamp, Entry, Line, Answer}
use Rattle.crsm_spec.specs.Lists.{Among, IsPrefixOf}
use Rattle.crsm_spec.specs.Log.{Log, executed}
use Rattle.crsm_spec.specs.Lines.{exec_line, exec_lines}
use Rattle.crsm_spec.specs.World.{World, log_at}
use Rattle.crsm_spec.specs.Acts.{Act}
use Rattle.crsm_spec.specs.Run.{TraceLine, traced}
use Rattle.crsm_spec.specs.Safe.{Submits, IsExecOf, IsSubmitOf, AnswersAt, AreOnOneEntry}
use Rattle.crsm_fact_log.specs.Logs.{Extends, Logged}
use Rattle.crsm_law_steps.specs.Happenings.{IsReached}
use Rattle.crsm_law_bounds.specs.Bounds.{HasShortLogs}

-- ---- the one list

-- the last world of a run, and its one list
pub record IsLast (n : ℕ) (end : World) (list : List Entry) : Type 0 where
  pub most : n ≤ 15
  pub reached : IsReached n end
  pub short : HasShortLogs end
  -- each executed list, now or earlier, is a prefix of it
  pub prefix : (k : ℕ) (log : Log) → Extends log (log_at end k) → IsPrefixOf (executed log) list
  -- and it is such a list itself
  pub held : (p : ℕ) (e : Entry) → slice_get list p ≡ Some e → (k : ℕ) × (log : Log) × Extends log (log_at end k) × (slice_get (executed log) p ≡ Some e)

-- ---- what is right of a line alone

abbrev pub IsRight : World → List Entry → Line → Type 0
IsRight end list (Line.Exec k place x s c m a) =
    (e : Entry) × AnswersAt list place e a × (e.epoch ≡ x) × (e.stamp ≡ s) × (e.command.client ≡ c) × (e.command.number ≡ m)
IsRight end list (Line.ReplyOk k c m place a) =
    (e : Entry) × AnswersAt list place e a × (e.stamp.origin ≡ k) × (e.command.client ≡ c) × (e.command.number ≡ m)
IsRight end list (Line.ReplyDropped k c m x s) =
    (f : Entry) × Logged (log_at end k) f × (f.stamp.origin ≡ k) × (f.epoch ≡ x) × (f.stamp ≡ s) × (f.command.client ≡ c) × (f.command.number ≡ m)
    × ((p : ℕ) (e : Entry) → slice_get list p ≡ Some e → e.epoch ≡ x → e.stamp ≡ s → ⊥)
IsRight end list _ = Unit {0}

-- the line replies to a client of this epoch and stamp
abbrev pub IsReplyOn : List Entry → ℕ → Stamp → Line → Type 0
IsReplyOn list x s (Line.ReplyOk k c m place a) = (e : Entry) × (slice_get list place ≡ Some e) × (e.epoch ≡ x) × (e.stamp ≡ s)
IsReplyOn list x s (Line.ReplyDropped k c m y t) = (y ≡ x) × (t ≡ s)
IsReplyOn list x s _ = ⊥

abbrev pub IsReplyLine : Line → Type 0
IsReplyLine (Line.ReplyOk k c m place a) = Unit {0}
IsReplyLine (Line.ReplyDropped k c m x s) = Unit {0}
IsReplyLine _ = ⊥

abbrev pub IsSubmitLine : Line → Type 0
IsSubmitLine (Line.Submit k x t c m) = Unit {0}
IsSubmitLine _ = ⊥

-- ---- what is right of a line behind others

-- An entry submitted now, with this epoch and stamp, was not submitted or replied to before, and is after all that was
-- answered.
pub record IsFirst (list : List Entry) (before : List TraceLine) (x : ℕ) (s : Stamp) : Type 0 where
  pub submitted : (u : TraceLine) → Among before u → IsSubmitOf x s u.line → ⊥
  pub replied : (u : TraceLine) → Among before u → IsReplyOn list x s u.line → ⊥
  pub behind : (u : TraceLine) → Among before u → (j d i place : ℕ) (a : Answer) → u.line ≡ Line.ReplyOk j d i place a →
      (q : ℕ) (e : Entry) → slice_get list q ≡ Some e → e.epoch ≡ x → e.stamp ≡ s → place < q

abbrev pub IsLateLine : List Entry → List TraceLine → Line → Type 0
IsLateLine list before (Line.Submit k x time c m) = IsFirst list before x (record { time = time; origin = k })
IsLateLine list before _ = Unit {0}

abbrev pub IsLate : List Entry → List TraceLine → TraceLine → Type 0
IsLate list before t = IsLateLine list before t.line

-- no entry is replied to again
abbrev pub IsNew : List TraceLine → TraceLine → Type 0
IsNew before t = (u : TraceLine) → Among before u → AreOnOneEntry u.line t.line → ⊥

-- the entry was submitted in some line, and no execution of it told before that
pub record IsSubmittedIn (lines : List TraceLine) (e : Entry) : Type 0 where
  pub before : List TraceLine
  pub told : TraceLine
  pub after : List TraceLine
  pub is : before ++ told ∷ after ≡ lines
  pub submits : Submits told e
  pub first : (u : TraceLine) → Among before u → IsExecOf e.epoch e.stamp u.line → ⊥

pub submitted_more : (lines more : List TraceLine) (e : Entry) → IsSubmittedIn lines e → IsSubmittedIn (lines ++ more) e
submitted_more lines more e s = record {
  before = s.before;
  told = s.told;
  after = s.after ++ more;
  is = sym (append_assoc s.before (s.told ∷ s.after) more) ∙ ap (λ l. l ++ more) s.is;
  submits = s.submits;
  first = s.first;
}

-- lines of an act
abbrev pub seen_by : Act → List Line → List TraceLine
seen_by a lines = map (traced (Some a)) lines

-- ---- executed entries

-- the lines of entries that stand in the list behind these
pub exec_right : (end : World) (list : List Entry) (me : ℕ) (done es rest : List Entry) → (done ++ es) ++ rest ≡ list → (l : Line) → Among (exec_lines me done es) l →
    IsRight end list l × (e : Entry) × Among es e × IsExecOf e.epoch e.stamp l
unfolding exec_lines exec_line
exec_right end list me done [] rest is l a = absurd a
exec_right end list me done (e ∷ es) rest is l (inl q) =
    let whole : done ++ (e ∷ es ++ rest) ≡ list = sym (append_assoc done (e ∷ es) rest) ∙ is in
    let place : slice_get list (length done) ≡ Some e = subst (λ z. slice_get z (length done) ≡ Some e) whole (got_at done e (es ++ rest)) in
    let prefix : take (length done) list ≡ done = subst (λ z. take (length done) z ≡ done) whole (take_at done (e ∷ es ++ rest) (length done) refl) in
    let right : IsRight end list (Line.Exec me (length done) e.epoch e.stamp e.command.client e.command.number (answer_after done e)) =
    (e, (place, ap (λ z. answer_after z e) (sym prefix)), refl, refl, refl, refl) in
    (subst (IsRight end list) q right, e, inl refl, subst (IsExecOf e.epoch e.stamp) q (refl, refl))
  where
    got_at : (xs : List Entry) (e : Entry) (ys : List Entry) → slice_get (xs ++ e ∷ ys) (length xs) ≡ Some e
    got_at [] e ys = refl
    got_at (x ∷ xs) e ys = got_at xs e ys
exec_right end list me done (e ∷ es) rest is l (inr a) =
    let t = exec_right end list me (done ++ e ∷ []) es rest (ap (λ z. z ++ rest) (append_assoc done (e ∷ []) es) ∙ is) l a in
    (t.0, t.1, inr t.2, t.3)

-- and none of another kind is among them
pub exec_only : (me : ℕ) (done es : List Entry) (l : Line) → Among (exec_lines me done es) l → (IsSubmitLine l → ⊥) × (IsReplyLine l → ⊥)
unfolding exec_lines exec_line
exec_only me done [] l a = absurd a
exec_only me done (e ∷ es) l (inl q) = (λ h. subst IsSubmitLine (sym q) h, λ h. subst IsReplyLine (sym q) h)
exec_only me done (e ∷ es) l (inr a) = exec_only me (done ++ e ∷ []) es l a
