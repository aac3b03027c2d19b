-- The kinds of lines, and the kinds that each is not.
use Rattle.std.proofs.Common.{ℕ, List, sym, ◌∙◌, ap, subst}
use Rattle.std.specs.Prelude.{slice_get}
use Rattle.crsm_spec.specs.Types.{Stamp, Entry, Line, Answer}
use Rattle.crsm_spec.specs.World.{World}
use Rattle.crsm_spec.specs.Run.{TraceLine}
use Rattle.crsm_spec.specs.Safe.{IsExecOf, IsSubmitOf, AreOnOneEntry}
use Rattle.crsm_law_runs.proofs.Effects.{IsPlain}
use Rattle.crsm_law_runs.proofs.Words.{IsRight, IsReplyOn, IsReplyLine, IsSubmitLine, IsFirst, IsLateLine}

-- ---- lines of other kinds

pub plain_right : (end : World) (list : List Entry) (l : Line) → IsPlain l → IsRight end list l
plain_right end list (Line.Boot a b) h = tt
plain_right end list (Line.Submit a b c d e) h = absurd h
plain_right end list (Line.Log a b c) h = tt
plain_right end list (Line.Exec a b c d e f g) h = absurd h
plain_right end list (Line.Suspend a b) h = tt
plain_right end list (Line.Promise a b c d) h = tt
plain_right end list (Line.Accept a b c d) h = tt
plain_right end list (Line.Decide a b c d e) h = tt
plain_right end list (Line.Enter a b) h = tt
plain_right end list (Line.TooMany a b c d) h = tt
plain_right end list (Line.Send a b c d e) h = tt
plain_right end list (Line.ReplyOk a b c d e) h = absurd h
plain_right end list (Line.ReplyNo a b c d) h = tt
plain_right end list (Line.ReplyDropped a b c d e) h = absurd h
plain_right end list (Line.Down a) h = tt
plain_right end list (Line.Final a b c d) h = tt
plain_right end list (Line.Out a b) h = tt
plain_right end list (Line.Back a b) h = tt

-- a line is plain, or one of four kinds
pub data Kind : Line → Type 0 where
  Plain : {l : Line} → IsPlain l → (IsSubmitLine l → ⊥) → (IsReplyLine l → ⊥) → ((x : ℕ) (s : Stamp) → IsExecOf x s l → ⊥) → Kind l
  Exec : (k place x : ℕ) (s : Stamp) (c m : ℕ) (a : Answer) → Kind (Line.Exec k place x s c m a)
  Submit : (k x t c m : ℕ) → Kind (Line.Submit k x t c m)
  Ok : (k c m place : ℕ) (a : Answer) → Kind (Line.ReplyOk k c m place a)
  Dropped : (k c m x : ℕ) (s : Stamp) → Kind (Line.ReplyDropped k c m x s)

pub kind_of_line : (l : Line) → Kind l
kind_of_line (Line.Boot a b) = Plain tt (λ h. h) (λ h. h) (λ x s h. h)
kind_of_line (Line.Submit a b c d e) = Submit a b c d e
kind_of_line (Line.Log a b c) = Plain tt (λ h. h) (λ h. h) (λ x s h. h)
kind_of_line (Line.Exec a b c d e f g) = Exec a b c d e f g
kind_of_line (Line.Suspend a b) = Plain tt (λ h. h) (λ h. h) (λ x s h. h)
kind_of_line (Line.Promise a b c d) = Plain tt (λ h. h) (λ h. h) (λ x s h. h)
kind_of_line (Line.Accept a b c d) = Plain tt (λ h. h) (λ h. h) (λ x s h. h)
kind_of_line (Line.Decide a b c d e) = Plain tt (λ h. h) (λ h. h) (λ x s h. h)
kind_of_line (Line.Enter a b) = Plain tt (λ h. h) (λ h. h) (λ x s h. h)
kind_of_line (Line.TooMany a b c d) = Plain tt (λ h. h) (λ h. h) (λ x s h. h)
kind_of_line (Line.Send a b c d e) = Plain tt (λ h. h) (λ h. h) (λ x s h. h)
kind_of_line (Line.ReplyOk a b c d e) = Ok a b c d e
kind_of_line (Line.ReplyNo a b c d) = Plain tt (λ h. h) (λ h. h) (λ x s h. h)
kind_of_line (Line.ReplyDropped a b c d e) = Dropped a b c d e
kind_of_line (Line.Down a) = Plain tt (λ h. h) (λ h. h) (λ x s h. h)
kind_of_line (Line.Final a b c d) = Plain tt (λ h. h) (λ h. h) (λ x s h. h)
kind_of_line (Line.Out a b) = Plain tt (λ h. h) (λ h. h) (λ x s h. h)
kind_of_line (Line.Back a b) = Plain tt (λ h. h) (λ h. h) (λ x s h. h)

pub late_other : (list : List Entry) (before : List TraceLine) (l : Line) → (IsSubmitLine l → ⊥) → IsLateLine list before l
late_other list before (Line.Boot a b) h = tt
late_other list before (Line.Submit a b c d e) h = absurd (h tt)
late_other list before (Line.Log a b c) h = tt
late_other list before (Line.Exec a b c d e f g) h = tt
late_other list before (Line.Suspend a b) h = tt
late_other list before (Line.Promise a b c d) h = tt
late_other list before (Line.Accept a b c d) h = tt
late_other list before (Line.Decide a b c d e) h = tt
late_other list before (Line.Enter a b) h = tt
late_other list before (Line.TooMany a b c d) h = tt
late_other list before (Line.Send a b c d e) h = tt
late_other list before (Line.ReplyOk a b c d e) h = tt
late_other list before (Line.ReplyNo a b c d) h = tt
late_other list before (Line.ReplyDropped a b c d e) h = tt
late_other list before (Line.Down a) h = tt
late_other list before (Line.Final a b c d) h = tt
late_other list before (Line.Out a b) h = tt
late_other list before (Line.Back a b) h = tt

-- a line that replies on an entry is a reply
pub on_is_reply : (list : List Entry) (x : ℕ) (t : Stamp) (l : Line) → IsReplyOn list x t l → IsReplyLine l
on_is_reply list x t (Line.Boot a0 a1) h = absurd h
on_is_reply list x t (Line.Submit a0 a1 a2 a3 a4) h = absurd h
on_is_reply list x t (Line.Log a0 a1 a2) h = absurd h
on_is_reply list x t (Line.Exec a0 a1 a2 a3 a4 a5 a6) h = absurd h
on_is_reply list x t (Line.Suspend a0 a1) h = absurd h
on_is_reply list x t (Line.Promise a0 a1 a2 a3) h = absurd h
on_is_reply list x t (Line.Accept a0 a1 a2 a3) h = absurd h
on_is_reply list x t (Line.Decide a0 a1 a2 a3 a4) h = absurd h
on_is_reply list x t (Line.Enter a0 a1) h = absurd h
on_is_reply list x t (Line.TooMany a0 a1 a2 a3) h = absurd h
on_is_reply list x t (Line.Send a0 a1 a2 a3 a4) h = absurd h
on_is_reply list x t (Line.ReplyOk a0 a1 a2 a3 a4) h = tt
on_is_reply list x t (Line.ReplyNo a0 a1 a2 a3) h = absurd h
on_is_reply list x t (Line.ReplyDropped a0 a1 a2 a3 a4) h = tt
on_is_reply list x t (Line.Down a0) h = absurd h
on_is_reply list x t (Line.Final a0 a1 a2 a3) h = absurd h
on_is_reply list x t (Line.Out a0 a1) h = absurd h
on_is_reply list x t (Line.Back a0 a1) h = absurd h

-- a line that submits an entry is a submission
pub of_submit : (x : ℕ) (t : Stamp) (l : Line) → IsSubmitOf x t l → IsSubmitLine l
of_submit x t (Line.Boot a0 a1) h = absurd h
of_submit x t (Line.Submit a0 a1 a2 a3 a4) h = tt
of_submit x t (Line.Log a0 a1 a2) h = absurd h
of_submit x t (Line.Exec a0 a1 a2 a3 a4 a5 a6) h = absurd h
of_submit x t (Line.Suspend a0 a1) h = absurd h
of_submit x t (Line.Promise a0 a1 a2 a3) h = absurd h
of_submit x t (Line.Accept a0 a1 a2 a3) h = absurd h
of_submit x t (Line.Decide a0 a1 a2 a3 a4) h = absurd h
of_submit x t (Line.Enter a0 a1) h = absurd h
of_submit x t (Line.TooMany a0 a1 a2 a3) h = absurd h
of_submit x t (Line.Send a0 a1 a2 a3 a4) h = absurd h
of_submit x t (Line.ReplyOk a0 a1 a2 a3 a4) h = absurd h
of_submit x t (Line.ReplyNo a0 a1 a2 a3) h = absurd h
of_submit x t (Line.ReplyDropped a0 a1 a2 a3 a4) h = absurd h
of_submit x t (Line.Down a0) h = absurd h
of_submit x t (Line.Final a0 a1 a2 a3) h = absurd h
of_submit x t (Line.Out a0 a1) h = absurd h
of_submit x t (Line.Back a0 a1) h = absurd h

-- what a submission says of the lines before it
pub first_of_line : (list : List Entry) (before : List TraceLine) (x : ℕ) (s : Stamp) (l : Line) → IsLateLine list before l → IsSubmitOf x s l → IsFirst list before x s
first_of_line list before x s l n h = go l (kind_of_line l) n h
  where
    go : (l : Line) → Kind l → IsLateLine list before l → IsSubmitOf x s l → IsFirst list before x s
    go l (Plain p a b c) n h = absurd (a (of_submit x s l h))
    go _ (Exec k place y t c m v) n h = absurd h
    go _ (Submit k y t c m) n h = subst (λ z. IsFirst list before z s) h.0 (subst (IsFirst list before y) h.1 n)
    go _ (Ok k c m place a) n h = absurd h
    go _ (Dropped k c m y t) n h = absurd h

pub one_replies : (l m : Line) → AreOnOneEntry l m → IsReplyLine l × IsReplyLine m
one_replies (Line.Boot a0 a1) m h = absurd h
one_replies (Line.Submit a0 a1 a2 a3 a4) m h = absurd h
one_replies (Line.Log a0 a1 a2) m h = absurd h
one_replies (Line.Exec a0 a1 a2 a3 a4 a5 a6) m h = absurd h
one_replies (Line.Suspend a0 a1) m h = absurd h
one_replies (Line.Promise a0 a1 a2 a3) m h = absurd h
one_replies (Line.Accept a0 a1 a2 a3) m h = absurd h
one_replies (Line.Decide a0 a1 a2 a3 a4) m h = absurd h
one_replies (Line.Enter a0 a1) m h = absurd h
one_replies (Line.TooMany a0 a1 a2 a3) m h = absurd h
one_replies (Line.Send a0 a1 a2 a3 a4) m h = absurd h
one_replies (Line.ReplyOk a0 a1 a2 a3 a4) (Line.Boot b0 b1) h = absurd h
one_replies (Line.ReplyOk a0 a1 a2 a3 a4) (Line.Submit b0 b1 b2 b3 b4) h = absurd h
one_replies (Line.ReplyOk a0 a1 a2 a3 a4) (Line.Log b0 b1 b2) h = absurd h
one_replies (Line.ReplyOk a0 a1 a2 a3 a4) (Line.Exec b0 b1 b2 b3 b4 b5 b6) h = absurd h
one_replies (Line.ReplyOk a0 a1 a2 a3 a4) (Line.Suspend b0 b1) h = absurd h
one_replies (Line.ReplyOk a0 a1 a2 a3 a4) (Line.Promise b0 b1 b2 b3) h = absurd h
one_replies (Line.ReplyOk a0 a1 a2 a3 a4) (Line.Accept b0 b1 b2 b3) h = absurd h
one_replies (Line.ReplyOk a0 a1 a2 a3 a4) (Line.Decide b0 b1 b2 b3 b4) h = absurd h
one_replies (Line.ReplyOk a0 a1 a2 a3 a4) (Line.Enter b0 b1) h = absurd h
one_replies (Line.ReplyOk a0 a1 a2 a3 a4) (Line.TooMany b0 b1 b2 b3) h = absurd h
one_replies (Line.ReplyOk a0 a1 a2 a3 a4) (Line.Send b0 b1 b2 b3 b4) h = absurd h
one_replies (Line.ReplyOk a0 a1 a2 a3 a4) (Line.ReplyOk b0 b1 b2 b3 b4) h = (tt, tt)
one_replies (Line.ReplyOk a0 a1 a2 a3 a4) (Line.ReplyNo b0 b1 b2 b3) h = absurd h
one_replies (Line.ReplyOk a0 a1 a2 a3 a4) (Line.ReplyDropped b0 b1 b2 b3 b4) h = absurd h
one_replies (Line.ReplyOk a0 a1 a2 a3 a4) (Line.Down b0) h = absurd h
one_replies (Line.ReplyOk a0 a1 a2 a3 a4) (Line.Final b0 b1 b2 b3) h = absurd h
one_replies (Line.ReplyOk a0 a1 a2 a3 a4) (Line.Out b0 b1) h = absurd h
one_replies (Line.ReplyOk a0 a1 a2 a3 a4) (Line.Back b0 b1) h = absurd h
one_replies (Line.ReplyNo a0 a1 a2 a3) m h = absurd h
one_replies (Line.ReplyDropped a0 a1 a2 a3 a4) (Line.Boot b0 b1) h = absurd h
one_replies (Line.ReplyDropped a0 a1 a2 a3 a4) (Line.Submit b0 b1 b2 b3 b4) h = absurd h
one_replies (Line.ReplyDropped a0 a1 a2 a3 a4) (Line.Log b0 b1 b2) h = absurd h
one_replies (Line.ReplyDropped a0 a1 a2 a3 a4) (Line.Exec b0 b1 b2 b3 b4 b5 b6) h = absurd h
one_replies (Line.ReplyDropped a0 a1 a2 a3 a4) (Line.Suspend b0 b1) h = absurd h
one_replies (Line.ReplyDropped a0 a1 a2 a3 a4) (Line.Promise b0 b1 b2 b3) h = absurd h
one_replies (Line.ReplyDropped a0 a1 a2 a3 a4) (Line.Accept b0 b1 b2 b3) h = absurd h
one_replies (Line.ReplyDropped a0 a1 a2 a3 a4) (Line.Decide b0 b1 b2 b3 b4) h = absurd h
one_replies (Line.ReplyDropped a0 a1 a2 a3 a4) (Line.Enter b0 b1) h = absurd h
one_replies (Line.ReplyDropped a0 a1 a2 a3 a4) (Line.TooMany b0 b1 b2 b3) h = absurd h
one_replies (Line.ReplyDropped a0 a1 a2 a3 a4) (Line.Send b0 b1 b2 b3 b4) h = absurd h
one_replies (Line.ReplyDropped a0 a1 a2 a3 a4) (Line.ReplyOk b0 b1 b2 b3 b4) h = absurd h
one_replies (Line.ReplyDropped a0 a1 a2 a3 a4) (Line.ReplyNo b0 b1 b2 b3) h = absurd h
one_replies (Line.ReplyDropped a0 a1 a2 a3 a4) (Line.ReplyDropped b0 b1 b2 b3 b4) h = (tt, tt)
one_replies (Line.ReplyDropped a0 a1 a2 a3 a4) (Line.Down b0) h = absurd h
one_replies (Line.ReplyDropped a0 a1 a2 a3 a4) (Line.Final b0 b1 b2 b3) h = absurd h
one_replies (Line.ReplyDropped a0 a1 a2 a3 a4) (Line.Out b0 b1) h = absurd h
one_replies (Line.ReplyDropped a0 a1 a2 a3 a4) (Line.Back b0 b1) h = absurd h
one_replies (Line.Down a0) m h = absurd h
one_replies (Line.Final a0 a1 a2 a3) m h = absurd h
one_replies (Line.Out a0 a1) m h = absurd h
one_replies (Line.Back a0 a1) m h = absurd h

pub one_other_way : (l m : Line) → AreOnOneEntry l m → AreOnOneEntry m l
one_other_way (Line.Boot a0 a1) m h = absurd h
one_other_way (Line.Submit a0 a1 a2 a3 a4) m h = absurd h
one_other_way (Line.Log a0 a1 a2) m h = absurd h
one_other_way (Line.Exec a0 a1 a2 a3 a4 a5 a6) m h = absurd h
one_other_way (Line.Suspend a0 a1) m h = absurd h
one_other_way (Line.Promise a0 a1 a2 a3) m h = absurd h
one_other_way (Line.Accept a0 a1 a2 a3) m h = absurd h
one_other_way (Line.Decide a0 a1 a2 a3 a4) m h = absurd h
one_other_way (Line.Enter a0 a1) m h = absurd h
one_other_way (Line.TooMany a0 a1 a2 a3) m h = absurd h
one_other_way (Line.Send a0 a1 a2 a3 a4) m h = absurd h
one_other_way (Line.ReplyOk a0 a1 a2 a3 a4) (Line.Boot b0 b1) h = absurd h
one_other_way (Line.ReplyOk a0 a1 a2 a3 a4) (Line.Submit b0 b1 b2 b3 b4) h = absurd h
one_other_way (Line.ReplyOk a0 a1 a2 a3 a4) (Line.Log b0 b1 b2) h = absurd h
one_other_way (Line.ReplyOk a0 a1 a2 a3 a4) (Line.Exec b0 b1 b2 b3 b4 b5 b6) h = absurd h
one_other_way (Line.ReplyOk a0 a1 a2 a3 a4) (Line.Suspend b0 b1) h = absurd h
one_other_way (Line.ReplyOk a0 a1 a2 a3 a4) (Line.Promise b0 b1 b2 b3) h = absurd h
one_other_way (Line.ReplyOk a0 a1 a2 a3 a4) (Line.Accept b0 b1 b2 b3) h = absurd h
one_other_way (Line.ReplyOk a0 a1 a2 a3 a4) (Line.Decide b0 b1 b2 b3 b4) h = absurd h
one_other_way (Line.ReplyOk a0 a1 a2 a3 a4) (Line.Enter b0 b1) h = absurd h
one_other_way (Line.ReplyOk a0 a1 a2 a3 a4) (Line.TooMany b0 b1 b2 b3) h = absurd h
one_other_way (Line.ReplyOk a0 a1 a2 a3 a4) (Line.Send b0 b1 b2 b3 b4) h = absurd h
one_other_way (Line.ReplyOk a0 a1 a2 a3 a4) (Line.ReplyOk b0 b1 b2 b3 b4) h = sym h
one_other_way (Line.ReplyOk a0 a1 a2 a3 a4) (Line.ReplyNo b0 b1 b2 b3) h = absurd h
one_other_way (Line.ReplyOk a0 a1 a2 a3 a4) (Line.ReplyDropped b0 b1 b2 b3 b4) h = absurd h
one_other_way (Line.ReplyOk a0 a1 a2 a3 a4) (Line.Down b0) h = absurd h
one_other_way (Line.ReplyOk a0 a1 a2 a3 a4) (Line.Final b0 b1 b2 b3) h = absurd h
one_other_way (Line.ReplyOk a0 a1 a2 a3 a4) (Line.Out b0 b1) h = absurd h
one_other_way (Line.ReplyOk a0 a1 a2 a3 a4) (Line.Back b0 b1) h = absurd h
one_other_way (Line.ReplyNo a0 a1 a2 a3) m h = absurd h
one_other_way (Line.ReplyDropped a0 a1 a2 a3 a4) (Line.Boot b0 b1) h = absurd h
one_other_way (Line.ReplyDropped a0 a1 a2 a3 a4) (Line.Submit b0 b1 b2 b3 b4) h = absurd h
one_other_way (Line.ReplyDropped a0 a1 a2 a3 a4) (Line.Log b0 b1 b2) h = absurd h
one_other_way (Line.ReplyDropped a0 a1 a2 a3 a4) (Line.Exec b0 b1 b2 b3 b4 b5 b6) h = absurd h
one_other_way (Line.ReplyDropped a0 a1 a2 a3 a4) (Line.Suspend b0 b1) h = absurd h
one_other_way (Line.ReplyDropped a0 a1 a2 a3 a4) (Line.Promise b0 b1 b2 b3) h = absurd h
one_other_way (Line.ReplyDropped a0 a1 a2 a3 a4) (Line.Accept b0 b1 b2 b3) h = absurd h
one_other_way (Line.ReplyDropped a0 a1 a2 a3 a4) (Line.Decide b0 b1 b2 b3 b4) h = absurd h
one_other_way (Line.ReplyDropped a0 a1 a2 a3 a4) (Line.Enter b0 b1) h = absurd h
one_other_way (Line.ReplyDropped a0 a1 a2 a3 a4) (Line.TooMany b0 b1 b2 b3) h = absurd h
one_other_way (Line.ReplyDropped a0 a1 a2 a3 a4) (Line.Send b0 b1 b2 b3 b4) h = absurd h
one_other_way (Line.ReplyDropped a0 a1 a2 a3 a4) (Line.ReplyOk b0 b1 b2 b3 b4) h = absurd h
one_other_way (Line.ReplyDropped a0 a1 a2 a3 a4) (Line.ReplyNo b0 b1 b2 b3) h = absurd h
one_other_way (Line.ReplyDropped a0 a1 a2 a3 a4) (Line.ReplyDropped b0 b1 b2 b3 b4) h = (sym h.0, sym h.1)
one_other_way (Line.ReplyDropped a0 a1 a2 a3 a4) (Line.Down b0) h = absurd h
one_other_way (Line.ReplyDropped a0 a1 a2 a3 a4) (Line.Final b0 b1 b2 b3) h = absurd h
one_other_way (Line.ReplyDropped a0 a1 a2 a3 a4) (Line.Out b0 b1) h = absurd h
one_other_way (Line.ReplyDropped a0 a1 a2 a3 a4) (Line.Back b0 b1) h = absurd h
one_other_way (Line.Down a0) m h = absurd h
one_other_way (Line.Final a0 a1 a2 a3) m h = absurd h
one_other_way (Line.Out a0 a1) m h = absurd h
one_other_way (Line.Back a0 a1) m h = absurd h

-- replies on one entry are on the same epoch and stamp
pub one_key : (list : List Entry) (l m : Line) → AreOnOneEntry l m → (x : ℕ) (s : Stamp) → IsReplyOn list x s m → IsReplyOn list x s l
one_key list (Line.Boot a0 a1) m h x s r = absurd h
one_key list (Line.Submit a0 a1 a2 a3 a4) m h x s r = absurd h
one_key list (Line.Log a0 a1 a2) m h x s r = absurd h
one_key list (Line.Exec a0 a1 a2 a3 a4 a5 a6) m h x s r = absurd h
one_key list (Line.Suspend a0 a1) m h x s r = absurd h
one_key list (Line.Promise a0 a1 a2 a3) m h x s r = absurd h
one_key list (Line.Accept a0 a1 a2 a3) m h x s r = absurd h
one_key list (Line.Decide a0 a1 a2 a3 a4) m h x s r = absurd h
one_key list (Line.Enter a0 a1) m h x s r = absurd h
one_key list (Line.TooMany a0 a1 a2 a3) m h x s r = absurd h
one_key list (Line.Send a0 a1 a2 a3 a4) m h x s r = absurd h
one_key list (Line.ReplyOk a0 a1 a2 a3 a4) (Line.Boot b0 b1) h x s r = absurd h
one_key list (Line.ReplyOk a0 a1 a2 a3 a4) (Line.Submit b0 b1 b2 b3 b4) h x s r = absurd h
one_key list (Line.ReplyOk a0 a1 a2 a3 a4) (Line.Log b0 b1 b2) h x s r = absurd h
one_key list (Line.ReplyOk a0 a1 a2 a3 a4) (Line.Exec b0 b1 b2 b3 b4 b5 b6) h x s r = absurd h
one_key list (Line.ReplyOk a0 a1 a2 a3 a4) (Line.Suspend b0 b1) h x s r = absurd h
one_key list (Line.ReplyOk a0 a1 a2 a3 a4) (Line.Promise b0 b1 b2 b3) h x s r = absurd h
one_key list (Line.ReplyOk a0 a1 a2 a3 a4) (Line.Accept b0 b1 b2 b3) h x s r = absurd h
one_key list (Line.ReplyOk a0 a1 a2 a3 a4) (Line.Decide b0 b1 b2 b3 b4) h x s r = absurd h
one_key list (Line.ReplyOk a0 a1 a2 a3 a4) (Line.Enter b0 b1) h x s r = absurd h
one_key list (Line.ReplyOk a0 a1 a2 a3 a4) (Line.TooMany b0 b1 b2 b3) h x s r = absurd h
one_key list (Line.ReplyOk a0 a1 a2 a3 a4) (Line.Send b0 b1 b2 b3 b4) h x s r = absurd h
one_key list (Line.ReplyOk a0 a1 a2 a3 a4) (Line.ReplyOk b0 b1 b2 b3 b4) h x s r = (r.0, ap (slice_get list) h ∙ r.1, r.2, r.3)
one_key list (Line.ReplyOk a0 a1 a2 a3 a4) (Line.ReplyNo b0 b1 b2 b3) h x s r = absurd h
one_key list (Line.ReplyOk a0 a1 a2 a3 a4) (Line.ReplyDropped b0 b1 b2 b3 b4) h x s r = absurd h
one_key list (Line.ReplyOk a0 a1 a2 a3 a4) (Line.Down b0) h x s r = absurd h
one_key list (Line.ReplyOk a0 a1 a2 a3 a4) (Line.Final b0 b1 b2 b3) h x s r = absurd h
one_key list (Line.ReplyOk a0 a1 a2 a3 a4) (Line.Out b0 b1) h x s r = absurd h
one_key list (Line.ReplyOk a0 a1 a2 a3 a4) (Line.Back b0 b1) h x s r = absurd h
one_key list (Line.ReplyNo a0 a1 a2 a3) m h x s r = absurd h
one_key list (Line.ReplyDropped a0 a1 a2 a3 a4) (Line.Boot b0 b1) h x s r = absurd h
one_key list (Line.ReplyDropped a0 a1 a2 a3 a4) (Line.Submit b0 b1 b2 b3 b4) h x s r = absurd h
one_key list (Line.ReplyDropped a0 a1 a2 a3 a4) (Line.Log b0 b1 b2) h x s r = absurd h
one_key list (Line.ReplyDropped a0 a1 a2 a3 a4) (Line.Exec b0 b1 b2 b3 b4 b5 b6) h x s r = absurd h
one_key list (Line.ReplyDropped a0 a1 a2 a3 a4) (Line.Suspend b0 b1) h x s r = absurd h
one_key list (Line.ReplyDropped a0 a1 a2 a3 a4) (Line.Promise b0 b1 b2 b3) h x s r = absurd h
one_key list (Line.ReplyDropped a0 a1 a2 a3 a4) (Line.Accept b0 b1 b2 b3) h x s r = absurd h
one_key list (Line.ReplyDropped a0 a1 a2 a3 a4) (Line.Decide b0 b1 b2 b3 b4) h x s r = absurd h
one_key list (Line.ReplyDropped a0 a1 a2 a3 a4) (Line.Enter b0 b1) h x s r = absurd h
one_key list (Line.ReplyDropped a0 a1 a2 a3 a4) (Line.TooMany b0 b1 b2 b3) h x s r = absurd h
one_key list (Line.ReplyDropped a0 a1 a2 a3 a4) (Line.Send b0 b1 b2 b3 b4) h x s r = absurd h
one_key list (Line.ReplyDropped a0 a1 a2 a3 a4) (Line.ReplyOk b0 b1 b2 b3 b4) h x s r = absurd h
one_key list (Line.ReplyDropped a0 a1 a2 a3 a4) (Line.ReplyNo b0 b1 b2 b3) h x s r = absurd h
one_key list (Line.ReplyDropped a0 a1 a2 a3 a4) (Line.ReplyDropped b0 b1 b2 b3 b4) h x s r = (h.0 ∙ r.0, h.1 ∙ r.1)
one_key list (Line.ReplyDropped a0 a1 a2 a3 a4) (Line.Down b0) h x s r = absurd h
one_key list (Line.ReplyDropped a0 a1 a2 a3 a4) (Line.Final b0 b1 b2 b3) h x s r = absurd h
one_key list (Line.ReplyDropped a0 a1 a2 a3 a4) (Line.Out b0 b1) h x s r = absurd h
one_key list (Line.ReplyDropped a0 a1 a2 a3 a4) (Line.Back b0 b1) h x s r = absurd h
one_key list (Line.Down a0) m h x s r = absurd h
one_key list (Line.Final a0 a1 a2 a3) m h x s r = absurd h
one_key list (Line.Out a0 a1) m h x s r = absurd h
one_key list (Line.Back a0 a1) m h x s r = absurd h
