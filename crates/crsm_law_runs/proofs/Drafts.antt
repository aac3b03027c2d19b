-- Each change of a step keeps the invariant of its drafts.
use Rattle.std.proofs.Common.{◌≡◌, ℕ, zero, suc, ◌+◌, ◌-◌, ◌<◌, ◌≤◌, List, [], ◌∷◌, ◌++◌, length, drop, take, refl, sym, ◌∙◌, ap, subst, inl, inr, Bool, true, false, cond, arith, map}
use Rattle.std.specs.Prelude.{◌⊎◌, IsTrue, Option, Some, None, slice_get, nat_lt, nat_le, find}
use Rattle.std.specs.List.{enumerate_from}
use Rattle.std.specs.Option.{option_map_or}
use Rattle.std.proofs.lemmas.Option.{none-some, same_Some}
use Rattle.crsm_base.specs.Limits.{page_bytes}
use Rattle.crsm_base.specs.Spelling.{entry_bytes}
use Rattle.crsm_spec.specs.Fits.{fits}
use Rattle.crsm_spec.specs.Choice.{when◌then◌otherwise◌}
use Rattle.crsm_spec.specs.Types.{Stamp, Entry, Decision, Rec, Control, Line}
use Rattle.crsm_spec.specs.Lists.{Among}
use Rattle.crsm_spec.specs.Log.{Log, known, decision, executed}
use Rattle.crsm_spec.specs.Lines.{lines_of}
use Rattle.crsm_spec.specs.Replica.{Waiting}
use Rattle.crsm_spec.specs.Collect.{first_page, run_within}
use Rattle.crsm_spec.specs.Controls.{new_entries, page_from}
use Rattle.crsm_spec.specs.World.{World}
use Rattle.crsm_spec.specs.Acts.{Act}
use Rattle.crsm_spec.specs.Run.{TraceLine, traced}
use Rattle.crsm_spec.specs.Safe.{IsExecOf}
use Rattle.crsm_fact_log.specs.Logs.{AllFit, Extends, same, more, Logged}
use Rattle.crsm_fact_log.proofs.Logged.{prepare_known}
use Rattle.crsm_law_agreement.proofs.DecidedLogs.{known_rises}
use Rattle.crsm_law_runs.proofs.Effects.{IsQuiet}
use Rattle.crsm_law_runs.proofs.Words.{IsRight, IsReplyLine, IsSubmitLine, seen_by}
use Rattle.crsm_law_runs.proofs.Holds.{AreApart}

-- ---- lists

pub among_left : {A : Type 0} (xs ys : List A) (a : A) → Among xs a → Among (xs ++ ys) a
among_left (x ∷ xs) ys a (inl e) = inl e
among_left (x ∷ xs) ys a (inr h) = inr (among_left xs ys a h)
among_left [] ys a h = absurd h

pub among_right : {A : Type 0} (xs ys : List A) (a : A) → Among ys a → Among (xs ++ ys) a
among_right [] ys a h = h
among_right (x ∷ xs) ys a h = inr (among_right xs ys a h)

pub among_either : {A : Type 0} (xs ys : List A) (a : A) → Among (xs ++ ys) a → Among xs a ⊎ Among ys a
among_either [] ys a h = inr h
among_either (x ∷ xs) ys a (inl e) = inl (inl e)
among_either (x ∷ xs) ys a (inr h) = elim (among_either xs ys a h) [ inl i ↦ inl (inr i) | inr i ↦ inr i ]

pub among_unmap : {A B : Type 0} (f : A → B) (xs : List A) (b : B) → Among (map f xs) b → (a : A) × Among xs a × (f a ≡ b)
among_unmap f [] b h = absurd h
among_unmap f (x ∷ xs) b (inl e) = (x, inl refl, e)
among_unmap f (x ∷ xs) b (inr h) = let t = among_unmap f xs b h in (t.0, inr t.1, t.2)

pub among_dropped : {A : Type 0} (k : ℕ) (xs : List A) (a : A) → Among (drop k xs) a → Among xs a
among_dropped zero xs a h = h
among_dropped (suc k) [] a h = absurd h
among_dropped (suc k) (x ∷ xs) a h = inr (among_dropped k xs a h)

pub among_taken : {A : Type 0} (k : ℕ) (xs : List A) (a : A) → Among (take k xs) a → Among xs a
among_taken zero xs a h = absurd h
among_taken (suc k) [] a h = absurd h
among_taken (suc k) (x ∷ xs) a (inl e) = inl e
among_taken (suc k) (x ∷ xs) a (inr h) = inr (among_taken k xs a h)

pub placed : {A : Type 0} (xs : List A) (a : A) → Among xs a → (p : ℕ) × (slice_get xs p ≡ Some a)
placed [] a h = absurd h
placed (x ∷ xs) a (inl e) = (0, ap (λ z. Some z) e)
placed (x ∷ xs) a (inr h) = let t = placed xs a h in (suc t.0, t.1)

pub told_line : (act : Act) (l : Line) → (traced (Some act) l).line ≡ l
unfolding traced
told_line act l = refl

-- a line of an act, among those of its list
pub seen_among : (act : Act) (ls : List Line) (t : TraceLine) → Among (seen_by act ls) t → (l : Line) × Among ls l × (t.line ≡ l)
seen_among act ls t h = let u = among_unmap (traced (Some act)) ls t h in (u.0, u.1, ap (λ (z : TraceLine). z.line) (sym u.2) ∙ told_line act u.0)

-- ---- logs

pub no_more : (rec : Rec) (log : Log) → ((f : Entry) → rec ≡ Rec.Prepare f → ⊥) → (e : Entry) → Logged (rec ∷ log) e → Logged log e
no_more rec log h e (inl q) = absurd (h e q)
no_more rec log h e (inr q) = q

pub quiet_logs : (rec : Rec) → IsQuiet rec → (f : Entry) → rec ≡ Rec.Prepare f → ⊥
quiet_logs (Rec.Boot a b) h f e = h
quiet_logs (Rec.Prepare g) h f e = h
quiet_logs (Rec.Commit t) h f e = h
quiet_logs (Rec.Adopt p es) h f e = h
quiet_logs (Rec.Suspend x) h f e = absurd (cc)
quiet_logs (Rec.Promise i b) h f e = absurd (cc)
quiet_logs (Rec.Accept i b d) h f e = absurd (cc)
quiet_logs (Rec.Decide d) h f e = absurd (cc)
quiet_logs (Rec.Enter x) h f e = absurd (cc)

pub quiet_executes : (rec : Rec) (log : Log) → IsQuiet rec → executed (rec ∷ log) ≡ executed log
unfolding executed
quiet_executes (Rec.Boot a b) log h = absurd h
quiet_executes (Rec.Prepare g) log h = absurd h
quiet_executes (Rec.Commit t) log h = absurd h
quiet_executes (Rec.Adopt p es) log h = absurd h
quiet_executes (Rec.Suspend x) log h = refl
quiet_executes (Rec.Promise i b) log h = refl
quiet_executes (Rec.Accept i b d) log h = refl
quiet_executes (Rec.Decide d) log h = refl
quiet_executes (Rec.Enter x) log h = refl

-- what a line of another kind says
pub record IsOtherLine (l : Line) : Type 0 where
  pub right : (end : World) (list : List Entry) → IsRight end list l
  pub submit : IsSubmitLine l → ⊥
  pub reply : IsReplyLine l → ⊥
  pub exec : (x : ℕ) (s : Stamp) → IsExecOf x s l → ⊥

pub quiet_lines : (me : ℕ) (log : Log) (rec : Rec) → IsQuiet rec → (l : Line) → Among (lines_of me log rec) l → IsOtherLine l
unfolding lines_of
quiet_lines me log (Rec.Boot a b) h l a' = absurd h
quiet_lines me log (Rec.Prepare g) h l a' = absurd h
quiet_lines me log (Rec.Commit t) h l a' = absurd h
quiet_lines me log (Rec.Adopt p es) h l a' = absurd h
quiet_lines me log (Rec.Suspend x) h l (inl e) = subst IsOtherLine e (record { right = λ end list. tt; submit = λ z. z; reply = λ z. z; exec = λ x s z. z })
quiet_lines me log (Rec.Promise i b) h l (inl e) = subst IsOtherLine e (record { right = λ end list. tt; submit = λ z. z; reply = λ z. z; exec = λ x s z. z })
quiet_lines me log (Rec.Accept i b d) h l (inl e) = subst IsOtherLine e (record { right = λ end list. tt; submit = λ z. z; reply = λ z. z; exec = λ x s z. z })
quiet_lines me log (Rec.Decide d) h l (inl e) = subst IsOtherLine e (record { right = λ end list. tt; submit = λ z. z; reply = λ z. z; exec = λ x s z. z })
quiet_lines me log (Rec.Enter x) h l (inl e) = subst IsOtherLine e (record { right = λ end list. tt; submit = λ z. z; reply = λ z. z; exec = λ x s z. z })
quiet_lines me log (Rec.Suspend x) h l (inr e) = absurd e
quiet_lines me log (Rec.Promise i b) h l (inr e) = absurd e
quiet_lines me log (Rec.Accept i b d) h l (inr e) = absurd e
quiet_lines me log (Rec.Decide d) h l (inr e) = absurd e
quiet_lines me log (Rec.Enter x) h l (inr e) = absurd e

-- an entry of an earlier epoch was logged before
pub logged_before : (me n : ℕ) (a b : Log) → Extends a b → AllFit me n b → (e : Entry) → Logged b e → e.epoch < known a → Logged a e
logged_before me n a b same h e l lt = l
logged_before me n a b (more {new = c} rec p) h e (inl q) lt =
    let is = (prepare_known me n c e (subst (λ z. IsTrue (fits me n c z)) q h.0)).0 in
    let rises = known_rises me n a c p h.1 in absurd (omega (arith, is, rises, lt))
logged_before me n a b (more {new = c} rec p) h e (inr q) lt = logged_before me n a c p h.1 e q lt

-- ---- pages

run_among : (room : ℕ) (es : List Entry) (z : Entry) → Among (run_within room es) z → Among es z
unfolding run_within
run_among room [] z h = absurd h
run_among room (e ∷ es) z h = go (run_among (room - length (entry_bytes e)) es z) (nat_le (length (entry_bytes e)) room) h
  where
    go : (Among (run_within (room - length (entry_bytes e)) es) z → Among es z) → (c : Bool) → Among (cond c (e ∷ run_within (room - length (entry_bytes e)) es) []) z → Among (e ∷ es) z
    go f true (inl q) = inl q
    go f true (inr q) = inr (f q)
    go f false q = absurd q

pub page_among : (log : Log) (x i from : ℕ) (es : List Entry) (z : Entry) → Control.Page x i es ≡ page_from log from → Among es z → Among (executed log) z
unfolding page_from first_page
page_among log x i from es z e h = among_dropped from (executed log) z (run_among page_bytes (drop from (executed log)) z (subst (λ l. Among l z) (entries_are x i es _ _ _ e) h))
  where
    entries_are : (x i : ℕ) (es : List Entry) (y j : ℕ) (fs : List Entry) → Control.Page x i es ≡ Control.Page y j fs → es ≡ fs
    entries_are x i es y j fs e = cc

pub new_among : (log : Log) (from : ℕ) (es : List Entry) (z : Entry) → Among (new_entries log from es) z → Among es z
unfolding new_entries when◌then◌otherwise◌
new_among log from es z h = go (decision log) h
  where
    new : List Entry
    new = drop (length (executed log) - from) es

    pick : (c : Bool) (k : ℕ) → Among (when c then take k new otherwise new) z → Among es z
    pick true k q = among_dropped (length (executed log) - from) es z (among_taken k new z q)
    pick false k q = among_dropped (length (executed log) - from) es z q

    go : (o : Option Decision) → Among (option_map_or (λ d. when nat_lt (length (executed log)) d.base_len then take (d.base_len - length (executed log)) new otherwise new) o new) z → Among es z
    go None q = among_dropped (length (executed log) - from) es z q
    go (Some d) q = pick (nat_lt (length (executed log)) d.base_len) (d.base_len - length (executed log)) q

-- ---- clients

pub apart_then : (fs : List Waiting) (g : Waiting) → AreApart fs → ((f : Waiting) → Among fs f → f.entry.epoch ≡ g.entry.epoch → f.entry.stamp ≡ g.entry.stamp → ⊥) → AreApart (fs ++ g ∷ [])
apart_then [] g h new = (λ z a. absurd a, tt)
apart_then (f ∷ fs) g h new = (
  λ z a e t. elim (among_either fs (g ∷ []) z a) [
    | inl b ↦ h.0 z b e t
    | inr b ↦ elim b [ inl q ↦ new f (inl refl) (e ∙ ap (λ (y : Waiting). y.entry.epoch) (sym q)) (t ∙ ap (λ (y : Waiting). y.entry.stamp) (sym q)) | inr q ↦ q ]
  ],
  apart_then fs g h.1 (λ z a. new z (inr a)),
)

-- the decision of the known epoch is on record
pub decision_among : (log : Log) (d : Decision) → decision log ≡ Some d → Among log (Rec.Decide d)
unfolding decision
decision_among [] d h = absurd (none-some d h)
decision_among (Rec.Boot a b ∷ log) d h = inr (decision_among log d h)
decision_among (Rec.Prepare e ∷ log) d h = inr (decision_among log d h)
decision_among (Rec.Commit t ∷ log) d h = inr (decision_among log d h)
decision_among (Rec.Adopt p es ∷ log) d h = inr (decision_among log d h)
decision_among (Rec.Suspend x ∷ log) d h = inr (decision_among log d h)
decision_among (Rec.Promise i b ∷ log) d h = inr (decision_among log d h)
decision_among (Rec.Accept i b c ∷ log) d h = inr (decision_among log d h)
decision_among (Rec.Decide c ∷ log) d h = inl (ap Rec.Decide (same_Some c d h))
decision_among (Rec.Enter x ∷ log) d h = inr (decision_among log d h)

-- one of the clients and the others
pub apart_from : (fs : List Waiting) (g : Waiting) (hs : List Waiting) → AreApart (fs ++ g ∷ hs) → (f : Waiting) → Among (fs ++ hs) f → f.entry.epoch ≡ g.entry.epoch → f.entry.stamp ≡ g.entry.stamp → ⊥
apart_from [] g hs h f a e t = h.0 f a (sym e) (sym t)
apart_from (z ∷ fs) g hs h f (inl q) e t = h.0 g (among_right fs (g ∷ hs) g (inl refl)) (ap (λ (y : Waiting). y.entry.epoch) q ∙ e) (ap (λ (y : Waiting). y.entry.stamp) q ∙ t)
apart_from (z ∷ fs) g hs h f (inr a) e t = apart_from fs g hs h.1 f a e t

pub without : (fs : List Waiting) (g : Waiting) (hs : List Waiting) (f : Waiting) → Among (fs ++ hs) f → Among (fs ++ g ∷ hs) f
without [] g hs f a = inr a
without (z ∷ fs) g hs f (inl q) = inl q
without (z ∷ fs) g hs f (inr a) = inr (without fs g hs f a)

pub apart_without : (fs : List Waiting) (g : Waiting) (hs : List Waiting) → AreApart (fs ++ g ∷ hs) → AreApart (fs ++ hs)
apart_without [] g hs h = h.1
apart_without (z ∷ fs) g hs h = (λ f a. h.0 f (without fs g hs f a), apart_without fs g hs h.1)

-- ---- executed entries that are looked for

pub find_at : (test : ℕ × Entry → Bool) (i : ℕ) (xs : List Entry) (p : ℕ × Entry) → find test (enumerate_from i xs) ≡ Some p → (j : ℕ) × (p.0 ≡ i + j) × (slice_get xs j ≡ Some p.1) × IsTrue (test p)
find_at test i [] p h = absurd (none-some p h)
find_at test i (x ∷ xs) p h = go (test (i, x)) refl h (find_at test (i + 1) xs p)
  where
    here : (q : ℕ × Entry) → (i, x) ≡ q → IsTrue (test (i, x)) → (j : ℕ) × (q.0 ≡ i + j) × (slice_get (x ∷ xs) j ≡ Some q.1) × IsTrue (test q)
    here q e t = (0, (let is = ap (λ (z : ℕ × Entry). z.0) e in omega (arith, is)), ap (λ (z : ℕ × Entry). Some z.1) e, subst (λ z. IsTrue (test z)) e t)

    go : (b : Bool) → test (i, x) ≡ b → cond b (Some (i, x)) (find test (enumerate_from (i + 1) xs)) ≡ Some p →
        (find test (enumerate_from (i + 1) xs) ≡ Some p → (j : ℕ) × (p.0 ≡ i + 1 + j) × (slice_get xs j ≡ Some p.1) × IsTrue (test p)) →
        (j : ℕ) × (p.0 ≡ i + j) × (slice_get (x ∷ xs) j ≡ Some p.1) × IsTrue (test p)
    go true t q _ = here p (same_Some (i, x) p q) t
    go false t q others = let r = others q in (suc r.0, (let is = r.1 in omega (arith, is)), r.2, r.3)

pub find_none : (test : ℕ × Entry → Bool) (i : ℕ) (xs : List Entry) → find test (enumerate_from i xs) ≡ None → (j : ℕ) (e : Entry) → slice_get xs j ≡ Some e → (q : ℕ) × (test (q, e) ≡ false)
find_none test i [] h j e at = absurd (none-some e at)
find_none test i (x ∷ xs) h j e at = go (test (i, x)) refl h (find_none test (i + 1) xs) j at
  where
    go : (b : Bool) → test (i, x) ≡ b → cond b (Some (i, x)) (find test (enumerate_from (i + 1) xs)) ≡ None →
        (find test (enumerate_from (i + 1) xs) ≡ None → (j : ℕ) (e : Entry) → slice_get xs j ≡ Some e → (q : ℕ) × (test (q, e) ≡ false)) → (j : ℕ) → slice_get (x ∷ xs) j ≡ Some e → (q : ℕ) × (test (q, e) ≡ false)
    go true t q _ j at = absurd (none-some (i, x) (sym q))
    go false t q _ zero at = (i, subst (λ z. test (i, z) ≡ false) (same_Some x e at) t)
    go false t q others (suc j) at = others q j e at

pub take_prefix : {A : Type 0} (xs ys : List A) (p : ℕ) → p ≤ length xs → take p (xs ++ ys) ≡ take p xs
take_prefix xs ys zero le = refl
take_prefix [] ys (suc p) le = absurd (omega (arith, le))
take_prefix (x ∷ xs) ys (suc p) le = ap (λ l. x ∷ l) (take_prefix xs ys p (omega (arith, le)))

pub get_prefix : {A : Type 0} (xs ys : List A) (p : ℕ) (x : A) → slice_get xs p ≡ Some x → slice_get (xs ++ ys) p ≡ Some x
get_prefix [] ys p x h = absurd (none-some x h)
get_prefix (z ∷ xs) ys zero x h = h
get_prefix (z ∷ xs) ys (suc p) x h = get_prefix xs ys p x h
