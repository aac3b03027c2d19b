-- Logs while one epoch is known.
use Rattle.std.proofs.Common.{subst, ◌+◌, ◌≡◌, ℕ, ◌≤◌, List, [], ◌∷◌, length, refl, sym, ◌∙◌, ap, inl, inr, Bool, true, false, cond, arith, length-append}
use Rattle.std.specs.Prelude.{◌⊎◌, IsTrue, option_to_list, ◌==◌}
use Rattle.std.proofs.lemmas.Bool.{and_parts, false≢true, eqb-true, eq-eqb, or_cases}
use Rattle.crsm_base.specs.Order.{stamp_lt}
use Rattle.crsm_spec.specs.Types.{Entry, Decision, Rec}
use Rattle.crsm_spec.specs.Lists.{Among, has}
use Rattle.crsm_spec.specs.Log.{Log, known, start, decision, members, logged_in, with_entry, has_entered, is_enter, live, executed, entry_of}
use Rattle.crsm_spec.specs.Fits.{fits}
use Rattle.crsm_fact_log.specs.Logs.{Extends, same, more, AllFit, Logged}
use Rattle.crsm_law_collection.proofs.Orderly.{enter_fit}

-- ---- records that execute nothing

abbrev pub IsIdle : Rec → Type 0
IsIdle (Rec.Commit s) = ⊥
IsIdle (Rec.Adopt place es) = ⊥
IsIdle (Rec.Decide d) = ⊥
IsIdle _ = Unit {0}

pub idle_executed : (rec : Rec) (log : Log) → IsIdle rec → executed (rec ∷ log) ≡ executed log
unfolding executed
idle_executed (Rec.Boot me n) log h = refl
idle_executed (Rec.Prepare e) log h = refl
idle_executed (Rec.Commit s) log h = absurd h
idle_executed (Rec.Adopt place es) log h = absurd h
idle_executed (Rec.Suspend x) log h = refl
idle_executed (Rec.Promise i b) log h = refl
idle_executed (Rec.Accept i b d) log h = refl
idle_executed (Rec.Decide d) log h = absurd h
idle_executed (Rec.Enter x) log h = refl

pub idle_known : (rec : Rec) (log : Log) → IsIdle rec → known (rec ∷ log) ≡ known log
unfolding known decision
idle_known (Rec.Boot me n) log h = refl
idle_known (Rec.Prepare e) log h = refl
idle_known (Rec.Commit s) log h = absurd h
idle_known (Rec.Adopt place es) log h = absurd h
idle_known (Rec.Suspend x) log h = refl
idle_known (Rec.Promise i b) log h = refl
idle_known (Rec.Accept i b d) log h = refl
idle_known (Rec.Decide d) log h = absurd h
idle_known (Rec.Enter x) log h = refl

-- ---- a record, and what lies below it

pub record StandsOn (rec : Rec) (log : Log) : Type 0 where
  pub rest : Log
  pub earlier : Extends (rec ∷ rest) log

pub stands_on : (log : Log) (rec : Rec) → Among log rec → StandsOn rec log
stands_on [] rec a = absurd a
stands_on (r ∷ log) rec (inl e) = record { rest = log; earlier = subst (λ z. Extends (z ∷ log) (r ∷ log)) e same }
stands_on (r ∷ log) rec (inr a) = let t = stands_on log rec a in record { rest = t.rest; earlier = more r t.earlier }

pub start_decide : (d : Decision) (log : Log) → start (Rec.Decide d ∷ log) ≡ d.base_len + length d.tail
unfolding start decision
start_decide d log = refl

-- ---- an epoch that was entered

-- who has entered it was a member of it
pub record HasEntered (n k e : ℕ) (log : Log) : Type 0 where
  pub old : Log
  pub earlier : Extends old log
  pub epoch : known old ≡ e
  pub member : IsTrue (has (members n old) k)

enters_as : (k n : ℕ) (log : Log) (x : ℕ) → IsTrue (fits k n log (Rec.Enter x)) → (x ≡ known log) × IsTrue (has (members n log) k)
unfolding fits
enters_as k n log x h =
    let a = and_parts _ _ h in
    let b = and_parts _ _ a.0 in
    let c = and_parts _ (has (members n log) k) b.0 in
    let d = and_parts _ (x == known log) c.0 in
    (eqb-true x (known log) d.1, c.1)

later_still : (n k e : ℕ) (rec : Rec) (log : Log) → HasEntered n k e log → HasEntered n k e (rec ∷ log)
later_still n k e rec log h = record { old = h.old; earlier = more rec h.earlier; epoch = h.epoch; member = h.member }

pub entered_as : (k n e : ℕ) (log : Log) → AllFit k n log → IsTrue (has_entered e log) → HasEntered n k e log
unfolding has_entered is_enter
entered_as k n e [] h t = absurd (false≢true t)
entered_as k n e (Rec.Enter x ∷ log) h t = elim (or_cases (x == e) _ t) [
  | inl q ↦ (let f = enters_as k n log x h.0 in record { old = log; earlier = more (Rec.Enter x) same; epoch = sym f.0 ∙ eqb-true x e q; member = f.1 })
  | inr q ↦ later_still n k e (Rec.Enter x) log (entered_as k n e log h.1 q)
]
entered_as k n e (Rec.Decide d ∷ log) h t = later_still n k e (Rec.Decide d) log (entered_as k n e log h.1 t)
entered_as k n e (Rec.Boot me m ∷ log) h t = later_still n k e (Rec.Boot me m) log (entered_as k n e log h.1 t)
entered_as k n e (Rec.Prepare f ∷ log) h t = later_still n k e (Rec.Prepare f) log (entered_as k n e log h.1 t)
entered_as k n e (Rec.Commit s ∷ log) h t = later_still n k e (Rec.Commit s) log (entered_as k n e log h.1 t)
entered_as k n e (Rec.Adopt place es ∷ log) h t = later_still n k e (Rec.Adopt place es) log (entered_as k n e log h.1 t)
entered_as k n e (Rec.Suspend x ∷ log) h t = later_still n k e (Rec.Suspend x) log (entered_as k n e log h.1 t)
entered_as k n e (Rec.Promise i b ∷ log) h t = later_still n k e (Rec.Promise i b) log (entered_as k n e log h.1 t)
entered_as k n e (Rec.Accept i b d ∷ log) h t = later_still n k e (Rec.Accept i b d) log (entered_as k n e log h.1 t)

-- who runs has executed what the epoch begins with
pub live_long : (me n : ℕ) (log : Log) → AllFit me n log → IsTrue (live log) → start log ≤ length (executed log)
unfolding live start decision executed
live_long me n [] h l = absurd (false≢true l)
live_long me n (Rec.Enter x ∷ log) h l = let e = enter_fit me n log x h.0 in omega (arith, e)
live_long me n (Rec.Boot m k ∷ log) h l = absurd (false≢true l)
live_long me n (Rec.Decide d ∷ log) h l = absurd (false≢true l)
live_long me n (Rec.Prepare f ∷ log) h l = live_long me n log h.1 l
live_long me n (Rec.Commit s ∷ log) h l = let t = live_long me n log h.1 l in let a = length-append (executed log) (option_to_list (entry_of log s)) in omega (arith, t, a)
live_long me n (Rec.Adopt place es ∷ log) h l = let t = live_long me n log h.1 l in let a = length-append (executed log) es in omega (arith, t, a)
live_long me n (Rec.Suspend x ∷ log) h l = live_long me n log h.1 l
live_long me n (Rec.Promise i b ∷ log) h l = live_long me n log h.1 l
live_long me n (Rec.Accept i b d ∷ log) h l = live_long me n log h.1 l

-- ---- logged entries of an epoch

with_has : (e z : Entry) (es : List Entry) → (e ≡ z) ⊎ Among es z → Among (with_entry e es) z
unfolding with_entry
with_has e z [] h = h
with_has e z (f ∷ es) h = go (λ q. with_has e z es q) (stamp_lt e.stamp f.stamp) h
  where
    go : ((e ≡ z) ⊎ Among es z → Among (with_entry e es) z) → (b : Bool) → (e ≡ z) ⊎ Among (f ∷ es) z → Among (cond b (e ∷ f ∷ es) (f ∷ with_entry e es)) z
    go k true q = q
    go k false (inl q) = inr (k (inl q))
    go k false (inr (inl q)) = inl q
    go k false (inr (inr q)) = inr (k (inr q))

pub is_logged : (x : ℕ) (log : Log) (z : Entry) → Logged log z → z.epoch ≡ x → Among (logged_in x log) z
unfolding logged_in
is_logged x [] z h e = absurd h
is_logged x (Rec.Prepare f ∷ log) z h e = go (λ q. is_logged x log z q e) (f.epoch == x) refl h
  where
    same_entry : Rec.Prepare f ≡ Rec.Prepare z → f ≡ z
    same_entry q = cc

    go : (Logged log z → Among (logged_in x log) z) → (b : Bool) → (f.epoch == x) ≡ b → (Rec.Prepare f ≡ Rec.Prepare z) ⊎ Logged log z → Among (cond b (with_entry f (logged_in x log)) (logged_in x log)) z
    go k true q (inl w) = with_has f z (logged_in x log) (inl (same_entry w))
    go k true q (inr w) = with_has f z (logged_in x log) (inr (k w))
    go k false q (inl w) = absurd (false≢true (sym q ∙ eq-eqb f.epoch x (ap (λ y. y.epoch) (same_entry w) ∙ e)))
    go k false q (inr w) = k w
is_logged x (Rec.Boot me n ∷ log) z (inl h) e = absurd (cc)
is_logged x (Rec.Boot me n ∷ log) z (inr h) e = is_logged x log z h e
is_logged x (Rec.Commit s ∷ log) z (inl h) e = absurd (cc)
is_logged x (Rec.Commit s ∷ log) z (inr h) e = is_logged x log z h e
is_logged x (Rec.Adopt place es ∷ log) z (inl h) e = absurd (cc)
is_logged x (Rec.Adopt place es ∷ log) z (inr h) e = is_logged x log z h e
is_logged x (Rec.Suspend y ∷ log) z (inl h) e = absurd (cc)
is_logged x (Rec.Suspend y ∷ log) z (inr h) e = is_logged x log z h e
is_logged x (Rec.Promise i b ∷ log) z (inl h) e = absurd (cc)
is_logged x (Rec.Promise i b ∷ log) z (inr h) e = is_logged x log z h e
is_logged x (Rec.Accept i b d ∷ log) z (inl h) e = absurd (cc)
is_logged x (Rec.Accept i b d ∷ log) z (inr h) e = is_logged x log z h e
is_logged x (Rec.Decide d ∷ log) z (inl h) e = absurd (cc)
is_logged x (Rec.Decide d ∷ log) z (inr h) e = is_logged x log z h e
is_logged x (Rec.Enter y ∷ log) z (inl h) e = absurd (cc)
is_logged x (Rec.Enter y ∷ log) z (inr h) e = is_logged x log z h e
