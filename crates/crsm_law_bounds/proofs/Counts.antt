-- Records that are counted, and drafts that have more of them.
use Rattle.std.proofs.Common.{◌≡◌, ℕ, suc, ◌+◌, ◌≤◌, List, [], ◌∷◌, ◌++◌, length, refl, ◌∙◌, ap, Bool, true, false, cond, arith}
use Rattle.std.specs.Prelude.{Option, Some, None, ◌==◌, fold, filter}
use Rattle.std.specs.Option.{option_map_or}
use Rattle.std.proofs.lemmas.List.{length-append}
use Rattle.crsm_base.specs.Order.{stamp_lt}
use Rattle.crsm_spec.specs.Choice.{when◌then◌otherwise◌}
use Rattle.crsm_spec.specs.Clock.{u64_max}
use Rattle.crsm_spec.specs.Types.{Stamp, Entry, Rec, Control}
use Rattle.crsm_spec.specs.Log.{Log, known, decision, logged, logged_in, unexecuted, above, last_stamp, with_entry}
use Rattle.crsm_spec.specs.Replica.{others}
use Rattle.crsm_spec.specs.Draft.{Draft, keep, send_control, send_to_each, send_to_all, send_decision, send_retrieve, retrieve}

-- ---- counts

-- records that are no commits
abbrev pub others_in : Log → ℕ
others_in [] = 0
others_in (Rec.Commit s ∷ log) = others_in log
others_in (_ ∷ log) = suc (others_in log)

abbrev pub commits_in : Log → ℕ
commits_in [] = 0
commits_in (Rec.Commit s ∷ log) = suc (commits_in log)
commits_in (_ ∷ log) = commits_in log

pub all_in : (log : Log) → length log ≡ others_in log + commits_in log
all_in [] = refl
all_in (Rec.Boot me n ∷ log) = let t = all_in log in omega (arith, t)
all_in (Rec.Prepare e ∷ log) = let t = all_in log in omega (arith, t)
all_in (Rec.Commit s ∷ log) = let t = all_in log in omega (arith, t)
all_in (Rec.Adopt place es ∷ log) = let t = all_in log in omega (arith, t)
all_in (Rec.Suspend x ∷ log) = let t = all_in log in omega (arith, t)
all_in (Rec.Promise i b ∷ log) = let t = all_in log in omega (arith, t)
all_in (Rec.Accept i b d ∷ log) = let t = all_in log in omega (arith, t)
all_in (Rec.Decide d ∷ log) = let t = all_in log in omega (arith, t)
all_in (Rec.Enter x ∷ log) = let t = all_in log in omega (arith, t)

-- logged entries are no more than these records
with_length : (e : Entry) (es : List Entry) → length (with_entry e es) ≡ suc (length es)
unfolding with_entry
with_length e [] = refl
with_length e (f ∷ es) = go (with_length e es) (stamp_lt e.stamp f.stamp)
  where
    go : length (with_entry e es) ≡ suc (length es) → (c : Bool) → length (cond c (e ∷ f ∷ es) (f ∷ with_entry e es)) ≡ suc (suc (length es))
    go h true = refl
    go h false = ap suc h

logged_few : (x : ℕ) (log : Log) → length (logged_in x log) ≤ others_in log
unfolding logged_in
logged_few x [] = omega arith
logged_few x (Rec.Prepare e ∷ log) = go (logged_few x log) (e.epoch == x) (with_length e (logged_in x log))
  where
    go : length (logged_in x log) ≤ others_in log → (c : Bool) → length (with_entry e (logged_in x log)) ≡ suc (length (logged_in x log)) → length (cond c (with_entry e (logged_in x log)) (logged_in x log)) ≤ suc (others_in log)
    go h true w = omega (arith, h, w)
    go h false w = omega (arith, h)
logged_few x (Rec.Boot me n ∷ log) = let t = logged_few x log in omega (arith, t)
logged_few x (Rec.Commit s ∷ log) = logged_few x log
logged_few x (Rec.Adopt place es ∷ log) = let t = logged_few x log in omega (arith, t)
logged_few x (Rec.Suspend y ∷ log) = let t = logged_few x log in omega (arith, t)
logged_few x (Rec.Promise i b ∷ log) = let t = logged_few x log in omega (arith, t)
logged_few x (Rec.Accept i b d ∷ log) = let t = logged_few x log in omega (arith, t)
logged_few x (Rec.Decide d ∷ log) = let t = logged_few x log in omega (arith, t)
logged_few x (Rec.Enter y ∷ log) = let t = logged_few x log in omega (arith, t)

filter_few : (p : Entry → Bool) (es : List Entry) → length (filter p es) ≤ length es
filter_few p [] = omega arith
filter_few p (e ∷ es) = go (filter_few p es) (p e)
  where
    go : length (filter p es) ≤ length es → (c : Bool) → length (cond c (e ∷ filter p es) (filter p es)) ≤ suc (length es)
    go h true = omega (arith, h)
    go h false = omega (arith, h)

above_few : (o : Option Stamp) (es : List Entry) → length (above o es) ≤ length es
unfolding above
above_few None es = omega arith
above_few (Some s) es = filter_few (λ e. stamp_lt s e.stamp) es

pub unexecuted_few : (log : Log) → length (unexecuted log) ≤ others_in log
unfolding unexecuted logged
unexecuted_few log = let a = above_few (last_stamp log) (logged_in (known log) log) in let b = logged_few (known log) log in omega (arith, a, b)

-- ---- what a change of a draft keeps

-- y has at most so many records more than x, and no commit among them
pub record Grows (most : ℕ) (x y : Draft) : Type 0 where
  pub others : others_in y.replica.log ≤ others_in x.replica.log + most
  pub commits : commits_in y.replica.log ≡ commits_in x.replica.log
  pub batch : length y.replica.log + length x.batch ≡ length x.replica.log + length y.batch

-- nothing is kept
pub record IsSame (x y : Draft) : Type 0 where
  pub log : y.replica.log ≡ x.replica.log
  pub batch : y.batch ≡ x.batch

pub quiet : {most : ℕ} {x y : Draft} → IsSame x y → Grows most x y
quiet {most} {x} {y} s =
    let o = ap others_in s.log in
    let l = ap length s.log in
    let b = ap length s.batch in
    record { others = omega (arith, o); commits = ap commits_in s.log; batch = omega (arith, l, b) }

pub same_then : {x y z : Draft} → IsSame x y → IsSame y z → IsSame x z
same_then p q = record { log = q.log ∙ p.log; batch = q.batch ∙ p.batch }

pub stay : {most : ℕ} (x : Draft) → Grows most x x
stay x = quiet (record { log = refl; batch = refl })

pub and_then : (c d : ℕ) {x y z : Draft} → Grows c x y → Grows d y z → Grows (c + d) x z
and_then c d {x} {y} {z} p q =
    let a = p.others in
    let b = q.others in
    let s = p.batch in
    let t = q.batch in
    record { others = omega (arith, a, b); commits = q.commits ∙ p.commits; batch = omega (arith, s, t) }

pub more : (c d : ℕ) {x y : Draft} → c ≤ d → Grows c x y → Grows d x y
more c d le p = let a = p.others in record { others = omega (arith, a, le); commits = p.commits; batch = p.batch }

pub on_when : {most : ℕ} {x a b : Draft} (c : Bool) → Grows most x a → Grows most x b → Grows most x (when c then a otherwise b)
unfolding when◌then◌otherwise◌
on_when true p q = p
on_when false p q = q

pub on_option : {most : ℕ} {A : Type 0} {x : Draft} (f : A → Draft) (y : Draft) (o : Option A) → ((a : A) → Grows most x (f a)) → Grows most x y → Grows most x (option_map_or f o y)
on_option f y None h q = q
on_option f y (Some a) h q = h a

pub on_each : {A : Type 0} (f : Draft → A → Draft) (xs : List A) → ((y : Draft) (a : A) → IsSame y (f y a)) → (x : Draft) → IsSame x (fold f x xs)
on_each f [] h x = record { log = refl; batch = refl }
on_each f (a ∷ xs) h x = same_then (h x a) (on_each f xs h (f x a))

-- a record that is no commit
abbrev IsOther : Rec → Type 0
IsOther (Rec.Commit s) = ⊥
IsOther _ = Unit {0}

other_one : (rec : Rec) (log : Log) → IsOther rec → (others_in (rec ∷ log) ≡ suc (others_in log)) × (commits_in (rec ∷ log) ≡ commits_in log)
other_one (Rec.Commit s) log h = absurd h
other_one (Rec.Boot me n) log h = (refl, refl)
other_one (Rec.Prepare e) log h = (refl, refl)
other_one (Rec.Adopt place es) log h = (refl, refl)
other_one (Rec.Suspend x) log h = (refl, refl)
other_one (Rec.Promise i b) log h = (refl, refl)
other_one (Rec.Accept i b d) log h = (refl, refl)
other_one (Rec.Decide d) log h = (refl, refl)
other_one (Rec.Enter x) log h = (refl, refl)

pub one_more : (rec : Rec) (x y : Draft) → IsOther rec → y.replica.log ≡ rec ∷ x.replica.log → y.batch ≡ x.batch ++ rec ∷ [] → Grows 1 x y
one_more rec x y h l b =
    let t = other_one rec x.replica.log h in
    let o = ap others_in l ∙ t.0 in
    let len = ap length l in
    let bl = ap length b ∙ length-append x.batch (rec ∷ []) in
    record { others = omega (arith, o); commits = ap commits_in l ∙ t.1; batch = omega (arith, len, bl) }

pub keeps : (rec : Rec) (x : Draft) → IsOther rec → Grows 1 x (keep rec x)
unfolding keep
keeps rec x h = one_more rec x (keep rec x) h refl refl

pub same_when : {x a b : Draft} (c : Bool) → IsSame x a → IsSame x b → IsSame x (when c then a otherwise b)
unfolding when◌then◌otherwise◌
same_when true p q = p
same_when false p q = q

-- ---- sending

pub send_same : (c : Control) (x : Draft) (k : ℕ) → IsSame x (send_control c x k)
unfolding send_control
send_same c x k = same_when (x.replica.made == u64_max) (record { log = refl; batch = refl }) (record { log = refl; batch = refl })

pub sends_control : {most : ℕ} (c : Control) (k : ℕ) (x : Draft) → Grows most x (send_control c x k)
sends_control c k x = quiet (send_same c x k)

pub sends_each : {most : ℕ} (ks : List ℕ) (c : Control) (x : Draft) → Grows most x (send_to_each ks c x)
unfolding send_to_each
sends_each ks c x = quiet (on_each (send_control c) ks (λ y k. send_same c y k) x)

pub sends_all : {most : ℕ} (c : Control) (x : Draft) → Grows most x (send_to_all c x)
unfolding send_to_all
sends_all c x = sends_each (others x.replica) c x

pub sends_decision : {most : ℕ} (k : ℕ) (x : Draft) → Grows most x (send_decision k x)
unfolding send_decision
sends_decision k x = on_option _ x (decision x.replica.log) (λ d. sends_control (Control.Decide d) k x) (stay x)

pub sends_retrieve : {most : ℕ} (k : ℕ) (x : Draft) → Grows most x (send_retrieve k x)
unfolding send_retrieve
sends_retrieve k x = sends_control (retrieve x) k x
